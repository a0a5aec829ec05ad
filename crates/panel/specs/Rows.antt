-- States with a value out of its range, most of them just out of it, and states with one just in it, as rows.
use Rattle.std.specs.Prelude.{ℕ, ◌≡◌, List, [], ◌∷◌, ℤ, pos, negsuc, set}
use Rattle.machine.specs.declared.Carrier.{Carrier}
use Rattle.machine.specs.declared.State.{State}
use Rattle.machine.specs.Limits.{limit_most}
use Rattle.machine.specs.Machine.{empty_state, changed, Each}
use Rattle.panel.specs.Panel.{panel_step}

-- the empty state at limit 8
abbrev empty : State
empty = empty_state limit_most

-- but for its racking; at a limit, for one hook; for carrier 10
abbrev pub with_racking : ℤ → State
with_racking z = changed empty (record { 0 = z }) empty.loops empty.carriers

abbrev pub with_hook : ℕ → ℕ → ℕ → State
with_hook limit i n = changed (empty_state limit) empty.racking (set empty.loops i n) empty.carriers

abbrev with_carrier_at : ℕ → Carrier → State
with_carrier_at i c = changed empty empty.racking empty.loops (set empty.carriers i c)

abbrev pub with : ℕ → ℕ → ℤ → ℕ → ℕ → State
with active side z bed n = with_carrier_at 9 (record { active = active; side = side; slot = record { 0 = z }; needle = record { 0 = bed; 1 = n } })

-- active 2 for the carrier at i
abbrev pub strange_at : ℕ → State
strange_at i = with_carrier_at i (record { active = 2; side = 0; slot = record { 0 = pos 0 }; needle = record { 0 = 0; 1 = 0 } })

-- foul; negsuc n is −1 − n
abbrev pub outside : List State
outside =
    with_racking (pos 9) ∷ with_racking (negsuc 8) ∷ with_hook 8 0 9 ∷ with_hook 8 249 9 ∷ with_hook 8 250 9 ∷ with_hook 8 499 9
    -- 02, W2: 'A lent state with a limit out of range, or more loops than its limit'
    ∷ empty_state 0 ∷ empty_state 9 ∷ empty_state 255 ∷ with_hook 0 0 1 ∷ with_hook 9 0 9
    ∷ with_hook 1 0 2 ∷ with_hook 1 499 2 ∷ with_hook 1 250 8 ∷ with_hook 4 0 5 ∷ with_hook 4 249 5 ∷ with_hook 4 499 5 ∷ with_hook 7 250 8
    -- a hook between
    ∷ with_hook 4 100 5 ∷ with_hook 8 300 9
    -- each carrier is looked at
    ∷ strange_at 0 ∷ strange_at 1 ∷ strange_at 4 ∷ strange_at 8
    -- activity, side, slot, bed, needle
    ∷ with 2 0 (pos 0) 0 0 ∷ with 1 3 (pos 0) 0 0 ∷ with 1 0 (pos 259) 0 0 ∷ with 1 0 (negsuc 8) 0 0 ∷ with 1 1 (pos 0) 2 0 ∷ with 1 2 (pos 0) 1 250
    -- a needle without an attachment
    ∷ with 1 0 (pos 0) 1 0 ∷ with 1 0 (pos 0) 0 1
    -- an inactive carrier with a slot, with a needle, attached
    ∷ with 0 0 (pos 1) 0 0 ∷ with 0 0 (negsuc 0) 0 0 ∷ with 0 0 (pos 0) 1 0 ∷ with 0 0 (pos 0) 0 1 ∷ with 0 1 (pos 0) 0 0 ∷ with 0 2 (pos 0) 0 0 ∷ []

abbrev pub inside : List State
inside =
    with_racking (pos 8) ∷ with_racking (negsuc 7) ∷ with_hook 8 0 8 ∷ with_hook 8 499 8
    ∷ empty_state 1 ∷ empty_state 8 ∷ with_hook 1 0 1 ∷ with_hook 1 499 1 ∷ with_hook 4 0 4 ∷ with_hook 4 499 4
    -- each hook by itself: two that are full, one above the other
    ∷ changed (empty_state 1) empty.racking (set (set empty.loops 10 1) 260 1) empty.carriers
    ∷ with 1 0 (pos 258) 0 0 ∷ with 1 0 (negsuc 7) 0 0 ∷ with 1 1 (pos 0) 0 0 ∷ with 1 2 (pos 258) 1 249 ∷ []

-- with no byte to step by, 15 for the former and 4 for the latter
pub record RangeRows : Type 0 where
  pub foul : Each (λ (s : State). (panel_step s []).number ≡ 15) outside
  pub sound : Each (λ (s : State). (panel_step s []).number ≡ 4) inside
