-- The walk over the hooks (02, W4), single steps from a state and programs stepped record by record, as rows.
use Rattle.std.specs.Prelude.{ℕ, ◌≡◌, Bool, true, false, List, [], ◌∷◌, ◌++◌, ℤ, pos, negsuc, set, replicate}
use Rattle.machine.specs.declared.State.{State}
use Rattle.machine.specs.Machine.{empty_state}
use Rattle.machine.specs.Walk.{walk_of}
use Rattle.panel.specs.Panel.{panel_step}
use Rattle.panel.specs.Rows.{with_racking, with_hook, with}
use Rattle.pieces.specs.Spelled.{f, b, left, right, rack, drop, xfer, bring_in, take_out, miss, tuck, knit, plated_tuck, plated_knit}

-- ---- the walk: loops, whether there is none, hooks looked at
abbrev hooks : List ℕ
hooks = replicate 500 0

abbrev pub walks : List (List ℕ × Bool × ℕ)
walks =
    -- a loop on the first hook, on the last, none; at both sides of the border of the beds
    (set hooks 0 1, false, 1) ∷ (set hooks 499 1, false, 500) ∷ (hooks, true, 500)
    ∷ (set hooks 1 1, false, 2) ∷ (set hooks 249 1, false, 250) ∷ (set hooks 250 1, false, 251) ∷ (set hooks 498 1, false, 499)
    -- the first of several, whatever their counts
    ∷ (set (set hooks 10 1) 260 8, false, 11) ∷ (set (set hooks 0 8) 499 1, false, 1) ∷ (set (set hooks 498 2) 499 1, false, 499) ∷ (set hooks 300 255, false, 301)
    -- loops of any length
    ∷ ([], true, 0) ∷ (0 ∷ [], true, 1) ∷ (1 ∷ [], false, 1) ∷ (0 ∷ 0 ∷ 0 ∷ [], true, 3) ∷ (0 ∷ 0 ∷ 5 ∷ [], false, 3) ∷ (0 ∷ 7 ∷ 5 ∷ [], false, 2) ∷ (3 ∷ 0 ∷ 0 ∷ [], false, 1) ∷ []

abbrev pub WalksSo : List ℕ × Bool × ℕ → Type 0
WalksSo r = walk_of r.0 ≡ record { none = r.1; looked = r.2 }

-- ---- single steps: a state, bytes, and number, complete and length
abbrev empty : State
empty = empty_state 8

-- carrier 10 parked at a slot; attached on the right of f.9, beside it
abbrev parked : ℤ → State
parked z = with 1 0 z 0 0

abbrev attached : State
attached = with 1 2 (pos 10) 0 9

abbrev pub steps : List (State × List ℕ × ℕ × ℕ × ℕ)
steps =
    -- done on an empty machine: it stays complete, or not
    (empty, rack 0, 0, 1, 2) ∷ (empty, drop (f 5), 0, 1, 3) ∷ (empty, drop (b 249), 0, 1, 3) ∷ (empty, xfer (f 5) 5, 0, 1, 4)
    ∷ (empty, rack 1, 0, 0, 2) ∷ (empty, rack 255, 0, 0, 2) ∷ (empty, bring_in right (f 10) 3, 0, 0, 5) ∷ (empty, bring_in left (f 255) 1, 5, 1, 0)
    -- what follows the record is not looked at
    ∷ (empty, rack 0 ++ rack 1, 0, 1, 2) ∷ (empty, rack 1 ++ rack 0, 0, 0, 2) ∷ (empty, drop (f 5) ++ bring_in right (f 10) 3, 0, 1, 3) ∷ (empty, rack 0 ++ (0 ∷ []), 0, 1, 2)
    -- refused on an empty machine: it is complete
    ∷ (empty, 0 ∷ [], 3, 1, 0) ∷ (empty, 12 ∷ rack 0, 3, 1, 0) ∷ (empty, [], 4, 1, 0) ∷ (empty, 1 ∷ [], 4, 1, 0) ∷ (empty, 8 ∷ 1 ∷ 0 ∷ 10 ∷ [], 4, 1, 0)
    ∷ (empty, rack 9, 5, 1, 0) ∷ (empty, knit right (f 10) 3, 7, 1, 0) ∷ (empty, take_out right (f 10) 3, 7, 1, 0) ∷ (empty, xfer (f 5) 6, 10, 1, 0) ∷ (empty, plated_knit right (f 5) 2 2, 16, 1, 0)
    -- at that state's limit
    ∷ (empty_state 1, rack 0, 0, 1, 2) ∷ (empty_state 1, [], 4, 1, 0) ∷ (empty_state 3, drop (f 5), 0, 1, 3) ∷ (empty_state 3, plated_tuck right (f 5) 2 2, 16, 1, 0)
    -- 15: no, though nothing but the limit is amiss
    ∷ (empty_state 0, rack 0, 15, 0, 0) ∷ (empty_state 9, rack 0, 15, 0, 0) ∷ (empty_state 255, [], 15, 0, 0) ∷ (with_racking (pos 9), rack 0, 15, 0, 0) ∷ (with_hook 8 0 9, drop (f 0), 15, 0, 0) ∷ (with 0 0 (pos 1) 0 0, [], 15, 0, 0)
    -- one hook holds a loop, the first or the last; it is dropped, or another is
    ∷ (with_hook 8 0 1, rack 0, 0, 0, 2) ∷ (with_hook 8 499 1, rack 0, 0, 0, 2) ∷ (with_hook 8 0 1, drop (f 0), 0, 1, 3) ∷ (with_hook 8 499 8, drop (b 249), 0, 1, 3)
    ∷ (with_hook 8 499 1, drop (f 249), 0, 0, 3) ∷ (with_hook 8 250 1, drop (b 0), 0, 1, 3) ∷ (with_hook 8 249 1, xfer (f 249) 249, 0, 0, 4)
    ∷ (with_hook 8 499 1, [], 4, 0, 0) ∷ (with_hook 8 0 1, 0 ∷ [], 3, 0, 0) ∷ (with_hook 1 499 1, knit right (f 10) 3, 7, 0, 0)
    -- the racking comes back to 0, or does not
    ∷ (with_racking (pos 1), rack 0, 0, 1, 2) ∷ (with_racking (negsuc 7), rack 0, 0, 1, 2) ∷ (with_racking (pos 1), rack 2, 0, 0, 2) ∷ (with_racking (pos 1), drop (f 0), 0, 0, 3) ∷ (with_racking (negsuc 0), [], 4, 0, 0)
    -- the last carrier goes out, or passes by; refused, it is still in
    ∷ (parked (pos 10), take_out right (f 9) 10, 0, 1, 5) ∷ (attached, take_out right (f 9) 10, 0, 1, 5) ∷ (parked (pos 0), take_out left (f 0) 10, 0, 1, 5) ∷ (parked (pos 10), miss left (f 9) 10, 0, 0, 5)
    ∷ (parked (pos 10), take_out left (f 9) 10, 8, 0, 0) ∷ (parked (pos 10), take_out right (f 9) 9, 7, 0, 0) ∷ (parked (pos 0), bring_in right (f 0) 10, 6, 0, 0) ∷ (parked (pos 10), rack 0, 0, 0, 2)
    -- 02, W5: refused with 17, it is still in; as far as that, and no further
    ∷ (with 1 2 (pos 31) 1 10, rack 255, 17, 0, 0) ∷ (with 1 2 (pos 30) 1 10, rack 255, 0, 0, 2) ∷ (with 1 2 (pos 31) 1 10, rack 255 ++ rack 0, 17, 0, 0) ∷ (with 1 2 (pos 31) 1 10, rack 0 ++ rack 255, 0, 0, 2) ∷ []

abbrev pub Shows : State × List ℕ × ℕ × ℕ × ℕ → Type 0
Shows (s, l, n, c, k) = ((panel_step s l).number ≡ n) × ((panel_step s l).complete ≡ c) × ((panel_step s l).length ≡ k)

-- ---- the hooks that a step looks at, of the state that it leaves: a state, bytes, number, hooks
abbrev pub looks : List (State × List ℕ × ℕ × ℕ)
looks =
    -- none holds a loop: all; done and refused, at limit 1, with a carrier in
    (empty, rack 0, 0, 500) ∷ (empty, drop (f 5), 0, 500) ∷ (empty, bring_in right (f 10) 3, 0, 500) ∷ (empty, 0 ∷ [], 3, 500) ∷ (empty, [], 4, 500) ∷ (empty, rack 9, 5, 500) ∷ (empty, knit right (f 10) 3, 7, 500)
    ∷ (empty_state 1, rack 0, 0, 500) ∷ (parked (pos 10), rack 0, 0, 500) ∷ (with 1 2 (pos 31) 1 10, rack 255, 17, 500)
    -- the first hook, the second, both sides of the border of the beds, the last; the first of two; done and refused
    ∷ (with_hook 8 0 1, rack 0, 0, 1) ∷ (with_hook 8 1 1, rack 0, 0, 2) ∷ (with_hook 8 249 1, rack 0, 0, 250) ∷ (with_hook 8 250 1, rack 0, 0, 251) ∷ (with_hook 8 498 8, rack 0, 0, 499) ∷ (with_hook 8 499 1, rack 0, 0, 500)
    ∷ (with_hook 8 0 1, 0 ∷ [], 3, 1) ∷ (with_hook 8 249 8, [], 4, 250) ∷ (with_hook 1 499 1, knit right (f 10) 3, 7, 500) ∷ (with_hook 4 300 4, xfer (f 5) 6, 10, 301)
    -- a loop that is dropped, that is moved, that is formed in front and at the back
    ∷ (with_hook 8 0 1, drop (f 0), 0, 500) ∷ (with_hook 8 0 1, drop (f 1), 0, 1) ∷ (with_hook 8 3 1, xfer (f 3) 3, 0, 254) ∷ (with_hook 8 253 1, xfer (b 3) 3, 0, 4) ∷ (with_hook 8 249 1, xfer (f 249) 249, 0, 500)
    ∷ (parked (pos 10), tuck right (f 10) 10, 0, 11) ∷ (parked (pos 10), tuck right (b 10) 10, 0, 261)
    -- at another racking than 0 none is looked at, whatever they hold; back at 0 they are
    ∷ (empty, rack 1, 0, 0) ∷ (empty, rack 255, 0, 0) ∷ (with_racking (pos 1), drop (f 0), 0, 0) ∷ (with_racking (pos 8), 0 ∷ [], 3, 0) ∷ (with_racking (negsuc 7), [], 4, 0) ∷ (with_racking (pos 1), rack 2, 0, 0) ∷ (with_hook 8 0 1, rack 1, 0, 0)
    ∷ (with_racking (pos 1), rack 0, 0, 500) ∷ (with_racking (negsuc 7), rack 0, 0, 500)
    -- nor after 15, whatever is amiss
    ∷ (empty_state 0, rack 0, 15, 0) ∷ (empty_state 9, [], 15, 0) ∷ (with_hook 8 0 9, drop (f 0), 15, 0) ∷ (with_hook 1 499 2, [], 15, 0) ∷ (with_racking (pos 9), rack 0, 15, 0) ∷ (with 0 0 (pos 1) 0 0, [], 15, 0) ∷ []

abbrev pub LooksSo : State × List ℕ × ℕ × ℕ → Type 0
LooksSo (s, l, n, k) = ((panel_step s l).number ≡ n) × ((panel_step s l).looked ≡ k)

-- ---- programs stepped record by record from the empty state at a limit: number and complete after each
abbrev pub stepped : State → List (List ℕ) → List (ℕ × ℕ)
stepped s [] = []
stepped s (r ∷ l) = ((panel_step s r).number, (panel_step s r).complete) ∷ stepped (panel_step s r).state l

abbrev pub pieces : List (ℕ × List (List ℕ) × List (ℕ × ℕ))
pieces =
    -- complete after the last out, and not before
    (8, bring_in right (f 10) 3 ∷ take_out left (f 10) 3 ∷ [], (0, 0) ∷ (0, 1) ∷ [])
    ∷ (1, bring_in right (f 10) 1 ∷ bring_in right (f 20) 10 ∷ take_out left (f 10) 1 ∷ take_out left (f 20) 10 ∷ [], (0, 0) ∷ (0, 0) ∷ (0, 0) ∷ (0, 1) ∷ [])
    ∷ (8, bring_in right (f 10) 1 ∷ bring_in right (f 20) 10 ∷ take_out left (f 20) 10 ∷ take_out left (f 10) 1 ∷ [], (0, 0) ∷ (0, 0) ∷ (0, 0) ∷ (0, 1) ∷ [])
    ∷ (8, bring_in right (f 10) 3 ∷ knit right (f 10) 3 ∷ drop (f 10) ∷ take_out right (f 10) 3 ∷ [], (0, 0) ∷ (0, 0) ∷ (0, 0) ∷ (0, 1) ∷ [])
    -- the last is a drop, or a rack; a loop or a carrier that is forgotten
    ∷ (8, bring_in right (b 10) 3 ∷ knit right (b 10) 3 ∷ take_out right (b 10) 3 ∷ drop (b 10) ∷ [], (0, 0) ∷ (0, 0) ∷ (0, 0) ∷ (0, 1) ∷ [])
    ∷ (8, rack 2 ∷ drop (f 10) ∷ rack 0 ∷ rack 0 ∷ [], (0, 0) ∷ (0, 0) ∷ (0, 1) ∷ (0, 1) ∷ [])
    ∷ (8, bring_in right (f 10) 3 ∷ tuck right (f 10) 3 ∷ take_out right (f 10) 3 ∷ drop (b 10) ∷ [], (0, 0) ∷ (0, 0) ∷ (0, 0) ∷ (0, 0) ∷ [])
    -- two pieces, the second begun after the first is complete; refused records between keep what there is
    ∷ (8, bring_in right (f 10) 3 ∷ take_out left (f 10) 4 ∷ take_out left (f 10) 3 ∷ take_out left (f 10) 3 ∷ bring_in right (f 10) 3 ∷ take_out left (f 10) 3 ∷ [], (0, 0) ∷ (7, 0) ∷ (0, 1) ∷ (7, 1) ∷ (0, 0) ∷ (0, 1) ∷ [])
    -- at limit 1 a second loop is refused with 11, and the machine is as it was
    ∷ (1, bring_in right (f 10) 3 ∷ tuck right (f 10) 3 ∷ tuck left (f 10) 3 ∷ take_out left (f 11) 3 ∷ [], (0, 0) ∷ (0, 0) ∷ (11, 0) ∷ (0, 0) ∷ [])
    -- 02, W5: a rack is refused with 17 and one that does not go so far is done; with the carrier out the first is done too
    ∷ (
      8,
      rack 8 ∷ bring_in right (b 10) 3 ∷ tuck right (b 10) 3 ∷ miss right (f 19) 3 ∷ miss right (f 20) 3 ∷ miss right (f 21) 3 ∷ miss right (f 22) 3 ∷ miss right (f 23) 3
          ∷ rack 248 ∷ rack 249 ∷ rack 8 ∷ take_out right (f 23) 3 ∷ rack 248 ∷ drop (b 10) ∷ rack 0 ∷ [],
      (0, 0) ∷ (0, 0) ∷ (0, 0) ∷ (0, 0) ∷ (0, 0) ∷ (0, 0) ∷ (0, 0) ∷ (0, 0) ∷ (17, 0) ∷ (0, 0) ∷ (0, 0) ∷ (0, 0) ∷ (0, 0) ∷ (0, 0) ∷ (0, 1) ∷ [],
    )
    -- a limit out of range: 15 every time, and not complete
    ∷ (0, rack 0 ∷ drop (f 10) ∷ [], (15, 0) ∷ (15, 0) ∷ []) ∷ (9, rack 0 ∷ [], (15, 0) ∷ []) ∷ []

abbrev pub StepsSo : ℕ × List (List ℕ) × List (ℕ × ℕ) → Type 0
StepsSo (limit, l, told) = stepped (empty_state limit) l ≡ told
