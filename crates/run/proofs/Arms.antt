-- The arms of the step, as the small functions have them: the number of a record of some kinds, and the state after it. Assumes nothing.
use Prim.Native.Nat.{ℕ, ◌+◌, ◌-◌, ◌≤◌}
use mathlib.Core.Path.{◌≡◌, refl, sym, ap, ◌∙◌}
use mathlib.Core.Bool.{false, cond}
use mathlib.Core.List.{List, map}
use lib.ListN.{get_or, set}
use lib.Dec.{eqb}
use borrow.Author.Tests.{eq-eqb, ne_eqb, not-false}
use Rattle.machine.specs.declared.Needle.{Needle}
use Rattle.machine.specs.declared.Racking.{Racking}
use Rattle.machine.specs.declared.Carrier.{Carrier}
use Rattle.machine.specs.declared.State.{State}
use Rattle.machine.specs.Machine.{inactive, changed, hook_of, loops_on, moved_to}
use Rattle.machine.specs.Looks.{any_beside}
use Rattle.machine.proofs.Laws.{none_moved}
use Rattle.machine.proofs.Refused.{number_some}
use Rattle.machine.proofs.Stretches.{same_unstretched, no_back_unstretched}
use Rattle.record.specs.declared.Record.{Record}
use Rattle.record.specs.Kinds.{IN, OUT, MISS, TUCK, KNIT, SPLIT, PLATED_TUCK, PLATED_KNIT, by_kind}
use Rattle.record.proofs.Shapes.{one_of_two, two_named}
use Rattle.run.specs.Relation.{entry_slot, exit_slot, unattached, attached}
use Rattle.run.specs.Step.{or_number, twice_no, asked_no, first_after, first_asked, number_at, apply_of}
use Rattle.run.specs.Loops.{tuck_no, form_no, formed_loops, transfer_no, transferred_loops}
use Rattle.run.proofs.ByKind.{or_zero, none_fits, seen, ready_no, pair_no, rack_number, rack_state, drop_number, drop_state, xfer_number, xfer_state, in_number, in_state, out_number, out_state, miss_number, miss_state, tuck_number, tuck_state, knit_number, knit_state, split_number, split_state_lem, plated_tuck_number, plated_tuck_state, plated_knit_number, plated_knit_state}
use Rattle.run.proofs.Premises.{twice_zero, twice_sixteen}

-- the loops after a transfer, by its number
module _ (limit : ℕ) (l : List ℕ) (a b : Needle) (r : Racking) (v n : ℕ) (is : n ≡ transfer_no limit l a b r) where
  pub transfer_kept : (n ≡ 0 → ⊥) → transferred_loops limit l a b r v ≡ l
  unfolding transferred_loops
  transfer_kept h = simp (← is, ne_eqb n 0 h)

  transfer_made : n ≡ 0 → transferred_loops limit l a b r v ≡ set (set l (hook_of a) v) (hook_of b) (get_or l (hook_of a) 0 + get_or l (hook_of b) 0)
  unfolding transferred_loops
  transfer_made h = simp (← is, eq-eqb n 0 h)

-- the carriers after a move: where none names the needle, as they were
pub unmoved : (a b : Needle) (l : List Carrier) → any_beside a l ≡ false → map (moved_to a b) l ≡ l
unmoved a b l e = none_moved a b l (not-false _ e)

module _ (s : State) (x : Record) where
  -- the state with other loops and another carrier
  abbrev with : List ℕ → Carrier → State
  with l c = changed s s.racking l (set s.carriers (x.carrier - 1) c)

  -- what the record asks of its carrier, as `asked` says it
  abbrev asks : ℕ
  asks = asked_no x.kind x.at x.right s.racking (seen s x x.carrier)

  -- it is all that in, out and miss ask
  in_asks : x.kind ≡ IN → number_at s x ≡ asks
  in_asks e = in_number s x e ∙ sym (simp e)

  out_asks : x.kind ≡ OUT → number_at s x ≡ asks
  out_asks e = out_number s x e ∙ sym (simp e)

  pub miss_asks : x.kind ≡ MISS → number_at s x ≡ asks
  miss_asks e = miss_number s x e ∙ sym (simp e)

  module _ (low : IN ≤ x.kind) (high : x.kind ≤ OUT) where
    one : {G : Type 0} → (x.kind ≡ IN → G) → (x.kind ≡ OUT → G) → G
    one = one_of_two x.kind IN OUT refl low high

    pub in_out_asks : number_at s x ≡ asks
    in_out_asks = one in_asks out_asks

    pub in_out_state : apply_of s x ≡ with s.loops (cond (eqb x.kind IN) (unattached (entry_slot s x)) inactive)
    in_out_state = one (λ e. in_state s x e ∙ sym (simp e)) (λ e. out_state s x e ∙ sym (simp e))

  -- the loops that a tuck or a knit forms, plain or plated, and its number
  abbrev forms_no : ℕ
  forms_no = form_no s.limit x.kind (loops_on s x.at)

  abbrev formed : List ℕ
  formed = formed_loops s.limit x.kind s.loops x.at

  abbrev after_forming : List ℕ
  after_forming = set s.loops (hook_of x.at) (first_after x.kind (loops_on s x.at))

  module _ (m : ℕ) (f : m ≡ forms_no) where
    pub form_kept : (m ≡ 0 → ⊥) → formed ≡ s.loops
    unfolding formed_loops
    form_kept g = simp (ne_eqb forms_no 0 (λ e. g (f ∙ e)))

    form_made : m ≡ 0 → formed ≡ after_forming
    unfolding formed_loops
    form_made g = simp (eq-eqb forms_no 0 (sym f ∙ g))

  -- tuck and knit: a tuck asks for room besides
  module _ (low : TUCK ≤ x.kind) (high : x.kind ≤ KNIT) where
    either : {G : Type 0} → (x.kind ≡ TUCK → G) → (x.kind ≡ KNIT → G) → G
    either = one_of_two x.kind TUCK KNIT refl low high

    pub loop_number : number_at s x ≡ or_number (ready_no s x) forms_no
    unfolding form_no first_asked first_after tuck_no by_kind
    loop_number =
        either (λ e. tuck_number s x e ∙ sym (simp e)) (λ e. knit_number s x e ∙ sym (simp (e, none_fits s.limit) (or_zero (ready_no s x))))

    pub loop_state : apply_of s x ≡ with after_forming (attached (exit_slot s x) x.at x.right)
    unfolding first_after by_kind
    loop_state = either (λ e. tuck_state s x e ∙ sym (simp e)) (λ e. knit_state s x e ∙ sym (simp e))

  -- the same of plated stitches, which ask for two yarns first
  module _ (low : PLATED_TUCK ≤ x.kind) (high : x.kind ≤ PLATED_KNIT) where
    either_plated : {G : Type 0} → (x.kind ≡ PLATED_TUCK → G) → (x.kind ≡ PLATED_KNIT → G) → G
    either_plated = one_of_two x.kind PLATED_TUCK PLATED_KNIT refl low high

    -- with both carriers set to one value
    abbrev with_both : List ℕ → Carrier → State
    with_both l c = changed s s.racking l (set (set s.carriers (x.carrier - 1) c) (x.second - 1) c)

    plated_number : number_at s x ≡ or_number (twice_no x) (or_number (pair_no s x) forms_no)
    unfolding form_no first_asked first_after tuck_no by_kind
    plated_number = either_plated (λ e. plated_tuck_number s x e ∙ sym (simp e)) (λ e. plated_knit_number s x e ∙ sym (simp e))

    pub plated_state : apply_of s x ≡ with_both after_forming (attached (exit_slot s x) x.at x.right)
    unfolding first_after by_kind
    plated_state = either_plated (λ e. plated_tuck_state s x e ∙ sym (simp e)) (λ e. plated_knit_state s x e ∙ sym (simp e))

    pub plated_twice : x.carrier ≡ x.second → number_at s x ≡ 16
    plated_twice e =
        let t = twice_sixteen x (two_named x.kind low high) e in
        plated_number ∙ ap (λ (n : ℕ). or_number n (or_number (pair_no s x) forms_no)) t

    pub plated_two : (x.carrier ≡ x.second → ⊥) → number_at s x ≡ or_number (pair_no s x) forms_no
    plated_two h = plated_number ∙ ap (λ (n : ℕ). or_number n (or_number (pair_no s x) forms_no)) (twice_zero x h)

  -- a split asks for room and for opposite needles
  pub split_asks : x.kind ≡ SPLIT → number_at s x ≡ or_number asks (transfer_no s.limit s.loops x.at x.to s.racking)
  unfolding by_kind
  split_asks e = split_number s x e ∙ sym (simp e)

pub ruleset racks = (number_some, rack_number, rack_state, same_unstretched, no_back_unstretched)

pub ruleset drops = (drop_number, drop_state)

pub ruleset moves_along = (unmoved)

pub ruleset transfers = (number_some, xfer_number, xfer_state)

pub ruleset enters_or_leaves = (number_some, in_out_asks, in_out_state)

pub ruleset misses = (number_some, miss_asks, miss_state)

pub ruleset forms = (number_some, loop_number, loop_state)

pub ruleset splits = (number_some, split_asks, split_state_lem)

pub ruleset plates = (number_some, plated_twice, plated_two, plated_state)
