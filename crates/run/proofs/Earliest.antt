-- Of the reasons that hold none stands before the number of the step. Assumes nothing.
use borrow.Table.Steps.{cases}
use Prim.Native.Nat.{ℕ, ◌≤◌, ◌<◌}
use mathlib.Core.Path.{◌≡◌, sym, ap, subst, ◌∙◌}
use mathlib.Core.Bool.{cond}
use native.Mathlib.Omega.{arith}
use lib.Dec.{eqb}
use borrow.Author.Tests.{ne_eqb}
use Rattle.machine.specs.declared.Slot.{Slot}
use Rattle.machine.specs.declared.State.{State}
use Rattle.machine.specs.Machine.{loops_on, carrier_of}
use Rattle.machine.specs.Geometry.{column_of}
use Rattle.record.specs.declared.Record.{Record}
use Rattle.record.specs.Kinds.{OUT, carriers_named}
use Rattle.record.proofs.Shapes.{Forms, Moves, Plated, Uses, is, forms, two_hooks, two_carriers, plated_two, uses, loop}
use Rattle.record.proofs.Ranges.{InRange}
use Rattle.run.specs.Relation.{Inactive, entry_slot, exit_slot}
use Rattle.run.specs.Reason.{NamesCarrier, HookFull, RecordReason}
use Rattle.run.specs.Step.{or_number, twice_no, not_in_no, number_at}
use Rattle.run.proofs.ByKind.{or_zero, seen, slot_no, reach_no, ready_no, pair_no, rack_number, xfer_number, in_number, out_number, miss_number, tuck_number, knit_number, split_number, plated_tuck_number, plated_knit_number}
use Rattle.run.proofs.Premises.{or_next, or_first, parked_zero, parked_off, parked_elsewhere, parked_cases, in_six, not_in_zero, not_in_seven, twice_zero, twice_sixteen}
use Rattle.run.proofs.Premises.{float_zero, float_over, float_cases, tuck_full, carrier, sum, move_no, opposite_cases, move_full, move_apart}
use Rattle.run.proofs.Racks.{rack_seventeen}
use Rattle.run.proofs.Refusals.{rank}

-- the tests go by the order of the list: two yarns before all carriers, and so on
yarns_in : rank 16 ≤ rank 7
yarns_in = omega arith

-- ---- a number that stands no later than m; one that does if it is not 0
abbrev NoLater : ℕ → ℕ → Type 0
NoLater m n = (n ≡ 0 → ⊥) × (rank n ≤ rank m)

abbrev NoLaterIfAny : ℕ → ℕ → Type 0
NoLaterIfAny m n = (n ≡ 0 → ⊥) → rank n ≤ rank m

module _ (m : ℕ) where
  itself : (n : ℕ) → (m ≡ 0 → ⊥) → n ≡ m → NoLater m n
  itself n d e = rw e (d, omega arith)

  -- of two, the first that is not 0
  at_first : (a b : ℕ) → NoLater m a → NoLater m (or_number a b)
  at_first a b h = rw (or_first a b h.0) h

  at_last : (a b : ℕ) → NoLaterIfAny m a → NoLater m b → NoLater m (or_number a b)
  at_last a b h k = is a 0 (λ e. rw (or_next a b e) k) (λ d. rw (or_first a b d) (d, h d))

  in_turn : (a b : ℕ) → NoLaterIfAny m a → NoLaterIfAny m b → NoLaterIfAny m (or_number a b)
  in_turn a b h k = is a 0 (λ e. rw (or_next a b e) k) (λ d. rw (or_first a b d) h)

  later : (k n : ℕ) → rank k ≤ rank m → NoLaterIfAny k n → NoLaterIfAny m n
  later k n h f d = omega (arith, f d, h)

or_assoc : (a b n : ℕ) → or_number (or_number a b) n ≡ or_number a (or_number b n)
or_assoc a b n = cases (eqb a 0) (λ t. simp t) (λ t. simp t)

module _ (s : State) (x : Record) where
  -- what is looked at of carrier k
  not_in_early : (k : ℕ) → NoLaterIfAny 7 (not_in_no (seen s x k))
  not_in_early k d =
      is (carrier_of s k).active 0 (λ e. rw (not_in_seven s.racking (carrier_of s k) e) (omega arith))
      (λ a. absurd (d (not_in_zero s.racking (carrier_of s k) a)))

  slot_early : (k : ℕ) (z : Slot) → NoLaterIfAny 8 (slot_no s x k z)
  slot_early k z d =
      parked_cases s.racking (carrier_of s k) z
      (λ c. rw (parked_off s.racking (carrier_of s k) z c) (omega arith))
      (λ a h. rw (parked_elsewhere s.racking (carrier_of s k) z a h) (omega arith))
      (λ p. absurd (d (parked_zero s.racking (carrier_of s k) z p)))

  reach_early : (k : ℕ) → NoLaterIfAny 9 (reach_no s x k)
  reach_early k d =
      float_cases s.racking (carrier_of s k) (column_of x.at s.racking)
      (λ a h. rw (float_over s.racking (carrier_of s k) (column_of x.at s.racking) a h) (omega arith))
      (λ h. absurd (d (float_zero s.racking (carrier_of s k) (column_of x.at s.racking) h)))

  -- the first number of which ready_no is made
  abbrev enter_no : ℕ → ℕ
  enter_no k = slot_no s x k (entry_slot s x)

  enter_early : (k : ℕ) → NoLaterIfAny 9 (enter_no k)
  enter_early k = later 9 8 (enter_no k) (omega arith) (slot_early k (entry_slot s x))

  ready_early : NoLaterIfAny 9 (ready_no s x)
  ready_early = in_turn 9 (enter_no x.carrier) (reach_no s x x.carrier) (enter_early x.carrier) (reach_early x.carrier)

  twice_single : (carriers_named x.kind ≡ 2 → ⊥) → twice_no x ≡ 0
  unfolding twice_no
  twice_single one = simp (ne_eqb (carriers_named x.kind) 2 one)

  twice_early : NoLaterIfAny 7 (twice_no x)
  twice_early d =
      is (carriers_named x.kind) 2 (λ two. is x.carrier x.second (λ e. rw (twice_sixteen x two e) yarns_in) (λ h. absurd (d (twice_zero x h))))
      (λ one. absurd (d (twice_single one)))

  -- 10 or 11 where the second hook would be over its loops
  move_full_early : s.limit < sum s x → NoLater 11 (move_no s x)
  move_full_early h =
      opposite_cases s x (λ o. itself 11 _ (λ e. omega arith) (move_full s x o h)) (λ o. rw (move_apart s x o) ((λ e. omega arith), (omega arith)))

  abbrev slot : Slot
  slot = cond (eqb x.kind OUT) (exit_slot s x) (entry_slot s x)

module _ (s : State) (x : Record) (f : InRange x) where
  -- a record that names one carrier names its first
  only_first : (carriers_named x.kind ≡ 2 → ⊥) → {k : ℕ} → NamesCarrier x k → x.carrier ≡ k
  only_first d (NamesCarrier.first h e) = e
  only_first d (NamesCarrier.second h e) = absurd (d h)

  -- ---- kinds with one carrier: what comes first for one that forms a loop, and for every one that uses a carrier that is in
  module _ (one : carriers_named x.kind ≡ 2 → ⊥) where
    ready_first : Forms x.kind → (rest : ℕ) × (number_at s x ≡ or_number (ready_no s x) rest)
    ready_first (Forms.tuck e) = (_, tuck_number s x e)
    ready_first (Forms.knit e) = (0, knit_number s x e ∙ sym (or_zero (ready_no s x)))
    ready_first (Forms.split e) = (_, split_number s x e)
    ready_first (Forms.plated p) = absurd (one (plated_two p))

    abbrev first_no : ℕ
    first_no = slot_no s x x.carrier (slot s x)

    parked_first : Uses x.kind → (rest : ℕ) × (number_at s x ≡ or_number first_no rest)
    parked_first (Uses.carrier_out e) = (0, out_number s x e ∙ simp e (sym (or_zero (slot_no s x x.carrier (exit_slot s x)))))
    parked_first (Uses.miss e) = (0, miss_number s x e ∙ simp e (sym (or_zero (slot_no s x x.carrier (entry_slot s x)))))
    parked_first (Uses.forming k) =
        let (rest, e) = ready_first k in
        (or_number (reach_no s x x.carrier) rest, e ∙ or_assoc (enter_no s x x.carrier) (reach_no s x x.carrier) rest ∙ simp (ne_eqb x.kind OUT (loop k).not_out))

    single_parked : Uses x.kind → (n : ℕ) → (n ≡ 0 → ⊥) → first_no ≡ n → NoLater n (number_at s x)
    single_parked u n d e = let (rest, q) = parked_first u in rw q (at_first n first_no rest (itself n _ d e))

    single_float : Forms x.kind → reach_no s x x.carrier ≡ 9 → NoLater 9 (number_at s x)
    single_float h e =
        let (rest, q) = ready_first h in
        rw q (at_first 9 (ready_no s x) rest (at_last 9 (enter_no s x x.carrier) (reach_no s x x.carrier) (enter_early s x x.carrier) (itself 9 _ (λ z. omega arith) e)))

  -- ---- plated stitches: two yarns, then 7 of either carrier, 8 of either, 9 of either
  module _ (p : Plated x.kind) where
    plated_first : Plated x.kind → (rest : ℕ) × (number_at s x ≡ or_number (twice_no x) (or_number (pair_no s x) rest))
    plated_first (Plated.tuck e) = (_, plated_tuck_number s x e)
    plated_first (Plated.knit e) = (_, plated_knit_number s x e)

    plated_early : (m : ℕ) → rank 7 ≤ rank m → NoLater m (pair_no s x) → NoLater m (number_at s x)
    plated_early m h k =
        let (rest, q) = plated_first p in rw q (at_last m (twice_no x) (or_number (pair_no s x) rest) (later m 7 (twice_no x) h (twice_early s x)) (at_first m (pair_no s x) rest k))

    -- past the looks that stand before
    abbrev k : ℕ
    k = x.carrier

    abbrev j : ℕ
    j = x.second

    past_in : (m n : ℕ) → rank 7 ≤ rank m → NoLater m n → NoLater m (or_number (not_in_no (seen s x k)) (or_number (not_in_no (seen s x j)) n))
    past_in m n h f =
        at_last m _ _ (later m 7 (not_in_no (seen s x k)) h (not_in_early s x k)) (at_last m _ n (later m 7 (not_in_no (seen s x j)) h (not_in_early s x j)) f)

    past_slots : (m n : ℕ) → rank 8 ≤ rank m → NoLater m n → NoLater m (or_number (enter_no s x k) (or_number (enter_no s x j) n))
    past_slots m n h f =
        at_last m _ _ (later m 8 (enter_no s x k) h (slot_early s x k (entry_slot s x))) (at_last m _ n (later m 8 (enter_no s x j) h (slot_early s x j (entry_slot s x))) f)

    plated_seven : {i : ℕ} → NamesCarrier x i → Inactive (carrier_of s i) → NoLater 7 (number_at s x)
    plated_seven (NamesCarrier.first h e) c =
        plated_early 7 (omega arith) (at_first 7 _ _ (itself 7 _ (λ z. omega arith) (not_in_seven s.racking (carrier_of s k) (subst (λ (n : ℕ). Inactive (carrier_of s n)) (sym e) c))))
    plated_seven (NamesCarrier.second h e) c =
        plated_early 7 (omega arith) (at_last 7 _ _ (not_in_early s x k)
        (at_first 7 _ _ (itself 7 _ (λ z. omega arith) (not_in_seven s.racking (carrier_of s j) (subst (λ (n : ℕ). Inactive (carrier_of s n)) (sym e) c)))))

    plated_eight : {i : ℕ} → NamesCarrier x i → slot_no s x i (entry_slot s x) ≡ 8 → NoLater 8 (number_at s x)
    plated_eight (NamesCarrier.first h e) c =
        plated_early 8 (omega arith) (past_in 8 _ (omega arith) (at_first 8 _ _ (itself 8 _ (λ z. omega arith) (subst (λ (n : ℕ). slot_no s x n (entry_slot s x) ≡ 8) (sym e) c))))
    plated_eight (NamesCarrier.second h e) c =
        plated_early 8 (omega arith) (past_in 8 _ (omega arith) (at_last 8 _ _ (slot_early s x k (entry_slot s x))
        (at_first 8 _ _ (itself 8 _ (λ z. omega arith) (subst (λ (n : ℕ). slot_no s x n (entry_slot s x) ≡ 8) (sym e) c)))))

    past_parked : (n : ℕ) → NoLater 9 n → NoLater 9 (or_number (not_in_no (seen s x k)) (or_number (not_in_no (seen s x j)) (or_number (enter_no s x k) (or_number (enter_no s x j) n))))
    past_parked n f = past_in 9 _ (omega arith) (past_slots 9 n (omega arith) f)

    plated_nine : {i : ℕ} → NamesCarrier x i → reach_no s x i ≡ 9 → NoLater 9 (number_at s x)
    plated_nine (NamesCarrier.first h e) c =
        plated_early 9 (omega arith) (past_parked _ (at_first 9 _ _ (itself 9 _ (λ z. omega arith) (subst (λ (n : ℕ). reach_no s x n ≡ 9) (sym e) c))))
    plated_nine (NamesCarrier.second h e) c =
        plated_early 9 (omega arith) (past_parked _ (at_last 9 _ _ (reach_early s x k) (itself 9 _ (λ z. omega arith) (subst (λ (n : ℕ). reach_no s x n ≡ 9) (sym e) c))))

    pair_early : NoLaterIfAny 9 (pair_no s x)
    pair_early =
        in_turn 9 _ _ (later 9 7 (not_in_no (seen s x k)) (omega arith) (not_in_early s x k))
        (in_turn 9 _ _ (later 9 7 (not_in_no (seen s x j)) (omega arith) (not_in_early s x j))
        (in_turn 9 _ _ (enter_early s x k) (in_turn 9 _ _ (enter_early s x j) (in_turn 9 _ _ (reach_early s x k) (reach_early s x j)))))

    plated_full : (n : ℕ) → number_at s x ≡ or_number (twice_no x) (or_number (pair_no s x) n) → n ≡ 11 → NoLater 11 (number_at s x)
    plated_full n q e =
        rw q (at_last 11 (twice_no x) _ (later 11 7 (twice_no x) (omega arith) (twice_early s x))
        (at_last 11 (pair_no s x) n (later 11 9 (pair_no s x) (omega arith) pair_early) (itself 11 n (λ z. omega arith) e)))

  -- ---- a carrier that a record names, of any kind
  not_in_first : {i : ℕ} → NamesCarrier x i → Uses x.kind → Inactive (carrier_of s i) → NoLater 7 (number_at s x)
  not_in_first named u c =
      is (carriers_named x.kind) 2 (λ two. plated_seven (two_carriers f.known two) named c)
      (λ one. single_parked one u 7 (λ z. omega arith) (parked_off s.racking (carrier s x) (slot s x) (subst (λ (n : ℕ). Inactive (carrier_of s n)) (sym (only_first one named)) c)))

  elsewhere_first : {i : ℕ} → NamesCarrier x i → Uses x.kind → slot_no s x i (slot s x) ≡ 8 → NoLater 8 (number_at s x)
  elsewhere_first {i} named u c =
      is (carriers_named x.kind) 2
      (λ two. let p = two_carriers f.known two in
      plated_eight p named (ap (λ (z : Slot). slot_no s x i z) (sym (simp (ne_eqb x.kind OUT (loop (Forms.plated p)).not_out))) ∙ c))
      (λ one. single_parked one u 8 (λ z. omega arith) (subst (λ (n : ℕ). slot_no s x n (slot s x) ≡ 8) (sym (only_first one named)) c))

  float_first : {i : ℕ} → NamesCarrier x i → Forms x.kind → reach_no s x i ≡ 9 → NoLater 9 (number_at s x)
  float_first named u c =
      is (carriers_named x.kind) 2 (λ two. plated_nine (two_carriers f.known two) named c)
      (λ one. single_float one u (subst (λ (n : ℕ). reach_no s x n ≡ 9) (sym (only_first one named)) c))

  carried : {i : ℕ} → NamesCarrier x i → 1 ≤ carriers_named x.kind
  carried (NamesCarrier.first h e) = h
  carried (NamesCarrier.second h e) = omega (arith, h)

  -- where tuck or split is refused for its hooks
  after_ready : (m n : ℕ) → rank 9 ≤ rank m → number_at s x ≡ or_number (ready_no s x) n → NoLater m n → NoLater m (number_at s x)
  after_ready m n h e k = rw e (at_last m (ready_no s x) n (λ d. omega (arith, ready_early s x d, h)) k)

  -- a reason that holds stands no earlier than the step's number, which is not 0 then
  pub number_earliest : {m : ℕ} → RecordReason m s x → (number_at s x ≡ 0 → ⊥) × (rank (number_at s x) ≤ rank m)
  number_earliest (RecordReason.yarn_twice e a) = rw e (twice (two_carriers f.known a.two))
    where
      twice : Plated x.kind → NoLater 16 (number_at s x)
      twice p = let (rest, q) = plated_first p p in rw q (at_first 16 (twice_no x) _ (itself 16 _ (λ z. omega arith) (twice_sixteen x a.two a.equal)))
  number_earliest (RecordReason.stretched e a) = rw e (itself 17 _ (λ z. omega arith) (rack_number s x a.kind ∙ rack_seventeen s x a.carrier a.stretches))
  number_earliest (RecordReason.already_in e a) =
      rw e (itself 6 _ (λ z. omega arith) (in_number s x a.kind ∙ in_six s.racking (carrier s x) a.active))
  number_earliest (RecordReason.not_in e a) = rw e (not_in_first a.named (uses f.known (carried a.named) a.other) a.carrier_off)
  number_earliest (RecordReason.wrong_slot e a) =
      rw e (elsewhere_first a.named (uses f.known (carried a.named) a.other) (parked_elsewhere s.racking (carrier_of s a.carrier) (slot s x) a.active a.elsewhere))
  number_earliest (RecordReason.float_too_long e a) =
      rw e (float_first a.named (forms f.known a.formed) (float_over s.racking (carrier_of s a.carrier) (column_of x.at s.racking) a.attached a.over))
  number_earliest (RecordReason.not_opposite e a) = rw e (apart (two_hooks f.known a.two))
    where
      apart : Moves x.kind → NoLater 10 (number_at s x)
      apart (Moves.xfer k) = itself 10 _ (λ z. omega arith) (xfer_number s x k ∙ move_apart s x a.differ)
      apart (Moves.split k) = after_ready 10 _ (omega arith) (split_number s x k) (itself 10 _ (λ z. omega arith) (move_apart s x a.differ))
  number_earliest (RecordReason.hook_full e (HookFull.tuck k h)) =
      rw e (after_ready 11 _ (omega arith) (tuck_number s x k) (itself 11 _ (λ z. omega arith) (tuck_full s.limit (loops_on s x.at) 1 h)))
  number_earliest (RecordReason.hook_full e (HookFull.plated_tuck k h)) =
      rw e (plated_full (Plated.tuck k) _ (plated_tuck_number s x k) (tuck_full s.limit (loops_on s x.at) 2 h))
  number_earliest (RecordReason.hook_full e (HookFull.plated_knit k h)) = rw e (plated_full (Plated.knit k) _ (plated_knit_number s x k) (tuck_full s.limit 0 2 h))
  number_earliest (RecordReason.hook_full e (HookFull.second two h)) = rw e (full (two_hooks f.known two))
    where
      full : Moves x.kind → NoLater 11 (number_at s x)
      full (Moves.xfer k) = rw (xfer_number s x k) (move_full_early s x h)
      full (Moves.split k) = after_ready 11 _ (omega arith) (split_number s x k) (move_full_early s x h)
