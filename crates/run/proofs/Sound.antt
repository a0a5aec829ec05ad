-- The step as code makes it against the relation: 0 exactly where the relation has a step, else the number of a reason that holds. Assumes nothing.
use borrow.Table.Steps.{cases}
use Prim.Native.Nat.{ℕ, ◌+◌, ◌≤◌, ◌<◌}
use mathlib.Core.Path.{◌≡◌, refl, ◌∙◌}
use mathlib.Core.Bool.{cond}
use native.Mathlib.Omega.{arith}
use lib.Dec.{eqb, leb}
use borrow.Author.Tests.{ne_eqb, leb-true, leb-false}
use Rattle.machine.specs.declared.Column.{Column}
use Rattle.machine.specs.declared.Slot.{Slot}
use Rattle.machine.specs.declared.State.{State}
use Rattle.machine.specs.Machine.{hook_of, loops_on, carrier_of}
use Rattle.machine.specs.Geometry.{column_of}
use Rattle.record.specs.declared.Record.{Record}
use Rattle.record.specs.Kinds.{RACK, IN, OUT, SPLIT}
use Rattle.record.specs.Kinds.{by_kind, hooks_worked, carriers_named}
use Rattle.record.proofs.Shapes.{Known, Forms, Plated, Loop, is, loop, plated_two}
use Rattle.record.proofs.Ranges.{InRange}
use Rattle.run.specs.Relation.{Active, Inactive, ParkedAt, FloatInReach, Opposite, Room, TwoYarns, Unstretched, Step, entry_slot, exit_slot}
use Rattle.run.specs.Reason.{NamesCarrier, HookFull, RecordReason}
use Rattle.run.specs.Step.{or_number, twice_no, not_in_no, number_at, apply_of}
use Rattle.run.specs.Loops.{tuck_no}
use Rattle.run.proofs.ByKind.{seen, slot_no, reach_no, ready_no, pair_no, rack_no, rack_number, rack_state, drop_number, drop_state, xfer_number, xfer_state, in_number, in_state, out_number, out_state}
use Rattle.run.proofs.ByKind.{miss_number, miss_state, tuck_number, tuck_state, knit_number, knit_state, split_number, split_state_lem, split_said, plated_tuck_number, plated_tuck_state, plated_knit_number, plated_knit_state}
use Rattle.run.proofs.Premises.{or_next, or_first, parked_zero, parked_off, parked_elsewhere, parked_cases, in_zero, in_six, not_in_zero, not_in_seven, twice_zero, twice_sixteen}
use Rattle.run.proofs.Premises.{float_zero, float_over, float_cases, tuck_zero, tuck_full, carrier, sum, move_no, opposite_cases, move_zero, move_full, move_apart}
use Rattle.run.proofs.Racks.{rack_cases, rack_seventeen, rack_zero}
use Rattle.run.proofs.Refusals.{record_other}

-- ---- a step of the relation is the code's
module _ (s : State) (x : Record) where
  parked_here : (k : ℕ) (z : Slot) → ParkedAt (carrier_of s k) z → slot_no s x k z ≡ 0
  parked_here k z p = parked_zero s.racking (carrier_of s k) z p

  reach_zero : (k : ℕ) → FloatInReach s x k → reach_no s x k ≡ 0
  reach_zero k h = float_zero s.racking (carrier_of s k) (column_of x.at s.racking) h

  ready_zero : ParkedAt (carrier s x) (entry_slot s x) → FloatInReach s x x.carrier → ready_no s x ≡ 0
  ready_zero p h = or_next _ _ (parked_here x.carrier (entry_slot s x) p) ∙ reach_zero x.carrier h

  pair_zero : ParkedAt (carrier s x) (entry_slot s x) → ParkedAt (carrier_of s x.second) (entry_slot s x) → FloatInReach s x x.carrier → FloatInReach s x x.second → pair_no s x ≡ 0
  pair_zero p q h i =
      or_next _ _ (not_in_zero s.racking (carrier s x) p.active) ∙ or_next _ _ (not_in_zero s.racking (carrier_of s x.second) q.active)
      ∙ or_next _ _ (parked_here x.carrier (entry_slot s x) p) ∙ or_next _ _ (parked_here x.second (entry_slot s x) q)
      ∙ or_next _ _ (reach_zero x.carrier h) ∙ reach_zero x.second i

  split_hooks : InRange x → x.kind ≡ SPLIT → hook_of x.at ≡ hook_of x.to → ⊥
  unfolding by_kind
  split_hooks f e = f.beds_differ (simp e)

  pub step_only : InRange x → {t : State} → Step s x t → (number_at s x ≡ 0) × (apply_of s x ≡ t)
  step_only f (Step.rack e u) = (rack_number s x e ∙ rack_zero s x u, rack_state s x e)
  step_only f (Step.drop e) = (drop_number s x e, drop_state s x e)
  step_only f (Step.xfer e o h) = (xfer_number s x e ∙ move_zero s x o h, xfer_state s x e)
  step_only f (Step.carrier_in e c) = (in_number s x e ∙ in_zero s.racking (carrier s x) c, in_state s x e)
  step_only f (Step.carrier_out e p) = (out_number s x e ∙ parked_here x.carrier (exit_slot s x) p, out_state s x e)
  step_only f (Step.miss e p) = (miss_number s x e ∙ parked_here x.carrier (entry_slot s x) p, miss_state s x e)
  step_only f (Step.tuck e p h r) = (tuck_number s x e ∙ or_next _ _ (ready_zero p h) ∙ tuck_zero s.limit (loops_on s x.at) 1 r, tuck_state s x e)
  step_only f (Step.knit e p h) = (knit_number s x e ∙ ready_zero p h, knit_state s x e)
  step_only f (Step.split e p h o r) =
      (split_number s x e ∙ or_next _ _ (ready_zero p h) ∙ move_zero s x o r, split_state_lem s x e ∙ split_said s x (split_hooks f e))
  step_only f (Step.plated_tuck e two p q h i r) =
      (plated_tuck_number s x e ∙ or_next _ _ (twice_zero x two) ∙ or_next _ _ (pair_zero p q h i) ∙ tuck_zero s.limit (loops_on s x.at) 2 r, plated_tuck_state s x e)
  step_only f (Step.plated_knit e two p q h i r) =
      (plated_knit_number s x e ∙ or_next _ _ (twice_zero x two) ∙ or_next _ _ (pair_zero p q h i) ∙ tuck_zero s.limit 0 2 r, plated_knit_state s x e)

-- ---- the code's number is 0 where the premises hold, or the number of a reason
data Judged (s : State) (x : Record) (P : Type 0) (n : ℕ) : Type 0 where
  fine : n ≡ 0 → P → Judged s x P n
  refused : RecordReason n s x → Judged s x P n

module _ {s : State} {x : Record} where
  both : {P Q : Type 0} {a b : ℕ} → Judged s x P a → Judged s x Q b → Judged s x (P × Q) (or_number a b)
  both {a = a} {b = b} (Judged.fine e p) (Judged.fine d q) = Judged.fine (or_next a b e ∙ d) (p, q)
  both {a = a} {b = b} (Judged.fine e p) (Judged.refused q) = Judged.refused (rw (or_next a b e) q)
  both {a = a} {b = b} (Judged.refused p) q = Judged.refused (rw (or_first a b (record_other p 0 refl)) p)

  implied : {P Q : Type 0} {n : ℕ} → (P → Q) → Judged s x P n → Judged s x Q n
  implied f (Judged.fine z p) = Judged.fine z (f p)
  implied f (Judged.refused r) = Judged.refused r

  -- a number that is the same, and the step of its premises
  stepped : {P : Type 0} {n m : ℕ} {t u : State} → m ≡ n → u ≡ t → (P → Step s x t) → Judged s x P n → Judged s x (Step s x u) m
  stepped e d f (Judged.fine z p) = Judged.fine (e ∙ z) (rw d (f p))
  stepped e d f (Judged.refused r) = Judged.refused (rw e r)

module _ (s : State) (x : Record) where
  in_judged : x.kind ≡ IN → Judged s x (Inactive (carrier s x)) (cond (seen s x x.carrier).active 6 0)
  in_judged e =
      is (carrier s x).active 0 (λ c. Judged.fine (in_zero s.racking (carrier s x) c) c)
      (λ a. Judged.refused (RecordReason.already_in (in_six s.racking (carrier s x) a) (record { kind = e; active = a })))

  -- carrier k, the first or the second
  module _ (k : ℕ) (named : NamesCarrier x k) where
    not_in_judged : (x.kind ≡ IN → ⊥) → Judged s x (Active (carrier_of s k)) (not_in_no (seen s x k))
    not_in_judged d =
        is (carrier_of s k).active 0
        (λ c. Judged.refused (RecordReason.not_in (not_in_seven s.racking (carrier_of s k) c) (record { carrier = k; named = named; other = d; carrier_off = c })))
        (λ a. Judged.fine (not_in_zero s.racking (carrier_of s k) a) a)

    parked_judged : (z : Slot) → (x.kind ≡ IN → ⊥) → cond (eqb x.kind OUT) (exit_slot s x) (entry_slot s x) ≡ z → Judged s x (ParkedAt (carrier_of s k) z) (slot_no s x k z)
    parked_judged z d e =
        parked_cases s.racking (carrier_of s k) z
        (λ c. Judged.refused (RecordReason.not_in (parked_off s.racking (carrier_of s k) z c) (record { carrier = k; named = named; other = d; carrier_off = c })))
        (λ a h. Judged.refused
        (RecordReason.wrong_slot (parked_elsewhere s.racking (carrier_of s k) z a h) (record { carrier = k; named = named; other = d; active = a; elsewhere = λ q. h (q ∙ e) })))
        (λ p. Judged.fine (parked_here s x k z p) p)

    float_judged : Loop x.kind → Judged s x (FloatInReach s x k) (reach_no s x k)
    float_judged l =
        float_cases s.racking (carrier_of s k) z
        (λ a h. Judged.refused
        (RecordReason.float_too_long (float_over s.racking (carrier_of s k) z a h) (record { carrier = k; named = named; formed = l.formed; attached = a; over = h })))
        (λ h. Judged.fine (reach_zero s x k h) h)
      where
        z : Column
        z = column_of x.at s.racking

    -- at the entry slot, for a kind that forms a loop
    entered : Loop x.kind → Judged s x (ParkedAt (carrier_of s k) (entry_slot s x)) (slot_no s x k (entry_slot s x))
    entered l = parked_judged (entry_slot s x) l.not_in (simp (ne_eqb x.kind OUT l.not_out))

  first : 1 ≤ carriers_named x.kind → NamesCarrier x x.carrier
  first h = NamesCarrier.first h refl

  ready_judged : Loop x.kind → Judged s x (ParkedAt (carrier s x) (entry_slot s x) × FloatInReach s x x.carrier) (ready_no s x)
  ready_judged l = both (entered x.carrier (first l.carried) l) (float_judged x.carrier (first l.carried) l)

  -- a plated stitch: two yarns, each in, at the entry slot and near
  twice_judged : carriers_named x.kind ≡ 2 → Judged s x (TwoYarns x) (twice_no x)
  twice_judged two =
      is x.carrier x.second (λ e. Judged.refused (RecordReason.yarn_twice (twice_sixteen x two e) (record { two = two; equal = e })))
      (λ d. Judged.fine (twice_zero x d) d)

  record PairReady : Type 0 where
    parked : ParkedAt (carrier s x) (entry_slot s x)
    parked_second : ParkedAt (carrier_of s x.second) (entry_slot s x)
    near : FloatInReach s x x.carrier
    near_second : FloatInReach s x x.second

  pair_judged : Plated x.kind → Judged s x PairReady (pair_no s x)
  pair_judged p =
      let l = loop (Forms.plated p) in
      let k = x.carrier in let j = x.second in
      let a = first l.carried in let b : NamesCarrier x j = NamesCarrier.second (plated_two p) refl in
      implied (λ (c, (d, (e, (f, (g, h))))). record { parked = e; parked_second = f; near = g; near_second = h })
      (both (not_in_judged k a l.not_in) (both (not_in_judged j b l.not_in) (both (entered k a l) (both (entered j b l) (both (float_judged k a l) (float_judged j b l))))))

  -- v loops more than n
  room_judged : (n v : ℕ) → (s.limit < n + v → HookFull s x) → Judged s x (Room s (n + v)) (tuck_no s.limit n v)
  room_judged n v full =
      cases (leb (n + v) s.limit) (λ t. let h = leb-true (n + v) s.limit t in Judged.fine (tuck_zero s.limit n v h) h)
      (λ t. let h = leb-false (n + v) s.limit t in Judged.refused (RecordReason.hook_full (tuck_full s.limit n v h) (full h)))

  rack_judged : x.kind ≡ RACK → Judged s x (Unstretched s x.racking) (rack_no s x)
  rack_judged e =
      rack_cases s x (λ k h. Judged.refused (RecordReason.stretched (rack_seventeen s x k h) (record { kind = e; carrier = k; stretches = h })))
      (λ u. Judged.fine (rack_zero s x u) u)

  move_judged : hooks_worked x.kind ≡ 2 → Judged s x (Opposite s x × Room s (sum s x)) (move_no s x)
  move_judged two =
      opposite_cases s x
      (λ o. cases (leb (sum s x) s.limit) (λ t. let h = leb-true (sum s x) s.limit t in Judged.fine (move_zero s x o h) (o, h))
      (λ t. let h = leb-false (sum s x) s.limit t in Judged.refused (RecordReason.hook_full (move_full s x o h) (HookFull.second two h))))
      (λ h. Judged.refused (RecordReason.not_opposite (move_apart s x h) (record { two = two; differ = h })))

  judged : InRange x → Judged s x (Step s x (apply_of s x)) (number_at s x)
  unfolding by_kind
  judged f = go f.known
    where
      go : Known x.kind → Judged s x (Step s x (apply_of s x)) (number_at s x)
      go (Known.rack e) = stepped (rack_number s x e) (rack_state s x e) (Step.rack e) (rack_judged e)
      go (Known.drop e) = Judged.fine (drop_number s x e) (rw (drop_state s x e) (Step.drop e))
      go (Known.xfer e) = stepped (xfer_number s x e) (xfer_state s x e) (λ (o, h). Step.xfer e o h) (move_judged (simp e))
      go (Known.carrier_in e) = stepped (in_number s x e) (in_state s x e) (Step.carrier_in e) (in_judged e)
      go (Known.carrier_out e) =
          stepped (out_number s x e) (out_state s x e) (Step.carrier_out e) (parked_judged x.carrier (first (simp e (omega arith))) (exit_slot s x) (λ q. omega arith) (simp e))
      go (Known.miss e) = stepped (miss_number s x e) (miss_state s x e) (Step.miss e) (parked_judged x.carrier (first (simp e (omega arith))) (entry_slot s x) (λ q. omega arith) (simp e))
      go (Known.tuck e) =
          stepped (tuck_number s x e) (tuck_state s x e) (λ ((p, h), r). Step.tuck e p h r) (both (ready_judged (loop (Forms.tuck e))) (room_judged (loops_on s x.at) 1 (HookFull.tuck e)))
      go (Known.knit e) = stepped (knit_number s x e) (knit_state s x e) (λ (p, h). Step.knit e p h) (ready_judged (loop (Forms.knit e)))
      go (Known.split e) =
          stepped (split_number s x e) (split_state_lem s x e ∙ split_said s x (split_hooks s x f e)) (λ ((p, h), (o, r)). Step.split e p h o r)
          (both (ready_judged (loop (Forms.split e))) (move_judged (simp e)))
      go (Known.plated_tuck e) =
          stepped (plated_tuck_number s x e) (plated_tuck_state s x e) (λ (two, (p, r)). Step.plated_tuck e two p.parked p.parked_second p.near p.near_second r)
          (both (twice_judged (simp e)) (both (pair_judged (Plated.tuck e)) (room_judged (loops_on s x.at) 2 (HookFull.plated_tuck e))))
      go (Known.plated_knit e) =
          stepped (plated_knit_number s x e) (plated_knit_state s x e) (λ (two, (p, r)). Step.plated_knit e two p.parked p.parked_second p.near p.near_second r)
          (both (twice_judged (simp e)) (both (pair_judged (Plated.knit e)) (room_judged 0 2 (HookFull.plated_knit e))))

  pub step_sound : InRange x → number_at s x ≡ 0 → Step s x (apply_of s x)
  step_sound f z = go (judged f)
    where
      go : Judged s x (Step s x (apply_of s x)) (number_at s x) → Step s x (apply_of s x)
      go (Judged.fine e p) = p
      go (Judged.refused r) = absurd (record_other r 0 refl z)

  pub number_reason : InRange x → (number_at s x ≡ 0 → ⊥) → RecordReason (number_at s x) s x
  number_reason f h = go (judged f)
    where
      go : Judged s x (Step s x (apply_of s x)) (number_at s x) → RecordReason (number_at s x) s x
      go (Judged.fine e p) = absurd (h e)
      go (Judged.refused r) = r
