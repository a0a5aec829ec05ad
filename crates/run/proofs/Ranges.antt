-- Every state that a step or the run gives is in range: by the relation's rules, and along them. Assumes nothing.
use Prim.Native.Nat.{ℕ, ◌+◌, ◌-◌, ◌≤◌}
use mathlib.Core.Path.{refl, sym, ap, subst, ◌∙◌}
use mathlib.Core.Bool.{Bool, true, false}
use mathlib.Core.List.{List}
use native.Mathlib.Omega.{arith}
use lib.IntN.{nat_abs}
use Rattle.machine.specs.declared.Needle.{Needle}
use Rattle.machine.specs.declared.Slot.{Slot}
use Rattle.machine.specs.declared.Carrier.{Carrier}
use Rattle.machine.specs.declared.State.{State}
use Rattle.machine.specs.Machine.{OnBed, inactive, hook_of, loops_on, carrier_of, moved_to}
use Rattle.machine.specs.Range.{SlotInRange, CarrierInRange, StateInRange}
use Rattle.machine.proofs.Ranges.{every_set, every_map, entry_in, exit_in, inactive_in, moved_in, empty_in}
use Rattle.machine.specs.Limits.{racking_most}
use Rattle.record.specs.declared.Record.{Record}
use Rattle.record.specs.Format.{Encodes}
use Rattle.record.proofs.Ranges.{InRange}
use Rattle.record.proofs.Shapes.{is}
use Rattle.record.proofs.Forms.{form_in}
use Rattle.run.specs.declared.Answer.{Answer}
use Rattle.run.specs.declared.Stepped.{Stepped}
use Rattle.run.specs.Relation.{Active, Room, Step, Steps, with_loops, with_carrier, transferred, reparked, attached, entry_slot, exit_slot}
use Rattle.run.specs.Run.{answer_of, step_of}
use Rattle.run.specs.Claims.{StepInRange}
use Rattle.run.proofs.Premises.{sum}
use Rattle.run.proofs.Bytes.{step_exact, step_gives, step_refuses}
use Rattle.run.proofs.Answers.{Answered}

-- ---- a state with one thing changed
module _ {s : State} (h : StateInRange s) where
  loops_in : (n : Needle) (v : ℕ) → v ≤ s.limit → StateInRange (with_loops s n v)
  loops_in n v k = record { racking = h.racking; limit = h.limit; loops = every_set (λ (m : ℕ). m ≤ s.limit) 0 s.loops (hook_of n) v k h.loops; carriers = h.carriers }

  carrier_in : (k : ℕ) (c : Carrier) → CarrierInRange c → StateInRange (with_carrier s k c)
  carrier_in k c p = record { racking = h.racking; limit = h.limit; loops = h.loops; carriers = every_set CarrierInRange inactive s.carriers (k - 1) c p h.carriers }

transferred_in : {s : State} → StateInRange s → (x : Record) → OnBed x.to → Room s (sum s x) → StateInRange (transferred s x.at x.to)
transferred_in {s} h x b r = record {
  racking = h.racking;
  limit = h.limit;
  loops = (loops_in (loops_in h x.at 0 (omega arith)) x.to (sum s x) r).loops;
  carriers = every_map CarrierInRange inactive (moved_to x.at x.to) (moved_in x.at x.to b) s.carriers h.carriers;
}

-- ---- a carrier that parks anew, and one that is attached
reparked_in : (c : Carrier) (z : Slot) → Active c → SlotInRange z → CarrierInRange c → CarrierInRange (reparked c z)
reparked_in c z a k (CarrierInRange.idle e) = absurd (a (ap (λ (c : Carrier). c.active) e))
reparked_in c z a k (CarrierInRange.unattached b y u n) = CarrierInRange.unattached refl k u n
reparked_in c z a k (CarrierInRange.attached b y u v n) = CarrierInRange.attached refl k u v n

attached_in : (z : Slot) (n : Needle) (right : Bool) → SlotInRange z → OnBed n → CarrierInRange (attached z n right)
attached_in z n true k b = CarrierInRange.attached refl k (omega arith) (omega arith) b
attached_in z n false k b = CarrierInRange.attached refl k (omega arith) (omega arith) b

-- ---- a step keeps a state in range
module _ {s : State} {x : Record} (h : StateInRange s) (f : InRange x) where
  entry : SlotInRange (entry_slot s x)
  entry = entry_in x.at s.racking f.at_bed h.racking x.right

  exit : SlotInRange (exit_slot s x)
  exit = exit_in x.at s.racking f.at_bed h.racking x.right

  worked : CarrierInRange (attached (exit_slot s x) x.at x.right)
  worked = attached_in (exit_slot s x) x.at x.right exit f.at_bed

  step_keeps : nat_abs x.racking.0 ≤ racking_most → {t : State} → Step s x t → StateInRange t
  step_keeps r (Step.rack e u) = record { racking = r; limit = h.limit; loops = h.loops; carriers = h.carriers }
  step_keeps r (Step.drop e) = loops_in h x.at 0 (omega arith)
  step_keeps r (Step.xfer e o k) = transferred_in h x f.to_bed k
  step_keeps r (Step.carrier_in e c) = carrier_in h x.carrier _ (CarrierInRange.unattached refl entry refl refl)
  step_keeps r (Step.carrier_out e p) = carrier_in h x.carrier inactive inactive_in
  step_keeps r (Step.miss e p) =
      carrier_in h x.carrier _ (reparked_in (carrier_of s x.carrier) (exit_slot s x) p.active exit (h.carriers (x.carrier - 1)))
  step_keeps r (Step.tuck e p g k) = carrier_in (loops_in h x.at (loops_on s x.at + 1) k) x.carrier _ worked
  step_keeps r (Step.knit e p g) = carrier_in (loops_in h x.at 1 h.limit.least) x.carrier _ worked
  step_keeps r (Step.split e p g o k) = carrier_in (loops_in (transferred_in h x f.to_bed k) x.at 1 h.limit.least) x.carrier _ worked
  step_keeps r (Step.plated_tuck e two p q g i k) = carrier_in (carrier_in (loops_in h x.at (loops_on s x.at + 2) k) x.carrier _ worked) x.second _ worked
  step_keeps r (Step.plated_knit e two p q g i k) = carrier_in (carrier_in (loops_in h x.at 2 k) x.carrier _ worked) x.second _ worked

racking_in : {bytes : List ℕ} {x : Record} → Encodes bytes x → nat_abs x.racking.0 ≤ racking_most
racking_in (Encodes.rack h) = h
racking_in (Encodes.drop h i) = omega arith
racking_in (Encodes.xfer h i j) = omega arith
racking_in (Encodes.work a b c d e f g) = omega arith
racking_in (Encodes.split c d e f g h) = omega arith
racking_in (Encodes.plated a b c d e f g h i) = omega arith

form_keeps : {bytes : List ℕ} {x : Record} {s t : State} → StateInRange s → Encodes bytes x → Step s x t → StateInRange t
form_keeps h form step = step_keeps h (form_in form) (racking_in form) step

steps_keep : {s t : State} {p : List ℕ} → StateInRange s → Steps s p t → StateInRange t
steps_keep h Steps.none = h
steps_keep h (Steps.next form step more) = steps_keep (form_keeps h form step) more

-- ---- the answers
pub slice_keeps : StepInRange
slice_keeps s l h =
    is (step_of s l).number 0
    (λ z. let (bytes, rest, x, t, e, form, step) = (step_exact s l).0 z in
    subst StateInRange (sym (ap (λ (a : Stepped). a.state) (ap (step_of s) e ∙ step_gives s bytes rest x t form step))) (form_keeps h form step))
    (λ d. subst StateInRange (sym (step_refuses s l d).state) h)

pub answer_in : {limit : ℕ} {p : List ℕ} {a : Answer} → Answered limit p a → StateInRange a.state
unfolding answer_of
answer_in {limit} (Answered.through i h steps) = steps_keep (empty_in limit i) steps
answer_in {limit} (Answered.refused i h k before r) = steps_keep (empty_in limit i) before
answer_in {limit} (Answered.too_long i h) = empty_in limit i
answer_in (Answered.bad_limit i) = empty_in 8 (record { least = omega arith; most = omega arith })
