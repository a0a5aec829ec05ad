-- Demand 2: the run's answer against the validity relation, for every program. Assumes nothing.
use mathlib.Core.Path.{◌≡◌, refl, sym, ap, ◌∙◌}
use borrow.Table.Steps.{cases}
use borrow.Author.Tests.{leb-true, leb-false}
use Prim.Native.Nat.{ℕ, ◌≤◌}
use lib.Dec.{leb}
use mathlib.Core.Bool.{true, false}
use mathlib.Core.List.{List, [], ◌∷◌}
use mathlib.Core.Logic.{◌⊎◌, inl, inr, ⊎_elim}
use native.Mathlib.Omega.{arith}
use Rattle.machine.specs.declared.State.{State}
use Rattle.machine.specs.Machine.{empty_state, carrier_of}
use Rattle.machine.specs.Geometry.{exit_of}
use Rattle.machine.specs.Stretch.{slot_beside, distance_of}
use Rattle.record.specs.Kinds.{RACK}
use Rattle.machine.specs.Range.{LimitInRange}
use Rattle.machine.proofs.Stretches.{front_stays as front-as-far}
use Rattle.record.specs.declared.Record.{Record}
use Rattle.record.specs.Format.{Encodes, signed_of}
use Rattle.run.specs.declared.Answer.{Answer}
use Rattle.run.specs.Run.{Reached}
use Rattle.run.specs.Relation.{Active, Attached, Unstretched, Step, Steps}
use Rattle.run.specs.Run.{answer_of, run_of, step_of}
use Rattle.run.specs.Claims.{AcceptsExactlyValid, GivesFinalState, BadLimitExactly, TooLongExactly, TooLongAnswer, RefusesFirst, RefusalIsOne, PlaceIsSmall, CompleteIsEmpty, StepKeepsLimit, RunKeepsLimit, ReasonExactlyNoStep, StepAcceptsExactly, StepGives, StepRefuses}
use Rattle.run.specs.Claims.{CurrentRackSteps, RackExactly, LoopAtItsSlot, FrontStays, StretchedExactly, RunInRange, StepInRange, StepsAreTheRun, StepsAreOne, RefuserIsNotTheRun}
use Rattle.run.proofs.Bytes.{reason_no_step, no_step_reason, step_exact, step_gives, step_number, step_refuses}
use Rattle.run.proofs.ByKind.{rack_number}
use Rattle.run.proofs.Racks.{rack_seventeen, current_rack}
use Rattle.run.proofs.Runs.{step_frame}
use Rattle.run.proofs.Refusals.{begun, by_number}
use Rattle.run.proofs.Unique.{one_refusal}
use Rattle.run.proofs.Answers.{long_run, bad_run, valid_run, answered, accepted, one_long, fifteen_bad, first_refusal, place_small, answer_limit_lem, complete_empty}
use Rattle.run.proofs.Ranges.{answer_in, slice_keeps}
use Rattle.run.proofs.Stepwise.{steps_are_the_run as service-is-the-run, steps_are_one as service-is-one, refuser_stops}

pub final : GivesFinalState
unfolding answer_of
final limit p t v = let e = valid_run p t v in record { number = ap (λ (a : Answer). a.number) e; place = ap (λ (a : Answer). a.place) e; state = ap (λ (a : Answer). a.state) e }

pub accepts : AcceptsExactlyValid
accepts limit p = (accepted (answered limit p), λ (t, v). (final limit p t v).number)

pub too_long_answer : TooLongAnswer
too_long_answer limit p i h = long_run i p h

pub too_long : TooLongExactly
too_long limit p i = (one_long (answered limit p), λ h. ap (λ (a : Answer). a.number) (too_long_answer limit p i h))

pub bad_limit : BadLimitExactly
bad_limit limit p = (fifteen_bad (answered limit p), λ i. ap (λ (a : Answer). a.number) (bad_run i p))

pub step_keeps_limit : StepKeepsLimit
step_keeps_limit s t x step = (step_frame step).limit

pub run_keeps_limit : RunKeepsLimit
run_keeps_limit limit p = answer_limit_lem (answered limit p)

pub refuses : RefusesFirst
refuses limit p = first_refusal (answered limit p)

pub one_answer : RefusalIsOne
unfolding answer_of
one_answer limit p a i h f =
    let e = one_refusal i p a h f in
    (ap (λ (b : Answer). b.number) e, ap (λ (b : Answer). b.place) e, ap (λ (b : Answer). b.state) e)

pub complete : CompleteIsEmpty
complete limit p = complete_empty (answered limit p)

pub place_bound : PlaceIsSmall
place_bound limit p = place_small (answered limit p)

pub reason_exact : ReasonExactlyNoStep
reason_exact s l = ((λ (n, r). reason_no_step r), no_step_reason s l)

pub step_accepts : StepAcceptsExactly
step_accepts = step_exact

pub step_done : StepGives
step_done = step_gives

pub step_refused : StepRefuses
step_refused = step_refuses

pub run_in_range : RunInRange
run_in_range limit p = answer_in (answered limit p)

pub step_in_range : StepInRange
step_in_range = slice_keeps

pub steps_are_the_run : StepsAreTheRun step_of
steps_are_the_run = service-is-the-run step_of (λ s l h. refl)

pub steps_are_one : StepsAreOne step_of
steps_are_one = service-is-one step_of (λ s l h. refl)

-- ---- racks
pub current_rack_steps : CurrentRackSteps
current_rack_steps = current_rack

-- the step of a rack is by its rule
by_rule : {s : State} {x : Record} {t : State} → x.kind ≡ RACK → Step s x t → Unstretched s x.racking
by_rule k (Step.rack e u) = u
by_rule k (Step.drop e) = absurd (omega arith)
by_rule k (Step.xfer e o r) = absurd (omega arith)
by_rule k (Step.carrier_in e c) = absurd (omega arith)
by_rule k (Step.carrier_out e p) = absurd (omega arith)
by_rule k (Step.miss e p) = absurd (omega arith)
by_rule k (Step.tuck e p f r) = absurd (omega arith)
by_rule k (Step.knit e p f) = absurd (omega arith)
by_rule k (Step.split e p f o r) = absurd (omega arith)
by_rule k (Step.plated_tuck e two p q f g r) = absurd (omega arith)
by_rule k (Step.plated_knit e two p q f g r) = absurd (omega arith)

pub rack_exactly : RackExactly
rack_exactly s x e = (
  λ (t, step). kept (by_rule e step),
  λ h. (_, Step.rack e (λ k u. ⊎_elim (λ near. omega (arith, near, u.over)) (λ less. omega (arith, less, u.greater)) (h k u.parked u.attached))),
)
  where
    kept : Unstretched s x.racking → (k : ℕ) → Active (carrier_of s k) → Attached (carrier_of s k)
        → (distance_of x.racking (carrier_of s k) ≤ 20) ⊎ (distance_of x.racking (carrier_of s k) ≤ distance_of s.racking (carrier_of s k))
    kept u k a b =
        cases (leb (distance_of x.racking (carrier_of s k)) 20) (λ t. inl (leb-true _ 20 t))
        (λ t. cases (leb (distance_of x.racking (carrier_of s k)) (distance_of s.racking (carrier_of s k))) (λ v. inr (leb-true _ _ v))
        (λ v. absurd (u k (record { parked = a; attached = b; over = leb-false _ 20 t; greater = leb-false _ _ v }))))

pub loop_at_its_slot : LoopAtItsSlot
unfolding slot_beside exit_of
loop_at_its_slot r n true = refl
loop_at_its_slot r n false = refl

pub front_stays : FrontStays
front_stays r z c e = let d = front-as-far r z c e in (d, λ u. omega (arith, d, u.greater))

pub stretched_exactly : StretchedExactly
stretched_exactly s l = (
  λ q. let (bytes, rest, x, e, form, r) = begun (step_refuses s l (λ z. omega (arith, q, z))).first.reason (omega (arith, q)) in (bytes, rest, x, e, form, (by_number r).stretched q),
  λ (bytes, rest, x, e, form, a). ap (λ (p : List ℕ). (step_of s p).number) e
      ∙ step_number s bytes rest x form 17 (rack_number s x a.kind ∙ rack_seventeen s x a.carrier a.stretches) (λ z. omega arith),
)

-- a rack of racking 0 is done at limit 1, whatever a service says
one : LimitInRange 1
one = record { least = omega arith; most = omega arith }

zero_rack : (r : Reached) → run_of 1 (1 ∷ 0 ∷ []) ≡ answer_of r → r.number ≡ 0
unfolding answer_of signed_of empty_state
zero_rack r e =
    sym (ap (λ (a : Answer). a.number) e)
    ∙ (accepts 1 (1 ∷ 0 ∷ [])).1 (_, record { limit_in = one; short = omega arith; steps = Steps.next {rest = []} (Encodes.rack {b = 0} (omega arith)) (current_rack (empty_state 1) _ refl refl) Steps.none })

pub refuser_is_not_the_run : RefuserIsNotTheRun
refuser_is_not_the_run h = let (r, w, e) = h 1 (1 ∷ 0 ∷ []) one (omega arith) in omega (arith, refuser_stops (omega arith) w, zero_rack r e)
