-- A program stepped record by record by a service that makes the step of every state in range: its answer is the run's, and it has no other. Assumes nothing.
use Prim.Native.Nat.{ℕ, zero, suc, ◌+◌, ◌≤◌, ◌<◌}
use mathlib.Core.Path.{◌≡◌, refl, sym, ap, subst, ◌∙◌}
use mathlib.Core.List.{List, [], ◌∷◌}
use native.Mathlib.Omega.{arith}
use lib.ListN.{length, drop, length-drop}
use Rattle.machine.specs.declared.State.{State}
use Rattle.machine.specs.Machine.{empty_state}
use Rattle.machine.specs.Range.{StateInRange}
use Rattle.machine.proofs.Ranges.{empty_in}
use Rattle.run.specs.Run.{Reached}
use Rattle.run.specs.declared.Stepped.{Stepped}
use Rattle.run.specs.Run.{reached, stay, step_of, run_from, answer_of}
use Rattle.run.specs.Claims.{Stepwise, StepsAreTheRun, StepsAreOne}
use Rattle.record.proofs.Shapes.{is}
use Rattle.run.proofs.Turns.{step_sized, run_end, run_stops, run_goes}
use Rattle.run.proofs.Answers.{short_run}
use Rattle.run.proofs.Ranges.{slice_keeps}

-- ---- what the run makes of a step's answer: it stops there, or goes on behind the record
record Follows (l : List ℕ) (at : ℕ) (r : Reached) (a : Stepped) : Type 0 where
  pub stops : (a.number ≡ 0 → ⊥) → r ≡ reached a.number at a.state
  pub goes : a.number ≡ 0 → (0 < a.length) × (r ≡ run_from 0 (drop a.length l) (at + a.length) a.state)

follows : (s : State) (l : List ℕ) (at : ℕ) → 0 < length l → Follows l at (run_from 0 l at s) (step_of s l)
follows s l at h = record { stops = run_stops l at s h; goes = λ e. let some = (step_sized s l e).0 in (some, run_goes l at s h e some) }

module _ (service : State → List ℕ → Stepped) (agrees : (s : State) (l : List ℕ) → StateInRange s → service s l ≡ step_of s l) where
  module _ {s : State} (k : StateInRange s) (l : List ℕ) where
    kept : StateInRange (service s l).state
    kept = subst (λ (a : Stepped). StateInRange a.state) (sym (agrees s l k)) (slice_keeps s l k)

    served : (at : ℕ) → 0 < length l → Follows l at (run_from 0 l at s) (service s l)
    served at h = subst (Follows l at (run_from 0 l at s)) (sym (agrees s l k)) (follows s l at h)

  -- ---- there is an answer, the run's
  steps : (bound : ℕ) (l : List ℕ) → length l ≤ bound → (at : ℕ) (s : State) → StateInRange s → Stepwise service s l at (run_from 0 l at s)
  steps zero [] h at s k = rw (run_end at s) Stepwise.ended
  steps (suc bound) [] h at s k = rw (run_end at s) Stepwise.ended
  steps zero (b ∷ l) h at s k = absurd (omega arith)
  steps (suc bound) (b ∷ l) h at s k =
      let some : 0 < length (b ∷ l) = omega arith in
      let a = service s (b ∷ l) in
      is a.number 0
      (λ z. let (m, e) = (served k (b ∷ l) at some).goes z in
      rw e (Stepwise.next some z (steps bound (drop a.length (b ∷ l)) (omega (arith, length-drop a.length (b ∷ l))) (at + a.length) a.state (kept k (b ∷ l)))))
      (λ d. rw ((served k (b ∷ l) at some).stops d) (Stepwise.refused some d))

  pub steps_are_the_run : StepsAreTheRun service
  steps_are_the_run limit p i h =
      (run_from 0 p 0 (empty_state limit), steps (length p) p (omega arith) 0 (empty_state limit) (empty_in limit i), short_run i p h)

  -- ---- and no other
  one : {s : State} {l : List ℕ} {at : ℕ} {r : Reached} → StateInRange s → Stepwise service s l at r → run_from 0 l at s ≡ r
  one {s} {l} {at} k Stepwise.ended = run_end at s
  one {s} {l} {at} k (Stepwise.refused h d) = (served k l at h).stops d
  one {s} {l} {at} k (Stepwise.next h z more) = ((served k l at h).goes z).1 ∙ one (kept k l) more

  pub steps_are_one : StepsAreOne service
  steps_are_one limit p r i h w = short_run i p h ∙ ap answer_of (one (empty_in limit i) w)

-- ---- a service that refuses everything stops at the first record
pub refuser_stops : {s : State} {l : List ℕ} {at : ℕ} {r : Reached} → 0 < length l → Stepwise (λ s l. stay 15 s) s l at r → r.number ≡ 15
refuser_stops h Stepwise.ended = absurd (omega arith)
refuser_stops h (Stepwise.refused k d) = refl
refuser_stops h (Stepwise.next k z more) = absurd (omega (arith, z))
