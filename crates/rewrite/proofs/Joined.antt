-- A program is valid at a limit exactly if it is not too long and the machine runs its records, each by its bytes, to the end. Assumes nothing.
use Prim.Native.Nat.{ℕ, ◌≤◌}
use mathlib.Core.Path.{◌≡◌, refl, subst}
use mathlib.Core.Bool.{true≢false}
use mathlib.Core.List.{List, [], ◌∷◌}
use mathlib.Core.Option.{Option, none, some}
use lib.ListN.{length}
use borrow.Author.Tests.{eq-eqb}
use Rattle.machine.specs.Limits.{program_most}
use Rattle.machine.specs.declared.State.{State}
use Rattle.machine.specs.Machine.{empty_state}
use Rattle.machine.specs.Range.{LimitInRange}
use Rattle.record.specs.declared.Record.{Record}
use Rattle.record.specs.Format.{Encodes}
use Rattle.record.proofs.Forms.{form_in}
use Rattle.run.specs.Relation.{Step, Steps, Valid}
use Rattle.run.specs.Step.{number_at}
use Rattle.run.proofs.Sound.{step_only, step_sound}
use Rattle.trace.specs.Machine.{Ends}
use Rattle.rewrite.specs.Programs.{flat, cut, records_of, what}
use Rattle.rewrite.proofs.Machine.{machine, Had, had}
use Rattle.rewrite.proofs.Records.{records_flat, record_form, form_record, form_what, records_next}

-- ---- one record
form_step : {x : List ℕ} {r : Record} {s t : State} → Encodes x r → Step s r t → machine.step s x ≡ some t
form_step {x} {r} {s} {t} form step =
    let (z, e) = step_only s r (form_in form) step in
    simp (form_record form, form_what form) (simp (eq-eqb (number_at s r) 0 z, e))

step_form : (s t : State) (x : List ℕ) → Had s t x → Step s (what x) t
step_form s t x h = subst (Step s (what x)) h.state (step_sound s (what x) (form_in (record_form x h.is_one_record)) h.number)

-- ---- a list of records
steps_end : {s t : State} {p : List ℕ} → Steps s p t → Ends machine s (records_of p) t
unfolding cut
steps_end Steps.none = refl
steps_end (Steps.next {bytes = bytes} {rest = rest} form step more) = rw (records_next bytes rest (form_record form), form_step form step) (steps_end more)

end_steps : (l : List (List ℕ)) (s t : State) → Ends machine s l t → Steps s (flat l) t
end_steps [] s t e = let f : s ≡ t = cc in subst (Steps s []) f Steps.none
end_steps (x ∷ l) s t e = go (machine.step s x) refl (end_steps l)
  where
    go : (o : Option State) → machine.step s x ≡ o → ((u t : State) → Ends machine u l t → Steps u (flat l) t) → Steps s (flat (x ∷ l)) t
    go none q more = absurd (true≢false (cc))
    go (some u) q more = let h = had s u x q in Steps.next (record_form x h.is_one_record) (step_form s u x h) (more u t (cc))

-- ---- a program
pub valid_ends : {limit : ℕ} {p : List ℕ} {t : State} → Valid limit p t → Ends machine (empty_state limit) (records_of p) t
valid_ends v = steps_end v.steps

pub ends_valid : {limit : ℕ} → LimitInRange limit → (p : List ℕ) {t : State} → length p ≤ program_most → Ends machine (empty_state limit) (records_of p) t → Valid limit p t
ends_valid {limit} i p {t} h e =
    record { limit_in = i; short = h; steps = subst (λ (q : List ℕ). Steps (empty_state limit) q t) (records_flat p) (end_steps (records_of p) (empty_state limit) t e) }
