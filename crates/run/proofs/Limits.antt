-- A program at another limit: a step at one limit is the same step at every greater one, and at a smaller one the only new reason is a full hook.
-- Assumes nothing.
use borrow.Table.Steps.{cases}
use Prim.Native.Nat.{ℕ, ◌≤◌, ◌<◌}
use mathlib.Core.Path.{◌≡◌, refl, sym, ap, ◌∙◌}
use mathlib.Core.Bool.{false}
use mathlib.Core.List.{List}
use mathlib.Core.Logic.{◌⊎◌, inl, inr, ⊎_elim}
use native.Mathlib.Omega.{arith}
use lib.Dec.{leb}
use lib.ListN.{length, take, drop}
use borrow.Author.Tests.{leb-true, leb-false}
use Rattle.machine.specs.declared.State.{State}
use Rattle.machine.specs.Machine.{empty_state}
use Rattle.record.specs.declared.Record.{Record}
use Rattle.run.specs.declared.Answer.{Answer}
use Rattle.run.specs.Relation.{Step, Steps, Valid}
use Rattle.run.specs.Reason.{RecordReason, Reason}
use Rattle.run.specs.Run.{step_of, answer_of}
use Rattle.run.specs.Claims.{FirstRefusal, at_limit, ValidAtGreater, AtAnotherLimit}
use Rattle.run.proofs.Bytes.{reason_no_step, step_exact, step_refuses}
use Rattle.run.proofs.Runs.{step_frame}
use Rattle.run.proofs.Answers.{Answered, answered, valid_run}
use Rattle.run.proofs.Unique.{one_refusal}
use Rattle.run.proofs.Demand.{final}

-- ---- greater
-- only the room asked for looks at the limit, and a greater one has it
raised : {s : State} {x : Record} {t : State} (n : ℕ) → s.limit ≤ n → Step s x t → Step (at_limit n s) x (at_limit n t)
raised n h (Step.rack e u) = Step.rack e u
raised n h (Step.drop e) = Step.drop e
raised n h (Step.xfer e o r) = Step.xfer e o (omega arith)
raised n h (Step.carrier_in e c) = Step.carrier_in e c
raised n h (Step.carrier_out e p) = Step.carrier_out e p
raised n h (Step.miss e p) = Step.miss e p
raised n h (Step.tuck e p f r) = Step.tuck e p f (omega arith)
raised n h (Step.knit e p f) = Step.knit e p f
raised n h (Step.split e p f o r) = Step.split e p f o (omega arith)
raised n h (Step.plated_tuck e two p q f g r) = Step.plated_tuck e two p q f g (omega arith)
raised n h (Step.plated_knit e two p q f g r) = Step.plated_knit e two p q f g (omega arith)

all_raised : {s t : State} {p : List ℕ} (n : ℕ) → s.limit ≤ n → Steps s p t → Steps (at_limit n s) p (at_limit n t)
all_raised n h Steps.none = Steps.none
all_raised n h (Steps.next form step more) = Steps.next form (raised n h step) (all_raised n (omega (arith, (step_frame step).limit)) more)

from_empty : {q : List ℕ} {t : State} (m n : ℕ) → m ≤ n → Steps (empty_state m) q t → Steps (empty_state n) q (at_limit n t)
unfolding empty_state
from_empty m n h steps = all_raised n h steps

pub valid_at_greater : ValidAtGreater
valid_at_greater m n p t v h k =
    record { limit_in = record { least = omega (arith, v.limit_in.least); most = k }; short = v.short; steps = from_empty m n h v.steps }

-- ---- smaller
-- every reason but a full hook holds at another limit too
same_reason : {n : ℕ} {s : State} {x : Record} (m : ℕ) → RecordReason n s x → (n ≡ 11) ⊎ RecordReason n (at_limit m s) x
same_reason m (RecordReason.yarn_twice e a) = inr (RecordReason.yarn_twice e a)
same_reason m (RecordReason.stretched e a) = inr (RecordReason.stretched e (record { kind = a.kind; carrier = a.carrier; stretches = a.stretches }))
same_reason m (RecordReason.already_in e a) = inr (RecordReason.already_in e (record { kind = a.kind; active = a.active }))
same_reason m (RecordReason.not_in e a) = inr (RecordReason.not_in e (record { carrier = a.carrier; named = a.named; other = a.other; carrier_off = a.carrier_off }))
same_reason m (RecordReason.wrong_slot e a) =
    inr (RecordReason.wrong_slot e (record { carrier = a.carrier; named = a.named; other = a.other; active = a.active; elsewhere = a.elsewhere }))
same_reason m (RecordReason.float_too_long e a) =
    inr (RecordReason.float_too_long e (record { carrier = a.carrier; named = a.named; formed = a.formed; attached = a.attached; over = a.over }))
same_reason m (RecordReason.not_opposite e a) = inr (RecordReason.not_opposite e (record { two = a.two; differ = a.differ }))
same_reason m (RecordReason.hook_full e a) = inl e

another_reason : {n : ℕ} {s : State} {l : List ℕ} (m : ℕ) → Reason n s l → (n ≡ 11) ⊎ Reason n (at_limit m s) l
another_reason m (Reason.unknown_kind e a) = inr (Reason.unknown_kind e a)
another_reason m (Reason.cut_short e a) = inr (Reason.cut_short e a)
another_reason m (Reason.field_range e a) = inr (Reason.field_range e a)
another_reason m (Reason.of_record bytes rest x e form r) = ⊎_elim inl (λ q. inr (Reason.of_record bytes rest x e form q)) (same_reason m r)

-- a valid program has no reason anywhere along its run
module _ {m : ℕ} {p : List ℕ} {t : State} (v : Valid m p t) (k : ℕ) {u : State} (within : k < length p) (before : Steps (empty_state m) (take k p) u) where
  none_there : {n : ℕ} → Reason n u (drop k p) → ⊥
  unfolding answer_of
  none_there r = refused (ap (λ (a : Answer). a.number) (sym (one_refusal v.limit_in p there v.short first) ∙ valid_run p t v))
    where
      refused : (step_of u (drop k p)).number ≡ 0 → ⊥
      refused z = let (bytes, rest, x, w, e, form, step) = (step_exact u (drop k p)).0 z in reason_no_step r bytes rest x w e form step

      there : Answer
      there = record { number = (step_of u (drop k p)).number; place = k; complete = false; state = u }

      first : FirstRefusal m p there
      first = record { within = within; before = before; no_step = reason_no_step r; first = (step_refuses u (drop k p) refused).first }

pub at_another_limit : AtAnotherLimit
unfolding answer_of
at_another_limit m n p t v i =
    cases (leb m n) (λ b. inl (final n p _ (valid_at_greater m n p t v (leb-true m n b) i.most)).number) (λ b. smaller (leb-false m n b) (answered n p))
  where
    smaller : n < m → {a : Answer} → Answered n p a → (a.number ≡ 0) ⊎ ((a.number ≡ 11) × (n < m))
    smaller h (Answered.through j l steps) = inl refl
    smaller h (Answered.refused {k = k} j l within before r) =
        ⊎_elim (λ e. inr (e, h)) (λ q. absurd (none_there v k within (from_empty n m (omega arith) before) q)) (another_reason m r.reason)
    smaller h (Answered.too_long j l) = absurd (omega (arith, v.short))
    smaller h (Answered.bad_limit j) = absurd (j i)
