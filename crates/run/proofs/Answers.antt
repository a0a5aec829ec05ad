-- The answer to a limit and a program: what is said of every way in which a run ends, said of its answer. Assumes nothing.
use borrow.Table.Steps.{cases}
use Prim.Native.Nat.{ℕ, ◌≤◌, ◌<◌}
use mathlib.Core.Path.{◌≡◌, refl, ap, subst, ◌∙◌}
use mathlib.Core.Bool.{true}
use mathlib.Core.List.{List}
use native.Mathlib.Omega.{arith}
use lib.Dec.{leb}
use lib.ListN.{length, take, drop, length-replicate}
use borrow.Author.Tests.{leb-true, leb-false, le-leb, lt-leb}
use Rattle.machine.specs.declared.State.{State}
use Rattle.machine.specs.Machine.{empty_state, complete_of, inactive}
use Rattle.machine.specs.Range.{LimitInRange}
use Rattle.machine.proofs.Laws.{empty_is_complete, complete_exactly}
use Rattle.machine.proofs.Ranges.{limit_exactly, limit_cases, limit_out}
use Rattle.run.specs.Run.{Reached}
use Rattle.run.specs.declared.Answer.{Answer}
use Rattle.run.specs.Relation.{Steps, Valid}
use Rattle.run.specs.Reason.{First}
use Rattle.run.specs.Run.{reached, run_from, start_no, answer_limit, answer_of, run_of}
use Rattle.run.specs.Claims.{FirstRefusal, Complete}
use Rattle.run.proofs.Refusals.{reason_other}
use Rattle.run.proofs.Bytes.{reason_no_step}
use Rattle.run.proofs.Runs.{Ends, runs, run_steps, steps_frame}

module _ {limit : ℕ} where
  -- ---- a program that is not too long, one that is, and a limit out of range
  pub short_run : LimitInRange limit → (p : List ℕ) → length p ≤ 32768 → run_of limit p ≡ answer_of (run_from 0 p 0 (empty_state limit))
  unfolding run_of start_no answer_limit
  short_run i p h = simp ((limit_exactly limit).1 i, le-leb (length p) 32768 h)

  pub long_run : LimitInRange limit → (p : List ℕ) → 32768 < length p → run_of limit p ≡ record { number = 1; place = 0; complete = true; state = empty_state limit }
  unfolding run_of start_no answer_limit answer_of
  long_run i p h = simp ((limit_exactly limit).1 i, lt-leb (length p) 32768 h, empty_is_complete limit)

  pub bad_run : (LimitInRange limit → ⊥) → (p : List ℕ) → run_of limit p ≡ record { number = 15; place = 0; complete = true; state = empty_state 8 }
  unfolding run_of start_no answer_limit answer_of
  bad_run i p = simp (limit_out limit i, empty_is_complete 8)

  pub valid_run : (p : List ℕ) (t : State) → Valid limit p t → run_of limit p ≡ answer_of (reached 0 0 t)
  valid_run p t v = short_run v.limit_in p v.short ∙ ap answer_of (run_steps v.steps 0)

-- ---- every answer is one of four
pub data Answered (limit : ℕ) (p : List ℕ) : Answer → Type 0 where
  through : {t : State} → LimitInRange limit → length p ≤ 32768 → Steps (empty_state limit) p t → Answered limit p (answer_of (reached 0 0 t))
  refused : {n k : ℕ} {t : State} → LimitInRange limit → length p ≤ 32768 → k < length p → Steps (empty_state limit) (take k p) t → First n t (drop k p)
      → Answered limit p (answer_of (reached n k t))
  too_long : LimitInRange limit → 32768 < length p → Answered limit p (record { number = 1; place = 0; complete = true; state = empty_state limit })
  bad_limit : (LimitInRange limit → ⊥) → Answered limit p (record { number = 15; place = 0; complete = true; state = empty_state 8 })

ended : {limit : ℕ} {p : List ℕ} {r : Reached} → LimitInRange limit → length p ≤ 32768 → Ends p 0 (empty_state limit) r → Answered limit p (answer_of r)
ended i h (Ends.through steps) = Answered.through i h steps
ended {limit} {p} i h (Ends.refused {n = n} {place = place} {k = k} {t = t} e b before r) =
    let w : k ≡ place = omega arith in subst (λ (m : ℕ). Answered limit p (answer_of (reached n m t))) w (Answered.refused i h b before r)

pub answered : (limit : ℕ) (p : List ℕ) → Answered limit p (run_of limit p)
answered limit p =
    limit_cases limit
    (λ i. cases (leb (length p) 32768)
    (λ t. let h = leb-true (length p) 32768 t in rw (short_run i p h) (ended i h (runs (length p) p (omega arith) 0 (empty_state limit))))
    (λ t. let h = leb-false (length p) 32768 t in rw (long_run i p h) (Answered.too_long i h)))
    (λ i. rw (bad_run i p) (Answered.bad_limit i))

module _ {limit : ℕ} {p : List ℕ} where
  pub accepted : {a : Answer} → Answered limit p a → a.number ≡ 0 → (t : State) × Valid limit p t
  unfolding answer_of
  accepted (Answered.through {t = t} i h steps) e = (t, record { limit_in = i; short = h; steps = steps })
  accepted (Answered.refused i h k before r) e = absurd (reason_other r.reason 0 refl e)
  accepted (Answered.too_long i h) e = absurd (omega arith)
  accepted (Answered.bad_limit i) e = absurd (omega arith)

  pub one_long : {a : Answer} → Answered limit p a → a.number ≡ 1 → 32768 < length p
  unfolding answer_of
  one_long (Answered.through i h steps) e = absurd (omega arith)
  one_long (Answered.refused i h k before r) e = absurd (reason_other r.reason 1 refl e)
  one_long (Answered.too_long i h) e = h
  one_long (Answered.bad_limit i) e = absurd (omega arith)

  pub fifteen_bad : {a : Answer} → Answered limit p a → a.number ≡ 15 → LimitInRange limit → ⊥
  unfolding answer_of
  fifteen_bad (Answered.through i h steps) e j = omega arith
  fifteen_bad (Answered.refused i h k before r) e j = reason_other r.reason 15 refl e
  fifteen_bad (Answered.too_long i h) e j = omega arith
  fifteen_bad (Answered.bad_limit i) e j = i j

  pub first_refusal : {a : Answer} → Answered limit p a → LimitInRange limit → length p ≤ 32768 → (a.number ≡ 0 → ⊥) → FirstRefusal limit p a
  unfolding answer_of
  first_refusal (Answered.through i h steps) j l d = absurd (d refl)
  first_refusal (Answered.refused i h k before r) j l d = record { within = k; before = before; no_step = reason_no_step r.reason; first = r }
  first_refusal (Answered.too_long i h) j l d = absurd (omega arith)
  first_refusal (Answered.bad_limit i) j l d = absurd (i j)

  pub place_small : {a : Answer} → Answered limit p a → a.place < 32768
  unfolding answer_of
  place_small (Answered.through i h steps) = omega arith
  place_small (Answered.refused i h k before r) = omega arith
  place_small (Answered.too_long i h) = omega arith
  place_small (Answered.bad_limit i) = omega arith

-- an answer's state has 500 hooks and ten carriers
pub record FullSize (s : State) : Type 0 where
  pub loops : length s.loops ≡ 500
  pub carriers : length s.carriers ≡ 10

pub empty_size : (limit : ℕ) → FullSize (empty_state limit)
unfolding empty_state
empty_size limit = record { loops = length-replicate {A = ℕ} 500 0; carriers = length-replicate 10 inactive }

-- of a state that steps lead to
module _ (limit : ℕ) {q : List ℕ} {t : State} (steps : Steps (empty_state limit) q t) where
  steps_size : FullSize t
  steps_size = let same = steps_frame steps in record { loops = same.loops ∙ (empty_size limit).loops; carriers = same.carriers ∙ (empty_size limit).carriers }

  steps_limit : t.limit ≡ limit
  unfolding empty_state
  steps_limit = (steps_frame steps).limit

  -- it is the empty one exactly where it is complete
  complete_at : Complete (complete_of t) t
  complete_at = complete_exactly t steps_size.loops steps_size.carriers

module _ {limit : ℕ} {p : List ℕ} where
  pub answer_size : {a : Answer} → Answered limit p a → FullSize a.state
  unfolding answer_of
  answer_size (Answered.through i h steps) = steps_size limit steps
  answer_size (Answered.refused i h k before r) = steps_size limit before
  answer_size (Answered.too_long i h) = empty_size limit
  answer_size (Answered.bad_limit i) = empty_size 8

  -- the limit given, or 8 after 15
  pub answer_limit_lem : {a : Answer} → Answered limit p a → (LimitInRange limit → a.state.limit ≡ limit) × ((LimitInRange limit → ⊥) → a.state.limit ≡ 8)
  unfolding answer_of empty_state
  answer_limit_lem (Answered.through i h steps) = ((λ j. steps_limit limit steps), (λ j. absurd (j i)))
  answer_limit_lem (Answered.refused i h k before r) = ((λ j. steps_limit limit before), (λ j. absurd (j i)))
  answer_limit_lem (Answered.too_long i h) = ((λ j. refl), (λ j. absurd (j i)))
  answer_limit_lem (Answered.bad_limit i) = ((λ j. absurd (i j)), (λ j. refl))

  pub complete_empty : {a : Answer} → Answered limit p a → Complete a.complete a.state
  unfolding answer_of empty_state
  complete_empty (Answered.through i h steps) = complete_at limit steps
  complete_empty (Answered.refused i h k before r) = complete_at limit before
  complete_empty (Answered.too_long i h) = ((λ e. refl), (λ e. refl))
  complete_empty (Answered.bad_limit i) = ((λ e. refl), (λ e. refl))
