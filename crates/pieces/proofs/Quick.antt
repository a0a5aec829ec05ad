-- The run, the rewriter and the house order as they are computed here: the same definitions, with what they name twice computed once. Assumes nothing.
use Prim.Native.Nat.{ℕ, zero, suc, ◌+◌, ◌-◌}
use mathlib.Core.Path.{◌≡◌, refl, ap}
use mathlib.Core.Bool.{Bool, true, false, cond}
use mathlib.Core.List.{List, [], ◌∷◌, ◌++◌}
use lib.Dec.{eqb}
use lib.ListN.{length, drop}
use Rattle.machine.specs.declared.State.{State}
use Rattle.machine.specs.Machine.{empty_state, complete_of}
use Rattle.record.specs.Format.{decode_of}
use Rattle.run.specs.Step.{number_at, apply_of}
use Rattle.run.specs.declared.Answer.{Answer}
use Rattle.run.specs.declared.Stepped.{Stepped}
use Rattle.run.specs.Run.{Reached}
use Rattle.run.specs.Run.{reached, told, stay, step_of, turn, run_from, start_no, answer_limit, answer_of, run_of}
use Rattle.rewrite.specs.Programs.{flat, records_of, starts_of}
use Rattle.rewrite.specs.Rewrite.{Replay, ended, replay, lent_no, Rewritten, refused, rewrite_of}
use Rattle.house.specs.Order.{house_records, order_of}

unfoldable pub quick_step : State → List ℕ → Stepped
quick_step s l =
    let d = decode_of l in
    let x = d.what in
    let n = number_at s x in
    cond (eqb d.number 0) (cond (eqb n 0) (told 0 d.size (apply_of s x)) (stay n s)) (stay d.number s)

unfoldable pub quick_from : ℕ → List ℕ → ℕ → State → Reached
quick_from k [] at s = reached 0 0 s
quick_from (suc k) (b ∷ l) at s = quick_from k l at s
quick_from zero (b ∷ l) at s =
    let t = quick_step s (b ∷ l) in
    let rest = quick_from (t.length - 1) l (at + t.length) t.state in
    turn t rest at

from_is : (k : ℕ) (l : List ℕ) (at : ℕ) (s : State) → run_from k l at s ≡ quick_from k l at s
unfolding run_from quick_from quick_step step_of
from_is k [] at s = refl
from_is (suc k) (b ∷ l) at s = from_is k l at s
from_is zero (b ∷ l) at s =
    ap (λ rest. turn (step_of s (b ∷ l)) rest at) (from_is ((step_of s (b ∷ l)).length - 1) l (at + (step_of s (b ∷ l)).length) (step_of s (b ∷ l)).state)

abbrev answer : ℕ → List ℕ → Reached → Answer
answer limit p t = answer_of (cond (eqb (start_no limit (length p)) 0) t (reached (start_no limit (length p)) 0 (empty_state (answer_limit limit))))

unfoldable pub quick_run : ℕ → List ℕ → Answer
quick_run limit p = answer limit p (quick_from 0 p 0 (empty_state (answer_limit limit)))

pub run_is : (limit : ℕ) (p : List ℕ) → run_of limit p ≡ quick_run limit p
unfolding run_of quick_run
run_is limit p = ap (answer limit p) (from_is 0 p 0 (empty_state (answer_limit limit)))

-- complete is what complete_of says of the state
pub run_whole : (limit : ℕ) (p : List ℕ) → (quick_run limit p).complete ≡ complete_of (quick_run limit p).state
unfolding quick_run answer_of
run_whole limit p = refl

-- the rewriter's answer by the run's
abbrev leaving : Answer → List ℕ → Replay → List ℕ → List ℕ → Rewritten
leaving a p r output work =
    record {
      answer = record { number = r.number; place = r.place; complete = a.complete; state = a.state };
      output = flat r.left ++ drop (length p) output;
      work = starts_of 0 r.left ++ drop (length r.left) work;
    }

abbrev not_lent : ℕ → ℕ → List ℕ → List ℕ → Rewritten
not_lent n limit output work = refused (answer_of (reached n 0 (empty_state (answer_limit limit)))) output work

abbrev by_run : Answer → ℕ → List ℕ → List ℕ → List ℕ → List ℕ → Rewritten
by_run a limit p log output work =
    let n = lent_no limit (length p) (length log) (length output) (length work) in
    cond (eqb n 0) (cond (eqb a.number 0) (leaving a p (replay log 0 (records_of p)) output work) (refused a output work)) (not_lent n limit output work)

unfoldable pub quick_rewrite : ℕ → List ℕ → List ℕ → List ℕ → List ℕ → Rewritten
quick_rewrite limit p log output work = let a = quick_run limit p in by_run a limit p log output work

pub rewrite_is : (limit : ℕ) (p log output work : List ℕ) → rewrite_of limit p log output work ≡ quick_rewrite limit p log output work
unfolding rewrite_of quick_rewrite
rewrite_is limit p log output work = ap (λ a. by_run a limit p log output work) (run_is limit p)

abbrev order_by : Answer → ℕ → List ℕ → List ℕ → List ℕ → Rewritten
order_by a limit p output work =
    let w = by_run a limit p [] output work in
    cond (eqb w.answer.number 0) (leaving a p (ended 0 0 (house_records p)) output work) w

unfoldable pub quick_order : ℕ → List ℕ → List ℕ → List ℕ → Rewritten
quick_order limit p output work = let a = quick_run limit p in order_by a limit p output work

pub order_is : (limit : ℕ) (p output work : List ℕ) → order_of limit p output work ≡ quick_order limit p output work
unfolding order_of rewrite_of quick_order
order_is limit p output work = ap (λ a. order_by a limit p output work) (run_is limit p)

-- and of it complete says the same
pub record Whole (w : Rewritten) : Type 0 where
  pub asked : w.answer.complete ≡ complete_of w.answer.state

either : (c : Bool) (v w : Rewritten) → Whole v → Whole w → Whole (cond c v w)
either true v w p q = p
either false v w p q = q

by_run_whole : (a : Answer) → a.complete ≡ complete_of a.state → (limit : ℕ) (p log output work : List ℕ) → Whole (by_run a limit p log output work)
unfolding answer_of
by_run_whole a e limit p log output work =
    let n = lent_no limit (length p) (length log) (length output) (length work) in
    let made : Rewritten = leaving a p (replay log 0 (records_of p)) output work in
    let ran : Rewritten = refused a output work in
    either (eqb n 0) (cond (eqb a.number 0) made ran) (not_lent n limit output work)
    (either (eqb a.number 0) made ran (record { asked = e }) (record { asked = e })) (record { asked = refl })

pub rewrite_whole : (limit : ℕ) (p log output work : List ℕ) → Whole (quick_rewrite limit p log output work)
unfolding quick_rewrite
rewrite_whole limit p log output work = by_run_whole (quick_run limit p) (run_whole limit p) limit p log output work

pub order_whole : (limit : ℕ) (p output work : List ℕ) → Whole (quick_order limit p output work)
unfolding quick_order
order_whole limit p output work =
    let a : Answer = quick_run limit p in
    let w : Rewritten = by_run a limit p [] output work in
    either (eqb w.answer.number 0) (leaving a p (ended 0 0 (house_records p)) output work) w
    (record { asked = run_whole limit p }) (by_run_whole a (run_whole limit p) limit p [] output work)
