-- One log record more, or the end. Assumes nothing.
use Rattle.std.proofs.Common.{rules, arith, ◌≡◌, ◌≤◌, ◌+◌, ℕ, ◌-◌, List, length, take, drop, Result, Ok, is_ok, false, ap, sym, refl, subst, ◌∙◌}
use lib.ListN.{length-drop}
use lib.Seq.{take_all}
use Rattle.machine.specs.Refusals.{told_number}
use Rattle.run.specs.declared.Stop.{Stop}
use Rattle.rewrite.specs.Programs.{flat, records_of, starts_of}
use Rattle.rewrite.specs.Rewrite.{Replay, ended, log_record_of}
use Rattle.rewrite.specs.Laid.{stopped}
use Rattle.rewrite.proofs.Records.{records_flat}
use Rattle.rewrite.proofs.Logs.{log_end, turn_ends, turn_goes, told_some}
use Rattle.rewrite.proofs.replay.Goals as goal

-- the log from a place on
read : (log : List ℕ) (at : ℕ) → log_record_of (take (length log - at) (drop at log)) ≡ log_record_of (drop at log)
read log at = ap log_record_of (take_all (length log - at) (drop at log) (omega (arith, length-drop at log)))

-- what is answered and left where the log ended
record Left (r : Replay) (d : Result (Unit {0}) Stop) (q v : List ℕ) : Type 0 where
  stopped : stopped d r.left ≡ r
  bytes : q ≡ flat r.left
  starts : v ≡ starts_of 0 r.left

left_as : (r : Replay) (d : Result (Unit {0}) Stop) (n at : ℕ) (l : List (List ℕ)) {q v : List ℕ} → r ≡ ended n at l → stopped d l ≡ ended n at l → q ≡ flat l → v ≡ starts_of 0 l → Left r d q v
left_as r d n at l {q} {v} e f a b = subst (λ (r : Replay). Left r d q v) (sym e) (record { stopped = f; bytes = a; starts = b })

pub returns-in_err-map_err : goal.returns-in_err-map_err
returns-in_err-map_err c =
    let v = c.loop-place in
    let f = c.follow in
    let l = records_of v.output in
    let n : stopped c.from_residual.result l ≡ ended (told_number f.result) v.place-counter l = search rules in
    let d : is_ok f.result ≡ false = search rules in
    let t = turn_ends c.args.log.now v.place-counter c.loop-place-test.true v.output v.work c.args.table.now v.invariant.laid v.invariant.marked _ (read c.args.log.now v.place-counter) _ f.ensures.number _ _ f.ensures.bytes f.ensures.starts (told_some f.result d) in
    let r = left_as _ _ _ _ l (v.invariant.rest ∙ t.log_ends) n (t.program ∙ sym (records_flat v.output)) (t.work ∙ v.invariant.laid.starts) in
    record { stopped = r.stopped; bytes = r.bytes; starts = r.starts }

pub loop-place-preserved : goal.loop-place-preserved
loop-place-preserved c =
    let v = c.loop-place in
    let f = c.follow in
    let d : told_number f.result ≡ 0 = search rules in
    let t = turn_goes c.args.log.now v.place-counter c.loop-place-test.true v.output v.work c.args.table.now v.invariant.laid v.invariant.marked _ (read c.args.log.now v.place-counter) _ f.ensures.number _ _ f.ensures.bytes f.ensures.starts d in
    record { laid = t.now.laid; marked = t.now.marked; rest = v.invariant.rest ∙ t.log_goes }

pub returns : goal.returns
returns c =
    let v = c.loop-place in
    let r = left_as _ (Ok tt) 0 0 (records_of v.output) (v.invariant.rest ∙ log_end c.args.log.now v.place-counter (records_of v.output) c.loop-place-test.false) refl (sym (records_flat v.output)) v.invariant.laid.starts in
    record { stopped = r.stopped; bytes = r.bytes; starts = r.starts }

pub returns-in_ok-map_err : goal.returns-in_ok-map_err
returns-in_ok-map_err c =
    let v = c.loop-place in
    let f = c.follow in
    let d : told_number f.result ≡ 0 = search rules in
    let t = turn_goes c.args.log.now v.place-counter c.loop-place-test.true v.output v.work c.args.table.now v.invariant.laid v.invariant.marked _ (read c.args.log.now v.place-counter) _ f.ensures.number _ _ f.ensures.bytes f.ensures.starts d in
    let q = t.now.laid in
    let h : length c.args.log.now ≤ v.place-counter + 3 = omega arith in
    let r = left_as _ (Ok tt) 0 0 (records_of f.new.output) (v.invariant.rest ∙ t.log_goes ∙ log_end c.args.log.now (v.place-counter + 3) (records_of f.new.output) h) refl (sym (records_flat f.new.output)) q.starts in
    record { stopped = r.stopped; bytes = r.bytes; starts = r.starts }
