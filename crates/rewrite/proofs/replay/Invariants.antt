-- The rest of the log is followed on what is left. Assumes nothing.
use Rattle.std.proofs.Common.{◌≡◌, ◌-◌, length, drop}
use Rattle.rewrite.specs.Programs.{records_of}
use Rattle.rewrite.specs.Rewrite.{replay}
use Rattle.rewrite.specs.Laid.{Laid, Marked}
use Rattle.rewrite.proofs.replay.Given as goal

abbrev pub decreases-loop-place : goal.decreases-loop-place
decreases-loop-place l = length l.log - l.place-counter

abbrev pub invariant-loop-place : goal.invariant-loop-place
invariant-loop-place l = record {
  laid : Laid l.output l.work;
  marked : Marked l.output l.table;
  rest : replay l.log 0 (records_of l.fn.output) ≡ replay (drop l.place-counter l.log) l.place-counter (records_of l.output);
}
