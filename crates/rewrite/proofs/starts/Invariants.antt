-- The starts of the records so far. Assumes nothing.
use Rattle.std.proofs.Common.{◌≡◌, ◌-◌, ◌+◌, length, take, drop}
use Rattle.rewrite.specs.Programs.{records_of, starts_of}
use Rattle.rewrite.proofs.Laying.{Upto}
use Rattle.rewrite.proofs.starts.Given as goal

abbrev pub decreases-loop-at : goal.decreases-loop-at
decreases-loop-at l = length l.program + 6 - l.at

abbrev pub invariant-loop-at : goal.invariant-loop-at
invariant-loop-at l = record {
  upto : Upto l.program l.n l.at;
  written : take l.n l.work ≡ take l.n (starts_of 0 (records_of l.program));
  kept : drop l.n l.work ≡ drop l.n l.fn.work;
}
