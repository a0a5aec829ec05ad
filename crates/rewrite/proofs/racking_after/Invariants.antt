-- What the records from j on make of the byte so far. Assumes nothing.
use Rattle.std.proofs.Common.{◌≡◌, ◌-◌, take, drop}
use Rattle.rewrite.specs.Programs.{records_of}
use Rattle.rewrite.specs.Laid.{rack_byte}
use Rattle.rewrite.proofs.racking_after.Given as goal

abbrev pub invariant-loop-j : goal.invariant-loop-j
invariant-loop-j l = rack_byte l.fn.r (take (l.n - l.i) (drop l.i (records_of l.program))) ≡ rack_byte l.b (take (l.n - l.j) (drop l.j (records_of l.program)))
