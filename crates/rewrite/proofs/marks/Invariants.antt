-- Marked so far, and the byte of the next mark. Assumes nothing.
use Rattle.std.proofs.Common.{◌≡◌, ◌-◌, ◌*◌, ◌/◌, ◌<◌, take, length}
use Rattle.rewrite.specs.Programs.{records_of}
use Rattle.rewrite.specs.Laid.{rack_byte}
use Rattle.rewrite.proofs.Rackings.{MarkedUpto}
use Rattle.rewrite.proofs.marks.Given as goal

abbrev pub decreases-loop-i : goal.decreases-loop-i
decreases-loop-i l = length l.work - l.i

abbrev pub invariant-loop-i : goal.invariant-loop-i
invariant-loop-i l = record {
  marked : MarkedUpto l.program l.table (l.i / 64);
  strides : l.i ≡ l.i / 64 * 64;
  byte : l.i < length l.work → l.b ≡ rack_byte 0 (take l.i (records_of l.program));
}
