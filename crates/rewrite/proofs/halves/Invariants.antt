-- The halves' first bytes have changed places. Assumes nothing.
use Rattle.std.proofs.Common.{◌≡◌, take, drop}
use Rattle.rewrite.proofs.Rotations.{halfway}
use Rattle.rewrite.proofs.halves.Given as goal

abbrev pub invariant-loop-i : goal.invariant-loop-i
invariant-loop-i l = l.part ≡ halfway (take l.k l.fn.part) (drop l.k l.fn.part) l.i
