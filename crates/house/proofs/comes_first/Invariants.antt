-- Up to the byte at hand both are alike.
use Rattle.std.proofs.Common.{◌≡◌, drop}
use Rattle.house.specs.Order.{bytes_first}
use Rattle.house.proofs.comes_first.Given as goal

abbrev pub invariant-loop-i : goal.invariant-loop-i
invariant-loop-i l = bytes_first (drop l.i l.x) (drop l.i l.y) ≡ bytes_first l.x l.y
