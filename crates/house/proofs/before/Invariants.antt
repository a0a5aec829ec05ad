-- It comes before none of those up to k.
use Rattle.std.proofs.Common.{◌≡◌}
use Rattle.house.specs.Arranged.{greater_from}
use Rattle.house.proofs.before.Given as goal

abbrev pub invariant-loop-k : goal.invariant-loop-k
invariant-loop-k l = greater_from l.program l.work l.i l.j l.r ≡ greater_from l.program l.work l.k l.j l.r
