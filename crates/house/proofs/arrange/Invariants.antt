-- So many records are in order.
use Rattle.house.proofs.Arranging.{InOrder}
use Rattle.house.proofs.arrange.Given as goal

abbrev pub invariant-loop-j : goal.invariant-loop-j
invariant-loop-j l = InOrder l.program l.initial.work l.work l.r l.j
