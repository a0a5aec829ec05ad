-- So many records are written.
use Rattle.house.proofs.Writing.{Written}
use Rattle.house.proofs.lay.Given as goal

abbrev pub invariant-loop-i : goal.invariant-loop-i
invariant-loop-i l = Written l.program l.initial.output l.initial.work l.output l.work l.at l.i
