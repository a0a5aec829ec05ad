-- None from i on ties it.
use Rattle.std.proofs.Common.{◌≡◌, false, drop, take}
use Rattle.trace.specs.House.{tied_to_one}
use Rattle.rewrite.specs.Programs.{knitting}
use Rattle.house.specs.Order.{comes_first}
use Rattle.house.specs.Arranged.{records_at, record_of}
use Rattle.house.proofs.behind.Given as goal

abbrev pub invariant-loop-i : goal.invariant-loop-i
invariant-loop-i l = tied_to_one knitting comes_first l.own.racking (record_of l.program l.work l.j) (drop l.i (records_at l.program (take l.j l.work))) ≡ false
