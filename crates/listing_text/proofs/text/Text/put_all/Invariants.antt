-- A byte after another.
use Rattle.std.proofs.Common.{take}
use Rattle.listing_text.specs.Adds.{Adds}
use Rattle.listing_text.proofs.text.Text.put_all.Given as goal

abbrev pub invariant-loop-b : goal.invariant-loop-b
invariant-loop-b l = Adds l.initial.self (take l.b-index l.piece) l.self
