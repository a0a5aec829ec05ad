-- A carrier after another.
use Rattle.std.proofs.Common.{take}
use Rattle.listing_text.specs.Adds.{Adds}
use Rattle.listing_text.specs.Text.{carrier_lines}
use Rattle.listing_text.proofs.put_carriers.Given as goal

abbrev pub invariant-loop-k : goal.invariant-loop-k
invariant-loop-k l = Adds l.initial.text (carrier_lines (take l.k l.carriers)) l.text
