-- A byte after another.
use Rattle.std.proofs.Common.{take}
use Rattle.listing_text.specs.Adds.{Adds}
use Rattle.listing_text.specs.Text.{bytes_of}
use Rattle.listing_text.proofs.put_bytes.Given as goal

abbrev pub invariant-loop-b : goal.invariant-loop-b
invariant-loop-b l = Adds l.initial.text (bytes_of (take l.b-index l.bytes)) l.text
