-- A byte after another.
use native.Mathlib.Omega.{arith}
use Rattle.listing_text.specs.Text.{lines, hex_of}
use Rattle.listing_text.proofs.Adds.{nothing}
use Rattle.listing_text.proofs.Lines.{one_more}
use Rattle.listing_text.proofs.put_bytes.Goals as goal

pub loop-b-init : goal.loop-b-init
unfolding lines
loop-b-init c = nothing c.args.text.now

pub loop-b-preserved : goal.loop-b-preserved
loop-b-preserved c = one_more (λ k b. hex_of b) 0 0 c.args.bytes.now c.loop-b.b-index c.loop-b.b-index (omega arith) (omega arith) c.loop-b.invariant c.put_byte.ensures
