-- A carrier after another.
use Rattle.std.proofs.Common.{◌+◌}
use native.Mathlib.Omega.{arith}
use Rattle.machine.specs.Machine.{inactive}
use Rattle.listing_text.specs.Text.{lines, carrier_line}
use Rattle.listing_text.proofs.Adds.{nothing}
use Rattle.listing_text.proofs.Lines.{one_more}
use Rattle.listing_text.proofs.put_carriers.Goals as goal

pub loop-k-init : goal.loop-k-init
unfolding lines
loop-k-init c = nothing c.args.text.now

pub loop-k-preserved : goal.loop-k-preserved
loop-k-preserved c = one_more carrier_line inactive 1 c.args.carriers.now c.loop-k.k (c.loop-k.k + 1) (omega arith) (omega arith) c.loop-k.invariant c.put_carrier.ensures
