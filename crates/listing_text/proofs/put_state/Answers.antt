-- The parts one after another.
use Rattle.listing_text.specs.Text.{state_of}
use Rattle.listing_text.proofs.Adds.{then}
use Rattle.listing_text.proofs.put_state.Goals as goal

pub returns : goal.returns
unfolding state_of
returns c = then c.put_racking.ensures (then c.put_beds.ensures c.put_carriers.ensures)
