-- A distance of at most 20 is two comparisons of the difference. Assumes nothing.
use Rattle.std.proofs.Common.{arith}
use Rattle.std.proofs.lemmas.Int.{ints}
use Rattle.machine.specs.Geometry.{within_float}
use Rattle.machine.proofs.Column.near.Goals as goal

pub returns-then-d-ge-FLOAT_LEAST : goal.returns-then-d-ge-FLOAT_LEAST
unfolding within_float
returns-then-d-ge-FLOAT_LEAST c = grind (arith, ints)

pub returns-else-d-ge-FLOAT_LEAST : goal.returns-else-d-ge-FLOAT_LEAST
unfolding within_float
returns-else-d-ge-FLOAT_LEAST c = grind (arith, ints)
