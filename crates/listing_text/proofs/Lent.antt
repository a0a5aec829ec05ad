-- What the listing program lends is enough. Assumes nothing.
use Prim.Native.Nat.{ℕ}
use mathlib.Core.Path.{◌≡◌}
use native.Mathlib.Omega.{arith}
use lib.ListN.{length, length-replicate}
use Rattle.listing_text.specs.Listed.{lent_output, lent_work, LentIsEnough}

pub output_lent : length lent_output ≡ 32768
unfolding lent_output
output_lent = length-replicate {A = ℕ} 32768 0

work_lent : length lent_work ≡ 16384
unfolding lent_work
work_lent = length-replicate {A = ℕ} 16384 0

pub lent_is_enough : LentIsEnough
lent_is_enough program log h k =
    record { short = h; log_short = k; room = omega (arith, output_lent); entries = omega (arith, work_lent) }
