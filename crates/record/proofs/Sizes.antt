-- What code's tests on a kind say of its columns, and what a byte is as a signed number. Assumes nothing.
use borrow.Table.Steps.{cases}
use Prim.Native.Nat.{ℕ, ◌≤◌}
use mathlib.Core.Path.{◌≡◌, ap}
use native.Mathlib.Omega.{arith}
use lib.Dec.{ltb}
use lib.IntN.{negsuc}
use mir.Syntax.{w8}
use mir.Val.{to_z}
use Rattle.record.specs.Kinds.{RACK, DROP, XFER, PLATED_KNIT, by_kind, size_of}
use Rattle.record.specs.Format.{signed_of}
use Rattle.record.proofs.Shapes.{known_least, known_most, Named, named, work_size, six_bytes, one_named, two_named, none_named}

pub rack_size : (k : ℕ) → k ≡ RACK → size_of k ≡ 2
unfolding by_kind
rack_size k e = simp e

pub drop_size : (k : ℕ) → k ≡ DROP → size_of k ≡ 3
unfolding by_kind
drop_size k e = simp e

pub xfer_size : (k : ℕ) → k ≡ XFER → size_of k ≡ 4
unfolding by_kind
xfer_size k e = simp e

-- an unknown kind has no length
pub unknown_size : (k : ℕ) → (RACK ≤ k → k ≤ PLATED_KNIT → ⊥) → size_of k ≡ 0
unknown_size k h = go (named k)
  where
    go : Named k → size_of k ≡ 0
    go (Named.known a) = absurd (h (known_least a) (known_most a))
    go (Named.unknown a e) = e

pub ruleset sizes = (rack_size, drop_size, xfer_size, work_size, six_bytes, unknown_size)

pub signed_is : (b : ℕ) → to_z w8 b ≡ signed_of b
unfolding signed_of
signed_is b = cases (ltb b 128) (λ t. simp t) (λ t. simp t (ap negsuc (omega arith)))

pub ruleset carriers = (one_named, two_named, none_named)
