-- The further one of two half columns and of two layers, by the library's least and greatest. Assumes nothing.
use Prim.Native.Nat.{ℕ, max, min}
use mathlib.Core.Path.{◌≡◌, sym}
use native.Mathlib.Omega.{arith}
use lib.IntN.{ℤ}
use mir.Facts.{to_z-of_z}
use Rattle.std.specs.Int.{int_min, int_max}
use Rattle.std.proofs.lemmas.Int.{ints}
use Rattle.std.proofs.lemmas.Bool.Decides.{nat_tests}
use Rattle.rewrite.specs.declared.Extent.{Extent}
use Rattle.rewrite.specs.Extents.{smaller, greater}
use Rattle.tie.specs.Tie.{rightmost, leftmost, common}

right_side : (a b : ℤ) → int_max a b ≡ rightmost a b
right_side a b = grind (arith, ints)

left_side : (a b : ℤ) → int_min a b ≡ leftmost a b
left_side a b = grind (arith, ints)

upper : (a b : ℕ) → max a b ≡ greater a b
upper a b = grind (arith, nat_tests)

lesser : (a b : ℕ) → min a b ≡ smaller a b
lesser a b = grind (arith, nat_tests)

pub common_lem : (e f : Extent) → common e f ≡ record { left = int_max e.left f.left; right = int_min e.right f.right; low = max e.low f.low; high = min e.high f.high }
unfolding common
common_lem e f = λ i. record {
  left = sym (right_side e.left f.left) i;
  right = sym (left_side e.right f.right) i;
  low = sym (upper e.low f.low) i;
  high = sym (lesser e.high f.high) i;
}

pub ruleset sides = (common_lem, to_z-of_z)
