-- Half columns as code computes them in 32 bits. Assumes nothing.
use Prim.Native.Nat.{◌<◌}
use mathlib.Core.Path.{◌≡◌, refl, sym, ap, subst, ◌∙◌}
use native.Mathlib.Omega.{arith}
use lib.IntN.{ℤ, pos, ◌+ℤ◌, ◌-ℤ◌}
use lib.Signed.{mag}
use mir.Syntax.{w32}
use mir.Val.{SFits, to_z, of_z}
use mir.Facts.{to_z-of_z}
use Rattle.machine.specs.declared.Needle.{Needle}
use Rattle.machine.specs.declared.Column.{Column}
use Rattle.machine.specs.declared.Racking.{Racking}
use Rattle.machine.specs.Geometry.{column_of}
use Rattle.machine.proofs.Signed.{back, fits_sum, fits_difference, mag_sum, sum, difference, eq_of}
use Rattle.machine.proofs.Laws.{column_reach}
use Rattle.rewrite.specs.Extents.{half_column, narrow, broad}
use Rattle.rewrite.specs.declared.Extent.{Extent}
use Rattle.std.specs.Prelude.{ℕ, ◌≤◌, Bool, true, false, cond}
use Rattle.std.specs.Int.{from_bool}
use borrow.Table.Steps.{cases}

less_none : (z : ℤ) → z -ℤ pos 0 ≡ z
less_none z = eq_of _ _ (omega (arith, difference z (pos 0)))

more_none : (z : ℤ) → z +ℤ pos 0 ≡ z
more_none z = eq_of _ _ (omega (arith, sum z (pos 0)))

by_reach : (h : ℤ) (low high : ℕ) (beside : Bool) → ◌≡◌ {A = Extent} (record { left = h -ℤ pos (from_bool beside); right = h +ℤ pos (from_bool beside); low = low; high = high }) (cond beside (broad h low high) (narrow h low high))
by_reach h low high true = refl
by_reach h low high false = simp (less_none h, more_none h)

module _ (n : Needle) (r : Racking) (z : Column) (is : z ≡ column_of n r) (b : n.1 < 65536) (k : mag r.0 < 128) where
  reach : mag z.0 < 65700
  reach = subst (λ (y : Column). mag y.0 < 65700) (sym is) (omega (arith, column_reach n r k))

  -- the column as it is read back
  abbrev read : ℤ
  read = to_z w32 (of_z w32 z.0)

  read_is : read ≡ z.0
  read_is = back w32 z.0 (omega (arith, reach))

  pub half_fits : SFits w32 (read +ℤ read)
  half_fits = simp read_is (fits_sum w32 z.0 z.0 (omega (arith, reach)))

  -- the half column as it is read back
  abbrev half : ℤ
  half = to_z w32 (of_z w32 (read +ℤ read))

  pub half_is : half ≡ half_column n r
  unfolding half_column
  half_is = to_z-of_z half_fits ∙ (λ i. read_is i +ℤ read_is i) ∙ ap (λ (y : Column). y.0 +ℤ y.0) is

  half_reach : mag (half_column n r) < 131500
  half_reach = subst (λ (y : ℤ). mag y < 131500) half_is (subst (λ (y : ℤ). mag y < 131500) (sym (to_z-of_z half_fits)) (subst (λ (y : ℤ). mag (y +ℤ y) < 131500) (sym read_is) (omega (arith, mag_sum z.0 z.0, reach))))

  -- none beside it, or one to each side
  module _ (beside : Bool) (reach : ℤ) (one : reach ≡ pos (from_bool beside)) where
    small : mag reach ≤ 1
    small = subst (λ (y : ℤ). mag y ≤ 1) (sym one) (cases beside (λ e. simp e (omega arith)) (λ e. simp e (omega arith)))

    reach_is : to_z w32 (of_z w32 reach) ≡ reach
    reach_is = back w32 reach (omega (arith, small))

    pub left_fits : SFits w32 (half -ℤ to_z w32 (of_z w32 reach))
    left_fits = simp (half_is, reach_is) (fits_difference w32 (half_column n r) reach (omega (arith, half_reach, small)))

    pub right_fits : SFits w32 (half +ℤ to_z w32 (of_z w32 reach))
    right_fits = simp (half_is, reach_is) (fits_sum w32 (half_column n r) reach (omega (arith, half_reach, small)))

    left_is : to_z w32 (of_z w32 (half -ℤ to_z w32 (of_z w32 reach))) ≡ half_column n r -ℤ pos (from_bool beside)
    left_is = to_z-of_z left_fits ∙ (λ i. half_is i -ℤ (reach_is ∙ one) i)

    right_is : to_z w32 (of_z w32 (half +ℤ to_z w32 (of_z w32 reach))) ≡ half_column n r +ℤ pos (from_bool beside)
    right_is = to_z-of_z right_fits ∙ (λ i. half_is i +ℤ (reach_is ∙ one) i)

    pub extent_is : (low high : ℕ) → ◌≡◌ {A = Extent} (record { left = to_z w32 (of_z w32 (half -ℤ to_z w32 (of_z w32 reach))); right = to_z w32 (of_z w32 (half +ℤ to_z w32 (of_z w32 reach))); low = low; high = high }) (cond beside (broad (half_column n r) low high) (narrow (half_column n r) low high))
    extent_is low high = (λ i. record { left = left_is i; right = right_is i; low = low; high = high }) ∙ by_reach (half_column n r) low high beside
