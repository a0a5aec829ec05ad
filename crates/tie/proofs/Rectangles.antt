-- What two extents have in common, and that no other extent covers the same. Assumes nothing.
use borrow.Table.Steps.{cases}
use Prim.Native.Nat.{ℕ, ◌≤◌}
use mathlib.Core.Path.{◌≡◌}
use mathlib.Core.Bool.{true}
use mathlib.Core.Logic.{◌↔◌}
use native.Mathlib.Omega.{arith}
use lib.IntN.{ℤ}
use lib.Signed.{le_z, lt_z}
use lib.Dec.{ltb}
use borrow.Author.Tests.{ltb-true, ltb-false}
use Rattle.machine.proofs.Signed.{lt_z_true, lt_z_false, eq_of}
use Rattle.rewrite.specs.declared.Extent.{Extent}
use Rattle.rewrite.specs.Extents.{Within, smaller, greater}
use Rattle.rewrite.proofs.Signed.{le_from, le_trans, le_self, le_other}
use Rattle.tie.specs.Tie.{rightmost, leftmost, common}

-- ---- the further one of two
module _ (a b h : ℤ) where
  -- right of both
  right_of_both : (le_z (rightmost a b) h ≡ true) ↔ ((le_z a h ≡ true) × (le_z b h ≡ true))
  right_of_both =
      cases (lt_z a b) (λ t. rw t (λ p. (le_trans a b h (le_other b a (lt_z_true a b t)) p, p), λ p. p.1))
      (λ t. rw t (λ p. (p, le_trans b a h (lt_z_false a b t) p), λ p. p.0))

  left_of_both : (le_z h (leftmost a b) ≡ true) ↔ ((le_z h a ≡ true) × (le_z h b ≡ true))
  left_of_both =
      cases (lt_z a b) (λ t. rw t (λ p. (p, le_trans h a b p (le_other b a (lt_z_true a b t))), λ p. p.0))
      (λ t. rw t (λ p. (le_trans h b a p (lt_z_false a b t), p), λ p. p.1))

module _ (a b n : ℕ) where
  above_both : (greater a b ≤ n) ↔ ((a ≤ n) × (b ≤ n))
  above_both =
      cases (ltb a b) (λ t. let h = ltb-true a b t in rw t (λ p. (omega arith, p), λ p. p.1))
      (λ t. let h = ltb-false a b t in rw t (λ p. (p, omega arith), λ p. p.0))

  below_both : (n ≤ smaller a b) ↔ ((n ≤ a) × (n ≤ b))
  below_both =
      cases (ltb a b) (λ t. let h = ltb-true a b t in rw t (λ p. (p, omega arith), λ p. p.0))
      (λ t. let h = ltb-false a b t in rw t (λ p. (omega arith, p), λ p. p.1))

-- ---- in common
pub common_within : (e f : Extent) (h : ℤ) (layer : ℕ) → Within (common e f) h layer ↔ (Within e h layer × Within f h layer)
unfolding common
common_within e f h layer = (there, back)
  where
    there : Within (common e f) h layer → Within e h layer × Within f h layer
    there c =
        let (a, b) = (right_of_both e.left f.left h).0 c.left in
        let (l, m) = (left_of_both e.right f.right h).0 c.right in
        let (p, q) = (above_both e.low f.low layer).0 c.low in
        let (s, t) = (below_both e.high f.high layer).0 c.high in
        (record { left = a; right = l; low = p; high = s }, record { left = b; right = m; low = q; high = t })

    back : Within e h layer × Within f h layer → Within (common e f) h layer
    back (c, d) =
        record {
          left = (right_of_both e.left f.left h).1 (c.left, d.left);
          right = (left_of_both e.right f.right h).1 (c.right, d.right);
          low = (above_both e.low f.low layer).1 (c.low, d.low);
          high = (below_both e.high f.high layer).1 (c.high, d.high);
        }

-- ---- one extent alone
-- its corners, if it covers a point
module _ {e : Extent} {h : ℤ} {layer : ℕ} (c : Within e h layer) where
  near : Within e e.left e.low
  near = record { left = le_self e.left; right = le_trans e.left h e.right c.left c.right; low = omega arith; high = omega (arith, c.low, c.high) }

  far : Within e e.right e.high
  far = record { left = le_trans e.left h e.right c.left c.right; right = le_self e.right; low = omega (arith, c.low, c.high); high = omega arith }

le_both : (a b : ℤ) → le_z a b ≡ true → le_z b a ≡ true → a ≡ b
le_both a b p q = eq_of a b (omega (arith, le_from a b p, le_from b a q))

-- two that cover the same points, of which there is one, are one
pub same_extent_lem : (e f : Extent) {h : ℤ} {layer : ℕ} → Within e h layer → ((h : ℤ) (layer : ℕ) → Within e h layer ↔ Within f h layer) → e ≡ f
same_extent_lem e f {h} {layer} c same =
    let d = (same h layer).0 c in
    let e-near = (same e.left e.low).0 (near c) in
    let e-far = (same e.right e.high).0 (far c) in
    let f-near = (same f.left f.low).1 (near d) in
    let f-far = (same f.right f.high).1 (far d) in
    let low : e.low ≡ f.low = omega (arith, e-near.low, f-near.low) in
    let high : e.high ≡ f.high = omega (arith, e-far.high, f-far.high) in
    λ i. record {
      left = le_both e.left f.left f-near.left e-near.left i;
      right = le_both e.right f.right e-far.right f-far.right i;
      low = low i;
      high = high i;
    }
