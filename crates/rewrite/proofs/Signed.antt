-- The order of whole numbers for `omega`, by z = up z - dn z, and the later of two places. Assumes nothing.
use borrow.Table.Steps.{cases}
use Prim.Native.Nat.{ℕ, suc, ◌+◌, ◌≤◌}
use mathlib.Core.Path.{◌≡◌, refl, sym}
use mathlib.Core.Bool.{true, false, true≢false}
use native.Mathlib.Omega.{arith}
use lib.IntN.{ℤ, pos, negsuc, ◌+ℤ◌, ◌-ℤ◌}
use lib.Signed.{le_z}
use lib.Dec.{leb}
use borrow.Author.Tests.{le-leb, leb-true, leb-false}
use Rattle.machine.proofs.Signed.{up, dn, sum, difference}

pub le_of : (a b : ℤ) → up a + dn b ≤ up b + dn a → le_z a b ≡ true
le_of (pos a) (pos b) h = le-leb a b (omega arith)
le_of (pos a) (negsuc b) h = absurd (no h)
  where
    no : a + suc b ≤ 0 + 0 → ⊥
    no h = omega arith
le_of (negsuc a) (pos b) h = refl
le_of (negsuc a) (negsuc b) h = le-leb b a (omega arith)

pub le_from : (a b : ℤ) → le_z a b ≡ true → up a + dn b ≤ up b + dn a
le_from (pos a) (pos b) e = omega (arith, leb-true a b e)
le_from (pos a) (negsuc b) e = absurd (true≢false (sym e))
le_from (negsuc a) (pos b) e = omega arith
le_from (negsuc a) (negsuc b) e = omega (arith, leb-true b a e)

pub le_trans : (a b c : ℤ) → le_z a b ≡ true → le_z b c ≡ true → le_z a c ≡ true
le_trans a b c p q = le_of a c (omega (arith, le_from a b p, le_from b c q))

pub le_self : (a : ℤ) → le_z a a ≡ true
le_self a = le_of a a (omega arith)

pub le_next : (a : ℤ) → le_z a (a +ℤ pos 1) ≡ true
le_next a = le_of a (a +ℤ pos 1) (omega (arith, sum a (pos 1)))

pub le_before : (a : ℤ) → le_z (a -ℤ pos 1) a ≡ true
le_before a = le_of (a -ℤ pos 1) a (omega (arith, difference a (pos 1)))

pub le_other : (a b : ℤ) → le_z a b ≡ false → le_z b a ≡ true
le_other (pos a) (pos b) e = le-leb b a (omega (arith, leb-false a b e))
le_other (pos a) (negsuc b) e = refl
le_other (negsuc a) (pos b) e = absurd (true≢false e)
le_other (negsuc a) (negsuc b) e = le-leb a b (omega (arith, leb-false b a e))

-- the later of two, of whole numbers and of naturals
pub later : (a b : ℤ) → (z : ℤ) × (le_z a z ≡ true) × (le_z b z ≡ true) × ((c : ℤ) → le_z a c ≡ true → le_z b c ≡ true → le_z z c ≡ true)
later a b = cases (le_z a b) (λ h. (b, h, le_self b, λ c p q. q)) (λ h. (a, le_self a, le_other a b h, λ c p q. p))

pub higher : (m n : ℕ) → (k : ℕ) × (m ≤ k) × (n ≤ k) × ((c : ℕ) → m ≤ c → n ≤ c → k ≤ c)
higher m n = cases (leb m n) (λ h. (n, leb-true m n h, omega arith, λ c p q. q)) (λ h. (m, omega arith, omega (arith, leb-false m n h), λ c p q. p))
