-- Whole numbers for `omega`: z = up z - dn z, two naturals that it reads. Sums, differences and casts, once over the width. Assumes nothing.
use borrow.Table.Steps.{cases}
use Prim.Native.Nat.{ℕ, zero, suc, ◌+◌, ◌-◌, ◌≤◌, ◌<◌, ◌^◌}
use mathlib.Core.Path.{◌≡◌, refl, sym, ap, subst, ◌∙◌}
use mathlib.Core.Bool.{true, false, ◌&&◌, not, and-true, true≢false, false≢true}
use mathlib.Core.Logic.{◌↔◌, ◌⊎◌, inl, inr, ⊎_elim}
use native.Mathlib.Omega.{arith}
use lib.IntN.{ℤ, pos, negsuc, ◌+ℤ◌, ◌-ℤ◌, neg_ℤ, sub_ℕ, nat_abs}
use lib.Signed.{le_z, lt_z, mag, non_neg}
use lib.Dec.{T, leb, ltb, leb-suc-suc}
use borrow.Author.Tests.{eq-eqb, ne_eqb, eqb-true, ltb-true, ltb-false, leb-true, leb-false, lt-ltb, le-ltb, not-true, not-false}
use mir.Syntax.{Width}
use mir.Facts.{to_z-of_z}
use mir.Val.{SFits, hbits, to_z, of_z}
use Rattle.std.specs.Ordering.{int_eq}
use Rattle.std.proofs.lemmas.Bool.Decides.{same_from_decides, Decides-int_eq}
use Rattle.machine.specs.Geometry.{eq_z}

abbrev pub up : ℤ → ℕ
up (pos n) = n
up (negsuc n) = 0

abbrev pub dn : ℤ → ℕ
dn (pos n) = 0
dn (negsuc n) = suc n

up_sub : (a b : ℕ) → up (sub_ℕ a b) ≡ a - b
up_sub a b = cases (ltb a b) (λ t. let h = ltb-true a b t in simp t (omega arith)) (λ t. simp t)

dn_sub : (a b : ℕ) → dn (sub_ℕ a b) ≡ b - a
dn_sub a b = cases (ltb a b) (λ t. let h = ltb-true a b t in simp t (omega arith)) (λ t. let h = ltb-false a b t in simp t (omega arith))

pub sum : (a b : ℤ) → up (a +ℤ b) + (dn a + dn b) ≡ dn (a +ℤ b) + (up a + up b)
sum (pos a) (pos b) = omega arith
sum (pos a) (negsuc b) = omega (arith, up_sub a (suc b), dn_sub a (suc b))
sum (negsuc a) (pos b) = omega (arith, up_sub b (suc a), dn_sub b (suc a))
sum (negsuc a) (negsuc b) = omega arith

up_neg : (a : ℤ) → up (neg_ℤ a) ≡ dn a
up_neg (pos zero) = refl
up_neg (pos (suc n)) = refl
up_neg (negsuc n) = refl

dn_neg : (a : ℤ) → dn (neg_ℤ a) ≡ up a
dn_neg (pos zero) = refl
dn_neg (pos (suc n)) = refl
dn_neg (negsuc n) = refl

pub difference : (a b : ℤ) → up (a -ℤ b) + (dn a + up b) ≡ dn (a -ℤ b) + (up a + dn b)
difference a b = omega (arith, sum a (neg_ℤ b), up_neg b, dn_neg b)

-- equal numbers
pub eq_of : (a b : ℤ) → up a + dn b ≡ up b + dn a → a ≡ b
eq_of (pos a) (pos b) h = ap pos (omega arith)
eq_of (pos a) (negsuc b) h = absurd (omega arith)
eq_of (negsuc a) (pos b) h = absurd (omega arith)
eq_of (negsuc a) (negsuc b) h = ap negsuc (omega arith)

pub eq_z_yes : (a b : ℤ) → a ≡ b → eq_z a b ≡ true
unfolding eq_z
eq_z_yes a b e = subst (λ (z : ℤ). eq_z a z ≡ true) e (self a)
  where
    self : (a : ℤ) → eq_z a a ≡ true
    self (pos n) = eq-eqb n n refl
    self (negsuc n) = eq-eqb n n refl

pub eq_z_no : (a b : ℤ) → (a ≡ b → ⊥) → eq_z a b ≡ false
unfolding eq_z
eq_z_no (pos a) (pos b) h = ne_eqb a b (λ e. h (ap pos e))
eq_z_no (pos a) (negsuc b) h = refl
eq_z_no (negsuc a) (pos b) h = refl
eq_z_no (negsuc a) (negsuc b) h = ne_eqb a b (λ e. h (ap negsuc e))

pub eq_z_true : (a b : ℤ) → eq_z a b ≡ true → a ≡ b
unfolding eq_z
eq_z_true (pos a) (pos b) e = ap pos (eqb-true a b e)
eq_z_true (pos a) (negsuc b) e = absurd (false≢true e)
eq_z_true (negsuc a) (pos b) e = absurd (false≢true e)
eq_z_true (negsuc a) (negsuc b) e = ap negsuc (eqb-true a b e)

pub eq_z_false : (a b : ℤ) → eq_z a b ≡ false → a ≡ b → ⊥
eq_z_false a b e h = true≢false (sym (eq_z_yes a b h) ∙ e)

-- what `==` answers at signed numbers
pub int_eq_is : (a b : ℤ) → int_eq a b ≡ eq_z a b
int_eq_is a b = same_from_decides (int_eq a b) (eq_z a b) (Decides-int_eq a b) (eq_z_true a b, eq_z_yes a b)

-- a < b is the failure of b ≤ a, of naturals and of whole numbers
ltb_not : (a b : ℕ) → ltb a b ≡ not (leb b a)
ltb_not a b = cases (leb b a) (λ t. le-ltb a b (leb-true b a t) ∙ simp t) (λ t. lt-ltb a b (leb-false b a t) ∙ simp t)

lt_z_not : (a b : ℤ) → lt_z a b ≡ not (le_z b a)
lt_z_not (pos a) (pos b) = ltb_not a b
lt_z_not (pos a) (negsuc b) = refl
lt_z_not (negsuc a) (pos b) = refl
lt_z_not (negsuc a) (negsuc b) = ltb_not b a

pub lt_z_true : (a b : ℤ) → lt_z a b ≡ true → le_z b a ≡ false
lt_z_true a b e = not-true (le_z b a) (sym (lt_z_not a b) ∙ e)

pub lt_z_false : (a b : ℤ) → lt_z a b ≡ false → le_z b a ≡ true
lt_z_false a b e = not-false (le_z b a) (sym (lt_z_not a b) ∙ e)

-- from lo to hi, looked at from below
module _ (lo hi z : ℤ) where
  pub under : lt_z z lo ≡ true → (le_z lo z && le_z z hi) ≡ false
  under e = simp (lt_z_true z lo e)

  pub not_under : lt_z z lo ≡ false → (le_z lo z && le_z z hi) ≡ le_z z hi
  not_under e = simp (lt_z_false z lo e)

-- magnitudes: mag z < k says -k ≤ z < k
up_mag : (a : ℤ) → up a ≤ mag a
up_mag (pos a) = omega arith
up_mag (negsuc a) = omega arith

dn_mag : (a : ℤ) → dn a ≤ mag a + 1
dn_mag (pos a) = omega arith
dn_mag (negsuc a) = omega arith

pub mag_sum : (a b : ℤ) → mag (a +ℤ b) ≤ mag a + mag b + 1
mag_sum a b = go (a +ℤ b) (sum a b)
  where
    go : (z : ℤ) → up z + (dn a + dn b) ≡ dn z + (up a + up b) → mag z ≤ mag a + mag b + 1
    go (pos n) h = omega (arith, up_mag a, up_mag b)
    go (negsuc n) h = omega (arith, dn_mag a, dn_mag b)

neg_mag : (a : ℤ) → mag (neg_ℤ a) ≤ mag a + 1
neg_mag a = go (neg_ℤ a) (up_neg a) (dn_neg a)
  where
    go : (z : ℤ) → up z ≡ dn a → dn z ≡ up a → mag z ≤ mag a + 1
    go (pos n) p q = omega (arith, dn_mag a)
    go (negsuc n) p q = omega (arith, up_mag a)

pub mag_difference : (a b : ℤ) → mag (a -ℤ b) ≤ mag a + mag b + 2
mag_difference a b = omega (arith, mag_sum a (neg_ℤ b), neg_mag b)

-- a magnitude of at most k + 1, as two comparisons
pub abs_in : (k : ℕ) (d : ℤ) → leb (nat_abs d) (suc k) ≡ (le_z (negsuc k) d && le_z d (pos (suc k)))
abs_in k (pos n) = refl
abs_in k (negsuc n) = leb-suc-suc n k ∙ sym (and-true (leb n k))

-- a number below 0, negated, and one that is not, as unsigned ones
pub below : (y : ℤ) → lt_z y (pos 0) ≡ true → T (non_neg (pos 0 -ℤ y)) × (nat_abs (pos 0 -ℤ y) ≡ nat_abs y)
below (pos n) t = absurd (no n (ltb-true n 0 t))
  where
    no : (n : ℕ) → n < 0 → ⊥
    no n h = omega arith
below (negsuc n) t = (tt, omega arith)

pub not_below : (y : ℤ) → lt_z y (pos 0) ≡ false → T (non_neg y)
not_below (pos n) t = tt
not_below (negsuc n) t = absurd (true≢false t)

pub abs_mag : (y : ℤ) → nat_abs y ≤ mag y + 1
abs_mag (pos n) = omega arith
abs_mag (negsuc n) = omega arith

-- two numbers are d apart exactly if one of them is d more than the other
more : (a b : ℤ) (d : ℕ) → a ≡ b +ℤ pos d → up a + dn b ≡ dn a + (up b + d)
more a b d e = subst (λ (z : ℤ). up z + dn b ≡ dn z + (up b + d)) (sym e) (omega (arith, sum b (pos d)))

module _ (a b : ℤ) (d : ℕ) where
  abbrev Between : ℤ → Type 0
  Between z = up z + (dn a + up b) ≡ dn z + (up a + dn b)

  split : (z : ℤ) → Between z → nat_abs z ≡ d → (a ≡ b +ℤ pos d) ⊎ (b ≡ a +ℤ pos d)
  split (pos n) h e = inl (eq_of a (b +ℤ pos d) (omega (arith, sum b (pos d))))
  split (negsuc n) h e = inr (eq_of b (a +ℤ pos d) (omega (arith, sum a (pos d))))

  right : (z : ℤ) → Between z → up a + dn b ≡ dn a + (up b + d) → nat_abs z ≡ d
  right (pos n) h e = omega arith
  right (negsuc n) h e = omega arith

  left : (z : ℤ) → Between z → up b + dn a ≡ dn b + (up a + d) → nat_abs z ≡ d
  left (pos n) h e = omega arith
  left (negsuc n) h e = omega arith

  pub apart_by : (nat_abs (a -ℤ b) ≡ d) ↔ ((a ≡ b +ℤ pos d) ⊎ (b ≡ a +ℤ pos d))
  apart_by = (
    split (a -ℤ b) (difference a b),
    ⊎_elim {C = nat_abs (a -ℤ b) ≡ d} (λ e. right (a -ℤ b) (difference a b) (more a b d e)) (λ e. left (a -ℤ b) (difference a b) (more b a d e)),
  )

-- what a width holds, and comes back from its bits
module _ (w : Width) where
  pub fits : (z : ℤ) → mag z < 2 ^ hbits w → SFits w z
  fits z h = record { sfits = h }

  pub back : (z : ℤ) → mag z < 2 ^ hbits w → to_z w (of_z w z) ≡ z
  back z h = to_z-of_z (fits z h)

  pub fits_sum : (a b : ℤ) → mag a + mag b + 1 < 2 ^ hbits w → SFits w (a +ℤ b)
  fits_sum a b h = fits (a +ℤ b) (omega (arith, mag_sum a b))

  pub fits_difference : (a b : ℤ) → mag a + mag b + 2 < 2 ^ hbits w → SFits w (a -ℤ b)
  fits_difference a b h = fits (a -ℤ b) (omega (arith, mag_difference a b))

  -- equal bits are equal numbers
  module _ (a b : ℤ) (h : mag a < 2 ^ hbits w) (k : mag b < 2 ^ hbits w) where
    pub is_bits : of_z w a ≡ of_z w b → eq_z a b ≡ true
    is_bits e = eq_z_yes a b (sym (back a h) ∙ ap (to_z w) e ∙ back b k)

    pub not_bits : (of_z w a ≡ of_z w b → ⊥) → eq_z a b ≡ false
    not_bits d = eq_z_no a b (λ e. d (ap (of_z w) e))

-- a value that was cast to another width and read back
pub cast_back : (v w : Width) (z : ℤ) → mag z < 2 ^ hbits v → mag z < 2 ^ hbits w → to_z w (of_z w (to_z v (of_z v z))) ≡ z
cast_back v w z h k = ap (λ (y : ℤ). to_z w (of_z w y)) (back v z h) ∙ back w z k
