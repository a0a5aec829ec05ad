-- Tests: when two are equal, and the four parts of a tie. Assumes nothing.
use borrow.Table.Steps.{cases}
use mathlib.Core.Path.{◌≡◌, refl, sym}
use mathlib.Core.Bool.{Bool, true, false, ◌||◌}

-- tests that hold together are equal
pub test_eq : (a b : Bool) → (a ≡ true → b ≡ true) → (b ≡ true → a ≡ true) → a ≡ b
test_eq true b f g = sym (f refl)
test_eq false true f g = g refl
test_eq false false f g = refl

-- a tie: first a rack, second a rack, one carrier, extents that meet
module _ (a b : Bool) {c d : Bool} where
  pub tied_by_lem : (a ≡ false → b ≡ false → c ≡ false → d ≡ true) → (a || (b || (c || d))) ≡ true
  tied_by_lem f = cases a (λ p. cc) λ p. cases b (λ q. cc) λ q. cases c (λ r. cc) (λ r. cc (f p q r))

  pub tie_sym : {e g : Bool} → c ≡ e → d ≡ g → (a || (b || (c || d))) ≡ (b || (a || (e || g)))
  tie_sym p q = cases a (λ r. cases b (λ s. cc) (λ s. cc)) (λ r. cases b (λ s. cc) (λ s. cc))
