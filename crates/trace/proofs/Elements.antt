-- Lists with the same elements, repeats counted, agree in every count. Assumes nothing.
use borrow.Table.Steps.{cases}
use mathlib.Core.Path.{◌≡◌, sym, ◌∙◌}
use mathlib.Core.Bool.{Bool, true}
use mathlib.Core.List.{List}
use Rattle.trace.specs.Lists.{count}
use Rattle.trace.proofs.Tests.{test_eq}
use Rattle.trace.proofs.Lists.{keep_one, count_ext}
use Rattle.trace.proofs.Exchanges.{Ties, one_of, SameViews, views_exchanges, exchanges_count}

-- the same elements, repeats counted
abbrev pub SameElements : {A : Type 0} → (A → A → Bool) → List A → List A → Type 0
SameElements same l m = (x : _) → count (same x) l ≡ count (same x) m

module _ {A : Type 0} (same : A → A → Bool) (same_refl : (x : A) → same x x ≡ true) (same_eq : (x y : A) → same x y ≡ true → x ≡ y) where
  same_sym : (x y : A) → same x y ≡ same y x
  same_sym x y = test_eq (same x y) (same y x) (λ e. let f = same_eq x y e in cc (same_refl x)) (λ e. let f = same_eq y x e in cc (same_refl x))

  -- where equal elements alone are tied, lists with the same elements are exchanges apart
  abbrev equal_ties : Ties A
  equal_ties = record { same = same; tied = same; same_refl = same_refl; same_eq = same_eq; tied_refl = same_refl; tied_sym = same_sym }

  one_of_equals : (x y : A) → same x y ≡ true → (z : A) → one_of equal_ties x y z ≡ same x z
  one_of_equals x y e z = let f = same_eq x y e in cases (same x z) (λ g. cc) (λ g. cc)

  elements_views : (l m : List A) → SameElements same l m → SameViews equal_ties l m
  elements_views l m c x y e =
      let only : (z : A) → one_of equal_ties x y z ≡ true → z ≡ x = λ z g. sym (same_eq x z (sym (one_of_equals x y e z) ∙ g)) in
      let a = keep_one (one_of equal_ties x y) x only l in
      let b = keep_one (one_of equal_ties x y) x only m in
      let k = count_ext (one_of equal_ties x y) (same x) (one_of_equals x y e) l in
      let n = count_ext (one_of equal_ties x y) (same x) (one_of_equals x y e) m in
      cc (c x)

  pub elements_count : (l m : List A) → SameElements same l m → (p : A → Bool) → count p l ≡ count p m
  elements_count l m c p = let (is, s) = views_exchanges equal_ties m l (elements_views l m c) in exchanges_count same p s
