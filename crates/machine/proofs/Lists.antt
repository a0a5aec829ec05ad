-- A list whose first k elements a loop has replaced, each by f of it. Assumes nothing.
use Prim.Native.Nat.{ℕ, zero, suc, ◌+◌}
use mathlib.Core.Path.{◌≡◌, refl, sym, ap, ◌∙◌}
use mathlib.Core.List.{List, [], ◌∷◌, map}
use native.Mathlib.Numerals.{add-one}
use lib.ListN.{get_or, set, length}

module _ {A : Type 0} (f : A → A) where
  unfoldable pub upto : ℕ → List A → List A
  upto zero l = l
  upto (suc k) [] = []
  upto (suc k) (x ∷ l) = f x ∷ upto k l

  pub upto_zero : (l : List A) → upto 0 l ≡ l
  unfolding upto
  upto_zero l = refl

  pub upto_all : (l : List A) → upto (length l) l ≡ map f l
  unfolding upto
  upto_all [] = refl
  upto_all (x ∷ l) = ap (λ (t : List A). f x ∷ t) (upto_all l)

  pub upto_at : (k : ℕ) (l : List A) (d : A) → get_or (upto k l) k d ≡ get_or l k d
  unfolding upto
  upto_at zero l d = refl
  upto_at (suc k) [] d = refl
  upto_at (suc k) (x ∷ l) d = upto_at k l d

  upto_suc : (k : ℕ) (l : List A) (d : A) → set (upto k l) k (f (get_or l k d)) ≡ upto (suc k) l
  unfolding upto
  upto_suc zero [] d = refl
  upto_suc zero (x ∷ l) d = refl
  upto_suc (suc k) [] d = refl
  upto_suc (suc k) (x ∷ l) d = ap (λ (t : List A). f x ∷ t) (upto_suc k l d)

  pub upto_more : (k : ℕ) (l : List A) (d : A) → set (upto k l) k (f (get_or l k d)) ≡ upto (k + 1) l
  upto_more k l d = upto_suc k l d ∙ ap (λ (n : ℕ). upto n l) (sym (add-one k))
