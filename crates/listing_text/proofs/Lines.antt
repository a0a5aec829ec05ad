-- A text that grows by lines, one thing after another. Assumes nothing.
use Prim.Native.Nat.{ℕ, zero, suc, ◌+◌, ◌<◌}
use mathlib.Core.Path.{◌≡◌, sym, ap, ◌∙◌}
use mathlib.Core.List.{List, [], ◌∷◌, ◌++◌, append_assoc, append-nil}
use native.Mathlib.Omega.{arith}
use native.Mathlib.Nat.{not-suc-le-zero, le_of_suc-le-suc}
use native.Mathlib.Numerals.{add-one}
use lib.ListN.{length, take, get_or}
use Rattle.listing_text.specs.declared.text.Text.{Text}
use Rattle.listing_text.specs.Adds.{Adds}
use Rattle.listing_text.specs.Text.{lines}
use Rattle.listing_text.proofs.Adds.{then, like}

module _ {A : Type 0} (f : ℕ → A → List ℕ) (d : A) where
  after : (k : ℕ) (l : List A) (i : ℕ) → i < length l → lines f k (take i l) ++ f (k + i) (get_or l i d) ≡ lines f k (take (suc i) l)
  unfolding lines
  after k [] i h = absurd (not-suc-le-zero h)
  after k (x ∷ l) zero h = let e : k + 0 ≡ k = omega arith in ap (λ (n : ℕ). f n x) e ∙ sym (append-nil (f k x))
  after k (x ∷ l) (suc i) h =
      let e : k + suc i ≡ suc k + i = omega arith in
      append_assoc (f k x) (lines f (suc k) (take i l)) (f (k + suc i) (get_or l i d))
      ∙ ap (λ (n : ℕ). f k x ++ (lines f (suc k) (take i l) ++ f n (get_or l i d))) e
      ∙ ap (λ (z : List ℕ). f k x ++ z) (after (suc k) l i (le_of_suc-le-suc h))

  -- the line of thing i, which is counted as n
  pub one_more : (k : ℕ) (l : List A) {old mid new : Text} (i n : ℕ) → n ≡ k + i → i < length l → Adds old (lines f k (take i l)) mid → Adds mid (f n (get_or l i d)) new
      → Adds old (lines f k (take (i + 1) l)) new
  one_more k l i n e h g s =
      like (ap (λ (j : ℕ). lines f k (take i l) ++ f j (get_or l i d)) e ∙ after k l i h ∙ ap (λ (j : ℕ). lines f k (take j l)) (sym (add-one i))) (then g s)
