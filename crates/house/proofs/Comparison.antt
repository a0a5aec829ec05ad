-- The comparison of two records' bytes: as code walks along them, in words, and that it is a strict total order. Assumes nothing.
use borrow.Table.Steps.{cases}
use Rattle.std.specs.Prelude.{Some}
use Rattle.std.specs.Ordering.{nat_cmp, is_lt, is_some_and}
use Rattle.std.specs.Cmp.Lexicographic.{slice_partial_cmp}
use Rattle.std.proofs.lemmas.Cmp.{same_from_slice_cmp_tested}
use Rattle.std.proofs.lemmas.Bool.Decides.{nat_tests}
use Prim.Native.Nat.{ℕ, suc, ◌+◌, ◌≤◌, ◌<◌}
use mathlib.Core.Path.{◌≡◌, refl, sym, ap, subst, ◌∙◌}
use mathlib.Core.Bool.{Bool, true, false, true≢false}
use mathlib.Core.List.{List, [], ◌∷◌}
use mathlib.Core.Logic.{◌⊎◌, inl, inr}
use native.Mathlib.Omega.{arith}
use native.Mathlib.Numerals.{add-one}
use lib.Dec.{eqb, ltb}
use lib.ListN.{length, drop, get_or, drop_of_length-le}
use lib.Seq.{drop-cons}
use borrow.Author.Tests.{eq-eqb, ne_eqb, eqb-true, eqb-false, lt-ltb, le-ltb, ltb-true, ltb-false}
use Rattle.house.specs.Order.{bytes_first}
use Rattle.house.specs.Exact.{BytesFirst, shorter, smaller, next_byte}
use Rattle.house.specs.Claims.{BytesFirstExactly, ComparisonStrict}

-- ---- byte by byte
heads : (a b : ℕ) (x y : List ℕ) → (a ≡ b → ⊥) → bytes_first (a ∷ x) (b ∷ y) ≡ ltb a b
unfolding bytes_first
heads a b x y d = simp (ne_eqb a b d)

same_heads : (a b : ℕ) (x y : List ℕ) → a ≡ b → bytes_first (a ∷ x) (b ∷ y) ≡ bytes_first x y
unfolding bytes_first
same_heads a b x y e = simp (eq-eqb a b e)

module _ (x y : List ℕ) (i : ℕ) where
  module _ (h : i < length x) (k : i < length y) where
    cut : bytes_first (drop i x) (drop i y) ≡ bytes_first (get_or x i 0 ∷ drop (suc i) x) (get_or y i 0 ∷ drop (suc i) y)
    cut = λ n. bytes_first (drop-cons x i 0 h n) (drop-cons y i 0 k n)

    pub differ : (get_or x i 0 ≡ get_or y i 0 → ⊥) → bytes_first (drop i x) (drop i y) ≡ ltb (get_or x i 0) (get_or y i 0)
    differ d = cut ∙ heads (get_or x i 0) (get_or y i 0) (drop (suc i) x) (drop (suc i) y) d

    pub agree : get_or x i 0 ≡ get_or y i 0 → bytes_first (drop i x) (drop i y) ≡ bytes_first (drop (i + 1) x) (drop (i + 1) y)
    agree e = cut ∙ same_heads (get_or x i 0) (get_or y i 0) (drop (suc i) x) (drop (suc i) y) e ∙ ap (λ (n : ℕ). bytes_first (drop n x) (drop n y)) (sym (add-one i))

  -- at the end of the shorter one
  past_second : length y ≤ i → bytes_first (drop i x) (drop i y) ≡ false
  unfolding bytes_first
  past_second h = ap (bytes_first (drop i x)) (drop_of_length-le y h)

  past_first : length x ≤ i → i < length y → bytes_first (drop i x) (drop i y) ≡ true
  unfolding bytes_first
  past_first h k = λ n. bytes_first (drop_of_length-le x h n) (drop-cons y i 0 k n)

  pub ends : i ≤ length x → i ≤ length y → (i ≡ length x) ⊎ (i ≡ length y) → ltb (length x) (length y) ≡ bytes_first (drop i x) (drop i y)
  ends h k (inr e) = le-ltb (length x) (length y) (omega arith) ∙ sym (past_second (omega arith))
  ends h k (inl e) =
      cases (ltb (length x) (length y)) (λ t. t ∙ sym (past_first (omega arith) (omega (arith, ltb-true (length x) (length y) t))))
      (λ t. t ∙ sym (past_second (omega (arith, ltb-false (length x) (length y) t))))

-- as the library compares
pub compared : (x y : List ℕ) (r : Bool) → r ≡ is_some_and is_lt (slice_partial_cmp (λ a b. Some (nat_cmp a b)) x y) → r ≡ bytes_first x y
unfolding bytes_first
compared = same_from_slice_cmp_tested nat_cmp is_lt bytes_first refl (λ _ _. refl) (λ _ _. refl) (λ a b x y o h. grind (arith, nat_tests))

-- ---- in words
words : (x y : List ℕ) → bytes_first x y ≡ true → BytesFirst x y
unfolding bytes_first
words x [] e = absurd (true≢false (sym e))
words [] (b ∷ y) e = shorter
words (a ∷ x) (b ∷ y) e =
    cases (eqb a b)
    (λ q. let f = eqb-true a b q in subst (λ (c : ℕ). BytesFirst (a ∷ x) (c ∷ y)) f (next_byte (words x y (sym (same_heads a b x y f) ∙ e))))
    (λ q. smaller (ltb-true a b (sym (heads a b x y (eqb-false a b q)) ∙ e)))

from_words : {x y : List ℕ} → BytesFirst x y → bytes_first x y ≡ true
unfolding bytes_first
from_words shorter = refl
from_words (smaller {a} {b} {x} {y} h) = heads a b x y (λ e. omega (arith, h, e)) ∙ lt-ltb a b h
from_words (next_byte {a} {x} {y} h) = same_heads a a x y refl ∙ from_words h

pub bytes_first_exactly : BytesFirstExactly
bytes_first_exactly x y = (words x y, from_words)

-- ---- a strict total order
alone : (x : List ℕ) → bytes_first x x ≡ false
unfolding bytes_first
alone [] = refl
alone (a ∷ x) = same_heads a a x x refl ∙ alone x

chain : {x y z : List ℕ} → BytesFirst x y → BytesFirst y z → BytesFirst x z
chain shorter (smaller h) = shorter
chain shorter (next_byte k) = shorter
chain (smaller {a = a} h) (smaller {b = c} k) = let q : a < c = omega arith in smaller q
chain (smaller h) (next_byte k) = smaller h
chain (next_byte h) (smaller k) = smaller k
chain (next_byte h) (next_byte k) = next_byte (chain h k)

other_way : (x y : List ℕ) → (x ≡ y → ⊥) → bytes_first x y ≡ false → bytes_first y x ≡ true
unfolding bytes_first
other_way [] [] d e = absurd (d refl)
other_way (a ∷ x) [] d e = refl
other_way [] (b ∷ y) d e = absurd (true≢false e)
other_way (a ∷ x) (b ∷ y) d e =
    cases (eqb a b)
    (λ q. let f = eqb-true a b q in
    same_heads b a y x (sym f) ∙ other_way x y (λ g. d (λ i. f i ∷ g i)) (sym (same_heads a b x y f) ∙ e))
    (λ q. let f = eqb-false a b q in
    heads b a y x (λ g. f (sym g)) ∙ lt-ltb b a (omega (arith, ltb-false a b (sym (heads a b x y f) ∙ e), f)))

pub comparison_strict : ComparisonStrict
comparison_strict =
    record {
      irreflexive = λ r x. alone x;
      transitive = λ r x y z e f. from_words (chain (words x y e) (words y z f));
      total = λ r x y d e. other_way x y d e;
    }
