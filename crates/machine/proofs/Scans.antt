-- What `all`, `any`, `map` and a fold of maxima answer of a list, in the words of specs. Assumes nothing.
use Rattle.std.proofs.Common.{◌≡◌, ℕ, Bool, true, false, List, [], ◌∷◌, ◌++◌, refl, sym, ap, ◌∙◌, arith}
use Prim.Native.Nat.{max}
use mathlib.Core.Bool.{not, ◌||◌, ◌&&◌, and-true, and_assoc}
use lib.Dec.{leb}
use borrow.Table.Steps.{cases}
use borrow.Author.Tests.{leb-true, leb-false, le-leb, lt-leb}
use Rattle.std.specs.List.{list_all, list_any}
use Rattle.machine.specs.Machine.{all}
use Rattle.machine.specs.Looks.{Most}

either_not : (a b : Bool) → (a || not b) ≡ not (not a && b)
either_not true b = refl
either_not false b = refl

module _ {A : Type 0} where
  pub all_is : (p : A → Bool) (l : List A) → list_all p l ≡ all p l
  unfolding all
  all_is p [] = refl
  all_is p (x ∷ l) = ap (λ (b : Bool). p x && b) (all_is p l)

  pub any_is : (p q : A → Bool) → ((x : A) → q x ≡ not (p x)) → (l : List A) → list_any p l ≡ not (all q l)
  unfolding all
  any_is p q h [] = refl
  any_is p q h (x ∷ l) = simp (any_is p q h l, h x) (either_not (p x) (all q l))

  pub all_push : (p : A → Bool) (l : List A) (x : A) → all p (l ++ x ∷ []) ≡ (all p l && p x)
  unfolding all
  all_push p [] x = and-true (p x)
  all_push p (y ∷ l) x = ap (λ (b : Bool). p y && b) (all_push p l x) ∙ sym (and_assoc (p y) (all p l) (p x))

-- the larger of two is at most b exactly if both are
pub max_leb : (b m n : ℕ) → leb (max m n) b ≡ (leb m b && leb n b)
max_leb b m n =
    cases (leb m b)
    (λ t. let h = leb-true m b t in
    cases (leb n b) (λ u. let k = leb-true n b u in simp (t, u) (le-leb _ _ (omega arith))) (λ u. let k = leb-false n b u in simp (t, u) (lt-leb _ _ (omega arith))))
    (λ t. let h = leb-false m b t in simp t (lt-leb _ _ (omega arith)))

-- the largest of a list, and of one element more
pub most_none : Most [] 0
unfolding all
most_none b = sym (le-leb 0 b (omega arith))

pub most_push : (l : List ℕ) (m n r : ℕ) → r ≡ max m n → Most l m → Most (l ++ n ∷ []) r
most_push l m n r e h b = all_push (λ (k : ℕ). leb k b) l n ∙ ap (λ (t : Bool). t && leb n b) (h b) ∙ sym (ap (λ (k : ℕ). leb k b) e ∙ max_leb b m n)
