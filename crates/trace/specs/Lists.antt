-- Lists: what passes a test, how many do, and the position of an element among its equals.
use Rattle.std.specs.Prelude.{ℕ, zero, suc, ◌≡◌, Bool, cond, List, [], ◌∷◌, take}
use Rattle.std.proofs.Math.Option.{some}
use Rattle.std.proofs.Math.ListN.{get_elem?}

-- the elements that pass a test, in order; a history 'is the list of' the records that pass the test 'naming it'
abbrev pub keep : {A : Type 0} → (A → Bool) → List A → List A
keep p [] = []
keep p (x ∷ l) = cond (p x) (x ∷ keep p l) (keep p l)

-- how many pass
abbrev pub count : {A : Type 0} → (A → Bool) → List A → ℕ
count p [] = zero
count p (x ∷ l) = cond (p x) (suc (count p l)) (count p l)

-- 'a record is known by its bytes and by how many equal ones stand before it': position p holds x, and i equal ones stand before it
pub record Nth {A : Type 0} (same : A → A → Bool) (l : List A) (x : A) (i p : ℕ) : Type 0 where
  pub holds : get_elem? l p ≡ some x
  pub equals : count (same x) (take p l) ≡ i
