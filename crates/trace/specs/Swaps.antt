-- Swaps of neighbours in a list of records, by position.
use Rattle.std.specs.Prelude.{ℕ, zero, suc, ◌≡◌, cond, List, [], ◌∷◌}
use Rattle.trace.specs.Records.{Records, tied}

-- what comes of a swap: there are no two neighbours, they are tied, or it is made
pub data Outcome (A : Type 0) : Type 0 where
  no_pair is_tied : Outcome A
  made : List A → Outcome A

-- the outcome with a record more in front
abbrev pub behind : {A : Type 0} → A → Outcome A → Outcome A
behind x no_pair = no_pair
behind x is_tied = is_tied
behind x (made l) = made (x ∷ l)

module _ {A R : Type 0} (K : Records A R) where
  open K use {after}

  -- 'a swap of neighbours': records i and i + 1 change places if they are not tied; r is the racking in force at the front
  abbrev pub swap_at : R → ℕ → List A → Outcome A
  swap_at r i [] = no_pair
  swap_at r zero (x ∷ []) = no_pair
  swap_at r zero (x ∷ y ∷ l) = cond (tied K r x y) is_tied (made (y ∷ x ∷ l))
  swap_at r (suc i) (x ∷ l) = behind x (swap_at (after r x) i l)

  -- 'a sequence of swaps': those at the listed positions, one after another, are all made, and lead from the one list to the other
  pub data Swaps (r : R) : List ℕ → List A → List A → Type 0 where
    no_swap : {l : List A} → Swaps r [] l l
    swap_first : {i : ℕ} {is : List ℕ} {l m n : List A} → swap_at r i l ≡ made m → Swaps r is m n → Swaps r (i ∷ is) l n
