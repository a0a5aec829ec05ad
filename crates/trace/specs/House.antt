-- The house order of a list of records (02, W3), over any ties and any comparison of two records: as a relation, and as a definition that computes.
use Rattle.std.specs.Prelude.{ℕ, zero, suc, ◌+◌, ◌≡◌, Bool, true, false, cond, not, ◌||◌, List, [], ◌∷◌, length, drop}
use Rattle.trace.specs.Lists.{keep}
use Rattle.trace.specs.Records.{Records, tied}

-- ---- in 02's words: the racking after a record, when two records are tied and when one comes first, both at the racking in force
module _ {A R : Type 0} (after : R → A → R) (Tied ComesFirst : R → A → A → Type 0) where
  -- x is a record of l that is 'not tied to an earlier remaining one'; rest is what remains without it
  pub data Free (r : R) (x : A) : List A → List A → Type 0 where
    at_front : {l : List A} → Free r x (x ∷ l) l
    behind : {y : A} {l rest : List A} → (Tied r y x → ⊥) → Free r x l rest → Free r x (y ∷ l) (y ∷ rest)

  -- and it comes first among all of them
  abbrev pub Least : R → List A → A → Type 0
  Least r l x = (y : A) (others : List A) → Free r y l others → (y ≡ x → ⊥) → ComesFirst r x y

  -- 'always take next the record whose bytes come first among those not tied to an earlier remaining one'.
  -- 'between racks': a rack is tied to all, so that it is taken only from the front and nothing behind it before it is
  pub data HouseOrder : R → List A → List A → Type 0 where
    no_more : {r : R} → HouseOrder r [] []
    take_next : {r : R} {x : A} {l rest m : List A} → Free r x l rest → Least r l x → HouseOrder (after r x) rest m → HouseOrder r l (x ∷ m)

-- ---- the order of lists: m comes no earlier than n, that is they are equal, or at the first place where they differ n's record comes first
module _ {A R : Type 0} (after : R → A → R) (ComesFirst : R → A → A → Type 0) where
  pub data NoEarlier : R → List A → List A → Type 0 where
    both_end : {r : R} → NoEarlier r [] []
    differ : {r : R} {x y : A} {n m : List A} → ComesFirst r x y → NoEarlier r (x ∷ n) (y ∷ m)
    agree : {r : R} {x : A} {n m : List A} → NoEarlier (after r x) n m → NoEarlier r (x ∷ n) (x ∷ m)

-- ---- what is asked of a test whether one record comes first: at each racking a strict total order on records that are not equal
pub record StrictOrder {A R : Type 0} (less : R → A → A → Bool) : Type 0 where
  pub irreflexive : (r : R) (x : A) → less r x x ≡ false
  pub transitive : (r : R) (x y z : A) → less r x y ≡ true → less r y z ≡ true → less r x z ≡ true
  pub total : (r : R) (x y : A) → (x ≡ y → ⊥) → less r x y ≡ false → less r y x ≡ true

-- ---- computed
module _ {A R : Type 0} (K : Records A R) (less : R → A → A → Bool) where
  -- the relation by the tests
  abbrev pub InHouseOrder : R → List A → List A → Type 0
  InHouseOrder = HouseOrder K.after (λ r x y. tied K r x y ≡ true) (λ r x y. less r x y ≡ true)

  -- those of l that are not tied to an earlier one
  unfoldable pub free_of : R → List A → List A
  free_of r [] = []
  free_of r (x ∷ l) = x ∷ keep (λ y. not (tied K r x y)) (free_of r l)

  -- the least of x and l
  unfoldable pub least_of : R → A → List A → A
  least_of r x [] = x
  least_of r x (y ∷ l) = least_of r (cond (less r y x) y x) l

  -- l without the first that equals x
  unfoldable pub without : A → List A → List A
  without x [] = []
  without x (y ∷ l) = cond (K.same x y) l (y ∷ without x l)

  -- the record that is taken next from x and l
  abbrev pub next_of : R → A → List A → A
  next_of r x l = least_of r x (keep (λ y. not (tied K r x y)) (free_of r l))

  -- the first n that are taken
  unfoldable pub taken : ℕ → R → List A → List A
  taken zero r l = []
  taken (suc n) r [] = []
  taken (suc n) r (x ∷ l) = next_of r x l ∷ taken n (K.after r (next_of r x l)) (without (next_of r x l) (x ∷ l))

  abbrev pub house_order : R → List A → List A
  house_order r l = taken (length l) r l

  -- ---- another way to it (Claims.antt, HouseInserted), which code goes
  -- x is tied to one of l
  unfoldable pub tied_to_one : R → A → List A → Bool
  tied_to_one r x [] = false
  tied_to_one r x (y ∷ l) = tied K r y x || tied_to_one r x l

  -- how many of l there are up to the last that x is tied to, and before the first that x comes before
  unfoldable pub up_to_tied : R → A → List A → ℕ
  up_to_tied r x [] = zero
  up_to_tied r x (y ∷ l) = cond (tied_to_one r x (y ∷ l)) (suc (up_to_tied r x l)) zero

  unfoldable pub before_greater : R → A → List A → ℕ
  before_greater r x [] = zero
  before_greater r x (y ∷ l) = cond (less r x y) zero (suc (before_greater r x l))

  -- where x goes in l: behind the last that it is tied to, before the first there that it comes before
  abbrev pub spot_of : R → A → List A → ℕ
  spot_of r x l = up_to_tied r x l + before_greater r x (drop (up_to_tied r x l) l)
