-- What is claimed of swaps: when one is made, what they keep, and what they reach; and of the house order.
use Rattle.std.specs.Prelude.{ℕ, suc, ◌≤◌, ◌<◌, ◌≡◌, Bool, true, false, List, [], ◌∷◌, ◌++◌, ◌↔◌, length, take, drop}
use Rattle.trace.specs.Lists.{Nth}
use Rattle.trace.specs.Records.{Records, tied, Lawful}
use Rattle.trace.specs.Swaps.{no_pair, is_tied, made, swap_at, Swaps}
use Rattle.trace.specs.Order.{in_force, SameRecords, tied_in, SameOrder, KeepsOrder}
use Rattle.trace.specs.Machine.{Machine, run, Ends, Orderly, Kept}
use Rattle.trace.specs.House.{StrictOrder, InHouseOrder, NoEarlier, house_order, spot_of}

module _ {A R : Type 0} (K : Records A R) where
  -- 'A swap of neighbours that a log comes to is accepted if the rewriter makes it': it is made exactly if the two are not tied at the racking in force
  abbrev pub MadeExactly : Type 0
  MadeExactly = (r : R) (u : List A) (x y : A) (v : List A) → (swap_at K r (length u) (u ++ x ∷ y ∷ v) ≡ made (u ++ y ∷ x ∷ v)) ↔ (tied K (in_force K r u) x y ≡ false)

  -- 'otherwise it gets 13': it is refused exactly if they are tied
  abbrev pub RefusedExactly : Type 0
  RefusedExactly = (r : R) (u : List A) (x y : A) (v : List A) → (swap_at K r (length u) (u ++ x ∷ y ∷ v) ≡ is_tied) ↔ (tied K (in_force K r u) x y ≡ true)

  -- there is no pair exactly if no two records stand there
  abbrev pub NoPairExactly : Type 0
  NoPairExactly = (r : R) (i : ℕ) (l : List A) → (swap_at K r i l ≡ no_pair) ↔ (length l ≤ suc i)

  -- 'Equal records of one stretch are always tied'
  abbrev pub EqualsAreTied : Type 0
  EqualsAreTied = Lawful K → (r : R) (x y : A) → K.same x y ≡ true → tied K r x y ≡ true

  -- 'equal ones anywhere are told apart by their count': the x with i equal ones before it stands in one position
  abbrev pub OnePosition : Type 0
  OnePosition = Lawful K → (l : List A) (x : A) (i p q : ℕ) → Nth K.same l x i p → Nth K.same l x i q → p ≡ q

  -- the same order, said of positions: of two tied records, each known by its count, the one stands first in both lists or in neither
  abbrev pub OrderOfPositions : Type 0
  OrderOfPositions =
      Lawful K → (r : R) (l m : List A) → SameOrder K r l m → (x y : A) (i j p q p' q' : ℕ) → Nth K.same l x i p → Nth K.same l y j q
      → tied_in K r l p q x y ≡ true → Nth K.same m x i p' → Nth K.same m y j q' → (p < q) ↔ (p' < q')

  -- a list is reached by swaps that are made exactly if it has the same records between the same racks and the same order of tied records
  abbrev pub ReachesExactly : Type 0
  ReachesExactly = Lawful K → (r : R) (l m : List A) → ((is : List ℕ) × Swaps K r is l m) ↔ (SameRecords K l m × SameOrder K r l m)

  -- of lists with the same records, one that keeps the order of the other has the same order
  abbrev pub OneHalfIsEnough : Type 0
  OneHalfIsEnough = Lawful K → (r : R) (l m : List A) → SameRecords K l m → KeepsOrder K r l m → SameOrder K r l m

module _ {A R S N : Type 0} (K : Records A R) (M : Machine A R S) (names : N → A → Bool) (Good : S → Type 0) where
  -- swaps of a valid list keep it valid, with its final state, every history, its records between its racks and the order of tied records
  abbrev pub SwapsKeep : Type 0
  SwapsKeep = Lawful K → Orderly K M names Good → (s e : S) → Good s → (is : List ℕ) (l m : List A) → Ends M s l e → Swaps K (M.racking s) is l m → Kept K M names s e l m

  -- swaps keep the run of every list, so that what is not valid stays so
  abbrev pub SwapsKeepTheRun : Type 0
  SwapsKeepTheRun = Orderly K M names Good → (s : S) → Good s → (is : List ℕ) (l m : List A) → Swaps K (M.racking s) is l m → run M s l ≡ run M s m

-- ---- the house order (02, W3)
module _ {A R : Type 0} (K : Records A R) (less : R → A → A → Bool) where
  -- the definition that computes is the relation
  abbrev pub HouseExactly : Type 0
  HouseExactly = Lawful K → StrictOrder less → (r : R) (l m : List A) → (house_order K less r l ≡ m) ↔ InHouseOrder K less r l m

  -- every list has a house order, and not a second
  abbrev pub OneHouseOrder : Type 0
  OneHouseOrder =
      Lawful K → StrictOrder less → (r : R) (l : List A) → (m : List A) × InHouseOrder K less r l m × ((n : List A) → InHouseOrder K less r l n → n ≡ m)

  -- swaps that are made lead to it
  abbrev pub HouseReached : Type 0
  HouseReached = Lawful K → StrictOrder less → (r : R) (l : List A) → (is : List ℕ) × Swaps K r is l (house_order K less r l)

  -- two lists get one house order 'exactly if accepted swaps lead from one to the other'
  abbrev pub OneHouseExactly : Type 0
  OneHouseExactly = Lawful K → StrictOrder less → (r : R) (l m : List A) → (house_order K less r l ≡ house_order K less r m) ↔ ((is : List ℕ) × Swaps K r is l m)

  -- of all lists that swaps reach it is the one that comes first, record by record
  abbrev pub HouseFirst : Type 0
  HouseFirst =
      Lawful K → StrictOrder less → (r : R) (is : List ℕ) (l m : List A) → Swaps K r is l m → NoEarlier K.after (λ r x y. less r x y ≡ true) r (house_order K less r l) m

  -- 'ordering twice must give what ordering once gives'
  abbrev pub HouseTwice : Type 0
  HouseTwice = Lawful K → StrictOrder less → (r : R) (l : List A) → house_order K less r (house_order K less r l) ≡ house_order K less r l

  -- one record more behind a list: in the house order it goes behind the last that it is tied to, before the first there that it comes before
  abbrev pub HouseInserted : Type 0
  HouseInserted =
      Lawful K → StrictOrder less → (r : R) (l : List A) (x : A) → let m = house_order K less r l in let n = spot_of K less (in_force K r l) x m in
      house_order K less r (l ++ x ∷ []) ≡ take n m ++ x ∷ drop n m
