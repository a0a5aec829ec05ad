-- Stretches between racks, and the order of tied records.
use Rattle.std.specs.Prelude.{ℕ, zero, suc, ◌<◌, ◌≡◌, Bool, true, cond, ◌||◌, ◌&&◌, List, [], ◌∷◌, ◌↔◌, eqb, take}
use Rattle.trace.specs.Lists.{keep, count, Nth}
use Rattle.trace.specs.Records.{Records}

module _ {A R : Type 0} (K : Records A R) where
  open K use {same, is_rack, after, share, meet}

  -- 'the racking in force' after these records
  abbrev pub in_force : R → List A → R
  in_force r [] = r
  in_force r (x ∷ l) = in_force (after r x) l

  -- 'one stretch between racks': stretch 0 holds the records before the first rack, stretch k those between rack k and the next
  abbrev pub stretch : ℕ → List A → List A
  stretch k [] = []
  stretch zero (x ∷ l) = cond (is_rack x) [] (x ∷ stretch zero l)
  stretch (suc k) (x ∷ l) = cond (is_rack x) (stretch k l) (stretch (suc k) l)

  -- 'the same records between the same racks': 'their racks form the same list and each stretch holds the same records, repeats counted'
  pub record SameRecords (l m : List A) : Type 0 where
    pub racks : keep is_rack l ≡ keep is_rack m
    pub between : (k : ℕ) (x : A) → count (same x) (stretch k l) ≡ count (same x) (stretch k m)

  -- the stretch of a position: how many racks stand before it
  abbrev pub stretch_at : List A → ℕ → ℕ
  stretch_at l p = count is_rack (take p l)

  -- x at position p and y at position q are tied: 'Extents are compared only within one stretch between racks'
  abbrev pub tied_in : R → List A → ℕ → ℕ → A → A → Bool
  tied_in r l p q x y = is_rack x || (is_rack y || (share x y || (eqb (stretch_at l p) (stretch_at l q) && meet (in_force r (take p l)) x y)))

  -- the x with i equal ones before it and the y with j equal ones before it are tied, and the x stands before the y
  pub record TiedBefore (r : R) (l : List A) (x : A) (i : ℕ) (y : A) (j : ℕ) : Type 0 where
    pub p : ℕ
    pub q : ℕ
    pub x_at_p : Nth same l x i p
    pub y_at_q : Nth same l y j q
    pub before : p < q
    pub both_tied : tied_in r l p q x y ≡ true

  -- the same order of tied records (demand 3), each 'told apart by their count'
  abbrev pub SameOrder : R → List A → List A → Type 0
  SameOrder r l m = (x y : A) (i j : ℕ) → TiedBefore r l x i y j ↔ TiedBefore r m x i y j

  -- the one half of it: what is tied and in order in the one list is so in the other
  abbrev pub KeepsOrder : R → List A → List A → Type 0
  KeepsOrder r l m = (x y : A) (i j : ℕ) → TiedBefore r l x i y j → TiedBefore r m x i y j
