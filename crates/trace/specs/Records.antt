-- What is known of records A and rackings R, when two records are tied, and the laws that are asked.
use Rattle.std.specs.Prelude.{◌≡◌, Bool, true, false, ◌||◌}

-- the operations, with nothing asked of them
pub record Records (A R : Type 0) : Type 0 where
  -- equality of records and of rackings
  pub same : A → A → Bool
  pub same_racking : R → R → Bool
  -- which records are racks, and the racking after a record
  pub is_rack : A → Bool
  pub after : R → A → R
  -- two records name one carrier; their extents meet at a racking
  pub share : A → A → Bool
  pub meet : R → A → A → Bool

module _ {A R : Type 0} (K : Records A R) where
  open K use {same, same_racking, is_rack, after, share, meet}

  -- 'Two records are tied if either is a rack, if they name one carrier, or if their extents meet', here at one racking in force
  abbrev pub tied : R → A → A → Bool
  tied r x y = is_rack x || (is_rack y || (share x y || meet r x y))

  -- the laws
  pub record Lawful : Type 0 where
    -- the tests are equality
    pub same_refl : (x : A) → same x x ≡ true
    pub same_eq : (x y : A) → same x y ≡ true → x ≡ y
    pub racking_refl : (r : R) → same_racking r r ≡ true
    pub racking_eq : (r s : R) → same_racking r s ≡ true → r ≡ s
    -- only a rack changes the racking
    pub after_other : (r : R) (x : A) → is_rack x ≡ false → after r x ≡ r
    -- carriers are shared and extents meet both ways
    pub share_sym : (x y : A) → share x y ≡ share y x
    pub meet_sym : (r : R) (x y : A) → meet r x y ≡ meet r y x
    -- a record that is no rack and names no carrier has an extent, which meets itself
    pub meet_refl : (r : R) (x : A) → is_rack x ≡ false → share x x ≡ false → meet r x x ≡ true
