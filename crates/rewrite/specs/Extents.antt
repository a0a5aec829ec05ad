-- What a record covers, in the words of document 01, 'Extents and ties', and of 02, W1; the extents that code computes; and what a tie looks at besides: racks and
-- carriers. CoversExactly (Claims.antt) says that the two agree. The tie itself is crate trace's `tied`; TiedExactly (Claims.antt) says it in 01's words.
use Rattle.std.specs.Prelude.{ℕ, ◌≤◌, ◌≡◌, Bool, true, false, cond, ◌&&◌, ◌||◌, List, [], ◌∷◌, ◌⊎◌, ℤ, pos, ◌+ℤ◌, ◌-ℤ◌, eqb, leb, ltb}
use Rattle.std.specs.Int.Signed.{le_z}
use Rattle.machine.specs.declared.Needle.{Needle}
use Rattle.machine.specs.declared.Racking.{Racking}
use Rattle.machine.specs.Geometry.{column_of}
use Rattle.record.specs.declared.Record.{Record}
use Rattle.record.specs.Kinds.{RACK, DROP, XFER, IN, OUT, MISS, TUCK, KNIT, SPLIT, PLATED_TUCK, PLATED_KNIT, size_of}
use Rattle.record.specs.Names.{carriers_of}
use Rattle.rewrite.specs.declared.Extent.{Extent}

-- ---- as a reader holds it against 01
-- kinds of which 01 says one thing, and 02
pub data Passes (kind : ℕ) : Type 0 where
  carrier_in : kind ≡ IN → Passes kind
  carrier_out : kind ≡ OUT → Passes kind
  miss : kind ≡ MISS → Passes kind

pub data TucksOrKnits (kind : ℕ) : Type 0 where
  tuck : kind ≡ TUCK → TucksOrKnits kind
  knit : kind ≡ KNIT → TucksOrKnits kind

pub data IsPlated (kind : ℕ) : Type 0 where
  tuck : kind ≡ PLATED_TUCK → IsPlated kind
  knit : kind ≡ PLATED_KNIT → IsPlated kind

-- 01 gives a rack no extent, and bytes that are no record have no kind
pub data Without (kind : ℕ) : Type 0 where
  a_rack : kind ≡ RACK → Without kind
  no_kind : size_of kind ≡ 0 → Without kind

module _ (r : Racking) (x : Record) where
  -- 'z is the column of the record's first needle at the racking in force, and column z is 2z'
  abbrev pub twice_z : ℤ
  twice_z = (column_of x.at r).0 +ℤ (column_of x.at r).0

  -- '2z − 1 to 2z + 1'
  pub data Around (h : ℤ) : Type 0 where
    before : h +ℤ pos 1 ≡ twice_z → Around h
    own : h ≡ twice_z → Around h
    behind : h ≡ twice_z +ℤ pos 1 → Around h

  abbrev pub Front : Type 0
  Front = x.at.0 ≡ 0

  -- 'Layers run from 0 (front bed) through carriers 1 to 10 to 11 (back bed)': a half column and a layer that the record covers
  pub data Covers (h : ℤ) (layer : ℕ) : Type 0 where
    -- 'A drop covers 2z on its bed's layer'
    front_drop : x.kind ≡ DROP → Front → h ≡ twice_z → layer ≡ 0 → Covers h layer
    back_drop : x.kind ≡ DROP → (Front → ⊥) → h ≡ twice_z → layer ≡ 11 → Covers h layer
    -- 'An xfer covers 2z on layers 0 to 11'
    xfer : x.kind ≡ XFER → h ≡ twice_z → layer ≤ 11 → Covers h layer
    -- 'The rest cover 2z − 1 to 2z + 1: a front tuck or knit with carrier k on layers 0 to k; a back one on k to 11'
    front_stitch : TucksOrKnits x.kind → Front → Around h → layer ≤ x.carrier → Covers h layer
    back_stitch : TucksOrKnits x.kind → (Front → ⊥) → Around h → x.carrier ≤ layer → layer ≤ 11 → Covers h layer
    -- 'split on 0 to 11'
    split : x.kind ≡ SPLIT → Around h → layer ≤ 11 → Covers h layer
    -- 'in, out and miss on k alone'
    passing : Passes x.kind → Around h → layer ≡ x.carrier → Covers h layer
    -- 02, W1: 'On the front the layers run from 0 to the greater carrier, on the back from the smaller to 11': up to either one, from either one
    front_plated : IsPlated x.kind → Front → Around h → (layer ≤ x.carrier) ⊎ (layer ≤ x.second) → Covers h layer
    back_plated : IsPlated x.kind → (Front → ⊥) → Around h → (x.carrier ≤ layer) ⊎ (x.second ≤ layer) → layer ≤ 11 → Covers h layer
    -- what has no extent in 01 is given a split's, so that it is tied to itself. No answer shows it: a rack is tied by its kind, and no other such bytes stand
    -- in a program that is run
    without : Without x.kind → Around h → layer ≤ 11 → Covers h layer

-- 'Extents meet if they share a half column and a layer'
abbrev pub Share : Racking → Record → Record → Type 0
Share r x y = (h : ℤ) × (layer : ℕ) × Covers r x h layer × Covers r y h layer

-- ---- as code computes it
-- a number is one of a list
unfoldable pub member : ℕ → List ℕ → Bool
member i [] = false
member i (j ∷ l) = eqb i j || member i l

-- column z is half column 2z
unfoldable pub half_column : Needle → Racking → ℤ
half_column n r = (column_of n r).0 +ℤ (column_of n r).0

-- layer 0 is the front bed, 11 the back bed, 1 to 10 are carriers
unfoldable pub layer_of : Needle → ℕ
layer_of n = cond (eqb n.0 0) 0 11

-- half column h alone, or h − 1 to h + 1; layers low to high
abbrev pub narrow : ℤ → ℕ → ℕ → Extent
narrow h low high = record { left = h; right = h; low = low; high = high }

abbrev pub broad : ℤ → ℕ → ℕ → Extent
broad h low high = record { left = h -ℤ pos 1; right = h +ℤ pos 1; low = low; high = high }

-- the smaller and the greater of two carriers
abbrev pub smaller : ℕ → ℕ → ℕ
smaller k j = cond (ltb k j) k j

abbrev pub greater : ℕ → ℕ → ℕ
greater k j = cond (ltb k j) j k

-- from a needle's bed to its carriers, low the smallest and high the greatest: a front tuck or knit with carrier k covers layers 0 to k, a back one k to 11;
-- plated, 'On the front the layers run from 0 to the greater carrier, on the back from the smaller to 11'
abbrev pub form_extent : ℤ → Needle → ℕ → ℕ → Extent
form_extent h n low high = cond (eqb n.0 0) (broad h 0 high) (broad h low 11)

-- a record's extent at the racking in force; the last is split's.
-- 01 gives a rack none; the last arm answers for it too, and no tie asks, since a rack is tied by its kind
unfoldable pub extent_of : Racking → Record → Extent
extent_of r x =
    cond (eqb x.kind DROP) (narrow (half_column x.at r) (layer_of x.at) (layer_of x.at))
    (cond (eqb x.kind XFER) (narrow (half_column x.at r) 0 11)
    (cond (member x.kind (IN ∷ OUT ∷ MISS ∷ [])) (broad (half_column x.at r) x.carrier x.carrier)
    (cond (member x.kind (TUCK ∷ KNIT ∷ [])) (form_extent (half_column x.at r) x.at x.carrier x.carrier)
    (cond (member x.kind (PLATED_TUCK ∷ PLATED_KNIT ∷ [])) (form_extent (half_column x.at r) x.at (smaller x.carrier x.second) (greater x.carrier x.second))
    (broad (half_column x.at r) 0 11)))))

-- a half column and a layer within an extent
pub record Within (e : Extent) (h : ℤ) (layer : ℕ) : Type 0 where
  pub left : le_z e.left h ≡ true
  pub right : le_z h e.right ≡ true
  pub low : e.low ≤ layer
  pub high : layer ≤ e.high

-- the test that code makes whether two extents meet; TiedExactly (Claims.antt) says that it is one
unfoldable pub meets : Extent → Extent → Bool
meets a b = (le_z a.left b.right && le_z b.left a.right) && (leb a.low b.high && leb b.low a.high)

-- two records name one carrier
unfoldable pub common : List ℕ → List ℕ → Bool
common [] js = false
common (i ∷ is) js = member i js || common is js

abbrev pub share_carrier : Record → Record → Bool
share_carrier x y = common (carriers_of x) (carriers_of y)
