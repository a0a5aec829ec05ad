-- Extents and ties, read as code tests them. Assumes nothing.
use borrow.Table.Steps.{cases}
use Prim.Native.Nat.{ℕ, ◌+◌, ◌≤◌, ◌<◌, min, max}
use mathlib.Core.Path.{◌≡◌, refl, sym, ◌∙◌}
use mathlib.Core.Bool.{Bool, true, false, ◌&&◌, ◌||◌, or-false}
use native.Mathlib.Omega.{arith}
use mathlib.Core.List.{List, [], ◌∷◌}
use lib.IntN.{ℤ, pos, negsuc, ◌+ℤ◌, ◌-ℤ◌, nat_abs}
use lib.Signed.{le_z, lt_z, mag}
use mir.Syntax.{w32}
use mir.Val.{to_z, of_z}
use lib.Dec.{eqb, leb, ltb, leb-suc-suc}
use borrow.Author.Tests.{ne_eqb, le-leb, ltb-true, ltb-false}
use Rattle.std.proofs.lemmas.Bool.{and_parts}
use Rattle.machine.proofs.Signed.{back, up, dn, sum, difference}
use Rattle.machine.specs.Geometry.{column_of}
use Rattle.machine.specs.declared.Racking.{Racking}
use Rattle.record.specs.declared.Record.{Record}
use Rattle.record.specs.Kinds.{DROP, XFER, IN, OUT, MISS, TUCK, KNIT, PLATED_TUCK, PLATED_KNIT}
use Rattle.record.specs.Names.{carriers_of, is_rack, outline_of}
use Rattle.record.proofs.Shapes.{is, one_of_two}
use Rattle.record.proofs.Shapes.{cond_cases}
use Rattle.trace.specs.Records.{tied}
use Rattle.rewrite.specs.declared.Extent.{Extent}
use Rattle.rewrite.specs.Extents.{half_column, layer_of, narrow, broad, smaller, greater, form_extent, extent_of, meets, member, share_carrier}
use Rattle.rewrite.specs.Programs.{what, knitting}
use Rattle.rewrite.specs.Laid.{far_apart}
use Rattle.rewrite.proofs.Signed.{le_from, le_trans, le_self, le_next, le_before}

-- the library's words for the smaller and the greater
min_is : (k j : ℕ) → min k j ≡ smaller k j
min_is k j = cases (ltb k j) (λ t. let h = ltb-true k j t in simp t (omega arith)) (λ t. let h = ltb-false k j t in simp t (omega arith))

max_is : (k j : ℕ) → max k j ≡ greater k j
max_is k j = cases (ltb k j) (λ t. let h = ltb-true k j t in simp t (omega arith)) (λ t. let h = ltb-false k j t in simp t (omega arith))

module _ (r : Racking) (x : Record) where
  abbrev h : ℤ
  h = half_column x.at r

  pub drop_extent : x.kind ≡ DROP → extent_of r x ≡ narrow h (layer_of x.at) (layer_of x.at)
  unfolding extent_of
  drop_extent e = simp e

  pub xfer_extent : x.kind ≡ XFER → extent_of r x ≡ narrow h 0 11
  unfolding extent_of
  xfer_extent e = simp e

  pub pass_extent : IN ≤ x.kind → x.kind ≤ MISS → extent_of r x ≡ broad h x.carrier x.carrier
  unfolding extent_of member
  pass_extent a b = is x.kind IN (λ e. simp e) (λ c. is x.kind OUT (λ e. simp e) (λ d. let e : x.kind ≡ MISS = omega arith in simp e))

  pub form_extent_lem : TUCK ≤ x.kind → x.kind ≤ KNIT → extent_of r x ≡ form_extent h x.at x.carrier x.carrier
  unfolding extent_of member
  form_extent_lem a b = one_of_two x.kind TUCK KNIT refl a b (λ e. simp e) (λ e. simp e)

  pub plated_extent : PLATED_TUCK ≤ x.kind → x.kind ≤ PLATED_KNIT → extent_of r x ≡ form_extent h x.at (smaller x.carrier x.second) (greater x.carrier x.second)
  unfolding extent_of member
  plated_extent a b = one_of_two x.kind PLATED_TUCK PLATED_KNIT refl a b (λ e. simp e) (λ e. simp e)

  pub plated_least : PLATED_TUCK ≤ x.kind → x.kind ≤ PLATED_KNIT → extent_of r x ≡ form_extent h x.at (min x.carrier x.second) (max x.carrier x.second)
  plated_least a b = rw (min_is x.carrier x.second, max_is x.carrier x.second) (plated_extent a b)

  -- a rack, a split, and what is no kind
  pub other_extent : (x.kind ≡ DROP → ⊥) → (x.kind ≡ XFER → ⊥) → (IN ≤ x.kind → x.kind ≤ KNIT → ⊥) → (PLATED_TUCK ≤ x.kind → x.kind ≤ PLATED_KNIT → ⊥) → extent_of r x ≡ broad h 0 11
  unfolding extent_of member
  other_extent a b w z =
      let k = x.kind in
      simp (
        ne_eqb k DROP a,
        ne_eqb k XFER b,
        ne_eqb k IN (λ e. w (omega arith) (omega arith)),
        ne_eqb k OUT (λ e. w (omega arith) (omega arith)),
        ne_eqb k MISS (λ e. w (omega arith) (omega arith)),
        ne_eqb k TUCK (λ e. w (omega arith) (omega arith)),
        ne_eqb k KNIT (λ e. w (omega arith) (omega arith)),
        ne_eqb k PLATED_TUCK (λ e. z (omega arith) (omega arith)),
        ne_eqb k PLATED_KNIT (λ e. z (omega arith) (omega arith)),
      )

pub ruleset extents = (drop_extent, xfer_extent, pass_extent, form_extent_lem, plated_least, other_extent)

-- a comparison of 32-bit values, as code reads them back
pub not_most : (a b : ℤ) → mag a < 2147483648 → mag b < 2147483648 → le_z (to_z w32 (of_z w32 a)) (to_z w32 (of_z w32 b)) ≡ false → le_z a b ≡ false
not_most a b h k e = sym (simp (back w32 a h, back w32 b k)) ∙ e

-- one of the four comparisons of two extents fails
module _ (a b : Extent) where
  pub right_of : le_z a.left b.right ≡ false → meets a b ≡ false
  unfolding meets
  right_of e = simp e

  pub left_of : le_z b.left a.right ≡ false → meets a b ≡ false
  unfolding meets
  left_of e = go (le_z a.left b.right)
    where
      go : (t : Bool) → ((t && le_z b.left a.right) && (leb a.low b.high && leb b.low a.high)) ≡ false
      go true = simp e
      go false = refl

  pub above : leb a.low b.high ≡ false → meets a b ≡ false
  unfolding meets
  above e = go (le_z a.left b.right && le_z b.left a.right)
    where
      go : (t : Bool) → (t && (leb a.low b.high && leb b.low a.high)) ≡ false
      go true = simp e
      go false = refl

  module _ (p : le_z a.left b.right ≡ true) (q : le_z b.left a.right ≡ true) where
    pub else_meets : a.low ≤ b.high → meets a b ≡ leb b.low a.high
    unfolding meets
    else_meets h = simp (p, q, le-leb a.low b.high h)

-- the tests of a tie, one after another
module _ (r : Racking) (x y : List ℕ) where
  pub rack_first : is_rack (what x) ≡ true → tied knitting r x y ≡ true
  rack_first a = simp a

  module _ (a : is_rack (what x) ≡ false) where
    pub rack_second : is_rack (what y) ≡ true → tied knitting r x y ≡ true
    rack_second b = simp (a, b)

    module _ (b : is_rack (what y) ≡ false) where
      pub one_carrier_tied : share_carrier (what x) (what y) ≡ true → tied knitting r x y ≡ true
      one_carrier_tied c = simp (a, b, c)

      pub by_extents_lem : share_carrier (what x) (what y) ≡ false → tied knitting r x y ≡ meets (extent_of r (what x)) (extent_of r (what y))
      by_extents_lem c = simp (a, b, c)

-- an outline is all that they look at
pub outline_extent : (r : Racking) (x : Record) → extent_of r (outline_of x) ≡ extent_of r x
unfolding outline_of extent_of
outline_extent r x = refl

pub outline_share : (x y : Record) → share_carrier (outline_of x) (outline_of y) ≡ share_carrier x y
unfolding outline_of carriers_of
outline_share x y = refl

-- ---- columns that are far apart
-- an extent reaches one half column to each side of its own at most
spread : (r : Racking) (x : Record) → (le_z (half_column x.at r -ℤ pos 1) (extent_of r x).left ≡ true) × (le_z (extent_of r x).right (half_column x.at r +ℤ pos 1) ≡ true)
unfolding extent_of
spread r x =
    cond_cases P (eqb x.kind DROP) (λ e. one) (λ e. cond_cases P (eqb x.kind XFER) (λ e. one)
    (λ e. cond_cases P (member x.kind (IN ∷ OUT ∷ MISS ∷ [])) (λ e. three) (λ e. cond_cases P (member x.kind (TUCK ∷ KNIT ∷ []))
    (λ e. cond_cases P (eqb x.at.0 0) (λ e. three) (λ e. three)) (λ e. cond_cases P (member x.kind (PLATED_TUCK ∷ PLATED_KNIT ∷ []))
    (λ e. cond_cases P (eqb x.at.0 0) (λ e. three) (λ e. three)) (λ e. three)))))
  where
    h : ℤ
    h = half_column x.at r

    P : Extent → Type 0
    P e = (le_z (h -ℤ pos 1) e.left ≡ true) × (le_z e.right (h +ℤ pos 1) ≡ true)

    one : (le_z (h -ℤ pos 1) h ≡ true) × (le_z h (h +ℤ pos 1) ≡ true)
    one = (le_before h, le_next h)

    three : (le_z (h -ℤ pos 1) (h -ℤ pos 1) ≡ true) × (le_z (h +ℤ pos 1) (h +ℤ pos 1) ≡ true)
    three = (le_self (h -ℤ pos 1), le_self (h +ℤ pos 1))

-- so that extents meet only at neighbouring columns
meets_near : (r : Racking) (x y : Record) → meets (extent_of r x) (extent_of r y) ≡ true → nat_abs ((column_of x.at r).0 -ℤ (column_of y.at r).0) ≤ 1
unfolding meets half_column
meets_near r x y e = near (a -ℤ b) (difference a b)
  where
    a : ℤ
    a = (column_of x.at r).0

    b : ℤ
    b = (column_of y.at r).0

    d : Extent
    d = extent_of r x

    f : Extent
    f = extent_of r y

    across : (le_z d.left f.right ≡ true) × (le_z f.left d.right ≡ true)
    across = and_parts (le_z d.left f.right) (le_z f.left d.right) (and_parts (le_z d.left f.right && le_z f.left d.right) (leb d.low f.high && leb f.low d.high) e).0

    -- 2a - 1 ≤ 2b + 1 and 2b - 1 ≤ 2a + 1
    left : up (a +ℤ a -ℤ pos 1) + dn (b +ℤ b +ℤ pos 1) ≤ up (b +ℤ b +ℤ pos 1) + dn (a +ℤ a -ℤ pos 1)
    left = le_from (a +ℤ a -ℤ pos 1) (b +ℤ b +ℤ pos 1) (le_trans (a +ℤ a -ℤ pos 1) d.left (b +ℤ b +ℤ pos 1) (spread r x).0 (le_trans d.left f.right (b +ℤ b +ℤ pos 1) across.0 (spread r y).1))

    right : up (b +ℤ b -ℤ pos 1) + dn (a +ℤ a +ℤ pos 1) ≤ up (a +ℤ a +ℤ pos 1) + dn (b +ℤ b -ℤ pos 1)
    right = le_from (b +ℤ b -ℤ pos 1) (a +ℤ a +ℤ pos 1) (le_trans (b +ℤ b -ℤ pos 1) f.left (a +ℤ a +ℤ pos 1) (spread r y).0 (le_trans f.left d.right (a +ℤ a +ℤ pos 1) across.1 (spread r x).1))

    near : (z : ℤ) → up z + (dn a + up b) ≡ dn z + (up a + dn b) → nat_abs z ≤ 1
    near (pos n) q = omega (arith, left, right, sum a a, sum b b, difference (a +ℤ a) (pos 1), difference (b +ℤ b) (pos 1), sum (a +ℤ a) (pos 1), sum (b +ℤ b) (pos 1))
    near (negsuc n) q = omega (arith, left, right, sum a a, sum b b, difference (a +ℤ a) (pos 1), difference (b +ℤ b) (pos 1), sum (a +ℤ a) (pos 1), sum (b +ℤ b) (pos 1))

pub far_apart_lem : (r : Racking) (x y : Record) → far_apart (column_of x.at r) (column_of y.at r) ≡ true → meets (extent_of r x) (extent_of r y) ≡ false
unfolding far_apart
far_apart_lem r x y e =
    cases (meets (extent_of r x) (extent_of r y)) (λ t. absurd (omega (arith, meets_near r x y t, ltb-true 1 (nat_abs ((column_of x.at r).0 -ℤ (column_of y.at r).0)) e))) (λ t. t)

-- the comparison of columns, as code makes it
pub outside : (d : ℤ) → ltb 1 (nat_abs d) ≡ (lt_z d (negsuc 0) || lt_z (pos 1) d)
outside (pos n) = refl
outside (negsuc n) = leb-suc-suc 1 n ∙ sym (or-false (ltb 0 n))
