-- Footprints: extents by kind, what they cover and when they meet; each hook that a record works lies inside its extent. Assumes nothing.
use borrow.Table.Steps.{cases}
use Prim.Native.Nat.{ℕ, ◌-◌, ◌≤◌}
use mathlib.Core.Path.{◌≡◌, refl, sym, subst, ◌∙◌}
use mathlib.Core.Bool.{Bool, true, false, ◌&&◌, ◌||◌, true≢false}
use mathlib.Core.List.{List, [], ◌∷◌, map}
use native.Mathlib.Omega.{arith}
use lib.IntN.{ℤ, ◌+ℤ◌}
use lib.Signed.{le_z}
use lib.ListN.{take}
use lib.Dec.{eqb, leb, ltb}
use borrow.Author.Tests.{ne_eqb, eqb-false, leb-true, le-leb}
use Rattle.std.proofs.lemmas.Bool.{and_parts}
use Rattle.machine.specs.declared.Needle.{Needle}
use Rattle.machine.specs.declared.Column.{Column}
use Rattle.machine.specs.declared.Racking.{Racking}
use Rattle.machine.specs.Limits.{carrier_count}
use Rattle.machine.specs.Machine.{OnBed, hook_of, Each}
use Rattle.machine.specs.Geometry.{column_of}
use Rattle.record.specs.declared.Record.{Record}
use Rattle.record.specs.Kinds.{by_kind, hooks_worked, carriers_named}
use Rattle.record.specs.Names.{needles_of, carriers_of}
use Rattle.record.proofs.Shapes.{Known, Named, Count, none, one, two, named, hook_count_lem, carrier_count_lem}
use Rattle.record.proofs.Ranges.{InRange}
use Rattle.record.proofs.Shapes.{cond_cases}
use Rattle.rewrite.specs.declared.Extent.{Extent}
use Rattle.rewrite.specs.Extents.{half_column, layer_of, narrow, broad, smaller, greater, form_extent, extent_of, Within, meets, member, common, share_carrier}
use Rattle.rewrite.proofs.Edits.{Away, Apart}
use Rattle.rewrite.proofs.Signed.{le_trans, le_self, le_next, le_before, later, higher}

-- ---- extents that meet
-- extents that cover one point meet
pub share_meets : (a b : Extent) (h : ℤ) (layer : ℕ) → Within a h layer → Within b h layer → meets a b ≡ true
unfolding meets
share_meets a b h layer p q =
    simp (
      le_trans a.left h b.right p.left q.right,
      le_trans b.left h a.right q.left p.right,
      le-leb a.low b.high (omega arith),
      le-leb b.low a.high (omega arith),
    )

-- extents that meet, each with a point that it covers, cover one point: the later left end, on the higher of the lowest layers
pub meets_share : (a b : Extent) (h i : ℤ) (k m : ℕ) → Within a h k → Within b i m → meets a b ≡ true → (z : ℤ) × (layer : ℕ) × Within a z layer × Within b z layer
unfolding meets
meets_share a b h i k m p q e =
    let (columns, layers) = and_parts (le_z a.left b.right && le_z b.left a.right) (leb a.low b.high && leb b.low a.high) e in
    let (ab, ba) = and_parts (le_z a.left b.right) (le_z b.left a.right) columns in
    let (lab, lba) = and_parts (leb a.low b.high) (leb b.low a.high) layers in
    let (z, za, zb, zc) = later a.left b.left in
    let (n, na, nb, nc) = higher a.low b.low in (
      z,
      n,
      record { left = za; right = zc a.right (le_trans a.left h a.right p.left p.right) ba; low = na; high = nc a.high (omega arith) (leb-true b.low a.high lba) },
      record { left = zb; right = zc b.right ab (le_trans b.left i b.right q.left q.right); low = nb; high = nc b.high (leb-true a.low b.high lab) (omega arith) },
    )

-- ---- a record's footprint: how many hooks it works, and its extent
pub data Footprint (h : ℤ) (n : Needle) (k : ℕ) : ℕ → Extent → Type 0 where
  rack : Footprint h n k 0 (broad h 0 11)
  drop : Footprint h n k 1 (narrow h (layer_of n) (layer_of n))
  xfer : Footprint h n k 2 (narrow h 0 11)
  pass : Footprint h n k 0 (broad h k k)
  form : (low high : ℕ) → low ≤ carrier_count → Footprint h n k 1 (form_extent h n low high)
  split : Footprint h n k 2 (broad h 0 11)

-- both carriers that a record has room for are in range, or 0
abbrev pub CarriersHigh : Record → Type 0
CarriersHigh x = (x.carrier ≤ carrier_count) × (x.second ≤ carrier_count)

module _ (r : Racking) (x : Record) (h : CarriersHigh x) where
  smaller_in : smaller x.carrier x.second ≤ carrier_count
  smaller_in = cond_cases (λ (k : ℕ). k ≤ carrier_count) (ltb x.carrier x.second) (λ e. h.0) (λ e. h.1)

  pub footprint : Footprint (half_column x.at r) x.at x.carrier (hooks_worked x.kind) (extent_of r x)
  unfolding by_kind extent_of member
  footprint = go (named x.kind)
    where
      go : Named x.kind → Footprint (half_column x.at r) x.at x.carrier (hooks_worked x.kind) (extent_of r x)
      go (Named.known (Known.rack e)) = simp e rack
      go (Named.known (Known.drop e)) = simp e drop
      go (Named.known (Known.xfer e)) = simp e xfer
      go (Named.known (Known.carrier_in e)) = simp e pass
      go (Named.known (Known.carrier_out e)) = simp e pass
      go (Named.known (Known.miss e)) = simp e pass
      go (Named.known (Known.tuck e)) = simp e (form x.carrier x.carrier h.0)
      go (Named.known (Known.knit e)) = simp e (form x.carrier x.carrier h.0)
      go (Named.known (Known.split e)) = simp e split
      go (Named.known (Known.plated_tuck e)) = simp e (form (smaller x.carrier x.second) (greater x.carrier x.second) smaller_in)
      go (Named.known (Known.plated_knit e)) = simp e (form (smaller x.carrier x.second) (greater x.carrier x.second) smaller_in)
      go (Named.unknown d z) =
          let k = x.kind in
          simp (
            ne_eqb k 1 (λ e. d (Known.rack e)),
            ne_eqb k 2 (λ e. d (Known.drop e)),
            ne_eqb k 3 (λ e. d (Known.xfer e)),
            ne_eqb k 4 (λ e. d (Known.carrier_in e)),
            ne_eqb k 5 (λ e. d (Known.carrier_out e)),
            ne_eqb k 6 (λ e. d (Known.miss e)),
            ne_eqb k 7 (λ e. d (Known.tuck e)),
            ne_eqb k 8 (λ e. d (Known.knit e)),
            ne_eqb k 9 (λ e. d (Known.split e)),
            ne_eqb k 10 (λ e. d (Known.plated_tuck e)),
            ne_eqb k 11 (λ e. d (Known.plated_knit e)),
          ) rack

on_narrow : (h : ℤ) {low high layer : ℕ} → low ≤ layer → layer ≤ high → Within (narrow h low high) h layer
on_narrow h a b = record { left = le_self h; right = le_self h; low = a; high = b }

on_broad : (h : ℤ) {low high layer : ℕ} → low ≤ layer → layer ≤ high → Within (broad h low high) h layer
on_broad h a b = record { left = le_before h; right = le_next h; low = a; high = b }

layer_high : (n : Needle) → layer_of n ≤ 11
unfolding layer_of
layer_high n = cond_cases (λ (m : ℕ). m ≤ 11) (eqb n.0 0) (λ e. omega arith) (λ e. omega arith)

-- a tuck or knit, plain or plated, covers its needle's bed
on_form : (h : ℤ) (n : Needle) (low high : ℕ) → low ≤ carrier_count → Within (form_extent h n low high) h (layer_of n)
unfolding layer_of
on_form h n low high le = cases (eqb n.0 0) (λ e. simp e (on_broad h (omega arith) (omega arith))) (λ e. simp e (on_broad h (omega arith) (omega arith)))

module _ {h : ℤ} {n : Needle} {k : ℕ} where
  -- every extent covers something
  pub some_layer : {m : ℕ} {e : Extent} → Footprint h n k m e → (layer : ℕ) × Within e h layer
  some_layer rack = (0, on_broad h (omega arith) (omega arith))
  some_layer drop = (layer_of n, on_narrow h (omega arith) (omega arith))
  some_layer xfer = (0, on_narrow h (omega arith) (omega arith))
  some_layer pass = (k, on_broad h (omega arith) (omega arith))
  some_layer (form low high le) = (layer_of n, on_form h n low high le)
  some_layer split = (0, on_broad h (omega arith) (omega arith))

  -- that of a record which works a hook covers its first needle; that of one which works two covers both beds
  first_covered : {m : ℕ} {e : Extent} → Footprint h n k m e → 1 ≤ m → Within e h (layer_of n)
  first_covered rack t = absurd (omega arith)
  first_covered drop t = on_narrow h (omega arith) (omega arith)
  first_covered xfer t = on_narrow h (omega arith) (layer_high n)
  first_covered pass t = absurd (omega arith)
  first_covered (form low high le) t = on_form h n low high le
  first_covered split t = on_broad h (omega arith) (layer_high n)

  both_covered : {m : ℕ} {e : Extent} → Footprint h n k m e → m ≡ 2 → (layer : ℕ) → layer ≤ 11 → Within e h layer
  both_covered rack t layer le = absurd (omega arith)
  both_covered drop t layer le = absurd (omega arith)
  both_covered xfer t layer le = on_narrow h (omega arith) le
  both_covered pass t layer le = absurd (omega arith)
  both_covered (form low high q) t layer le = absurd (omega arith)
  both_covered split t layer le = on_broad h (omega arith) le

-- ---- the needles that a record works and the carriers that it names, none, one or two
each_counted : {A : Type 0} (P : A → Type 0) (a b : A) {n : ℕ} → Count n → (1 ≤ n → P a) → (n ≡ 2 → P b) → Each P (take n (a ∷ b ∷ []))
each_counted P a b none f g = tt
each_counted P a b one f g = (f (omega arith), tt)
each_counted P a b two f g = (f (omega arith), (g refl, tt))

first_counted : {A B : Type 0} (f : A → B) (P : B → Type 0) (a b : A) {n : ℕ} → Count n → Each P (map f (take n (a ∷ b ∷ []))) → 1 ≤ n → P (f a)
first_counted f P a b none e t = absurd (omega arith)
first_counted f P a b one e t = e.0
first_counted f P a b two e t = e.0

second_counted : {A B : Type 0} (f : A → B) (P : B → Type 0) (a b : A) {n : ℕ} → Count n → Each P (map f (take n (a ∷ b ∷ []))) → n ≡ 2 → P (f b)
second_counted f P a b none e t = absurd (omega arith)
second_counted f P a b one e t = absurd (omega arith)
second_counted f P a b two e t = e.1.0

-- the places of its hooks and of its carriers
abbrev pub hooks_of : Record → List ℕ
hooks_of x = map hook_of (needles_of x)

abbrev pub places_of : Record → List ℕ
places_of x = map (λ (k : ℕ). k - 1) (carriers_of x)

module _ (P : ℕ → Type 0) (x : Record) where
  pub first_hook : Each P (hooks_of x) → 1 ≤ hooks_worked x.kind → P (hook_of x.at)
  unfolding needles_of
  first_hook e t = first_counted hook_of P x.at x.to (hook_count_lem x.kind) e t

  pub second_hook : Each P (hooks_of x) → hooks_worked x.kind ≡ 2 → P (hook_of x.to)
  unfolding needles_of
  second_hook e t = second_counted hook_of P x.at x.to (hook_count_lem x.kind) e t

  pub first_place : Each P (places_of x) → 1 ≤ carriers_named x.kind → P (x.carrier - 1)
  unfolding carriers_of
  first_place e t = first_counted (λ (k : ℕ). k - 1) P x.carrier x.second (carrier_count_lem x.kind) e t

  pub second_place : Each P (places_of x) → carriers_named x.kind ≡ 2 → P (x.second - 1)
  unfolding carriers_of
  second_place e t = second_counted (λ (k : ℕ). k - 1) P x.carrier x.second (carrier_count_lem x.kind) e t

-- ---- the law of footprints
-- fields in range, and two needles opposite: what a record must have before the state is looked at
pub record Settled (r : Racking) (x : Record) : Type 0 where
  pub in_range : InRange x
  pub opposite : hooks_worked x.kind ≡ 2 → column_of x.at r ≡ column_of x.to r

-- a needle inside an extent
pub record Inside (r : Racking) (e : Extent) (n : Needle) : Type 0 where
  pub on_bed_lem : OnBed n
  covered : Within e (half_column n r) (layer_of n)

module _ (r : Racking) (x : Record) (S : Settled r x) where
  abbrev print : Footprint (half_column x.at r) x.at x.carrier (hooks_worked x.kind) (extent_of r x)
  print = footprint r x (S.in_range.carrier_high, S.in_range.second_high)

  to_covered : hooks_worked x.kind ≡ 2 → Within (extent_of r x) (half_column x.to r) (layer_of x.to)
  unfolding half_column
  to_covered t =
      subst (λ (z : Column). Within (extent_of r x) (z.0 +ℤ z.0) (layer_of x.to)) (S.opposite t)
      (both_covered print t (layer_of x.to) (layer_high x.to))

  -- each needle that a settled record works lies inside its extent
  pub inside : Each (Inside r (extent_of r x)) (needles_of x)
  unfolding needles_of
  inside =
      each_counted (Inside r (extent_of r x)) x.at x.to (hook_count_lem x.kind)
      (λ t. record { on_bed_lem = S.in_range.at_bed; covered = first_covered print t })
      (λ t. record { on_bed_lem = S.in_range.to_bed; covered = to_covered t })

-- one hook is one needle
same_bed : (n m : Needle) → OnBed n → OnBed m → hook_of n ≡ hook_of m → n.0 ≡ m.0
same_bed n m p q e = omega arith

same_number : (n m : Needle) → OnBed n → OnBed m → hook_of n ≡ hook_of m → n.1 ≡ m.1
same_number n m p q e = omega (arith, same_bed n m p q e)

one_needle : (n m : Needle) → OnBed n → OnBed m → hook_of n ≡ hook_of m → n ≡ m
one_needle n m p q e = let a = same_bed n m p q e in let b = same_number n m p q e in λ i. record { 0 = a i; 1 = b i }

-- extents with one needle inside meet
pub inside_meets : (r : Racking) (a b : Extent) (n m : Needle) → Inside r a n → Inside r b m → n ≡ m → meets a b ≡ true
inside_meets r a b n m p q e =
    share_meets a b (half_column m r) (layer_of m) (subst (λ (l : Needle). Within a (half_column l r) (layer_of l)) e p.covered) q.covered

each_hook : {P : Needle → Type 0} (Q : ℕ → Type 0) → ((n : Needle) → P n → Q (hook_of n)) → (l : List Needle) → Each P l → Each Q (map hook_of l)
each_hook Q f [] e = tt
each_hook Q f (n ∷ l) e = (f n e.0, each_hook Q f l e.1)

-- where extents do not meet, hooks are apart
pub hooks_apart : (r : Racking) (x y : Record) → Settled r x → Settled r y → meets (extent_of r x) (extent_of r y) ≡ false → Apart (hooks_of x) (hooks_of y)
hooks_apart r x y S T clear =
    each_hook (λ (i : ℕ). Away i (hooks_of y))
    (λ n p. each_hook (λ (j : ℕ). hook_of n ≡ j → ⊥)
    (λ m q e. true≢false (sym (inside_meets r (extent_of r x) (extent_of r y) n m p q (one_needle n m p.on_bed_lem q.on_bed_lem e)) ∙ clear))
    (needles_of y) (inside r y T))
    (needles_of x) (inside r x S)

-- ---- carriers
both_false : (a b : Bool) → (a || b) ≡ false → (a ≡ false) × (b ≡ false)
both_false true b e = absurd (true≢false e)
both_false false b e = (refl, e)

abbrev Numbered : List ℕ → Type 0
Numbered l = Each (λ (k : ℕ). 1 ≤ k) l

numbered : (x : Record) → InRange x → Numbered (carriers_of x)
unfolding carriers_of
numbered x h = each_counted (λ (k : ℕ). 1 ≤ k) x.carrier x.second (carrier_count_lem x.kind) h.carrier_low h.second_low

member_away : (i : ℕ) (l : List ℕ) → 1 ≤ i → Numbered l → member i l ≡ false → Away (i - 1) (map (λ (k : ℕ). k - 1) l)
unfolding member
member_away i [] a b e = tt
member_away i (j ∷ l) a b e =
    let (here, rest) = both_false (eqb i j) (member i l) e in
    let low = b.0 in
    ((λ q. eqb-false i j here (omega arith)), member_away i l a b.1 rest)

common_apart : (is js : List ℕ) → Numbered is → Numbered js → common is js ≡ false → Apart (map (λ (k : ℕ). k - 1) is) (map (λ (k : ℕ). k - 1) js)
unfolding common
common_apart [] js a b e = tt
common_apart (i ∷ is) js a b e =
    let (here, rest) = both_false (member i js) (common is js) e in
    (member_away i js a.0 b here, common_apart is js a.1 b rest)

-- records that name no carrier in common work different ones
pub carriers_apart : (x y : Record) → InRange x → InRange y → share_carrier x y ≡ false → Apart (places_of x) (places_of y)
carriers_apart x y g h e = common_apart (carriers_of x) (carriers_of y) (numbered x g) (numbered y h) e
