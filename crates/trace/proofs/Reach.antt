-- The lists that swaps reach: those with the same records between the same racks and the same order of tied records. Assumes nothing.
use borrow.Table.Steps.{cases}
use Prim.Native.Nat.{ℕ, ◌+◌, ◌<◌}
use mathlib.Core.Path.{◌≡◌, refl, sym, ◌∙◌}
use mathlib.Core.Bool.{true}
use mathlib.Core.List.{List}
use mathlib.Core.Logic.{◌↔◌}
use native.Mathlib.Omega.{arith}
use lib.Dec.{ltb}
use lib.ListN.{take}
use borrow.Author.Tests.{ltb-true, ltb-false}
use Rattle.trace.specs.Lists.{count, Nth}
use Rattle.trace.specs.Records.{Records, Lawful}
use Rattle.trace.specs.Swaps.{Swaps}
use Rattle.trace.specs.Order.{SameRecords, tied_in, SameOrder, KeepsOrder}
use Rattle.trace.proofs.Positions.{nth_bound, nth_exists, nth_unique}
use Rattle.trace.proofs.Exchanges.{exchanges_views, views_exchanges}
use Rattle.trace.proofs.Elements.{SameElements, elements_count}
use Rattle.trace.proofs.Views.{TiedOrder, views_elements, views_order, order_views}
use Rattle.trace.proofs.Swaps.{swaps_back}
use Rattle.trace.proofs.Marks.{Mark, marks, same_mark, mark_refl, mark_eq, mark_ties}
use Rattle.trace.proofs.MarkSwaps.{swaps_exchanges, exchanges_swaps}
use Rattle.trace.proofs.Stretches.{records_marks}
use Rattle.trace.proofs.Places.{mark_at, mark_at_lem, earlier, equals_at, nth_mark, tied_marks_lem, tied_in_sym, marks_tied_at}

module _ {A R : Type 0} (K : Records A R) (L : Lawful K) (r : R) (l m : List A) where
  open K use {same}
  open L use {same_refl}

  abbrev old : List (Mark A R)
  old = marks K 0 r l

  abbrev new : List (Mark A R)
  new = marks K 0 r m

  -- with the same marks, repeats counted, the order of tied marks is the order of tied records
  module _ (elements : SameElements (same_mark K) old new) where
    earlier_same : (z : Mark A R) → count (earlier K z) old ≡ count (earlier K z) new
    earlier_same z = elements_count (same_mark K) (mark_refl K L) (mark_eq K L) old new elements (earlier K z)

    marks_order : TiedOrder (mark_ties K L) old new → KeepsOrder K r l m
    marks_order h x y i j b =
        let z = mark_at K r l b.p x in
        let w = mark_at K r l b.q y in
        let a = count (same_mark K z) (take b.p old) in
        let d = count (same_mark K w) (take b.q old) in
        let t = tied_marks_lem K L r l b.p b.q x y b.before b.both_tied in
        let c = h z w a d t (record {
          p = b.p;
          q = b.q;
          x_at_p = record { holds = mark_at_lem K r l b.p x b.x_at_p.holds; equals = refl };
          y_at_q = record { holds = mark_at_lem K r l b.q y b.y_at_q.holds; equals = refl };
          before = b.before;
        }) in
        let n = nth_mark K L r m z a c.p c.x_at_p in
        let o = nth_mark K L r m w d c.q c.y_at_q in
        record {
          p = c.p;
          q = c.q;
          x_at_p = record { holds = n.holds; equals = n.equals ∙ (rw (← earlier_same z) (sym (equals_at K L r l b.p x b.x_at_p.holds))) ∙ b.x_at_p.equals };
          y_at_q = record { holds = o.holds; equals = o.equals ∙ (rw (← earlier_same w) (sym (equals_at K L r l b.q y b.y_at_q.holds))) ∙ b.y_at_q.equals };
          before = c.before;
          both_tied = marks_tied_at K r m c.p c.q z w c.x_at_p.holds c.y_at_q.holds t;
        }

    order_marks : KeepsOrder K r l m → TiedOrder (mark_ties K L) old new
    order_marks h z w i j t b =
        let c = h z.what w.what (count (earlier K z) old + i) (count (earlier K w) old + j) (record {
          p = b.p;
          q = b.q;
          x_at_p = nth_mark K L r l z i b.p b.x_at_p;
          y_at_q = nth_mark K L r l w j b.q b.y_at_q;
          before = b.before;
          both_tied = marks_tied_at K r l b.p b.q z w b.x_at_p.holds b.y_at_q.holds t;
        }) in
        let (p, n) = place z i b.p b.x_at_p in
        let (q, o) = place w j b.q b.y_at_q in
        let e = only z i p n c.p c.x_at_p in
        let f = only w j q o c.q c.y_at_q in
        record { p = p; q = q; x_at_p = n; y_at_q = o; before = omega (arith, c.before) }
      where
        place : (z : Mark A R) (i p : ℕ) → Nth (same_mark K) old z i p → (q : ℕ) × Nth (same_mark K) new z i q
        place z i p n = nth_exists (same_mark K) (mark_eq K L) z new i (rw (← elements z) (nth_bound (same_mark K) (mark_refl K L) z old i p n))

        only : (z : Mark A R) (i p : ℕ) → Nth (same_mark K) new z i p → (q : ℕ) → Nth same m z.what (count (earlier K z) old + i) q → p ≡ q
        only z i p n q o = nth_unique same same_refl z.what m (count (earlier K z) new + i) p q (nth_mark K L r m z i p n) (rw (← earlier_same z) o)

  -- the one half suffices
  pub reaches : SameRecords K l m → KeepsOrder K r l m → (is : List ℕ) × Swaps K r is l m
  reaches s o =
      let c = records_marks K L r l m s in
      let (is, t) = views_exchanges (mark_ties K L) new old (order_views (mark_ties K L) old new c (order_marks c o)) in
      (is, exchanges_swaps K L t r l m refl refl)

  keeps_order : {is : List ℕ} → Swaps K r is l m → KeepsOrder K r l m
  keeps_order t =
      let h = exchanges_views (mark_ties K L) (swaps_exchanges K L t) in
      marks_order (views_elements (mark_ties K L) old new h) (views_order (mark_ties K L) old new h)

module _ {A R : Type 0} (K : Records A R) (L : Lawful K) where
  open K use {same}
  open L use {same_refl}

  pub same_order : {r : R} {is : List ℕ} {l m : List A} → Swaps K r is l m → SameOrder K r l m
  same_order {r} {is} {l} {m} t x y i j = (keeps_order K L r l m t x y i j, keeps_order K L r m l (swaps_back K L t).1 x y i j)

  -- the same order gives the same order of the positions of two tied records
  order_positions : (r : R) (l m : List A) → KeepsOrder K r l m → (x y : A) (i j p q p' q' : ℕ) → Nth same l x i p → Nth same l y j q → tied_in K r l p q x y ≡ true
      → Nth same m x i p' → Nth same m y j q' → p < q → p' < q'
  order_positions r l m o x y i j p q p' q' a b t c d h =
      let w = o x y i j (record { p = p; q = q; x_at_p = a; y_at_q = b; before = h; both_tied = t }) in
      omega (arith, nth_unique same same_refl x m i p' w.p c w.x_at_p, nth_unique same same_refl y m j q' w.q d w.y_at_q, w.before)

  pub positions : (r : R) (l m : List A) → KeepsOrder K r l m → (x y : A) (i j p q p' q' : ℕ) → Nth same l x i p → Nth same l y j q → tied_in K r l p q x y ≡ true
      → Nth same m x i p' → Nth same m y j q' → (p < q) ↔ (p' < q')
  positions r l m o x y i j p q p' q' a b t c d = (
    order_positions r l m o x y i j p q p' q' a b t c d,
    (λ h. cases (ltb p q) (ltb-true p q) (λ e. cases (ltb q p) (λ f. absurd (later h (ltb-true q p f))) (λ f. absurd (equal h (omega (arith, ltb-false p q e, ltb-false q p f)))))),
  )
    where
      later : p' < q' → q < p → ⊥
      later h u = omega (arith, order_positions r l m o y x j i q p q' p' b a (tied_in_sym K L r l q p y x u ∙ t) d c u)

      -- one position holds one record
      equal : p' < q' → p ≡ q → ⊥
      equal h e =
          let px = a.holds in
          let qy = b.holds in
          let xy : x ≡ y = cc in
          let ix = a.equals in
          let jy = b.equals in
          let ij : i ≡ j = cc in
          omega (arith, nth_unique same same_refl x m i p' q' c (rw (xy, ij) d))
