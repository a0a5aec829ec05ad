-- Swaps of records are exchanges of their marks, and back. Assumes nothing.
use borrow.Table.Steps.{cases}
use Prim.Native.Nat.{ℕ, zero, suc}
use mathlib.Core.Path.{◌≡◌, refl, sym, ap, ◌∙◌}
use mathlib.Core.Bool.{false, true≢false}
use mathlib.Core.List.{List, [], ◌∷◌, head-eq_of_cons-eq, tail-eq_of_cons-eq}
use borrow.Author.Tests.{eq-eqb}
use Rattle.trace.specs.Records.{Records, tied, Lawful}
use Rattle.trace.specs.Swaps.{made, behind, swap_at, Swaps, no_swap, swap_first}
use Rattle.trace.proofs.Exchanges.{Exchange, Exchanges}
use Rattle.trace.proofs.Swaps.{Made, made_is, untied}
use Rattle.trace.proofs.Marks.{Mark, marked, marks, marks_eq, stretch_after, tied_marks}

module _ {A R : Type 0} (K : Records A R) (L : Lawful K) where
  open K use {is_rack, after}
  open L use {racking_refl, after_other}

  made_exchange : {r : R} {i : ℕ} {l m : List A} (k : ℕ) → Made K r i l m → Exchange (tied_marks K) i (marks K k r l) (marks K k r m)
  made_exchange k (Made.here {r} {x} {y} t) =
      let (a, b, c, d) = untied K r x y t in
      let h : tied_marks K (marked K k r x) (marked K k r y) ≡ false = cc (eq-eqb k k refl, racking_refl r) in
      rw (a, b, after_other r x a, after_other r y b, after_other r x a) (Exchange.front h)
  made_exchange k (Made.there {x = x} s) = Exchange.behind (made_exchange (stretch_after K k x) s)

  pub swaps_exchanges : {r : R} {is : List ℕ} {l m : List A} → Swaps K r is l m → Exchanges (tied_marks K) is (marks K 0 r l) (marks K 0 r m)
  swaps_exchanges no_swap = Exchanges.none_left
  swaps_exchanges {r} (swap_first {i} {l = l} {m = m} e t) = Exchanges.then_next (made_exchange 0 (made_is K l m r i e)) (swaps_exchanges t)

  -- the marks M are those of a list that a swap makes
  abbrev MadeMarks : R → ℕ → List A → ℕ → List (Mark A R) → Type 0
  MadeMarks r i l k M = (m : List A) × (swap_at K r i l ≡ made m) × (M ≡ marks K k r m)

  -- neighbours whose marks are not tied are not tied
  marks_untied : (k : ℕ) (r : R) (a b : A) → tied_marks K (marked K k r a) (marked K (stretch_after K k a) (after r a) b) ≡ false → tied K r a b ≡ false
  marks_untied k r a b h =
      cases (is_rack a) (λ e. absurd (true≢false (cc))) λ e.
      cc (after_other r a e, eq-eqb k k refl, racking_refl r)

  made_front : (k : ℕ) (r : R) (a b : A) (l : List A) → tied K r a b ≡ false
      → MadeMarks r zero (a ∷ b ∷ l) k
      (marked K (stretch_after K k a) (after r a) b ∷ marked K k r a ∷ marks K (stretch_after K (stretch_after K k a) b) (after (after r a) b) l)
  made_front k r a b l t =
      let (p, q, c, d) = untied K r a b t in
      (b ∷ a ∷ l, cc, rw (p, q, after_other r a p, after_other r b q, after_other r a p))

  made_behind : (k : ℕ) (r : R) (a : A) (l : List A) (i : ℕ) (x : Mark A R) (M : List (Mark A R)) → x ≡ marked K k r a
      → MadeMarks (after r a) i l (stretch_after K k a) M → MadeMarks r (suc i) (a ∷ l) k (x ∷ M)
  made_behind k r a l i x M e t = let (m, f, g) = t in (a ∷ m, ap (behind a) f, cc)

  exchange_made : {i : ℕ} {N M : List (Mark A R)} → Exchange (tied_marks K) i N M → (k : ℕ) (r : R) (l : List A) → N ≡ marks K k r l → MadeMarks r i l k M
  exchange_made (Exchange.front h) k r [] e = absurd (true≢false (cc))
  exchange_made (Exchange.front h) k r (a ∷ []) e = absurd (true≢false (cc))
  exchange_made (Exchange.front h) k r (a ∷ b ∷ l) e =
      let ea = head-eq_of_cons-eq e in
      let eb = head-eq_of_cons-eq (tail-eq_of_cons-eq e) in
      rw (ea, eb, tail-eq_of_cons-eq (tail-eq_of_cons-eq e)) (made_front k r a b l (marks_untied k r a b (rw (ea, eb) at h)))
  exchange_made (Exchange.behind s) k r [] e = absurd (true≢false (cc))
  exchange_made (Exchange.behind {x} {i} {m = M} s) k r (a ∷ l) e =
      made_behind k r a l i x M (head-eq_of_cons-eq e) (exchange_made s (stretch_after K k a) (after r a) l (tail-eq_of_cons-eq e))

  pub exchanges_swaps : {is : List ℕ} {N M : List (Mark A R)} → Exchanges (tied_marks K) is N M
      → (r : R) (l m : List A) → N ≡ marks K 0 r l → M ≡ marks K 0 r m → Swaps K r is l m
  exchanges_swaps Exchanges.none_left r l m e f = rw (marks_eq K 0 r l m (sym e ∙ f)) no_swap
  exchanges_swaps (Exchanges.then_next s t) r l m e f =
      let (n, g, h) = exchange_made s 0 r l e in
      swap_first g (exchanges_swaps t r n m h f)
