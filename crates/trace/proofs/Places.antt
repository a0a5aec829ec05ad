-- The place of a record among its equals in the list, from its mark's place among the equal marks; and its ties from the marks' ties. Assumes nothing.
use borrow.Table.Steps.{cases}
use Prim.Native.Nat.{ℕ, zero, suc, ◌+◌, ◌<◌, ◌≤◌}
use mathlib.Core.Path.{◌≡◌, refl, sym, ap, ap₂, ◌∙◌}
use mathlib.Core.Bool.{Bool, true, cond, ◌&&◌, and-false, true≢false}
use mathlib.Core.List.{List, [], ◌∷◌}
use mathlib.Core.Option.{some}
use native.Mathlib.Omega.{arith}
use lib.Dec.{eqb, ltb}
use lib.ListN.{take, get_elem?}
use borrow.Author.Tests.{eq-eqb, eqb-true, eqb-false, ne_eqb, ltb-true, ltb-false}
use Rattle.trace.specs.Lists.{count, Nth}
use Rattle.trace.specs.Records.{Records, Lawful}
use Rattle.trace.specs.Order.{in_force, stretch_at, tied_in}
use Rattle.trace.proofs.Tests.{tie_sym}
use Rattle.trace.proofs.Marks.{Mark, marked, marks, stretch_after, together, together_stretch, same_mark, tied_marks}

module _ {A R : Type 0} (K : Records A R) where
  open K use {same, same_racking, is_rack, after, share, meet}

  -- the mark of x at position p
  abbrev pub mark_at : R → List A → ℕ → A → Mark A R
  mark_at r l p x = marked K (stretch_at K l p) (in_force K r (take p l)) x

  at_marks : (k : ℕ) (r : R) (l : List A) (p : ℕ) (x : A) → get_elem? l p ≡ some x
      → get_elem? (marks K k r l) p ≡ some (marked K (k + stretch_at K l p) (in_force K r (take p l)) x)
  at_marks k r [] p x e = cc
  at_marks k r (z ∷ l) zero x e = let f : k + 0 ≡ k = omega arith in rw f (cc)
  at_marks k r (z ∷ l) (suc p) x e =
      let ih = at_marks (stretch_after K k z) (after r z) l p x e in
      cases (is_rack z)
      (λ a. let f : k + suc (stretch_at K l p) ≡ suc k + stretch_at K l p = omega arith in cc)
      (λ a. cc)

  pub mark_at_lem : (r : R) (l : List A) (p : ℕ) (x : A) → get_elem? l p ≡ some x → get_elem? (marks K 0 r l) p ≡ some (mark_at r l p x)
  mark_at_lem r l p x e = let f = at_marks 0 r l p x e in let z : 0 + stretch_at K l p ≡ stretch_at K l p = omega arith in cc

  what_at : (k : ℕ) (r : R) (l : List A) (p : ℕ) (z : Mark A R) → get_elem? (marks K k r l) p ≡ some z → get_elem? l p ≡ some z.what
  what_at k r [] p z e = absurd (true≢false (cc))
  what_at k r (x ∷ l) zero z e = let f : marked K k r x ≡ z = cc in ap some (ap (λ (w : Mark A R). w.what) f)
  what_at k r (x ∷ l) (suc p) z e = what_at (stretch_after K k x) (after r x) l p z e

  -- a mark of a list is the mark at its position
  mark_is : (r : R) (l : List A) (p : ℕ) (z : Mark A R) → get_elem? (marks K 0 r l) p ≡ some z → mark_at r l p z.what ≡ z
  mark_is r l p z e = let f = mark_at_lem r l p z.what (what_at 0 r l p z e) in cc

  -- an equal record of an earlier stretch
  abbrev pub earlier : Mark A R → Mark A R → Bool
  earlier z w = ltb w.stretch z.stretch && same z.what w.what

  none_earlier : (z : Mark A R) (k : ℕ) (r : R) (l : List A) → z.stretch ≤ k → count (earlier z) (marks K k r l) ≡ 0
  none_earlier z k r [] h = refl
  none_earlier z k r (x ∷ l) h =
      cases (ltb k z.stretch) (λ a. absurd (omega (arith, ltb-true k z.stretch a))) λ a.
      rw a (none_earlier z (stretch_after K k x) (after r x) l (cases (is_rack x) (λ b. rw b (omega arith)) (λ b. rw b h)))

  module _ (L : Lawful K) where
    open L use {racking_refl, after_other, share_sym, meet_sym}

    -- with no rack the racking stays, and so it does between two positions with as many racks before them
    no_rack : (r : R) (l : List A) → count is_rack l ≡ 0 → in_force K r l ≡ r
    no_rack r [] e = refl
    no_rack r (x ∷ l) e =
        cases (is_rack x) (λ a. absurd (omega (arith, rw a at e))) (λ a. rw (after_other r x a) (no_rack r l (rw a at e)))

    one_racking : (l : List A) (r : R) (p q : ℕ) → p ≤ q → stretch_at K l p ≡ stretch_at K l q → in_force K r (take p l) ≡ in_force K r (take q l)
    one_racking l r zero q h e = sym (no_rack r (take q l) (sym e))
    one_racking l r (suc p) zero h e = absurd (omega arith)
    one_racking [] r (suc p) (suc q) h e = refl
    one_racking (x ∷ l) r (suc p) (suc q) h e =
        one_racking l (after r x) p q (omega arith) (cases (is_rack x) (λ a. let f = rw a at e in omega arith) (λ a. rw a at e))

    -- an equal record before the mark z stands in an earlier stretch, or it has the same mark
    head_count : (z : Mark A R) (k : ℕ) (r : R) (x : A) → k ≤ z.stretch → (z.stretch ≡ k → z.racking ≡ r) → (c b s : ℕ) → c ≡ b + s
        → cond (same z.what x) (suc c) c ≡ cond (earlier z (marked K k r x)) (suc b) b + cond (same_mark K z (marked K k r x)) (suc s) s
    head_count z k r x h g c b s e =
        cases (same z.what x)
        (λ a. cases (ltb k z.stretch)
        (λ d. cases (together K z (marked K k r x))
        (λ n. absurd (omega (arith, together_stretch K L z (marked K k r x) n, ltb-true k z.stretch d)))
        (λ n. rw (a, d, n) (omega arith)))
        (λ d. cases (together K z (marked K k r x))
        (λ n. rw (a, d, n) (omega arith))
        (λ n. let q : z.stretch ≡ k = omega (arith, ltb-false k z.stretch d) in
        let t = g q in
        absurd (true≢false (cc (eq-eqb k k refl, racking_refl r))))))
        (λ a. rw (a, and-false (ltb k z.stretch), and-false (together K z (marked K k r x))) e)

    equals_before : (l : List A) (p k : ℕ) (r : R) (z : Mark A R) → get_elem? l p ≡ some z.what → z.stretch ≡ k + stretch_at K l p → z.racking ≡ in_force K r (take p l)
        → count (same z.what) (take p l) ≡ count (earlier z) (marks K k r l) + count (same_mark K z) (take p (marks K k r l))
    equals_before [] p k r z e f g = absurd (true≢false (cc))
    equals_before (x ∷ l) zero k r z e f g = omega (arith, none_earlier z k r (x ∷ l) (omega arith))
    equals_before (x ∷ l) (suc p) k r z e f g =
        head_count z k r x (omega arith) (λ h. g ∙ no_rack r (take (suc p) (x ∷ l)) (omega arith))
        (count (same z.what) (take p l))
        (count (earlier z) (marks K (stretch_after K k x) (after r x) l))
        (count (same_mark K z) (take p (marks K (stretch_after K k x) (after r x) l)))
        (equals_before l p (stretch_after K k x) (after r x) z e (cases (is_rack x) (λ a. rw a (let h = rw a at f in omega arith)) (λ a. rw a (rw a at f))) g)

    pub equals_at : (r : R) (l : List A) (p : ℕ) (x : A) → get_elem? l p ≡ some x
        → count (same x) (take p l) ≡ count (earlier (mark_at r l p x)) (marks K 0 r l) + count (same_mark K (mark_at r l p x)) (take p (marks K 0 r l))
    equals_at r l p x e = equals_before l p 0 r (mark_at r l p x) e (omega arith) refl

    -- the place of a mark among the equal marks says the place of its record among the equal records
    pub nth_mark : (r : R) (l : List A) (z : Mark A R) (i p : ℕ) → Nth (same_mark K) (marks K 0 r l) z i p → Nth same l z.what (count (earlier z) (marks K 0 r l) + i) p
    nth_mark r l z i p n =
        let e = what_at 0 r l p z n.holds in
        let f = rw (mark_is r l p z n.holds) at (equals_at r l p z.what e) in
        record { holds = e; equals = f ∙ ap (λ (t : ℕ). count (earlier z) (marks K 0 r l) + t) n.equals }

    -- records are tied in a list exactly if their marks are
    pub tied_marks_lem : (r : R) (l : List A) (p q : ℕ) (x y : A) → p < q → tied_in K r l p q x y ≡ true → tied_marks K (mark_at r l p x) (mark_at r l q y) ≡ true
    tied_marks_lem r l p q x y h t =
        cases (eqb (stretch_at K l p) (stretch_at K l q))
        (λ e. cc (one_racking l r p q (omega arith) (eqb-true (stretch_at K l p) (stretch_at K l q) e), racking_refl (in_force K r (take p l))))
        (λ e. cc)

    -- being tied does not look at the order
    pub tied_in_sym : (r : R) (l : List A) (p q : ℕ) (x y : A) → p < q → tied_in K r l p q x y ≡ tied_in K r l q p y x
    tied_in_sym r l p q x y h =
        tie_sym (is_rack x) (is_rack y) (share_sym x y)
        (cases (eqb (stretch_at K l p) (stretch_at K l q))
        (λ e. let f = eqb-true (stretch_at K l p) (stretch_at K l q) e in
        cc (one_racking l r p q (omega arith) f, meet_sym (in_force K r (take p l)) x y))
        (λ e. cc (ne_eqb (stretch_at K l q) (stretch_at K l p) (λ f. eqb-false (stretch_at K l p) (stretch_at K l q) e (sym f)))))

  marks_tied : (r : R) (l : List A) (p q : ℕ) (x y : A) → tied_marks K (mark_at r l p x) (mark_at r l q y) ≡ true → tied_in K r l p q x y ≡ true
  marks_tied r l p q x y t =
      cases (eqb (stretch_at K l p) (stretch_at K l q))
      (λ e. cases (same_racking (in_force K r (take p l)) (in_force K r (take q l))) (λ s. cc)
      (λ s. cases (is_rack x) (λ a. cc) λ a. cases (is_rack y) (λ b. cc) λ b. cases (share x y) (λ c. cc) (λ c. cc)))
      (λ e. cc)

  pub marks_tied_at : (r : R) (l : List A) (p q : ℕ) (z w : Mark A R) → get_elem? (marks K 0 r l) p ≡ some z → get_elem? (marks K 0 r l) q ≡ some w
      → tied_marks K z w ≡ true → tied_in K r l p q z.what w.what ≡ true
  marks_tied_at r l p q z w e f t = marks_tied r l p q z.what w.what (ap₂ (tied_marks K) (mark_is r l p z e) (mark_is r l q w f) ∙ t)
