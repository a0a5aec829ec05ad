-- A record of a list, marked with its stretch and the racking in force there: so marked, it is fixed which records are tied. Assumes nothing.
use borrow.Table.Steps.{cases}
use Prim.Native.Nat.{ℕ, suc}
use mathlib.Core.Path.{◌≡◌, refl, sym, ap, ap₂, ◌∙◌}
use mathlib.Core.Bool.{Bool, true, cond, ◌||◌, ◌&&◌}
use mathlib.Core.List.{List, [], ◌∷◌, map}
use lib.Dec.{eqb}
use borrow.Author.Tests.{eqb-true, eq-eqb}
use Rattle.std.proofs.lemmas.Bool.{and_parts}
use Rattle.trace.specs.Records.{Records, Lawful}
use Rattle.trace.proofs.Tests.{test_eq, tied_by_lem, tie_sym}
use Rattle.trace.proofs.Exchanges.{Ties}

pub record Mark (A R : Type 0) : Type 0 where
  pub stretch : ℕ
  pub racking : R
  pub what : A

module _ {A R : Type 0} (K : Records A R) where
  open K use {same, same_racking, is_rack, after, share, meet}

  abbrev pub marked : ℕ → R → A → Mark A R
  marked k r x = record { stretch = k; racking = r; what = x }

  -- the stretch after a record of stretch k
  abbrev pub stretch_after : ℕ → A → ℕ
  stretch_after k x = cond (is_rack x) (suc k) k

  -- the records of a list that begins in stretch k with racking r
  abbrev pub marks : ℕ → R → List A → List (Mark A R)
  marks k r [] = []
  marks k r (x ∷ l) = marked k r x ∷ marks (stretch_after k x) (after r x) l

  -- one stretch and one racking
  abbrev pub together : Mark A R → Mark A R → Bool
  together z w = eqb z.stretch w.stretch && same_racking z.racking w.racking

  abbrev pub same_mark : Mark A R → Mark A R → Bool
  same_mark z w = together z w && same z.what w.what

  -- either is a rack, they name one carrier, or they stand in one stretch and their extents meet
  abbrev pub tied_marks : Mark A R → Mark A R → Bool
  tied_marks z w = is_rack z.what || (is_rack w.what || (share z.what w.what || (together z w && meet z.racking z.what w.what)))

  -- a list is known by its marks
  unmark : (k : ℕ) (r : R) (l : List A) → map (λ (z : Mark A R). z.what) (marks k r l) ≡ l
  unmark k r [] = refl
  unmark k r (x ∷ l) = ap {B = List A} (λ t. x ∷ t) (unmark (stretch_after k x) (after r x) l)

  pub marks_eq : (k : ℕ) (r : R) (l m : List A) → marks k r l ≡ marks k r m → l ≡ m
  marks_eq k r l m e = sym (unmark k r l) ∙ ap (map (λ (z : Mark A R). z.what)) e ∙ unmark k r m

  module _ (L : Lawful K) where
    open L use {same_refl, same_eq, racking_refl, racking_eq, share_sym, meet_sym, meet_refl}

    pub together_stretch : (z w : Mark A R) → together z w ≡ true → z.stretch ≡ w.stretch
    together_stretch z w e = eqb-true z.stretch w.stretch (and_parts (eqb z.stretch w.stretch) (same_racking z.racking w.racking) e).0

    together_racking : (z w : Mark A R) → together z w ≡ true → z.racking ≡ w.racking
    together_racking z w e = racking_eq z.racking w.racking (and_parts (eqb z.stretch w.stretch) (same_racking z.racking w.racking) e).1

    together_eq : (z w : Mark A R) → z.stretch ≡ w.stretch → z.racking ≡ w.racking → together z w ≡ true
    together_eq z w e f = cc (eq-eqb z.stretch z.stretch refl, racking_refl z.racking)

    together_sym : (z w : Mark A R) → together z w ≡ together w z
    together_sym z w =
        test_eq (together z w) (together w z)
        (λ e. together_eq w z (sym (together_stretch z w e)) (sym (together_racking z w e)))
        (λ e. together_eq z w (sym (together_stretch w z e)) (sym (together_racking w z e)))

    pub mark_refl : (z : Mark A R) → same_mark z z ≡ true
    mark_refl z = cc (together_eq z z refl refl, same_refl z.what)

    pub mark_eq : (z w : Mark A R) → same_mark z w ≡ true → z ≡ w
    mark_eq z w e =
        let (n, s) = and_parts (together z w) (same z.what w.what) e in
        let x = same_eq z.what w.what s in
        let k = together_stretch z w n in
        let r = together_racking z w n in
        λ i. record { stretch = k i; racking = r i; what = x i }

    pub marks_tied_refl : (z : Mark A R) → tied_marks z z ≡ true
    marks_tied_refl z = tied_by_lem (is_rack z.what) (is_rack z.what) (λ a b c. ap₂ ◌&&◌ (together_eq z z refl refl) (meet_refl z.racking z.what a c))

    pub marks_tied_sym : (z w : Mark A R) → tied_marks z w ≡ tied_marks w z
    marks_tied_sym z w =
        let n = together_sym z w in
        let m = meet_sym z.racking z.what w.what in
        tie_sym (is_rack z.what) (is_rack w.what) (share_sym z.what w.what) (cases (together z w) (λ e. let r = together_racking z w e in cc) (λ e. cc))

    abbrev pub mark_ties : Ties (Mark A R)
    mark_ties =
        record {
          same = same_mark;
          tied = tied_marks;
          same_refl = mark_refl;
          same_eq = mark_eq;
          tied_refl = marks_tied_refl;
          tied_sym = marks_tied_sym;
        }
