-- The walk over the hooks: what it knows on its way, and that it answers as 02 says and in no other way. Assumes nothing.
use Prim.Native.Nat.{ℕ, zero, suc, ◌+◌, ◌≤◌, ◌<◌}
use mathlib.Core.Path.{◌≡◌, refl, sym, ap, subst, ◌∙◌}
use mathlib.Core.Bool.{Bool, true, false, cond}
use mathlib.Core.List.{List, [], ◌∷◌, ◌++◌}
use native.Mathlib.Omega.{arith}
use lib.IntN.{pos}
use lib.ListN.{length, drop, get_or}
use lib.Seq.{drop-cons, drop-length}
use lib.Dec.{eqb}
use borrow.Author.Tests.{eq-eqb, ne_eqb, eqb-true, eqb-false}
use borrow.Table.Steps.{cases}
use Rattle.machine.specs.declared.Walked.{Walked}
use Rattle.machine.specs.declared.Racking.{Racking}
use Rattle.machine.specs.Geometry.{eq_z}
use Rattle.machine.specs.Machine.{all, Each, no_loops}
use Rattle.machine.specs.Walk.{Walks, looked_at, walk_of, hooks_looked, WalkExactly}
use Rattle.machine.specs.Looks.{beds_walk}
use Rattle.std.specs.Ordering.{int_eq}
use Rattle.machine.proofs.Signed.{int_eq_is}

walked_as : {a b : Bool} {n m : ℕ} → a ≡ b → n ≡ m → ◌≡◌ {A = Walked} (record { none = a; looked = n }) (record { none = b; looked = m })
walked_as e f = λ i. record { none = e i; looked = f i }

-- ---- hook by hook
pub passed : (n : ℕ) (l : List ℕ) → n ≡ 0 → (no_loops (n ∷ l) ≡ no_loops l) × (looked_at (n ∷ l) ≡ suc (looked_at l))
unfolding all looked_at
passed n l e = (simp (eq-eqb n 0 e), simp (eq-eqb n 0 e))

pub stopped : (n : ℕ) (l : List ℕ) → (n ≡ 0 → ⊥) → (no_loops (n ∷ l) ≡ false) × (looked_at (n ∷ l) ≡ 1)
unfolding all looked_at
stopped n l d = (simp (ne_eqb n 0 d), simp (ne_eqb n 0 d))

pub ran_out : (no_loops [] ≡ true) × (looked_at [] ≡ 0)
unfolding all looked_at
ran_out = (refl, refl)

-- ---- hooks without a loop, and then nothing or a loop
all_passed : (l : List ℕ) → Each (λ (m : ℕ). m ≡ 0) l → (no_loops l ≡ true) × (looked_at l ≡ length l)
all_passed [] h = ran_out
all_passed (n ∷ l) h =
    let p = passed n l h.0 in let q = all_passed l h.1 in
    (p.0 ∙ q.0, p.1 ∙ ap suc q.1)

found_behind : (l : List ℕ) (n : ℕ) (after : List ℕ) → Each (λ (m : ℕ). m ≡ 0) l → (n ≡ 0 → ⊥) → (no_loops (l ++ n ∷ after) ≡ false) × (looked_at (l ++ n ∷ after) ≡ suc (length l))
found_behind [] n after h d = stopped n after d
found_behind (m ∷ l) n after h d =
    let p = passed m (l ++ n ∷ after) h.0 in let q = found_behind l n after h.1 d in
    (p.0 ∙ q.0, p.1 ∙ ap suc q.1)

-- ---- on the way: what is ahead tells what there is
pub record Ahead (l : List ℕ) (i : ℕ) : Type 0 where
  pub loops : no_loops (drop i l) ≡ no_loops l
  pub looks : i + looked_at (drop i l) ≡ looked_at l

module _ (l : List ℕ) where
  pub ahead_first : Ahead l 0
  ahead_first = record { loops = refl; looks = omega arith }

  module _ (i : ℕ) (a : Ahead l i) where
    pub ahead_next : i < length l → get_or l i 0 ≡ 0 → Ahead l (i + 1)
    ahead_next h e =
        let p = passed (get_or l i 0) (drop (suc i) l) e in let f = drop-cons l i 0 h in let g : i + 1 ≡ suc i = omega arith in
        record {
          loops = ap (λ (k : ℕ). no_loops (drop k l)) g ∙ sym p.0 ∙ ap no_loops (sym f) ∙ a.loops;
          looks = omega (arith, ap (λ (k : ℕ). looked_at (drop k l)) g, p.1, ap looked_at f, a.looks);
        }

    pub ahead_found : i < length l → (get_or l i 0 ≡ 0 → ⊥) → ◌≡◌ {A = Walked} (record { none = false; looked = i + 1 }) (walk_of l)
    unfolding walk_of
    ahead_found h d =
        let p = stopped (get_or l i 0) (drop (suc i) l) d in let f = drop-cons l i 0 h in
        walked_as (sym p.0 ∙ ap no_loops (sym f) ∙ a.loops) (omega (arith, p.1, ap looked_at f, a.looks))

    pub ahead_none : i ≡ length l → ◌≡◌ {A = Walked} (record { none = true; looked = i }) (walk_of l)
    unfolding walk_of
    ahead_none h =
        let f : drop i l ≡ [] = ap (λ (k : ℕ). drop k l) h ∙ drop-length l in
        walked_as (sym ran_out.0 ∙ ap no_loops (sym f) ∙ a.loops) (omega (arith, ran_out.1, ap looked_at f, a.looks))

-- ---- from the place of the first loop, if there is one
at_place : (l : List ℕ) (i : ℕ) → i < length l → (get_or l i 0 ≡ 0 → ⊥) → ((k : ℕ) → k < i → get_or l k 0 ≡ 0) → (no_loops l ≡ false) × (looked_at l ≡ i + 1)
at_place [] i h d b = absurd (omega arith)
at_place (n ∷ l) zero h d b = stopped n l d
at_place (n ∷ l) (suc i) h d b =
    let p = passed n l (b 0 (omega arith)) in let q = at_place l i (omega arith) d (λ k j. b (suc k) (omega arith)) in
    (p.0 ∙ q.0, omega (arith, p.1, q.1))

no_place : (l : List ℕ) → ((k : ℕ) → k < length l → get_or l k 0 ≡ 0) → (no_loops l ≡ true) × (looked_at l ≡ length l)
no_place [] b = ran_out
no_place (n ∷ l) b =
    let p = passed n l (b 0 (omega arith)) in let q = no_place l (λ k j. b (suc k) (omega arith)) in
    (p.0 ∙ q.0, p.1 ∙ ap suc q.1)

pub none_found : (l : List ℕ) → ((k : ℕ) → k < length l → get_or l k 0 ≡ 0) → ◌≡◌ {A = Walked} (record { none = true; looked = length l }) (walk_of l)
unfolding walk_of
none_found l h = let q = no_place l h in walked_as (sym q.0) (sym q.1)

pub found_on : (l : List ℕ) (i : ℕ) → i < length l → (get_or l i 0 ≡ 0 → ⊥) → ((k : ℕ) → k < i → get_or l k 0 ≡ 0) → ◌≡◌ {A = Walked} (record { none = false; looked = i + 1 }) (walk_of l)
unfolding walk_of
found_on l i h d b = let q = at_place l i h d b in walked_as (sym q.0) (sym q.1)

first_loop : (l : List ℕ) → 0 < length l → (get_or l 0 0 ≡ 0 → ⊥) → ◌≡◌ {A = Walked} (record { none = false; looked = 1 }) (walk_of l)
unfolding walk_of
first_loop [] h d = absurd (omega arith)
first_loop (n ∷ l) h d = let p = stopped n l d in walked_as (sym p.0) (sym p.1)

-- a look at the beds: the racking settles it, or the first hook, or the walk
module _ (r : Racking) (l : List ℕ) where
  beds_walked : int_eq r.0 (pos 0) ≡ true → walk_of l ≡ beds_walk r l
  unfolding hooks_looked walk_of
  beds_walked e = let f = sym (int_eq_is r.0 (pos 0)) ∙ e in walked_as (sym (simp f)) (sym (simp f))

  pub beds_racked : int_eq r.0 (pos 0) ≡ false → ◌≡◌ {A = Walked} (record { none = false; looked = 0 }) (beds_walk r l)
  unfolding hooks_looked
  beds_racked e = let f = sym (int_eq_is r.0 (pos 0)) ∙ e in walked_as (sym (simp f)) (sym (simp f))

  pub beds_first : int_eq r.0 (pos 0) ≡ true → 0 < length l → (get_or l 0 0 ≡ 0 → ⊥) → ◌≡◌ {A = Walked} (record { none = false; looked = 1 }) (beds_walk r l)
  beds_first e h d = first_loop l h d ∙ beds_walked e

  pub beds_ahead : (w : Walked) → int_eq r.0 (pos 0) ≡ true → w ≡ walk_of l → w ≡ beds_walk r l
  beds_ahead w e h = h ∙ beds_walked e

pub ruleset beds = (beds_racked, beds_first, beds_ahead)

-- no more hooks than there are
looked_most : (l : List ℕ) → looked_at l ≤ length l
looked_most [] = omega (arith, ran_out.1)
looked_most (n ∷ l) =
    cases (eqb n 0) (λ e. omega (arith, (passed n l (eqb-true n 0 e)).1, looked_most l)) (λ e. omega (arith, (stopped n l (eqb-false n 0 e)).1))

pub beds_most : (r : Racking) (l : List ℕ) → hooks_looked r l ≤ length l
unfolding hooks_looked
beds_most r l = cond_most (eq_z r.0 (pos 0))
  where
    cond_most : (t : Bool) → cond t (looked_at l) 0 ≤ length l
    cond_most true = looked_most l
    cond_most false = omega arith

-- ---- the statement
one_more : (n : ℕ) {l : List ℕ} {w : Walked} → n ≡ 0 → Walks l w → Walks (n ∷ l) (record { none = w.none; looked = suc w.looked })
one_more n e (Walks.found before m after f h d) = Walks.found (n ∷ before) m after (ap (λ (k : List ℕ). n ∷ k) f) (e, h) d
one_more n e (Walks.none h) = Walks.none (e, h)

walks : (l : List ℕ) → Walks l (walk_of l)
unfolding walk_of
walks [] = subst (Walks []) (walked_as (sym ran_out.0) (sym ran_out.1)) (Walks.none tt)
walks (n ∷ l) =
    cases (eqb n 0)
    (λ e. let z = eqb-true n 0 e in let p = passed n l z in subst (Walks (n ∷ l)) (walked_as (sym p.0) (sym p.1)) (one_more n z (walks l)))
    (λ e. let d = eqb-false n 0 e in let p = stopped n l d in subst (Walks (n ∷ l)) (walked_as (sym p.0) (sym p.1)) (Walks.found [] n l refl tt d))

walks_one : {l : List ℕ} {w : Walked} → Walks l w → walk_of l ≡ w
unfolding walk_of
walks_one (Walks.found before n after e h d) = let p = found_behind before n after h d in ap walk_of e ∙ walked_as p.0 p.1
walks_one {l} (Walks.none h) = let p = all_passed l h in walked_as p.0 p.1

pub walk_exactly : WalkExactly
walk_exactly l w = ((λ e. subst (Walks l) e (walks l)), walks_one)
