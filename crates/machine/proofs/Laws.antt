-- Laws of the machine's definitions: columns and slots as code reads them back, walks along a list, attachments, the empty state, the most loops. Assumes nothing.
use borrow.Table.Steps.{cases}
use Prim.Native.Nat.{ℕ, zero, suc, ◌+◌, ◌-◌, ◌<◌, ◌≤◌}
use mathlib.Core.Path.{◌≡◌, refl, sym, ap, ◌∙◌}
use mathlib.Core.Bool.{Bool, true, false, ◌&&◌, not, cond, and-true, and-false, and_assoc, false≢true}
use mathlib.Core.List.{List, [], ◌∷◌, map}
use mathlib.Core.Logic.{◌↔◌}
use native.Mathlib.Omega.{arith}
use lib.IntN.{ℤ, pos, negsuc, ◌+ℤ◌, ◌-ℤ◌}
use lib.Signed.{le_z, mag}
use lib.Dec.{eqb, leb, ltb}
use lib.ListN.{get_or, length, take, drop, replicate}
use lib.Seq.{drop-cons, drop-length}
use native.Mathlib.Numerals.{add-one}
use borrow.Author.Tests.{eqb-true, not-true, ltb-true, ltb-false, leb-true, le-leb}
use Rattle.std.proofs.lemmas.Bool.{and_parts}
use Rattle.machine.specs.declared.Needle.{Needle}
use Rattle.machine.specs.declared.Carrier.{Carrier}
use Rattle.machine.specs.declared.State.{State}
use Rattle.machine.specs.declared.Racking.{Racking}
use mir.Syntax.{w32, w64}
use mir.Val.{SFits, to_z, of_z}
use mir.Facts.{to_z-of_z}
use Rattle.machine.specs.Geometry.{column_of, eq_z}
use Rattle.machine.specs.Machine.{same_needle, all, attached_at, moved_to, no_loops, inactive, inactive_carrier, all_inactive, empty_state, complete_of}
use Rattle.machine.specs.Range.{slot_ok}
use Rattle.machine.specs.Looks.{beds_empty}
use Rattle.machine.proofs.Signed.{mag_sum, eq_z_true, fits_difference, cast_back}

-- how far a column reaches
pub column_reach : (n : Needle) (r : Racking) → mag r.0 < 128 → mag (column_of n r).0 ≤ n.1 + 129
unfolding column_of
column_reach n r k = go (eqb n.0 0)
  where
    go : (t : Bool) → mag (cond t (pos n.1) (pos n.1 +ℤ r.0)) ≤ n.1 + 129
    go true = omega arith
    go false = omega (arith, mag_sum (pos n.1) r.0)

-- the difference of two columns, each cast to 64 bits, as code reads it back
abbrev pub wide : ℤ → ℤ
wide z = to_z w64 (of_z w64 (to_z w32 (of_z w32 z)))

module _ (a b : ℤ) (h : mag a < 2147483648) (k : mag b < 2147483648) where
  pub difference_fits : SFits w64 (wide a -ℤ wide b)
  difference_fits = simp (cast_back w32 w64 a h (omega arith), cast_back w32 w64 b k (omega arith)) (fits_difference w64 a b (omega arith))

  pub difference_is : to_z w64 (of_z w64 (wide a -ℤ wide b)) ≡ a -ℤ b
  difference_is = to_z-of_z difference_fits ∙ simp (cast_back w32 w64 a h (omega arith), cast_back w32 w64 b k (omega arith))

-- a walk along a list
module _ {A : Type 0} (p : A → Bool) where
  pub all_next : (l : List A) (i : ℕ) (d : A) → i < length l → all p (drop i l) ≡ (p (get_or l i d) && all p (drop (i + 1) l))
  unfolding all
  all_next l i d h = rw (drop-cons l i d h, add-one i)

  pub all_end : (l : List A) (i : ℕ) → i ≡ length l → all p (drop i l) ≡ true
  unfolding all
  all_end l i h = rw (h, drop-length l)

-- and downwards
module _ {A : Type 0} (p : A → Bool) where
  last : (l : List A) (i : ℕ) (d : A) → i < length l → all p (take (suc i) l) ≡ (all p (take i l) && p (get_or l i d))
  unfolding all
  last [] i d h = absurd (omega arith)
  last (x ∷ l) zero d h = and-true (p x)
  last (x ∷ l) (suc i) d h = ap (λ (b : Bool). p x && b) (last l i d (omega arith)) ∙ sym (and_assoc (p x) (all p (take i l)) (p (get_or l i d)))

  pub all_last : (l : List A) (k : ℕ) (d : A) → 0 < k → k ≤ length l → all p (take k l) ≡ (all p (take (k - 1) l) && p (get_or l (k - 1) d))
  all_last l k d h m = let e : k ≡ suc (k - 1) = omega arith in ap (λ (n : ℕ). all p (take n l)) e ∙ last l (k - 1) d (omega arith)

  pub all_none : (l : List A) (k : ℕ) → k ≡ 0 → all p (take k l) ≡ true
  unfolding all
  all_none l k e = rw e refl

and_left : (a b : Bool) → (a && b) ≡ true → a ≡ true
and_left true b e = refl
and_left false b e = e

and_right : (a b : Bool) → (a && b) ≡ true → b ≡ true
and_right true b e = e
and_right false b e = absurd (false≢true e)

-- a carrier that names no needle of the number
abbrev pub other : Needle → Carrier → Bool
other n c = not (eqb c.needle.1 n.1)

still : (a b : Needle) (c : Carrier) → other a c ≡ true → moved_to a b c ≡ c
unfolding moved_to attached_at same_needle
still a b c e = simp (not-true (eqb c.needle.1 a.1) e, and-false (eqb c.needle.0 a.0), and-false (not (eqb c.side 0)))

-- where no carrier names it, nothing moves
pub none_moved : (a b : Needle) (l : List Carrier) → all (other a) l ≡ true → map (moved_to a b) l ≡ l
unfolding all
none_moved a b [] e = refl
none_moved a b (c ∷ l) e = cc (still a b c (and_parts (other a c) _ e).0, none_moved a b l (and_parts (other a c) _ e).1)

all_one : {A : Type 0} (p : A → Bool) (a : A) → ((x : A) → p x ≡ true → x ≡ a) → (l : List A) → all p l ≡ true → l ≡ replicate (length l) a
unfolding all
all_one p a only [] e = refl
all_one p a only (x ∷ l) e = cc (only x (and_parts (p x) (all p l) e).0, all_one p a only l (and_parts (p x) (all p l) e).1)

pub and_two : (a b : Bool) → (a && b) ≡ true → (a ≡ true) × (b ≡ true)
and_two a b e = (and_left a b e, and_right a b e)

same_fields : (a b x y : ℕ) (z : ℤ) → a ≡ 0 → b ≡ 0 → z ≡ pos 0 → x ≡ 0 → y ≡ 0
    → ◌≡◌ {A = Carrier} (record { active = a; side = b; slot = record { 0 = z }; needle = record { 0 = x; 1 = y } }) inactive
same_fields a b x y z p q r t u = cc

pub inactive_is : (c : Carrier) → inactive_carrier c ≡ true → c ≡ inactive
unfolding inactive_carrier
inactive_is c e =
    let (p, e1) = and_parts (eqb c.active 0) _ e in
    let (q, e2) = and_parts (eqb c.side 0) _ e1 in
    let (r, e3) = and_parts (eq_z c.slot.0 (pos 0)) _ e2 in
    let (t, u) = and_parts (eqb c.needle.0 0) _ e3 in
    same_fields c.active c.side c.needle.0 c.needle.1 c.slot.0
    (eqb-true c.active 0 p) (eqb-true c.side 0 q) (eq_z_true c.slot.0 (pos 0) r) (eqb-true c.needle.0 0 t) (eqb-true c.needle.1 0 u)

same_parts : (z : ℤ) (l : List ℕ) (n : ℕ) (k : List Carrier) → z ≡ pos 0 → l ≡ replicate 500 0 → k ≡ replicate 10 inactive
    → ◌≡◌ {A = State} (record { racking = record { 0 = z }; loops = l; limit = n; carriers = k }) (empty_state n)
unfolding empty_state
same_parts z l n k p q r = simp (p, q, r)

-- complete: the beds, then the carriers
pub complete_by : (s : State) {t : Bool} → beds_empty s.racking s.loops ≡ t → (t && all_inactive s.carriers) ≡ complete_of s
unfolding complete_of
complete_by s e =
    sym (sym (and_assoc (eq_z s.racking.0 (pos 0)) (no_loops s.loops) (all_inactive s.carriers)) ∙ ap (λ (t : Bool). t && all_inactive s.carriers) e)

-- complete is true exactly of the empty state at the state's own limit
complete_is_empty : (s : State) → length s.loops ≡ 500 → length s.carriers ≡ 10 → complete_of s ≡ true → s ≡ empty_state s.limit
unfolding complete_of
complete_is_empty s hl hc e =
    let (r, e1) = and_parts (eq_z s.racking.0 (pos 0)) _ e in
    let (l, k) = and_parts (no_loops s.loops) _ e1 in
    same_parts s.racking.0 s.loops s.limit s.carriers (eq_z_true s.racking.0 (pos 0) r)
    (all_one (λ (n : ℕ). eqb n 0) 0 (λ n h. eqb-true n 0 h) s.loops l ∙ ap (λ (n : ℕ). replicate n 0) hl)
    (all_one inactive_carrier inactive inactive_is s.carriers k ∙ ap (λ (n : ℕ). replicate n inactive) hc)

pub empty_is_complete : (limit : ℕ) → complete_of (empty_state limit) ≡ true
unfolding complete_of empty_state all inactive_carrier eq_z
empty_is_complete limit = refl

pub complete_exactly : (s : State) → length s.loops ≡ 500 → length s.carriers ≡ 10 → (complete_of s ≡ true) ↔ (s ≡ empty_state s.limit)
complete_exactly s hl hc = (complete_is_empty s hl hc, λ e. ap complete_of e ∙ empty_is_complete s.limit)

-- a slot in range, as two comparisons
pub slot_in : (z : ℤ) → slot_ok z ≡ (le_z (negsuc 7) z && le_z z (pos 258))
unfolding slot_ok
slot_in (pos n) = refl
slot_in (negsuc n) = sym (and-true (leb n 7))

-- the larger of two is at most b exactly if both are
larger_leb : (b a v : ℕ) → leb (cond (ltb a v) v a) b ≡ (leb a b && leb v b)
larger_leb b a v =
    cases (ltb a v) (λ t. let h = ltb-true a v t in simp t (cases (leb v b) (λ u. let k = leb-true v b u in simp (u, le-leb a b (omega arith))) (λ u. simp (u, and-false (leb a b)))))
    (λ t. let h = ltb-false a v t in simp t (cases (leb a b) (λ u. let k = leb-true a b u in simp (u, le-leb v b (omega arith))) (λ u. simp u)))

-- a walk that keeps the largest number so far: one element more
pub larger_next : (b most v m : ℕ) (rest : Bool) → m ≡ cond (ltb most v) v most → (leb most b && (leb v b && rest)) ≡ (leb m b && rest)
larger_next b most v m rest e = sym (and_assoc (leb most b) (leb v b) rest) ∙ ap (λ (t : Bool). t && rest) (sym (larger_leb b most v) ∙ ap (λ (k : ℕ). leb k b) (sym e))
