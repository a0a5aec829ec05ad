-- The laws that the theory of swaps (crate trace) asks of records and of the machine, and ties in 01's words. Assumes nothing.
use borrow.Table.Steps.{cases}
use Prim.Native.Nat.{ℕ}
use mathlib.Core.Path.{◌≡◌, refl, sym, ap, subst, ◌∙◌}
use mathlib.Core.Bool.{Bool, true, false, ◌||◌, true≢false, and_comm}
use mathlib.Core.List.{List, [], ◌∷◌}
use mathlib.Core.Option.{Option, none, some}
use mathlib.Core.Logic.{◌↔◌}
use native.Mathlib.Omega.{arith}
use lib.Signed.{le_z}
use lib.Dec.{eqb, leb}
use borrow.Author.Tests.{eq-eqb, ne_eqb, eqb-true, eqb-false}
use Rattle.std.proofs.lemmas.Bool.{and_parts}
use Rattle.machine.specs.declared.Needle.{Needle}
use Rattle.machine.specs.declared.Racking.{Racking}
use Rattle.machine.specs.declared.State.{State}
use Rattle.machine.specs.Machine.{same_needle, Each}
use Rattle.machine.proofs.Signed.{eq_z_yes, eq_z_true}
use Rattle.record.specs.declared.Record.{Record}
use Rattle.record.specs.Format.{Reading, refused_as}
use Rattle.record.specs.Kinds.{RACK}
use Rattle.record.specs.Names.{needles_of, carriers_of, is_rack, racking_after}
use Rattle.record.proofs.Ranges.{InRange}
use Rattle.record.proofs.Forms.{Reads, reads, decode_in, form_in}
use Rattle.trace.specs.Records.{Lawful, tied}
use Rattle.trace.specs.Machine.{and_then, Orderly}
use Rattle.trace.proofs.Tests.{tied_by_lem}
use Rattle.trace.proofs.Swaps.{untied}
use Rattle.rewrite.specs.declared.Extent.{Extent}
use Rattle.rewrite.specs.Extents.{half_column, extent_of, Share, meets, member, common, share_carrier}
use Rattle.rewrite.specs.Programs.{what, same_bytes, knitting, member_needle, Named, needle, carrier, names}
use Rattle.rewrite.specs.Claims.{TiedExactly}
use Rattle.rewrite.specs.Exact.{Tied}
use Rattle.rewrite.specs.Laid.{is_record}
use Rattle.rewrite.proofs.Machine.{machine, had, Good}
use Rattle.rewrite.proofs.Records.{record_form}
use Rattle.rewrite.proofs.Covers.{covers_exactly}
use Rattle.rewrite.proofs.Footprints.{CarriersHigh, footprint, some_layer, share_meets, meets_share, Settled, Inside, inside, inside_meets}
use Rattle.rewrite.proofs.Commute.{needle_eq, number_settled, racking_applied, untied_commute}

-- ---- extents
pub meets_exactly : (r : Racking) (x y : Record) → CarriersHigh x → CarriersHigh y → (meets (extent_of r x) (extent_of r y) ≡ true) ↔ Share r x y
meets_exactly r x y g h =
    let (k, p) = some_layer (footprint r x g) in let (m, q) = some_layer (footprint r y h) in (
      λ e. let (z, layer, a, b) = meets_share (extent_of r x) (extent_of r y) (half_column x.at r) (half_column y.at r) k m p q e in
          (z, layer, (covers_exactly r x z layer).0 a, (covers_exactly r y z layer).0 b),
      λ (z, layer, a, b). share_meets (extent_of r x) (extent_of r y) z layer ((covers_exactly r x z layer).1 a) ((covers_exactly r y z layer).1 b),
    )

meets_sym : (a b : Extent) → meets a b ≡ meets b a
unfolding meets
meets_sym a b = cc (and_comm (le_z a.left b.right) (le_z b.left a.right), and_comm (leb a.low b.high) (leb b.low a.high))

meets_self : (r : Racking) (x : Record) → CarriersHigh x → meets (extent_of r x) (extent_of r x) ≡ true
meets_self r x h = let (k, p) = some_layer (footprint r x h) in share_meets (extent_of r x) (extent_of r x) (half_column x.at r) k p p

-- whatever the bytes, the carriers that they name are at most 10
read_carriers : {x : List ℕ} {d : Reading} → Reads x d → (d.number ≡ 0 → InRange d.what) → CarriersHigh d.what
unfolding refused_as
read_carriers (Reads.none a) h = (omega arith, omega arith)
read_carriers (Reads.strange a b) h = (omega arith, omega arith)
read_carriers (Reads.short f a b) h = (omega arith, omega arith)
read_carriers (Reads.outside f a b) h = (omega arith, omega arith)
read_carriers (Reads.done f a b) h = let r = h refl in (r.carrier_high, r.second_high)

carriers_high : (x : List ℕ) → CarriersHigh (what x)
carriers_high x = read_carriers (reads x) (decode_in x)

bytes_meet : (r : Racking) (x : List ℕ) → meets (extent_of r (what x)) (extent_of r (what x)) ≡ true
bytes_meet r x = meets_self r (what x) (carriers_high x)

-- ---- carriers in common
eqb_sym : (m n : ℕ) → eqb m n ≡ eqb n m
eqb_sym m n = cases (eqb m n) (λ e. e ∙ sym (eq-eqb n m (sym (eqb-true m n e)))) (λ e. e ∙ sym (ne_eqb n m (λ q. eqb-false m n e (sym q))))

common_none : (l : List ℕ) → common l [] ≡ false
unfolding common member
common_none [] = refl
common_none (i ∷ l) = common_none l

common_more : (l : List ℕ) (j : ℕ) (js : List ℕ) → common l (j ∷ js) ≡ (member j l || common l js)
unfolding common member
common_more [] j js = refl
common_more (i ∷ l) j js = turn (eqb i j) (eqb j i) (member i js) (common l (j ∷ js)) (member j l) (common l js) (eqb_sym i j) (common_more l j js)
  where
    turn : (a a' b c d e : Bool) → a ≡ a' → c ≡ (d || e) → ((a || b) || c) ≡ ((a' || d) || (b || e))
    turn true a' b c d e p q = rw (sym p)
    turn false a' true c true e p q = rw (sym p)
    turn false a' true c false e p q = rw (sym p)
    turn false a' false c true e p q = rw (sym p, q)
    turn false a' false c false e p q = rw (sym p, q)

common_sym : (is js : List ℕ) → common is js ≡ common js is
unfolding common
common_sym is [] = common_none is
common_sym is (j ∷ js) = common_more is j js ∙ ap (λ (b : Bool). member j is || b) (common_sym is js)

common_member : (i : ℕ) (is js : List ℕ) → member i is ≡ true → member i js ≡ true → common is js ≡ true
unfolding common member
common_member i [] js e f = absurd (true≢false (sym e))
common_member i (j ∷ is) js e f =
    cases (eqb i j) (λ q. let p : member j js ≡ true = subst (λ (n : ℕ). member n js ≡ true) (eqb-true i j q) f in simp p)
    (λ q. let p = common_member i is js (sym (simp q) ∙ e) f in cases (member j js) (λ m. simp m) (λ m. simp (m, p)))

member_self : (i : ℕ) (l : List ℕ) → member i (i ∷ l) ≡ true
unfolding member
member_self i l = simp (eq-eqb i i refl)

member_more : (i j : ℕ) (l : List ℕ) → member i l ≡ true → member i (j ∷ l) ≡ true
unfolding member
member_more i j l e = cases (eqb i j) (λ q. simp q) (λ q. simp (q, e))

common_some : (is js : List ℕ) → common is js ≡ true → (k : ℕ) × (member k is ≡ true) × (member k js ≡ true)
unfolding common
common_some [] js e = absurd (true≢false (sym e))
common_some (i ∷ is) js e =
    cases (member i js) (λ m. (i, member_self i is, m))
    (λ m. let (k, p, q) = common_some is js (sym (simp m) ∙ e) in (k, member_more k i is p, q))

-- ---- the laws of records
same_self : (x : List ℕ) → same_bytes x x ≡ true
unfolding same_bytes
same_self [] = refl
same_self (a ∷ x) = simp (eq-eqb a a refl, same_self x)

same_eq : (x y : List ℕ) → same_bytes x y ≡ true → x ≡ y
unfolding same_bytes
same_eq [] [] e = refl
same_eq [] (b ∷ y) e = absurd (true≢false (sym e))
same_eq (a ∷ x) [] e = absurd (true≢false (sym e))
same_eq (a ∷ x) (b ∷ y) e = let (p, q) = and_parts (eqb a b) (same_bytes x y) e in cc (eqb-true a b p, same_eq x y q)

pub lawful : Lawful knitting
lawful =
    record {
      same_refl = same_self;
      same_eq = same_eq;
      racking_refl = λ r. eq_z_yes r.0 r.0 refl;
      racking_eq = λ r s e. let q = eq_z_true r.0 s.0 e in λ i. record { 0 = q i };
      after_other = λ r x e. simp e;
      share_sym = λ x y. common_sym (carriers_of (what x)) (carriers_of (what y));
      meet_sym = λ r x y. meets_sym (extent_of r (what x)) (extent_of r (what y));
      meet_refl = λ r x e f. bytes_meet r x;
    }

-- ---- the laws of the machine
record_in_lem : (x : List ℕ) → is_record x ≡ true → InRange (what x)
record_in_lem x w = form_in (record_form x w)

racking_step : (s t : State) (x : List ℕ) → machine.step s x ≡ some t → t.racking ≡ racking_after s.racking (what x)
racking_step s t x e =
    let h = had s t x e in
    ap (λ (u : State). u.racking) (sym h.state) ∙ racking_applied s (what x)

-- a step after none, and none after a step
none_after : (o : Option State) → and_then o (λ (t : State). none) ≡ none
none_after none = refl
none_after (some s) = refl

commute : (s : State) (x y : List ℕ) → tied knitting s.racking x y ≡ false
    → and_then (machine.step s x) (λ t. machine.step t y) ≡ and_then (machine.step s y) (λ t. machine.step t x)
commute s x y t =
    let (a, b, c, d) = untied knitting s.racking x y t in
    cases (is_record x)
    (λ v. cases (is_record y) (λ w. simp (v, w) (untied_commute s (what x) (what y) (record_in_lem x v) (record_in_lem y w) a b c d)) (λ w. simp (v, w, none_after)))
    (λ v. cases (is_record y) (λ w. simp (v, w, none_after)) (λ w. simp (v, w)))

member_each : (P : Needle → Type 0) (n : Needle) (l : List Needle) → member_needle n l ≡ true → Each P l → P n
unfolding member_needle
member_each P n [] e h = absurd (true≢false (sym e))
member_each P n (m ∷ l) e h = cases (same_needle n m) (λ q. subst P (sym (needle_eq n m q)) h.0) (λ q. member_each P n l (sym (simp q) ∙ e) h.1)

-- settled records that name one needle or carrier
named_both : (n : Named) (r : Racking) (x y : List ℕ) → Settled r (what x) → Settled r (what y) → names n x ≡ true → names n y ≡ true
    → share_carrier (what x) (what y) ≡ false → meets (extent_of r (what x)) (extent_of r (what y)) ≡ true
named_both (needle n) r x y S T p q c =
    inside_meets r (extent_of r (what x)) (extent_of r (what y)) n n
    (member_each (Inside r (extent_of r (what x))) n (needles_of (what x)) p (inside r (what x) S))
    (member_each (Inside r (extent_of r (what y))) n (needles_of (what y)) q (inside r (what y) T)) refl
named_both (carrier k) r x y S T p q c = absurd (true≢false (sym (common_member k (carriers_of (what x)) (carriers_of (what y)) p q) ∙ c))

named : (n : Named) (s t u : State) (x y : List ℕ) → machine.step s x ≡ some t → machine.step t y ≡ some u → names n x ≡ true → names n y ≡ true
    → tied knitting s.racking x y ≡ true
named n s t u x y e f p q =
    let r = s.racking in let g = had s t x e in let h = had t u y f in
    tied_by_lem (is_rack (what x)) (is_rack (what y))
    (λ a b. let kept : t.racking ≡ r = racking_step s t x e ∙ simp a in
    named_both n r x y (number_settled s (what x) (record_in_lem x g.is_one_record) g.number)
    (subst (λ (z : Racking). Settled z (what y)) kept (number_settled t (what y) (record_in_lem y h.is_one_record) h.number)) p q)

pub orderly : Orderly knitting machine names Good
orderly =
    record {
      good_step = λ s t x g e. tt;
      racking_step = racking_step;
      commute = λ s x y g t. commute s x y t;
      named = λ n s t u x y g e f p q. named n s t u x y e f p q;
    }

-- ---- a tie in 01's words
tied_words : (r : Racking) (x y : List ℕ) → tied knitting r x y ≡ true → Tied r x y
tied_words r x y e =
    cases (is_rack (what x)) (λ a. Tied.first_rack (eqb-true _ RACK a)) λ a.
    cases (is_rack (what y)) (λ b. Tied.second_rack (eqb-true _ RACK b)) λ b.
    cases (share_carrier (what x) (what y)) (λ c. let (k, p, q) = common_some (carriers_of (what x)) (carriers_of (what y)) c in Tied.one_carrier k p q) λ c.
    Tied.extents_meet ((meets_exactly r (what x) (what y) (carriers_high x) (carriers_high y)).0 (sym (simp (a, b, c)) ∙ e))

words_tied : (r : Racking) (x y : List ℕ) → Tied r x y → tied knitting r x y ≡ true
words_tied r x y t = tied_by_lem (is_rack (what x)) (is_rack (what y)) (last t)
  where
    last : Tied r x y → is_rack (what x) ≡ false → is_rack (what y) ≡ false → share_carrier (what x) (what y) ≡ false → meets (extent_of r (what x)) (extent_of r (what y)) ≡ true
    last (Tied.first_rack e) a b c = absurd (eqb-false _ 1 a e)
    last (Tied.second_rack e) a b c = absurd (eqb-false _ 1 b e)
    last (Tied.one_carrier k p q) a b c = absurd (true≢false (sym (common_member k (carriers_of (what x)) (carriers_of (what y)) p q) ∙ c))
    last (Tied.extents_meet s) a b c = (meets_exactly r (what x) (what y) (carriers_high x) (carriers_high y)).1 s

pub tied_exactly : TiedExactly
tied_exactly r x y = (tied_words r x y, words_tied r x y)
