-- The call ends in one of the ways of specs/Exact, and in no other. Assumes nothing.
use borrow.Table.Steps.{cases}
use Prim.Native.Nat.{ℕ}
use mathlib.Core.Path.{◌≡◌, refl, sym, ap, subst, ◌∙◌}
use mathlib.Core.Bool.{true, false, true≢false}
use mathlib.Core.List.{List}
use mathlib.Core.Logic.{◌↔◌}
use native.Mathlib.Omega.{arith}
use lib.IntN.{ℤ, nat_abs}
use lib.ListN.{length, take, drop, take-append-drop}
use borrow.Author.Tests.{le-leb, leb-true}
use Rattle.machine.specs.declared.Racking.{Racking}
use Rattle.machine.specs.Limits.{racking_most}
use Rattle.machine.specs.Range.{racking_ok}
use Rattle.record.specs.declared.Record.{Record}
use Rattle.record.specs.Kinds.{RACK}
use Rattle.record.specs.Format.{Reading, byte, refused_as, decode_of}
use Rattle.record.proofs.Ranges.{InRange}
use Rattle.record.proofs.Shapes.{is, known_size, sized_known}
use Rattle.record.proofs.Forms.{Reads, reads, decode_none, decode_strange, decode_short, decode_known, read_outside, form_decode, form_in, decode_form}
use Rattle.run.specs.Reason.{CutShort}
use Rattle.rewrite.specs.declared.Extent.{Extent}
use Rattle.rewrite.specs.Extents.{Covers, Share, extent_of, Within, meets}
use Rattle.rewrite.proofs.Covers.{covers_exactly}
use Rattle.rewrite.proofs.Lawful.{meets_exactly}
use Rattle.tie.specs.declared.Tied.{Tied}
use Rattle.tie.specs.Tie.{only_number, by_carrier, by_extents, least_shared, common, tie_of_extents, tie_of_records, tie_of}
use Rattle.tie.specs.Exact.{Begins, Unread, OneRack, Both, Ties, Tells, TieExactly}
use Rattle.tie.proofs.Looks.{first_rack, second_rack, carrier_shared, by_extents_lem, racking_out, first_refused, second_refused, both_read}
use Rattle.tie.proofs.Rectangles.{common_within, same_extent_lem}
use Rattle.tie.proofs.Carriers.{shared_none, none_shared, shared_least, least_shared_lem}

-- ---- bytes that begin with a record, or with none
pub begins_read : {l : List ℕ} {x : Record} → Begins l x → ((decode_of l).number ≡ 0) × ((decode_of l).what ≡ x)
begins_read {l} {x} b =
    let e : decode_of l ≡ record { number = 0; size = length b.bytes; what = x } = ap decode_of b.whole ∙ form_decode b.form b.rest in
    (ap (λ (d : Reading). d.number) e, ap (λ (d : Reading). d.what) e)

read_begins : (l : List ℕ) → (decode_of l).number ≡ 0 → Begins l (decode_of l).what
read_begins l e =
    let n = (decode_of l).size in
    record { bytes = take n l; rest = drop n l; whole = sym (take-append-drop n l); form = decode_form l e }

unread : (l : List ℕ) {d : Reading} → Reads l d → (d.number ≡ 0 → ⊥) → Unread l d.number
unfolding refused_as
unread l (Reads.none e) h = Unread.cut_short (CutShort.no_byte e)
unread l (Reads.strange a e) h = Unread.unknown_kind (record { some = a; unknown = e })
unread l (Reads.short f a b) h = Unread.cut_short (CutShort.too_few f b)
unread l (Reads.outside f a e) h =
    Unread.field_range (record { whole = record { some = omega (arith, known_size (sized_known (byte l 0) f)); known = f; long = a }; outside = e })
unread l (Reads.done f a e) h = absurd (h refl)

-- 3, 4 or 5
pub unread_number : {l : List ℕ} {n : ℕ} → Unread l n → ((decode_of l).number ≡ n) × (n ≡ 0 → ⊥)
unfolding refused_as
unread_number {l} (Unread.unknown_kind u) = (ap (λ (d : Reading). d.number) (decode_strange l u.some u.unknown), λ e. omega arith)
unread_number {l} (Unread.cut_short (CutShort.no_byte e)) = (ap (λ (d : Reading). d.number) (decode_none l e), λ e. omega arith)
unread_number {l} (Unread.cut_short (CutShort.too_few f h)) =
    (is (length l) 0 (λ e. ap (λ (d : Reading). d.number) (decode_none l e)) (λ g. ap (λ (d : Reading). d.number) (decode_short l (omega arith) h)), λ e. omega arith)
unread_number {l} (Unread.field_range u) =
    let w = u.whole in
    (ap (λ (d : Reading). d.number) (decode_known l w.some w.known ∙ read_outside l w.long u.outside), λ e. omega arith)

-- ---- two records in range
module _ (r : Racking) (x y : Record) (h : InRange x) (k : InRange y) where
  abbrev e : Extent
  e = extent_of r x

  abbrev f : Extent
  f = extent_of r y

  meeting : (meets e f ≡ true) ↔ Share r x y
  meeting = meets_exactly r x y (h.carrier_high, h.second_high) (k.carrier_high, k.second_high)

  -- what both cover is what is within both extents
  in_common : (z : ℤ) (layer : ℕ) → Within (common e f) z layer ↔ (Covers r x z layer × Covers r y z layer)
  in_common z layer =
      let (there, back) = common_within e f z layer in
      let a = covers_exactly r x z layer in let b = covers_exactly r y z layer in
      (λ w. let (p, q) = there w in (a.0 p, b.0 q), λ (p, q). back (a.1 p, b.1 q))

  meeting_tells : meets e f ≡ true → tie_of_extents e f ≡ by_extents (common e f)
  unfolding tie_of_extents
  meeting_tells t = simp t

  apart_tells : meets e f ≡ false → tie_of_extents e f ≡ only_number 0
  unfolding tie_of_extents
  apart_tells t = simp t

  -- what is told holds
  ties_extents : (OneRack x y → ⊥) → ((k : ℕ) → Both x y k → ⊥) → Ties r x y (tie_of_extents e f)
  ties_extents d n =
      cases (meets e f)
      (λ t. subst (Ties r x y) (sym (meeting_tells t)) (Ties.extents_meet d n (common e f) (record { some = meeting.0 t; exactly = in_common })))
      (λ t. subst (Ties r x y) (sym (apart_tells t)) (Ties.untied d n (λ s. true≢false (sym (meeting.1 s) ∙ t))))

  ties : Ties r x y (tie_of_records r x y)
  ties =
      is x.kind RACK (λ a. subst (Ties r x y) (sym (first_rack r x y a)) (Ties.a_rack (OneRack.first a)))
      (λ a. is y.kind RACK (λ b. subst (Ties r x y) (sym (second_rack r x y a b)) (Ties.a_rack (OneRack.second b)))
      (λ b. let no_rack : OneRack x y → ⊥ = no a b in
      is (least_shared x y) 0 (λ c. subst (Ties r x y) (sym (by_extents_lem r x y a b c)) (ties_extents no_rack (shared_none x y h c)))
      (λ c. subst (Ties r x y) (sym (carrier_shared r x y a b c)) (Ties.one_carrier no_rack (least_shared x y) (shared_least x y h c)))))
    where
      no : (x.kind ≡ RACK → ⊥) → (y.kind ≡ RACK → ⊥) → OneRack x y → ⊥
      no a b (OneRack.first c) = a c
      no a b (OneRack.second c) = b c

  -- and nothing else does
  tells_alone : {t : Tied} → Ties r x y t → tie_of_records r x y ≡ t
  tells_alone (Ties.a_rack (OneRack.first a)) = first_rack r x y a
  tells_alone (Ties.a_rack (OneRack.second b)) = is x.kind RACK (λ a. first_rack r x y a) (λ a. second_rack r x y a b)
  tells_alone (Ties.one_carrier d k s) =
      let (q, some) = least_shared_lem x y h s in
      carrier_shared r x y (λ a. d (OneRack.first a)) (λ b. d (OneRack.second b)) (λ z. some (sym q ∙ z)) ∙ ap by_carrier q
  tells_alone (Ties.extents_meet d n g s) =
      let (z, layer, a, b) = s.some in
      by_extents_lem r x y (λ a. d (OneRack.first a)) (λ b. d (OneRack.second b)) (none_shared x y h n)
      ∙ meeting_tells (meeting.1 s.some)
      ∙ ap by_extents (same_extent_lem (common e f) g ((in_common z layer).1 (a, b))
      (λ z layer. (λ c. (s.exactly z layer).1 ((in_common z layer).0 c), λ c. (in_common z layer).1 ((s.exactly z layer).0 c))))
  tells_alone (Ties.untied d n s) =
      by_extents_lem r x y (λ a. d (OneRack.first a)) (λ b. d (OneRack.second b)) (none_shared x y h n)
      ∙ apart_tells (cases (meets e f) (λ t. absurd (s (meeting.0 t))) (λ t. t))

-- ---- the call
begins_in : {l : List ℕ} {x : Record} → Begins l x → InRange x
begins_in b = form_in b.form

module _ (z : ℤ) (p q : List ℕ) where
  abbrev r : Racking
  r = record { 0 = z }

  tells : Tells z p q (tie_of z p q)
  tells =
      cases (racking_ok z)
      (λ a. let near = leb-true (nat_abs z) racking_most a in
      is (decode_of p).number 0
      (λ b. is (decode_of q).number 0
      (λ c. subst (Tells z p q) (sym (both_read z p q a b c)) (Tells.told near (decode_of p).what (decode_of q).what (read_begins p b) (read_begins q c) _
      (ties r (decode_of p).what (decode_of q).what (begins_in (read_begins p b)) (begins_in (read_begins q c)))))
      (λ c. subst (Tells z p q) (sym (second_refused z p q a b c)) (Tells.second_unread near (decode_of p).what (read_begins p b) (decode_of q).number (unread q (reads q) c))))
      (λ b. subst (Tells z p q) (sym (first_refused z p q a b)) (Tells.first_unread near (decode_of p).number (unread p (reads p) b))))
      (λ a. subst (Tells z p q) (sym (racking_out z p q a)) (Tells.bad_racking (λ h. true≢false (sym (le-leb (nat_abs z) racking_most h) ∙ a))))

  alone : {t : Tied} → Tells z p q t → tie_of z p q ≡ t
  alone (Tells.bad_racking d) = racking_out z p q (cases (racking_ok z) (λ a. absurd (d (leb-true (nat_abs z) racking_most a))) (λ a. a))
  alone (Tells.first_unread near n u) =
      let (e, some) = unread_number u in
      first_refused z p q (le-leb (nat_abs z) racking_most near) (λ b. some (sym e ∙ b)) ∙ ap only_number e
  alone (Tells.second_unread near x b n u) =
      let (e, some) = unread_number u in
      second_refused z p q (le-leb (nat_abs z) racking_most near) (begins_read b).0 (λ c. some (sym e ∙ c)) ∙ ap only_number e
  alone (Tells.told near x y b c t w) =
      let (bn, bx) = begins_read b in
      let (cn, cy) = begins_read c in
      both_read z p q (le-leb (nat_abs z) racking_most near) bn cn ∙ (λ i. tie_of_records r (bx i) (cy i)) ∙ tells_alone r x y (begins_in b) (begins_in c) w

pub tie_exactly : TieExactly
tie_exactly z p q t = (λ e. subst (Tells z p q) e (tells z p q), λ w. alone z p q w)
