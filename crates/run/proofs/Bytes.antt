-- A record refused by its bytes, and one refused by its step: its number is the first reason at the front of a list. Assumes nothing.
use Prim.Native.Nat.{ℕ, ◌≤◌}
use mathlib.Core.Path.{◌≡◌, refl, sym, ap, subst, ◌∙◌}
use mathlib.Core.Bool.{true≢false}
use mathlib.Core.List.{List, ◌++◌}
use mathlib.Core.Logic.{◌↔◌}
use native.Mathlib.Omega.{arith}
use lib.ListN.{length, take, drop, take-append-drop}
use borrow.Author.Tests.{ne_eqb}
use Rattle.machine.specs.declared.State.{State}
use Rattle.record.specs.declared.Record.{Record}
use Rattle.record.specs.Kinds.{size_of}
use Rattle.record.specs.Format.{Reading, Encodes, byte, refused_as, decode_of}
use Rattle.record.proofs.Shapes.{is, known_size, sized_known}
use Rattle.record.proofs.Forms.{Reads, reads, form_decode, form_in, decode_form, decode_in}
use Rattle.run.specs.Relation.{Step}
use Rattle.run.specs.Reason.{Whole, CutShort, RecordReason, Reason, First}
use Rattle.run.specs.Step.{number_at}
use Rattle.run.specs.declared.Stepped.{Stepped}
use Rattle.run.specs.Run.{told, step_of}
use Rattle.run.specs.Claims.{NoStep, HasStep, StepRefusal}
use Rattle.run.proofs.Refusals.{first_of}
use Rattle.run.proofs.Sound.{step_only, step_sound, number_reason}
use Rattle.run.proofs.Earliest.{number_earliest}

-- ---- the three reasons of bytes
module _ {l : List ℕ} (f : size_of (byte l 0) ≡ 0 → ⊥) where
  not_short : size_of (byte l 0) ≤ length l → CutShort l → ⊥
  not_short h (CutShort.no_byte e) = f (omega arith)
  not_short h (CutShort.too_few k e) = omega arith

  whole : size_of (byte l 0) ≤ length l → Whole l
  whole h = record { some = omega (arith, known_size (sized_known (byte l 0) f)); known = f; long = h }

bytes_reason : {l : List ℕ} {d : Reading} (s : State) → Reads l d → (d.number ≡ 0 → ⊥) → Reason d.number s l
unfolding refused_as
bytes_reason s (Reads.none e) h = Reason.cut_short refl (CutShort.no_byte e)
bytes_reason s (Reads.strange a e) h = Reason.unknown_kind refl (record { some = a; unknown = e })
bytes_reason s (Reads.short f a b) h = Reason.cut_short refl (CutShort.too_few f b)
bytes_reason s (Reads.outside f a e) h = Reason.field_range refl (record { whole = whole f a; outside = e })
bytes_reason s (Reads.done f a e) h = absurd (h refl)

-- a form (the bytes that encode a record) at the front is what is decoded
front_decode : {l bytes : List ℕ} {x : Record} (rest : List ℕ) → l ≡ bytes ++ rest → Encodes bytes x → decode_of l ≡ record { number = 0; size = length bytes; what = x }
front_decode rest e form = ap decode_of e ∙ form_decode form rest

-- bytes that are refused have one reason alone
bytes_alone : {l : List ℕ} {d : Reading} {s : State} {m : ℕ} → Reason m s l → Reads l d → decode_of l ≡ d → (d.number ≡ 0 → ⊥) → m ≡ d.number
unfolding refused_as
bytes_alone (Reason.unknown_kind q a) (Reads.none e) i h = absurd (omega (arith, a.some))
bytes_alone (Reason.unknown_kind q a) (Reads.strange b c) i h = q
bytes_alone (Reason.unknown_kind q a) (Reads.short f b c) i h = absurd (f a.unknown)
bytes_alone (Reason.unknown_kind q a) (Reads.outside f b c) i h = absurd (f a.unknown)
bytes_alone (Reason.unknown_kind q a) (Reads.done f b c) i h = absurd (h refl)
bytes_alone (Reason.cut_short q a) (Reads.none e) i h = q
bytes_alone (Reason.cut_short q (CutShort.no_byte a)) (Reads.strange b c) i h = absurd (omega arith)
bytes_alone (Reason.cut_short q (CutShort.too_few a e)) (Reads.strange b c) i h = absurd (a c)
bytes_alone (Reason.cut_short q a) (Reads.short f b c) i h = q
bytes_alone (Reason.cut_short q a) (Reads.outside f b c) i h = absurd (not_short f b a)
bytes_alone (Reason.cut_short q a) (Reads.done f b c) i h = absurd (h refl)
bytes_alone (Reason.field_range q a) (Reads.none e) i h = absurd (omega (arith, a.whole.some))
bytes_alone (Reason.field_range q a) (Reads.strange b c) i h = absurd (a.whole.known c)
bytes_alone (Reason.field_range q a) (Reads.short f b c) i h = absurd (omega (arith, a.whole.long))
bytes_alone (Reason.field_range q a) (Reads.outside f b c) i h = q
bytes_alone (Reason.field_range q a) (Reads.done f b c) i h = absurd (h refl)
bytes_alone (Reason.of_record bytes rest x q form r) w i h = absurd (h (ap (λ (d : Reading). d.number) (sym i ∙ front_decode rest q form)))

-- where a record was decoded, every reason is one of that record
record_reason : {l : List ℕ} {d : Reading} {s : State} {m : ℕ} → Reads l d → decode_of l ≡ d → d.number ≡ 0 → Reason m s l → RecordReason m s d.what
unfolding refused_as
record_reason (Reads.none a) i e r = absurd (omega arith)
record_reason (Reads.strange a b) i e r = absurd (omega arith)
record_reason (Reads.short f a b) i e r = absurd (omega arith)
record_reason (Reads.outside f a b) i e r = absurd (omega arith)
record_reason (Reads.done f a b) i e (Reason.unknown_kind q u) = absurd (f u.unknown)
record_reason (Reads.done f a b) i e (Reason.cut_short q u) = absurd (not_short f a u)
record_reason (Reads.done f a b) i e (Reason.field_range q u) = absurd (true≢false (sym b ∙ u.outside))
record_reason {s = s} {m = m} (Reads.done f a b) i e (Reason.of_record bytes rest x q form r) =
    subst (λ (y : Record). RecordReason m s y) (ap (λ (d : Reading). d.what) (sym (front_decode rest q form) ∙ i)) r

-- ---- the first reason
pub bytes_first_lem : (s : State) (l : List ℕ) → ((decode_of l).number ≡ 0 → ⊥) → First (decode_of l).number s l
bytes_first_lem s l h = first_of (bytes_reason s (reads l) h) (λ m r. rw (bytes_alone r (reads l) refl h) (omega arith))

pub step_first : (s : State) (l : List ℕ) → (decode_of l).number ≡ 0 → (number_at s (decode_of l).what ≡ 0 → ⊥) → First (number_at s (decode_of l).what) s l
step_first s l e h =
    first_of
    (Reason.of_record (take (decode_of l).size l) (drop (decode_of l).size l) (decode_of l).what
    (sym (take-append-drop (decode_of l).size l)) (decode_form l e) (number_reason s (decode_of l).what (decode_in l e) h))
    (λ m r. (number_earliest s (decode_of l).what (decode_in l e) (record_reason (reads l) refl e r)).1)

-- ---- a reason holds exactly where there is no step
pub reason_no_step : {n : ℕ} {s : State} {l : List ℕ} → Reason n s l → NoStep s l
reason_no_step {n} {s} {l} r bytes rest x t e form step =
    let d = front_decode rest e form in
    let k = record_reason (reads l) refl (ap (λ (y : Reading). y.number) d) r in
    (number_earliest s x (form_in form) (subst (λ (y : Record). RecordReason n s y) (ap (λ (y : Reading). y.what) d) k)).0 (step_only s x (form_in form) step).0

pub no_step_reason : (s : State) (l : List ℕ) → NoStep s l → (n : ℕ) × Reason n s l
no_step_reason s l h =
    is (decode_of l).number 0
    (λ e. is (number_at s (decode_of l).what) 0
    (λ z. absurd (h (take (decode_of l).size l) (drop (decode_of l).size l) (decode_of l).what _ (sym (take-append-drop (decode_of l).size l))
    (decode_form l e) (step_sound s (decode_of l).what (decode_in l e) z)))
    (λ d. (_, (step_first s l e d).reason)))
    (λ d. (_, (bytes_first_lem s l d).reason))

-- ---- the step of a slice's first record
pub step_gives : (s : State) (bytes rest : List ℕ) (x : Record) (t : State) → Encodes bytes x → Step s x t
    → step_of s (bytes ++ rest) ≡ told 0 (length bytes) t
unfolding step_of
step_gives s bytes rest x t form step =
    let (z, u) = step_only s x (form_in form) step in simp (form_decode form rest) (simp (z, u))

pub step_number : (s : State) (bytes rest : List ℕ) (x : Record) → Encodes bytes x → (n : ℕ) → number_at s x ≡ n → (n ≡ 0 → ⊥) → (step_of s (bytes ++ rest)).number ≡ n
unfolding step_of
step_number s bytes rest x form n e h = simp (form_decode form rest) (simp (e, ne_eqb n 0 h))

pub step_refuses : (s : State) (l : List ℕ) → ((step_of s l).number ≡ 0 → ⊥) → StepRefusal s l (step_of s l)
unfolding step_of
step_refuses s l h =
    is (decode_of l).number 0
    (λ e. is (number_at s (decode_of l).what) 0 (λ z. absurd (h (simp (e, z))))
    (λ d. let r = step_first s l e d in simp (e, ne_eqb (number_at s (decode_of l).what) 0 d) (record { complete = refl; looked = refl; length = refl; state = refl; no_step = reason_no_step r.reason; first = r })))
    (λ d. let r = bytes_first_lem s l d in simp (ne_eqb (decode_of l).number 0 d) (record { complete = refl; looked = refl; length = refl; state = refl; no_step = reason_no_step r.reason; first = r }))

step_has : (s : State) (l : List ℕ) → (step_of s l).number ≡ 0 → HasStep s l
unfolding step_of
step_has s l z =
    is (decode_of l).number 0
    (λ e. is (number_at s (decode_of l).what) 0
    (λ k. (take (decode_of l).size l, drop (decode_of l).size l, (decode_of l).what, _, sym (take-append-drop (decode_of l).size l), decode_form l e, step_sound s (decode_of l).what (decode_in l e) k))
    (λ d. absurd (d (simp (e, ne_eqb (number_at s (decode_of l).what) 0 d) at z))))
    (λ d. absurd (d (simp (ne_eqb (decode_of l).number 0 d) at z)))

pub step_exact : (s : State) (l : List ℕ) → ((step_of s l).number ≡ 0) ↔ HasStep s l
step_exact s l =
    (step_has s l, λ (bytes, rest, x, t, e, form, step). ap (λ (a : Stepped). a.number) (ap (step_of s) e ∙ step_gives s bytes rest x t form step))
