-- A program as its records end to end: cutting and joining undo each other, and what the bytes of a record are. Assumes nothing.
use Prim.Native.Nat.{ℕ, zero, suc, ◌*◌, ◌-◌, ◌≤◌}
use mathlib.Core.Path.{◌≡◌, refl, sym, ap, subst, ◌∙◌}
use mathlib.Core.Bool.{true}
use mathlib.Core.List.{List, [], ◌∷◌, ◌++◌, append-nil}
use native.Mathlib.Omega.{arith}
use lib.Dec.{eqb}
use lib.ListN.{length, take, drop, length-append, length-drop, take-append-drop}
use lib.Seq.{take-length, take_at, drop_at}
use borrow.Author.Tests.{eqb-true, eq-eqb}
use Rattle.std.proofs.lemmas.Bool.{and_parts}
use Rattle.machine.specs.declared.State.{State}
use Rattle.machine.specs.Machine.{Each}
use Rattle.record.specs.declared.Record.{Record}
use Rattle.record.specs.Kinds.{by_kind, size_of}
use Rattle.record.specs.Format.{Reading, Encodes, byte, decode_of}
use Rattle.record.proofs.Shapes.{work_size, plated_size}
use Rattle.record.proofs.Forms.{form_decode, decode_form}
use Rattle.run.specs.Relation.{Steps}
use Rattle.run.specs.Run.{run_of}
use Rattle.run.proofs.Demand.{accepts}
use Rattle.rewrite.specs.Programs.{flat, cut, records_of, what}
use Rattle.rewrite.specs.Claims.{RecordsEndToEnd}
use Rattle.rewrite.specs.Laid.{is_record}

-- ---- lists of which each element is such
pub each_map : {A : Type 0} {P Q : A → Type 0} → ((x : A) → P x → Q x) → (l : List A) → Each P l → Each Q l
each_map f [] w = tt
each_map f (x ∷ l) (w, v) = (f x w, each_map f l v)

pub each_part : {A : Type 0} (P : A → Type 0) (u v : List A) → Each P (u ++ v) → Each P u × Each P v
each_part P [] v w = (tt, w)
each_part P (x ∷ u) v (a, w) = let (b, c) = each_part P u v w in ((a, b), c)

-- ---- records that are cut and joined again
flat_cut : (n : ℕ) (p : List ℕ) → length p ≤ n → flat (cut n p) ≡ p
unfolding cut
flat_cut zero [] h = refl
flat_cut zero (k ∷ p) h = absurd (omega arith)
flat_cut (suc n) [] h = refl
flat_cut (suc n) (k ∷ p) h =
    let b = size_of k - 1 in
    ap (λ (q : List ℕ). k ∷ take b p ++ q) (flat_cut n (drop b p) (omega (arith, length-drop b p))) ∙ ap (λ (q : List ℕ). k ∷ q) (take-append-drop b p)

pub records_flat : RecordsEndToEnd
records_flat p = flat_cut (length p) p (omega arith)

-- ---- the bytes of a record
-- they are the form of the record that they encode, and only such are
pub record_form : (x : List ℕ) → is_record x ≡ true → Encodes x (what x)
record_form x w =
    let (a, b) = and_parts (eqb (decode_of x).number 0) (eqb (decode_of x).size (length x)) w in
    let e = eqb-true (decode_of x).size (length x) b in
    subst (λ (y : List ℕ). Encodes y (what x)) (ap (λ (n : ℕ). take n x) e ∙ take-length x) (decode_form x (eqb-true (decode_of x).number 0 a))

form_alone : {x : List ℕ} {r : Record} → Encodes x r → decode_of x ≡ record { number = 0; size = length x; what = r }
form_alone {x} form = ap decode_of (sym (append-nil x)) ∙ form_decode form []

pub form_record : {x : List ℕ} {r : Record} → Encodes x r → is_record x ≡ true
form_record {x} form = simp (form_alone form, eq-eqb (length x) (length x) refl)

pub form_what : {x : List ℕ} {r : Record} → Encodes x r → what x ≡ r
form_what form = ap (λ (d : Reading). d.what) (form_alone form)

-- the length of a form is its kind's
pub record Sized (x : List ℕ) : Type 0 where
  pub least : 2 ≤ length x
  pub most : length x ≤ 6
  pub kind : length x ≡ size_of (byte x 0)

form_size : {x : List ℕ} {r : Record} → Encodes x r → Sized x
unfolding by_kind
form_size (Encodes.rack h) = record { least = omega arith; most = omega arith; kind = refl }
form_size (Encodes.drop h i) = record { least = omega arith; most = omega arith; kind = refl }
form_size (Encodes.xfer h i j) = record { least = omega arith; most = omega arith; kind = refl }
form_size (Encodes.work {kind = k} a b c d e f g) =
    record { least = omega arith; most = omega arith; kind = sym (work_size k a b) }
form_size (Encodes.split c d e f g h) = record { least = omega arith; most = omega arith; kind = refl }
form_size (Encodes.plated {kind = k} a b c d e f g h i) = record { least = omega arith; most = omega arith; kind = sym (plated_size k a b) }

pub record_size : (x : List ℕ) → is_record x ≡ true → Sized x
record_size x w = form_size (record_form x w)

-- each has two bytes at least
pub records_length : (l : List (List ℕ)) → Each (λ (x : List ℕ). is_record x ≡ true) l → length l * 2 ≤ length (flat l)
records_length [] w = omega arith
records_length (x ∷ l) (w, v) = omega (arith, (record_size x w).least, records_length l v, length-append x (flat l))

-- ---- the records of records end to end
cut_enough : (n m : ℕ) (p : List ℕ) → length p ≤ n → length p ≤ m → cut n p ≡ cut m p
unfolding cut
cut_enough zero zero p h i = refl
cut_enough zero (suc m) [] h i = refl
cut_enough (suc n) zero [] h i = refl
cut_enough (suc n) (suc m) [] h i = refl
cut_enough zero (suc m) (k ∷ p) h i = absurd (omega arith)
cut_enough (suc n) zero (k ∷ p) h i = absurd (omega arith)
cut_enough (suc n) (suc m) (k ∷ p) h i =
    let b = size_of k - 1 in
    ap (λ (l : List (List ℕ)). (k ∷ take b p) ∷ l) (cut_enough n m (drop b p) (omega (arith, length-drop b p)) (omega (arith, length-drop b p)))

first_cut : (k : ℕ) (b p : List ℕ) → length b ≡ size_of k - 1 → records_of (k ∷ b ++ p) ≡ (k ∷ b) ∷ records_of p
unfolding cut
first_cut k b p e =
    rw (take_at b p (size_of k - 1) e, drop_at b p (size_of k - 1) e)
    (ap (λ (l : List (List ℕ)). (k ∷ b) ∷ l) (cut_enough (length (b ++ p)) (length p) p (omega (arith, length-append b p)) (omega arith)))

pub records_next : (x p : List ℕ) → is_record x ≡ true → records_of (x ++ p) ≡ x ∷ records_of p
records_next x p w = go x (record_size x w)
  where
    go : (x : List ℕ) → Sized x → records_of (x ++ p) ≡ x ∷ records_of p
    go [] z = absurd (omega (arith, z.least))
    go (k ∷ b) z = first_cut k b p (omega (arith, z.kind))

pub flat_records : (l : List (List ℕ)) → Each (λ (x : List ℕ). is_record x ≡ true) l → records_of (flat l) ≡ l
unfolding cut
flat_records [] w = refl
flat_records (x ∷ l) (w, v) = records_next x (flat l) w ∙ ap (λ (m : List (List ℕ)). x ∷ m) (flat_records l v)

-- ---- the records of a program that the run accepts
pub steps_records : {s t : State} {p : List ℕ} → Steps s p t → Each (λ (x : List ℕ). is_record x ≡ true) (records_of p)
unfolding cut
steps_records Steps.none = tt
steps_records (Steps.next {bytes = bytes} {rest = rest} form step more) = rw (records_next bytes rest (form_record form)) (form_record form, steps_records more)

pub accepted_records : (limit : ℕ) (p : List ℕ) → (run_of limit p).number ≡ 0 → Each (λ (x : List ℕ). is_record x ≡ true) (records_of p)
accepted_records limit p e = let (t, v) = (accepts limit p).0 e in steps_records v.steps
