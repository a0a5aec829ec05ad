-- Decoding against the form of a record, the bytes that encode it: what was decoded is the form at the front of the bytes, and a form decodes to its record. Assumes nothing.
use Prim.Native.Nat.{ℕ, zero, suc, ◌+◌, ◌-◌, ◌≤◌, ◌<◌}
use mathlib.Core.Path.{◌≡◌, refl, sym, ap, subst, ◌∙◌}
use mathlib.Core.Bool.{true, false, cond, ◌&&◌}
use mathlib.Core.List.{List, [], ◌∷◌, ◌++◌}
use native.Mathlib.Omega.{arith}
use lib.IntN.{nat_abs}
use lib.ListN.{length, take, drop, length-append}
use lib.Seq.{drop-cons, get_or-take, length-take-le}
use lib.Dec.{eqb, leb, ltb}
use borrow.Author.Tests.{ne_eqb, eqb-true, eqb-false, leb-true, le-leb, ltb-true, ltb-false, le-ltb, lt-ltb}
use Rattle.std.proofs.lemmas.Bool.{and_parts}
use Rattle.machine.specs.Limits.{last_needle, carrier_count, racking_most}
use Rattle.machine.specs.Machine.{OnBed, hook_of}
use Rattle.machine.specs.Range.{number_ok}
use Rattle.machine.proofs.Ranges.{bed_ok}
use Rattle.record.specs.declared.Record.{Record}
use Rattle.record.specs.Kinds.{IN, KNIT, SPLIT, PLATED_TUCK, PLATED_KNIT, by_kind, size_of, hooks_worked, carriers_named, is_plated}
use Rattle.record.specs.Format.{Reading, Encodes, signed_of, rack_ok, needle_ok, work_ok, needle, no_needle, work_record, plated_record, carrier_number_ok, byte, work_fields_ok, fields_ok, record_from, refused_as, read_of, decode_of}
use Rattle.record.proofs.Shapes.{Known, cond_cases, in_work, in_plated, known_size, sized_known, work_size, plated_size, one_named, two_named}
use Rattle.record.proofs.Ranges.{InRange, needle_bed, needle_number, work_right, work_bed, work_number, work_low, work_high}

-- ---- kinds with a carrier but split: the plated ones have a byte more
module _ (l : List ℕ) (h : IN ≤ byte l 0) (d : byte l 0 ≡ SPLIT → ⊥) where
  carried_fields : fields_ok l ≡ cond (is_plated (byte l 0)) (work_fields_ok l && carrier_number_ok (byte l 5)) (work_fields_ok l)
  unfolding fields_ok
  carried_fields = simp (ne_eqb (byte l 0) 1 (λ q. omega arith), ne_eqb (byte l 0) 2 (λ q. omega arith), ne_eqb (byte l 0) 3 (λ q. omega arith), ne_eqb (byte l 0) 9 d)

  carried_record : record_from l
      ≡ cond (is_plated (byte l 0)) (plated_record (byte l 0) (eqb (byte l 1) 1) (needle (byte l 2) (byte l 3)) (byte l 4) (byte l 5))
      (work_record (byte l 0) (eqb (byte l 1) 1) (needle (byte l 2) (byte l 3)) (byte l 4))
  unfolding record_from
  carried_record = simp (ne_eqb (byte l 0) 1 (λ q. omega arith), ne_eqb (byte l 0) 2 (λ q. omega arith), ne_eqb (byte l 0) 3 (λ q. omega arith), ne_eqb (byte l 0) 9 d)

-- in to knit (bytes 04 to 08) are read as one
module _ (l : List ℕ) (h : IN ≤ byte l 0) (j : byte l 0 ≤ KNIT) where
  single : is_plated (byte l 0) ≡ false
  single = simp (one_named (byte l 0) h (omega arith))

  pub work_fields : fields_ok l ≡ work_fields_ok l
  work_fields = carried_fields l h (λ q. omega arith) ∙ simp single

  pub work_record_lem : record_from l ≡ work_record (byte l 0) (eqb (byte l 1) 1) (needle (byte l 2) (byte l 3)) (byte l 4)
  work_record_lem = carried_record l h (λ q. omega arith) ∙ simp single

-- and so are the plated ones
module _ (l : List ℕ) (h : PLATED_TUCK ≤ byte l 0) (j : byte l 0 ≤ PLATED_KNIT) where
  double : is_plated (byte l 0) ≡ true
  double = simp (two_named (byte l 0) h j)

  pub plated_fields : fields_ok l ≡ (work_fields_ok l && carrier_number_ok (byte l 5))
  plated_fields = carried_fields l (omega arith) (λ q. omega arith) ∙ simp double

  pub plated_record_lem : record_from l ≡ plated_record (byte l 0) (eqb (byte l 1) 1) (needle (byte l 2) (byte l 3)) (byte l 4) (byte l 5)
  plated_record_lem = carried_record l (omega arith) (λ q. omega arith) ∙ simp double

-- ---- a form decodes to its record, whatever follows it
on_bed_lem : (bed n : ℕ) → bed ≤ 1 → n ≤ last_needle → OnBed (needle bed n)
on_bed_lem bed n a b = record { bed = omega arith; number = omega arith }

needle_in : (bed n : ℕ) → bed ≤ 1 → n ≤ last_needle → needle_ok bed n ≡ true
unfolding needle_ok
needle_in bed n a b = bed_ok (needle bed n) (on_bed_lem bed n a b)

work_in : (right bed n k : ℕ) → right ≤ 1 → bed ≤ 1 → n ≤ last_needle → 1 ≤ k → k ≤ carrier_count → work_ok right bed n k ≡ true
unfolding work_ok
work_in right bed n k a b c d e = simp (le-leb right 1 a, needle_in bed n b c, le-leb 1 k d, le-leb k carrier_count e)

carrier_in : (k : ℕ) → 1 ≤ k → k ≤ carrier_count → carrier_number_ok k ≡ true
carrier_in k a b = simp (le-leb 1 k a, le-leb k carrier_count b)

-- what bytes give that begin with a form: its length, fields in range, its record
record Formed (bytes l : List ℕ) (x : Record) : Type 0 where
  size : size_of (byte l 0) ≡ length bytes
  some : 2 ≤ length bytes
  fields : fields_ok l ≡ true
  reads : record_from l ≡ x

formed : {bytes : List ℕ} {x : Record} → Encodes bytes x → (rest : List ℕ) → Formed bytes (bytes ++ rest) x
unfolding by_kind fields_ok record_from rack_ok
formed (Encodes.rack {b = b} h) rest = record { size = refl; some = omega arith; fields = le-leb (nat_abs (signed_of b)) racking_most h; reads = refl }
formed (Encodes.drop {bed = bed} {n = n} h i) rest = record { size = refl; some = omega arith; fields = needle_in bed n h i; reads = refl }
formed (Encodes.xfer {bed = bed} {n = n} {m = m} h i j) rest =
    record { size = refl; some = omega arith; fields = simp (needle_in bed n h i) (le-leb m last_needle j); reads = refl }
formed (Encodes.work {kind = kind} {right = right} {bed = bed} {n = n} {k = k} a b c d e f g) rest =
    let l = kind ∷ right ∷ bed ∷ n ∷ k ∷ rest in
    record { size = work_size kind a b; some = omega arith; fields = work_fields l a b ∙ work_in right bed n k c d e f g; reads = work_record_lem l a b }
formed (Encodes.split {right = right} {bed = bed} {n = n} {k = k} {m = m} c d e f g h) rest =
    record { size = refl; some = omega arith; fields = simp (work_in right bed n k c d e f g) (le-leb m last_needle h); reads = refl }
formed (Encodes.plated {kind = kind} {right = right} {bed = bed} {n = n} {k = k} {j = j} a b c d e f g p q) rest =
    let l = kind ∷ right ∷ bed ∷ n ∷ k ∷ j ∷ rest in
    record {
      size = plated_size kind a b;
      some = omega arith;
      fields = plated_fields l a b ∙ simp (work_in right bed n k c d e f g) (carrier_in j p q);
      reads = plated_record_lem l a b;
    }

-- bytes with a known kind: too few, or with fields out of range or in range
pub decode_known : (l : List ℕ) → 0 < length l → (size_of (byte l 0) ≡ 0 → ⊥) → decode_of l ≡ read_of l
unfolding decode_of
decode_known l h k = simp (ne_eqb (length l) 0 (λ q. omega arith), ne_eqb (size_of (byte l 0)) 0 k)

pub read_cut : (l : List ℕ) → length l < size_of (byte l 0) → read_of l ≡ refused_as 4
unfolding read_of
read_cut l h = simp (lt-ltb (length l) (size_of (byte l 0)) h)

module _ (l : List ℕ) (h : size_of (byte l 0) ≤ length l) where
  pub read_outside : fields_ok l ≡ false → read_of l ≡ refused_as 5
  unfolding read_of
  read_outside e = simp (le-ltb (length l) (size_of (byte l 0)) h, e)

  pub read_inside : fields_ok l ≡ true → read_of l ≡ record { number = 0; size = size_of (byte l 0); what = record_from l }
  unfolding read_of
  read_inside e = simp (le-ltb (length l) (size_of (byte l 0)) h, e)

pub form_decode : {bytes : List ℕ} {x : Record} → Encodes bytes x → (rest : List ℕ) → decode_of (bytes ++ rest) ≡ record { number = 0; size = length bytes; what = x }
form_decode {bytes} {x} form rest =
    let f = formed form rest in
    let long = length-append bytes rest in
    let l = bytes ++ rest in
    decode_known l (omega (arith, f.some)) (λ q. omega (arith, f.some, f.size)) ∙ read_inside l (omega (arith, f.size)) f.fields
    ∙ (λ i. record { number = 0; size = f.size i; what = f.reads i })

-- ---- every list of bytes is one of five
pub data Reads (l : List ℕ) : Reading → Type 0 where
  none : length l ≡ 0 → Reads l (refused_as 4)
  strange : 0 < length l → size_of (byte l 0) ≡ 0 → Reads l (refused_as 3)
  short : (size_of (byte l 0) ≡ 0 → ⊥) → 0 < length l → length l < size_of (byte l 0) → Reads l (refused_as 4)
  outside : (size_of (byte l 0) ≡ 0 → ⊥) → size_of (byte l 0) ≤ length l → fields_ok l ≡ false → Reads l (refused_as 5)
  done : (size_of (byte l 0) ≡ 0 → ⊥) → size_of (byte l 0) ≤ length l → fields_ok l ≡ true
      → Reads l (record { number = 0; size = size_of (byte l 0); what = record_from l })

pub reads : (l : List ℕ) → Reads l (decode_of l)
unfolding decode_of read_of
reads l =
    cond_cases (Reads l) (eqb (length l) 0) (λ h. Reads.none (eqb-true (length l) 0 h))
    (λ h. let some : 0 < length l = omega (arith, eqb-false (length l) 0 h) in
    cond_cases (Reads l) (eqb size 0) (λ a. Reads.strange some (eqb-true size 0 a))
    (λ a. let known = eqb-false size 0 a in
    cond_cases (Reads l) (ltb (length l) size) (λ t. Reads.short known some (ltb-true (length l) size t))
    (λ t. cond_cases (Reads l) (fields_ok l) (Reads.done known (ltb-false (length l) size t)) (Reads.outside known (ltb-false (length l) size t)))))
  where
    size : ℕ
    size = size_of (byte l 0)

-- ---- decoding looks no further than the kind's length
module _ (l : List ℕ) where
  -- the front of a list has its bytes
  kept : (n i : ℕ) → i < n → byte (take n l) i ≡ byte l i
  kept n i h = get_or-take n l i 0 h

  abbrev Alike : ℕ → Type 0
  Alike n = (fields_ok (take n l) ≡ fields_ok l) × (record_from (take n l) ≡ record_from l)

  rack_alike : byte l 0 ≡ 1 → Alike 2
  unfolding fields_ok record_from
  rack_alike e = let b = kept 2 0 (omega arith) in let c = kept 2 1 (omega arith) in (simp (b, c, e), simp (b, c, e))

  drop_alike : byte l 0 ≡ 2 → Alike 3
  unfolding fields_ok record_from
  drop_alike e = let b = kept 3 0 (omega arith) in let c = kept 3 1 (omega arith) in let d = kept 3 2 (omega arith) in (simp (b, c, d, e), simp (b, c, d, e))

  xfer_alike : byte l 0 ≡ 3 → Alike 4
  unfolding fields_ok record_from
  xfer_alike e =
      let b = kept 4 0 (omega arith) in let c = kept 4 1 (omega arith) in let d = kept 4 2 (omega arith) in let f = kept 4 3 (omega arith) in
      (simp (b, c, d, f, e), simp (b, c, d, f, e))

  work_alike : IN ≤ byte l 0 → byte l 0 ≤ KNIT → Alike 5
  work_alike h j =
      let b = kept 5 0 (omega arith) in
      let low : IN ≤ byte (take 5 l) 0 = omega arith in
      let high : byte (take 5 l) 0 ≤ KNIT = omega arith in
      let c = kept 5 1 (omega arith) in let d = kept 5 2 (omega arith) in let e = kept 5 3 (omega arith) in let f = kept 5 4 (omega arith) in
      (work_fields (take 5 l) low high ∙ simp (c, d, e, f) (sym (work_fields l h j)), work_record_lem (take 5 l) low high ∙ simp (b, c, d, e, f) (sym (work_record_lem l h j)))

  split_alike : byte l 0 ≡ 9 → Alike 6
  unfolding fields_ok record_from
  split_alike e =
      let b = kept 6 0 (omega arith) in let c = kept 6 1 (omega arith) in let d = kept 6 2 (omega arith) in let f = kept 6 3 (omega arith) in
      let g = kept 6 4 (omega arith) in let h = kept 6 5 (omega arith) in
      (simp (b, c, d, f, g, h, e), simp (b, c, d, f, g, h, e))

  plated_alike : PLATED_TUCK ≤ byte l 0 → byte l 0 ≤ PLATED_KNIT → Alike 6
  plated_alike h j =
      let b = kept 6 0 (omega arith) in
      let low : PLATED_TUCK ≤ byte (take 6 l) 0 = omega arith in
      let high : byte (take 6 l) 0 ≤ PLATED_KNIT = omega arith in
      let c = kept 6 1 (omega arith) in let d = kept 6 2 (omega arith) in let e = kept 6 3 (omega arith) in let f = kept 6 4 (omega arith) in let g = kept 6 5 (omega arith) in
      (plated_fields (take 6 l) low high ∙ simp (c, d, e, f, g) (sym (plated_fields l h j)), plated_record_lem (take 6 l) low high ∙ simp (b, c, d, e, f, g) (sym (plated_record_lem l h j)))

  of_size : {n : ℕ} → size_of (byte l 0) ≡ n → Alike n → Alike (size_of (byte l 0))
  of_size {n} e h = subst Alike (sym e) h

  alike : Known (byte l 0) → Alike (size_of (byte l 0))
  unfolding by_kind
  alike (Known.rack e) = of_size {n = 2} (simp e) (rack_alike e)
  alike (Known.drop e) = of_size {n = 3} (simp e) (drop_alike e)
  alike (Known.xfer e) = of_size {n = 4} (simp e) (xfer_alike e)
  alike (Known.carrier_in e) = of_size {n = 5} (simp e) (work_alike (omega arith) (omega arith))
  alike (Known.carrier_out e) = of_size {n = 5} (simp e) (work_alike (omega arith) (omega arith))
  alike (Known.miss e) = of_size {n = 5} (simp e) (work_alike (omega arith) (omega arith))
  alike (Known.tuck e) = of_size {n = 5} (simp e) (work_alike (omega arith) (omega arith))
  alike (Known.knit e) = of_size {n = 5} (simp e) (work_alike (omega arith) (omega arith))
  alike (Known.split e) = of_size {n = 6} (simp e) (split_alike e)
  alike (Known.plated_tuck e) = of_size {n = 6} (simp e) (plated_alike (omega arith) (omega arith))
  alike (Known.plated_knit e) = of_size {n = 6} (simp e) (plated_alike (omega arith) (omega arith))

  read_front : size_of (byte l 0) ≤ length l → size_of (byte (take (size_of (byte l 0)) l) 0) ≡ size_of (byte l 0) → Alike (size_of (byte l 0))
      → read_of (take (size_of (byte l 0)) l) ≡ read_of l
  unfolding read_of
  read_front h size (f, x) =
      let n = size_of (byte l 0) in
      let long = length-take-le n l h in
      simp (size, f, x, le-ltb (length (take n l)) n (omega arith), le-ltb (length l) n h)

  pub decode_front : 0 < size_of (byte l 0) → size_of (byte l 0) ≤ length l → decode_of (take (size_of (byte l 0)) l) ≡ decode_of l
  decode_front p h =
      let n = size_of (byte l 0) in
      let b = kept n 0 p in
      let long = length-take-le n l h in
      let some : size_of (byte l 0) ≡ 0 → ⊥ = λ q. omega arith in
      let size : size_of (byte (take n l) 0) ≡ n = ap size_of b in
      decode_known (take n l) (omega arith) (λ q. some (sym size ∙ q)) ∙ read_front h size (alike (sized_known (byte l 0) some)) ∙ sym (decode_known l (omega arith) some)

-- without a byte, with an unknown kind, with too few bytes
pub decode_none : (l : List ℕ) → length l ≡ 0 → decode_of l ≡ refused_as 4
unfolding decode_of
decode_none l h = simp h

pub decode_strange : (l : List ℕ) → 0 < length l → size_of (byte l 0) ≡ 0 → decode_of l ≡ refused_as 3
unfolding decode_of
decode_strange l h z = simp (ne_eqb (length l) 0 (λ q. omega arith), z)

pub decode_short : (l : List ℕ) → 0 < length l → length l < size_of (byte l 0) → decode_of l ≡ refused_as 4
decode_short l h z = decode_known l h (λ q. omega arith) ∙ read_cut l z

-- ---- the form at the front of the bytes
bytes_from : ℕ → ℕ → List ℕ → List ℕ
bytes_from zero i l = []
bytes_from (suc n) i l = byte l i ∷ bytes_from n (suc i) l

front : (n i : ℕ) (l : List ℕ) → i + n ≤ length l → take n (drop i l) ≡ bytes_from n i l
unfolding bytes_from
front zero i l h = refl
front (suc n) i l h = ap (take (suc n)) (drop-cons l i 0 (omega arith)) ∙ ap (λ (t : List ℕ). byte l i ∷ t) (front n (suc i) l (omega arith))

-- bytes whose fields are in range are a form
module _ (l : List ℕ) (t : fields_ok l ≡ true) where
  abbrev Form : ℕ → Type 0
  Form n = Encodes (bytes_from n 0 l) (record_from l)

  rack_form : byte l 0 ≡ 1 → Form 2
  unfolding fields_ok record_from rack_ok bytes_from
  rack_form e = simp e (Encodes.rack (leb-true (nat_abs (signed_of (byte l 1))) racking_most (simp e at t)))

  drop_form : byte l 0 ≡ 2 → Form 3
  unfolding fields_ok record_from bytes_from
  drop_form e = let u = simp e at t in simp e (Encodes.drop (needle_bed (byte l 1) (byte l 2) u) (needle_number (byte l 1) (byte l 2) u))

  xfer_form : byte l 0 ≡ 3 → Form 4
  unfolding fields_ok record_from bytes_from
  xfer_form e =
      let (p, q) = and_parts (needle_ok (byte l 1) (byte l 2)) (number_ok (byte l 3)) (simp e at t) in
      simp e (Encodes.xfer (needle_bed (byte l 1) (byte l 2) p) (needle_number (byte l 1) (byte l 2) p) (leb-true (byte l 3) last_needle q))

  work_form : IN ≤ byte l 0 → byte l 0 ≤ KNIT → Form 5
  unfolding bytes_from
  work_form a b =
      let p = sym (work_fields l a b) ∙ t in
      rw (work_record_lem l a b) (Encodes.work a b (work_right (byte l 1) (byte l 2) (byte l 3) (byte l 4) p) (work_bed (byte l 1) (byte l 2) (byte l 3) (byte l 4) p)
      (work_number (byte l 1) (byte l 2) (byte l 3) (byte l 4) p) (work_low (byte l 1) (byte l 2) (byte l 3) (byte l 4) p) (work_high (byte l 1) (byte l 2) (byte l 3) (byte l 4) p))

  split_form : byte l 0 ≡ 9 → Form 6
  unfolding fields_ok record_from bytes_from
  split_form e =
      let (p, q) = and_parts (work_fields_ok l) (number_ok (byte l 5)) (simp e at t) in
      simp e (Encodes.split (work_right (byte l 1) (byte l 2) (byte l 3) (byte l 4) p) (work_bed (byte l 1) (byte l 2) (byte l 3) (byte l 4) p)
      (work_number (byte l 1) (byte l 2) (byte l 3) (byte l 4) p) (work_low (byte l 1) (byte l 2) (byte l 3) (byte l 4) p) (work_high (byte l 1) (byte l 2) (byte l 3) (byte l 4) p)
      (leb-true (byte l 5) last_needle q))

  plated_form : PLATED_TUCK ≤ byte l 0 → byte l 0 ≤ PLATED_KNIT → Form 6
  unfolding bytes_from
  plated_form a b =
      let (p, q) = and_parts (work_fields_ok l) (carrier_number_ok (byte l 5)) (sym (plated_fields l a b) ∙ t) in
      let (low, high) = and_parts (leb 1 (byte l 5)) (leb (byte l 5) carrier_count) q in
      rw (plated_record_lem l a b) (Encodes.plated a b (work_right (byte l 1) (byte l 2) (byte l 3) (byte l 4) p) (work_bed (byte l 1) (byte l 2) (byte l 3) (byte l 4) p)
      (work_number (byte l 1) (byte l 2) (byte l 3) (byte l 4) p) (work_low (byte l 1) (byte l 2) (byte l 3) (byte l 4) p) (work_high (byte l 1) (byte l 2) (byte l 3) (byte l 4) p)
      (leb-true 1 (byte l 5) low) (leb-true (byte l 5) carrier_count high))

  of_length : {n : ℕ} → size_of (byte l 0) ≡ n → Form n → Form (size_of (byte l 0))
  of_length {n} e h = subst Form (sym e) h

  fields_form : Known (byte l 0) → Form (size_of (byte l 0))
  unfolding by_kind
  fields_form (Known.rack e) = of_length {n = 2} (simp e) (rack_form e)
  fields_form (Known.drop e) = of_length {n = 3} (simp e) (drop_form e)
  fields_form (Known.xfer e) = of_length {n = 4} (simp e) (xfer_form e)
  fields_form (Known.carrier_in e) = of_length {n = 5} (simp e) (work_form (omega arith) (omega arith))
  fields_form (Known.carrier_out e) = of_length {n = 5} (simp e) (work_form (omega arith) (omega arith))
  fields_form (Known.miss e) = of_length {n = 5} (simp e) (work_form (omega arith) (omega arith))
  fields_form (Known.tuck e) = of_length {n = 5} (simp e) (work_form (omega arith) (omega arith))
  fields_form (Known.knit e) = of_length {n = 5} (simp e) (work_form (omega arith) (omega arith))
  fields_form (Known.split e) = of_length {n = 6} (simp e) (split_form e)
  fields_form (Known.plated_tuck e) = of_length {n = 6} (simp e) (plated_form (omega arith) (omega arith))
  fields_form (Known.plated_knit e) = of_length {n = 6} (simp e) (plated_form (omega arith) (omega arith))

refused_number : (n : ℕ) → (refused_as (suc n)).number ≡ 0 → ⊥
unfolding refused_as
refused_number n e = omega arith

-- what was decoded: its length and its form
pub record Decodes (l : List ℕ) (d : Reading) : Type 0 where
  pub some : 0 < d.size
  pub long : d.size ≤ length l
  pub kind : d.size ≡ size_of (byte l 0)
  pub known : Known (byte l 0)
  pub what : d.what ≡ record_from l
  pub form : Encodes (take d.size l) d.what

read_done : {l : List ℕ} {d : Reading} → Reads l d → d.number ≡ 0 → Decodes l d
read_done (Reads.none a) e = absurd (refused_number 3 e)
read_done (Reads.strange a b) e = absurd (refused_number 2 e)
read_done (Reads.short f a b) e = absurd (refused_number 3 e)
read_done (Reads.outside f a b) e = absurd (refused_number 4 e)
read_done {l} (Reads.done f a b) e =
    let k = sized_known (byte l 0) f in
    record {
      some = omega (arith, known_size k);
      long = a;
      kind = refl;
      known = k;
      what = refl;
      form = subst (λ (t : List ℕ). Encodes t (record_from l)) (sym (front (size_of (byte l 0)) 0 l (omega arith))) (fields_form l b k);
    }

module _ (l : List ℕ) (e : (decode_of l).number ≡ 0) where
  pub decodes : Decodes l (decode_of l)
  decodes = read_done (reads l) e

  pub decode_size : (0 < (decode_of l).size) × ((decode_of l).size ≤ length l)
  decode_size = (decodes.some, decodes.long)

  -- the length decoded is the kind's
  pub decode_kind : (decode_of l).size ≡ size_of (byte l 0)
  decode_kind = decodes.kind

  pub decode_form : Encodes (take (decode_of l).size l) (decode_of l).what
  decode_form = decodes.form

-- ---- its fields are in range
one_hook : (k : ℕ) → IN ≤ k → k ≤ KNIT → hooks_worked k ≡ 2 → ⊥
unfolding by_kind
one_hook = in_work (λ (k : ℕ). hooks_worked k ≡ 2 → ⊥) (λ e. omega arith) (λ e. omega arith) (λ e. omega arith) (λ e. omega arith) (λ e. omega arith)

plated_hook : (k : ℕ) → PLATED_TUCK ≤ k → k ≤ PLATED_KNIT → hooks_worked k ≡ 2 → ⊥
unfolding by_kind
plated_hook = in_plated (λ (k : ℕ). hooks_worked k ≡ 2 → ⊥) (λ e. omega arith) (λ e. omega arith)

no_needle_lem : OnBed no_needle
no_needle_lem = on_bed_lem 0 0 (omega arith) (omega arith)

-- of a record with one carrier at most
in_range : {x : Record} → Known x.kind → OnBed x.at → OnBed x.to → (1 ≤ carriers_named x.kind → 1 ≤ x.carrier) → x.carrier ≤ carrier_count
    → (carriers_named x.kind ≡ 2 → ⊥) → x.second ≡ 0 → (hooks_worked x.kind ≡ 2 → hook_of x.at ≡ hook_of x.to → ⊥) → InRange x
in_range a c d e f one z g =
    record { known = a; at_bed = c; to_bed = d; carrier_low = e; carrier_high = f; second_low = λ q. absurd (one q); second_high = omega (arith, z); beds_differ = g }

pub form_in : {bytes : List ℕ} {x : Record} → Encodes bytes x → InRange x
unfolding by_kind
form_in (Encodes.rack h) = in_range (Known.rack refl) no_needle_lem no_needle_lem (λ q. omega arith) (omega arith) (λ q. omega arith) refl (λ p q. omega arith)
form_in (Encodes.drop {bed = bed} {n = n} h i) =
    in_range (Known.drop refl) (on_bed_lem bed n h i) no_needle_lem (λ q. omega arith) (omega arith) (λ q. omega arith) refl (λ p q. omega arith)
form_in (Encodes.xfer {bed = bed} {n = n} {m = m} h i j) =
    in_range (Known.xfer refl) (on_bed_lem bed n h i) (on_bed_lem (1 - bed) m (omega arith) j) (λ q. omega arith) (omega arith) (λ q. omega arith) refl (λ p q. omega arith)
form_in (Encodes.work {kind = kind} {bed = bed} {n = n} a b c d e f g) =
    in_range (in_work Known (Known.carrier_in refl) (Known.carrier_out refl) (Known.miss refl) (Known.tuck refl) (Known.knit refl) kind a b) (on_bed_lem bed n d e) no_needle_lem (λ q. f) g
    (λ q. omega (arith, q, one_named kind a (omega arith))) refl (λ p q. one_hook kind a b p)
form_in (Encodes.split {bed = bed} {n = n} {m = m} c d e f g h) =
    in_range (Known.split refl) (on_bed_lem bed n d e) (on_bed_lem (1 - bed) m (omega arith) h) (λ q. f) g (λ q. omega arith) refl (λ p q. omega arith)
form_in (Encodes.plated {kind = kind} {bed = bed} {n = n} a b c d e f g p q) =
    record {
      known = in_plated Known (Known.plated_tuck refl) (Known.plated_knit refl) kind a b;
      at_bed = on_bed_lem bed n d e;
      to_bed = no_needle_lem;
      carrier_low = λ h. f;
      carrier_high = g;
      second_low = λ h. p;
      second_high = q;
      beds_differ = λ h i. plated_hook kind a b h;
    }

pub decode_in : (l : List ℕ) → (decode_of l).number ≡ 0 → InRange (decode_of l).what
decode_in l e = form_in (decode_form l e)
