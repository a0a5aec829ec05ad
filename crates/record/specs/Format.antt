-- The byte format of document 01, 'Records', and of 02, W1: fields and their ranges, the record that bytes encode, and decoding. Kinds and lengths are in Kinds.antt.
use Rattle.std.specs.Prelude.{ℕ, ◌-◌, ◌≤◌, Bool, false, ◌&&◌, cond, List, [], ◌∷◌, Result, Ok, Err, ℤ, pos, negsuc, nat_abs, get_or, length, eqb, leb, ltb}
use Rattle.machine.specs.declared.Needle.{Needle}
use Rattle.machine.specs.declared.refusals.Refusal.{Refusal}
use Rattle.machine.specs.Limits.{last_needle, carrier_count, racking_most}
use Rattle.machine.specs.Range.{racking_ok, number_ok, on_bed}
use Rattle.machine.specs.Refusals.{number_of}
use Rattle.record.specs.declared.Record.{Record}
use Rattle.record.specs.declared.Decoded.{Decoded}
use Rattle.record.specs.Kinds.{RACK, DROP, XFER, IN, KNIT, SPLIT, PLATED_TUCK, PLATED_KNIT, size_of, is_plated}

-- a byte, below 256, in two's complement
unfoldable pub signed_of : ℕ → ℤ
signed_of b = cond (ltb b 128) (pos b) (negsuc (255 - b))

-- the ranges of fields
unfoldable pub rack_ok : ℕ → Bool
rack_ok b = racking_ok (signed_of b)

unfoldable pub needle_ok : ℕ → ℕ → Bool
needle_ok bed n = on_bed (record { 0 = bed; 1 = n })

abbrev pub carrier_number_ok : ℕ → Bool
carrier_number_ok k = leb 1 k && leb k carrier_count

unfoldable pub work_ok : ℕ → ℕ → ℕ → ℕ → Bool
work_ok right bed n k = leb right 1 && (needle_ok bed n && carrier_number_ok k)

-- a record is made in this way alone: kind, racking, direction, first needle, carrier, second carrier, second needle; 0 for a field that the kind lacks
abbrev pub needle : ℕ → ℕ → Needle
needle bed n = record { 0 = bed; 1 = n }

abbrev pub no_needle : Needle
no_needle = needle 0 0

abbrev pub record_of : ℕ → ℤ → Bool → Needle → ℕ → ℕ → Needle → Record
record_of kind z right a k j b = record { kind = kind; racking = record { 0 = z }; right = right; at = a; carrier = k; second = j; to = b }

abbrev pub blank_record : ℕ → Record
blank_record kind = record_of kind (pos 0) false no_needle 0 0 no_needle

abbrev pub rack_record : ℤ → Record
rack_record z = record_of RACK z false no_needle 0 0 no_needle

abbrev pub drop_record : Needle → Record
drop_record a = record_of DROP (pos 0) false a 0 0 no_needle

abbrev pub xfer_record : Needle → Needle → Record
xfer_record a b = record_of XFER (pos 0) false a 0 0 b

-- in, out, miss, tuck and knit
abbrev pub work_record : ℕ → Bool → Needle → ℕ → Record
work_record kind right a k = record_of kind (pos 0) right a k 0 no_needle

abbrev pub split_record : Bool → Needle → ℕ → Needle → Record
split_record right a k b = record_of SPLIT (pos 0) right a k 0 b

-- plated tuck and plated knit
abbrev pub plated_record : ℕ → Bool → Needle → ℕ → ℕ → Record
plated_record kind right a k j = record_of kind (pos 0) right a k j no_needle

-- the bytes of a whole record, with its fields in range, encode the record
pub data Encodes : List ℕ → Record → Type 0 where
  rack : {b : ℕ} → nat_abs (signed_of b) ≤ racking_most → Encodes (RACK ∷ b ∷ []) (rack_record (signed_of b))
  drop : {bed n : ℕ} → bed ≤ 1 → n ≤ last_needle → Encodes (DROP ∷ bed ∷ n ∷ []) (drop_record (needle bed n))
  xfer : {bed n m : ℕ} → bed ≤ 1 → n ≤ last_needle → m ≤ last_needle → Encodes (XFER ∷ bed ∷ n ∷ m ∷ []) (xfer_record (needle bed n) (needle (1 - bed) m))
  -- 'Bytes 04 to 08 take a four-byte body'
  work : {kind right bed n k : ℕ} → IN ≤ kind → kind ≤ KNIT → right ≤ 1 → bed ≤ 1 → n ≤ last_needle → 1 ≤ k → k ≤ carrier_count
      → Encodes (kind ∷ right ∷ bed ∷ n ∷ k ∷ []) (work_record kind (eqb right 1) (needle bed n) k)
  split : {right bed n k m : ℕ} → right ≤ 1 → bed ≤ 1 → n ≤ last_needle → 1 ≤ k → k ≤ carrier_count → m ≤ last_needle
      → Encodes (SPLIT ∷ right ∷ bed ∷ n ∷ k ∷ m ∷ []) (split_record (eqb right 1) (needle bed n) k (needle (1 - bed) m))
  -- 'direction, bed, needle, first carrier, second carrier'; two equal carriers are in range, and have no step
  plated : {kind right bed n k j : ℕ} → PLATED_TUCK ≤ kind → kind ≤ PLATED_KNIT → right ≤ 1 → bed ≤ 1 → n ≤ last_needle → 1 ≤ k → k ≤ carrier_count → 1 ≤ j → j ≤ carrier_count
      → Encodes (kind ∷ right ∷ bed ∷ n ∷ k ∷ j ∷ []) (plated_record kind (eqb right 1) (needle bed n) k j)

-- ---- decoding, as code does it
abbrev pub byte : List ℕ → ℕ → ℕ
byte l i = get_or l i 0

-- of bytes with a known kind, as many as it needs: whether the fields are in range, and the record
abbrev pub work_fields_ok : List ℕ → Bool
work_fields_ok l = work_ok (byte l 1) (byte l 2) (byte l 3) (byte l 4)

unfoldable pub fields_ok : List ℕ → Bool
fields_ok l =
    cond (eqb (byte l 0) RACK) (rack_ok (byte l 1))
    (cond (eqb (byte l 0) DROP) (needle_ok (byte l 1) (byte l 2))
    (cond (eqb (byte l 0) XFER) (needle_ok (byte l 1) (byte l 2) && number_ok (byte l 3))
    (cond (eqb (byte l 0) SPLIT) (work_fields_ok l && number_ok (byte l 5))
    (cond (is_plated (byte l 0)) (work_fields_ok l && carrier_number_ok (byte l 5))
    (work_fields_ok l)))))

unfoldable pub record_from : List ℕ → Record
record_from l =
    cond (eqb (byte l 0) RACK) (rack_record (signed_of (byte l 1)))
    (cond (eqb (byte l 0) DROP) (drop_record (needle (byte l 1) (byte l 2)))
    (cond (eqb (byte l 0) XFER) (xfer_record (needle (byte l 1) (byte l 2)) (needle (1 - byte l 1) (byte l 3)))
    (cond (eqb (byte l 0) SPLIT) (split_record (eqb (byte l 1) 1) (needle (byte l 2) (byte l 3)) (byte l 4) (needle (1 - byte l 2) (byte l 5)))
    (cond (is_plated (byte l 0)) (plated_record (byte l 0) (eqb (byte l 1) 1) (needle (byte l 2) (byte l 3)) (byte l 4) (byte l 5))
    (work_record (byte l 0) (eqb (byte l 1) 1) (needle (byte l 2) (byte l 3)) (byte l 4))))))

-- the first record of a list: a refusal's number, or 0 with the record's length and the record
pub record Reading : Type 0 where
  pub number : ℕ
  pub size : ℕ
  pub what : Record

-- a refusal: length 0, and 0 in every field of the record
unfoldable pub refused_as : ℕ → Reading
refused_as n = record { number = n; size = 0; what = blank_record 0 }

-- a list whose first byte is a known kind: 4 (01: cut short) if there are fewer bytes than it needs, 5 (01: field) unless its fields are in range
unfoldable pub read_of : List ℕ → Reading
read_of l =
    cond (ltb (length l) (size_of (byte l 0))) (refused_as 4)
    (cond (fields_ok l) (record { number = 0; size = size_of (byte l 0); what = record_from l }) (refused_as 5))

-- the first record of a list: 4 without a byte, 3 (01: strange) for an unknown kind
unfoldable pub decode_of : List ℕ → Reading
decode_of l = cond (eqb (length l) 0) (refused_as 4) (cond (eqb (size_of (byte l 0)) 0) (refused_as 3) (read_of l))

-- what code answers, read so
abbrev pub reading_of : Result Decoded Refusal → Reading
reading_of (Ok d) = record { number = 0; size = d.size; what = d.what }
reading_of (Err why) = refused_as (number_of why)
