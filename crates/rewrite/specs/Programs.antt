-- A program as a list of records, each by its bytes, the form of a log's, and the theory of swaps (crate trace) over them.
use Rattle.std.specs.Prelude.{ℕ, zero, suc, ◌+◌, ◌-◌, ◌*◌, Bool, true, false, ◌&&◌, ◌||◌, List, [], ◌∷◌, ◌++◌, eqb, length, take, drop}
use Rattle.machine.specs.declared.Needle.{Needle}
use Rattle.machine.specs.declared.Racking.{Racking}
use Rattle.machine.specs.Machine.{same_needle}
use Rattle.machine.specs.Geometry.{eq_z}
use Rattle.record.specs.declared.Record.{Record}
use Rattle.record.specs.Kinds.{size_of}
use Rattle.record.specs.Format.{decode_of}
use Rattle.record.specs.Names.{needles_of, carriers_of, is_rack, racking_after}
use Rattle.trace.specs.Lists.{keep}
use Rattle.trace.specs.Records.{Records}
use Rattle.rewrite.specs.Extents.{extent_of, meets, member, share_carrier}

-- 'A program is records end to end'
abbrev pub flat : List (List ℕ) → List ℕ
flat [] = []
flat (x ∷ l) = x ++ flat l

-- the records of a program: a byte of kind, then the body that it fixes; at most n records
unfoldable pub cut : ℕ → List ℕ → List (List ℕ)
cut zero p = []
cut (suc n) [] = []
cut (suc n) (k ∷ p) = (k ∷ take (size_of k - 1) p) ∷ cut n (drop (size_of k - 1) p)

abbrev pub records_of : List ℕ → List (List ℕ)
records_of p = cut (length p) p

-- 'each record's start', from a place on
unfoldable pub starts_of : ℕ → List (List ℕ) → List ℕ
starts_of at [] = []
starts_of at (x ∷ l) = at ∷ starts_of (at + length x) l

-- 'The log is three-byte records: 40, then a position in two bytes, high first', 40 hexadecimal
abbrev pub log_record_size : ℕ
log_record_size = 3

abbrev pub swap_kind : ℕ
swap_kind = 64

abbrev pub position_of : ℕ → ℕ → ℕ
position_of high low = high * 256 + low

-- the record that bytes encode
abbrev pub what : List ℕ → Record
what x = (decode_of x).what

-- 'a record is known by its bytes'
unfoldable pub same_bytes : List ℕ → List ℕ → Bool
same_bytes [] [] = true
same_bytes [] (b ∷ y) = false
same_bytes (a ∷ x) [] = false
same_bytes (a ∷ x) (b ∷ y) = eqb a b && same_bytes x y

-- the operations that ties, stretches and orders are read over
abbrev pub knitting : Records (List ℕ) Racking
knitting =
    record {
      same = same_bytes;
      same_racking = λ r s. eq_z r.0 s.0;
      is_rack = λ x. is_rack (what x);
      after = λ r x. racking_after r (what x);
      share = λ x y. share_carrier (what x) (what y);
      meet = λ r x y. meets (extent_of r (what x)) (extent_of r (what y));
    }

-- a needle among those whose hooks a record works (01: in, out and miss 'pass by the hook')
unfoldable pub member_needle : Needle → List Needle → Bool
member_needle n [] = false
member_needle n (m ∷ l) = same_needle n m || member_needle n l

-- what records name: a needle, first or second, or a carrier
pub data Named : Type 0 where
  needle : Needle → Named
  carrier : ℕ → Named

abbrev pub names : Named → List ℕ → Bool
names (needle n) x = member_needle n (needles_of (what x))
names (carrier k) x = member k (carriers_of (what x))

-- 'A needle's history is the list of drop, xfer, tuck, knit and split records naming it', first or second; 'a carrier's is the list of all records naming it'
abbrev pub history_of : Named → List ℕ → List (List ℕ)
history_of n p = keep (names n) (records_of p)
