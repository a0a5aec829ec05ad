-- What ties two records at a racking, as code computes it; Exact.antt says it in document 01's words.
use Rattle.std.specs.Prelude.{ℕ, cond, ◌||◌, List, [], ◌∷◌, ℤ, pos, eqb}
use Rattle.std.specs.Int.Signed.{lt_z}
use Rattle.machine.specs.declared.Racking.{Racking}
use Rattle.machine.specs.Range.{racking_ok}
use Rattle.record.specs.declared.Record.{Record}
use Rattle.record.specs.Format.{decode_of}
use Rattle.record.specs.Names.{carriers_of, is_rack}
use Rattle.rewrite.specs.declared.Extent.{Extent}
use Rattle.rewrite.specs.Extents.{member, smaller, greater, extent_of, meets}
use Rattle.tie.specs.declared.Tied.{Tied}

-- an answer: left, right, number, by, carrier, low, high; 0 in a field without meaning
abbrev pub only_number : ℕ → Tied
only_number n = record { left = pos 0; right = pos 0; number = n; by = 0; carrier = 0; low = 0; high = 0 }

abbrev pub tied_by : ℕ → ℕ → Tied
tied_by by k = record { left = pos 0; right = pos 0; number = 13; by = by; carrier = k; low = 0; high = 0 }

abbrev pub by_rack : Tied
by_rack = tied_by 1 0

abbrev pub by_carrier : ℕ → Tied
by_carrier k = tied_by 2 k

abbrev pub by_extents : Extent → Tied
by_extents e = record { left = e.left; right = e.right; number = 13; by = 3; carrier = 0; low = e.low; high = e.high }

-- ---- the least carrier that both name, 0 if there is none
-- of two, where 0 is none
unfoldable pub lower : ℕ → ℕ → ℕ
lower a b = cond (eqb a 0) b (cond (eqb b 0) a (smaller a b))

abbrev pub called_in : Record → ℕ → ℕ
called_in y k = cond (member k (carriers_of y)) k 0

unfoldable pub least : Record → List ℕ → ℕ
least y [] = 0
least y (k ∷ ks) = lower (called_in y k) (least y ks)

abbrev pub least_shared : Record → Record → ℕ
least_shared x y = least y (carriers_of x)

-- ---- what two extents have in common, if they meet
abbrev pub rightmost : ℤ → ℤ → ℤ
rightmost a b = cond (lt_z a b) b a

abbrev pub leftmost : ℤ → ℤ → ℤ
leftmost a b = cond (lt_z a b) a b

unfoldable pub common : Extent → Extent → Extent
common e f = record { left = rightmost e.left f.left; right = leftmost e.right f.right; low = greater e.low f.low; high = smaller e.high f.high }

-- ---- two records at a racking
unfoldable pub tie_of_extents : Extent → Extent → Tied
tie_of_extents e f = cond (meets e f) (by_extents (common e f)) (only_number 0)

unfoldable pub tie_of_two : Racking → Record → Record → Tied
tie_of_two r x y = cond (eqb (least_shared x y) 0) (tie_of_extents (extent_of r x) (extent_of r y)) (by_carrier (least_shared x y))

unfoldable pub tie_of_records : Racking → Record → Record → Tied
tie_of_records r x y = cond (is_rack x || is_rack y) by_rack (tie_of_two r x y)

-- 15 for a racking out of its range; then 3 to 5 of the first, then of the second
unfoldable pub tie_of : ℤ → List ℕ → List ℕ → Tied
tie_of z p q =
    cond (racking_ok z)
    (cond (eqb (decode_of p).number 0)
    (cond (eqb (decode_of q).number 0) (tie_of_records (record { 0 = z }) (decode_of p).what (decode_of q).what) (only_number (decode_of q).number))
    (only_number (decode_of p).number))
    (only_number 15)
