-- Fields and records by the kind, as code tests it. Assumes nothing.
use Prim.Native.Nat.{ℕ, ◌-◌}
use mathlib.Core.Path.{◌≡◌}
use mathlib.Core.Bool.{◌&&◌}
use mathlib.Core.List.{List}
use lib.Dec.{eqb}
use Rattle.machine.specs.Range.{racking_ok, number_ok}
use Rattle.record.specs.Kinds.{RACK, DROP, XFER, SPLIT}
use Rattle.record.specs.Format.{signed_of, rack_ok, needle_ok, needle, rack_record, drop_record, xfer_record, split_record, byte, work_fields_ok, fields_ok, record_from}
use Rattle.record.proofs.Forms.{work_fields, work_record_lem, plated_fields, plated_record_lem}

pub rack_fields : (l : List ℕ) → byte l 0 ≡ RACK → fields_ok l ≡ racking_ok (signed_of (byte l 1))
unfolding fields_ok rack_ok
rack_fields l e = simp e

pub drop_fields : (l : List ℕ) → byte l 0 ≡ DROP → fields_ok l ≡ needle_ok (byte l 1) (byte l 2)
unfolding fields_ok
drop_fields l e = simp e

pub xfer_fields : (l : List ℕ) → byte l 0 ≡ XFER → fields_ok l ≡ (needle_ok (byte l 1) (byte l 2) && number_ok (byte l 3))
unfolding fields_ok
xfer_fields l e = simp e

pub split_fields : (l : List ℕ) → byte l 0 ≡ SPLIT → fields_ok l ≡ (work_fields_ok l && number_ok (byte l 5))
unfolding fields_ok
split_fields l e = simp e

pub ruleset fields = (rack_fields, drop_fields, xfer_fields, work_fields, split_fields, plated_fields)

pub rack_record_lem : (l : List ℕ) → byte l 0 ≡ RACK → record_from l ≡ rack_record (signed_of (byte l 1))
unfolding record_from
rack_record_lem l e = simp e

pub drop_record_lem : (l : List ℕ) → byte l 0 ≡ DROP → record_from l ≡ drop_record (needle (byte l 1) (byte l 2))
unfolding record_from
drop_record_lem l e = simp e

pub xfer_record_lem : (l : List ℕ) → byte l 0 ≡ XFER → record_from l ≡ xfer_record (needle (byte l 1) (byte l 2)) (needle (1 - byte l 1) (byte l 3))
unfolding record_from
xfer_record_lem l e = simp e

pub split_record_lem : (l : List ℕ) → byte l 0 ≡ SPLIT
    → record_from l ≡ split_record (eqb (byte l 1) 1) (needle (byte l 2) (byte l 3)) (byte l 4) (needle (1 - byte l 2) (byte l 5))
unfolding record_from
split_record_lem l e = simp e

pub ruleset records = (rack_record_lem, drop_record_lem, xfer_record_lem, work_record_lem, split_record_lem, plated_record_lem)
