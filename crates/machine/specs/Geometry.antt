-- Columns and slots of document 01, 'Machine' (000, Definition 5.2: physical needle and yarn carrier locations).
use Rattle.std.specs.Prelude.{Bool, false, cond, ℤ, pos, negsuc, ◌+ℤ◌, ◌-ℤ◌, nat_abs, eqb, leb}
use Rattle.machine.specs.Limits.{float_most}
use Rattle.machine.specs.declared.Needle.{Needle}
use Rattle.machine.specs.declared.Column.{Column}
use Rattle.machine.specs.declared.Racking.{Racking}
use Rattle.machine.specs.declared.Slot.{Slot}

-- whether two whole numbers are equal
unfoldable pub eq_z : ℤ → ℤ → Bool
eq_z (pos a) (pos b) = eqb a b
eq_z (pos a) (negsuc b) = false
eq_z (negsuc a) (pos b) = false
eq_z (negsuc a) (negsuc b) = eqb a b

-- a front needle n has column n, a back needle n has column n + r
unfoldable pub column_of : Needle → Racking → Column
column_of n r = record { 0 = cond (eqb n.0 0) (pos n.1) (pos n.1 +ℤ r.0) }

-- moving right over column z, the entry slot is z and the exit slot z + 1; moving left, the entry is z + 1 and the exit z
unfoldable pub entry_of : Column → Bool → Slot
entry_of z right = record { 0 = cond right z.0 (z.0 +ℤ pos 1) }

unfoldable pub exit_of : Column → Bool → Slot
exit_of z right = record { 0 = cond right (z.0 +ℤ pos 1) z.0 }

unfoldable pub same_column : Column → Column → Bool
same_column a b = eq_z a.0 b.0

-- a float's columns
unfoldable pub within_float : Column → Column → Bool
within_float a b = leb (nat_abs (a.0 -ℤ b.0)) float_most
