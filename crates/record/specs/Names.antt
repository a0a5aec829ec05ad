-- What a record names: the needles whose hooks it works and whose histories it enters, its carriers, its racking (document 01, 'Extents and ties').
use Rattle.std.specs.Prelude.{ℕ, Bool, false, cond, List, [], ◌∷◌, pos, take, eqb}
use Rattle.machine.specs.declared.Needle.{Needle}
use Rattle.machine.specs.declared.Racking.{Racking}
use Rattle.record.specs.declared.Record.{Record}
use Rattle.record.specs.Kinds.{RACK, hooks_worked, carriers_named}
use Rattle.record.specs.Format.{no_needle, record_of}

unfoldable pub needles_of : Record → List Needle
needles_of x = take (hooks_worked x.kind) (x.at ∷ x.to ∷ [])

unfoldable pub carriers_of : Record → List ℕ
carriers_of x = take (carriers_named x.kind) (x.carrier ∷ x.second ∷ [])

-- a rack, and the racking in force after a record
abbrev pub is_rack : Record → Bool
is_rack x = eqb x.kind RACK

abbrev pub racking_after : Racking → Record → Racking
racking_after r x = cond (is_rack x) x.racking r

-- what extents and ties look at: kind, first needle and carriers; the other fields 0
abbrev pub outline_at : ℕ → Needle → ℕ → ℕ → Record
outline_at kind a k j = record_of kind (pos 0) false a k j no_needle

unfoldable pub outline_of : Record → Record
outline_of x = outline_at x.kind x.at x.carrier x.second
