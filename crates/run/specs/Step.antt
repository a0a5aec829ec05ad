-- The step as a definition that computes, which the contracts cite: what a record sees of the state, what it decides, what is stored.
-- One shape for every kind; Claims.antt ties it to the relation.
use Rattle.std.specs.Prelude.{ℕ, ◌+◌, ◌-◌, Bool, true, false, not, ◌&&◌, ◌||◌, cond, List, [], ◌∷◌, map, pos, get_or, set, eqb, leb}
use Rattle.machine.specs.declared.Needle.{Needle}
use Rattle.machine.specs.declared.Column.{Column}
use Rattle.machine.specs.declared.Racking.{Racking}
use Rattle.machine.specs.declared.Slot.{Slot}
use Rattle.machine.specs.declared.Carrier.{Carrier}
use Rattle.machine.specs.declared.State.{State}
use Rattle.machine.specs.Machine.{inactive, changed, hook_of, loops_on, carrier_of, moved_to}
use Rattle.machine.specs.Geometry.{eq_z, column_of, entry_of, exit_of, same_column, within_float}
use Rattle.machine.specs.Stretch.{any_stretched}
use Rattle.record.specs.declared.Record.{Record}
use Rattle.record.specs.Kinds.{IN, OUT, MISS, loops_formed, moves, is_plated, tucks}
use Rattle.record.specs.Format.{no_needle}
use Rattle.record.specs.Names.{needles_of, carriers_of, is_rack, racking_after}

-- ---- see: a carrier shows the column of its attachment and not the needle
pub record Look : Type 0 where
  pub active : Bool
  pub slot : Slot
  pub attached : Bool
  pub column : Column

pub record Seen : Type 0 where
  pub racking : Racking
  pub limit : ℕ
  pub here : ℕ
  pub there : ℕ
  -- of the first carrier and of the second
  pub look : Look
  pub other : Look
  -- of all carriers: whether a rack to the record's racking stretches one's yarn
  pub stretched : Bool

unfoldable pub look_of : Racking → Carrier → Look
look_of r c = record { active = not (eqb c.active 0); slot = c.slot; attached = not (eqb c.side 0); column = column_of c.needle r }

unfoldable pub see_of : State → Record → Seen
see_of s x =
    record { racking = s.racking; limit = s.limit; here = loops_on s x.at; there = loops_on s x.to; look = look_of s.racking (carrier_of s x.carrier); other = look_of s.racking (carrier_of s x.second); stretched = any_stretched s.racking x.racking s.carriers }

-- ---- decide: the number is the first that holds, 0 for none
abbrev pub or_number : ℕ → ℕ → ℕ
or_number a b = cond (eqb a 0) b a

-- 16: one yarn twice
unfoldable pub twice_no : Record → ℕ
twice_no x = cond (is_plated x.kind && eqb x.carrier x.second) 16 0

-- 17: a rack that stretches a yarn
unfoldable pub stretch_no : Record → Bool → ℕ
stretch_no x b = cond (is_rack x && b) 17 0

-- 7: not in; 7 and 8: parked at a slot
abbrev pub not_in_no : Look → ℕ
not_in_no c = cond c.active 0 7

unfoldable pub parked_no : Bool → Slot → Slot → ℕ
parked_no active here z = cond active (cond (eq_z here.0 z.0) 0 8) 7

-- 9: a float to a column
unfoldable pub float_no : Look → Column → ℕ
float_no c z = cond c.attached (cond (within_float c.column z) 0 9) 0

-- 6 to 9 of one carrier: inactive for in, at the exit slot for out, at the entry slot for the rest, and near for tuck, knit and split
abbrev pub asked_no : ℕ → Needle → Bool → Racking → Look → ℕ
asked_no kind n right r c =
    cond (eqb kind IN) (cond c.active 6 0)
    (cond (eqb kind OUT) (parked_no c.active c.slot (exit_of (column_of n r) right))
    (cond (eqb kind MISS) (parked_no c.active c.slot (entry_of (column_of n r) right))
    (cond (leb 1 (loops_formed kind)) (or_number (parked_no c.active c.slot (entry_of (column_of n r) right)) (float_no c (column_of n r))) 0)))

-- 7 to 9 of two, by number: 'For each of 7, 8 and 9 the first carrier is looked at before the second'
abbrev pub both_no : Slot → Column → Look → Look → ℕ
both_no y z c d =
    or_number (not_in_no c) (or_number (not_in_no d)
    (or_number (parked_no c.active c.slot y) (or_number (parked_no d.active d.slot y)
    (or_number (float_no c z) (float_no d z)))))

unfoldable pub carrier_no : Record → Racking → Look → Look → ℕ
carrier_no x r c d =
    cond (is_plated x.kind) (both_no (entry_of (column_of x.at r) x.right) (column_of x.at r) c d)
    (asked_no x.kind x.at x.right r c)

-- 10: the two needles of xfer and split
unfoldable pub opposite_no : Record → Racking → ℕ
opposite_no x r = cond (moves x.kind) (cond (same_column (column_of x.at r) (column_of x.to r)) 0 10) 0

-- the loops on the first needle and on the second, afterwards; 0, and not stored, for a kind that works no such hook
unfoldable pub first_after : ℕ → ℕ → ℕ
first_after kind here = cond (tucks kind) (here + loops_formed kind) (loops_formed kind)

unfoldable pub second_after : ℕ → ℕ → ℕ → ℕ
second_after kind here there = cond (moves kind) (here + there) 0

-- the loops for which a record asks room on its first needle: one that a knit or a split leaves always fits
unfoldable pub first_asked : ℕ → ℕ → ℕ
first_asked kind here = cond (tucks kind || is_plated kind) (first_after kind here) 0

-- 11: either is over the limit
unfoldable pub room_no : ℕ → ℕ → ℕ → ℕ → ℕ
room_no limit kind here there = cond (leb (first_asked kind here) limit) (cond (leb (second_after kind here there) limit) 0 11) 11

unfoldable pub decided_no : Record → Seen → ℕ
decided_no x s =
    or_number (twice_no x) (or_number (stretch_no x s.stretched) (or_number (carrier_no x s.racking s.look s.other)
    (or_number (opposite_no x s.racking) (room_no s.limit x.kind s.here s.there))))

-- ---- apply: edits at listed places
module _ {A W : Type 0} (act : W → A → A) (d : A) where
  unfoldable pub edit : List ℕ → List W → List A → List A
  edit [] vs l = l
  edit (i ∷ is) [] l = l
  edit (i ∷ is) (v ∷ vs) l = edit is vs (set l i (act v (get_or l i d)))

abbrev pub stored : ℕ → ℕ → ℕ
stored v old = v

-- what becomes of the carrier that a record names: parked or not, its attachment kept or replaced
pub record Act : Type 0 where
  pub active : ℕ
  pub slot : Slot
  pub keep : Bool
  pub side : ℕ
  pub needle : Needle

unfoldable pub act_of : Record → Racking → Act
act_of x r =
    cond (leb 1 (loops_formed x.kind)) (record { active = 1; slot = exit_of (column_of x.at r) x.right; keep = false; side = cond x.right 2 1; needle = x.at })
    (cond (eqb x.kind OUT) (record { active = 0; slot = record { 0 = pos 0 }; keep = false; side = 0; needle = no_needle })
    (cond (eqb x.kind MISS) (record { active = 1; slot = exit_of (column_of x.at r) x.right; keep = true; side = 0; needle = no_needle })
    (record { active = 1; slot = entry_of (column_of x.at r) x.right; keep = false; side = 0; needle = no_needle })))

unfoldable pub acted : Act → Carrier → Carrier
acted a c = record { active = a.active; side = cond a.keep c.side a.side; slot = a.slot; needle = cond a.keep c.needle a.needle }

-- a record with two needles takes the attachments along
unfoldable pub move_attachments : Record → List Carrier → List Carrier
move_attachments x l = cond (moves x.kind) (map (moved_to x.at x.to) l) l

-- ---- the step of a record: its number, and the state after it where that is 0
unfoldable pub number_at : State → Record → ℕ
number_at s x = decided_no x (see_of s x)

unfoldable pub apply_of : State → Record → State
apply_of s x =
    changed s (racking_after s.racking x)
    (edit stored 0 (map hook_of (needles_of x)) (first_after x.kind (loops_on s x.at) ∷ second_after x.kind (loops_on s x.at) (loops_on s x.to) ∷ []) s.loops)
    (edit acted inactive (map (λ (k : ℕ). k - 1) (carriers_of x)) (act_of x s.racking ∷ act_of x s.racking ∷ []) (move_attachments x s.carriers))
