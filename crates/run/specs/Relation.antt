-- The validity relation, in the shape of 000 (Definition 5.4, Figure 11): one rule for each kind of record, with the premises of document 01, 'Steps', and of 02, W1, W2 and W5.
use Rattle.std.specs.Prelude.{ℕ, ◌+◌, ◌-◌, ◌≤◌, ◌<◌, ◌≡◌, Bool, cond, List, [], ◌++◌, map, ◌-ℤ◌, nat_abs, set, length}
use Rattle.machine.specs.declared.Needle.{Needle}
use Rattle.machine.specs.declared.Racking.{Racking}
use Rattle.machine.specs.declared.Slot.{Slot}
use Rattle.machine.specs.declared.Carrier.{Carrier}
use Rattle.machine.specs.declared.State.{State}
use Rattle.machine.specs.Limits.{float_most, stretch_most, program_most}
use Rattle.machine.specs.Machine.{inactive, empty_state, changed, hook_of, loops_on, carrier_of, moved_to}
use Rattle.machine.specs.Geometry.{column_of, entry_of, exit_of}
use Rattle.machine.specs.Range.{LimitInRange}
use Rattle.machine.specs.Stretch.{distance_of}
use Rattle.record.specs.declared.Record.{Record}
use Rattle.record.specs.Kinds.{RACK, DROP, XFER, IN, OUT, MISS, TUCK, KNIT, SPLIT, PLATED_TUCK, PLATED_KNIT}
use Rattle.record.specs.Format.{Encodes}

-- a state with one thing changed: the racking, the loops on a hook, carrier k
abbrev pub racked : State → Racking → State
racked s r = changed s r s.loops s.carriers

abbrev pub with_loops : State → Needle → ℕ → State
with_loops s n v = changed s s.racking (set s.loops (hook_of n) v) s.carriers

abbrev pub with_carrier : State → ℕ → Carrier → State
with_carrier s k c = changed s s.racking s.loops (set s.carriers (k - 1) c)

-- all loops and attachments at one needle go to another, sides kept
abbrev pub transferred : State → Needle → Needle → State
transferred s a b =
    changed s s.racking (set (set s.loops (hook_of a) 0) (hook_of b) (loops_on s a + loops_on s b)) (map (moved_to a b) s.carriers)

-- where a record's carriers stand before they pass the needle, and after
abbrev pub entry_slot : State → Record → Slot
entry_slot s x = entry_of (column_of x.at s.racking) x.right

abbrev pub exit_slot : State → Record → Slot
exit_slot s x = exit_of (column_of x.at s.racking) x.right

-- a carrier that parks unattached; one that parks anew and keeps its attachment; one that is attached on the side it moved to
abbrev pub unattached : Slot → Carrier
unattached z = record { active = 1; side = 0; slot = z; needle = record { 0 = 0; 1 = 0 } }

abbrev pub reparked : Carrier → Slot → Carrier
reparked c z = record { active = 1; side = c.side; slot = z; needle = c.needle }

abbrev pub attached : Slot → Needle → Bool → Carrier
attached z n right = record { active = 1; side = cond right 2 1; slot = z; needle = n }

-- the premises
abbrev pub Active : Carrier → Type 0
Active c = c.active ≡ 0 → ⊥

abbrev pub Inactive : Carrier → Type 0
Inactive c = c.active ≡ 0

abbrev pub Attached : Carrier → Type 0
Attached c = c.side ≡ 0 → ⊥

pub record ParkedAt (c : Carrier) (z : Slot) : Type 0 where
  pub active : Active c
  pub here : c.slot ≡ z

-- how many columns carrier k of a record floats: from its attachment's needle to the needle worked, both at the current racking
abbrev pub float_of : State → Record → ℕ → ℕ
float_of s x k = nat_abs ((column_of (carrier_of s k).needle s.racking).0 -ℤ (column_of x.at s.racking).0)

-- an attached carrier's needle is at most 20 columns from the needle worked
abbrev pub FloatInReach : State → Record → ℕ → Type 0
FloatInReach s x k = Attached (carrier_of s k) → float_of s x k ≤ float_most

-- both needles have the same column
abbrev pub Opposite : State → Record → Type 0
Opposite s x = column_of x.at s.racking ≡ column_of x.to s.racking

-- a hook holds no more loops than the limit; one always fits, so that a knit and a split's own loop ask for no room
abbrev pub Room : State → ℕ → Type 0
Room s n = n ≤ s.limit

-- a plated stitch has two yarns
abbrev pub TwoYarns : Record → Type 0
TwoYarns x = x.carrier ≡ x.second → ⊥

-- 'both leave at the exit slot, attached'
abbrev pub both_attached : State → Record → State → State
both_attached s x t = with_carrier (with_carrier t x.carrier (attached (exit_slot s x) x.at x.right)) x.second (attached (exit_slot s x) x.at x.right)

-- a rack from r to z stretches a carrier's yarn: 'for some parked and attached carrier, the distance from its attachment's slot .. to its parked slot ends
-- over 20 and is greater than before'
pub record Stretches (r z : Racking) (c : Carrier) : Type 0 where
  pub parked : Active c
  pub attached : Attached c
  pub over : stretch_most < distance_of z c
  pub greater : distance_of r c < distance_of z c

-- it stretches none
abbrev pub Unstretched : State → Racking → Type 0
Unstretched s z = (k : ℕ) → Stretches s.racking z (carrier_of s k) → ⊥

-- executing x on s produces t
pub data Step (s : State) (x : Record) : State → Type 0 where
  rack : x.kind ≡ RACK → Unstretched s x.racking → Step s x (racked s x.racking)
  drop : x.kind ≡ DROP → Step s x (with_loops s x.at 0)
  xfer : x.kind ≡ XFER → Opposite s x → Room s (loops_on s x.at + loops_on s x.to)
      → Step s x (transferred s x.at x.to)
  carrier_in : x.kind ≡ IN → Inactive (carrier_of s x.carrier)
      → Step s x (with_carrier s x.carrier (unattached (entry_slot s x)))
  carrier_out : x.kind ≡ OUT → ParkedAt (carrier_of s x.carrier) (exit_slot s x)
      → Step s x (with_carrier s x.carrier inactive)
  miss : x.kind ≡ MISS → ParkedAt (carrier_of s x.carrier) (entry_slot s x)
      → Step s x (with_carrier s x.carrier (reparked (carrier_of s x.carrier) (exit_slot s x)))
  tuck : x.kind ≡ TUCK → ParkedAt (carrier_of s x.carrier) (entry_slot s x) → FloatInReach s x x.carrier → Room s (loops_on s x.at + 1)
      → Step s x (with_carrier (with_loops s x.at (loops_on s x.at + 1)) x.carrier (attached (exit_slot s x) x.at x.right))
  knit : x.kind ≡ KNIT → ParkedAt (carrier_of s x.carrier) (entry_slot s x) → FloatInReach s x x.carrier
      → Step s x (with_carrier (with_loops s x.at 1) x.carrier (attached (exit_slot s x) x.at x.right))
  split : x.kind ≡ SPLIT → ParkedAt (carrier_of s x.carrier) (entry_slot s x) → FloatInReach s x x.carrier → Opposite s x → Room s (loops_on s x.at + loops_on s x.to)
      → Step s x (with_carrier (with_loops (transferred s x.at x.to) x.at 1) x.carrier (attached (exit_slot s x) x.at x.right))
  -- 'Both carriers must stand at the entry slot and keep the float rule'; 'A plated tuck adds 2 loops, a plated knit leaves 2'
  plated_tuck : x.kind ≡ PLATED_TUCK → TwoYarns x → ParkedAt (carrier_of s x.carrier) (entry_slot s x) → ParkedAt (carrier_of s x.second) (entry_slot s x)
      → FloatInReach s x x.carrier → FloatInReach s x x.second → Room s (loops_on s x.at + 2)
      → Step s x (both_attached s x (with_loops s x.at (loops_on s x.at + 2)))
  plated_knit : x.kind ≡ PLATED_KNIT → TwoYarns x → ParkedAt (carrier_of s x.carrier) (entry_slot s x) → ParkedAt (carrier_of s x.second) (entry_slot s x)
      → FloatInReach s x x.carrier → FloatInReach s x x.second → Room s 2
      → Step s x (both_attached s x (with_loops s x.at 2))

-- the records of a list of bytes, each with its step in turn (000: V-seq)
pub data Steps : State → List ℕ → State → Type 0 where
  none : {s : State} → Steps s [] s
  next : {s t u : State} {bytes rest : List ℕ} {x : Record} → Encodes bytes x → Step s x t → Steps t rest u → Steps s (bytes ++ rest) u

-- a program that is valid at a hook limit, and its final state (02, W2: 'Valid now means at a limit')
pub record Valid (limit : ℕ) (p : List ℕ) (t : State) : Type 0 where
  pub limit_in : LimitInRange limit
  -- 01: a program is at most 32,768 bytes
  pub short : length p ≤ program_most
  pub steps : Steps (empty_state limit) p t
