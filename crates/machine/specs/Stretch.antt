-- 02, W5: how far a carrier's attachment is from where it is parked, and which racks stretch its yarn.
use Rattle.std.specs.Prelude.{ℕ, ◌≡◌, Bool, ◌&&◌, not, cond, List, ◌↔◌, ◌⊎◌, pos, ◌+ℤ◌, ◌-ℤ◌, nat_abs, eqb, ltb}
use Rattle.machine.specs.Limits.{stretch_most}
use Rattle.machine.specs.declared.Column.{Column}
use Rattle.machine.specs.declared.Racking.{Racking}
use Rattle.machine.specs.declared.Slot.{Slot}
use Rattle.machine.specs.declared.Carrier.{Carrier}
use Rattle.machine.specs.Geometry.{column_of}
use Rattle.machine.specs.Machine.{all}

-- 'its attachment's slot (right side: the needle's column + 1, left side: the column)', at a racking; side 2 is right, side 1 left
unfoldable pub slot_beside : Column → ℕ → Slot
slot_beside z side = record { 0 = cond (ltb 1 side) (z.0 +ℤ pos 1) z.0 }

abbrev pub attachment_slot : Racking → Carrier → Slot
attachment_slot r c = slot_beside (column_of c.needle r) c.side

-- 'the distance from its attachment's slot .. to its parked slot'
unfoldable pub distance_of : Racking → Carrier → ℕ
distance_of r c = nat_abs ((attachment_slot r c).0 -ℤ c.slot.0)

-- the slots are 02's
abbrev pub SlotsExactly : Type 0
SlotsExactly =
    (r : Racking) (c : Carrier)
    → (c.side ≡ 2 → (attachment_slot r c).0 ≡ (column_of c.needle r).0 +ℤ pos 1) × (c.side ≡ 1 → (attachment_slot r c).0 ≡ (column_of c.needle r).0)

-- and the distance is d exactly if one of the two slots lies d to the right of the other
abbrev pub DistanceExactly : Type 0
DistanceExactly =
    (r : Racking) (c : Carrier) (d : ℕ)
    → (distance_of r c ≡ d) ↔ (((attachment_slot r c).0 ≡ c.slot.0 +ℤ pos d) ⊎ (c.slot.0 ≡ (attachment_slot r c).0 +ℤ pos d))

-- ---- as tests that compute, which the contracts cite (the rule itself stands in crate run, beside the relation)
-- whether a rack from r to z stretches the yarn of a parked and attached carrier: the distance 'ends over 20 and is greater than before'
unfoldable pub stretches : Racking → Racking → Carrier → Bool
stretches r z c = not (eqb c.active 0) && (not (eqb c.side 0) && (ltb stretch_most (distance_of z c) && ltb (distance_of r c) (distance_of z c)))

-- of some carrier
abbrev pub any_stretched : Racking → Racking → List Carrier → Bool
any_stretched r z l = not (all (λ (c : Carrier). not (stretches r z c)) l)
