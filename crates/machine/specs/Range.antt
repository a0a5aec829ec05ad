-- Number 15 of document 01 (foul state) and of 02, W2: the range of each value of a machine state that is lent, and of a limit that is given.
use Rattle.std.specs.Prelude.{ℕ, ◌≤◌, ◌≡◌, Bool, true, ◌&&◌, cond, ◌↔◌, ℤ, pos, negsuc, nat_abs, get_or, eqb, leb}
use Rattle.machine.specs.Limits.{last_needle, racking_most, slot_most, limit_least, limit_most}
use Rattle.machine.specs.declared.Slot.{Slot}
use Rattle.machine.specs.declared.Needle.{Needle}
use Rattle.machine.specs.declared.Carrier.{Carrier}
use Rattle.machine.specs.declared.State.{State}
use Rattle.machine.specs.Machine.{OnBed, inactive, inactive_carrier, all}

-- ---- as a reader holds it against 01's row
-- slots −8 to 258; negsuc n is −1 − n
pub data SlotInRange : Slot → Type 0 where
  nonnegative : {n : ℕ} → n ≤ slot_most → SlotInRange (record { 0 = pos n })
  negative : {n : ℕ} → n ≤ 7 → SlotInRange (record { 0 = negsuc n })

-- a carrier is inactive, with 0 in every field; or it is parked, and then unattached, with 0 for its needle, or attached to a needle that
-- the machine has, on its left (1) or right (2) side
pub data CarrierInRange (c : Carrier) : Type 0 where
  idle : c ≡ inactive → CarrierInRange c
  unattached : c.active ≡ 1 → SlotInRange c.slot → c.side ≡ 0 → c.needle ≡ record { 0 = 0; 1 = 0 } → CarrierInRange c
  attached : c.active ≡ 1 → SlotInRange c.slot → 1 ≤ c.side → c.side ≤ 2 → OnBed c.needle → CarrierInRange c

-- a hook limit: 1 to 8
pub record LimitInRange (n : ℕ) : Type 0 where
  pub least : limit_least ≤ n
  pub most : n ≤ limit_most

-- a state that is not foul (a state in code has 500 hooks and ten carriers; nothing is asked of the lists' lengths here)
pub record StateInRange (s : State) : Type 0 where
  -- −8 to 8
  pub racking : nat_abs s.racking.0 ≤ racking_most
  pub limit : LimitInRange s.limit
  -- on each hook no more loops than the limit; past the last there is none
  pub loops : (i : ℕ) → get_or s.loops i 0 ≤ s.limit
  pub carriers : (i : ℕ) → CarrierInRange (get_or s.carriers i inactive)

-- ---- as a test that computes, which the contracts cite
unfoldable pub slot_ok : ℤ → Bool
slot_ok (pos n) = leb n slot_most
slot_ok (negsuc n) = leb n 7

-- (a racking and a needle in a record's bytes have the same ranges: crate record)
abbrev pub racking_ok : ℤ → Bool
racking_ok z = leb (nat_abs z) racking_most

abbrev pub limit_ok : ℕ → Bool
limit_ok n = leb limit_least n && leb n limit_most

abbrev pub number_ok : ℕ → Bool
number_ok n = leb n last_needle

abbrev pub on_bed : Needle → Bool
on_bed n = leb n.0 1 && number_ok n.1

-- a parked carrier's attachment, or 0 where it has none
unfoldable pub attachment_ok : Carrier → Bool
attachment_ok c = cond (eqb c.side 0) (eqb c.needle.0 0 && eqb c.needle.1 0) (leb c.side 2 && on_bed c.needle)

unfoldable pub carrier_ok : Carrier → Bool
carrier_ok c = cond (eqb c.active 0) (inactive_carrier c) (eqb c.active 1 && (slot_ok c.slot.0 && attachment_ok c))

unfoldable pub state_ok : State → Bool
state_ok s = racking_ok s.racking.0 && (limit_ok s.limit && (all (λ (n : ℕ). leb n s.limit) s.loops && all carrier_ok s.carriers))

-- the tests are true exactly of the limits, and of the states, in range
abbrev pub LimitExactly : Type 0
LimitExactly = (n : ℕ) → (limit_ok n ≡ true) ↔ LimitInRange n

abbrev pub RangeExactly : Type 0
RangeExactly = (s : State) → (state_ok s ≡ true) ↔ StateInRange s
