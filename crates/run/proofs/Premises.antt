-- Each test of the step: 0 where its premise holds, else the number of its reason. Assumes nothing.
use borrow.Table.Steps.{cases}
use Prim.Native.Nat.{ℕ, ◌+◌, ◌≤◌, ◌<◌}
use mathlib.Core.Path.{◌≡◌, ap}
use mathlib.Core.Bool.{true, false, cond}
use lib.IntN.{ℤ, ◌-ℤ◌, nat_abs}
use lib.Dec.{eqb, leb}
use borrow.Author.Tests.{eq-eqb, ne_eqb, leb-true, leb-false, le-leb, lt-leb}
use Rattle.machine.specs.declared.Column.{Column}
use Rattle.machine.specs.declared.Racking.{Racking}
use Rattle.machine.specs.declared.Slot.{Slot}
use Rattle.machine.specs.declared.Carrier.{Carrier}
use Rattle.machine.specs.declared.State.{State}
use Rattle.machine.specs.Limits.{float_most}
use Rattle.machine.specs.Machine.{loops_on, carrier_of}
use Rattle.machine.specs.Geometry.{eq_z, column_of, same_column, within_float}
use Rattle.machine.proofs.Signed.{eq_z_yes, eq_z_no, eq_z_true, eq_z_false}
use Rattle.record.specs.declared.Record.{Record}
use Rattle.record.specs.Kinds.{carriers_named}
use Rattle.record.proofs.Shapes.{is}
use Rattle.run.specs.Relation.{Active, Inactive, Attached, ParkedAt, Opposite, Room, TwoYarns}
use Rattle.run.specs.Step.{look_of, or_number, twice_no, not_in_no, parked_no, float_no}
use Rattle.run.specs.Loops.{tuck_no, transfer_no}

-- ---- numbers in order
pub or_next : (a b : ℕ) → a ≡ 0 → or_number a b ≡ b
or_next a b e = simp e

pub or_first : (a b : ℕ) → (a ≡ 0 → ⊥) → or_number a b ≡ a
or_first a b h = simp (ne_eqb a 0 h)

-- ---- each test of the step, by its premise
slot_same : (a b : Slot) → a.0 ≡ b.0 → a ≡ b
slot_same a b e = ap {B = Slot} (λ (z : ℤ). record { 0 = z }) e

column_same : (a b : Column) → a.0 ≡ b.0 → a ≡ b
column_same a b e = ap {B = Column} (λ (z : ℤ). record { 0 = z }) e

-- what a carrier answers: 0 and its premise, or a number and why
module _ (r : Racking) (c : Carrier) where
  pub parked_zero : (z : Slot) → ParkedAt c z → parked_no (look_of r c).active (look_of r c).slot z ≡ 0
  unfolding parked_no look_of
  parked_zero z p = simp (ne_eqb c.active 0 p.active, eq_z_yes c.slot.0 z.0 (ap (λ (y : Slot). y.0) p.here))

  pub parked_off : (z : Slot) → Inactive c → parked_no (look_of r c).active (look_of r c).slot z ≡ 7
  unfolding parked_no look_of
  parked_off z e = simp (eq-eqb c.active 0 e)

  pub parked_elsewhere : (z : Slot) → Active c → (c.slot ≡ z → ⊥) → parked_no (look_of r c).active (look_of r c).slot z ≡ 8
  unfolding parked_no look_of
  parked_elsewhere z a h = simp (ne_eqb c.active 0 a, eq_z_no c.slot.0 z.0 (λ e. h (slot_same c.slot z e)))

  pub parked_cases : (z : Slot) {G : Type 0} → (Inactive c → G) → (Active c → (c.slot ≡ z → ⊥) → G) → (ParkedAt c z → G) → G
  parked_cases z f g k =
      is c.active 0 f
      (λ a. cases (eq_z c.slot.0 z.0) (λ t. k (record { active = a; here = slot_same c.slot z (eq_z_true c.slot.0 z.0 t) }))
      (λ t. g a (λ e. eq_z_false c.slot.0 z.0 t (ap (λ (y : Slot). y.0) e))))

  abbrev in_no : ℕ
  in_no = cond (look_of r c).active 6 0

  pub in_zero : Inactive c → in_no ≡ 0
  unfolding look_of
  in_zero e = simp (eq-eqb c.active 0 e)

  pub in_six : Active c → in_no ≡ 6
  unfolding look_of
  in_six a = simp (ne_eqb c.active 0 a)

  pub not_in_zero : Active c → not_in_no (look_of r c) ≡ 0
  unfolding look_of
  not_in_zero a = simp (ne_eqb c.active 0 a)

  pub not_in_seven : Inactive c → not_in_no (look_of r c) ≡ 7
  unfolding look_of
  not_in_seven e = simp (eq-eqb c.active 0 e)

  module _ (z : Column) where
    abbrev pub far : ℕ
    far = nat_abs ((column_of c.needle r).0 -ℤ z.0)

    pub float_zero : (Attached c → far ≤ float_most) → float_no (look_of r c) z ≡ 0
    unfolding float_no look_of within_float
    float_zero h = is c.side 0 (λ e. simp (eq-eqb c.side 0 e)) (λ a. simp (ne_eqb c.side 0 a, le-leb far float_most (h a)))

    pub float_over : Attached c → float_most < far → float_no (look_of r c) z ≡ 9
    unfolding float_no look_of within_float
    float_over a h = simp (ne_eqb c.side 0 a, lt-leb far float_most h)

    pub float_cases : {G : Type 0} → (Attached c → float_most < far → G) → ((Attached c → far ≤ float_most) → G) → G
    float_cases f g =
        is c.side 0 (λ e. g (λ a. absurd (a e)))
        (λ a. cases (leb far float_most) (λ t. g (λ b. leb-true far float_most t)) (λ t. f a (leb-false far float_most t)))

-- 11 or 0, and 10 before it
pub tuck_zero : (limit n v : ℕ) → n + v ≤ limit → tuck_no limit n v ≡ 0
unfolding tuck_no
tuck_zero limit n v h = simp (le-leb (n + v) limit h)

pub tuck_full : (limit n v : ℕ) → limit < n + v → tuck_no limit n v ≡ 11
unfolding tuck_no
tuck_full limit n v h = simp (lt-leb (n + v) limit h)

-- 16 or 0
pub twice_zero : (x : Record) → TwoYarns x → twice_no x ≡ 0
unfolding twice_no
twice_zero x h = cases (eqb (carriers_named x.kind) 2) (λ t. simp (t, ne_eqb x.carrier x.second h)) (λ t. simp t)

pub twice_sixteen : (x : Record) → carriers_named x.kind ≡ 2 → x.carrier ≡ x.second → twice_no x ≡ 16
unfolding twice_no
twice_sixteen x two e = simp (eq-eqb (carriers_named x.kind) 2 two, eq-eqb x.carrier x.second e)

module _ (s : State) (x : Record) where
  abbrev pub carrier : Carrier
  carrier = carrier_of s x.carrier

  abbrev pub sum : ℕ
  sum = loops_on s x.at + loops_on s x.to

  abbrev pub move_no : ℕ
  move_no = transfer_no s.limit s.loops x.at x.to s.racking

  same_yes : Opposite s x → same_column (column_of x.at s.racking) (column_of x.to s.racking) ≡ true
  unfolding same_column
  same_yes e = eq_z_yes (column_of x.at s.racking).0 (column_of x.to s.racking).0 (ap (λ (z : Column). z.0) e)

  same_no : (Opposite s x → ⊥) → same_column (column_of x.at s.racking) (column_of x.to s.racking) ≡ false
  unfolding same_column
  same_no h =
      eq_z_no (column_of x.at s.racking).0 (column_of x.to s.racking).0
      (λ e. h (column_same (column_of x.at s.racking) (column_of x.to s.racking) e))

  pub opposite_cases : {G : Type 0} → (Opposite s x → G) → ((Opposite s x → ⊥) → G) → G
  opposite_cases f g =
      cases (eq_z (column_of x.at s.racking).0 (column_of x.to s.racking).0)
      (λ t. f (column_same (column_of x.at s.racking) (column_of x.to s.racking) (eq_z_true _ _ t)))
      (λ t. g (λ e. eq_z_false _ _ t (ap (λ (z : Column). z.0) e)))

  pub move_zero : Opposite s x → Room s sum → move_no ≡ 0
  unfolding transfer_no
  move_zero e h = simp (same_yes e, le-leb sum s.limit h)

  pub move_full : Opposite s x → s.limit < sum → move_no ≡ 11
  unfolding transfer_no
  move_full e h = simp (same_yes e, lt-leb sum s.limit h)

  pub move_apart : (Opposite s x → ⊥) → move_no ≡ 10
  unfolding transfer_no
  move_apart h = simp (same_no h)
