-- What a look at a carrier comes to, in the carrier's own fields. Assumes nothing.
use Prim.Native.Nat.{ℕ}
use mathlib.Core.Path.{◌≡◌, refl}
use mathlib.Core.Bool.{Bool, true, false, not, cond}
use lib.Dec.{eqb}
use Rattle.machine.specs.declared.Carrier.{Carrier}
use Rattle.machine.specs.declared.Column.{Column}
use Rattle.machine.specs.declared.Racking.{Racking}
use Rattle.machine.specs.declared.Slot.{Slot}
use Rattle.machine.specs.Geometry.{eq_z, column_of, within_float}
use Rattle.run.specs.Step.{look_of, not_in_no, parked_no, float_no}

flip : (b : Bool) (m n : ℕ) → cond (not b) m n ≡ cond b n m
flip true m n = refl
flip false m n = refl

module _ (r : Racking) (c : Carrier) where
  pub parked_is : (z : Slot) → parked_no (look_of r c).active (look_of r c).slot z ≡ cond (eqb c.active 0) 7 (cond (eq_z c.slot.0 z.0) 0 8)
  unfolding parked_no look_of
  parked_is z = flip (eqb c.active 0) (cond (eq_z c.slot.0 z.0) 0 8) 7

  pub parked_seen : (z : Slot) → parked_no (not (eqb c.active 0)) c.slot z ≡ parked_no (look_of r c).active (look_of r c).slot z
  unfolding look_of
  parked_seen z = refl

  pub float_is : (z : Column) → float_no (look_of r c) z ≡ cond (eqb c.side 0) 0 (cond (within_float (column_of c.needle r) z) 0 9)
  unfolding float_no look_of
  float_is z = flip (eqb c.side 0) (cond (within_float (column_of c.needle r) z) 0 9) 0

  pub in_is : ◌≡◌ {A = ℕ} (cond (look_of r c).active 6 0) (cond (eqb c.active 0) 0 6)
  unfolding look_of
  in_is = flip (eqb c.active 0) 6 0

  pub not_in_is : not_in_no (look_of r c) ≡ cond (eqb c.active 0) 7 0
  unfolding look_of
  not_in_is = flip (eqb c.active 0) 0 7
