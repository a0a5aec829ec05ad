-- Laws of attachments and racks: the distance as code reads it back, who is stretched. Assumes nothing.
use borrow.Table.Steps.{cases}
use Prim.Native.Nat.{ℕ, zero, suc, ◌<◌}
use mathlib.Core.Path.{◌≡◌, refl, sym, ap, subst, ◌∙◌}
use mathlib.Core.Bool.{true, false, not, and-false, true≢false, false≢true}
use mathlib.Core.List.{List, [], ◌∷◌}
use native.Mathlib.Omega.{arith}
use lib.IntN.{ℤ, ◌-ℤ◌, nat_abs}
use lib.Signed.{mag}
use lib.Dec.{eqb, ltb}
use lib.ListN.{get_or}
use borrow.Author.Tests.{eq-eqb, eqb-true, not-false, le-ltb}
use mir.Syntax.{w8}
use mir.Val.{of_z}
use Rattle.std.proofs.lemmas.Bool.{and_parts}
use Rattle.machine.specs.declared.FarSlot.{FarSlot}
use Rattle.machine.specs.declared.Racking.{Racking}
use Rattle.machine.specs.declared.Carrier.{Carrier}
use Rattle.machine.specs.Limits.{stretch_most}
use Rattle.machine.specs.Geometry.{column_of}
use Rattle.machine.specs.Machine.{inactive, all}
use Rattle.machine.specs.Stretch.{slot_beside, attachment_slot, SlotsExactly, DistanceExactly, distance_of, stretches, any_stretched}
use Rattle.machine.specs.Looks.{any_back, carried_off}
use Rattle.machine.proofs.Signed.{eq_z_true, is_bits, apart_by}

-- the slots are 02's
pub slots_exactly : SlotsExactly
unfolding slot_beside
slots_exactly r c = (λ e. simp e, λ e. simp e)

pub distance_exactly : DistanceExactly
unfolding distance_of
distance_exactly r c d = apart_by (attachment_slot r c).0 c.slot.0 d

-- the distance, from the slot that code got
pub distance_is : (r : Racking) (c : Carrier) (y : FarSlot) → y.0 ≡ (attachment_slot r c).0 → nat_abs (y.0 -ℤ c.slot.0) ≡ distance_of r c
unfolding distance_of
distance_is r c y e = ap (λ (a : ℤ). nat_abs (a -ℤ c.slot.0)) e

-- ---- one carrier
module _ (r z : Racking) (c : Carrier) where
  -- as far as before, it is not stretched; and a front needle stays where it is
  as_far : distance_of r c ≡ distance_of z c → stretches r z c ≡ false
  unfolding stretches
  as_far e =
      simp (e, le-ltb (distance_of z c) (distance_of z c) (omega arith), and-false (ltb stretch_most (distance_of z c)), and-false (not (eqb c.side 0)), and-false (not (eqb c.active 0)))

  pub front_stays : c.needle.0 ≡ 0 → distance_of r c ≡ distance_of z c
  unfolding distance_of column_of
  front_stays e = simp (eq-eqb c.needle.0 0 e)

  pub front_unstretched : c.needle.0 ≡ 0 → stretches r z c ≡ false
  front_unstretched e = as_far (front_stays e)

  -- near enough afterwards it is not stretched; else it is, if it is carried off
  pub near_unstretched : ltb stretch_most (distance_of z c) ≡ false → stretches r z c ≡ false
  unfolding stretches
  near_unstretched e = simp (e, and-false (not (eqb c.side 0)), and-false (not (eqb c.active 0)))

  pub far_stretched : ltb stretch_most (distance_of z c) ≡ true → stretches r z c ≡ carried_off r z c
  unfolding stretches
  far_stretched e = simp e

  -- the same from the slot that code got
  module _ (y : FarSlot) where
    pub looked_near : y.0 ≡ (attachment_slot z c).0 → ltb stretch_most (nat_abs (y.0 -ℤ c.slot.0)) ≡ false → stretches r z c ≡ false
    looked_near e t = near_unstretched (ap (ltb stretch_most) (sym (distance_is z c y e)) ∙ t)

    pub looked_far : y.0 ≡ (attachment_slot z c).0 → ltb stretch_most (nat_abs (y.0 -ℤ c.slot.0)) ≡ true → stretches r z c ≡ carried_off r z c
    looked_far e t = far_stretched (ap (ltb stretch_most) (sym (distance_is z c y e)) ∙ t)

-- ---- a list of them
-- to the same racking, and where no carrier names a back needle, none is stretched
none_at_all : (r : Racking) (l : List Carrier) → any_stretched r r l ≡ false
unfolding all
none_at_all r [] = refl
none_at_all r (c ∷ l) = simp (as_far r r c refl, none_at_all r l)

pub same_unstretched : (r z : Racking) (l : List Carrier) → mag r.0 < 128 → mag z.0 < 128 → of_z w8 r.0 ≡ of_z w8 z.0 → any_stretched r z l ≡ false
same_unstretched r z l h k e =
    let f = eq_z_true r.0 z.0 (is_bits w8 r.0 z.0 h k e) in
    subst (λ (y : ℤ). any_stretched r (record { 0 = y }) l ≡ false) f (none_at_all r l)

pub no_back_unstretched : (r z : Racking) (l : List Carrier) → any_back l ≡ false → any_stretched r z l ≡ false
unfolding all
no_back_unstretched r z [] e = refl
no_back_unstretched r z (c ∷ l) e =
    let (a, t) = and_parts (eqb c.needle.0 0) _ (not-false _ e) in
    simp (front_unstretched r z c (eqb-true c.needle.0 0 a), no_back_unstretched r z l (ap not t))

-- whether one of a list is stretched, by the places in it; past the last there is an inactive carrier
module _ (r z : Racking) where
  idle_unstretched : stretches r z inactive ≡ false
  unfolding stretches
  idle_unstretched = refl

  pub one_stretched : (l : List Carrier) → any_stretched r z l ≡ true → (i : ℕ) × (stretches r z (get_or l i inactive) ≡ true)
  unfolding all
  one_stretched [] e = absurd (false≢true e)
  one_stretched (c ∷ l) e =
      cases (stretches r z c) (λ t. (0, t)) (λ t. let (i, f) = one_stretched l (sym (simp t) ∙ e) in (suc i, f))

  pub none_stretched : (l : List Carrier) → any_stretched r z l ≡ false → (i : ℕ) → stretches r z (get_or l i inactive) ≡ false
  unfolding all
  none_stretched [] e i = idle_unstretched
  none_stretched (c ∷ l) e zero = cases (stretches r z c) (λ t. absurd (true≢false (sym (simp t) ∙ e))) (λ t. t)
  none_stretched (c ∷ l) e (suc i) = cases (stretches r z c) (λ t. absurd (true≢false (sym (simp t) ∙ e))) (λ t. none_stretched l (sym (simp t) ∙ e) i)
