-- 17: a rack against the rule that no yarn is stretched. Assumes nothing.
use borrow.Table.Steps.{cases}
use Prim.Native.Nat.{ℕ, suc, ◌-◌, ◌<◌}
use mathlib.Core.Path.{◌≡◌, sym, subst, ◌∙◌}
use mathlib.Core.Bool.{Bool, true, false, not, true≢false}
use native.Mathlib.Omega.{arith}
use lib.Dec.{eqb, ltb}
use lib.ListN.{get_or}
use borrow.Author.Tests.{ne_eqb, eqb-false, not-true, lt-ltb, ltb-true}
use Rattle.std.proofs.lemmas.Bool.{and_parts}
use Rattle.machine.specs.declared.Racking.{Racking}
use Rattle.machine.specs.declared.Carrier.{Carrier}
use Rattle.machine.specs.declared.State.{State}
use Rattle.machine.specs.Limits.{stretch_most}
use Rattle.machine.specs.Machine.{inactive, carrier_of}
use Rattle.machine.specs.Stretch.{distance_of, stretches, any_stretched}
use Rattle.machine.proofs.Stretches.{one_stretched, none_stretched}
use Rattle.record.specs.declared.Record.{Record}
use Rattle.run.specs.Relation.{Stretches, Unstretched, Step, racked}
use Rattle.run.specs.Claims.{CurrentRackSteps}
use Rattle.run.proofs.ByKind.{rack_no}

-- the test of a carrier is true exactly of one that is stretched
module _ (r z : Racking) (c : Carrier) where
  pub stretched_said : stretches r z c ≡ true → Stretches r z c
  unfolding stretches
  stretched_said e =
      let (a, t) = and_parts (not (eqb c.active 0)) _ e in
      let (b, u) = and_parts (not (eqb c.side 0)) _ t in
      let (o, g) = and_parts (ltb stretch_most (distance_of z c)) _ u in
      record {
        parked = eqb-false c.active 0 (not-true (eqb c.active 0) a);
        attached = eqb-false c.side 0 (not-true (eqb c.side 0) b);
        over = ltb-true stretch_most (distance_of z c) o;
        greater = ltb-true (distance_of r c) (distance_of z c) g;
      }

  pub stretched_found : Stretches r z c → stretches r z c ≡ true
  unfolding stretches
  stretched_found h =
      simp (ne_eqb c.active 0 h.parked, ne_eqb c.side 0 h.attached, lt-ltb stretch_most (distance_of z c) h.over, lt-ltb (distance_of r c) (distance_of z c) h.greater)

-- 17 or 0
module _ (s : State) (x : Record) where
  abbrev some : Bool
  some = any_stretched s.racking x.racking s.carriers

  abbrev At : ℕ → Type 0
  At k = Stretches s.racking x.racking (carrier_of s k)

  found : some ≡ true → (k : ℕ) × At k
  found t =
      let (i, e) = one_stretched s.racking x.racking s.carriers t in
      let at : i ≡ suc i - 1 = omega arith in
      (suc i, stretched_said s.racking x.racking (carrier_of s (suc i)) (subst (λ (j : ℕ). stretches s.racking x.racking (get_or s.carriers j inactive) ≡ true) at e))

  unfound : some ≡ false → Unstretched s x.racking
  unfound t k h =
      true≢false (sym (stretched_found s.racking x.racking (carrier_of s k) h) ∙ none_stretched s.racking x.racking s.carriers t (k - 1))

  pub rack_cases : {G : Type 0} → ((k : ℕ) → At k → G) → (Unstretched s x.racking → G) → G
  rack_cases f g = cases some (λ t. let (k, h) = found t in f k h) (λ t. g (unfound t))

  pub rack_seventeen : (k : ℕ) → At k → rack_no s x ≡ 17
  rack_seventeen k h = cases some (λ t. simp t) (λ t. absurd (unfound t k h))

  pub rack_zero : Unstretched s x.racking → rack_no s x ≡ 0
  rack_zero u = cases some (λ t. let (k, h) = found t in absurd (u k h)) (λ t. simp t)

-- ---- what a rack does
pub current_rack : CurrentRackSteps
current_rack s x e f = subst (λ (z : Racking). Step s x (racked s z)) f (Step.rack e (λ k u. omega (arith, subst (λ (z : Racking). distance_of s.racking (carrier_of s k) < distance_of z (carrier_of s k)) f u.greater)))
