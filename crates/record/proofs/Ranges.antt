-- What the range tests say, and what holds of every record that bytes encode. Assumes nothing.
use Prim.Native.Nat.{ℕ, ◌≤◌}
use mathlib.Core.Path.{◌≡◌}
use mathlib.Core.Bool.{true, not, ◌&&◌}
use native.Mathlib.Omega.{arith}
use lib.Dec.{leb, eqb}
use borrow.Table.Steps.{cases}
use borrow.Author.Tests.{eqb-true, eqb-false, leb-true}
use Rattle.std.proofs.lemmas.Bool.{and_parts}
use Rattle.machine.specs.Limits.{last_needle, carrier_count}
use Rattle.machine.proofs.Ranges.{bed_is}
use Rattle.machine.specs.Machine.{OnBed, hook_of}
use Rattle.record.specs.declared.Record.{Record}
use Rattle.record.specs.Kinds.{hooks_worked, carriers_named}
use Rattle.record.specs.Format.{needle_ok, work_ok, needle}
use Rattle.record.proofs.Shapes.{Known}

pub needle_bed : (bed n : ℕ) → needle_ok bed n ≡ true → bed ≤ 1
unfolding needle_ok
needle_bed bed n e = omega (arith, (bed_is (needle bed n) e).bed)

pub needle_number : (bed n : ℕ) → needle_ok bed n ≡ true → n ≤ last_needle
unfolding needle_ok
needle_number bed n e = omega (arith, (bed_is (needle bed n) e).number)

module _ (right bed n k : ℕ) (e : work_ok right bed n k ≡ true) where
  pub work_right : right ≤ 1
  unfolding work_ok
  work_right = leb-true right 1 (and_parts (leb right 1) _ e).0

  work_rest : (needle_ok bed n ≡ true) × ((leb 1 k && leb k carrier_count) ≡ true)
  unfolding work_ok
  work_rest = and_parts (needle_ok bed n) _ (and_parts (leb right 1) _ e).1

  pub work_bed : bed ≤ 1
  work_bed = needle_bed bed n work_rest.0

  pub work_number : n ≤ last_needle
  work_number = needle_number bed n work_rest.0

  pub work_low : 1 ≤ k
  work_low = leb-true 1 k (and_parts (leb 1 k) _ work_rest.1).0

  pub work_high : k ≤ carrier_count
  work_high = leb-true k carrier_count (and_parts (leb 1 k) _ work_rest.1).1

-- a direction is 0 or 1
pub direction : (right : ℕ) → right ≤ 1 → eqb right 1 ≡ not (eqb right 0)
direction right h =
    cases (eqb right 0) (λ t. let e = eqb-true right 0 t in simp e) (λ t. let e = one right h (eqb-false right 0 t) in simp e)
  where
    one : (k : ℕ) → k ≤ 1 → (k ≡ 0 → ⊥) → k ≡ 1
    one k h a = omega arith

-- what holds of every record that bytes encode
pub record InRange (x : Record) : Type 0 where
  pub known : Known x.kind
  pub at_bed : OnBed x.at
  pub to_bed : OnBed x.to
  pub carrier_low : 1 ≤ carriers_named x.kind → 1 ≤ x.carrier
  pub carrier_high : x.carrier ≤ carrier_count
  pub second_low : carriers_named x.kind ≡ 2 → 1 ≤ x.second
  pub second_high : x.second ≤ carrier_count
  pub beds_differ : hooks_worked x.kind ≡ 2 → hook_of x.at ≡ hook_of x.to → ⊥
