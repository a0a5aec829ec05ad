-- A refusal's number is not 0. Assumes nothing.
use Rattle.std.proofs.Common.{◌≡◌, arith}
use Rattle.machine.specs.declared.refusals.Refusal.{Refusal}
use Rattle.machine.specs.Refusals.{number_of}

pub number_some : (why : Refusal) → number_of why ≡ 0 → ⊥
number_some why e = grind arith
