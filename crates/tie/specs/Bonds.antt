-- What is told of two records, for what code has for it.
use Rattle.std.specs.Prelude.{◌<◌, Option, Some, None, Result, Ok, Err}
use Rattle.machine.specs.declared.refusals.Refusal.{Refusal}
use Rattle.machine.specs.Refusals.{number_of}
use Rattle.record.specs.declared.Record.{Record}
use Rattle.record.specs.Kinds.{carriers_named}
use Rattle.tie.specs.declared.Tied.{Tied}
use Rattle.tie.specs.declared.Bond.{Bond}
use Rattle.tie.specs.declared.Bond.TheVariants.{Rack, Carrier, Extents}
use Rattle.tie.specs.Tie.{only_number, by_rack, by_carrier, by_extents}

abbrev pub told_of : Result (Option Bond) Refusal → Tied
told_of (Err why) = only_number (number_of why)
told_of (Ok None) = only_number 0
told_of (Ok (Some Rack)) = by_rack
told_of (Ok (Some (Carrier k))) = by_carrier k
told_of (Ok (Some (Extents e))) = by_extents e

-- the carriers that a record names are carriers: 0 is none
pub record Carries (x : Record) : Type 0 where
  pub first : 0 < carriers_named x.kind → 0 < x.carrier
  pub second : 1 < carriers_named x.kind → 0 < x.second
