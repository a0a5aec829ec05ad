-- By what `any` answers. Assumes nothing.
use Rattle.std.proofs.Common.{rules, tests, sym, ◌∙◌}
use Rattle.std.proofs.lemmas.Iterator.{YieldsList-from_slice}
use Rattle.std.proofs.lemmas.Iterator.Search.{any_from_yields_List}
use Rattle.machine.proofs.Scans.{any_is}
use mathlib.Core.Bool.{not, not-not}
use lib.Dec.{eqb}
use Rattle.machine.specs.declared.Carrier.{Carrier}
use Rattle.machine.proofs.any_back.Goals as goal

pub returns : goal.returns
returns c = any_from_yields_List (λ (d : Carrier). not (eqb d.needle.0 0)) _ _ _ c.any.ensures.ran (YieldsList-from_slice c.args.carriers.now cc) (λ x b q k. search (rules, tests)) ∙ any_is _ _ (λ x. sym (not-not _)) c.args.carriers.now
