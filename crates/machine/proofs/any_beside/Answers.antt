-- By what `any` answers. Assumes nothing.
use Rattle.std.proofs.Common.{rules, tests, refl, ◌∙◌}
use Rattle.std.proofs.lemmas.Iterator.{YieldsList-from_slice}
use Rattle.std.proofs.lemmas.Iterator.Search.{any_from_yields_List}
use Rattle.machine.proofs.Scans.{any_is}
use lib.Dec.{eqb}
use Rattle.machine.specs.declared.Carrier.{Carrier}
use Rattle.machine.proofs.any_beside.Goals as goal

pub returns : goal.returns
returns c = any_from_yields_List (λ (d : Carrier). eqb d.needle.1 c.args.n.1) _ _ _ c.any.ensures.ran (YieldsList-from_slice c.args.carriers.now cc) (λ x b q k. search (rules, tests)) ∙ any_is _ _ (λ x. refl) c.args.carriers.now
