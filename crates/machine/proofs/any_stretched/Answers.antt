-- By what `any` answers. Assumes nothing.
use Rattle.std.proofs.Common.{rules, tests, refl, ◌∙◌}
use Rattle.std.proofs.lemmas.Iterator.{YieldsList-from_slice}
use Rattle.std.proofs.lemmas.Iterator.Search.{any_from_yields_List}
use Rattle.machine.specs.Stretch.{stretches}
use Rattle.machine.proofs.Scans.{any_is}
use Rattle.machine.proofs.any_stretched.Goals as goal

pub returns : goal.returns
returns c = any_from_yields_List (stretches c.args.before c.args.after) _ _ _ c.any.ensures.ran (YieldsList-from_slice c.args.carriers.now cc) (λ x b q k. search (rules, tests)) ∙ any_is _ _ (λ x. refl) c.args.carriers.now
