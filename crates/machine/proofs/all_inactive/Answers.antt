-- By what `all` answers. Assumes nothing.
use Rattle.std.proofs.Common.{rules, tests, ◌∙◌}
use Rattle.std.proofs.lemmas.Iterator.{YieldsList-from_slice}
use Rattle.std.proofs.lemmas.Iterator.Search.{all_from_yields_List}
use Rattle.machine.specs.Machine.{inactive_carrier}
use Rattle.machine.proofs.Scans.{all_is}
use Rattle.machine.proofs.all_inactive.Goals as goal

pub returns : goal.returns
returns c = all_from_yields_List inactive_carrier _ _ _ c.all.ensures.ran (YieldsList-from_slice c.args.carriers.now cc) (λ x b q k. search (rules, tests)) ∙ all_is inactive_carrier c.args.carriers.now
