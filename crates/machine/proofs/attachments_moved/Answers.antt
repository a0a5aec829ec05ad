-- A carrier more. Assumes nothing.
use Rattle.std.proofs.Common.{◌<◌, ◌∙◌, arith, get_or, length, set, ap}
use Rattle.std.proofs.lemmas.List.{get_or_default}
use Rattle.std.proofs.lemmas.List.Edits.{map_over_more}
use Rattle.machine.specs.Machine.{moved_to, inactive}
use Rattle.machine.proofs.attachments_moved.Goals as goal

pub loop-c-preserved : goal.loop-c-preserved
loop-c-preserved c =
    let l = c.loop-c.carriers in let i = c.loop-c.c-index in
    let here : i < length l = omega arith in
    ap (set l i) c.moved.ensures ∙ map_over_more (moved_to c.args.from c.args.to) c.args.carriers.now l i (get_or l i inactive) (omega arith) c.loop-c.invariant (get_or_default l i _ _ here)
