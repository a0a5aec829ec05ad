-- One byte more of each half. Assumes nothing.
use Rattle.std.proofs.Common.{rules, ◌+◌, take, drop, sym, ◌∙◌}
use Rattle.std.proofs.lemmas.List.Edits.{swap_is}
use Rattle.rewrite.proofs.Rotations.{half_front, half_back, half_next}
use Rattle.rewrite.proofs.halves.Goals as goal

pub loop-i-preserved : goal.loop-i-preserved
loop-i-preserved c =
    let p = c.args.part.now in
    let k = c.args.k in
    let v = c.loop-i in
    c.swap.ensures.after ∙ sym (swap_is v.part v.i (k + v.i) 0 (search rules) (search rules))
    ∙ half_next (take k p) (drop k p) k (half_front p k c.requires) (half_back p k c.requires) v.i c.loop-i-test.true v.part v.invariant
