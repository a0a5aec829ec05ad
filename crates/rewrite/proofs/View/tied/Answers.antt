-- One carrier, then the extents. Assumes nothing.
use Rattle.std.proofs.Common.{rules, ◌∙◌}
use Rattle.rewrite.proofs.Judging.{first_read, second_read, one_carrier, by_outlines}
use Rattle.rewrite.proofs.View.tied.Goals as goal

pub outline-x-requires : goal.outline-x-requires
outline-x-requires c = let a = c.args in let q = c.requires in first_read _ _ a.i a.there q.0 q.2 q.3 (search rules)

pub outline-y-requires : goal.outline-y-requires
outline-y-requires c = let a = c.args in let q = c.requires in second_read _ _ a.i a.there q.0 q.2 q.3 (search rules) (search rules)

pub returns-then-share_carrier : goal.returns-then-share_carrier
returns-then-share_carrier c =
    let a = c.args in
    let q = c.requires in
    c.if-share_carrier.true
    ∙ one_carrier _ _ a.i a.there q.0 q.2 q.3 (search rules) (search rules)
    _ _ c.outline-x.ensures c.outline-y.ensures _ c.share_carrier.ensures c.if-share_carrier.true

pub returns-else-share_carrier : goal.returns-else-share_carrier
returns-else-share_carrier c =
    let a = c.args in
    let q = c.requires in
    c.meet.ensures
    ∙ by_outlines _ _ a.i a.there q.0 q.2 q.3 (search rules) (search rules)
    _ _ c.outline-x.ensures c.outline-y.ensures _ c.share_carrier.ensures c.if-share_carrier.false _ c.racking_at-r.ensures
