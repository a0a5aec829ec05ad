-- Which comparison fails. Assumes nothing.
use Rattle.std.proofs.Common.{rules, sym, ◌∙◌}
use Rattle.rewrite.proofs.Extents.{not_most, right_of, left_of, above}
use Rattle.rewrite.proofs.Extent.meets.Goals.{then-self-other, else-self-other, then-other-self, else-other-self}
use Rattle.rewrite.proofs.Extent.meets.Goals as goal

pub returns-else-self-other-2 : goal.returns-else-self-other-2
returns-else-self-other-2 c =
    let a = c.args.self in
    let b = c.args.other in
    c.if-self-other-2.false ∙ sym (elim c.if-other-self.branch [
      | then-other-self w ↦ above a b (sym w.value-is ∙ c.if-self-other-2.false)
      | else-other-self w ↦ elim c.if-self-other.branch [
        | then-self-other v ↦ left_of a b (not_most b.left a.right (search rules) (search rules) (sym v.value-is ∙ w.if-other-self.false))
        | else-self-other v ↦ right_of a b (not_most a.left b.right (search rules) (search rules) v.if-self-other.false)
      ]
    ])
