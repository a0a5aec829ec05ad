-- The part turned is the entry moved. Assumes nothing.
use Rattle.std.proofs.Common.{◌≡◌, ℕ, ◌+◌, refl, ap, ◌∙◌}
use Rattle.house.specs.Arranged.{tied_up_to, greater_from, spot_at, moved}
use Rattle.house.proofs.Moves.{part_moved}
use Rattle.house.proofs.settle.Goals as goal

pub returns : goal.returns
returns c =
    let p = c.args.program.now in let w = c.args.work.now in let j = c.args.j in
    let k = c.before-k.result in
    let e : k ≡ spot_at p w j c.args.r =
    c.before-k.ensures.0 ∙ ap (λ (i : ℕ). greater_from p w i j c.args.r) (c.behind-i.ensures ∙ ap (tied_up_to p w j) c.new-own.ensures.2) in
    part_moved w k j c.before-k.ensures.1 c.requires.1 (j + 1) _ refl c.rotate_right.ensures.after ∙ ap (λ (n : ℕ). moved w n j) e
