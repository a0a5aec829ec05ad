-- A fold: the most of the hooks so far. Assumes nothing.
use Rattle.std.proofs.Common.{rules, subst, ◌≡◌}
use Prim.Native.Nat.{max}
use Rattle.std.proofs.lemmas.Fn.{fold_over, slice_gives, fronts}
use Rattle.machine.specs.Looks.{Most}
use Rattle.machine.proofs.Scans.{most_none, most_push}
use Rattle.machine.proofs.most_loops.Goals as goal

pub returns : goal.returns
returns c = subst (λ l. Most l c.fold.result) c.iter.ensures.rest
    (fold_over fronts (λ y. y.now) _ Most _ (λ ys a x b f' j k. let e : b ≡ max a x.now = search rules in (most_push ys a x.now b e j, search rules))
    _ _ _ _ (slice_gives c.iter.result) most_none c.fold.ensures.ran)
