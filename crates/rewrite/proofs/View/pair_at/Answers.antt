-- The two starts, and the end of the second by its kind. Assumes nothing.
use Rattle.std.proofs.Common.{arith}
use Rattle.rewrite.proofs.Laying.{records_short, work_length}
use Rattle.rewrite.proofs.Pairs.{two, pair_ends, pair_is, placed}
use Rattle.rewrite.proofs.View.pair_at.Goals as goal

pub start-first-requires : goal.start-first-requires
start-first-requires c = omega (arith, c.requires.1, work_length c.args.self.program.now c.args.self.starts.now c.requires.0)

pub overflow_add-i : goal.overflow_add-i
overflow_add-i c = omega (arith, c.requires.1, records_short c.args.self.program.now c.requires.0.sound)

pub start-second-requires : goal.start-second-requires
start-second-requires c = omega (arith, c.requires.1, work_length c.args.self.program.now c.args.self.starts.now c.requires.0)

pub bounds-self-second : goal.bounds-self-second
bounds-self-second c = let p = c.args.self.program.now in let s = two p c.requires.0.sound c.args.i c.requires.1 in
    omega (arith, c.start-second.ensures p c.requires.0, s.ends, s.sized.least)

pub overflow_add-end : goal.overflow_add-end
overflow_add-end c = let p = c.args.self.program.now in let g = c.requires.0 in
    omega (arith, pair_ends p g.sound c.args.i c.requires.1 _ _ _ (c.start-first.ensures p g) (c.start-second.ensures p g) c.size_of.ensures, g.sound.short)

pub returns : goal.returns
returns c = let p = c.args.self.program.now in let g = c.requires.0 in
    let e = pair_is p g.sound c.args.i c.requires.1 _ _ _ (c.start-first.ensures p g) (c.start-second.ensures p g) c.size_of.ensures in
    (e, placed p g.sound c.args.i c.requires.1 _ e)
