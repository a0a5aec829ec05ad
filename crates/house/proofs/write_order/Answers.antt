-- Starts, put in order and laid. Assumes nothing.
use Rattle.std.proofs.Common.{sym, subst}
use lib.Seq.{length-take-le}
use Rattle.house.specs.Arranged.{Starts}
use Rattle.house.proofs.Ordering.{part_fits, part_starts, back_front, back_fits, laid_bytes, laid_starts}
use Rattle.house.proofs.write_order.Goals as goal

pub slice_bounds-arrange-end : goal.slice_bounds-arrange-end
slice_bounds-arrange-end c = part_fits c.args.program.now c.args.work.now _ _ c.requires.0 c.starts-count.ensures.0 c.starts-count.ensures.1

pub slice_bounds-arrange-end-2 : goal.slice_bounds-arrange-end-2
slice_bounds-arrange-end-2 c = sym (length-take-le _ _ (part_fits c.args.program.now c.args.work.now _ _ c.requires.0 c.starts-count.ensures.0 c.starts-count.ensures.1))

pub arrange-requires : goal.arrange-requires
arrange-requires c = part_starts c.args.program.now c.args.work.now _ _ c.requires.0 c.starts-count.ensures.0 c.starts-count.ensures.1

pub slice_bounds-lay-end : goal.slice_bounds-lay-end
slice_bounds-lay-end c = back_fits c.args.program.now c.args.work.now _ _ c.requires.0 c.starts-count.ensures.0 c.starts-count.ensures.1 _ c.arrange.ensures.1

pub slice_bounds-lay-end-2 : goal.slice_bounds-lay-end-2
slice_bounds-lay-end-2 c = sym (length-take-le _ _ (back_fits c.args.program.now c.args.work.now _ _ c.requires.0 c.starts-count.ensures.0 c.starts-count.ensures.1 _ c.arrange.ensures.1))

pub lay-requires : goal.lay-requires
lay-requires c =
    (subst (Starts c.args.program.now) (sym (back_front c.args.program.now c.args.work.now _ _ c.requires.0 c.starts-count.ensures.0 c.starts-count.ensures.1 _ c.arrange.ensures.1)) c.arrange.ensures.0, c.requires.1)

pub returns-clause-bytes : goal.returns-clause-bytes
returns-clause-bytes c = laid_bytes c.args.program.now c.args.work.now _ _ c.requires.0 c.starts-count.ensures.0 c.starts-count.ensures.1 _ c.arrange.ensures.1 c.args.output.now _ c.lay.ensures.bytes

pub returns-clause-starts : goal.returns-clause-starts
returns-clause-starts c = laid_starts c.args.program.now c.args.work.now _ _ c.requires.0 c.starts-count.ensures.0 c.starts-count.ensures.1 _ c.arrange.ensures.1 _ c.lay.ensures.starts
