-- Three copies. Assumes nothing.
use Rattle.rewrite.proofs.Rotations.{turned_by_copies}
use Rattle.rewrite.proofs.rotate.Goals as goal

pub returns : goal.returns
returns c =
    turned_by_copies c.args.part.now _ c.copy_from_slice.new.self c.copy_from_slice-2.new.self c.copy_from_slice-3.new.self c.args.k c.requires.0
    c.copy_from_slice.ensures.after c.copy_from_slice-2.ensures.after c.copy_from_slice-3.ensures.after
