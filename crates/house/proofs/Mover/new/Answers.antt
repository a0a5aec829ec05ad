-- A needle's number is small. Assumes nothing.
use Rattle.house.proofs.Looks.{needle_small}
use Rattle.house.proofs.Mover.new.Goals as goal

pub within-requires : goal.within-requires
within-requires c = needle_small c.args.program.now c.args.at _ c.requires.0 c.outline_at-outline.ensures
