-- One half column, or three. Assumes nothing.
use Rattle.std.proofs.Common.{rules}
use Rattle.rewrite.proofs.HalfColumns.{half_fits, left_fits, extent_is}
use Rattle.rewrite.proofs.columns.Goals as goal

pub overflow_add-h : goal.overflow_add-h
overflow_add-h c = let a = c.args in half_fits a.n a.r c.column-z.result c.column-z.ensures (search rules) (search rules)

pub overflow_sub-result : goal.overflow_sub-result
overflow_sub-result c = let a = c.args in left_fits a.n a.r c.column-z.result c.column-z.ensures (search rules) (search rules) a.beside _ c.from-reach.ensures

pub returns : goal.returns
returns c = let a = c.args in extent_is a.n a.r c.column-z.result c.column-z.ensures (search rules) (search rules) a.beside _ c.from-reach.ensures a.low a.high
