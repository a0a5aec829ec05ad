-- The record's own bytes, by its kind's length. Assumes nothing.
use Rattle.std.proofs.Common.{ℕ, ◌+◌, ap, ◌∙◌, arith}
use Rattle.house.proofs.Places.{sized, size_in, part_in}
use Rattle.house.proofs.bytes_at.Goals as goal

pub bounds-program-a : goal.bounds-program-a
bounds-program-a c = omega (arith, c.requires.ends, (sized c.args.program.now c.args.a c.requires).least)

pub overflow_add-result : goal.overflow_add-result
overflow_add-result c = omega (arith, c.size_of.ensures, size_in c.args.program.now c.args.a c.requires, (sized c.args.program.now c.args.a c.requires).most, c.requires.ends)

pub slice_bounds-result-end : goal.slice_bounds-result-end
slice_bounds-result-end c = omega (arith, c.size_of.ensures, size_in c.args.program.now c.args.a c.requires, c.requires.ends)

pub returns : goal.returns
returns c = part_in c.args.program.now c.args.a c.requires _ (ap (λ (n : ℕ). c.args.a + n) (c.size_of.ensures ∙ size_in c.args.program.now c.args.a c.requires))
