-- The house order's number and place at a limit; the place lies in a program. Assumes nothing.
use Rattle.std.proofs.Common.{◌∙◌}
use native.Mathlib.Omega.{arith}
use Rattle.house.proofs.Theorems.{order_place}
use Rattle.banthewig.specs.Entries.{packed}
use Rattle.banthewig.proofs.knitout_order_at.Goals as goal

pub word-requires : goal.word-requires
word-requires c = let k = c.args in omega (arith, c.outcome-e.ensures.answer.1, order_place k.limit k.program.now k.output.now k.work.now)

pub returns-clause-answer : goal.returns-clause-answer
unfolding packed
returns-clause-answer c = c.word.ensures ∙ simp (c.outcome-e.ensures.answer.0, c.outcome-e.ensures.answer.1)
