-- The rewriter's number and place at a limit; the place lies in a program. Assumes nothing.
use Rattle.std.proofs.Common.{ap, ◌∙◌}
use native.Mathlib.Omega.{arith}
use Rattle.run.specs.declared.Answer.{Answer}
use Rattle.rewrite.proofs.Demand.{place_bound}
use Rattle.banthewig.specs.Entries.{packed}
use Rattle.banthewig.proofs.knitout_rewrite_at.Goals as goal

pub word-requires : goal.word-requires
word-requires c = let k = c.args in
    omega (arith, ap (λ (a : Answer). a.place) c.rewrite-a.ensures.answer, place_bound k.limit k.program.now k.log.now k.output.now k.work.now)

pub returns-clause-answer : goal.returns-clause-answer
unfolding packed
returns-clause-answer c = c.word.ensures ∙ ap packed c.rewrite-a.ensures.answer
