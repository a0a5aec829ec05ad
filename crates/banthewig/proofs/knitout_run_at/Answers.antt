-- The run's number and place at a limit; the place lies in a program. Assumes nothing.
use Rattle.std.proofs.Common.{◌∙◌}
use native.Mathlib.Omega.{arith}
use Rattle.run.proofs.Demand.{place_bound}
use Rattle.banthewig.specs.Entries.{packed}
use Rattle.banthewig.proofs.knitout_run_at.Goals as goal

pub word-requires : goal.word-requires
word-requires c = omega (arith, c.outcome-a.ensures.1, place_bound c.args.limit c.args.program.now)

pub returns : goal.returns
unfolding packed
returns c = c.word.ensures ∙ simp (c.outcome-a.ensures.0, c.outcome-a.ensures.1)
