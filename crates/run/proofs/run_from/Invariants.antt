-- The run so far, and the rest of the program from the state so far, are the run of the program. Assumes nothing.
use Rattle.std.proofs.Common.{◌≡◌, ◌≤◌, ◌-◌, length, drop}
use Rattle.run.specs.Run.{run_from}
use Rattle.run.proofs.run_from.Given as goal

abbrev pub invariant-loop-at : goal.invariant-loop-at
invariant-loop-at l = (l.at ≤ length l.program) × (run_from 0 l.program 0 l.initial.state ≡ run_from 0 (drop l.at l.program) l.at l.state)

abbrev pub decreases-loop-at : goal.decreases-loop-at
decreases-loop-at l = length l.program - l.at
