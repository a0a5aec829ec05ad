-- The carriers so far have moved, and the rest have not. Assumes nothing.
use Rattle.std.proofs.Common.{◌≡◌, ◌++◌, map, take, drop}
use Rattle.machine.specs.Machine.{moved_to}
use Rattle.machine.proofs.attachments_moved.Given as goal

abbrev pub invariant-loop-c : goal.invariant-loop-c
invariant-loop-c l = l.carriers ≡ map (moved_to l.from l.to) (take l.c-index l.initial.carriers) ++ drop l.c-index l.initial.carriers
