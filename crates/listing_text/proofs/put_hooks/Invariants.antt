-- A hook after another.
use Rattle.std.proofs.Common.{take}
use Rattle.listing_text.specs.Adds.{Adds}
use Rattle.listing_text.specs.Text.{hook_lines}
use Rattle.listing_text.proofs.put_hooks.Given as goal

abbrev pub invariant-loop-needle : goal.invariant-loop-needle
invariant-loop-needle l = Adds l.initial.text (hook_lines l.bed (take l.needle l.loops)) l.text
