-- A hook after another.
use native.Mathlib.Omega.{arith}
use Rattle.listing_text.specs.Text.{lines, hook_line}
use Rattle.listing_text.proofs.Adds.{nothing}
use Rattle.listing_text.proofs.Lines.{one_more}
use Rattle.listing_text.proofs.put_hooks.Goals as goal

pub loop-needle-init : goal.loop-needle-init
unfolding lines
loop-needle-init c = nothing c.args.text.now

pub loop-needle-preserved : goal.loop-needle-preserved
loop-needle-preserved c = one_more (hook_line c.args.bed) 0 0 c.args.loops.now c.loop-needle.needle c.loop-needle.needle (omega arith) (omega arith) c.loop-needle.invariant c.put_hook.ensures
