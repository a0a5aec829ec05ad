-- On from the last mark. Assumes nothing.
use Rattle.std.proofs.Common.{arith, ℤ, w8, ◌*◌, ◌/◌, ap, ◌∙◌}
use Rattle.machine.proofs.Signed.{back}
use Rattle.rewrite.specs.Programs.{records_of}
use Rattle.rewrite.proofs.Laying.{records_short}
use Rattle.rewrite.proofs.Rackings.{racked, rack_on}
use Rattle.rewrite.proofs.View.racking_at.Goals as goal

pub bounds-self-j : goal.bounds-self-j
bounds-self-j c = omega (arith, c.requires.1.long, c.requires.2, records_short c.args.self.program.now c.requires.0.sound)

pub returns : goal.returns
returns c =
    let i = c.args.i in
    ap (λ (z : ℤ). record { 0 = z }) (back w8 c.signed.result c.signed.type_inv ∙ c.signed.ensures)
    ∙ ap racked (rack_on (records_of c.args.self.program.now) (i / 64 * 64) i _ _ (omega arith) (c.requires.1.marks (i / 64) (omega (arith, c.requires.2))) c.racking_after-b.ensures)
