-- A refused step keeps the state. Assumes nothing.
use Rattle.std.proofs.Common.{ap, sym, ◌∙◌}
use Rattle.run.specs.declared.Stepped.{Stepped}
use Rattle.panel.proofs.Demand.{refused_keeps}
use Rattle.banthewig.proofs.knitout_step.Goals as goal

pub returns-else-out-eq0-clause-state : goal.returns-else-out-eq0-clause-state
returns-else-out-eq0-clause-state c =
    sym (refused_keeps c.args.state.now c.args.bytes.now (λ z. c.if-out-eq0.false (ap (λ (s : Stepped). s.number) c.step-out.ensures ∙ z)))
