-- Record after record, each put where it goes. Assumes nothing.
use Rattle.std.proofs.Common.{ℕ, ◌+◌, ◌<◌, List, ℤ, length, sym, ap, subst, ◌∙◌, arith, rules, w8}
use Rattle.machine.proofs.Signed.{back}
use Rattle.record.specs.Format.{byte}
use Rattle.rewrite.proofs.Rackings.{racked}
use Rattle.house.specs.Arranged.{Begins}
use Rattle.house.proofs.Places.{sized, begins_at}
use Rattle.house.proofs.Arranging.{InOrder, none_in_order, rack_done, other_done}
use Rattle.house.proofs.arrange.Goals as goal
use Rattle.house.proofs.arrange.Goals.{then-program-a-eq-RACK, else-program-a-eq-RACK}

pub loop-j-init : goal.loop-j-init
loop-j-init c = none_in_order c.args.program.now c.args.work.now c.requires

pub bounds-program-a : goal.bounds-program-a
bounds-program-a c =
    let p = c.args.program.now in let v = c.loop-j in
    let b = subst (Begins p) (sym c.place-a.ensures) (begins_at p v.work v.invariant.starts v.j (omega (arith, v.invariant.long))) in
    omega (arith, b.ends, (sized p c.place-a.result b).least)

pub bounds-program-a-then-program-a-eq-RACK : goal.bounds-program-a-then-program-a-eq-RACK
bounds-program-a-then-program-a-eq-RACK c =
    let p = c.args.program.now in let v = c.loop-j in
    let b = subst (Begins p) (sym c.place-a.ensures) (begins_at p v.work v.invariant.starts v.j (omega (arith, v.invariant.long))) in
    omega (arith, b.ends, (sized p c.place-a.result b).least)

pub loop-j-preserved : goal.loop-j-preserved
loop-j-preserved c =
    let p = c.args.program.now in let w = c.args.work.now in let v = c.loop-j in let a = c.place-a.ensures in
    let h : v.j < length v.work = omega (arith, v.invariant.long) in
    elim c.if-program-a-eq-RACK.branch [
      | then-program-a-eq-RACK u ↦ subst (λ (l : List ℕ). InOrder p w l c.if-program-a-eq-RACK.r (v.j + 1)) (sym u.work-is)
          (rack_done p w v.work v.r v.j v.invariant h c.requires c.if-program-a-eq-RACK.r (ap (byte p) (sym a) ∙ u.if-program-a-eq-RACK.true)
          (u.r-is ∙ ap (λ (z : ℤ). record { 0 = z }) (back w8 u.signed.result (search rules) ∙ u.signed.ensures) ∙ ap (λ (n : ℕ). racked (byte p (n + 1))) a))
      | else-program-a-eq-RACK u ↦ other_done p w v.work v.r v.j v.invariant h c.requires c.if-program-a-eq-RACK.work c.if-program-a-eq-RACK.r
          (λ q. u.if-program-a-eq-RACK.false (ap (byte p) a ∙ q)) (u.work-is ∙ u.settle.ensures) u.r-is
    ]
