-- Byte by byte to the first that differs. Assumes nothing.
use Rattle.std.proofs.Common.{length, sym, ◌∙◌, arith}
use mathlib.Core.Logic.{inl, inr}
use borrow.Table.Steps.{cases}
use borrow.Author.Tests.{ltb-true, ltb-false}
use lib.Dec.{ltb}
use Rattle.house.proofs.Comparison.{agree, ends}
use Rattle.house.proofs.comes_first.Goals as goal

pub loop-i-preserved : goal.loop-i-preserved
loop-i-preserved c =
    let i = c.loop-i.i in let x = c.args.x.now in let y = c.args.y.now in
    sym (agree x y i (omega (arith, c.loop-i-test.true, c.min-i-end.ensures)) (omega (arith, c.loop-i-test.true, c.min-i-end.ensures)) c.if-x-i.false) ∙ c.loop-i.invariant

pub returns : goal.returns
returns c =
    let i = c.loop-i.i in let x = c.args.x.now in let y = c.args.y.now in
    let m = c.min-i-end.ensures in let t = c.loop-i-test.false in
    cases (ltb (length x) (length y))
    (λ s. let k = ltb-true (length x) (length y) s in ends x y i (omega (arith, t, m, k)) (omega (arith, t, m, k)) (inl (omega (arith, t, m, k))) ∙ c.loop-i.invariant)
    (λ s. let k = ltb-false (length x) (length y) s in ends x y i (omega (arith, t, m, k)) (omega (arith, t, m, k)) (inr (omega (arith, t, m, k))) ∙ c.loop-i.invariant)
