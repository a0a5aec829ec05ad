-- A mark, then the 64 records up to the next. Assumes nothing.
use Rattle.std.proofs.Common.{arith, ◌≡◌, ◌+◌, ◌/◌, refl, subst, ◌∙◌}
use Rattle.rewrite.specs.Programs.{records_of}
use Rattle.rewrite.proofs.Laying.{work_length, work_short}
use Rattle.rewrite.proofs.Rackings.{MarkedUpto, none_marked, one_more, all_marked, rack_none, rack_on}
use Rattle.rewrite.proofs.marks.Goals.{then-i-n, else-i-n}
use Rattle.rewrite.proofs.marks.Goals as goal

pub loop-i-init : goal.loop-i-init
loop-i-init c = record {
  marked = none_marked c.args.program.now c.args.table.now c.requires.1;
  strides = refl;
  byte = λ h. rack_none (records_of c.args.program.now);
}

pub bounds-table-i : goal.bounds-table-i
bounds-table-i c = omega (arith, c.loop-i.invariant.marked.long, work_short c.args.program.now c.args.work.now c.requires.0, c.loop-i-test.true)

pub racking_after-b-requires : goal.racking_after-b-requires
racking_after-b-requires c = (c.requires.0, omega arith, omega (arith, c.if-i-n.true, work_length c.args.program.now c.args.work.now c.requires.0))

pub loop-i-preserved : goal.loop-i-preserved
loop-i-preserved c =
    let p = c.args.program.now in
    let v = c.loop-i in
    let short = work_short p c.args.work.now c.requires.0 in
    let next : v.i / 64 + 1 ≡ (v.i + 64) / 64 = omega arith in
    record {
      marked = subst (MarkedUpto p _) next (one_more p v.table (v.i / 64) v.i v.b v.invariant.marked v.invariant.strides (omega (arith, short, c.loop-i-test.true)) (v.invariant.byte c.loop-i-test.true));
      strides = omega (arith, v.invariant.strides);
      byte = λ h. elim c.if-i-n.branch [
        | then-i-n w ↦ rack_on (records_of p) v.i (v.i + 64) v.b _ (omega arith) (v.invariant.byte c.loop-i-test.true) (w.b-is ∙ w.racking_after-b.ensures)
        | else-i-n w ↦ absurd (omega (arith, h, w.if-i-n.false))
      ];
    }

pub returns : goal.returns
returns c =
    let v = c.loop-i in
    all_marked c.args.program.now v.table (v.i / 64) v.invariant.marked
    (omega (arith, c.loop-i-test.false, v.invariant.strides, work_length c.args.program.now c.args.work.now c.requires.0))

pub returns-after-i-n : goal.returns-after-i-n
returns-after-i-n c =
    let p = c.args.program.now in
    let v = c.loop-i in
    all_marked p _ (v.i / 64 + 1)
    (one_more p v.table (v.i / 64) v.i v.b v.invariant.marked v.invariant.strides (omega (arith, work_short p c.args.work.now c.requires.0, c.loop-i-test.true)) (v.invariant.byte c.loop-i-test.true))
    (omega (arith, v.invariant.strides, work_length p c.args.work.now c.requires.0))
