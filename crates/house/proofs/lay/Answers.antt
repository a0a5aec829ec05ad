-- Record after record copied, and its start in place of the old one. Assumes nothing.
use Rattle.std.proofs.Common.{ℕ, List, length, sym, ap, subst, ◌∙◌, arith}
use Rattle.house.specs.Arranged.{record_in, Begins}
use Rattle.house.proofs.Writing.{output_long, begins, next_small, one_written, all_starts}
use Rattle.house.proofs.lay.Goals as goal

pub bytes_at-bytes-requires : goal.bytes_at-bytes-requires
bytes_at-bytes-requires c =
    let p = c.args.program.now in let v = c.loop-i in
    subst (Begins p) (sym c.place-a.ensures) (begins p c.args.output.now c.args.work.now c.requires.0 c.requires.1 v.output v.work v.at v.i v.invariant (omega (arith, v.invariant.long)))

pub slice_bounds-copy_from_slice-end : goal.slice_bounds-copy_from_slice-end
slice_bounds-copy_from_slice-end c =
    let p = c.args.program.now in let v = c.loop-i in
    let long = output_long p c.args.output.now c.args.work.now c.requires.0 c.requires.1 v.output v.work v.at v.i v.invariant in
    let small = next_small p c.args.output.now c.args.work.now c.requires.0 c.requires.1 v.output v.work v.at v.i v.invariant (omega (arith, v.invariant.long)) in
    let own = ap (λ (l : List ℕ). length l) (c.bytes_at-bytes.ensures ∙ ap (record_in p) c.place-a.ensures) in
    omega (arith, own, c.requires.1)

pub overflow_cast-work : goal.overflow_cast-work
overflow_cast-work c =
    let p = c.args.program.now in let v = c.loop-i in
    let small = next_small p c.args.output.now c.args.work.now c.requires.0 c.requires.1 v.output v.work v.at v.i v.invariant (omega (arith, v.invariant.long)) in
    omega (arith, c.requires.0.short)

pub loop-i-preserved : goal.loop-i-preserved
loop-i-preserved c =
    let p = c.args.program.now in let v = c.loop-i in
    let own = c.bytes_at-bytes.ensures ∙ ap (record_in p) c.place-a.ensures in
    let n = ap (λ (l : List ℕ). length l) own in
    one_written p c.args.output.now c.args.work.now c.requires.0 c.requires.1 v.output v.work v.at v.i v.invariant (omega (arith, v.invariant.long)) _ _ _
    (c.copy_from_slice.ensures.after ∙ own) (omega (arith, n)) (omega (arith, n))

pub returns-clause-starts : goal.returns-clause-starts
returns-clause-starts c =
    let v = c.loop-i in
    all_starts c.args.program.now c.args.output.now c.args.work.now c.requires.0 c.requires.1 v.output v.work v.at v.i v.invariant (omega (arith, v.invariant.long))
