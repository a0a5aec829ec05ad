-- A start for each record. Assumes nothing.
use Rattle.std.proofs.Common.{arith, ℕ, ◌+◌, sym, subst}
use Rattle.rewrite.proofs.Laying.{Upto, next_entry, all_written, next_size, upto_next, starts_next, past_next, starts_all}
use Rattle.rewrite.proofs.starts.Goals as goal

pub offset_bounds-work-n : goal.offset_bounds-work-n
offset_bounds-work-n c = let p = c.args.program.now in let v = c.loop-at in omega (arith, next_entry p c.requires.0 v.n v.at v.invariant.upto c.loop-at-test.true, c.requires.0.short)

pub bounds-work-n : goal.bounds-work-n
bounds-work-n c = let p = c.args.program.now in let v = c.loop-at in omega (arith, next_entry p c.requires.0 v.n v.at v.invariant.upto c.loop-at-test.true, c.requires.1, v.auto.work)

pub overflow_add-n : goal.overflow_add-n
overflow_add-n c = let p = c.args.program.now in let v = c.loop-at in omega (arith, next_entry p c.requires.0 v.n v.at v.invariant.upto c.loop-at-test.true, c.requires.0.short)

pub overflow_add-at : goal.overflow_add-at
overflow_add-at c = let v = c.loop-at in
    omega (arith, c.size_of-at.ensures, (next_size c.args.program.now c.requires.0 v.n v.at v.invariant.upto c.loop-at-test.true).1, c.requires.0.short, c.loop-at-test.true)

pub loop-at-smaller : goal.loop-at-smaller
loop-at-smaller c = let v = c.loop-at in
    omega (arith, c.size_of-at.ensures, (next_size c.args.program.now c.requires.0 v.n v.at v.invariant.upto c.loop-at-test.true).0, c.loop-at-test.true)

pub loop-at-preserved : goal.loop-at-preserved
loop-at-preserved c =
    let p = c.args.program.now in
    let v = c.loop-at in
    let u = v.invariant.upto in
    let i = c.loop-at-test.true in
    record {
      upto = subst (λ (z : ℕ). Upto p (v.n + 1) (v.at + z)) (sym c.size_of-at.ensures) (upto_next p c.requires.0 v.n v.at u i);
      written = starts_next p c.requires.0 v.n v.at u i v.work (omega (arith, next_entry p c.requires.0 v.n v.at u i, c.requires.1, v.auto.work)) v.invariant.written;
      kept = past_next v.work c.args.work.now v.n v.at v.invariant.kept;
    }

pub returns : goal.returns
returns c =
    let p = c.args.program.now in
    let v = c.loop-at in
    let e = all_written p c.requires.0 v.n v.at v.invariant.upto c.loop-at-test.false in
    (e, starts_all p v.work c.args.work.now v.n e v.invariant.written v.invariant.kept)
