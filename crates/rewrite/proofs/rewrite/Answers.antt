-- Refused by its limit, its lengths or its run, or laid and replayed. Assumes nothing.
use Rattle.std.proofs.Common.{◌≡◌, ℕ, List, ◌++◌, Err, length, drop, refl, sym, ap, subst, ◌∙◌}
use lib.Seq.{length-take-le}
use Rattle.run.specs.declared.Answer.{Answer}
use Rattle.run.specs.Run.{run_of}
use Rattle.rewrite.specs.Programs.{flat, records_of, starts_of}
use Rattle.rewrite.specs.Rewrite.{Replay, ended, replay, lent_no}
use Rattle.rewrite.specs.Exact.{Enough}
use Rattle.rewrite.specs.Laid.{Sound}
use Rattle.rewrite.proofs.Logs.{told_some}
use Rattle.rewrite.proofs.Rewriting.{enough, sound_run, copy_front, copy_past, starts_front, starts_past, starts_enough, laid_parts, marked_part, gives_lent, gives_refused, gives_written}
use Rattle.rewrite.proofs.rewrite.Goals as goal

-- the program lies sound at the front of the output o, its starts at the front of the work area w
module _ (limit : ℕ) (p log output work : List ℕ) (lent : 0 ≡ lent_no limit (length p) (length log) (length output) (length work)) where
  lends : Enough (length p) (length log) (length output) (length work)
  lends = enough _ _ _ _ _ (sym lent)

  module _ (a : Answer) (ran : a ≡ run_of limit p) (done : a.number ≡ 0) where
    sound : Sound p
    sound = sound_run limit p lends.short (sym (ap (λ (b : Answer). b.number) ran) ∙ done)

pub returns-in-Err : goal.returns-in-Err
returns-in-Err c =
    let a = c.args in
    let g = gives_lent a.limit a.program.now a.log.now a.output.now a.work.now _ _ (c.number.ensures ∙ c.in-Err.ensures) (λ z. told_some {A = Unit {0}} (Err c.in-Err.why) refl (sym c.number.ensures ∙ z)) c.refused.ensures in
    record { answer = g.answer; bytes = g.bytes; starts = g.starts }

pub returns-then-a-ne0 : goal.returns-then-a-ne0
returns-then-a-ne0 c =
    let a = c.args in
    let g = gives_refused a.limit a.program.now a.log.now a.output.now a.work.now (sym c.in_default.ensures) c.run-a.result c.run-a.ensures c.if-a-ne0.true in
    record { answer = g.answer; bytes = g.bytes; starts = g.starts }

pub slice_bounds-copy_from_slice-end : goal.slice_bounds-copy_from_slice-end
slice_bounds-copy_from_slice-end c = (lends c.args.limit c.args.program.now c.args.log.now c.args.output.now c.args.work.now c.in_default.ensures).room

pub slice_bounds-copy_from_slice-end-2 : goal.slice_bounds-copy_from_slice-end-2
slice_bounds-copy_from_slice-end-2 c = sym (length-take-le _ _ (lends c.args.limit c.args.program.now c.args.log.now c.args.output.now c.args.work.now c.in_default.ensures).room)

pub copy_from_slice-requires : goal.copy_from_slice-requires
copy_from_slice-requires c = length-take-le _ _ (lends c.args.limit c.args.program.now c.args.log.now c.args.output.now c.args.work.now c.in_default.ensures).room

pub starts-count-requires : goal.starts-count-requires
starts-count-requires c =
    let a = c.args in (
      sound a.limit a.program.now a.log.now a.output.now a.work.now c.in_default.ensures c.run-a.result c.run-a.ensures c.if-a-ne0.false,
      (lends a.limit a.program.now a.log.now a.output.now a.work.now c.in_default.ensures).entries,
    )

pub slice_bounds-marks-end : goal.slice_bounds-marks-end
slice_bounds-marks-end c = let s = c.starts-count in starts_enough c.args.program.now c.args.work.now _ s.result s.ensures.0 s.ensures.1

pub slice_bounds-marks-end-2 : goal.slice_bounds-marks-end-2
slice_bounds-marks-end-2 c = let s = c.starts-count in sym (length-take-le _ _ (starts_enough c.args.program.now c.args.work.now _ s.result s.ensures.0 s.ensures.1))

pub marks-requires : goal.marks-requires
marks-requires c =
    let a = c.args in
    let s = c.starts-count in
    (laid_parts _ _ _ (sound a.limit a.program.now a.log.now a.output.now a.work.now c.in_default.ensures c.run-a.result c.run-a.ensures c.if-a-ne0.false) refl (starts_front a.program.now a.work.now _ s.result s.ensures.0 s.ensures.1), refl)

pub slice_bounds-replay-end-3 : goal.slice_bounds-replay-end-3
slice_bounds-replay-end-3 c = let s = c.starts-count in starts_enough c.args.program.now c.args.work.now _ s.result s.ensures.0 s.ensures.1

pub slice_bounds-replay-end-4 : goal.slice_bounds-replay-end-4
slice_bounds-replay-end-4 c = let s = c.starts-count in sym (length-take-le _ _ (starts_enough c.args.program.now c.args.work.now _ s.result s.ensures.0 s.ensures.1))

-- the output once the program is copied to its front
copied : (p q output : List ℕ) → q ≡ p → q ++ drop (length p) output ≡ p ++ drop (length p) output
copied p q output e = ap (λ (q : List ℕ). q ++ drop (length p) output) e

pub replay-requires : goal.replay-requires
replay-requires c =
    let a = c.args in
    let p = a.program.now in
    let s = c.starts-count in
    let room = (lends a.limit p a.log.now a.output.now a.work.now c.in_default.ensures).room in
    let front = copy_front p a.output.now _ room (copied p _ a.output.now c.copy_from_slice.ensures.after) in
    (laid_parts _ _ _ (sound a.limit p a.log.now a.output.now a.work.now c.in_default.ensures c.run-a.result c.run-a.ensures c.if-a-ne0.false) front (starts_front p a.work.now _ s.result s.ensures.0 s.ensures.1), marked_part _ _ _ front c.marks.ensures)

pub returns : goal.returns
returns c =
    let a = c.args in
    let p = a.program.now in
    let s = c.starts-count in
    let d = c.replay in
    let room = (lends a.limit p a.log.now a.output.now a.work.now c.in_default.ensures).room in
    let joined = copied p _ a.output.now c.copy_from_slice.ensures.after in
    let same = ap (λ (q : List ℕ). replay a.log.now 0 (records_of q)) (copy_front p a.output.now _ room joined) in
    let g = gives_written a.limit p a.log.now a.output.now a.work.now (sym c.in_default.ensures) c.run-a.result c.run-a.ensures c.if-a-ne0.false
    c.end_of-d.result d.new.output d.new.work _ _ s.result s.ensures.0 (copy_past p a.output.now _ room joined) (starts_past p a.work.now _ s.result s.ensures.0 s.ensures.1)
    (subst (λ (r : Replay). ended c.end_of-d.result.number c.end_of-d.result.place r.left ≡ r) same (c.end_of-d.ensures _ ∙ d.ensures.stopped))
    (d.ensures.bytes ∙ ap (λ (r : Replay). flat r.left) same) (d.ensures.starts ∙ ap (λ (r : Replay). starts_of 0 r.left) same) in
    record { answer = g.answer; bytes = g.bytes; starts = g.starts }
