-- The rewriter's call, put together: refused by its limit, by its lengths or by its run, or the program laid and its log replayed. Assumes nothing.
use borrow.Table.Steps.{cases}
use Prim.Native.Nat.{ℕ, ◌/◌, ◌≤◌, ◌<◌}
use mathlib.Core.Path.{◌≡◌, refl, sym, ap, subst, ◌∙◌}
use mathlib.Core.Bool.{Bool, true, false, ◌||◌, cond}
use mathlib.Core.List.{List, ◌++◌}
use native.Mathlib.Omega.{arith}
use lib.Dec.{eqb, leb, ltb}
use lib.ListN.{length, take, drop, length-append, length-drop}
use lib.Seq.{take_at, drop_at}
use borrow.Author.Tests.{eq-eqb, ne_eqb, eqb-true, leb-true, leb-false, lt-ltb, le-ltb, ltb-false}
use Rattle.machine.specs.Limits.{program_most, log_most}
use Rattle.machine.specs.Machine.{empty_state}
use Rattle.machine.specs.Range.{LimitInRange}
use Rattle.machine.proofs.Ranges.{limit_exactly, limit_cases, limit_out}
use Rattle.run.specs.declared.Answer.{Answer}
use Rattle.run.specs.Run.{reached, start_no, answer_limit, answer_of, run_of}
use Rattle.record.proofs.Shapes.{cond_cases}
use Rattle.run.proofs.Answers.{FullSize, answered, answer_size, empty_size}
use Rattle.run.proofs.Demand.{place_bound}
use Rattle.run.specs.declared.Ended.{Ended}
use Rattle.rewrite.specs.Programs.{flat, records_of, starts_of}
use Rattle.rewrite.specs.Rewrite.{ended, replay, lent_no, Rewritten, refused, written, rewrite_of}
use Rattle.rewrite.specs.Exact.{Enough}
use Rattle.rewrite.specs.Laid.{Sound, Laid, Marked}
use Rattle.rewrite.proofs.Records.{accepted_records, records_flat}
use Rattle.rewrite.proofs.Laying.{starts_length}
use Rattle.rewrite.proofs.Replays.{replay_moved, replay_within}

-- ---- the limit, then the lengths
module _ (limit program log output work : ℕ) where
  abbrev lent_here : ℕ
  lent_here = lent_no limit program log output work

  pub limit_bad : (LimitInRange limit → ⊥) → lent_here ≡ 15
  unfolding lent_no
  limit_bad b = simp (limit_out limit b)

  module _ (b : LimitInRange limit) where
    pub program_long : program_most < program → lent_here ≡ 1
    unfolding lent_no
    program_long h = simp ((limit_exactly limit).1 b, lt-ltb program_most program h)

    pub log_long : program ≤ program_most → log_most < log → lent_here ≡ 1
    unfolding lent_no
    log_long h i = simp ((limit_exactly limit).1 b, le-ltb program_most program h, lt-ltb log_most log i)

    module _ (h : program ≤ program_most) (i : log ≤ log_most) where
      pub output_short : output < program → lent_here ≡ 2
      unfolding lent_no
      output_short k = simp ((limit_exactly limit).1 b, le-ltb program_most program h, le-ltb log_most log i, lt-ltb output program k)

      pub work_short : program ≤ output → work < program / 2 → lent_here ≡ 2
      unfolding lent_no
      work_short k m =
          simp ((limit_exactly limit).1 b, le-ltb program_most program h, le-ltb log_most log i, le-ltb output program k, lt-ltb work (program / 2) m)

      pub all_enough : program ≤ output → program / 2 ≤ work → lent_here ≡ 0
      unfolding lent_no
      all_enough k m =
          simp ((limit_exactly limit).1 b, le-ltb program_most program h, le-ltb log_most log i, le-ltb output program k, le-ltb work (program / 2) m)

  -- 15 and 1 of the program are the run's own
  pub start_lent : (start_no limit program ≡ 0 → ⊥) → start_no limit program ≡ lent_here
  unfolding start_no
  start_lent d =
      limit_cases limit
      (λ b. cases (leb program program_most) (λ t. absurd (d (simp ((limit_exactly limit).1 b, t))))
      (λ t. simp ((limit_exactly limit).1 b, t) (sym (program_long b (leb-false program program_most t)))))
      (λ b. simp (limit_out limit b) (sym (limit_bad b)))

  pub started : start_no limit program ≡ 0 → LimitInRange limit × (program ≤ program_most)
  unfolding start_no
  started e =
      limit_cases limit
      (λ b. cases (leb program program_most) (λ t. (b, leb-true program program_most t)) (λ t. absurd (omega (arith, simp ((limit_exactly limit).1 b, t) at e))))
      (λ b. absurd (omega (arith, simp (limit_out limit b) at e)))

-- what 0 says
neither : (a b : Bool) {m n : ℕ} → (n ≡ 0 → ⊥) → cond (a || b) n m ≡ 0 → (a ≡ false) × (b ≡ false) × (m ≡ 0)
neither true b h e = absurd (h e)
neither false true h e = absurd (h e)
neither false false h e = (refl, refl, e)

pub all_lent : (limit program log output work : ℕ) → LimitInRange limit → Enough program log output work → lent_no limit program log output work ≡ 0
all_lent limit program log output work b e = all_enough limit program log output work b e.short e.log_short e.room e.entries

pub limit_lent : (limit program log output work : ℕ) → lent_no limit program log output work ≡ 0 → LimitInRange limit
limit_lent limit program log output work e = limit_cases limit (λ b. b) (λ d. absurd (omega (arith, limit_bad limit program log output work d, e)))

pub enough : (limit program log output work : ℕ) → lent_no limit program log output work ≡ 0 → Enough program log output work
unfolding lent_no
enough limit program log output work e =
    let ok = (limit_exactly limit).1 (limit_lent limit program log output work e) in
    let (a, b, f) = neither (ltb program_most program) (ltb log_most log) (λ q. omega arith) (simp ok at e) in
    let (c, d, g) = neither (ltb output program) (ltb work (program / 2)) (λ q. omega arith) f in
    record { short = ltb-false program_most program a; log_short = ltb-false log_most log b; room = ltb-false output program c; entries = ltb-false work (program / 2) d }

-- ---- the parts that are lent on
pub sound_run : (limit : ℕ) (p : List ℕ) → length p ≤ program_most → (run_of limit p).number ≡ 0 → Sound p
sound_run limit p h e = record { records = accepted_records limit p e; short = h }

-- the output after the copy
module _ (p output o : List ℕ) (h : length p ≤ length output) (joined : o ≡ p ++ drop (length p) output) where
  pub copy_front : take (length p) o ≡ p
  copy_front = ap (take (length p)) joined ∙ take_at p _ (length p) refl

  pub copy_past : drop (length p) o ≡ drop (length p) output
  copy_past = ap (drop (length p)) joined ∙ drop_at p _ (length p) refl

-- the work area after the starts
module _ (p work w : List ℕ) (n : ℕ) (e : n ≡ length (records_of p)) (written : w ≡ starts_of 0 (records_of p) ++ drop n work) where
  long : length (starts_of 0 (records_of p)) ≡ n
  long = starts_length 0 (records_of p) ∙ sym e

  pub starts_front : take n w ≡ starts_of 0 (records_of p)
  starts_front = ap (take n) written ∙ take_at (starts_of 0 (records_of p)) _ n long

  pub starts_past : drop n w ≡ drop n work
  starts_past = ap (drop n) written ∙ drop_at (starts_of 0 (records_of p)) _ n long

  pub starts_enough : n ≤ length w
  starts_enough = omega (arith, ap length written, length-append (starts_of 0 (records_of p)) (drop n work), long)

pub laid_parts : (p q v : List ℕ) → Sound p → q ≡ p → v ≡ starts_of 0 (records_of p) → Laid q v
laid_parts p q v s e f = rw (e, f) (record { sound = s; starts = refl })

pub marked_part : (p q table : List ℕ) → q ≡ p → Marked p table → Marked q table
marked_part p q table e m = subst (λ (o : List ℕ). Marked o table) (sym e) m

-- ---- the call
module _ (limit : ℕ) (p log output work : List ℕ) where
  abbrev number : ℕ
  number = lent_no limit (length p) (length log) (length output) (length work)

  abbrev call : Rewritten
  call = rewrite_of limit p log output work

  -- it ends in three ways
  pub lent_call : (number ≡ 0 → ⊥) → call ≡ refused (answer_of (reached number 0 (empty_state (answer_limit limit)))) output work
  unfolding rewrite_of
  lent_call d = simp (ne_eqb number 0 d)

  pub refused_call : number ≡ 0 → ((run_of limit p).number ≡ 0 → ⊥) → call ≡ refused (run_of limit p) output work
  unfolding rewrite_of
  refused_call z d = simp (eq-eqb number 0 z, ne_eqb (run_of limit p).number 0 d)

  pub written_call : number ≡ 0 → (run_of limit p).number ≡ 0 → call ≡ written limit p (replay log 0 (records_of p)) output work
  unfolding rewrite_of
  written_call z y = simp (eq-eqb number 0 z, eq-eqb (run_of limit p).number 0 y)

  -- what is answered and left
  pub record Gives (a : Answer) (q v : List ℕ) : Type 0 where
    pub answer : a ≡ call.answer
    pub bytes : q ≡ call.output
    pub starts : v ≡ call.work

  gives : (r : Rewritten) → call ≡ r → Gives r.answer r.output r.work
  gives r e = record { answer = sym (ap (λ (c : Rewritten). c.answer) e); bytes = sym (ap (λ (c : Rewritten). c.output) e); starts = sym (ap (λ (c : Rewritten). c.work) e) }

  pub gives_lent : (n : ℕ) (a : Answer) → n ≡ number → (n ≡ 0 → ⊥) → a ≡ answer_of (reached n 0 (empty_state (answer_limit limit))) → Gives a output work
  gives_lent n a e d f =
      let none : number ≡ 0 → ⊥ = λ q. d (e ∙ q) in
      subst (λ (b : Answer). Gives b output work) (sym (f ∙ ap (λ (k : ℕ). answer_of (reached k 0 (empty_state (answer_limit limit)))) e))
      (gives (refused (answer_of (reached number 0 (empty_state (answer_limit limit)))) output work) (lent_call none))

  module _ (lent : number ≡ 0) (a : Answer) (ran : a ≡ run_of limit p) where
    pub gives_refused : (a.number ≡ 0 → ⊥) → Gives a output work
    gives_refused d =
        let none : (run_of limit p).number ≡ 0 → ⊥ = λ q. d (ap (λ (b : Answer). b.number) ran ∙ q) in
        subst (λ (b : Answer). Gives b output work) (sym ran) (gives (refused (run_of limit p) output work) (refused_call lent none))

    pub gives_written : a.number ≡ 0 → (d : Ended) (q v o w : List ℕ) (n : ℕ) → n ≡ length (records_of p) → drop (length p) o ≡ drop (length p) output → drop n w ≡ drop n work
        → ended d.number d.place (replay log 0 (records_of p)).left ≡ replay log 0 (records_of p) → q ≡ flat (replay log 0 (records_of p)).left → v ≡ starts_of 0 (replay log 0 (records_of p)).left
        → Gives (record { number = d.number; place = d.place; complete = a.complete; state = a.state }) (q ++ drop (length p) o) (v ++ drop n w)
    gives_written z d q v o w n count past-o past-w e bytes starts =
        let r = replay log 0 (records_of p) in
        let done : (run_of limit p).number ≡ 0 = sym (ap (λ (b : Answer). b.number) ran) ∙ z in
        let g = gives (written limit p r output work) (written_call lent done) in
        let m : n ≡ length r.left = count ∙ sym (replay_moved log 0 (records_of p)).records in
        record {
          answer = (λ i. record { number = (e i).number; place = (e i).place; complete = (ran i).complete; state = (ran i).state }) ∙ g.answer;
          bytes = (λ i. bytes i ++ past-o i) ∙ g.bytes;
          starts = (λ i. starts i ++ (past-w ∙ ap (λ (k : ℕ). drop k work) m) i) ∙ g.starts;
        }

  -- what holds of the three ways in which a call ends holds of it
  by_call : (P : Rewritten → Type 0) → (number ≡ 0 → P (written limit p (replay log 0 (records_of p)) output work)) → P (refused (run_of limit p) output work)
      → P (refused (answer_of (reached number 0 (empty_state (answer_limit limit)))) output work) → P call
  unfolding rewrite_of
  by_call P f g h =
      cond_cases P (eqb number 0) (λ z. cond_cases P (eqb (run_of limit p).number 0) (λ y. f (eqb-true number 0 z)) (λ y. g)) (λ z. h)

  -- a place lies within a program or a log
  pub place_small : call.answer.place < program_most
  unfolding answer_of
  place_small =
      by_call (λ (r : Rewritten). r.answer.place < program_most)
      (λ z. replay_within program_most (omega arith) log 0 (records_of p) (omega (arith, (enough limit (length p) (length log) (length output) (length work) z).log_short)))
      (place_bound limit p) (omega arith)

  -- its state has 500 hooks and ten carriers
  pub state_size : FullSize call.answer.state
  unfolding answer_of
  state_size = by_call (λ (r : Rewritten). FullSize r.answer.state) (λ z. answer_size (answered limit p)) (answer_size (answered limit p)) (empty_size (answer_limit limit))

  -- and its output is as long as before
  pub output_length : length call.output ≡ length output
  output_length = by_call (λ (r : Rewritten). length r.output ≡ length output) whole_output refl refl
    where
      whole_output : number ≡ 0 → length (flat (replay log 0 (records_of p)).left ++ drop (length p) output) ≡ length output
      whole_output z =
          let m = (replay log 0 (records_of p)).left in
          omega (arith, length-append (flat m) (drop (length p) output), length-drop (length p) output, (replay_moved log 0 (records_of p)).bytes, ap length (records_flat p), (enough limit (length p) (length log) (length output) (length work) z).room)
