-- The rewriter as a definition that computes (document 01, 'Calls'), which its contract cites: answer, output and work area, for every limit, program, log and loan.
use Rattle.std.specs.Prelude.{ℕ, zero, suc, ◌+◌, ◌-◌, ◌/◌, Bool, cond, ◌||◌, List, [], ◌∷◌, ◌++◌, eqb, ltb, pos, length, drop}
use Rattle.machine.specs.declared.Racking.{Racking}
use Rattle.machine.specs.Limits.{program_most, log_most}
use Rattle.machine.specs.Machine.{empty_state}
use Rattle.machine.specs.Range.{limit_ok}
use Rattle.run.specs.declared.Answer.{Answer}
use Rattle.run.specs.Run.{reached, answer_limit, answer_of, run_of}
use Rattle.trace.specs.Swaps.{Outcome, no_pair, is_tied, made, swap_at}
use Rattle.rewrite.specs.Programs.{flat, records_of, starts_of, log_record_size, swap_kind, position_of, knitting}

-- racking 0, where every program starts
abbrev pub racking_zero : Racking
racking_zero = record { 0 = pos 0 }

-- a swap of records i and i + 1 of a program
abbrev pub swap_of : ℕ → List (List ℕ) → Outcome (List ℕ)
swap_of i l = swap_at knitting racking_zero i l

-- where a log ended: 0 and 0, or the number and place of the log record that was refused; and the records as the swaps made left them
pub record Replay : Type 0 where
  pub number : ℕ
  pub place : ℕ
  pub left : List (List ℕ)

abbrev pub ended : ℕ → ℕ → List (List ℕ) → Replay
ended n at l = record { number = n; place = at; left = l }

-- 12 (no pair), 13 (tied), or on with the swap made
abbrev pub on_outcome : Outcome (List ℕ) → ℕ → List (List ℕ) → (List (List ℕ) → Replay) → Replay
on_outcome no_pair at l more = ended 12 at l
on_outcome is_tied at l more = ended 13 at l
on_outcome (made m) at l more = more m

-- what a log record is read as: torn, or a swap of records i and i + 1
pub data LogRecord : Type 0 where
  Torn : LogRecord
  Swap : ℕ → LogRecord

-- the log record that bytes begin with; another kind, or fewer than three bytes, is torn
abbrev pub log_record_of : List ℕ → LogRecord
log_record_of [] = Torn
log_record_of (k ∷ []) = Torn
log_record_of (k ∷ high ∷ []) = Torn
log_record_of (k ∷ high ∷ low ∷ rest) = cond (eqb k swap_kind) (Swap (position_of high low)) Torn

-- 14 (torn log), or what its swap does
abbrev pub on_record : LogRecord → ℕ → List (List ℕ) → (List (List ℕ) → Replay) → Replay
on_record Torn at l more = ended 14 at l
on_record (Swap i) at l more = on_outcome (swap_of i l) at l more

-- 'makes the swaps in order': a log that stands at a place, of which the first bytes are skipped that a log record before has read
unfoldable pub replay_from : ℕ → List ℕ → ℕ → List (List ℕ) → Replay
replay_from skip [] at l = ended 0 0 l
replay_from zero (k ∷ log) at l = on_record (log_record_of (k ∷ log)) at l (λ m. replay_from (log_record_size - 1) log (at + log_record_size) m)
replay_from (suc skip) (k ∷ log) at l = replay_from skip log at l

abbrev pub replay : List ℕ → ℕ → List (List ℕ) → Replay
replay log at l = replay_from 0 log at l

-- 15 for a bad limit, 'before everything else' (02, W2); then 1 (too long), 2 (01: no bench), or 0, by the lengths of program, log, output and work area
unfoldable pub lent_no : ℕ → ℕ → ℕ → ℕ → ℕ → ℕ
lent_no limit program log output work =
    cond (limit_ok limit)
    (cond (ltb program_most program || ltb log_most log) 1
    (cond (ltb output program || ltb work (program / 2)) 2 0))
    15

-- what a call gives and leaves
pub record Rewritten : Type 0 where
  pub answer : Answer
  pub output : List ℕ
  pub work : List ℕ

-- the numbers that write (01: 'Numbers 1 to 11 and 15 write nothing', 02: nor do 16 and 17): done, no pair, tied, torn log
unfoldable pub writes : ℕ → Bool
writes n = eqb n 0 || (eqb n 12 || (eqb n 13 || eqb n 14))

-- all others write nothing
abbrev pub refused : Answer → List ℕ → List ℕ → Rewritten
refused a output work = record { answer = a; output = output; work = work }

-- 0 and 12 to 14: the program's final state at the limit; the records at the front of the output, their starts at the front of the work area, the rest kept
abbrev pub written : ℕ → List ℕ → Replay → List ℕ → List ℕ → Rewritten
written limit program r output work =
    record {
      answer = record { number = r.number; place = r.place; complete = (run_of limit program).complete; state = (run_of limit program).state };
      output = flat r.left ++ drop (length program) output;
      work = starts_of 0 r.left ++ drop (length r.left) work;
    }

unfoldable pub rewrite_of : ℕ → List ℕ → List ℕ → List ℕ → List ℕ → Rewritten
rewrite_of limit program log output work =
    cond (eqb (lent_no limit (length program) (length log) (length output) (length work)) 0)
    (cond (eqb (run_of limit program).number 0)
    (written limit program (replay log 0 (records_of program)) output work)
    (refused (run_of limit program) output work))
    (refused (answer_of (reached (lent_no limit (length program) (length log) (length output) (length work)) 0 (empty_state (answer_limit limit)))) output work)
