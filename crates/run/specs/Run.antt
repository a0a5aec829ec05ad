-- The step of the first record of a slice, and the run of a program's bytes, which goes by that step, as definitions that compute.
use Rattle.std.specs.Prelude.{ℕ, zero, suc, ◌+◌, ◌-◌, ◌≤◌, Bool, cond, List, [], ◌∷◌, length, eqb, ltb, leb, Result, Ok, Err}
use Rattle.machine.specs.declared.State.{State}
use Rattle.machine.specs.Limits.{carrier_count, limit_most, program_most}
use Rattle.machine.specs.Machine.{OnBed, empty_state, complete_of}
use Rattle.machine.specs.Range.{limit_ok}
use Rattle.machine.specs.Refusals.{number_of}
use Rattle.machine.specs.Walk.{hooks_looked}
use Rattle.record.specs.declared.Record.{Record}
use Rattle.record.specs.Kinds.{RACK, IN, PLATED_TUCK, PLATED_KNIT, size_of}
use Rattle.record.specs.Format.{byte, decode_of}
use Rattle.run.specs.declared.Stop.{Stop}
use Rattle.run.specs.declared.Answer.{Answer}
use Rattle.run.specs.declared.Stepped.{Stepped}
use Rattle.run.specs.Step.{number_at, apply_of}

-- where a run stopped: the refusal's number and the record's start, or 0 and 0, and the state
pub record Reached : Type 0 where
  pub number : ℕ
  pub place : ℕ
  pub state : State

abbrev pub reached : ℕ → ℕ → State → Reached
reached n at s = record { number = n; place = at; state = s }

-- 1 if so, else 0
abbrev pub one_if : Bool → ℕ
one_if c = cond c 1 0

-- what a step gives: number, length, state, whether that state is the empty one (02, W4: 'The one-record step now gives it too, for the state it
-- leaves and that state's limit'), and the hooks that were looked at for it
abbrev pub told : ℕ → ℕ → State → Stepped
told n long s = record { number = n; complete = one_if (complete_of s); looked = hooks_looked s.racking s.loops; length = long; state = s }

-- a step that is refused: length 0 and the state kept
abbrev pub stay : ℕ → State → Stepped
stay n s = told n 0 s

-- the step of the first record of a slice: number, complete, the hooks looked at, the record's length (0 if refused), state
unfoldable pub step_of : State → List ℕ → Stepped
step_of s l =
    cond (eqb (decode_of l).number 0)
    (cond (eqb (number_at s (decode_of l).what) 0)
    (told 0 (decode_of l).size (apply_of s (decode_of l).what))
    (stay (number_at s (decode_of l).what) s))
    (stay (decode_of l).number s)

-- a step in a run: the run ends at a refused one, and else goes on
unfoldable pub turn : Stepped → Reached → ℕ → Reached
turn t rest at = cond (eqb t.number 0) rest (reached t.number at t.state)

-- the run from a state over a list that stands at a place, after k bytes that are passed over: a step, and the run from behind its record
unfoldable pub run_from : ℕ → List ℕ → ℕ → State → Reached
run_from k [] at s = reached 0 0 s
run_from (suc k) (b ∷ l) at s = run_from k l at s
run_from zero (b ∷ l) at s =
    turn (step_of s (b ∷ l)) (run_from ((step_of s (b ∷ l)).length - 1) l (at + (step_of s (b ∷ l)).length) (step_of s (b ∷ l)).state) at

-- an answer says besides whether its state is the empty one at its limit
unfoldable pub answer_of : Reached → Answer
answer_of r = record { number = r.number; place = r.place; complete = complete_of r.state; state = r.state }

-- 15, 'before everything else', then 1 (too long), or 0: by the limit given and the program's length
unfoldable pub start_no : ℕ → ℕ → ℕ
start_no limit long = cond (limit_ok limit) (cond (leb long program_most) 0 1) 15

-- the limit of the state in which a call starts, or is refused: the one given, and for a bad one 'the empty state of limit 8'
unfoldable pub answer_limit : ℕ → ℕ
answer_limit limit = cond (limit_ok limit) limit limit_most

abbrev pub reached_of : ℕ → List ℕ → Reached
reached_of limit p =
    cond (eqb (start_no limit (length p)) 0) (run_from 0 p 0 (empty_state (answer_limit limit)))
    (reached (start_no limit (length p)) 0 (empty_state (answer_limit limit)))

unfoldable pub run_of : ℕ → List ℕ → Answer
run_of limit p = answer_of (reached_of limit p)

-- ---- what the code's step and its loop go by
-- the bytes of a slice's first record, or as many of them as there are; of an unknown kind the one byte
unfoldable pub front_of : List ℕ → ℕ
front_of l = cond (eqb (length l) 0) 0 (cond (eqb (size_of (byte l 0)) 0) 1 (cond (ltb (length l) (size_of (byte l 0))) (length l) (size_of (byte l 0))))

-- the fields of a record that bytes encode, as far as the step goes by them
pub record Fits (x : Record) : Type 0 where
  pub kind_low : RACK ≤ x.kind
  pub kind_high : x.kind ≤ PLATED_KNIT
  pub at_bed : OnBed x.at
  pub to_bed : OnBed x.to
  pub carrier_low : IN ≤ x.kind → 1 ≤ x.carrier
  pub carrier_high : x.carrier ≤ carrier_count
  pub second_low : PLATED_TUCK ≤ x.kind → 1 ≤ x.second
  pub second_high : x.second ≤ carrier_count

-- the state after a record: as it was where the record has no step
abbrev pub after_of : State → Record → State
after_of s x = cond (eqb (number_at s x) 0) (apply_of s x) s

-- where the loop ended, with the state that it was lent
abbrev pub ended : Result ℕ Stop → State → Reached
ended (Ok _) s = reached 0 0 s
ended (Err stop) s = reached (number_of stop.why) stop.place s
