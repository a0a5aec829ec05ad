-- Demand 2 at each hook limit: the run in one statement against the validity relation, what follows from it, and the step. The code's `run` equals run_of
-- and its `step` equals step_of by their contracts.
use Rattle.std.specs.Prelude.{ℕ, ◌+◌, ◌≤◌, ◌<◌, ◌≡◌, Bool, true, false, List, [], ◌∷◌, ◌++◌, ◌↔◌, ◌⊎◌, length, take, drop}
use Rattle.machine.specs.declared.Needle.{Needle}
use Rattle.machine.specs.declared.Racking.{Racking}
use Rattle.machine.specs.declared.Carrier.{Carrier}
use Rattle.machine.specs.declared.State.{State}
use Rattle.machine.specs.Limits.{limit_most, program_most}
use Rattle.machine.specs.Machine.{empty_state, carrier_of, complete_of}
use Rattle.machine.specs.Range.{LimitInRange, StateInRange}
use Rattle.machine.specs.Walk.{hooks_looked}
use Rattle.machine.specs.Geometry.{column_of, exit_of}
use Rattle.machine.specs.Stretch.{attachment_slot, distance_of}
use Rattle.record.specs.declared.Record.{Record}
use Rattle.record.specs.Kinds.{RACK, size_of}
use Rattle.record.specs.Format.{Encodes, byte, fields_ok}
use Rattle.run.specs.declared.Answer.{Answer}
use Rattle.run.specs.Run.{Reached}
use Rattle.run.specs.declared.Stepped.{Stepped}
use Rattle.run.specs.Relation.{Active, Attached, Step, Steps, Valid, Stretches, attached}
use Rattle.run.specs.Reason.{Whole, Stretched, Reason, First}
use Rattle.run.specs.Run.{reached, one_if, told, stay, step_of, run_of, answer_of}

-- ---- the run in one statement
-- no record that the bytes begin with has a step
abbrev pub NoStep : State → List ℕ → Type 0
NoStep s l = (bytes rest : List ℕ) (x : Record) (t : State) → l ≡ bytes ++ rest → Encodes bytes x → Step s x t → ⊥

-- the first record that has no step, and the first reason that holds
pub record FirstRefusal (limit : ℕ) (p : List ℕ) (a : Answer) : Type 0 where
  -- there is something at the place
  pub within : a.place < length p
  -- the records before it have their steps, and the state is the one they end in
  pub before : Steps (empty_state limit) (take a.place p) a.state
  pub no_step : NoStep a.state (drop a.place p)
  pub first : First a.number a.state (drop a.place p)

-- 'whether that state is the empty one (complete)'; 02, W2: 'The empty state has the limit given, and complete compares against that'
abbrev pub Complete : Bool → State → Type 0
Complete c t = (c ≡ true) ↔ (t ≡ empty_state t.limit)

-- what is an answer to a limit and a program, by the ways in which a run ends: 15, 'before everything else, with the empty state of limit 8, complete';
-- 1 (too long); 0 (done), with the relation's final state; 3 to 11, 16 and 17
pub data Answers (limit : ℕ) (p : List ℕ) : Answer → Type 0 where
  bad_limit : (LimitInRange limit → ⊥) → Answers limit p (record { number = 15; place = 0; complete = true; state = empty_state limit_most })
  too_long : LimitInRange limit → program_most < length p → Answers limit p (record { number = 1; place = 0; complete = true; state = empty_state limit })
  done : {t : State} {c : Bool} → Valid limit p t → Complete c t → Answers limit p (record { number = 0; place = 0; complete = c; state = t })
  refused : {a : Answer} → LimitInRange limit → length p ≤ program_most → FirstRefusal limit p a → Complete a.complete a.state → Answers limit p a

-- the run gives such an answer, and no other one is
abbrev pub RunExactly : Type 0
RunExactly = (limit : ℕ) (p : List ℕ) (a : Answer) → (run_of limit p ≡ a) ↔ Answers limit p a

-- ---- rows 3 to 5 of the table, which go by lengths and ranges, held against the format
-- a kind is known exactly if some record begins with it
abbrev pub KnownExactly : Type 0
KnownExactly = (k : ℕ) → (size_of k ≡ 0 → ⊥) ↔ ((body : List ℕ) × (x : Record) × Encodes (k ∷ body) x)

-- 'a body whose length the kind fixes': the length of a record is its kind's
abbrev pub SizeExactly : Type 0
SizeExactly = (bytes : List ℕ) (x : Record) → Encodes bytes x → length bytes ≡ size_of (byte bytes 0)

-- of bytes with a known kind and a whole body, a field is outside its range exactly if no record stands at the front
abbrev pub FieldExactly : Type 0
FieldExactly = (l : List ℕ) → Whole l → (fields_ok l ≡ false) ↔ ((bytes rest : List ℕ) (x : Record) → l ≡ bytes ++ rest → Encodes bytes x → ⊥)

-- ---- what follows of the run, sentence by sentence
-- the run accepts a program at a limit exactly if it is valid there
abbrev pub AcceptsExactlyValid : Type 0
AcceptsExactlyValid = (limit : ℕ) (p : List ℕ) → ((run_of limit p).number ≡ 0) ↔ ((t : State) × Valid limit p t)

-- and then gives the relation's final racking, loops, parking and attachments, at place 0
pub record Done (t : State) (a : Answer) : Type 0 where
  pub number : a.number ≡ 0
  pub place : a.place ≡ 0
  pub state : a.state ≡ t

abbrev pub GivesFinalState : Type 0
GivesFinalState = (limit : ℕ) (p : List ℕ) (t : State) → Valid limit p t → Done t (run_of limit p)

-- a limit out of range gets 15, and only such a limit
abbrev pub BadLimitExactly : Type 0
BadLimitExactly = (limit : ℕ) (p : List ℕ) → ((run_of limit p).number ≡ 15) ↔ (LimitInRange limit → ⊥)

-- at a limit in range a program that is too long gets 1, and only such a program; place 0, the empty state
abbrev pub TooLongExactly : Type 0
TooLongExactly = (limit : ℕ) (p : List ℕ) → LimitInRange limit → ((run_of limit p).number ≡ 1) ↔ (program_most < length p)

abbrev pub TooLongAnswer : Type 0
TooLongAnswer =
    (limit : ℕ) (p : List ℕ) → LimitInRange limit → program_most < length p
    → run_of limit p ≡ record { number = 1; place = 0; complete = true; state = empty_state limit }

-- otherwise it names the first record that has no step, and the first reason that holds
abbrev pub RefusesFirst : Type 0
RefusesFirst = (limit : ℕ) (p : List ℕ) → LimitInRange limit → length p ≤ program_most → ((run_of limit p).number ≡ 0 → ⊥) → FirstRefusal limit p (run_of limit p)

-- nothing is left to choose: number, place and state of a first refusal are the run's
abbrev pub RefusalIsOne : Type 0
RefusalIsOne =
    (limit : ℕ) (p : List ℕ) (a : Answer) → LimitInRange limit → length p ≤ program_most → FirstRefusal limit p a
    → ((run_of limit p).number ≡ a.number) × ((run_of limit p).place ≡ a.place) × ((run_of limit p).state ≡ a.state)

-- a reason holds exactly where there is no step
abbrev pub ReasonExactlyNoStep : Type 0
ReasonExactlyNoStep = (s : State) (l : List ℕ) → ((n : ℕ) × Reason n s l) ↔ NoStep s l

-- a place lies within the longest program, so that number and place go into one word
abbrev pub PlaceIsSmall : Type 0
PlaceIsSmall = (limit : ℕ) (p : List ℕ) → (run_of limit p).place < program_most

-- complete, whatever the number
abbrev pub CompleteIsEmpty : Type 0
CompleteIsEmpty = (limit : ℕ) (p : List ℕ) → Complete (run_of limit p).complete (run_of limit p).state

-- ---- the limit
-- 02, W2: 'given when a run starts and kept by every step'
abbrev pub StepKeepsLimit : Type 0
StepKeepsLimit = (s t : State) (x : Record) → Step s x t → t.limit ≡ s.limit

-- so every answer's state has the limit given, or 8 after 15
abbrev pub RunKeepsLimit : Type 0
RunKeepsLimit =
    (limit : ℕ) (p : List ℕ) → (LimitInRange limit → (run_of limit p).state.limit ≡ limit) × ((LimitInRange limit → ⊥) → (run_of limit p).state.limit ≡ limit_most)

-- a state at another limit
abbrev pub at_limit : ℕ → State → State
at_limit limit s = record { racking = s.racking; loops = s.loops; limit = limit; carriers = s.carriers }

-- a program that is valid at a limit is valid at every greater one, with the same final state but for the limit
abbrev pub ValidAtGreater : Type 0
ValidAtGreater = (m n : ℕ) (p : List ℕ) (t : State) → Valid m p t → m ≤ n → n ≤ limit_most → Valid n p (at_limit n t)

-- and at a smaller one it is valid or stops at a full hook: no other number comes of the limit
abbrev pub AtAnotherLimit : Type 0
AtAnotherLimit = (m n : ℕ) (p : List ℕ) (t : State) → Valid m p t → LimitInRange n → ((run_of n p).number ≡ 0) ⊎ (((run_of n p).number ≡ 11) × (n < m))

-- ---- racks
-- 02, W5: 'A rack to the current value therefore always passes': from every state it has its step, which changes nothing
abbrev pub CurrentRackSteps : Type 0
CurrentRackSteps = (s : State) (x : Record) → x.kind ≡ RACK → x.racking ≡ s.racking → Step s x s

-- the rule said of what passes: from every state a rack has its step exactly if each parked and attached carrier's attachment ends at most 20 slots away, or no
-- further than it was, also where that is over 20 already
abbrev pub RackExactly : Type 0
RackExactly =
    (s : State) (x : Record) → x.kind ≡ RACK
    → ((t : State) × Step s x t)
    ↔ ((k : ℕ) → Active (carrier_of s k) → Attached (carrier_of s k)
    → (distance_of x.racking (carrier_of s k) ≤ 20) ⊎ (distance_of x.racking (carrier_of s k) ≤ distance_of s.racking (carrier_of s k)))

-- a carrier that has formed a loop is parked at its attachment's slot
abbrev pub LoopAtItsSlot : Type 0
LoopAtItsSlot = (r : Racking) (n : Needle) (right : Bool) → attachment_slot r (attached (exit_of (column_of n r) right) n right) ≡ exit_of (column_of n r) right

-- a carrier that is attached in front is as far at every racking, and no rack stretches its yarn
abbrev pub FrontStays : Type 0
FrontStays = (r z : Racking) (c : Carrier) → c.needle.0 ≡ 0 → (distance_of r c ≡ distance_of z c) × (Stretches r z c → ⊥)

-- the bytes begin with a rack that stretches a yarn
abbrev pub BeginsStretching : State → List ℕ → Type 0
BeginsStretching s l = (bytes : List ℕ) × (rest : List ℕ) × (x : Record) × (l ≡ bytes ++ rest) × Encodes bytes x × Stretched s x

-- from every state the step is refused with 17 exactly then
abbrev pub StretchedExactly : Type 0
StretchedExactly = (s : State) (l : List ℕ) → ((step_of s l).number ≡ 17) ↔ BeginsStretching s l

-- ---- the step of one record
-- the bytes begin with a record that has a step
abbrev pub HasStep : State → List ℕ → Type 0
HasStep s l = (bytes : List ℕ) × (rest : List ℕ) × (x : Record) × (t : State) × (l ≡ bytes ++ rest) × Encodes bytes x × Step s x t

-- the step accepts a slice exactly if it begins with such a record
abbrev pub StepAcceptsExactly : Type 0
StepAcceptsExactly = (s : State) (l : List ℕ) → ((step_of s l).number ≡ 0) ↔ HasStep s l

-- and then gives that record's length and the relation's state, and tells whether that is complete
abbrev pub StepGives : Type 0
StepGives =
    (s : State) (bytes rest : List ℕ) (x : Record) (t : State) → Encodes bytes x → Step s x t
    → step_of s (bytes ++ rest) ≡ told 0 (length bytes) t

-- otherwise it gives the first reason, length 0 and the same state, and tells whether that is complete
pub record StepRefusal (s : State) (l : List ℕ) (a : Stepped) : Type 0 where
  pub complete : a.complete ≡ one_if (complete_of s)
  pub looked : a.looked ≡ hooks_looked s.racking s.loops
  pub length : a.length ≡ 0
  pub state : a.state ≡ s
  pub no_step : NoStep s l
  pub first : First a.number s l

abbrev pub StepRefuses : Type 0
StepRefuses = (s : State) (l : List ℕ) → ((step_of s l).number ≡ 0 → ⊥) → StepRefusal s l (step_of s l)

-- every state that the run gives is in range, refused or done, and a step keeps a state in range: none of them gets 15
abbrev pub RunInRange : Type 0
RunInRange = (limit : ℕ) (p : List ℕ) → StateInRange (run_of limit p).state

abbrev pub StepInRange : Type 0
StepInRange = (s : State) (l : List ℕ) → StateInRange s → StateInRange (step_of s l).state

-- a program stepped record by record by a service: each call is lent the rest of the bytes and the state as the last one left it,
-- until there are none left or one is refused; the place is counted on
module _ (service : State → List ℕ → Stepped) where
  pub data Stepwise : State → List ℕ → ℕ → Reached → Type 0 where
    ended : {s : State} {at : ℕ} → Stepwise s [] at (reached 0 0 s)
    refused : {s : State} {l : List ℕ} {at : ℕ} → 0 < length l → ((service s l).number ≡ 0 → ⊥)
        → Stepwise s l at (reached (service s l).number at (service s l).state)
    next : {s : State} {l : List ℕ} {at : ℕ} {r : Reached} → 0 < length l → (service s l).number ≡ 0
        → Stepwise (service s l).state (drop (service s l).length l) (at + (service s l).length) r → Stepwise s l at r

-- stepped from the empty state at a limit, a program that is not too long gives the run's answer there, and no other
abbrev pub StepsAreTheRun : (State → List ℕ → Stepped) → Type 0
StepsAreTheRun service =
    (limit : ℕ) (p : List ℕ) → LimitInRange limit → length p ≤ program_most → (r : Reached) × Stepwise service (empty_state limit) p 0 r × (run_of limit p ≡ answer_of r)

abbrev pub StepsAreOne : (State → List ℕ → Stepped) → Type 0
StepsAreOne service =
    (limit : ℕ) (p : List ℕ) (r : Reached) → LimitInRange limit → length p ≤ program_most → Stepwise service (empty_state limit) p 0 r → run_of limit p ≡ answer_of r

-- which a service that refuses everything does not do
abbrev pub RefuserIsNotTheRun : Type 0
RefuserIsNotTheRun = StepsAreTheRun (λ s l. stay 15 s) → ⊥
