-- What is claimed of the panel's step besides what each call gives: that it is the run's step, that it tells after each record what the run so far tells,
-- that 15 tells of a fault, and what it does with a rack.
use Rattle.std.specs.Prelude.{ℕ, ◌≤◌, ◌≡◌, List, ◌∷◌, ◌++◌, ◌↔◌, length}
use Rattle.machine.specs.declared.State.{State}
use Rattle.machine.specs.Limits.{program_most}
use Rattle.machine.specs.Range.{StateInRange}
use Rattle.record.specs.Kinds.{RACK}
use Rattle.record.specs.Format.{signed_of}
use Rattle.run.specs.Relation.{Valid}
use Rattle.run.specs.Run.{one_if, told, run_of, step_of}
use Rattle.run.specs.Claims.{BeginsStretching, StepsAreTheRun, StepsAreOne}
use Rattle.panel.specs.Panel.{panel_step}

-- from a state in range the service is the step that the run makes
abbrev pub ServiceIsStep : Type 0
ServiceIsStep = (s : State) (l : List ℕ) → StateInRange s → panel_step s l ≡ step_of s l

-- no state that the run or the service gives is foul, unless a foul one was lent
abbrev pub RunNotFoul : Type 0
RunNotFoul = (limit : ℕ) (p l : List ℕ) → (panel_step (run_of limit p).state l).number ≡ 15 → ⊥

abbrev pub ServiceNotFoul : Type 0
ServiceNotFoul = (s : State) (l m : List ℕ) → ((panel_step s l).number ≡ 15 → ⊥) → (panel_step (panel_step s l).state m).number ≡ 15 → ⊥

-- 02, W2: the limit is 'kept by every step', and by a refused one, whatever state is lent
abbrev pub ServiceKeepsLimit : Type 0
ServiceKeepsLimit = (s : State) (l : List ℕ) → (panel_step s l).state.limit ≡ s.limit

-- a program's records served one by one from the empty state at a limit give the run's answer there, and no other
abbrev pub ServedAsRun : Type 0
ServedAsRun = StepsAreTheRun panel_step

abbrev pub ServedOneWay : Type 0
ServedOneWay = StepsAreOne panel_step

-- 02, W4: 'The panel needs complete after every record': behind a valid program a record that has its step tells what the run of both tells
abbrev pub TellsAsRun : Type 0
TellsAsRun =
    (limit : ℕ) (p bytes rest : List ℕ) (s : State) → Valid limit p s → length (p ++ bytes) ≤ program_most
    → (panel_step s (bytes ++ rest)).number ≡ 0 → (panel_step s (bytes ++ rest)).length ≡ length bytes
    → (panel_step s (bytes ++ rest)).complete ≡ one_if (run_of limit (p ++ bytes)).complete

-- a refused one, what the run tells of the state that it ended in
abbrev pub RefusedTellsAsRun : Type 0
RefusedTellsAsRun = (limit : ℕ) (p l : List ℕ) → ((panel_step (run_of limit p).state l).number ≡ 0 → ⊥) → (panel_step (run_of limit p).state l).complete ≡ one_if (run_of limit p).complete

-- 'for the state it leaves', from whatever state: what a step tells, a refused one behind it tells again
abbrev pub TellsAgain : Type 0
TellsAgain =
    (s : State) (l m : List ℕ) → ((panel_step s l).number ≡ 15 → ⊥) → ((panel_step (panel_step s l).state m).number ≡ 0 → ⊥)
    → (panel_step (panel_step s l).state m).complete ≡ (panel_step s l).complete

-- 02, W5: 'A rack to the current value therefore always passes': from every state that is not foul, also where a distance is over 20 already, it is done and
-- leaves the state as it is
abbrev pub ServesCurrentRack : Type 0
ServesCurrentRack = (s : State) (b : ℕ) (rest : List ℕ) → StateInRange s → signed_of b ≡ s.racking.0 → panel_step s (RACK ∷ b ∷ rest) ≡ told 0 2 s

-- and from every such state 17 comes of a rack that stretches a yarn, and of nothing else
abbrev pub ServedStretchedExactly : Type 0
ServedStretchedExactly = (s : State) (l : List ℕ) → StateInRange s → ((panel_step s l).number ≡ 17) ↔ BeginsStretching s l
