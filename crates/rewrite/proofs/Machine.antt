-- The machine that runs records by their bytes: what the theory of swaps (crate trace) asks for. Assumes nothing.
use borrow.Table.Steps.{cases}
use Prim.Native.Nat.{ℕ}
use mathlib.Core.Path.{◌≡◌}
use mathlib.Core.Bool.{true, cond, true≢false}
use mathlib.Core.List.{List}
use mathlib.Core.Option.{Option, none, some}
use lib.Dec.{eqb}
use borrow.Author.Tests.{eqb-true}
use Rattle.machine.specs.declared.Racking.{Racking}
use Rattle.machine.specs.declared.State.{State}
use Rattle.record.specs.declared.Record.{Record}
use Rattle.run.specs.Step.{number_at, apply_of}
use Rattle.trace.specs.Machine.{Machine}
use Rattle.rewrite.specs.Programs.{what}
use Rattle.rewrite.specs.Laid.{is_record}

-- the step of a record, where it has one
abbrev pub stepped : State → Record → Option State
stepped s x = cond (eqb (number_at s x) 0) (some (apply_of s x)) none

abbrev pub machine : Machine (List ℕ) Racking State
machine = record { step = λ s x. cond (is_record x) (stepped s (what x)) none; racking = λ s. s.racking }

-- what a step that is had says of its record
pub record Had (s t : State) (x : List ℕ) : Type 0 where
  pub is_one_record : is_record x ≡ true
  pub number : number_at s (what x) ≡ 0
  pub state : apply_of s (what x) ≡ t

pub had : (s t : State) (x : List ℕ) → machine.step s x ≡ some t → Had s t x
had s t x e =
    cases (is_record x)
    (λ w. cases (eqb (number_at s (what x)) 0)
    (λ n. record { is_one_record = w; number = eqb-true (number_at s (what x)) 0 n; state = cc })
    (λ n. absurd (true≢false (cc))))
    (λ w. absurd (true≢false (cc)))

-- the laws hold in every state
abbrev pub Good : State → Type 0
Good s = Unit {0}
