-- The services' answers by what was looked at: the state's range, then the count. Assumes nothing.
use Prim.Native.Nat.{ℕ, ◌≤◌, ◌<◌}
use mathlib.Core.Path.{◌≡◌, ap}
use mathlib.Core.Bool.{true, false}
use mathlib.Core.List.{List}
use borrow.Author.Tests.{lt-ltb, le-ltb}
use Rattle.machine.specs.declared.State.{State}
use Rattle.machine.specs.Range.{state_ok}
use Rattle.run.specs.Run.{step_of}
use Rattle.panel.specs.declared.Served.{Served}
use Rattle.panel.specs.Panel.{fouled, panel_step, list_answer}

module _ (s : State) (l : List ℕ) where
  pub foul_step : state_ok s ≡ false → fouled s ≡ panel_step s l
  unfolding panel_step
  foul_step e = simp e

  pub fine_step : state_ok s ≡ true → step_of s l ≡ panel_step s l
  unfolding panel_step
  fine_step e = simp e

module _ (s : State) (n : ℕ) where
  pub foul_list : state_ok s ≡ false → list_answer s n ≡ record { number = 15; length = 0 }
  unfolding list_answer
  foul_list e = simp e

  module _ (e : state_ok s ≡ true) where
    pub short_list : n < 10 → list_answer s n ≡ record { number = 2; length = 0 }
    unfolding list_answer
    short_list h = simp (e, lt-ltb n 10 h)

    pub long_list : 10 ≤ n → list_answer s n ≡ record { number = 0; length = 10 }
    unfolding list_answer
    long_list h = simp (e, le-ltb n 10 h)

pub list_number : {a b : Served} → a ≡ b → a.number ≡ b.number
list_number e = ap (λ (a : Served). a.number) e
