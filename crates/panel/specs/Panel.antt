-- The panel's services of document 01, 'Calls': the one-record step and the carrier list.
use Rattle.std.specs.Prelude.{ℕ, cond, List, ◌++◌, length, drop, eqb, ltb}
use Rattle.machine.specs.declared.Carrier.{Carrier}
use Rattle.machine.specs.declared.State.{State}
use Rattle.machine.specs.Range.{state_ok}
use Rattle.run.specs.declared.Stepped.{Stepped}
use Rattle.run.specs.Run.{step_of}
use Rattle.panel.specs.declared.Served.{Served}

-- ---- the one-record step
-- a foul state is kept, and not complete whatever its values (02, W4: 'no after 15'); its hooks are not walked over
abbrev pub fouled : State → Stepped
fouled s = record { number = 15; complete = 0; looked = 0; length = 0; state = s }

-- 15 (foul state) is looked at first, then 3 to 11, 16 and 17 by the step that the run makes; a refused call keeps the state
unfoldable pub panel_step : State → List ℕ → Stepped
panel_step s l = cond (state_ok s) (step_of s l) (fouled s)

-- ---- the carrier list
-- 15 first, then 2 (01: a carrier list under ten); length 10, or 0 if refused
unfoldable pub list_answer : State → ℕ → Served
list_answer s count =
    cond (state_ok s)
    (cond (ltb count 10) (record { number = 2; length = 0 }) (record { number = 0; length = 10 }))
    (record { number = 15; length = 0 })

-- the list afterwards: the first ten entries are carriers 1 to 10 and later ones keep their contents; a refused call writes nothing
unfoldable pub carrier_list : State → List Carrier → List Carrier
carrier_list s list = cond (eqb (list_answer s (length list)).number 0) (s.carriers ++ drop 10 list) list
