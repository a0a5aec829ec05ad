-- The panel's services in one statement each: every way a call can end, in document 01's words, and that a call ends so and in no other way.
use Rattle.std.specs.Prelude.{ℕ, ◌-◌, ◌≤◌, ◌<◌, ◌≡◌, List, ◌++◌, ◌↔◌, pos, length, get_or}
use Rattle.machine.specs.declared.Carrier.{Carrier}
use Rattle.machine.specs.declared.Walked.{Walked}
use Rattle.machine.specs.declared.State.{State}
use Rattle.machine.specs.Limits.{hook_count, carrier_count}
use Rattle.machine.specs.Machine.{empty_state, inactive, carrier_of}
use Rattle.machine.specs.Range.{StateInRange}
use Rattle.machine.specs.Walk.{Walks}
use Rattle.record.specs.declared.Record.{Record}
use Rattle.record.specs.Format.{Encodes}
use Rattle.run.specs.declared.Stepped.{Stepped}
use Rattle.run.specs.Relation.{Step}
use Rattle.run.specs.Reason.{First}
use Rattle.run.specs.Claims.{NoStep}
use Rattle.panel.specs.declared.Served.{Served}
use Rattle.panel.specs.Panel.{panel_step, list_answer, carrier_list}

-- ---- the one-record step: number, complete, the hooks looked at, the record's length, the lent state afterwards
-- 02, W4: complete 'for the state it leaves and that state's limit': 1 if that state is the empty one there, else 0
pub data Tells (t : State) : ℕ → Type 0 where
  complete : t ≡ empty_state t.limit → Tells t 1
  incomplete : (t ≡ empty_state t.limit → ⊥) → Tells t 0

-- 'the walk (front first, upward) should end at the first loop found and also answer how many hooks it looked at': it is made where the racking is 0, since
-- another one settles the matter
pub data Looks (t : State) : ℕ → Type 0 where
  walked : t.racking.0 ≡ pos 0 → (w : Walked) → Walks t.loops w → Looks t w.looked
  unwalked : (t.racking.0 ≡ pos 0 → ⊥) → Looks t 0

-- 01: '15 is looked at first, then 3 to 11', 02: 16 and 17 'after 5'; refused, it leaves its loan untouched and gives length 0; 'no after 15'
pub data Serves (s : State) (l : List ℕ) : Stepped → Type 0 where
  -- a foul state, whatever the bytes
  foul : (StateInRange s → ⊥) → Serves s l (record { number = 15; complete = 0; looked = 0; length = 0; state = s })
  -- the bytes begin with a record that has a step
  done : StateInRange s → (bytes rest : List ℕ) (x : Record) (t : State) → l ≡ bytes ++ rest → Encodes bytes x → Step s x t → (c : ℕ) → Tells t c → (k : ℕ) → Looks t k
      → Serves s l (record { number = 0; complete = c; looked = k; length = length bytes; state = t })
  -- they do not: the first reason
  refused : StateInRange s → NoStep s l → (n : ℕ) → First n s l → (c : ℕ) → Tells s c → (k : ℕ) → Looks s k
      → Serves s l (record { number = n; complete = c; looked = k; length = 0; state = s })

-- (every state in memory has 500 hooks and ten carriers: `state_lengths` of crate banthewig; the definitions take lists of any length, and call shorter ones of
-- nothing but 0 complete too)
abbrev pub StepExactly : Type 0
StepExactly = (s : State) (l : List ℕ) (a : Stepped) → length s.loops ≡ hook_count → length s.carriers ≡ carrier_count → (panel_step s l ≡ a) ↔ Serves s l a

-- ---- the carrier list: number and length, the lent list afterwards
-- 'the first ten become carriers 1 to 10 of a machine state handed to it, later ones keep their contents'
pub record Listed (s : State) (list after : List Carrier) : Type 0 where
  pub long : length after ≡ length list
  pub carriers : (k : ℕ) → 1 ≤ k → k ≤ 10 → get_or after (k - 1) inactive ≡ carrier_of s k
  pub later : (i : ℕ) → 10 ≤ i → get_or after i inactive ≡ get_or list i inactive

-- '15 is looked at first, then 2', a carrier list under ten; refused, it leaves its loan untouched and gives length 0
pub data Lists (s : State) (list : List Carrier) : Served → List Carrier → Type 0 where
  foul : (StateInRange s → ⊥) → Lists s list (record { number = 15; length = 0 }) list
  short : StateInRange s → length list < 10 → Lists s list (record { number = 2; length = 0 }) list
  done : StateInRange s → 10 ≤ length list → (after : List Carrier) → Listed s list after → Lists s list (record { number = 0; length = 10 }) after

abbrev pub ListExactly : Type 0
ListExactly =
    (s : State) (list : List Carrier) (a : Served) (after : List Carrier) → length s.carriers ≡ 10
    → ((list_answer s (length list) ≡ a) × (carrier_list s list ≡ after)) ↔ Lists s list a after
