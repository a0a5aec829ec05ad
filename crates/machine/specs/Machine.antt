-- The machine of document 01, 'Machine': needles, carriers and the machine state (000, Definition 5.3: r, L, and Y with A as the carriers).
use Rattle.std.specs.Prelude.{ℕ, ◌+◌, ◌-◌, ◌*◌, ◌<◌, Bool, true, ◌&&◌, not, cond, List, [], ◌∷◌, pos, eqb, get_or, replicate}
use Rattle.machine.specs.Limits.{bed_needles, hook_count, carrier_count}
use Rattle.machine.specs.Geometry.{eq_z}
use Rattle.machine.specs.declared.Needle.{Needle}
use Rattle.machine.specs.declared.Racking.{Racking}
use Rattle.machine.specs.declared.Carrier.{Carrier}
use Rattle.machine.specs.declared.State.{State}

-- a needle that the machine has: f.0 to f.249 and b.0 to b.249
pub record OnBed (n : Needle) : Type 0 where
  pub bed : n.0 < 2
  pub number : n.1 < bed_needles

unfoldable pub same_needle : Needle → Needle → Bool
same_needle a b = eqb a.0 b.0 && eqb a.1 b.1

-- an inactive carrier: 0 in every field
abbrev pub inactive : Carrier
inactive = record { active = 0; side = 0; slot = record { 0 = pos 0 }; needle = record { 0 = 0; 1 = 0 } }

-- racking 0, no loops and no active carrier; 02, W2: 'The empty state has the limit given'
unfoldable pub empty_state : ℕ → State
empty_state limit = record { racking = record { 0 = pos 0 }; loops = replicate hook_count 0; limit = limit; carriers = replicate carrier_count inactive }

-- the state of these parts; another with these parts, its limit kept
abbrev pub state_with : Racking → List ℕ → ℕ → List Carrier → State
state_with r l limit cs = record { racking = r; loops = l; limit = limit; carriers = cs }

abbrev pub changed : State → Racking → List ℕ → List Carrier → State
changed s r l cs = state_with r l s.limit cs

-- a needle's hook among the 500, and the loops on it
abbrev pub hook_of : Needle → ℕ
hook_of n = n.0 * bed_needles + n.1

abbrev pub loops_on : State → Needle → ℕ
loops_on s n = get_or s.loops (hook_of n) 0

-- carrier k, counted from 1
abbrev pub carrier_of : State → ℕ → Carrier
carrier_of s k = get_or s.carriers (k - 1) inactive

-- true of every element
unfoldable pub all : {A : Type 0} → (A → Bool) → List A → Bool
all p [] = true
all p (x ∷ l) = p x && all p l

-- the same of a statement
abbrev pub Each : {A : Type 0} → (A → Type 0) → List A → Type 0
Each P [] = Unit {0}
Each P (x ∷ l) = P x × Each P l

-- attached at a needle; an attachment at one needle goes to another, its side kept
unfoldable pub attached_at : Needle → Carrier → Bool
attached_at n c = not (eqb c.side 0) && same_needle c.needle n

unfoldable pub moved_to : Needle → Needle → Carrier → Carrier
moved_to from to c = cond (attached_at from c) (record { active = c.active; side = c.side; slot = c.slot; needle = to }) c

-- no loop on any hook; every carrier the inactive one, 0 in every field
abbrev pub no_loops : List ℕ → Bool
no_loops l = all (λ (n : ℕ). eqb n 0) l

unfoldable pub inactive_carrier : Carrier → Bool
inactive_carrier c = eqb c.active 0 && (eqb c.side 0 && (eq_z c.slot.0 (pos 0) && (eqb c.needle.0 0 && eqb c.needle.1 0)))

abbrev pub all_inactive : List Carrier → Bool
all_inactive l = all inactive_carrier l

-- complete: the state, of 500 hooks and ten carriers, is the empty one at its own limit
unfoldable pub complete_of : State → Bool
complete_of s = eq_z s.racking.0 (pos 0) && (no_loops s.loops && all_inactive s.carriers)
