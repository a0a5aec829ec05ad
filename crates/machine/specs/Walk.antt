-- The walk over the hooks of 02, W4, which decides whether there is a loop and counts the hooks looked at.
use Rattle.std.specs.Prelude.{ℕ, suc, ◌≡◌, true, false, cond, List, [], ◌∷◌, ◌++◌, ◌↔◌, pos, length, eqb}
use Rattle.machine.specs.declared.Walked.{Walked}
use Rattle.machine.specs.declared.Racking.{Racking}
use Rattle.machine.specs.Geometry.{eq_z}
use Rattle.machine.specs.Machine.{Each, no_loops}

-- as a reader holds it against 02: 'the walk (front first, upward) should end at the first loop found and also answer how many hooks it looked at, that
-- one included, all if there is none' (a state's hooks are listed front first, upward)
pub data Walks (l : List ℕ) : Walked → Type 0 where
  found : (before : List ℕ) (n : ℕ) (after : List ℕ) → l ≡ before ++ n ∷ after → Each (λ (m : ℕ). m ≡ 0) before → (n ≡ 0 → ⊥)
      → Walks l (record { none = false; looked = suc (length before) })
  none : Each (λ (m : ℕ). m ≡ 0) l → Walks l (record { none = true; looked = length l })

-- as definitions that compute, which the contract cites
unfoldable pub looked_at : List ℕ → ℕ
looked_at [] = 0
looked_at (n ∷ l) = suc (cond (eqb n 0) (looked_at l) 0)

unfoldable pub walk_of : List ℕ → Walked
walk_of l = record { none = no_loops l; looked = looked_at l }

-- the hooks that a look whether a state is the empty one looks at: the racking comes first, and the walk is made where that is 0
unfoldable pub hooks_looked : Racking → List ℕ → ℕ
hooks_looked r l = cond (eq_z r.0 (pos 0)) (looked_at l) 0

-- for loops of any length the walk answers so, and in no other way
abbrev pub WalkExactly : Type 0
WalkExactly = (l : List ℕ) (w : Walked) → (walk_of l ≡ w) ↔ Walks l w
