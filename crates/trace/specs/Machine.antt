-- Machines that run lists of records, the laws that are asked of one, and what swaps are to keep.
use Rattle.std.specs.Prelude.{◌≡◌, Bool, true, false, List, [], ◌∷◌}
use Rattle.std.proofs.Math.Option.{Option, none, some}
use Rattle.trace.specs.Lists.{keep}
use Rattle.trace.specs.Records.{Records, tied}
use Rattle.trace.specs.Order.{SameRecords, SameOrder}

-- the operations: a step, which a record may not have, and the racking of a state
pub record Machine (A R S : Type 0) : Type 0 where
  pub step : S → A → Option S
  pub racking : S → R

-- a step after one that may have failed
abbrev pub and_then : {S : Type 0} → Option S → (S → Option S) → Option S
and_then none f = none
and_then (some s) f = f s

module _ {A R S : Type 0} (M : Machine A R S) where
  -- each record 'has its step in turn'
  abbrev pub run : S → List A → Option S
  run s [] = some s
  run s (x ∷ l) = and_then (M.step s x) (λ t. run t l)

  -- the list is valid from s: its run ends, and e 'is the one they end in', the final state
  abbrev pub Ends : S → List A → S → Type 0
  Ends s l e = run s l ≡ some e

module _ {A R S N : Type 0} (K : Records A R) (M : Machine A R S) (names : N → A → Bool) where
  -- the laws, asked in good states
  pub record Orderly (Good : S → Type 0) : Type 0 where
    -- a step from a good state ends in one
    pub good_step : (s t : S) (x : A) → Good s → M.step s x ≡ some t → Good t
    -- the racking of the state is the one that the records leave
    pub racking_step : (s t : S) (x : A) → M.step s x ≡ some t → M.racking t ≡ K.after (M.racking s) x
    -- neighbours that are not tied do the same in either order, or fail in both
    pub commute : (s : S) (x y : A) → Good s → tied K (M.racking s) x y ≡ false
        → and_then (M.step s x) (λ t. M.step t y) ≡ and_then (M.step s y) (λ t. M.step t x)
    -- neighbours that have their steps and name one thing are tied
    pub named : (n : N) (s t u : S) (x y : A) → Good s → M.step s x ≡ some t → M.step t y ≡ some u → names n x ≡ true → names n y ≡ true
        → tied K (M.racking s) x y ≡ true

  -- what is kept of a list l that is valid from s with final state e
  pub record Kept (s e : S) (l m : List A) : Type 0 where
    -- valid, and the same final state
    pub ends : Ends M s m e
    -- the same history of each thing named, 01's needles and carriers: 'the list of' the records 'naming it'
    pub histories : (n : N) → keep (names n) l ≡ keep (names n) m
    -- the same records between the same racks, and the same order of every two tied records
    pub records : SameRecords K l m
    pub order : SameOrder K (M.racking s) l m
