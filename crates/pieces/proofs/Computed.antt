-- The pieces hold: the rows of which bytes come first, tested here, and what the other files show. Assumes nothing.
use mathlib.Core.Path.{◌≡◌, refl}
use mathlib.Core.Bool.{Bool, true}
use mathlib.Core.List.{List}
use Prim.Native.Nat.{ℕ}
use Rattle.house.specs.Order.{bytes_first}
use Rattle.pieces.specs.Houses.{firsts}
use Rattle.pieces.specs.Pieces.{Firsts, PiecesHold}
use Rattle.pieces.proofs.Tests.{same_bool, same_bool_lem, every, each}
use Rattle.pieces.proofs.Runs.{rows_so}
use Rattle.pieces.proofs.Swaps.{swaps_so, houses_so}
use Rattle.pieces.proofs.Edges.{pairs_so, edges_so, spans_so, plated_so}
use Rattle.pieces.proofs.Orders.{orders}
use Rattle.pieces.proofs.Steps.{walks_so, steps_so, looks_so, pieces_so, racks_so}
use Rattle.pieces.proofs.Ties.{tied_so}

first_test : List ℕ × List ℕ × Bool → Bool
first_test r = same_bool (bytes_first r.0 r.1) r.2

first_says : (r : List ℕ × List ℕ × Bool) → first_test r ≡ true → Firsts r
unfolding first_test
first_says r e = same_bool_lem _ _ e

firsts_computed : every first_test firsts ≡ true
unfolding first_test same_bool bytes_first
firsts_computed = refl

-- the pieces
pub pieces : PiecesHold
pieces =
    (rows_so, swaps_so, pairs_so, edges_so, refl, orders, houses_so, each Firsts first_test first_says firsts firsts_computed, walks_so, steps_so, looks_so, pieces_so, racks_so, tied_so, spans_so, refl, plated_so, refl)
