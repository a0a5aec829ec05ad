-- A record stays behind the last that it is tied to. Assumes nothing.
use Prim.Native.Nat.{ℕ, ◌<◌}
use native.Mathlib.Omega.{arith}
use mathlib.Core.Path.{◌≡◌, ap, ◌∙◌}
use mathlib.Core.List.{List}
use lib.ListN.{length}
use Rattle.machine.specs.declared.Racking.{Racking}
use Rattle.house.specs.Arranged.{tied_up_to, greater_from, spot_at, moved}
use Rattle.house.proofs.Walks.{tied_small, on_end}
use Rattle.house.proofs.Moves.{moved_same}

pub stays : (p w : List ℕ) (j : ℕ) (r : Racking) → j < length w → tied_up_to p w j r ≡ j → moved w (spot_at p w j r) j ≡ w
stays p w j r h e =
    let f : spot_at p w j r ≡ j = ap (λ (i : ℕ). greater_from p w i j r) e ∙ on_end p w j r h j (omega arith) (omega arith) in
    ap (λ (n : ℕ). moved w n j) f ∙ moved_same w j h

pub ruleset settling = (stays, tied_small)
