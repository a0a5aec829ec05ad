-- The one conversion of a needle to a column, as the code computes it: a front needle keeps its number, a back needle adds the racking. Assumes nothing.
use borrow.Author.Tests.{eq-eqb, ne_eqb}
use native.Mathlib.Omega.{arith}
use mathlib.Core.Path.{◌≡◌, ap, ◌∙◌}
use Prim.Native.Nat.{ℕ, ◌<◌}
use lib.IntN.{ℤ, pos, ◌+ℤ◌}
use lib.Signed.{mag}
use mir.Syntax.{w8, w32}
use mir.Val.{SFits, to_z, of_z}
use mir.Facts.{to_z-of_z, to_z_pos}
use Rattle.machine.specs.declared.Needle.{Needle}
use Rattle.machine.specs.declared.Racking.{Racking}
use Rattle.machine.specs.declared.Column.{Column}
use Rattle.machine.specs.Geometry.{column_of}
use Rattle.machine.proofs.Signed.{fits_sum, cast_back}

-- the sum, as the code reads it back
pub fitting : (n : ℕ) (r : ℤ) → n < 65536 → mag r < 128 → SFits w32 (to_z w32 n +ℤ to_z w32 (of_z w32 (to_z w8 (of_z w8 r))))
fitting n r h k = simp (cast_back w8 w32 r k (omega arith), to_z_pos w32 {n = n} (omega arith)) (fits_sum w32 (pos n) r (omega arith))

pub front : (n : Needle) (r : Racking) → n.1 < 65536 → n.0 ≡ 0 → ◌≡◌ {A = Column} (record { 0 = to_z w32 n.1 }) (column_of n r)
unfolding column_of
front n r h e = simp (to_z_pos w32 {n = n.1} (omega arith), eq-eqb n.0 0 e)

pub rear : (n : Needle) (r : Racking) → n.1 < 65536 → mag r.0 < 128 → (n.0 ≡ 0 → ⊥)
    → ◌≡◌ {A = Column} (record { 0 = to_z w32 (of_z w32 (to_z w32 n.1 +ℤ to_z w32 (of_z w32 (to_z w8 (of_z w8 r.0))))) }) (column_of n r)
unfolding column_of
rear n r h k e =
    let s : to_z w32 (of_z w32 (to_z w32 n.1 +ℤ to_z w32 (of_z w32 (to_z w8 (of_z w8 r.0))))) ≡ pos n.1 +ℤ r.0 =
    to_z-of_z (fitting n.1 r.0 h k) ∙ simp (cast_back w8 w32 r.0 k (omega arith), to_z_pos w32 {n = n.1} (omega arith)) in
    ap {B = Column} (λ (z : ℤ). record { 0 = z }) s ∙ simp (ne_eqb n.0 0 e)

pub ruleset conversion = (fitting, front, rear)
