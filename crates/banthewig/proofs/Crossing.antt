-- The layout of the structs that cross into C, as the library's memory has it: the sizes and offsets that include/banthewig.h asserts for the
-- same fields. Assumes nothing.
use Prim.Native.Nat.{ℕ}
use mathlib.Core.Path.{◌≡◌, refl}
use mathlib.Core.Option.{some}
use mathlib.Core.List.{List, [], ◌∷◌}
use lib.ListN.{length}
use mir.Syntax.{Ty, ty_int, ty_array, w8, w16, w32, w64}
use mir.Val.{Val, vint, vstruct, of_list, of_z}
use prog.Memory.{size, align, field_of}
use denote.Struct.Laws as LL
use denote.Laws.{Is}
use Rattle.machine.specs.declared.Carrier.{Carrier}
use Rattle.machine.specs.declared.State.{State}
use Rattle.machine.specs.contracts.State as T
use Rattle.machine.specs.contracts.Carrier as Entry
use Rattle.panel.specs.declared.Stepped.{Stepped}
use Rattle.panel.specs.contracts.Stepped as Answer
use Rattle.machine.proofs.Slot.TheLaws as slot
use Rattle.machine.proofs.Needle.TheLaws as needle
use Rattle.machine.proofs.Racking.TheLaws as racking
use Rattle.machine.proofs.Carrier.TheLaws as carrier
use Rattle.machine.proofs.State.TheLaws as state
use Rattle.panel.proofs.Served.TheLaws as served
use Rattle.panel.proofs.Stepped.TheLaws as stepped
use Rattle.tie.specs.declared.Tied.{Tied}
use Rattle.tie.specs.contracts.Tied as Told
use Rattle.tie.proofs.Tied.TheLaws as tied

-- a struct's size and alignment; field k, of a type, begins so many bytes from the front
pub record Laid (τ : Ty) (bytes boundary : ℕ) : Type 0 where
  size_is : size τ ≡ bytes
  align_is : align τ ≡ boundary

abbrev FieldAt : Ty → ℕ → Ty → ℕ → Type 0
FieldAt τ k σ at = field_of τ k ≡ some (σ, at)

-- slot, racking: one number; needle: bed, number
pub slot_laid : Laid slot.mir 2 2
slot_laid = record { size_is = refl; align_is = refl }

pub racking_laid : Laid racking.mir 1 1
racking_laid = record { size_is = refl; align_is = refl }

pub needle_laid : Laid needle.mir 4 2
needle_laid = record { size_is = refl; align_is = refl }

pub needle_fields : FieldAt needle.mir 0 (ty_int w16) 0 × FieldAt needle.mir 1 (ty_int w16) 2
needle_fields = (refl, refl)

-- carrier: active, side, slot, needle (so that bed is at 4, number at 6)
pub carrier_laid : Laid carrier.mir 8 2
carrier_laid = record { size_is = refl; align_is = refl }

pub carrier_fields : FieldAt carrier.mir 0 (ty_int w8) 0 × FieldAt carrier.mir 1 (ty_int w8) 1 × FieldAt carrier.mir 2 slot.mir 2 × FieldAt carrier.mir 3 needle.mir 4
carrier_fields = (refl, refl, refl, refl)

-- which of the fields of one type is which
pub carrier_order : (c : Carrier)
    → LL.val Entry.the_type carrier.the_laws c
    ≡ vstruct (of_list (vint w8 c.active ∷ vint w8 c.side ∷ vstruct (of_list (vint w16 (of_z w16 c.slot.0) ∷ [])) ∷ vstruct (of_list (vint w16 c.needle.0 ∷ vint w16 c.needle.1 ∷ [])) ∷ []))
carrier_order c = refl

-- state: racking, loops, limit, carriers; no byte of the 582 is padding
pub state_laid : Laid state.mir 582 2
state_laid = record { size_is = refl; align_is = refl }

pub state_fields : FieldAt state.mir 0 racking.mir 0 × FieldAt state.mir 1 (ty_array (ty_int w8) 500) 1 × FieldAt state.mir 2 (ty_int w8) 501 × FieldAt state.mir 3 (ty_array carrier.mir 10) 502
state_fields = (refl, refl, refl, refl)

-- the list's answer: number, length
pub served_laid : Laid served.mir 16 8
served_laid = record { size_is = refl; align_is = refl }

pub served_fields : FieldAt served.mir 0 (ty_int w8) 0 × FieldAt served.mir 1 (ty_int w64) 8
served_fields = (refl, refl)

-- the step's: number, complete, looked, length
pub stepped_laid : Laid stepped.mir 16 8
stepped_laid = record { size_is = refl; align_is = refl }

pub stepped_fields : FieldAt stepped.mir 0 (ty_int w8) 0 × FieldAt stepped.mir 1 (ty_int w8) 1 × FieldAt stepped.mir 2 (ty_int w16) 2 × FieldAt stepped.mir 3 (ty_int w64) 8
stepped_fields = (refl, refl, refl, refl)

-- which of the two bytes is which
pub stepped_order : (a : Stepped) → LL.val Answer.the_type stepped.the_laws a ≡ vstruct (of_list (vint w8 a.number ∷ vint w8 a.complete ∷ vint w16 a.looked ∷ vint w64 a.length ∷ []))
stepped_order a = refl

-- what ties two records: left, right, number, by, carrier, low, high
pub tied_laid : Laid tied.mir 16 4
tied_laid = record { size_is = refl; align_is = refl }

pub tied_fields : FieldAt tied.mir 0 (ty_int w32) 0 × FieldAt tied.mir 1 (ty_int w32) 4 × FieldAt tied.mir 2 (ty_int w8) 8 × FieldAt tied.mir 3 (ty_int w8) 9
    × FieldAt tied.mir 4 (ty_int w8) 10 × FieldAt tied.mir 5 (ty_int w8) 11 × FieldAt tied.mir 6 (ty_int w8) 12
tied_fields = (refl, refl, refl, refl, refl, refl, refl)

-- which of the fields of one type is which
pub tied_order : (t : Tied)
    → LL.val Told.the_type tied.the_laws t
    ≡ vstruct (of_list (vint w32 (of_z w32 t.left) ∷ vint w32 (of_z w32 t.right) ∷ vint w8 t.number ∷ vint w8 t.by ∷ vint w8 t.carrier ∷ vint w8 t.low ∷ vint w8 t.high ∷ []))
tied_order t = refl

-- every state in memory has 500 hooks and ten carriers, whatever its bytes
pub state_lengths : (s : State) (vs : List Val) → Is T.the_row s vs → (length s.loops ≡ 500) × (length s.carriers ≡ 10)
state_lengths s vs is =
    let o = LL.owed T.the_type state.the_laws s vs is in
    (o.1.0.1.0.1, o.1.1.1.0.1.0.1)
