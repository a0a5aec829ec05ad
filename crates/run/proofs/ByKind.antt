-- The step of each kind: the general definition, read at the kind. The run's code and the relation both cite these. Assumes nothing.
use borrow.Table.Steps.{cases}
use Prim.Native.Nat.{ℕ, ◌+◌, ◌-◌}
use mathlib.Core.Path.{◌≡◌, refl, sym, ap, ◌∙◌}
use mathlib.Core.Bool.{Bool, true, false, cond}
use mathlib.Core.List.{List, map}
use lib.ListN.{set}
use lib.Seq.{set-set, set_comm}
use native.Mathlib.Omega.{arith}
use lib.Dec.{eqb, leb}
use borrow.Author.Tests.{eqb-true, le-leb}
use Rattle.machine.specs.declared.Slot.{Slot}
use Rattle.machine.specs.declared.State.{State}
use Rattle.machine.specs.Machine.{inactive, changed, hook_of, loops_on, carrier_of, moved_to}
use Rattle.machine.specs.Geometry.{column_of, same_column}
use Rattle.machine.specs.Stretch.{any_stretched}
use Rattle.record.specs.declared.Record.{Record}
use Rattle.record.specs.Kinds.{RACK, DROP, XFER, IN, OUT, MISS, TUCK, KNIT, SPLIT, PLATED_TUCK, PLATED_KNIT, by_kind}
use Rattle.record.specs.Names.{needles_of, carriers_of}
use Rattle.run.specs.Relation.{racked, with_loops, with_carrier, transferred, entry_slot, exit_slot, unattached, reparked, attached, both_attached}
use Rattle.run.specs.Step.{Look, look_of, see_of, or_number, twice_no, stretch_no, parked_no, float_no, both_no, carrier_no, opposite_no, first_after, second_after, first_asked, room_no, decided_no, edit, act_of, acted, move_attachments, number_at, apply_of}
use Rattle.run.specs.Loops.{tuck_no, transfer_no}

-- a number and nothing after it
pub or_zero : (n : ℕ) → or_number n 0 ≡ n
or_zero n = cases (eqb n 0) (λ t. simp t (sym (eqb-true n 0 t))) (λ t. simp t)

-- no loop fits every limit
pub none_fits : (limit : ℕ) → leb 0 limit ≡ true
none_fits limit = le-leb 0 limit (omega arith)

-- 10, and what comes after it
apart_first : (b : Bool) (n : ℕ) → or_number (cond b 0 10) n ≡ cond b n 10
apart_first true n = refl
apart_first false n = refl

module _ (s : State) (x : Record) where
  -- carrier k as a record sees it
  abbrev pub seen : ℕ → Look
  seen k = look_of s.racking (carrier_of s k)

  -- 7 and 8 of a carrier for a slot, 9 of a carrier
  abbrev pub slot_no : ℕ → Slot → ℕ
  slot_no k z = parked_no (seen k).active (seen k).slot z

  abbrev pub reach_no : ℕ → ℕ
  reach_no k = float_no (seen k) (column_of x.at s.racking)

  -- 7 to 9 for tuck, knit and split
  abbrev pub ready_no : ℕ
  ready_no = or_number (slot_no x.carrier (entry_slot s x)) (reach_no x.carrier)

  -- and for plated stitches
  abbrev pub pair_no : ℕ
  pair_no = both_no (entry_slot s x) (column_of x.at s.racking) (seen x.carrier) (seen x.second)

  -- 17, for rack
  abbrev pub rack_no : ℕ
  rack_no = cond (any_stretched s.racking x.racking s.carriers) 17 0

  pub rack_number : x.kind ≡ RACK → number_at s x ≡ rack_no
  unfolding number_at decided_no twice_no stretch_no carrier_no opposite_no by_kind room_no first_asked first_after second_after see_of
  rack_number e = simp (e, none_fits s.limit) (or_zero rack_no)

  pub rack_state : x.kind ≡ RACK → apply_of s x ≡ racked s x.racking
  unfolding apply_of edit needles_of carriers_of by_kind move_attachments
  rack_state e = simp e

  pub drop_number : x.kind ≡ DROP → number_at s x ≡ 0
  unfolding number_at decided_no twice_no stretch_no carrier_no opposite_no by_kind room_no first_asked first_after second_after see_of
  drop_number e = simp (e, none_fits s.limit)

  pub drop_state : x.kind ≡ DROP → apply_of s x ≡ with_loops s x.at 0
  unfolding apply_of edit needles_of carriers_of by_kind move_attachments first_after
  drop_state e = simp e

  pub xfer_number : x.kind ≡ XFER → number_at s x ≡ transfer_no s.limit s.loops x.at x.to s.racking
  unfolding number_at decided_no twice_no stretch_no carrier_no opposite_no by_kind room_no first_asked first_after second_after see_of transfer_no
  xfer_number e = simp (e, none_fits s.limit) (apart_first (same_column (column_of x.at s.racking) (column_of x.to s.racking)) _)

  pub xfer_state : x.kind ≡ XFER → apply_of s x ≡ transferred s x.at x.to
  unfolding apply_of edit needles_of carriers_of by_kind move_attachments first_after second_after
  xfer_state e = simp e

  pub in_number : x.kind ≡ IN → number_at s x ≡ cond (seen x.carrier).active 6 0
  unfolding number_at decided_no twice_no stretch_no carrier_no opposite_no by_kind room_no first_asked first_after second_after see_of
  in_number e = simp (e, none_fits s.limit) (or_zero (cond (seen x.carrier).active 6 0))

  pub in_state : x.kind ≡ IN → apply_of s x ≡ with_carrier s x.carrier (unattached (entry_slot s x))
  unfolding apply_of edit needles_of carriers_of by_kind move_attachments act_of acted
  in_state e = simp e

  pub out_number : x.kind ≡ OUT → number_at s x ≡ slot_no x.carrier (exit_slot s x)
  unfolding number_at decided_no twice_no stretch_no carrier_no opposite_no by_kind room_no first_asked first_after second_after see_of
  out_number e = simp (e, none_fits s.limit) (or_zero (slot_no x.carrier (exit_slot s x)))

  pub out_state : x.kind ≡ OUT → apply_of s x ≡ with_carrier s x.carrier inactive
  unfolding apply_of edit needles_of carriers_of by_kind move_attachments act_of acted
  out_state e = simp e

  pub miss_number : x.kind ≡ MISS → number_at s x ≡ slot_no x.carrier (entry_slot s x)
  unfolding number_at decided_no twice_no stretch_no carrier_no opposite_no by_kind room_no first_asked first_after second_after see_of
  miss_number e = simp (e, none_fits s.limit) (or_zero (slot_no x.carrier (entry_slot s x)))

  pub miss_state : x.kind ≡ MISS → apply_of s x ≡ with_carrier s x.carrier (reparked (carrier_of s x.carrier) (exit_slot s x))
  unfolding apply_of edit needles_of carriers_of by_kind move_attachments act_of acted
  miss_state e = simp e

  pub tuck_number : x.kind ≡ TUCK → number_at s x ≡ or_number ready_no (tuck_no s.limit (loops_on s x.at) 1)
  unfolding number_at decided_no twice_no stretch_no carrier_no opposite_no by_kind room_no first_asked first_after second_after see_of tuck_no
  tuck_number e = simp (e, none_fits s.limit)

  pub tuck_state : x.kind ≡ TUCK → apply_of s x ≡ with_carrier (with_loops s x.at (loops_on s x.at + 1)) x.carrier (attached (exit_slot s x) x.at x.right)
  unfolding apply_of edit needles_of carriers_of by_kind move_attachments act_of acted first_after
  tuck_state e = simp e

  pub knit_number : x.kind ≡ KNIT → number_at s x ≡ ready_no
  unfolding number_at decided_no twice_no stretch_no carrier_no opposite_no by_kind room_no first_asked first_after second_after see_of
  knit_number e = simp (e, none_fits s.limit) (or_zero ready_no)

  pub knit_state : x.kind ≡ KNIT → apply_of s x ≡ with_carrier (with_loops s x.at 1) x.carrier (attached (exit_slot s x) x.at x.right)
  unfolding apply_of edit needles_of carriers_of by_kind move_attachments act_of acted first_after
  knit_state e = simp e

  pub split_number : x.kind ≡ SPLIT → number_at s x ≡ or_number ready_no (transfer_no s.limit s.loops x.at x.to s.racking)
  unfolding number_at decided_no twice_no stretch_no carrier_no opposite_no by_kind room_no first_asked first_after second_after see_of transfer_no
  split_number e = simp (e, none_fits s.limit) (ap (or_number ready_no) (apart_first (same_column (column_of x.at s.racking) (column_of x.to s.racking)) _))

  pub plated_tuck_number : x.kind ≡ PLATED_TUCK → number_at s x ≡ or_number (twice_no x) (or_number pair_no (tuck_no s.limit (loops_on s x.at) 2))
  unfolding number_at decided_no stretch_no carrier_no opposite_no by_kind room_no first_asked first_after second_after see_of tuck_no
  plated_tuck_number e = simp (e, none_fits s.limit)

  pub plated_tuck_state : x.kind ≡ PLATED_TUCK → apply_of s x ≡ both_attached s x (with_loops s x.at (loops_on s x.at + 2))
  unfolding apply_of edit needles_of carriers_of by_kind move_attachments act_of acted first_after
  plated_tuck_state e = simp e

  pub plated_knit_number : x.kind ≡ PLATED_KNIT → number_at s x ≡ or_number (twice_no x) (or_number pair_no (tuck_no s.limit 0 2))
  unfolding number_at decided_no stretch_no carrier_no opposite_no by_kind room_no first_asked first_after second_after see_of tuck_no
  plated_knit_number e = simp (e, none_fits s.limit)

  pub plated_knit_state : x.kind ≡ PLATED_KNIT → apply_of s x ≡ both_attached s x (with_loops s x.at 2)
  unfolding apply_of edit needles_of carriers_of by_kind move_attachments act_of acted first_after
  plated_knit_state e = simp e

  -- a split as code stores it, and as the relation says it
  abbrev split_state : State
  split_state =
      changed s s.racking (set (set s.loops (hook_of x.at) 1) (hook_of x.to) (loops_on s x.at + loops_on s x.to))
      (set (map (moved_to x.at x.to) s.carriers) (x.carrier - 1) (attached (exit_slot s x) x.at x.right))

  pub split_state_lem : x.kind ≡ SPLIT → apply_of s x ≡ split_state
  unfolding apply_of edit needles_of carriers_of by_kind move_attachments act_of acted first_after second_after
  split_state_lem e = simp e

  pub split_said : (hook_of x.at ≡ hook_of x.to → ⊥)
      → split_state ≡ with_carrier (with_loops (transferred s x.at x.to) x.at 1) x.carrier (attached (exit_slot s x) x.at x.right)
  split_said h =
      let i = hook_of x.at in let j = hook_of x.to in let v = loops_on s x.at + loops_on s x.to in
      let p : set (set s.loops i 1) j v ≡ set (set (set s.loops i 0) j v) i 1 =
      ap (λ (l : List ℕ). set l j v) (sym (set-set s.loops i 0 1)) ∙ set_comm (set s.loops i 0) i j 1 v h in
      simp p
