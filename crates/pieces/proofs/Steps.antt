-- The rows of the walk, of single steps, of pieces stepped record by record and of racks hold, computed. Assumes nothing.
use Prim.Native.Nat.{ℕ}
use mathlib.Core.Path.{refl, ap}
use mathlib.Core.Bool.{Bool, cond}
use mathlib.Core.List.{List}
use lib.Dec.{eqb}
use lib.IntN.{ℤ}
use Rattle.machine.specs.declared.Carrier.{Carrier}
use Rattle.machine.specs.declared.State.{State}
use Rattle.machine.specs.Machine.{empty_state, complete_of, all, inactive_carrier, moved_to, attached_at, same_needle, Each}
use Rattle.machine.specs.Geometry.{eq_z, column_of, entry_of, exit_of, same_column, within_float}
use Rattle.machine.specs.Stretch.{slot_beside, distance_of, stretches}
use Rattle.machine.specs.Range.{slot_ok, attachment_ok, carrier_ok, state_ok}
use Rattle.machine.specs.Walk.{looked_at, walk_of, hooks_looked}
use Rattle.record.specs.Kinds.{by_kind}
use Rattle.record.specs.Format.{decode_of, read_of, fields_ok, record_from, refused_as, rack_ok, needle_ok, work_ok, signed_of}
use Rattle.record.specs.Names.{needles_of, carriers_of}
use Rattle.run.specs.Step.{look_of, see_of, twice_no, stretch_no, parked_no, float_no, carrier_no, opposite_no, first_after, second_after, first_asked, room_no, decided_no, edit, act_of, acted, move_attachments, number_at, apply_of}
use Rattle.run.specs.Run.{step_of}
use Rattle.panel.specs.Panel.{panel_step}
use Rattle.pieces.specs.Steps.{walks, WalksSo, steps, Shows, looks, LooksSo, pieces, StepsSo}
use Rattle.pieces.specs.Racks.{Rack, standing, byte_of, carriers, racks, RacksSo}
use Rattle.pieces.specs.Spelled.{rack}
use Rattle.pieces.proofs.Tests.{each_given}

-- number, length, and the racking and carriers that are left
abbrev Left : Type 0
Left = ℕ × ℕ × ℤ × List Carrier

pub walks_so : Each WalksSo walks
unfolding walk_of looked_at all
walks_so = each_given WalksSo (λ (r : List ℕ × Bool × ℕ). walk_of r.0) (λ (r : List ℕ × Bool × ℕ). record { none = r.1; looked = r.2 }) (λ r e. e) walks refl

pub steps_so : Each Shows steps
unfolding panel_step state_ok slot_ok attachment_ok carrier_ok step_of empty_state complete_of all inactive_carrier moved_to attached_at same_needle eq_z column_of entry_of exit_of same_column within_float decode_of read_of fields_ok record_from refused_as rack_ok needle_ok work_ok signed_of needles_of carriers_of look_of see_of twice_no stretch_no stretches distance_of slot_beside parked_no float_no carrier_no opposite_no first_after second_after first_asked room_no decided_no edit act_of acted move_attachments number_at apply_of by_kind
steps_so =
    each_given Shows (λ (r : State × List ℕ × ℕ × ℕ × ℕ). let a = panel_step r.0 r.1 in (a.number, a.complete, a.length)) (λ (r : State × List ℕ × ℕ × ℕ × ℕ). (r.2, r.3, r.4))
    (λ r e. (ap (λ (x : ℕ × ℕ × ℕ). x.0) e, ap (λ (x : ℕ × ℕ × ℕ). x.1) e, ap (λ (x : ℕ × ℕ × ℕ). x.2) e)) steps refl

pub looks_so : Each LooksSo looks
unfolding hooks_looked looked_at panel_step state_ok slot_ok attachment_ok carrier_ok step_of empty_state complete_of all inactive_carrier moved_to attached_at same_needle eq_z column_of entry_of exit_of same_column within_float decode_of read_of fields_ok record_from refused_as rack_ok needle_ok work_ok signed_of needles_of carriers_of look_of see_of twice_no stretch_no stretches distance_of slot_beside parked_no float_no carrier_no opposite_no first_after second_after first_asked room_no decided_no edit act_of acted move_attachments number_at apply_of by_kind
looks_so =
    each_given LooksSo (λ (r : State × List ℕ × ℕ × ℕ). let a = panel_step r.0 r.1 in (a.number, a.looked)) (λ (r : State × List ℕ × ℕ × ℕ). (r.2, r.3))
    (λ r e. (ap (λ (x : ℕ × ℕ). x.0) e, ap (λ (x : ℕ × ℕ). x.1) e)) looks refl

pub pieces_so : Each StepsSo pieces
unfolding panel_step state_ok slot_ok attachment_ok carrier_ok step_of empty_state complete_of all inactive_carrier moved_to attached_at same_needle eq_z column_of entry_of exit_of same_column within_float decode_of read_of fields_ok record_from refused_as rack_ok needle_ok work_ok signed_of needles_of carriers_of look_of see_of twice_no stretch_no stretches distance_of slot_beside parked_no float_no carrier_no opposite_no first_after second_after first_asked room_no decided_no edit act_of acted move_attachments number_at apply_of by_kind
pieces_so = (refl, (refl, (refl, (refl, (refl, (refl, (refl, (refl, (refl, (refl, (refl, (refl, tt))))))))))))

pub racks_so : Each RacksSo racks
unfolding panel_step state_ok slot_ok attachment_ok carrier_ok step_of empty_state complete_of all inactive_carrier moved_to attached_at same_needle eq_z column_of entry_of exit_of same_column within_float decode_of read_of fields_ok record_from refused_as rack_ok needle_ok work_ok signed_of needles_of carriers_of look_of see_of twice_no stretch_no stretches distance_of slot_beside parked_no float_no carrier_no opposite_no first_after second_after first_asked room_no decided_no edit act_of acted move_attachments number_at apply_of by_kind
racks_so =
    each_given RacksSo (λ (r : Rack). let a = panel_step (standing r.0 r.1 r.2) (rack (byte_of r.3)) in (a.number, a.length, a.state.racking.0, a.state.carriers))
    (λ (r : Rack). (r.4, cond (eqb r.4 0) 2 0, cond (eqb r.4 0) r.3 r.1, carriers r.2))
    (λ r e. (ap (λ (x : Left). x.0) e, ap (λ (x : Left). x.1) e, ap (λ (x : Left). x.2) e, ap (λ (x : Left). x.3) e)) racks refl
