-- The rows of records, histories, stretches, ties, counts and states hold, computed. Assumes nothing.
use mathlib.Core.Path.{refl}
use Rattle.machine.specs.Machine.{empty_state, complete_of, all, inactive_carrier, moved_to, attached_at, same_needle}
use Rattle.machine.specs.Geometry.{eq_z, column_of, entry_of, exit_of, same_column, within_float}
use Rattle.machine.specs.Stretch.{slot_beside, distance_of, stretches}
use Rattle.record.specs.Kinds.{by_kind}
use Rattle.record.specs.Format.{decode_of, read_of, fields_ok, record_from, refused_as, rack_ok, needle_ok, work_ok, signed_of}
use Rattle.record.specs.Names.{needles_of, carriers_of}
use Rattle.run.specs.Step.{look_of, see_of, twice_no, stretch_no, parked_no, float_no, carrier_no, opposite_no, first_after, second_after, first_asked, room_no, decided_no, edit, act_of, acted, move_attachments, number_at, apply_of}
use Rattle.run.specs.Run.{step_of, turn, run_from, start_no, answer_limit, answer_of, run_of}
use Rattle.rewrite.specs.Extents.{half_column, layer_of, extent_of, meets, member, common}
use Rattle.rewrite.specs.Programs.{cut, same_bytes, member_needle}
use Rattle.pieces.specs.Orders.{OrdersHold}

pub orders : OrdersHold
unfolding cut by_kind same_bytes member_needle same_needle half_column layer_of extent_of meets member common column_of decode_of read_of fields_ok record_from refused_as rack_ok needle_ok work_ok signed_of needles_of carriers_of run_of run_from turn step_of start_no answer_limit answer_of empty_state complete_of all inactive_carrier moved_to attached_at eq_z entry_of exit_of same_column within_float look_of see_of twice_no stretch_no stretches distance_of slot_beside parked_no float_no carrier_no opposite_no first_after second_after first_asked room_no decided_no edit act_of acted move_attachments number_at apply_of
orders =
    record {
      records_are = refl;
      histories_are = (refl, (refl, (refl, (refl, (refl, (refl, (refl, (refl, tt))))))));
      stretches_are = (refl, (refl, (refl, (refl, tt))));
      ties_are = (refl, (refl, (refl, (refl, (refl, (refl, (refl, (refl, (refl, (refl, (refl, (refl, (refl, (refl, (refl, tt)))))))))))))));
      counts_are = (record { holds = refl; equals = refl }, (record { holds = refl; equals = refl }, (record { holds = refl; equals = refl }, (record { holds = refl; equals = refl }, tt))));
      loops_are = (refl, (refl, (refl, (refl, (refl, (refl, (refl, (refl, tt))))))));
      carriers_are = (refl, (refl, (refl, (refl, (refl, (refl, tt))))));
      carriers_read = (refl, refl);
    }
