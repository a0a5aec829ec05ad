-- The rows of the run hold: each is tested, and the tests computed. Assumes nothing.
use mathlib.Core.Path.{◌≡◌, refl, sym, subst}
use mathlib.Core.Bool.{Bool, true}
use mathlib.Core.List.{List, ◌++◌}
use Rattle.machine.specs.Machine.{Each}
use Rattle.machine.specs.Machine.{empty_state, all, inactive_carrier, moved_to, attached_at, same_needle}
use Rattle.machine.specs.Geometry.{eq_z, column_of, entry_of, exit_of, same_column, within_float}
use Rattle.machine.specs.Stretch.{slot_beside, distance_of, stretches}
use Rattle.record.specs.Kinds.{by_kind}
use Rattle.record.specs.Format.{decode_of, read_of, fields_ok, record_from, refused_as, rack_ok, needle_ok, work_ok, signed_of}
use Rattle.record.specs.Names.{needles_of, carriers_of}
use Rattle.run.specs.Step.{look_of, see_of, twice_no, stretch_no, parked_no, float_no, carrier_no, opposite_no, first_after, second_after, first_asked, room_no, decided_no, edit, act_of, acted, move_attachments, number_at, apply_of}
use Rattle.run.specs.declared.Answer.{Answer}
use Rattle.run.specs.Run.{turn, start_no, answer_limit, answer_of}
use Rattle.pieces.specs.Rows.{Row, floats, long_floats, attachments, the_rest, rows}
use Rattle.pieces.specs.Pieces.{Says, Holds}
use Rattle.pieces.proofs.Tests.{same_bool, every, each, each_both}
use Rattle.pieces.proofs.Says.{same_carrier, hooks_test, carriers_test, state_test, whole_test, says_test, test_says}
use Rattle.pieces.proofs.Quick.{quick_step, quick_from, quick_run, run_is, run_whole}

row_test : Row → Bool
row_test r = says_test (quick_run r.limit r.program) r.answer

row_says : (r : Row) → row_test r ≡ true → Holds r
unfolding row_test
row_says r e = subst (λ (a : Answer). Says a r.answer) (sym (run_is r.limit r.program)) (test_says _ _ (run_whole r.limit r.program) e)

so : (l : List Row) → every row_test l ≡ true → Each Holds l
so l e = each Holds row_test row_says l e

-- computed apart, since a declaration is checked in fifty million steps at most
floats_computed : every row_test floats ≡ true
unfolding row_test says_test whole_test state_test hooks_test carriers_test same_bool same_carrier quick_run quick_from quick_step turn start_no answer_limit answer_of empty_state all inactive_carrier moved_to attached_at same_needle eq_z column_of entry_of exit_of same_column within_float decode_of read_of fields_ok record_from refused_as rack_ok needle_ok work_ok signed_of needles_of carriers_of look_of see_of twice_no stretch_no stretches distance_of slot_beside parked_no float_no carrier_no opposite_no first_after second_after first_asked room_no decided_no edit act_of acted move_attachments number_at apply_of by_kind
floats_computed = refl

long_computed : every row_test long_floats ≡ true
unfolding row_test says_test whole_test state_test hooks_test carriers_test same_bool same_carrier quick_run quick_from quick_step turn start_no answer_limit answer_of empty_state all inactive_carrier moved_to attached_at same_needle eq_z column_of entry_of exit_of same_column within_float decode_of read_of fields_ok record_from refused_as rack_ok needle_ok work_ok signed_of needles_of carriers_of look_of see_of twice_no stretch_no stretches distance_of slot_beside parked_no float_no carrier_no opposite_no first_after second_after first_asked room_no decided_no edit act_of acted move_attachments number_at apply_of by_kind
long_computed = refl

attachments_computed : every row_test attachments ≡ true
unfolding row_test says_test whole_test state_test hooks_test carriers_test same_bool same_carrier quick_run quick_from quick_step turn start_no answer_limit answer_of empty_state all inactive_carrier moved_to attached_at same_needle eq_z column_of entry_of exit_of same_column within_float decode_of read_of fields_ok record_from refused_as rack_ok needle_ok work_ok signed_of needles_of carriers_of look_of see_of twice_no stretch_no stretches distance_of slot_beside parked_no float_no carrier_no opposite_no first_after second_after first_asked room_no decided_no edit act_of acted move_attachments number_at apply_of by_kind
attachments_computed = refl

rest_computed : every row_test the_rest ≡ true
unfolding row_test says_test whole_test state_test hooks_test carriers_test same_bool same_carrier quick_run quick_from quick_step turn start_no answer_limit answer_of empty_state all inactive_carrier moved_to attached_at same_needle eq_z column_of entry_of exit_of same_column within_float decode_of read_of fields_ok record_from refused_as rack_ok needle_ok work_ok signed_of needles_of carriers_of look_of see_of twice_no stretch_no stretches distance_of slot_beside parked_no float_no carrier_no opposite_no first_after second_after first_asked room_no decided_no edit act_of acted move_attachments number_at apply_of by_kind
rest_computed = refl

pub rows_so : Each Holds rows
rows_so =
    each_both Holds floats (long_floats ++ attachments ++ the_rest) (so floats floats_computed)
    (each_both Holds long_floats (attachments ++ the_rest) (so long_floats long_computed)
    (each_both Holds attachments the_rest (so attachments attachments_computed) (so the_rest rest_computed)))
