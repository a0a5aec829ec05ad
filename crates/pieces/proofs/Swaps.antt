-- The rows of the rewriter and of the house order hold: each is tested, and the tests computed. Assumes nothing.
use mathlib.Core.Path.{◌≡◌, refl, sym, subst}
use mathlib.Core.Bool.{Bool, true, ◌&&◌}
use Rattle.std.proofs.lemmas.Bool.{and_parts}
use Rattle.machine.specs.Machine.{Each}
use Rattle.machine.specs.Machine.{empty_state, all, inactive_carrier, moved_to, attached_at, same_needle}
use Rattle.machine.specs.Geometry.{eq_z, column_of, entry_of, exit_of, same_column, within_float}
use Rattle.machine.specs.Stretch.{slot_beside, distance_of, stretches}
use Rattle.record.specs.Kinds.{by_kind}
use Rattle.record.specs.Format.{decode_of, read_of, fields_ok, record_from, refused_as, rack_ok, needle_ok, work_ok, signed_of}
use Rattle.record.specs.Names.{needles_of, carriers_of}
use Rattle.run.specs.Step.{look_of, see_of, twice_no, stretch_no, parked_no, float_no, carrier_no, opposite_no, first_after, second_after, first_asked, room_no, decided_no, edit, act_of, acted, move_attachments, number_at, apply_of}
use Rattle.run.specs.Run.{turn, start_no, answer_limit, answer_of}
use Rattle.rewrite.specs.Extents.{half_column, layer_of, extent_of, meets, member, common}
use Rattle.rewrite.specs.Programs.{cut, starts_of, same_bytes}
use Rattle.rewrite.specs.Rewrite.{replay_from, lent_no, Rewritten}
use Rattle.trace.specs.House.{free_of, least_of, without, taken}
use Rattle.house.specs.Order.{bytes_first}
use Rattle.rewrite.proofs.Lawful.{lawful}
use Rattle.pieces.specs.Rows.{Swap, swaps}
use Rattle.pieces.specs.Houses.{houses}
use Rattle.pieces.specs.Pieces.{lent, front, Leaves, Rewrites, Orders}
use Rattle.pieces.proofs.Tests.{same_bool, every, each}
use Rattle.pieces.proofs.Says.{same_carrier, hooks_test, carriers_test, state_test, whole_test, says_test, test_says}
use Rattle.pieces.proofs.Quick.{quick_step, quick_from, quick_run, quick_rewrite, rewrite_is, quick_order, order_is, Whole, rewrite_whole, order_whole}

leaves_test : Rewritten → Swap → Bool
leaves_test w r =
    says_test w.answer r.answer
    && (same_bytes w.output (front r.wrote r.output) && same_bytes w.work (front r.starts r.work))

test_leaves : (w : Rewritten) (r : Swap) → Whole w → leaves_test w r ≡ true → Leaves w r
unfolding leaves_test
test_leaves w r whole e =
    let (p, e1) = and_parts (says_test w.answer r.answer) _ e in
    let (t, u) = and_parts (same_bytes w.output (front r.wrote r.output)) _ e1 in
    record { answer = test_says _ _ whole.asked p; output = lawful.same_eq _ _ t; work = lawful.same_eq _ _ u }

swap_test : Swap → Bool
swap_test r = let w = quick_rewrite r.limit r.program r.log (lent r.output) (lent r.work) in leaves_test w r

swap_says : (r : Swap) → swap_test r ≡ true → Rewrites r
unfolding swap_test
swap_says r e =
    subst (λ (w : Rewritten). Leaves w r) (sym (rewrite_is r.limit r.program r.log (lent r.output) (lent r.work)))
    (test_leaves _ r (rewrite_whole r.limit r.program r.log (lent r.output) (lent r.work)) e)

order_test : Swap → Bool
order_test r = let w = quick_order r.limit r.program (lent r.output) (lent r.work) in leaves_test w r

order_says : (r : Swap) → order_test r ≡ true → Orders r
unfolding order_test
order_says r e =
    subst (λ (w : Rewritten). Leaves w r) (sym (order_is r.limit r.program (lent r.output) (lent r.work)))
    (test_leaves _ r (order_whole r.limit r.program (lent r.output) (lent r.work)) e)

swaps_computed : every swap_test swaps ≡ true
unfolding swap_test leaves_test quick_rewrite lent_no replay_from cut starts_of same_bytes half_column layer_of extent_of meets member common says_test whole_test state_test hooks_test carriers_test same_bool same_carrier quick_run quick_from quick_step turn start_no answer_limit answer_of empty_state all inactive_carrier moved_to attached_at same_needle eq_z column_of entry_of exit_of same_column within_float decode_of read_of fields_ok record_from refused_as rack_ok needle_ok work_ok signed_of needles_of carriers_of look_of see_of twice_no stretch_no stretches distance_of slot_beside parked_no float_no carrier_no opposite_no first_after second_after first_asked room_no decided_no edit act_of acted move_attachments number_at apply_of by_kind
swaps_computed = refl

pub swaps_so : Each Rewrites swaps
swaps_so = each Rewrites swap_test swap_says swaps swaps_computed

houses_computed : every order_test houses ≡ true
unfolding order_test leaves_test quick_order taken least_of free_of without bytes_first lent_no replay_from cut starts_of same_bytes half_column layer_of extent_of meets member common says_test whole_test state_test hooks_test carriers_test same_bool same_carrier quick_run quick_from quick_step turn start_no answer_limit answer_of empty_state all inactive_carrier moved_to attached_at same_needle eq_z column_of entry_of exit_of same_column within_float decode_of read_of fields_ok record_from refused_as rack_ok needle_ok work_ok signed_of needles_of carriers_of look_of see_of twice_no stretch_no stretches distance_of slot_beside parked_no float_no carrier_no opposite_no first_after second_after first_asked room_no decided_no edit act_of acted move_attachments number_at apply_of by_kind
houses_computed = refl

pub houses_so : Each Orders houses
houses_so = each Orders order_test order_says houses houses_computed
