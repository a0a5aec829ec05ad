-- The listings are printed so: one test over all of them, computed, and that the test says so. Assumes nothing.
use Prim.Native.Nat.{ℕ}
use mathlib.Core.Path.{◌≡◌, refl, ap, ◌∙◌}
use mathlib.Core.Bool.{Bool, true, ◌&&◌, cond, false}
use mathlib.Core.List.{List, [], ◌∷◌}
use native.Mathlib.Omega.{arith}
use lib.Dec.{eqb}
use lib.ListN.{length}
use borrow.Author.Tests.{eq-eqb}
use borrow.Table.Steps.{cases}
use Rattle.machine.specs.Machine.{empty_state, complete_of, all, inactive_carrier, moved_to, attached_at, same_needle, Each}
use Rattle.machine.specs.Limits.{limit_most}
use Rattle.machine.specs.Range.{LimitInRange}
use Rattle.std.proofs.lemmas.Bool.{and_parts}
use Rattle.machine.specs.Geometry.{eq_z, column_of, entry_of, exit_of, same_column, within_float}
use Rattle.machine.specs.Stretch.{slot_beside, distance_of, stretches}
use Rattle.record.specs.Kinds.{by_kind}
use Rattle.record.specs.Format.{decode_of, read_of, fields_ok, record_from, refused_as, rack_ok, needle_ok, work_ok, signed_of}
use Rattle.record.specs.Names.{needles_of, carriers_of}
use Rattle.run.specs.Step.{look_of, see_of, twice_no, stretch_no, parked_no, float_no, carrier_no, opposite_no, first_after, second_after, first_asked, room_no, decided_no, edit, act_of, acted, move_attachments, number_at, apply_of}
use Rattle.run.specs.Run.{step_of, turn, run_from, start_no, answer_limit, answer_of, run_of}
use Rattle.rewrite.specs.Extents.{half_column, layer_of, extent_of, meets, member, common}
use Rattle.rewrite.specs.Programs.{cut, starts_of, same_bytes, records_of}
use Rattle.rewrite.specs.Rewrite.{replay_from, replay, lent_no, writes, Rewritten, refused, written, rewrite_of}
use Rattle.rewrite.proofs.Lawful.{lawful}
use Rattle.rewrite.proofs.Rewriting.{all_lent}
use Rattle.listing_text.specs.Text.{digits_of, letter_of, sign_of, flag_of, lines, hook_line, attachment_of, carrier_line, program_line, beds_of, state_of, shown_of, listing_of}
use Rattle.listing_text.specs.Listed.{call_listed, listed_of, lent_output, lent_work}
use Rattle.listing_text.specs.Printed.{bytes_in, text, Listing, P_swapped, listings, Printed, ListsP, ListsPRead, ListingsPrinted, FiguresPrinted, PAloneRefused, PAloneEmpty}
use Rattle.listing_text.proofs.Lent.{lent_is_enough}

-- the call at limit 8 where what is lent is enough: it computes whatever output and work area hold
abbrev call_lent : List ℕ → List ℕ → List ℕ → List ℕ → Rewritten
call_lent p log output work = cond (eqb (run_of limit_most p).number 0) (written limit_most p (replay log 0 (records_of p)) output work) (refused (run_of limit_most p) output work)

lent_listed : (p log output work : List ℕ) → lent_no limit_most (length p) (length log) (length output) (length work) ≡ 0 → listed_of limit_most p log output work ≡ call_listed (length p) (call_lent p log output work)
unfolding listed_of rewrite_of
lent_listed p log output work e = simp (eq-eqb (lent_no limit_most (length p) (length log) (length output) (length work)) 0 e)

eight : LimitInRange limit_most
eight = record { least = omega arith; most = omega arith }

-- the test that is computed, and that it says so
test : List ℕ → List ℕ → Listing → Bool
test output work r = same_bytes (call_listed (length r.program) (call_lent r.program r.log output work)) (text r.lines)

test_says : (r : Listing) → ((output work : List ℕ) → test output work r ≡ true) → Printed r
unfolding test
test_says r e output work h = lent_listed r.program r.log output work (all_lent _ _ _ _ _ eight h) ∙ lawful.same_eq _ _ (e output work)

abbrev every : List ℕ → List ℕ → List Listing → Bool
every output work [] = true
every output work (r ∷ l) = test output work r && every output work l

each : (l : List Listing) → ((output work : List ℕ) → every output work l ≡ true) → Each Printed l
each [] e = tt
each (r ∷ l) e = (
  test_says r (λ output work. (and_parts (test output work r) (every output work l) (e output work)).0),
  each l (λ output work. (and_parts (test output work r) (every output work l) (e output work)).1),
)

computed : (output work : List ℕ) → every output work listings ≡ true
unfolding test bytes_in text digits_of letter_of sign_of flag_of lines hook_line attachment_of carrier_line program_line beds_of state_of shown_of listing_of writes replay_from cut starts_of same_bytes half_column layer_of extent_of meets member common by_kind run_of run_from turn step_of start_no answer_limit answer_of empty_state complete_of all inactive_carrier moved_to attached_at same_needle eq_z column_of entry_of exit_of same_column within_float decode_of read_of fields_ok record_from refused_as rack_ok needle_ok work_ok signed_of needles_of carriers_of look_of see_of twice_no stretch_no stretches distance_of slot_beside parked_no float_no carrier_no opposite_no first_after second_after first_asked room_no decided_no edit act_of acted move_attachments number_at apply_of
computed output work = refl

pub listings_printed : ListingsPrinted
listings_printed = each listings computed

-- the first of them is P's
pub lists_p : ListsP
lists_p = listings_printed.0

pub lists_p_read : ListsPRead
lists_p_read old new n r e f h =
    r.uncut h
    ∙ ap (λ (p : List ℕ). listed_of limit_most p r.log lent_output lent_work) e
    ∙ ap (λ (l : List ℕ). listed_of limit_most P_swapped.program l lent_output lent_work) f
    ∙ lists_p lent_output lent_work (lent_is_enough P_swapped.program P_swapped.log (omega arith) (omega arith))

pub figures_printed : FiguresPrinted
unfolding digits_of bytes_in
figures_printed = (refl, (refl, (refl, (refl, (refl, tt)))))

-- p alone
no_bytes : (n length : ℕ) → writes n ≡ false → shown_of n length ≡ 0
unfolding shown_of
no_bytes n length e = simp e

pub p_alone_refused : PAloneRefused
unfolding listed_of
p_alone_refused limit program log output work e = simp (no_bytes _ (length program) e)

none_of_none : (n : ℕ) → shown_of n 0 ≡ 0
unfolding shown_of
none_of_none n = cases (writes n) (λ e. simp e) (λ e. simp e)

pub p_alone_empty : PAloneEmpty
unfolding listed_of
p_alone_empty limit log output work = simp (none_of_none (rewrite_of limit [] log output work).answer.number)
