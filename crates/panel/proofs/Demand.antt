-- The claims of the panel's step, and the rows at the edges of the ranges. Assumes nothing.
use borrow.Table.Steps.{cases}
use Prim.Native.Nat.{ℕ, ◌≤◌}
use mathlib.Core.Path.{◌≡◌, refl, sym, ap, subst, subst⁻¹, ◌∙◌}
use mathlib.Core.Bool.{true, false}
use mathlib.Core.List.{List, [], ◌∷◌, ◌++◌}
use mathlib.Core.Logic.{◌↔◌}
use lib.IntN.{ℤ, nat_abs}
use native.Mathlib.Omega.{arith}
use lib.ListN.{length, take}
use lib.Seq.{take-append_seam}
use Rattle.machine.specs.declared.Racking.{Racking}
use Rattle.machine.specs.declared.State.{State}
use Rattle.machine.specs.Limits.{racking_most}
use Rattle.machine.specs.Geometry.{eq_z}
use Rattle.machine.specs.Machine.{empty_state, all, inactive_carrier, complete_of}
use Rattle.machine.specs.Range.{StateInRange, slot_ok, attachment_ok, carrier_ok, state_ok}
use Rattle.machine.proofs.Ranges.{range_exactly}
use Rattle.record.specs.Kinds.{RACK}
use Rattle.record.specs.Format.{Encodes, signed_of, rack_record, refused_as, decode_of}
use Rattle.run.specs.declared.Stepped.{Stepped}
use Rattle.run.specs.Relation.{Steps}
use Rattle.run.specs.Run.{one_if, run_of, answer_of, stay, step_of}
use Rattle.record.proofs.Shapes.{is}
use Rattle.run.proofs.Refusals.{reason_other}
use Rattle.run.proofs.Demand.{final, step_accepts, step_done, step_refused, step_keeps_limit, run_in_range, step_in_range, current_rack_steps, stretched_exactly}
use Rattle.run.specs.Claims.{BeginsStretching}
use Rattle.run.proofs.Runs.{steps_on}
use Rattle.run.proofs.Stepwise.{steps_are_the_run, steps_are_one}
use Rattle.panel.specs.Panel.{panel_step}
use Rattle.panel.specs.Claims.{ServiceIsStep, RunNotFoul, ServiceNotFoul, ServiceKeepsLimit, ServedAsRun, ServedOneWay, TellsAsRun, RefusedTellsAsRun, TellsAgain, ServesCurrentRack, ServedStretchedExactly}
use Rattle.panel.specs.Rows.{RangeRows}
use Rattle.panel.proofs.Services.{foul_step, fine_step}

-- ---- in range or foul
pub fine : {s : State} → StateInRange s → state_ok s ≡ true
fine {s} h = (range_exactly s).1 h

pub either : {G : Type 0} (s : State) → (StateInRange s → G) → (state_ok s ≡ false → G) → G
either s f g = cases (state_ok s) (λ t. f ((range_exactly s).0 t)) g

-- ---- the claims
pub service_is_step : ServiceIsStep
service_is_step s l h = sym (fine_step s l (fine h))

-- no state in range gets 15, which is no number of a step
not_foul : (s : State) (l : List ℕ) → StateInRange s → (panel_step s l).number ≡ 15 → ⊥
not_foul s l h e =
    let q : (step_of s l).number ≡ 15 = sym (ap (λ (t : Stepped). t.number) (service_is_step s l h)) ∙ e in
    is (step_of s l).number 0 (λ z. omega arith) (λ d. reason_other (step_refused s l d).first.reason 15 refl q)

pub range_rows : RangeRows
unfolding panel_step state_ok empty_state slot_ok attachment_ok carrier_ok all inactive_carrier eq_z step_of decode_of refused_as
range_rows =
    record {
      foul = (refl, (refl, (refl, (refl, (refl, (refl, (refl, (refl, (refl, (refl, (refl, (refl, (refl, (refl, (refl, (refl, (refl, (refl, (refl, (refl, (refl, (refl, (refl, (refl, (refl, (refl, (refl, (refl, (refl, (refl, (refl, (refl, (refl, (refl, (refl, (refl, (refl, (refl, tt))))))))))))))))))))))))))))))))))))));
      sound = (refl, (refl, (refl, (refl, (refl, (refl, (refl, (refl, (refl, (refl, (refl, (refl, (refl, (refl, (refl, tt)))))))))))))));
    }

-- a refused step keeps the state and gives length 0
module _ (s : State) (l : List ℕ) where
  pub step_keeps : ((step_of s l).number ≡ 0 → ⊥) → step_of s l ≡ stay (step_of s l).number s
  step_keeps d = let r = step_refused s l d in λ i. record { number = (step_of s l).number; complete = r.complete i; looked = r.looked i; length = r.length i; state = r.state i }

  pub refused_keeps : ((panel_step s l).number ≡ 0 → ⊥) → (panel_step s l).state ≡ s
  refused_keeps d =
      either s (λ h. subst Kept (fine_step s l (fine h)) (λ k. (step_refused s l k).state) d) (λ e. subst Kept (foul_step s l e) (λ _. refl) d)
    where
      Kept : Stepped → Type 0
      Kept a = (a.number ≡ 0 → ⊥) → a.state ≡ s

pub run_not_foul : RunNotFoul
run_not_foul limit p l = not_foul (run_of limit p).state l (run_in_range limit p)

pub service_not_foul : ServiceNotFoul
service_not_foul s l m d = not_foul (panel_step s l).state m (either s fair (λ f. absurd (d (foul f))))
  where
    fair : StateInRange s → StateInRange (panel_step s l).state
    fair h = subst (λ (t : Stepped). StateInRange t.state) (sym (service_is_step s l h)) (step_in_range s l h)

    foul : state_ok s ≡ false → (panel_step s l).number ≡ 15
    foul f = sym (ap (λ (t : Stepped). t.number) (foul_step s l f))

pub service_keeps_limit : ServiceKeepsLimit
service_keeps_limit s l =
    is (panel_step s l).number 0
    (λ z. either s
    (λ h. let e = service_is_step s l h in
    let (bytes, rest, x, t, whole, form, step) = (step_accepts s l).0 (sym (ap (λ (a : Stepped). a.number) e) ∙ z) in
    ap (λ (a : Stepped). a.state.limit) (e ∙ ap (step_of s) whole ∙ step_done s bytes rest x t form step) ∙ step_keeps_limit s t x step)
    (λ f. absurd (omega (arith, ap (λ (a : Stepped). a.number) (foul_step s l f), z))))
    (λ d. ap (λ (t : State). t.limit) (refused_keeps s l d))

pub served_as_run : ServedAsRun
served_as_run = steps_are_the_run panel_step service_is_step

pub served_one_way : ServedOneWay
served_one_way = steps_are_one panel_step service_is_step

-- ---- behind a valid program
pub tells_as_run : TellsAsRun
unfolding run_of answer_of
tells_as_run limit p bytes rest s v short z long =
    let inside = subst StateInRange (final limit p s v).state (run_in_range limit p) in
    let e = service_is_step s (bytes ++ rest) inside in
    let (own, others, x, t, whole, form, step) = (step_accepts s (bytes ++ rest)).0 (sym (ap (λ (a : Stepped). a.number) e) ∙ z) in
    let f = e ∙ ap (step_of s) whole ∙ step_done s own others x t form step in
    let same : own ≡ bytes =
    sym (take-append_seam own others) ∙ ap (λ (n : ℕ). take n (own ++ others)) (sym (ap (λ (a : Stepped). a.length) f) ∙ long) ∙ ap (take (length bytes)) (sym whole) ∙ take-append_seam bytes rest in
    let steps = subst (λ (l : List ℕ). Steps (empty_state limit) (p ++ l) t) same (steps_on v.steps form step) in
    ap (λ (a : Stepped). a.complete) f
    ∙ ap (λ (u : State). one_if (complete_of u)) (sym (final limit (p ++ bytes) t (record { limit_in = v.limit_in; short = short; steps = steps })).state)

-- ---- refused: what is told of a state in range
refused_tells : (s : State) (l : List ℕ) → StateInRange s → ((panel_step s l).number ≡ 0 → ⊥) → (panel_step s l).complete ≡ one_if (complete_of s)
refused_tells s l h d =
    let e = service_is_step s l h in
    ap (λ (a : Stepped). a.complete) e ∙ (step_refused s l (λ z. d (ap (λ (a : Stepped). a.number) e ∙ z))).complete

pub refused_tells_as_run : RefusedTellsAsRun
unfolding run_of answer_of
refused_tells_as_run limit p l d = refused_tells (run_of limit p).state l (run_in_range limit p) d

-- of the state that a step leaves
left_tells : (s : State) (l : List ℕ) → (step_of s l).complete ≡ one_if (complete_of (step_of s l).state)
left_tells s l =
    is (step_of s l).number 0
    (λ z. let (bytes, rest, x, t, whole, form, step) = (step_accepts s l).0 z in
    let e = ap (step_of s) whole ∙ step_done s bytes rest x t form step in
    ap (λ (a : Stepped). a.complete) e ∙ sym (ap (λ (a : Stepped). one_if (complete_of a.state)) e))
    (λ d. let r = step_refused s l d in r.complete ∙ sym (ap (λ (t : State). one_if (complete_of t)) r.state))

pub tells_again : TellsAgain
tells_again s l m d k = either s fair (λ f. absurd (d (sym (ap (λ (t : Stepped). t.number) (foul_step s l f)))))
  where
    fair : StateInRange s → (panel_step (panel_step s l).state m).complete ≡ (panel_step s l).complete
    fair h =
        let e = service_is_step s l h in
        refused_tells (panel_step s l).state m (subst (λ (t : Stepped). StateInRange t.state) (sym e) (step_in_range s l h)) k
        ∙ ap (λ (a : Stepped). one_if (complete_of a.state)) e ∙ sym (left_tells s l) ∙ sym (ap (λ (a : Stepped). a.complete) e)

-- ---- racks
pub serves_current_rack : ServesCurrentRack
serves_current_rack s b rest h e =
    let x = rack_record (signed_of b) in
    let here : x.racking ≡ s.racking = ap {B = Racking} (λ (z : ℤ). record { 0 = z }) e in
    let near : nat_abs (signed_of b) ≤ racking_most = subst⁻¹ (λ (z : ℤ). nat_abs z ≤ racking_most) e h.racking in
    service_is_step s (RACK ∷ b ∷ rest) h ∙ step_done s (RACK ∷ b ∷ []) rest x s (Encodes.rack near) (current_rack_steps s x refl here)

pub served_stretched : ServedStretchedExactly
served_stretched s l h = subst⁻¹ (λ (t : Stepped). (t.number ≡ 17) ↔ BeginsStretching s l) (service_is_step s l h) (stretched_exactly s l)
