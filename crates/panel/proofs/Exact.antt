-- Each service gives and leaves what 01 says of the call, and nothing else. Assumes nothing.
use borrow.Table.Steps.{cases}
use Prim.Native.Nat.{ℕ, suc, ◌-◌, ◌≤◌, ◌<◌}
use mathlib.Core.Path.{◌≡◌, refl, sym, ap, subst, ◌∙◌}
use mathlib.Core.Bool.{false, true≢false}
use mathlib.Core.List.{List}
use native.Mathlib.Omega.{arith}
use lib.IntN.{pos}
use lib.Dec.{ltb}
use lib.ListN.{length, get_or, get_or-append}
use lib.Seq.{ext_get_or}
use borrow.Author.Tests.{ltb-true, ltb-false}
use Rattle.machine.specs.declared.Carrier.{Carrier}
use Rattle.machine.specs.declared.State.{State}
use Rattle.machine.specs.declared.Walked.{Walked}
use Rattle.machine.specs.Geometry.{eq_z}
use Rattle.machine.specs.Machine.{inactive, complete_of}
use Rattle.machine.specs.Range.{StateInRange, state_ok}
use Rattle.machine.specs.Walk.{walk_of, hooks_looked}
use Rattle.run.specs.declared.Stepped.{Stepped}
use Rattle.machine.proofs.Signed.{eq_z_yes, eq_z_no, eq_z_true, eq_z_false}
use Rattle.machine.proofs.Laws.{complete_exactly}
use Rattle.machine.proofs.Walks.{walk_exactly}
use Rattle.record.specs.declared.Record.{Record}
use Rattle.run.specs.Relation.{Step}
use Rattle.run.specs.Run.{one_if, stay, step_of}
use Rattle.run.proofs.Runs.{step_frame}
use Rattle.run.proofs.Refusals.{first_is_one}
use Rattle.record.proofs.Shapes.{is}
use Rattle.run.proofs.Demand.{step_accepts, step_done, step_refused}
use Rattle.panel.specs.declared.Served.{Served}
use Rattle.panel.specs.Panel.{panel_step, list_answer, carrier_list}
use Rattle.panel.specs.Exact.{Tells, Looks, Serves, StepExactly, Listed, Lists, ListExactly}
use Rattle.panel.proofs.Services.{foul_step, foul_list, short_list, long_list, list_number}
use Rattle.panel.proofs.Filled.{list_long, list_kept, list_written, long_written, rest_written}
use Rattle.panel.proofs.Demand.{fine, either, service_is_step, step_keeps}

not_ok : {s : State} → (StateInRange s → ⊥) → state_ok s ≡ false
not_ok {s} h = either s (λ k. absurd (h k)) (λ e. e)

not_in_range : {s : State} → state_ok s ≡ false → StateInRange s → ⊥
not_in_range e h = true≢false (sym (fine h) ∙ e)

-- ---- the step
-- whether a state is complete, as a step tells it
module _ (t : State) (hooks : length t.loops ≡ 500) (ten : length t.carriers ≡ 10) where
  tells : Tells t (one_if (complete_of t))
  tells =
      let (empty, full) = complete_exactly t hooks ten in
      cases (complete_of t) (λ e. subst (Tells t) (ap one_if (sym e)) (Tells.complete (empty e)))
      (λ e. subst (Tells t) (ap one_if (sym e)) (Tells.incomplete (λ f. true≢false (sym (full f) ∙ e))))

  tells_one : {c : ℕ} → Tells t c → one_if (complete_of t) ≡ c
  tells_one (Tells.complete e) = ap one_if ((complete_exactly t hooks ten).1 e)
  tells_one (Tells.incomplete d) = cases (complete_of t) (λ e. absurd (d ((complete_exactly t hooks ten).0 e))) (λ e. ap one_if e)

-- and how many hooks were looked at for it
looks : (t : State) → Looks t (hooks_looked t.racking t.loops)
unfolding hooks_looked walk_of
looks t =
    cases (eq_z t.racking.0 (pos 0))
    (λ e. rw e (Looks.walked (eq_z_true t.racking.0 (pos 0) e) (walk_of t.loops) ((walk_exactly t.loops (walk_of t.loops)).0 refl)))
    (λ e. rw e (Looks.unwalked (eq_z_false t.racking.0 (pos 0) e)))

looks_one : (t : State) {k : ℕ} → Looks t k → hooks_looked t.racking t.loops ≡ k
unfolding hooks_looked walk_of
looks_one t (Looks.walked e w h) = simp (eq_z_yes t.racking.0 (pos 0) e) (ap (λ (v : Walked). v.looked) ((walk_exactly t.loops w).1 h))
looks_one t (Looks.unwalked d) = simp (eq_z_no t.racking.0 (pos 0) d)

module _ (s : State) (l : List ℕ) (hooks : length s.loops ≡ 500) (ten : length s.carriers ≡ 10) where
  -- the state after a step has as many
  module _ {t : State} {x : Record} (step : Step s x t) where
    tells_after : Tells t (one_if (complete_of t))
    tells_after = let f = step_frame step in tells t (f.loops ∙ hooks) (f.carriers ∙ ten)

    after_one : {c : ℕ} → Tells t c → one_if (complete_of t) ≡ c
    after_one = let f = step_frame step in tells_one t (f.loops ∙ hooks) (f.carriers ∙ ten)

  served : Serves s l (panel_step s l)
  served = either s fair (λ e. subst (Serves s l) (foul_step s l e) (Serves.foul (not_in_range e)))
    where
      fair : StateInRange s → Serves s l (panel_step s l)
      fair h = subst (Serves s l) (sym (service_is_step s l h)) (is (step_of s l).number 0 accepted kept)
        where
          accepted : (step_of s l).number ≡ 0 → Serves s l (step_of s l)
          accepted e =
              let (bytes, rest, x, t, whole, form, step) = (step_accepts s l).0 e in
              subst (Serves s l) (sym (ap (step_of s) whole ∙ step_done s bytes rest x t form step)) (Serves.done h bytes rest x t whole form step _ (tells_after step) _ (looks t))

          kept : ((step_of s l).number ≡ 0 → ⊥) → Serves s l (step_of s l)
          kept d = let r = step_refused s l d in
              subst (Serves s l) (sym (step_keeps s l d)) (Serves.refused h r.no_step (step_of s l).number r.first _ (tells s hooks ten) _ (looks s))

  serves_one : {a : Stepped} → Serves s l a → panel_step s l ≡ a
  serves_one (Serves.foul h) = sym (foul_step s l (not_ok h))
  serves_one (Serves.done h bytes rest x t whole form step c told k seen) =
      service_is_step s l h ∙ ap (step_of s) whole ∙ step_done s bytes rest x t form step
      ∙ (λ i. record { number = 0; complete = after_one step told i; looked = looks_one t seen i; length = length bytes; state = t })
  serves_one (Serves.refused h none n first c told k seen) =
      service_is_step s l h ∙ step_keeps s l refused ∙ ap (λ (m : ℕ). stay m s) (first_is_one (step_refused s l refused).first first)
      ∙ (λ i. record { number = n; complete = tells_one s hooks ten told i; looked = looks_one s seen i; length = 0; state = s })
    where
      refused : (step_of s l).number ≡ 0 → ⊥
      refused e = let (bytes, rest, x, t, whole, form, step) = (step_accepts s l).0 e in none bytes rest x t whole form step

pub step_exactly : StepExactly
step_exactly s l a hooks ten = ((λ e. subst (Serves s l) e (served s l hooks ten)), serves_one s l hooks ten)

-- ---- the carrier list
module _ (s : State) (list : List Carrier) where
  -- carriers 1 to 10 and the rest of the old list make one list
  one_list : {a b : List Carrier} → Listed s list a → Listed s list b → a ≡ b
  one_list {a} {b} p q = ext_get_or inactive a b (p.long ∙ sym q.long) (λ i _. cases (ltb i 10) (λ t. first i (ltb-true i 10 t)) (λ t. later i (ltb-false i 10 t)))
    where
      first : (i : ℕ) → i < 10 → get_or a i inactive ≡ get_or b i inactive
      first i h =
          let e : suc i - 1 ≡ i = omega arith in
          subst (λ (j : ℕ). get_or a j inactive ≡ get_or b j inactive) e (p.carriers (suc i) (omega arith) (omega (arith, h)) ∙ sym (q.carriers (suc i) (omega arith) (omega (arith, h))))

      later : (i : ℕ) → 10 ≤ i → get_or a i inactive ≡ get_or b i inactive
      later i h = p.later i h ∙ sym (q.later i h)

  kept : {a : Served} → list_answer s (length list) ≡ a → (a.number ≡ 0 → ⊥) → carrier_list s list ≡ list
  kept e d = sym (list_kept s list (λ z. d (sym (list_number e) ∙ z)))

  same : {a b : Served} {l m : List Carrier} → a ≡ b → l ≡ m → Lists s list a l → Lists s list b m
  same {b = b} {l = l} e f k = subst (Lists s list b) f (subst (λ (a : Served). Lists s list a l) e k)

  module _ (ten : length s.carriers ≡ 10) where
    written : (list_answer s (length list)).number ≡ 0 → Listed s list (carrier_list s list)
    written e =
        let enough : length s.carriers ≤ length list = omega (arith, ten, list_long s (length list) e) in
        subst (Listed s list) (list_written s list ten e) (record {
          long = long_written s.carriers list enough;
          carriers = λ k h j. get_or-append s.carriers _ inactive (k - 1) (omega (arith, ten));
          later = λ i h. rest_written inactive s.carriers list i (omega (arith, ten));
        })

    listed : Lists s list (list_answer s (length list)) (carrier_list s list)
    listed = either s fair foul
      where
        foul : state_ok s ≡ false → Lists s list (list_answer s (length list)) (carrier_list s list)
        foul f = let e = foul_list s (length list) f in same (sym e) (sym (kept e (λ z. omega (arith, z)))) (Lists.foul (not_in_range f))

        fair : StateInRange s → Lists s list (list_answer s (length list)) (carrier_list s list)
        fair h = cases (ltb (length list) 10) (λ t. short (ltb-true _ 10 t)) (λ t. long (ltb-false _ 10 t))
          where
            short : length list < 10 → Lists s list (list_answer s (length list)) (carrier_list s list)
            short k = let e = short_list s (length list) (fine h) k in same (sym e) (sym (kept e (λ z. omega (arith, z)))) (Lists.short h k)

            long : 10 ≤ length list → Lists s list (list_answer s (length list)) (carrier_list s list)
            long k = let e = long_list s (length list) (fine h) k in same (sym e) refl (Lists.done h k (carrier_list s list) (written (list_number e)))

    lists_one : {a : Served} {after : List Carrier} → Lists s list a after → (list_answer s (length list) ≡ a) × (carrier_list s list ≡ after)
    lists_one (Lists.foul h) = let e = foul_list s (length list) (not_ok h) in (e, kept e (λ z. omega (arith, z)))
    lists_one (Lists.short h k) = let e = short_list s (length list) (fine h) k in (e, kept e (λ z. omega (arith, z)))
    lists_one (Lists.done h k after w) = let e = long_list s (length list) (fine h) k in (e, one_list (written (list_number e)) w)

pub list_exactly : ListExactly
list_exactly s list a after ten = ((λ (e, f). same s list e f (listed s list ten)), lists_one s list ten)
