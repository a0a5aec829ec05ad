-- A test whether an answer is as a row says, and that it says so. Assumes nothing.
use Prim.Native.Nat.{ℕ}
use mathlib.Core.Path.{◌≡◌, refl, ◌∙◌}
use mathlib.Core.Bool.{Bool, true, ◌&&◌}
use mathlib.Core.List.{List}
use lib.IntN.{ℤ, pos}
use lib.Dec.{eqb}
use borrow.Author.Tests.{eqb-true}
use Rattle.machine.proofs.Signed.{eq_z_true}
use Rattle.std.proofs.lemmas.Bool.{and_parts}
use Rattle.machine.specs.declared.Needle.{Needle}
use Rattle.machine.specs.declared.Carrier.{Carrier}
use Rattle.machine.specs.declared.State.{State}
use Rattle.machine.specs.Machine.{loops_on, carrier_of, complete_of, no_loops, all_inactive}
use Rattle.machine.specs.Geometry.{eq_z}
use Rattle.run.specs.declared.Answer.{Answer}
use Rattle.pieces.specs.Rows.{Expected}
use Rattle.pieces.specs.Pieces.{Says}
use Rattle.pieces.proofs.Tests.{same_bool, same_bool_lem, every, each}

unfoldable pub same_carrier : Carrier → Carrier → Bool
same_carrier c d =
    eqb c.active d.active && (eqb c.side d.side && (eq_z c.slot.0 d.slot.0 && (eqb c.needle.0 d.needle.0 && eqb c.needle.1 d.needle.1)))

fields : (a b x y a' b' x' y' : ℕ) (z z' : ℤ) → a ≡ a' → b ≡ b' → z ≡ z' → x ≡ x' → y ≡ y'
    → ◌≡◌ {A = Carrier} (record { active = a; side = b; slot = record { 0 = z }; needle = record { 0 = x; 1 = y } })
    (record { active = a'; side = b'; slot = record { 0 = z' }; needle = record { 0 = x'; 1 = y' } })
fields a b x y a' b' x' y' z z' p q r t u = cc

same_carrier_lem : (c d : Carrier) → same_carrier c d ≡ true → c ≡ d
unfolding same_carrier
same_carrier_lem c d e =
    let (p, e1) = and_parts (eqb c.active d.active) _ e in
    let (q, e2) = and_parts (eqb c.side d.side) _ e1 in
    let (r, e3) = and_parts (eq_z c.slot.0 d.slot.0) _ e2 in
    let (t, u) = and_parts (eqb c.needle.0 d.needle.0) (eqb c.needle.1 d.needle.1) e3 in
    fields c.active c.side c.needle.0 c.needle.1 d.active d.side d.needle.0 d.needle.1 c.slot.0 d.slot.0
    (eqb-true _ _ p) (eqb-true _ _ q) (eq_z_true _ _ r) (eqb-true _ _ t) (eqb-true _ _ u)

unfoldable pub hooks_test : State → List (Needle × ℕ) → Bool
hooks_test s l = every (λ (h : Needle × ℕ). eqb (loops_on s h.0) h.1) l

unfoldable pub carriers_test : State → List (ℕ × Carrier) → Bool
carriers_test s l = every (λ (k : ℕ × Carrier). same_carrier (carrier_of s k.0) k.1) l

unfoldable pub state_test : State → Expected → Bool
state_test s e = eq_z s.racking.0 e.racking && (eqb s.limit e.limit && (hooks_test s e.hooks && carriers_test s e.carriers))

-- complete is asked of the state that is left: where complete_of stays folded, a run does not ask it after every record
unfoldable pub whole_test : State → Bool
whole_test s = eq_z s.racking.0 (pos 0) && (no_loops s.loops && all_inactive s.carriers)

whole : (s : State) → complete_of s ≡ whole_test s
unfolding complete_of whole_test
whole s = refl

unfoldable pub says_test : Answer → Expected → Bool
says_test a e = eqb a.number e.number && (eqb a.place e.place && (same_bool (whole_test a.state) e.complete && state_test a.state e))

pub test_says : (a : Answer) (e : Expected) → a.complete ≡ complete_of a.state → says_test a e ≡ true → Says a e
unfolding says_test state_test hooks_test carriers_test
test_says a e w t =
    let (n, t1) = and_parts (eqb a.number e.number) _ t in
    let (p, t2) = and_parts (eqb a.place e.place) _ t1 in
    let (c, t3) = and_parts (same_bool (whole_test a.state) e.complete) _ t2 in
    let (r, t4) = and_parts (eq_z a.state.racking.0 e.racking) _ t3 in
    let (l, t5) = and_parts (eqb a.state.limit e.limit) _ t4 in
    let (h, k) = and_parts (hooks_test a.state e.hooks) (carriers_test a.state e.carriers) t5 in
    record {
      number = eqb-true _ _ n;
      place = eqb-true _ _ p;
      complete = w ∙ (whole a.state ∙ same_bool_lem _ _ c);
      racking = eq_z_true _ _ r;
      limit = eqb-true _ _ l;
      hooks = each _ _ (λ h f. eqb-true _ _ f) e.hooks h;
      carriers = each _ _ (λ k f. same_carrier_lem _ _ f) e.carriers k;
    }
