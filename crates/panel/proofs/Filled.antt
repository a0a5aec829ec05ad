-- The carrier list as it is written over the front of another, and as it is defined. Assumes nothing.
use borrow.Table.Steps.{cases}
use Prim.Native.Nat.{ℕ, zero, suc, ◌+◌, ◌-◌, ◌<◌, ◌≤◌}
use mathlib.Core.Path.{◌≡◌, refl, sym, ap, ◌∙◌}
use mathlib.Core.List.{List, [], ◌∷◌, ◌++◌}
use native.Mathlib.Omega.{arith}
use lib.Dec.{ltb}
use lib.ListN.{length, get_or, set, take, drop, length-set}
use lib.Seq.{take_all, length_front, length-take-le, get_or-append-add, get_or-drop}
use borrow.Author.Tests.{eq-eqb, ne_eqb, ltb-true, ltb-false}
use Rattle.machine.specs.declared.State.{State}
use Rattle.machine.specs.declared.Carrier.{Carrier}
use Rattle.machine.specs.Machine.{inactive}
use Rattle.machine.specs.Range.{state_ok}
use Rattle.panel.specs.Panel.{list_answer, carrier_list}
use Rattle.panel.proofs.Services.{foul_list, short_list, list_number}

-- ---- a list whose first i entries were made those of another, one after the other
module _ {X : Type 0} (d : X) where
  abbrev pub filled : List X → List X → ℕ → List X
  filled from list zero = list
  filled from list (suc i) = set (filled from list i) i (get_or from i d)

  pub length_filled : (from list : List X) (i : ℕ) → length (filled from list i) ≡ length list
  length_filled from list zero = refl
  length_filled from list (suc i) = length-set (filled from list i) i (get_or from i d) ∙ length_filled from list i

  one_more : (from list : List X) (i : ℕ) → i < length from → i < length list → set (take i from ++ drop i list) i (get_or from i d) ≡ take (suc i) from ++ drop (suc i) list
  one_more [] list i h k = absurd (omega arith)
  one_more (x ∷ from) [] i h k = absurd (omega arith)
  one_more (x ∷ from) (y ∷ list) zero h k = refl
  one_more (x ∷ from) (y ∷ list) (suc i) h k = ap (λ (l : List X). x ∷ l) (one_more from list i (omega arith) (omega arith))

  filled_is : (from list : List X) (i : ℕ) → i ≤ length from → i ≤ length list → filled from list i ≡ take i from ++ drop i list
  filled_is from list zero h k = refl
  filled_is from list (suc i) h k = ap (λ (l : List X). set l i (get_or from i d)) (filled_is from list i (omega arith) (omega arith)) ∙ one_more from list i h k

-- a list that was written over another's front: its length, its rest
module _ {X : Type 0} where
  pub long_written : (from list : List X) → length from ≤ length list → length (from ++ drop (length from) list) ≡ length list
  long_written from list k = length_front list from (length from) (sym (length-take-le (length from) list k))

  pub rest_written : (d : X) (from list : List X) (i : ℕ) → length from ≤ i → get_or (from ++ drop (length from) list) i d ≡ get_or list i d
  rest_written d from list i h =
      let n = length from in
      let e : i ≡ n + (i - n) = omega arith in
      ap (λ (j : ℕ). get_or (from ++ drop n list) j d) e ∙ get_or-append-add from (drop n list) (i - n) d ∙ get_or-drop n list (i - n) d ∙ ap (λ (j : ℕ). get_or list j d) (sym e)

-- ---- the list of a call that is done, and of one that is refused
module _ (s : State) where
  pub list_long : (n : ℕ) → (list_answer s n).number ≡ 0 → 10 ≤ n
  list_long n e =
      cases (state_ok s) (λ h. cases (ltb n 10) (λ t. absurd (omega (arith, list_number (short_list s n h (ltb-true n 10 t)), e))) (ltb-false n 10))
      (λ h. absurd (omega (arith, list_number (foul_list s n h), e)))

  module _ (list : List Carrier) where
    pub list_written : length s.carriers ≡ 10 → (list_answer s (length list)).number ≡ 0 → s.carriers ++ drop (length s.carriers) list ≡ carrier_list s list
    unfolding carrier_list
    list_written ten e = ap (λ (n : ℕ). s.carriers ++ drop n list) ten ∙ sym (simp (eq-eqb _ _ e))

    pub list_filled : length s.carriers ≡ 10 → (list_answer s (length list)).number ≡ 0 → filled inactive s.carriers list 10 ≡ carrier_list s list
    unfolding carrier_list
    list_filled ten e =
        filled_is inactive s.carriers list 10 (omega (arith, ten)) (list_long (length list) e)
        ∙ ap (λ (l : List Carrier). l ++ drop 10 list) (take_all 10 s.carriers (omega (arith, ten))) ∙ sym (simp (eq-eqb _ _ e))

    pub list_kept : ((list_answer s (length list)).number ≡ 0 → ⊥) → list ≡ carrier_list s list
    unfolding carrier_list
    list_kept e = simp (ne_eqb _ _ e)
