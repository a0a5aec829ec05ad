-- The walks over the records before one: back to the last that it is tied to, and on to the first that it comes before. Assumes nothing.
use Prim.Native.Nat.{ℕ, suc, ◌+◌, ◌≤◌, ◌<◌}
use mathlib.Core.Path.{◌≡◌, sym, ap, ◌∙◌}
use mathlib.Core.Bool.{true, false, ◌||◌}
use mathlib.Core.List.{List, [], ◌∷◌, ◌++◌}
use native.Mathlib.Omega.{arith}
use native.Mathlib.Numerals.{add-one}
use lib.ListN.{length, take, drop, get_or, length-map, drop_of_length-le, get_or-map}
use lib.Seq.{length-take-le, drop-cons, split_at, get_or-take}
use Rattle.machine.specs.declared.Racking.{Racking}
use Rattle.trace.specs.Records.{tied}
use Rattle.trace.specs.House.{tied_to_one, up_to_tied, before_greater}
use Rattle.trace.proofs.Insertions.{nothing_tied, none_tied, last_tied, tied_bound}
use Rattle.rewrite.specs.Programs.{knitting}
use Rattle.rewrite.proofs.Lawful.{lawful}
use Rattle.house.specs.Order.{comes_first}
use Rattle.house.specs.Arranged.{record_in, records_at, record_of, tied_up_to}
use Rattle.house.proofs.Comparison.{comparison_strict}

module _ (p w : List ℕ) (j : ℕ) (r : Racking) (h : j < length w) where
  -- the records before entry j, and the one that it holds
  abbrev earlier : List (List ℕ)
  earlier = records_at p (take j w)

  abbrev own : List ℕ
  own = record_of p w j

  pub earlier_length : length earlier ≡ j
  earlier_length = length-map (take j w) (record_in p) ∙ length-take-le j w (omega arith)

  earlier_at : (i : ℕ) → i < j → get_or earlier i (record_in p 0) ≡ record_of p w i
  earlier_at i k = get_or-map (record_in p) (take j w) i 0 ∙ ap (record_in p) (get_or-take j w i 0 k)

  earlier_from : (i : ℕ) → i < j → drop i earlier ≡ record_of p w i ∷ drop (i + 1) earlier
  earlier_from i k =
      drop-cons earlier i (record_in p 0) (omega (arith, earlier_length)) ∙ (λ n. earlier_at i k n ∷ drop (sym (add-one i) n) earlier)

  none_left : drop j earlier ≡ []
  none_left = let q : length earlier ≤ j = omega (arith, earlier_length) in drop_of_length-le earlier q

  -- ---- back to the last that is tied
  abbrev untied : ℕ → Type 0
  untied i = tied_to_one knitting comes_first r own (drop i earlier) ≡ false

  pub back_first : untied j
  back_first = ap (tied_to_one knitting comes_first r own) none_left ∙ nothing_tied knitting lawful comes_first comparison_strict r own

  pub back_on : (i : ℕ) → i < j → untied (i + 1) → tied knitting r (record_of p w i) own ≡ false → untied i
  unfolding tied_to_one
  back_on i k u t =
      ap (tied_to_one knitting comes_first r own) (earlier_from i k) ∙ (λ n. t n || tied_to_one knitting comes_first r own (drop (i + 1) earlier)) ∙ u

  pub back_tied : (i : ℕ) → i < j → untied (i + 1) → tied knitting r (record_of p w i) own ≡ true → tied_up_to p w j r ≡ i + 1
  back_tied i k u t =
      let d = record_in p 0 in
      let cut : earlier ≡ take i earlier ++ record_of p w i ∷ drop (i + 1) earlier =
      split_at earlier i d (omega (arith, earlier_length)) ∙ (λ n. take i earlier ++ earlier_at i k n ∷ drop (sym (add-one i) n) earlier) in
      let z : length (take i earlier) ≡ i = length-take-le i earlier (omega (arith, earlier_length)) in
      let q = last_tied knitting lawful comes_first comparison_strict r own (take i earlier) (record_of p w i) (drop (i + 1) earlier) u t in
      ap (up_to_tied knitting comes_first r own) cut ∙ q ∙ ap (λ (n : ℕ). n + 1) z

  pub back_none : untied 0 → tied_up_to p w j r ≡ 0
  back_none u = none_tied knitting lawful comes_first comparison_strict r own earlier u

  -- ---- on to the first that it comes before
  abbrev on_from : ℕ → ℕ
  on_from k = k + before_greater knitting comes_first r own (drop k earlier)

  pub on_next : (k : ℕ) → k < j → comes_first r own (record_of p w k) ≡ false → on_from k ≡ on_from (k + 1)
  unfolding before_greater
  on_next k s f =
      let e : before_greater knitting comes_first r own (drop k earlier) ≡ suc (before_greater knitting comes_first r own (drop (k + 1) earlier)) =
      ap (before_greater knitting comes_first r own) (earlier_from k s) ∙ simp f in
      omega (arith, e)

  pub on_stop : (k : ℕ) → k < j → comes_first r own (record_of p w k) ≡ true → on_from k ≡ k
  unfolding before_greater
  on_stop k s f =
      let e : before_greater knitting comes_first r own (drop k earlier) ≡ 0 = ap (before_greater knitting comes_first r own) (earlier_from k s) ∙ simp f in
      omega (arith, e)

  pub on_end : (k : ℕ) → j ≤ k → k ≤ j → on_from k ≡ j
  unfolding before_greater
  on_end k a b =
      let f : k ≡ j = omega arith in
      let e : before_greater knitting comes_first r own (drop k earlier) ≡ 0 = ap (λ (n : ℕ). before_greater knitting comes_first r own (drop n earlier)) f ∙ ap (before_greater knitting comes_first r own) none_left in
      omega (arith, e)

  pub tied_small : tied_up_to p w j r ≤ j
  tied_small = omega (arith, tied_bound knitting lawful comes_first comparison_strict r own earlier, earlier_length)

pub ruleset backward = (back_first, back_on, back_tied, back_none)

pub ruleset forward = (on_next, on_stop, on_end)
