-- Swaps: when one is made, that it can be undone, and that tests which only tied records pass are kept. Assumes nothing.
use borrow.Table.Steps.{cases}
use Prim.Native.Nat.{ℕ, zero, suc, ◌≤◌}
use mathlib.Core.Path.{◌≡◌, refl, sym, ◌∙◌}
use mathlib.Core.Bool.{Bool, true, false, true≢false}
use mathlib.Core.List.{List, [], ◌∷◌, ◌++◌}
use mathlib.Core.Logic.{◌↔◌}
use native.Mathlib.Omega.{arith}
use lib.ListN.{length}
use Rattle.trace.specs.Lists.{keep}
use Rattle.trace.specs.Records.{Records, tied, Lawful}
use Rattle.trace.specs.Swaps.{Outcome, no_pair, is_tied, made, behind, swap_at, Swaps, no_swap, swap_first}
use Rattle.trace.specs.Order.{in_force}
use Rattle.trace.proofs.Tests.{tied_by_lem, tie_sym}
use Rattle.trace.proofs.Lists.{keep_swap}

-- what a swap behind the head comes from
behind_made : {A : Type 0} (x : A) (t : Outcome A) (m : List A) → behind x t ≡ made m → (n : List A) × (t ≡ made n) × (m ≡ x ∷ n)
behind_made x no_pair m e = absurd (true≢false (cc))
behind_made x is_tied m e = absurd (true≢false (cc))
behind_made x (made l) m e = (l, refl, cc)

module _ {A R : Type 0} (K : Records A R) where
  open K use {is_rack, after, share, meet}

  -- what the lack of a tie rules out
  pub untied : (r : R) (x y : A) → tied K r x y ≡ false → (is_rack x ≡ false) × (is_rack y ≡ false) × (share x y ≡ false) × (meet r x y ≡ false)
  untied r x y e =
      cases (is_rack x) (λ a. absurd (true≢false (cc))) λ a.
      cases (is_rack y) (λ b. absurd (true≢false (cc))) λ b.
      cases (share x y) (λ c. absurd (true≢false (cc))) λ c.
      (a, b, c, cc)

  -- a swap of two neighbours that stand there
  untied_is_made : (r : R) (u : List A) (x y : A) (v : List A) → tied K (in_force K r u) x y ≡ false → swap_at K r (length u) (u ++ x ∷ y ∷ v) ≡ made (u ++ y ∷ x ∷ v)
  untied_is_made r [] x y v t = rw t
  untied_is_made r (z ∷ u) x y v t = rw (untied_is_made (after r z) u x y v t)

  tied_is_refused : (r : R) (u : List A) (x y : A) (v : List A) → tied K (in_force K r u) x y ≡ true → swap_at K r (length u) (u ++ x ∷ y ∷ v) ≡ is_tied
  tied_is_refused r [] x y v t = rw t
  tied_is_refused r (z ∷ u) x y v t = rw (tied_is_refused (after r z) u x y v t)

  pub made_exactly : (r : R) (u : List A) (x y : A) (v : List A) → (swap_at K r (length u) (u ++ x ∷ y ∷ v) ≡ made (u ++ y ∷ x ∷ v)) ↔ (tied K (in_force K r u) x y ≡ false)
  made_exactly r u x y v = (
    (λ e. cases (tied K (in_force K r u) x y) (λ t. absurd (true≢false (cc (tied_is_refused r u x y v t)))) (λ t. t)),
    untied_is_made r u x y v,
  )

  pub refused_exactly : (r : R) (u : List A) (x y : A) (v : List A) → (swap_at K r (length u) (u ++ x ∷ y ∷ v) ≡ is_tied) ↔ (tied K (in_force K r u) x y ≡ true)
  refused_exactly r u x y v = (
    (λ e. cases (tied K (in_force K r u) x y) (λ t. t) (λ t. absurd (true≢false (cc (untied_is_made r u x y v t))))),
    tied_is_refused r u x y v,
  )

  -- and of fewer
  pub short_no_pair : (r : R) (i : ℕ) (l : List A) → length l ≤ suc i → swap_at K r i l ≡ no_pair
  short_no_pair r i [] h = refl
  short_no_pair r zero (x ∷ []) h = refl
  short_no_pair r zero (x ∷ y ∷ l) h = absurd (omega arith)
  short_no_pair r (suc i) (x ∷ l) h = rw (short_no_pair (after r x) i l (omega arith))

  pub no_pair_short : (r : R) (i : ℕ) (l : List A) → swap_at K r i l ≡ no_pair → length l ≤ suc i
  no_pair_short r i [] e = omega arith
  no_pair_short r zero (x ∷ []) e = omega arith
  no_pair_short r zero (x ∷ y ∷ l) e = cases (tied K r x y) (λ t. absurd (true≢false (cc))) (λ t. absurd (true≢false (cc)))
  no_pair_short r (suc i) (x ∷ l) e = go (swap_at K (after r x) i l) refl (no_pair_short (after r x) i l)
    where
      go : (t : Outcome A) → swap_at K (after r x) i l ≡ t → (swap_at K (after r x) i l ≡ no_pair → length l ≤ suc i) → length (x ∷ l) ≤ suc (suc i)
      go no_pair f ih = omega (arith, ih f)
      go is_tied f ih = absurd (true≢false (cc))
      go (made m) f ih = absurd (true≢false (cc))

  pub swaps_append : {r : R} {is js : List ℕ} {l m n : List A} → Swaps K r is l m → Swaps K r js m n → Swaps K r (is ++ js) l n
  swaps_append no_swap t = t
  swaps_append (swap_first e s) t = swap_first e (swaps_append s t)

  -- a swap that is made: of the two records at the front, or behind a record that stays
  pub data Made : R → ℕ → List A → List A → Type 0 where
    here : {r : R} {x y : A} {l : List A} → tied K r x y ≡ false → Made r zero (x ∷ y ∷ l) (y ∷ x ∷ l)
    there : {r : R} {x : A} {i : ℕ} {l m : List A} → Made (after r x) i l m → Made r (suc i) (x ∷ l) (x ∷ m)

  pub made_is : (l m : List A) (r : R) (i : ℕ) → swap_at K r i l ≡ made m → Made r i l m
  made_is [] m r i e = absurd (true≢false (cc))
  made_is (x ∷ []) m r zero e = absurd (true≢false (cc))
  made_is (x ∷ y ∷ l) m r zero e = cases (tied K r x y) (λ t. absurd (true≢false (cc))) (λ t. let f : m ≡ y ∷ x ∷ l = cc in rw f (here t))
  made_is (x ∷ l) m r (suc i) e =
      let (n, f, g) = behind_made x (swap_at K (after r x) i l) m e in
      rw g (there (made_is l n (after r x) i f))

  pub is_made : {r : R} {i : ℕ} {l m : List A} → Made r i l m → swap_at K r i l ≡ made m
  is_made (here t) = rw t
  is_made (there s) = rw (is_made s)

  -- the list of those that pass a test is kept, if two that pass are always tied
  module _ (p : A → Bool) (ok : (r : R) (x y : A) → p x ≡ true → p y ≡ true → tied K r x y ≡ true) where
    made_keep : {r : R} {i : ℕ} {l m : List A} → Made r i l m → keep p l ≡ keep p m
    made_keep (here {r} {x} {y} {l} t) = keep_swap p x y l (λ a b. sym (ok r x y a b) ∙ t)
    made_keep (there s) = let ih = made_keep s in cc

    pub swaps_keep : {r : R} {is : List ℕ} {l m : List A} → Swaps K r is l m → keep p l ≡ keep p m
    swaps_keep no_swap = refl
    swaps_keep {r} (swap_first {i} {l = l} {m = m} e t) = made_keep (made_is l m r i e) ∙ swaps_keep t

  module _ (L : Lawful K) where
    open L use {same_eq, share_sym, meet_sym, meet_refl}

    pub tied_sym : (r : R) (x y : A) → tied K r x y ≡ tied K r y x
    tied_sym r x y = tie_sym (is_rack x) (is_rack y) (share_sym x y) (meet_sym r x y)

    -- equal records are tied
    tied_refl : (r : R) (x : A) → tied K r x x ≡ true
    tied_refl r x = tied_by_lem (is_rack x) (is_rack x) (λ a b. meet_refl r x a)

    pub equals_are_tied : (r : R) (x y : A) → K.same x y ≡ true → tied K r x y ≡ true
    equals_are_tied r x y e = rw (← same_eq x y e) (tied_refl r x)

    -- a swap undoes itself
    pub made_back : {r : R} {i : ℕ} {l m : List A} → Made r i l m → Made r i m l
    made_back (here {r} {x} {y} t) = here (tied_sym r y x ∙ t)
    made_back (there s) = there (made_back s)

    pub swaps_back : {r : R} {is : List ℕ} {l m : List A} → Swaps K r is l m → (js : List ℕ) × Swaps K r js m l
    swaps_back no_swap = ([], no_swap)
    swaps_back {r} (swap_first {i} {is} {l} {m} e t) =
        let (js, s) = swaps_back t in
        (js ++ (i ∷ []), swaps_append s (swap_first (is_made (made_back (made_is l m r i e))) no_swap))
