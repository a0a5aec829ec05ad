-- The house order by insertion: one record more is put behind the last that it is tied to, before the first there that it comes before. Assumes nothing.
use borrow.Table.Steps.{cases}
use Prim.Native.Nat.{ℕ, suc, ◌+◌, ◌≤◌}
use mathlib.Core.Path.{◌≡◌, refl, sym, ap, subst, ◌∙◌}
use mathlib.Core.Bool.{Bool, true, false, ◌||◌, cond, or-true}
use mathlib.Core.List.{List, [], ◌∷◌, ◌++◌}
use native.Mathlib.Omega.{arith}
use mathlib.Core.Logic.{◌⊎◌, inl, inr, ⊎_elim}
use lib.ListN.{length, take, drop, length-drop}
use lib.Seq.{drop-length}
use Rattle.trace.specs.Lists.{keep}
use Rattle.trace.specs.Records.{Records, tied, Lawful}
use Rattle.trace.specs.Swaps.{Swaps, no_swap, swap_first}
use Rattle.trace.specs.Order.{in_force}
use Rattle.trace.specs.House.{Free, Least, HouseOrder, StrictOrder, tied_to_one, up_to_tied, before_greater, spot_of}
use Rattle.trace.proofs.Swaps.{untied, swaps_back, Made, made_is, is_made}
use Rattle.trace.proofs.Stretches.{swaps_records}
use Rattle.trace.proofs.Houses.{refuted, holds_not, Freed, House, tied_self, untied_after, one_rest, swaps_order, order_reached, own_order, nothing_free}

or-false : (a b : Bool) → (a || b) ≡ false → (a ≡ false) × (b ≡ false)
or-false true b e = absurd (holds_not e refl)
or-false false b e = (refl, e)

module _ {A R : Type 0} (K : Records A R) (L : Lawful K) (less : R → A → A → Bool) (S : StrictOrder less) where
  open K use {same, is_rack, after}
  open L use {same_refl, same_eq, after_other}
  open S use {transitive, total}

  -- x put into l, from the front
  placed : R → A → List A → List A
  placed r x [] = x ∷ []
  placed r x (y ∷ l) = cond (tied_to_one K less r x (y ∷ l)) (y ∷ placed (after r y) x l) (cond (less r x y) (x ∷ y ∷ l) (y ∷ placed (after r y) x l))

  -- ---- a record more at the end
  swaps_more : {r : R} {is : List ℕ} {l m : List A} (t : List A) → Swaps K r is l m → Swaps K r is (l ++ t) (m ++ t)
  swaps_more t no_swap = no_swap
  swaps_more {r} t (swap_first {i} {l = l} {m = m} e s) = swap_first (is_made K (more (made_is K l m r i e))) (swaps_more t s)
    where
      more : {r : R} {i : ℕ} {l m : List A} → Made K r i l m → Made K r i (l ++ t) (m ++ t)
      more (Made.here h) = Made.here h
      more (Made.there s) = Made.there (more s)

  -- it is free if it is tied to none; what else is free was so
  abbrev Else : R → A → A → List A → List A → Type 0
  Else r x z w rest = ((others : List A) × Freed K L less S r z w others) ⊎ ((z ≡ x) × (tied_to_one K less r x w ≡ false))

  free_else : {r : R} {x z : A} (w : List A) {rest : List A} → Freed K L less S r z (w ++ x ∷ []) rest → Else r x z w rest
  unfolding tied_to_one
  free_else [] Free.at_front = inr (refl, refl)
  free_else [] (Free.behind d f) = elim f [ ]
  free_else (y ∷ w) Free.at_front = inl (w, Free.at_front)
  free_else {r} {x} {z} (y ∷ w) (Free.behind {rest = rest} d f) = go (free_else w f)
    where
      go : Else r x z w rest → Else r x z (y ∷ w) (y ∷ rest)
      go (inl (others, g)) = inl (y ∷ others, Free.behind d g)
      go (inr (e, t)) = inr (e, let q = refuted (tied K r y x) (λ k. d (subst (λ (v : A). tied K r y v ≡ true) (sym e) k)) in simp (q, t))

  free_last : (r : R) (x : A) (w : List A) → tied_to_one K less r x w ≡ false → Freed K L less S r x (w ++ x ∷ []) w
  unfolding tied_to_one
  free_last r x [] e = Free.at_front
  free_last r x (y ∷ w) e = let (a, b) = or-false (tied K r y x) (tied_to_one K less r x w) e in Free.behind (holds_not a) (free_last r x w b)

  abbrev IsLeast : R → List A → A → Type 0
  IsLeast = Least after (λ r x y. tied K r x y ≡ true) (λ r x y. less r x y ≡ true)

  -- the front of a list in its own house order
  front_own : {r : R} {y : A} {w : List A} → House K L less S r (y ∷ w) (y ∷ w) → IsLeast r (y ∷ w) y × House K L less S (after r y) w w
  front_own {r} {y} {w} (HouseOrder.take_next f least h) = (least, subst (λ (v : List A). House K L less S (after r y) v w) (one_rest K L less S f Free.at_front) h)

  place_order : (r : R) (x : A) (w : List A) → House K L less S r w w → House K L less S r (w ++ x ∷ []) (placed r x w)
  unfolding tied_to_one placed
  place_order r x [] h = HouseOrder.take_next Free.at_front (λ y others f d. ⊎_elim (λ (o, g). absurd (nothing_free K L less S g refl)) (λ (e, t). absurd (d e)) (free_else [] f)) HouseOrder.no_more
  place_order r x (y ∷ w) h = go (front_own h) (place_order (after r y) x w (front_own h).1)
    where
      go : IsLeast r (y ∷ w) y × House K L less S (after r y) w w → House K L less S (after r y) (w ++ x ∷ []) (placed (after r y) x w)
          → House K L less S r (y ∷ w ++ x ∷ []) (placed r x (y ∷ w))
      go (least, own) more =
          cases (tied_to_one K less r x (y ∷ w))
          (λ t. rw t (HouseOrder.take_next Free.at_front (λ z others f d. ⊎_elim (λ (o, g). least z o g d) (λ (e, u). absurd (holds_not u t)) (free_else (y ∷ w) f)) more))
          (λ t.
          let a = (or-false (tied K r y x) (tied_to_one K less r x w) t).0 in
          let stays = (untied_after K L less S r y x (holds_not a)).1 in
          let other : x ≡ y → ⊥ = λ e. holds_not a (subst (λ (v : A). tied K r y v ≡ true) (sym e) (tied_self K L less S r y)) in
          cases (less r x y)
          (λ s. rw (t, s) (HouseOrder.take_next (free_last r x (y ∷ w) t)
          (λ z others f d. ⊎_elim
          (λ (o, g). cases (same z y) (λ e. subst (λ (v : A). less r x v ≡ true) (sym (same_eq z y e)) s)
          (λ e. transitive r x y z s (least z o g (λ k. holds_not e (subst (λ (v : A). same z v ≡ true) k (same_refl z))))))
          (λ (e, u). absurd (d e)) (free_else (y ∷ w) f))
          (subst (λ (q : R). House K L less S q (y ∷ w) (y ∷ w)) (sym stays) h)))
          (λ s. rw (t, s) (HouseOrder.take_next Free.at_front
          (λ z others f d. ⊎_elim (λ (o, g). least z o g d) (λ (e, u). subst (λ (v : A). less r y v ≡ true) (sym e) (total r x y other s)) (free_else (y ∷ w) f))
          more)))

  inserted : (x : A) {r : R} {l m : List A} → House K L less S r l m → House K L less S r (l ++ x ∷ []) (placed r x m)
  inserted x {r} {l} {m} h =
      let (is, s) = order_reached K L less S h in
      swaps_order K L less S (place_order r x m (own_order K L less S h)) (swaps_back K L (swaps_more (x ∷ []) s)).1

  -- ---- where it is put
  -- all that it is tied to, and what stands behind them, keep their order
  pub none_tied : (r : R) (x : A) (l : List A) → tied_to_one K less r x l ≡ false → up_to_tied K less r x l ≡ 0
  unfolding up_to_tied
  none_tied r x [] e = refl
  none_tied r x (y ∷ l) e = simp e

  pub nothing_tied : (r : R) (x : A) → tied_to_one K less r x [] ≡ false
  unfolding tied_to_one
  nothing_tied r x = refl

  untied_one : (r : R) (x y : A) (l : List A) → tied_to_one K less r x (y ∷ l) ≡ false → (tied K r y x ≡ false) × (tied_to_one K less r x l ≡ false)
  unfolding tied_to_one
  untied_one r x y l e = or-false (tied K r y x) (tied_to_one K less r x l) e

  -- before the first that it comes before
  placed_before : (r : R) (x : A) (v : List A) → tied_to_one K less r x v ≡ false → placed r x v ≡ take (before_greater K less r x v) v ++ x ∷ drop (before_greater K less r x v) v
  unfolding placed before_greater
  placed_before r x [] e = refl
  placed_before r x (y ∷ v) e =
      let (a, b) = untied_one r x y v e in
      let ih = placed_before r x v b in
      let stays = (untied_after K L less S r y x (holds_not a)).0 in
      cases (less r x y) (λ s. simp (e, s)) (λ s. simp (e, s, stays) (ap (λ (l : List A). y ∷ l) ih))

  -- it passes no rack
  pub no_rack : (r q : R) (x : A) (v : List A) → tied_to_one K less r x v ≡ false → in_force K q v ≡ q
  no_rack r q x [] e = refl
  no_rack r q x (y ∷ v) e =
      let (a, b) = untied_one r x y v e in
      let c = (untied K r y x a).0 in
      ap (λ (t : R). in_force K t v) (after_other q y c) ∙ no_rack r q x v b

  -- being tied to one is the same at the racking in force at the end: a rack between ties at any
  tied_end : (r : R) (x : A) (l : List A) → tied_to_one K less (in_force K r l) x l ≡ tied_to_one K less r x l
  unfolding tied_to_one
  tied_end r x [] = refl
  tied_end r x (y ∷ l) =
      cases (is_rack y) (λ a. simp a)
      (λ a. let e = after_other r y a in
      cases (tied_to_one K less r x l)
      (λ t. let f = tied_end r x l ∙ t in let g = subst (λ (q : R). tied_to_one K less (in_force K q l) x l ≡ true) (sym e) f in simp (t, g, or-true (tied K r y x), or-true (tied K (in_force K (after r y) l) y x)))
      (λ t. let f = tied_end r x l ∙ t in
      let g = subst (λ (q : R). tied_to_one K less (in_force K q l) x l ≡ false) (sym e) f in
      let h : in_force K (after r y) l ≡ r = no_rack r (after r y) x l t ∙ e in
      simp (g, h, t)))

  placed_spot : (r : R) (x : A) (l : List A) → placed r x l ≡ take (spot_of K less (in_force K r l) x l) l ++ x ∷ drop (spot_of K less (in_force K r l) x l) l
  unfolding placed up_to_tied
  placed_spot r x [] = let e : spot_of K less r x [] ≡ before_greater K less r x [] = omega arith in
      placed_before r x [] (nothing_tied r x) ∙ ap (λ (k : ℕ). take k [] ++ x ∷ drop k []) (sym e)
  placed_spot r x (y ∷ l) =
      let q = in_force K r (y ∷ l) in let n = spot_of K less q x l in
      let same-tie = tied_end r x (y ∷ l) in
      cases (tied_to_one K less r x (y ∷ l))
      (λ t.
      let up : up_to_tied K less q x (y ∷ l) ≡ suc (up_to_tied K less q x l) = simp (same-tie ∙ t) in
      let at : spot_of K less q x (y ∷ l) ≡ suc (up_to_tied K less q x l) + before_greater K less q x (drop (up_to_tied K less q x l) l) =
      ap (λ (k : ℕ). k + before_greater K less q x (drop k (y ∷ l))) up in
      let e : spot_of K less q x (y ∷ l) ≡ suc n = omega (arith, at) in
      simp t (ap (λ (m : List A). y ∷ m) (placed_spot (after r y) x l)) ∙ ap (λ (k : ℕ). take k (y ∷ l) ++ x ∷ drop k (y ∷ l)) (sym e))
      (λ t.
      let up : up_to_tied K less q x (y ∷ l) ≡ 0 = none_tied q x (y ∷ l) (same-tie ∙ t) in
      let f : q ≡ r = no_rack r r x (y ∷ l) t in
      let at : spot_of K less q x (y ∷ l) ≡ 0 + before_greater K less q x (y ∷ l) = ap (λ (k : ℕ). k + before_greater K less q x (drop k (y ∷ l))) up in
      let e : spot_of K less q x (y ∷ l) ≡ before_greater K less r x (y ∷ l) = omega (arith, at, ap (λ (w : R). before_greater K less w x (y ∷ l)) f) in
      placed_before r x (y ∷ l) t ∙ ap (λ (k : ℕ). take k (y ∷ l) ++ x ∷ drop k (y ∷ l)) (sym e))

  -- ---- the racking in force at the end goes by the racks alone
  by_racks : (r : R) (l : List A) → in_force K r l ≡ in_force K r (keep is_rack l)
  by_racks r [] = refl
  by_racks r (x ∷ l) = cases (is_rack x) (λ a. simp a (by_racks (after r x) l)) (λ a. simp a (ap (λ (q : R). in_force K q l) (after_other r x a) ∙ by_racks r l))

  pub force_kept : {r : R} {is : List ℕ} {l m : List A} → Swaps K r is l m → in_force K r l ≡ in_force K r m
  force_kept {r} {l = l} {m = m} s = by_racks r l ∙ ap (in_force K r) (swaps_records K s).racks ∙ sym (by_racks r m)

  -- ---- the house order with one record more
  pub put_in : (r : R) (l m : List A) (x : A) → House K L less S r l m
      → House K L less S r (l ++ x ∷ []) (take (spot_of K less (in_force K r l) x m) m ++ x ∷ drop (spot_of K less (in_force K r l) x m) m)
  put_in r l m x h =
      let f = force_kept (order_reached K L less S h).1 in
      subst (House K L less S r (l ++ x ∷ [])) (placed_spot r x m ∙ ap (λ (q : R). take (spot_of K less q x m) m ++ x ∷ drop (spot_of K less q x m) m) (sym f)) (inserted x h)

  -- no further than the end
  pub tied_bound : (r : R) (x : A) (l : List A) → up_to_tied K less r x l ≤ length l
  unfolding up_to_tied
  tied_bound r x [] = omega arith
  tied_bound r x (y ∷ l) = let ih = tied_bound r x l in cases (tied_to_one K less r x (y ∷ l)) (λ t. simp t (omega (arith, ih))) (λ t. simp t (omega arith))

  greater_bound : (r : R) (x : A) (l : List A) → before_greater K less r x l ≤ length l
  unfolding before_greater
  greater_bound r x [] = omega arith
  greater_bound r x (y ∷ l) = let ih = greater_bound r x l in cases (less r x y) (λ t. simp t (omega arith)) (λ t. simp t (omega (arith, ih)))

  pub spot_bound : (r : R) (x : A) (l : List A) → spot_of K less r x l ≤ length l
  spot_bound r x l = let n = up_to_tied K less r x l in omega (arith, tied_bound r x l, greater_bound r x (drop n l), length-drop n l)

  -- a rack goes to the end
  rack_tied : (r : R) (x : A) (l : List A) → is_rack x ≡ true → up_to_tied K less r x l ≡ length l
  unfolding tied_to_one up_to_tied
  rack_tied r x [] a = refl
  rack_tied r x (y ∷ l) a = let ih = rack_tied r x l a in let t : tied K r y x ≡ true = cases (is_rack y) (λ b. simp b) (λ b. simp (a, b)) in simp t (ap suc ih)

  pub rack_spot : (r : R) (x : A) (l : List A) → is_rack x ≡ true → spot_of K less r x l ≡ length l
  unfolding before_greater
  rack_spot r x l a =
      let at : spot_of K less r x l ≡ length l + before_greater K less r x (drop (length l) l) = ap (λ (k : ℕ). k + before_greater K less r x (drop k l)) (rack_tied r x l a) in
      omega (arith, at, ap (before_greater K less r x) (drop-length l))

  -- ---- as a walk from the end finds it: none of v is tied, and what stands before v is tied, or v is all
  tied_later : (r : R) (x : A) (u : List A) (z : A) (v : List A) → tied K r z x ≡ true → tied_to_one K less r x (u ++ z ∷ v) ≡ true
  unfolding tied_to_one
  tied_later r x [] z v t = simp t
  tied_later r x (y ∷ u) z v t = simp (tied_later r x u z v t, or-true (tied K r y x))

  pub last_tied : (r : R) (x : A) (u : List A) (z : A) (v : List A) → tied_to_one K less r x v ≡ false → tied K r z x ≡ true → up_to_tied K less r x (u ++ z ∷ v) ≡ length u + 1
  unfolding up_to_tied
  last_tied r x [] z v e t = simp (tied_later r x [] z v t, none_tied r x v e)
  last_tied r x (y ∷ u) z v e t = let ih = last_tied r x u z v e t in simp (tied_later r x (y ∷ u) z v t) (omega (arith, ih))
