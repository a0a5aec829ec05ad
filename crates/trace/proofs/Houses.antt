-- The house order: there is one and no second, the definition computes it, and swaps keep it and lead to it. Assumes nothing.
use borrow.Table.Steps.{cases}
use Prim.Native.Nat.{ℕ, zero, suc}
use mathlib.Core.Path.{◌≡◌, refl, sym, ap, subst, ◌∙◌}
use mathlib.Core.Bool.{Bool, true, false, not, cond, true≢false}
use mathlib.Core.List.{List, [], ◌∷◌, ◌++◌, map}
use mathlib.Core.Logic.{◌⊎◌, inl, inr, ⊎_elim}
use native.Mathlib.Omega.{arith}
use lib.ListN.{length}
use Rattle.trace.specs.Lists.{keep}
use Rattle.trace.specs.Records.{Records, tied, Lawful}
use Rattle.trace.specs.Swaps.{Swaps, no_swap, swap_first}
use Rattle.trace.specs.House.{Free, HouseOrder, NoEarlier, StrictOrder, InHouseOrder, free_of, least_of, without, next_of, taken, house_order}
use Rattle.trace.proofs.Swaps.{untied, tied_sym, equals_are_tied, made_back, swaps_append, Made, made_is, is_made}

-- a test that does not hold
pub refuted : (b : Bool) → (b ≡ true → ⊥) → b ≡ false
refuted true d = absurd (d refl)
refuted false d = refl

pub holds_not : {b : Bool} → b ≡ false → b ≡ true → ⊥
holds_not e f = true≢false (sym f ∙ e)

-- ---- other words for ties and comparison give the same relation
module _ {A R : Type 0} (after : R → A → R) {T C U D : R → A → A → Type 0}
    (to : (r : R) (x y : A) → T r x y → U r x y) (back : (r : R) (x y : A) → U r x y → T r x y) (first : (r : R) (x y : A) → C r x y → D r x y) where
  free_words : {r : R} {x : A} {l rest : List A} → Free after U D r x l rest → Free after T C r x l rest
  free_words Free.at_front = Free.at_front
  free_words {r} {x} (Free.behind {y} d f) = Free.behind (λ t. d (to r y x t)) (free_words f)

  words_free : {r : R} {x : A} {l rest : List A} → Free after T C r x l rest → Free after U D r x l rest
  words_free Free.at_front = Free.at_front
  words_free {r} {x} (Free.behind {y} d f) = Free.behind (λ t. d (back r y x t)) (words_free f)

  pub in_words : {r : R} {l m : List A} → HouseOrder after T C r l m → HouseOrder after U D r l m
  in_words HouseOrder.no_more = HouseOrder.no_more
  in_words {r} (HouseOrder.take_next {x = x} f least h) =
      HouseOrder.take_next (words_free f) (λ y others g d. first r x y (least y others (free_words g) d)) (in_words h)

module _ {A R : Type 0} (K : Records A R) (L : Lawful K) (less : R → A → A → Bool) (S : StrictOrder less) where
  open K use {same, is_rack, after}
  open L use {same_refl, same_eq, after_other}
  open S use {irreflexive, transitive, total}

  abbrev pub Freed : R → A → List A → List A → Type 0
  Freed = Free after (λ r x y. tied K r x y ≡ true) (λ r x y. less r x y ≡ true)

  abbrev pub House : R → List A → List A → Type 0
  House = InHouseOrder K less

  pub tied_self : (r : R) (x : A) → tied K r x x ≡ true
  tied_self r x = equals_are_tied K L r x x (same_refl x)

  -- what is not tied is no rack, so that the racking stays
  pub untied_after : (r : R) (x y : A) → (tied K r x y ≡ true → ⊥) → (after r x ≡ r) × (after r y ≡ r)
  untied_after r x y d = let (a, b, c, e) = untied K r x y (refuted (tied K r x y) d) in (after_other r x a, after_other r y b)

  -- ---- one house order
  -- what remains is fixed
  rest_of_equals : {r : R} {x z : A} {l u v : List A} → Freed r x l u → Freed r z l v → x ≡ z → u ≡ v
  rest_of_equals Free.at_front Free.at_front q = refl
  rest_of_equals {r} {x} Free.at_front (Free.behind d g) q = absurd (d (subst (λ (w : A). tied K r x w ≡ true) q (tied_self r x)))
  rest_of_equals {r} {z = z} (Free.behind d f) Free.at_front q = absurd (d (subst (λ (w : A). tied K r z w ≡ true) (sym q) (tied_self r z)))
  rest_of_equals (Free.behind {y} d f) (Free.behind e g) q = ap (λ (l : List A). y ∷ l) (rest_of_equals f g q)

  pub one_rest : {r : R} {x : A} {l u v : List A} → Freed r x l u → Freed r x l v → u ≡ v
  one_rest f g = rest_of_equals f g refl

  -- two that are both the least are equal
  one_least : {r : R} {x y : A} {l u v : List A} → Freed r x l u → ((z : A) (o : List A) → Freed r z l o → (z ≡ x → ⊥) → less r x z ≡ true)
      → Freed r y l v → ((z : A) (o : List A) → Freed r z l o → (z ≡ y → ⊥) → less r y z ≡ true) → x ≡ y
  one_least {r} {x} {y} {l} {u} {v} f p g q =
      cases (same x y) (same_eq x y)
      (λ e.
      let d : x ≡ y → ⊥ = λ k. holds_not e (subst (λ (z : A). same x z ≡ true) k (same_refl x)) in
      absurd (holds_not (irreflexive r x) (transitive r x y x (p y v g (λ k. d (sym k))) (q x u f d))))

  pub one_order : {r : R} {l m n : List A} → House r l m → House r l n → m ≡ n
  one_order HouseOrder.no_more HouseOrder.no_more = refl
  one_order HouseOrder.no_more (HouseOrder.take_next g q k) = elim g [ ]
  one_order (HouseOrder.take_next f p h) HouseOrder.no_more = elim f [ ]
  one_order {r} {l} (HouseOrder.take_next {x = x} f p h) (HouseOrder.take_next {x = y} {rest = v} {m = n} g q k) =
      let e = one_least f p g q in
      let g' = subst (λ (z : A). Freed r z l v) (sym e) g in
      let k' = subst (λ (z : A). House (after r z) v n) (sym e) k in
      let k'' = subst (λ (w : List A). House (after r x) w n) (sym (one_rest f g')) k' in
      (λ i. e i ∷ one_order h k'' i)

  -- ---- the definition computes it
  data In (x : A) : List A → Type 0 where
    first : {l : List A} → In x (x ∷ l)
    later : {y : A} {l : List A} → In x l → In x (y ∷ l)

  first_or : {x y : A} {l : List A} → In x (y ∷ l) → (x ≡ y) ⊎ In x l
  first_or In.first = inl refl
  first_or (In.later i) = inr i

  keep_in : (p : A → Bool) (x : A) (l : List A) → In x (keep p l) → In x l × (p x ≡ true)
  keep_in p x [] i = elim i [ ]
  keep_in p x (y ∷ l) i = cases (p y) (λ e. kept (keep_in p x l) e (first_or (rw e at i))) (λ e. let (j, f) = keep_in p x l (rw e at i) in (In.later j, f))
    where
      kept : (In x (keep p l) → In x l × (p x ≡ true)) → p y ≡ true → (x ≡ y) ⊎ In x (keep p l) → In x (y ∷ l) × (p x ≡ true)
      kept ih e (inl k) = rw k (In.first, e)
      kept ih e (inr j) = let (k, f) = ih j in (In.later k, f)

  in_keep : (p : A → Bool) (x : A) (l : List A) → p x ≡ true → In x l → In x (keep p l)
  in_keep p x [] e i = elim i [ ]
  in_keep p x (y ∷ l) e In.first = rw e In.first
  in_keep p x (y ∷ l) e (In.later i) = let j = in_keep p x l e i in cases (p y) (λ f. rw f (In.later j)) (λ f. rw f j)

  not-true : (b : Bool) → not b ≡ true → b ≡ false
  not-true true e = sym e
  not-true false e = refl

  -- what is free, and what remains
  in_free : (r : R) (z : A) (l : List A) → In z (free_of K less r l) → Freed r z l (without K less z l)
  unfolding free_of without
  in_free r z [] i = elim i [ ]
  in_free r z (x ∷ l) In.first = rw (same_refl x) Free.at_front
  in_free r z (x ∷ l) (In.later i) =
      let (j, e) = keep_in (λ y. not (tied K r x y)) z (free_of K less r l) i in
      let t = not-true (tied K r x z) e in
      let d : same z x ≡ false = refuted (same z x) (λ s. holds_not t (subst (λ (w : A). tied K r x w ≡ true) (sym (same_eq z x s)) (tied_self r x))) in
      rw d (Free.behind (holds_not t) (in_free r z l j))

  free_in : {r : R} {z : A} {l rest : List A} → Freed r z l rest → In z (free_of K less r l)
  unfolding free_of
  free_in Free.at_front = In.first
  free_in {r} {z} (Free.behind {y} {l} d f) = In.later (in_keep (λ w. not (tied K r y w)) z (free_of K less r l) (ap not (refuted (tied K r y z) d)) (free_in f))

  -- the least is one of them, and no other is less
  abbrev NotLess : R → A → A → Type 0
  NotLess r x y = (y ≡ x) ⊎ (less r x y ≡ true)

  not_less_trans : (r : R) (x y z : A) → NotLess r x y → NotLess r y z → NotLess r x z
  not_less_trans r x y z (inl e) k = subst (λ (w : A). NotLess r w z) e k
  not_less_trans r x y z (inr e) (inl k) = inr (subst (λ (w : A). less r x w ≡ true) (sym k) e)
  not_less_trans r x y z (inr e) (inr k) = inr (transitive r x y z e k)

  lesser : (r : R) (x y : A) → NotLess r (cond (less r y x) y x) x × NotLess r (cond (less r y x) y x) y
  lesser r x y =
      cases (less r y x) (λ e. rw e (inr e, inl refl))
      (λ e. rw e (inl refl, cases (same y x) (λ s. inl (same_eq y x s)) (λ s. inr (total r y x (λ k. holds_not s (subst (λ (w : A). same y w ≡ true) k (same_refl y))) e))))

  least_in : (r : R) (x : A) (l : List A) → In (least_of K less r x l) (x ∷ l)
  unfolding least_of
  least_in r x [] = In.first
  least_in r x (y ∷ l) = cases (less r y x) (λ e. rw e (In.later (least_in r y l))) (λ e. rw e (skip (least_in r x l)))
    where
      skip : {z : A} → In z (x ∷ l) → In z (x ∷ y ∷ l)
      skip In.first = In.first
      skip (In.later i) = In.later (In.later i)

  least_of_lem : (r : R) (x : A) (l : List A) (z : A) → In z (x ∷ l) → NotLess r (least_of K less r x l) z
  unfolding least_of
  least_of_lem r x [] z In.first = inl refl
  least_of_lem r x [] z (In.later i) = elim i [ ]
  least_of_lem r x (y ∷ l) z i = go (least_of_lem r (cond (less r y x) y x) l) (first_or i)
    where
      w : A
      w = cond (less r y x) y x

      go : ((z : A) → In z (w ∷ l) → NotLess r (least_of K less r w l) z) → (z ≡ x) ⊎ In z (y ∷ l) → NotLess r (least_of K less r w l) z
      go ih (inl e) = subst (NotLess r (least_of K less r w l)) (sym e) (not_less_trans r (least_of K less r w l) w x (ih w In.first) (lesser r x y).0)
      go ih (inr j) =
          ⊎_elim
          (λ e. subst (NotLess r (least_of K less r w l)) (sym e) (not_less_trans r (least_of K less r w l) w y (ih w In.first) (lesser r x y).1))
          (λ k. ih z (In.later k)) (first_or j)

  free_length : {r : R} {x : A} {l rest : List A} → Freed r x l rest → length l ≡ suc (length rest)
  free_length Free.at_front = refl
  free_length (Free.behind d f) = ap suc (free_length f)

  in_order : (n : ℕ) (r : R) (l : List A) → length l ≡ n → House r l (taken K less n r l)
  unfolding free_of taken
  in_order zero r [] e = HouseOrder.no_more
  in_order zero r (x ∷ l) e = absurd (omega arith)
  in_order (suc n) r [] e = absurd (omega arith)
  in_order (suc n) r (x ∷ l) e =
      let z = next_of K less r x l in
      let f = in_free r z (x ∷ l) (next_in (least_in r x (keep (λ y. not (tied K r x y)) (free_of K less r l)))) in
      HouseOrder.take_next f (λ y others g d. go y (least_of_lem r x (keep (λ w. not (tied K r x w)) (free_of K less r l)) y (free_next g)) d)
      (in_order n (after r z) (without K less z (x ∷ l)) (omega (arith, free_length f, e)))
    where
      next_in : {z : A} → In z (x ∷ keep (λ y. not (tied K r x y)) (free_of K less r l)) → In z (free_of K less r (x ∷ l))
      next_in i = i

      free_next : {z : A} {rest : List A} → Freed r z (x ∷ l) rest → In z (x ∷ keep (λ y. not (tied K r x y)) (free_of K less r l))
      free_next g = free_in g

      go : (y : A) → NotLess r (next_of K less r x l) y → (y ≡ next_of K less r x l → ⊥) → less r (next_of K less r x l) y ≡ true
      go y (inl k) d = absurd (d k)
      go y (inr k) d = k

  pub ordered : (r : R) (l : List A) → House r l (house_order K less r l)
  ordered r l = in_order (length l) r l refl

  -- ---- swaps keep it
  -- what is free stays so, and what remains is the same or a swap apart
  abbrev Apart : R → List A → List A → Type 0
  Apart r u v = (u ≡ v) ⊎ ((i : ℕ) × Made K r i u v)

  swap_free : {r : R} {z : A} {l m rest : List A} {i : ℕ} → Freed r z l rest → Made K r i l m → (others : List A) × Freed r z m others × Apart (after r z) rest others
  swap_free {r} {z} Free.at_front (Made.here {y = y} {l = l} t) = (y ∷ l, Free.behind (λ e. holds_not t (tied_sym K L r z y ∙ e)) Free.at_front, inl refl)
  swap_free {r} {z} (Free.behind {y} d Free.at_front) (Made.here {l = l} t) = (y ∷ l, Free.at_front, inl refl)
  swap_free {r} {z} (Free.behind {y = x} d (Free.behind {y = y} {rest = rest} e f)) (Made.here t) =
      let s = (untied_after r x z d).1 in
      (y ∷ x ∷ rest, Free.behind e (Free.behind d f), inr (zero, Made.here (subst (λ (q : R). tied K q x y ≡ false) (sym s) t)))
  swap_free {r} {z} Free.at_front (Made.there {i = i} {m = m} s) = (m, Free.at_front, inr (i, s))
  swap_free {r} {z} (Free.behind {y} {rest = rest} d f) (Made.there {i = i} {l = l} {m = m} s) =
      let (a, b) = untied_after r y z d in
      let (others, g, c) = swap_free f (subst (λ (q : R). Made K q i l m) a s) in
      (y ∷ others, Free.behind d g, further c a b)
    where
      further : {others : List A} → Apart (after r z) rest others → after r y ≡ r → after r z ≡ r → Apart (after r z) (y ∷ rest) (y ∷ others)
      further (inl e) a b = inl (ap (λ (w : List A). y ∷ w) e)
      further {others} (inr (j, k)) a b = inr (suc j, Made.there (subst (λ (q : R). Made K q j rest others) (b ∙ sym a ∙ ap (λ (q : R). after q y) (sym b)) k))

  swap_order : {r : R} {l m n : List A} {i : ℕ} → House r l n → Made K r i l m → House r m n
  swap_order HouseOrder.no_more s = elim s [ ]
  swap_order {r} {m = m} (HouseOrder.take_next {x = x} f least h) s =
      let (others, g, c) = swap_free f s in
      HouseOrder.take_next g (λ y o k d. let (o', k', b) = swap_free k (made_back K L s) in least y o' k' d) (go c h (λ j k. swap_order h k))
    where
      go : {u v w : List A} → Apart (after r x) u v → House (after r x) u w → ((j : ℕ) → Made K (after r x) j u v → House (after r x) v w) → House (after r x) v w
      go {w = w} (inl e) h ih = subst (λ (q : List A). House (after r x) q w) e h
      go (inr (j, k)) h ih = ih j k

  pub swaps_order : {r : R} {l m n : List A} {is : List ℕ} → House r l n → Swaps K r is l m → House r m n
  swaps_order h no_swap = h
  swaps_order {r} h (swap_first {i} {l = l} {m = m} e s) = swaps_order (swap_order h (made_is K l m r i e)) s

  -- ---- and lead to it
  swaps_behind : {r : R} {x : A} {is : List ℕ} {l m : List A} → Swaps K (after r x) is l m → Swaps K r (map suc is) (x ∷ l) (x ∷ m)
  swaps_behind no_swap = no_swap
  swaps_behind {r} {x} (swap_first {i} {l = l} {m = m} e s) = swap_first (is_made K (Made.there (made_is K l m (after r x) i e))) (swaps_behind s)

  abbrev Leads : R → List A → List A → Type 0
  Leads r l m = (is : List ℕ) × Swaps K r is l m

  -- a free record is brought to the front
  brought : {r : R} {x : A} {l rest : List A} → Freed r x l rest → Leads r l (x ∷ rest)
  brought Free.at_front = ([], no_swap)
  brought {r} {x} (Free.behind {y} {l} {rest} d f) =
      let (is, s) = brought f in
      let a = (untied_after r y x d).0 in
      let s' = swaps_behind {r = r} {x = y} (subst (λ (q : R). Swaps K q is l (x ∷ rest)) (sym a) s) in
      (map suc is ++ (0 ∷ []), swaps_append K s' (swap_first (is_made K (Made.here (refuted (tied K r y x) d))) no_swap))

  pub order_reached : {r : R} {l m : List A} → House r l m → Leads r l m
  order_reached HouseOrder.no_more = ([], no_swap)
  order_reached (HouseOrder.take_next f least h) =
      let (is, s) = brought f in
      let (js, t) = order_reached h in
      (is ++ map suc js, swaps_append K s (swaps_behind t))

  -- what is in house order is its own
  pub own_order : {r : R} {l m : List A} → House r l m → House r m m
  own_order h = swaps_order h (order_reached h).1

  -- it is as long as the list
  pub order_length : {r : R} {l m : List A} → House r l m → length m ≡ length l
  order_length HouseOrder.no_more = refl
  order_length (HouseOrder.take_next f least h) = ap suc (order_length h) ∙ sym (free_length f)

  -- ---- no list that has it comes earlier
  pub nothing_free : {r : R} {z : A} {l others : List A} → Freed r z l others → l ≡ [] → ⊥
  nothing_free Free.at_front e = true≢false (cc)
  nothing_free (Free.behind d f) e = true≢false (cc)

  pub comes_first_lem : {r : R} {l m : List A} → House r l m → NoEarlier after (λ r x y. less r x y ≡ true) r m l
  comes_first_lem HouseOrder.no_more = NoEarlier.both_end
  comes_first_lem {r} {l = (y ∷ l)} (HouseOrder.take_next {x = x} {m = m} f least h) =
      cases (same y x)
      (λ e. let q = same_eq y x e in go (sym q) f h (comes_first_lem h))
      (λ e. NoEarlier.differ (least y l Free.at_front (λ k. holds_not e (subst (λ (z : A). same y z ≡ true) k (same_refl y)))))
    where
      go : {z : A} {rest n : List A} → z ≡ y → Freed r z (y ∷ l) rest → House (after r z) rest n → NoEarlier after (λ r x y. less r x y ≡ true) (after r z) n rest
          → NoEarlier after (λ r x y. less r x y ≡ true) r (z ∷ n) (y ∷ l)
      go {z} {rest} {n} q f h ih =
          let e = one_rest (subst (λ (w : A). Freed r w (y ∷ l) rest) q f) Free.at_front in
          subst (λ (w : A). NoEarlier after (λ r x y. less r x y ≡ true) r (z ∷ n) (w ∷ l)) q
          (NoEarlier.agree (subst (λ (w : List A). NoEarlier after (λ r x y. less r x y ≡ true) (after r z) n w) e ih))
  comes_first_lem {r} {l = []} (HouseOrder.take_next f least h) = absurd (nothing_free f refl)
