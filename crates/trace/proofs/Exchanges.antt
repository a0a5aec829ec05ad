-- Exchanges of neighbours where it is fixed which elements are tied: they keep the order of tied elements and reach every list with it. Assumes nothing.
use borrow.Table.Steps.{cases}
use Prim.Native.Nat.{ℕ, zero, suc}
use mathlib.Core.Path.{◌≡◌, refl, sym, ◌∙◌}
use mathlib.Core.Bool.{Bool, true, false, ◌||◌, true≢false}
use mathlib.Core.List.{List, [], ◌∷◌, ◌++◌, map, head?}
use mathlib.Core.Option.{some}
use Rattle.trace.specs.Lists.{keep, count}
use Rattle.trace.proofs.Lists.{keep_swap, keep_tail, count_swap}

-- an equality test, and which elements are tied
pub record Ties (A : Type 0) : Type 0 where
  pub same : A → A → Bool
  pub tied : A → A → Bool
  pub same_refl : (x : A) → same x x ≡ true
  pub same_eq : (x y : A) → same x y ≡ true → x ≡ y
  pub tied_refl : (x : A) → tied x x ≡ true
  pub tied_sym : (x y : A) → tied x y ≡ tied y x

module _ {A : Type 0} (tied : A → A → Bool) where
  -- elements i and i + 1, not tied, change places
  pub data Exchange : ℕ → List A → List A → Type 0 where
    front : {x y : A} {l : List A} → tied x y ≡ false → Exchange zero (x ∷ y ∷ l) (y ∷ x ∷ l)
    behind : {x : A} {i : ℕ} {l m : List A} → Exchange i l m → Exchange (suc i) (x ∷ l) (x ∷ m)

  -- one exchange after another, at the listed positions
  pub data Exchanges : List ℕ → List A → List A → Type 0 where
    none_left : {l : List A} → Exchanges [] l l
    then_next : {i : ℕ} {is : List ℕ} {l m n : List A} → Exchange i l m → Exchanges is m n → Exchanges (i ∷ is) l n

  exchanges_append : {is js : List ℕ} {l m n : List A} → Exchanges is l m → Exchanges js m n → Exchanges (is ++ js) l n
  exchanges_append none_left t = t
  exchanges_append (then_next s r) t = then_next s (exchanges_append r t)

  exchanges_behind : {x : A} {is : List ℕ} {l m : List A} → Exchanges is l m → Exchanges (map suc is) (x ∷ l) (x ∷ m)
  exchanges_behind none_left = none_left
  exchanges_behind (then_next s r) = then_next (behind s) (exchanges_behind r)

  -- what passes a test is kept in order, if any two that pass are tied
  module _ (p : A → Bool) (ok : (x y : A) → p x ≡ true → p y ≡ true → tied x y ≡ true) where
    exchange_keep : {i : ℕ} {l m : List A} → Exchange i l m → keep p l ≡ keep p m
    exchange_keep (front {x} {y} {l} h) = keep_swap p x y l (λ px py. let e = ok x y px py in cc)
    exchange_keep (behind {x} s) = let e = exchange_keep s in cc

    exchanges_keep : {is : List ℕ} {l m : List A} → Exchanges is l m → keep p l ≡ keep p m
    exchanges_keep none_left = refl
    exchanges_keep (then_next s r) = exchange_keep s ∙ exchanges_keep r

  -- every count is kept
  exchange_count : (p : A → Bool) {i : ℕ} {l m : List A} → Exchange i l m → count p l ≡ count p m
  exchange_count p (front {x} {y} {l} h) = count_swap p x y l
  exchange_count p (behind s) = let ih = exchange_count p s in cc

  pub exchanges_count : (p : A → Bool) {is : List ℕ} {l m : List A} → Exchanges is l m → count p l ≡ count p m
  exchanges_count p none_left = refl
  exchanges_count p (then_next s t) = exchange_count p s ∙ exchanges_count p t

module _ {A : Type 0} (T : Ties A) where
  open T use {same, tied, same_refl, same_eq, tied_refl, tied_sym}

  -- z is x or y
  abbrev pub one_of : A → A → A → Bool
  one_of x y z = same x z || same y z

  -- for any two tied elements the lists are the same once all but the two are left out
  abbrev pub SameViews : List A → List A → Type 0
  SameViews l m = (x y : A) → tied x y ≡ true → keep (one_of x y) l ≡ keep (one_of x y) m

  pub one_of_tied : (x y : A) → tied x y ≡ true → (u v : A) → one_of x y u ≡ true → one_of x y v ≡ true → tied u v ≡ true
  one_of_tied x y t u v p q = go (same x u) (same x v) refl refl p q
    where
      go : (a b : Bool) → same x u ≡ a → same x v ≡ b → (a || same y u) ≡ true → (b || same y v) ≡ true → tied u v ≡ true
      go true true e f p q = cc (same_eq x u e, same_eq x v f, tied_refl x)
      go true false e f p q = cc (same_eq x u e, same_eq y v q)
      go false true e f p q = cc (same_eq y u p, same_eq x v f, tied_sym x y)
      go false false e f p q = cc (same_eq y u p, same_eq y v q, tied_refl y)

  pub exchanges_views : {is : List ℕ} {l m : List A} → Exchanges tied is l m → SameViews l m
  exchanges_views s x y t = exchanges_keep tied (one_of x y) (one_of_tied x y t) s

  -- one head on both lists can go
  views_tail : (a : A) (l m : List A) → SameViews (a ∷ l) (a ∷ m) → SameViews l m
  views_tail a l m h x y t = keep_tail (one_of x y) a l m (h x y t)

  untied_other : (a b y : A) → tied a b ≡ false → tied a y ≡ true → same y b ≡ false
  untied_other a b y u t = cases (same y b) (λ e. cc (same_eq y b e)) (λ e. e)

  -- an element that comes first among all that are tied to it can be brought to the front
  abbrev First : A → List A → Type 0
  First a l = (y : A) → tied a y ≡ true → head? (keep (one_of a y) l) ≡ some a

  abbrev Brought : A → List A → Type 0
  Brought a l = (is : List ℕ) × (r : List A) × Exchanges tied is l (a ∷ r)

  bring : (a : A) (l : List A) → First a l → Brought a l
  bring a [] h = absurd (true≢false (let e = h a (tied_refl a) in cc))
  bring a (b ∷ r) h = go (bring a r) (same a b) (tied a b) refl refl
    where
      go : (First a r → Brought a r) → (c d : Bool) → same a b ≡ c → tied a b ≡ d → Brought a (b ∷ r)
      go ih true d e f = ([], r, rw (same_eq a b e) none_left)
      go ih false true e f = absurd (true≢false (let g = h b f in cc (same_refl a, same_refl b)))
      go ih false false e f =
          let (is, s, w) = ih (λ y t. let g = h y t in cc (untied_other a b y f t)) in
          (map suc is ++ (zero ∷ []), b ∷ s, exchanges_append tied (exchanges_behind tied w) (then_next (front (tied_sym b a ∙ f)) none_left))

  -- the head of the one list comes first in the other
  head_first : (a : A) (l m : List A) → SameViews l (a ∷ m) → First a l
  head_first a l m h y t = rw (h a y t) (cc (same_refl a))

  -- lists with the same views are exchanges apart
  pub views_exchanges : (m l : List A) → SameViews l m → (is : List ℕ) × Exchanges tied is l m
  views_exchanges [] [] h = ([], none_left)
  views_exchanges [] (b ∷ r) h = absurd (true≢false (let e = h b b (tied_refl b) in cc (same_refl b)))
  views_exchanges (a ∷ m) l h =
      let (is, r, w) = bring a l (head_first a l m h) in
      let (js, v) = views_exchanges m r (views_tail a r m (λ x y t. sym (exchanges_views w x y t) ∙ h x y t)) in
      (is ++ map suc js, exchanges_append tied w (exchanges_behind tied v))
