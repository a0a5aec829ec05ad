-- What passes a test and how many do: at a swap of two heads, before a position, and through a wider test. Assumes nothing.
use borrow.Table.Steps.{cases}
use Prim.Native.Nat.{ℕ, zero, suc, ◌<◌, ◌≤◌}
use mathlib.Core.Path.{◌≡◌, refl, ap}
use mathlib.Core.Bool.{Bool, true, false, true≢false}
use mathlib.Core.List.{List, [], ◌∷◌}
use mathlib.Core.Option.{some}
use native.Mathlib.Omega.{arith}
use native.Mathlib.Nat.{lt_of_not-le}
use lib.ListN.{take, get_elem?, replicate}
use Rattle.trace.specs.Lists.{keep, count}

module _ {A : Type 0} where
  -- two heads of which not both pass may change places
  pub keep_swap : (p : A → Bool) (x y : A) (l : List A) → (p x ≡ true → p y ≡ true → ◌≡◌ {A = Bool} true false) → keep p (x ∷ y ∷ l) ≡ keep p (y ∷ x ∷ l)
  keep_swap p x y l h =
      cases (p x)
      (λ e. cases (p y) (λ f. let g = h e f in cc) (λ f. cc))
      (λ e. cases (p y) (λ f. cc) (λ f. cc))

  -- lists with one head of which the same passes have tails of which the same passes
  pub keep_tail : (p : A → Bool) (a : A) (l m : List A) → keep p (a ∷ l) ≡ keep p (a ∷ m) → keep p l ≡ keep p m
  keep_tail p a l m e = cases (p a) (λ f. cc) (λ f. cc)

  -- what is kept passes
  pub keep_passes : (p : A → Bool) (x : A) (l : List A) (n : ℕ) → get_elem? (keep p l) n ≡ some x → p x ≡ true
  keep_passes p x [] n e = cc
  keep_passes p x (z ∷ l) n e = cases (p z) (λ f. kept (keep_passes p x l) n f (rw f at e)) (λ f. keep_passes p x l n (rw f at e))
    where
      kept : ((n : ℕ) → get_elem? (keep p l) n ≡ some x → p x ≡ true) → (n : ℕ) → p z ≡ true → get_elem? (z ∷ keep p l) n ≡ some x → p x ≡ true
      kept ih zero f e = cc
      kept ih (suc n) f e = ih n e

  -- where one element alone passes, its copies are kept
  pub keep_one : (p : A → Bool) (x : A) → ((z : A) → p z ≡ true → z ≡ x) → (l : List A) → keep p l ≡ replicate (count p l) x
  keep_one p x h [] = refl
  keep_one p x h (z ∷ l) = let ih = keep_one p x h l in cases (p z) (λ e. let f = h z e in cc) (λ e. cc)

  pub count_swap : (p : A → Bool) (x y : A) (l : List A) → count p (x ∷ y ∷ l) ≡ count p (y ∷ x ∷ l)
  count_swap p x y l = cases (p x) (λ e. cases (p y) (λ f. cc) (λ f. cc)) (λ e. cases (p y) (λ f. cc) (λ f. cc))

  pub count_ext : (p q : A → Bool) → ((z : A) → p z ≡ q z) → (l : List A) → count p l ≡ count q l
  count_ext p q h [] = refl
  count_ext p q h (z ∷ l) = cc (h z, count_ext p q h l)

  -- what passes q is counted among what passes a wider test p, and not at all among what passes a test that rules it out
  pub count_keep : (p q : A → Bool) → ((z : A) → q z ≡ true → p z ≡ true) → (l : List A) → count q (keep p l) ≡ count q l
  count_keep p q h [] = refl
  count_keep p q h (z ∷ l) =
      let ih = count_keep p q h l in
      cases (p z) (λ f. cc) (λ f. cases (q z) (λ g. let k = h z g in cc) (λ g. cc))

  pub count_none : (p q : A → Bool) → ((z : A) → q z ≡ true → p z ≡ false) → (l : List A) → count q (keep p l) ≡ zero
  count_none p q h [] = refl
  count_none p q h (z ∷ l) =
      let ih = count_none p q h l in
      cases (p z) (λ f. cases (q z) (λ g. let k = h z g in cc) (λ g. cc)) (λ f. cc)

  -- what is kept of the elements before a position stands at the front of what is kept
  pub take_keep : (p : A → Bool) (l : List A) (n : ℕ) → take (count p (take n l)) (keep p l) ≡ keep p (take n l)
  take_keep p l zero = refl
  take_keep p [] (suc n) = refl
  take_keep p (x ∷ l) (suc n) = let ih = take_keep p l n in cases (p x) (λ e. cc) (λ e. cc)

  -- an element that is kept goes to the position that says how many are kept before it
  pub keep_at : (p : A → Bool) (x : A) → p x ≡ true → (l : List A) (n : ℕ) → get_elem? l n ≡ some x → get_elem? (keep p l) (count p (take n l)) ≡ some x
  keep_at p x h [] n e = cc
  keep_at p x h (z ∷ l) zero e = cc
  keep_at p x h (z ∷ l) (suc n) e = let ih = keep_at p x h l n e in cases (p z) (λ f. cc) (λ f. cc)

  -- and every kept element comes from such a position
  abbrev Source : (A → Bool) → A → List A → ℕ → Type 0
  Source p x l n = (m : ℕ) × (get_elem? l m ≡ some x) × (count p (take m l) ≡ n)

  pub keep_from : (p : A → Bool) (x : A) (l : List A) (n : ℕ) → get_elem? (keep p l) n ≡ some x → Source p x l n
  keep_from p x [] n e = absurd (true≢false (cc))
  keep_from p x (z ∷ l) n e =
      cases (p z)
      (λ f. kept (keep_from p x l) n f (rw f at e))
      (λ f. let (m, g, c) = keep_from p x l n (rw f at e) in (suc m, g, rw f c))
    where
      kept : ((n : ℕ) → get_elem? (keep p l) n ≡ some x → Source p x l n) → (n : ℕ) → p z ≡ true → get_elem? (z ∷ keep p l) n ≡ some x → Source p x (z ∷ l) n
      kept ih zero f e = (zero, e, refl)
      kept ih (suc n) f e = let (m, g, c) = ih n e in (suc m, g, rw f (ap suc c))

  -- an element that passes is counted before every later position, no fewer pass before a later position, and so more passing means later
  pub count_lt : (p : A → Bool) (x : A) → p x ≡ true → (l : List A) (m n : ℕ) → get_elem? l m ≡ some x → m < n → count p (take m l) < count p (take n l)
  count_lt p x h [] m n e lt = absurd (true≢false (cc))
  count_lt p x h (z ∷ l) m zero e lt = absurd (omega arith)
  count_lt p x h (z ∷ l) zero (suc n) e lt = let f : p z ≡ true = cc in rw f (omega arith)
  count_lt p x h (z ∷ l) (suc m) (suc n) e lt =
      let ih = count_lt p x h l m n e (omega arith) in
      cases (p z) (λ f. rw f (omega arith)) (λ f. rw f ih)

  count_le : (p : A → Bool) (l : List A) (m n : ℕ) → m ≤ n → count p (take m l) ≤ count p (take n l)
  count_le p l zero n le = omega arith
  count_le p l (suc m) zero le = absurd (omega arith)
  count_le p [] (suc m) (suc n) le = omega arith
  count_le p (z ∷ l) (suc m) (suc n) le =
      let ih = count_le p l m n (omega arith) in
      cases (p z) (λ f. rw f (omega arith)) (λ f. rw f ih)

  pub count_later : (p : A → Bool) (l : List A) (m n : ℕ) → count p (take m l) < count p (take n l) → m < n
  count_later p l m n h = lt_of_not-le (λ le. omega (arith, count_le p l n m le))
