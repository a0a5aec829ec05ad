-- The position of an element that has i equal ones before it: there is one if more than i are counted, and not a second. Assumes nothing.
use borrow.Table.Steps.{cases}
use Prim.Native.Nat.{ℕ, zero, suc, ◌<◌}
use mathlib.Core.Path.{◌≡◌, refl, sym, ap}
use mathlib.Core.Bool.{Bool, true, true≢false}
use mathlib.Core.List.{List, [], ◌∷◌}
use mathlib.Core.Option.{some}
use native.Mathlib.Omega.{arith}
use lib.ListN.{take}
use Rattle.trace.specs.Lists.{count, Nth}
use Rattle.trace.proofs.Lists.{count_lt}

module _ {A : Type 0} (same : A → A → Bool) (same_refl : (x : A) → same x x ≡ true) where
  pub nth_bound : (x : A) (l : List A) (i p : ℕ) → Nth same l x i p → i < count (same x) l
  nth_bound x [] i p n = absurd (true≢false (let e = n.holds in cc))
  nth_bound x (z ∷ l) i zero n =
      let e = n.holds in
      let f = n.equals in
      let g : same x z ≡ true = cc (same_refl x) in
      rw g (omega arith)
  nth_bound x (z ∷ l) i (suc p) n =
      let ih = nth_bound x l (count (same x) (take p l)) p (record { holds = n.holds; equals = refl }) in
      let f = n.equals in
      cases (same x z) (λ e. let g = rw e at f in rw e (omega arith)) (λ e. let g = rw e at f in rw e (omega arith))

  pub nth_unique : (x : A) (l : List A) (i p q : ℕ) → Nth same l x i p → Nth same l x i q → p ≡ q
  nth_unique x l i p q n m =
      let u : ¬ (p < q) = λ h. omega (arith, count_lt (same x) x (same_refl x) l p q n.holds h, n.equals, m.equals) in
      let v : ¬ (q < p) = λ h. omega (arith, count_lt (same x) x (same_refl x) l q p m.holds h, n.equals, m.equals) in
      omega arith

module _ {A : Type 0} (same : A → A → Bool) (same_eq : (x y : A) → same x y ≡ true → x ≡ y) where
  pub nth_exists : (x : A) (l : List A) (i : ℕ) → i < count (same x) l → (p : ℕ) × Nth same l x i p
  nth_exists x [] i h = absurd (omega arith)
  nth_exists x (z ∷ l) i h =
      cases (same x z)
      (λ e. equal i e (rw e at h) (nth_exists x l))
      (λ e. let (p, n) = nth_exists x l i (rw e at h) in (suc p, record { holds = n.holds; equals = rw e n.equals }))
    where
      equal : (i : ℕ) → same x z ≡ true → i < suc (count (same x) l) → ((i : ℕ) → i < count (same x) l → (p : ℕ) × Nth same l x i p)
          → (p : ℕ) × Nth same (z ∷ l) x i p
      equal zero e h ih = (zero, record { holds = ap some (sym (same_eq x z e)); equals = refl })
      equal (suc i) e h ih = let (p, n) = ih i (omega arith) in (suc p, record { holds = n.holds; equals = rw e (ap suc n.equals) })
