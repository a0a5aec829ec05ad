-- The order of tied elements, said by positions, is the same as the same views of any two. Assumes nothing.
use borrow.Table.Steps.{cases}
use Prim.Native.Nat.{ℕ, zero, suc, ◌<◌}
use mathlib.Core.Path.{◌≡◌, refl, sym, ◌∙◌}
use mathlib.Core.Bool.{Bool, true, false, cond, true≢false}
use mathlib.Core.List.{List, [], ◌∷◌}
use native.Mathlib.Omega.{arith}
use lib.ListN.{take}
use Rattle.trace.specs.Lists.{keep, count, Nth}
use Rattle.trace.proofs.Lists.{keep_passes, count_keep, count_none, take_keep, keep_at, keep_from, count_lt, count_later}
use Rattle.trace.proofs.Positions.{nth_exists}
use Rattle.trace.proofs.Exchanges.{Ties, one_of, one_of_tied, SameViews}
use Rattle.trace.proofs.Elements.{SameElements}

-- the x with i equal ones before it stands before the y with j
pub record Before {A : Type 0} (same : A → A → Bool) (l : List A) (x : A) (i : ℕ) (y : A) (j : ℕ) : Type 0 where
  pub p : ℕ
  pub q : ℕ
  pub x_at_p : Nth same l x i p
  pub y_at_q : Nth same l y j q
  pub before : p < q

module _ {A : Type 0} (same : A → A → Bool) (same_refl : (x : A) → same x x ≡ true) where
  -- through a test that the equals of x pass, positions among equals are the same
  module _ (w : A → Bool) where
    abbrev Passes : A → Type 0
    Passes x = (z : A) → same x z ≡ true → w z ≡ true

    nth_keep : (x : A) → Passes x → (l : List A) (i p : ℕ) → Nth same l x i p → Nth same (keep w l) x i (count w (take p l))
    nth_keep x h l i p n =
        record {
          holds = keep_at w x (h x (same_refl x)) l p n.holds;
          equals = rw take_keep (count_keep w (same x) h (take p l) ∙ n.equals);
        }

    keep_nth : (x : A) → Passes x → (l : List A) (i p : ℕ) → Nth same (keep w l) x i p → (q : ℕ) × Nth same l x i q × (count w (take q l) ≡ p)
    keep_nth x h l i p n =
        let (q, e, f) = keep_from w x l p n.holds in
        (q, record { holds = e; equals = sym (count_keep w (same x) h (take q l)) ∙ (rw (← take_keep w l q, f) n.equals) }, f)

    before_keep : (x y : A) → Passes x → Passes y → (l : List A) (i j : ℕ) → Before same l x i y j → Before same (keep w l) x i y j
    before_keep x y h k l i j b =
        record {
          p = count w (take b.p l);
          q = count w (take b.q l);
          x_at_p = nth_keep x h l i b.p b.x_at_p;
          y_at_q = nth_keep y k l j b.q b.y_at_q;
          before = count_lt w x (h x (same_refl x)) l b.p b.q b.x_at_p.holds b.before;
        }

    keep_before : (x y : A) → Passes x → Passes y → (l : List A) (i j : ℕ) → Before same (keep w l) x i y j → Before same l x i y j
    keep_before x y h k l i j b =
        let (p, n, e) = keep_nth x h l i b.p b.x_at_p in
        let (q, m, f) = keep_nth y k l j b.q b.y_at_q in
        record { p = p; q = q; x_at_p = n; y_at_q = m; before = count_later w l p q (omega arith) }

  -- one element more at the front: positions go up by one, and so does the count of its equals
  abbrev count_up : A → A → ℕ → ℕ
  count_up a x i = cond (same x a) (suc i) i

  nth_up : (a x : A) (l : List A) (i p : ℕ) → Nth same l x i p → Nth same (a ∷ l) x (count_up a x i) (suc p)
  nth_up a x l i p n = record { holds = n.holds; equals = let e = n.equals in cc }

  nth_down : (a x : A) (l : List A) (i p : ℕ) → Nth same (a ∷ l) x (count_up a x i) p → (q : ℕ) × (p ≡ suc q) × Nth same l x i q
  nth_down a x l i zero n = absurd (true≢false (let e = n.holds in let f = n.equals in cc (same_refl x)))
  nth_down a x l i (suc p) n = (p, refl, record { holds = n.holds; equals = let e = n.equals in cases (same x a) (λ f. cc) (λ f. cc) })

  -- all of the order of u is that of v
  abbrev SameBefore : List A → List A → Type 0
  SameBefore u v = (x y : A) (i j : ℕ) → Before same u x i y j → Before same v x i y j

  before_tail : (a : A) (u v : List A) → SameBefore (a ∷ u) (a ∷ v) → SameBefore u v
  before_tail a u v h x y i j b =
      let up : Before same (a ∷ u) x (count_up a x i) y (count_up a y j) = record {
        p = suc b.p;
        q = suc b.q;
        x_at_p = nth_up a x u i b.p b.x_at_p;
        y_at_q = nth_up a y u j b.q b.y_at_q;
        before = omega arith;
      } in
      let c = h x y (count_up a x i) (count_up a y j) up in
      let (p, e, n) = nth_down a x v i c.p c.x_at_p in
      let (q, f, m) = nth_down a y v j c.q c.y_at_q in
      record { p = p; q = q; x_at_p = n; y_at_q = m; before = omega arith }

  -- the head is the first of its equals; another element's first comes later
  head_at : (b : A) (v : List A) (q : ℕ) → Nth same (b ∷ v) b 0 q → q ≡ 0
  head_at b v zero n = refl
  head_at b v (suc q) n = let e = n.equals in cc (same_refl b)

  other_at : (a b : A) (u : List A) (p : ℕ) → same a b ≡ false → Nth same (a ∷ u) b 0 p → 0 < p
  other_at a b u zero f n = absurd (true≢false (let e = n.holds in cc (same_refl a)))
  other_at a b u (suc p) f n = omega arith

  -- lists with the same elements, all in the same order, are equal
  same_list : ((x y : A) → same x y ≡ true → x ≡ y) → (u v : List A) → SameElements same u v → SameBefore u v → u ≡ v
  same_list same_eq [] [] c h = refl
  same_list same_eq [] (b ∷ v) c h = absurd (true≢false (let e = c b in cc (same_refl b)))
  same_list same_eq (a ∷ u) [] c h = absurd (true≢false (let e = c a in cc (same_refl a)))
  same_list same_eq (a ∷ u) (b ∷ v) c h =
      cases (same a b)
      (λ e.
      let f = same_eq a b e in
      let ih = same_list same_eq u v (λ z. let g = c z in cases (same z a) (λ k. cc) (λ k. cc)) (before_tail a u v (λ x y i j t. rw f (h x y i j t))) in
      cc)
      (λ e.
      let k : count (same b) (b ∷ v) ≡ suc (count (same b) v) = cc (same_refl b) in
      let (p, n) = nth_exists same same_eq b (a ∷ u) 0 (omega (arith, c b)) in
      let t = h a b 0 0 (record { p = 0; q = p; x_at_p = record { holds = refl; equals = refl }; y_at_q = n; before = other_at a b u p e n }) in
      absurd (omega (arith, head_at b v t.q t.y_at_q, t.before)))

module _ {A : Type 0} (T : Ties A) where
  open T use {same, tied, same_refl, same_eq, tied_refl}

  -- what is tied and in order in the one list is in order in the other
  abbrev pub TiedOrder : List A → List A → Type 0
  TiedOrder l m = (x y : A) (i j : ℕ) → tied x y ≡ true → Before same l x i y j → Before same m x i y j

  is_first : (x y z : A) → same x z ≡ true → one_of T x y z ≡ true
  is_first x y z e = cc

  is_second : (x y z : A) → same y z ≡ true → one_of T x y z ≡ true
  is_second x y z e = cases (same x z) (λ f. cc) (λ f. cc)

  pub views_elements : (l m : List A) → SameViews T l m → SameElements same l m
  views_elements l m h x =
      let e = h x x (tied_refl x) in
      cc (count_keep (one_of T x x) (same x) (is_first x x) l, count_keep (one_of T x x) (same x) (is_first x x) m)

  pub views_order : (l m : List A) → SameViews T l m → TiedOrder l m
  views_order l m h x y i j t b =
      let w = one_of T x y in
      keep_before same same_refl w x y (is_first x y) (is_second x y) m i j
      (rw (← h x y t) (before_keep same same_refl w x y (is_first x y) (is_second x y) l i j b))

  pub order_views : (l m : List A) → SameElements same l m → TiedOrder l m → SameViews T l m
  order_views l m c h x y t = same_list same same_refl same_eq (keep w l) (keep w m) elements order
    where
      w : A → Bool
      w = one_of T x y

      in_w : (z : A) → w z ≡ true → (u : A) → same z u ≡ true → w u ≡ true
      in_w z e u f = let g = same_eq z u f in cc

      out_w : (z : A) → w z ≡ false → (u : A) → same z u ≡ true → w u ≡ false
      out_w z e u f = let g = same_eq z u f in cc

      elements : SameElements same (keep w l) (keep w m)
      elements z =
          cases (w z)
          (λ e. cc (count_keep w (same z) (in_w z e) l, count_keep w (same z) (in_w z e) m, c z))
          (λ e. cc (count_none w (same z) (out_w z e) l, count_none w (same z) (out_w z e) m))

      order : (a b : A) (i j : ℕ) → Before same (keep w l) a i b j → Before same (keep w m) a i b j
      order a b i j r =
          let ea = keep_passes w a l r.p r.x_at_p.holds in
          let eb = keep_passes w b l r.q r.y_at_q.holds in
          before_keep same same_refl w a b (in_w a ea) (in_w b eb) m i j
          (h a b i j (one_of_tied T x y t a b ea eb) (keep_before same same_refl w a b (in_w a ea) (in_w b eb) l i j r))
