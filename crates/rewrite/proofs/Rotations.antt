-- A short part whose front goes behind its back: by three copies, or by exchanging equal halves byte by byte; and the part put back. Assumes nothing.
use mathlib.Core.Path.{◌≡◌, sym, ap, ◌∙◌}
use mathlib.Core.List.{List, [], ◌∷◌, ◌++◌, append-nil, append_assoc}
use Prim.Native.Nat.{ℕ, suc, ◌+◌, ◌-◌, ◌≤◌, ◌<◌}
use native.Mathlib.Omega.{arith}
use native.Mathlib.Numerals.{add-one}
use lib.ListN.{length, take, drop, get_or, set, length-append, length-drop, drop_of_length-le, take-append-drop}
use lib.Seq.{take_all, take_at, take-append-le, drop-append-le, length-take-le, take-take, drop-drop}
use lib.Seq.{drop-cons, take-suc, set_at, get_or_at}
use Rattle.std.proofs.lemmas.List.{drop-take}
use Rattle.rewrite.specs.Laid.{exchanged}

-- the part afterwards
abbrev pub turned : List ℕ → ℕ → List ℕ
turned p k = drop k p ++ take k p

-- ---- by three copies
-- p is the part and k the bytes of its front; o the temporary's front after the first copy and z what is behind it, q the part's front after the second, t its last k bytes after the third
module _ (p z o q t : List ℕ) (k : ℕ) (h : k ≤ length p) (first : o ≡ p) where
  abbrev m : ℕ
  m = length p - k

  whole : o ++ z ≡ p ++ z
  whole = ap (λ (l : List ℕ). l ++ z) first

  back : take m (drop k (o ++ z)) ≡ drop k p
  back = ap (λ (l : List ℕ). take m (drop k l)) whole ∙ ap (take m) (drop-append-le k p z h) ∙ take_at (drop k p) z m (length-drop k p)

  front : take k (o ++ z) ≡ take k p
  front = ap (take k) whole ∙ take-append-le k p z h

  module _ (second : q ≡ take m (drop k (o ++ z))) where
    moved : q ≡ drop k p
    moved = second ∙ back

    long : length q ≡ m
    long = ap length moved ∙ length-drop k p

    abbrev both : List ℕ
    both = q ++ drop m p

    pub turned_by_copies : t ≡ take k (o ++ z) → take m both ++ (t ++ drop (length both - m) (drop m both)) ≡ turned p k
    turned_by_copies third =
        let kept : take m both ≡ q = take_at q (drop m p) m long in
        let rest : drop (length both - m) (drop m both) ≡ [] = drop_of_length-le (drop m both) {i = length both - m} (omega (arith, length-drop m both)) in
        (λ i. (kept ∙ moved) i ++ ((third ∙ front) i ++ rest i)) ∙ ap (λ (l : List ℕ). drop k p ++ l) (append-nil (take k p))

-- ---- by equal halves
-- the first i bytes of the halves a and b have changed places
abbrev pub halfway : List ℕ → List ℕ → ℕ → List ℕ
halfway a b i = (take i b ++ drop i a) ++ (take i a ++ drop i b)

-- a list between whose elements x and y others stand
abbrev spaced : List ℕ → ℕ → List ℕ → ℕ → List ℕ → List ℕ
spaced u x v y w = u ++ x ∷ (v ++ y ∷ w)

module _ (u : List ℕ) (x : ℕ) (v : List ℕ) (y : ℕ) (w : List ℕ) (i j : ℕ) (at_i : length u ≡ i) (at_j : length u + suc (length v) ≡ j) where
  spaced_right : (z : ℕ) → spaced u z v y w ≡ (u ++ z ∷ v) ++ y ∷ w
  spaced_right z = sym (append_assoc u (z ∷ v) (y ∷ w))

  right_long : (z : ℕ) → length (u ++ z ∷ v) ≡ j
  right_long z = length-append u (z ∷ v) ∙ at_j

  spaced_first : get_or (spaced u x v y w) i 0 ≡ x
  spaced_first = get_or_at u x (v ++ y ∷ w) 0 i at_i

  spaced_second : get_or (spaced u x v y w) j 0 ≡ y
  spaced_second = ap (λ (l : List ℕ). get_or l j 0) (spaced_right x) ∙ get_or_at (u ++ x ∷ v) y w 0 j (right_long x)

  spaced_exchanged : set (set (spaced u x v y w) i y) j x ≡ spaced u y v x w
  spaced_exchanged =
      ap (λ (l : List ℕ). set l j x) (set_at u x (v ++ y ∷ w) y i at_i ∙ spaced_right y)
      ∙ set_at (u ++ y ∷ v) y w x j (right_long y) ∙ append_assoc u (y ∷ v) (x ∷ w)

module _ (a b : List ℕ) (k : ℕ) (long-a : length a ≡ k) (long-b : length b ≡ k) (i : ℕ) (h : i < k) where
  abbrev u : List ℕ
  u = take i b

  abbrev v : List ℕ
  v = drop (suc i) a ++ take i a

  abbrev w : List ℕ
  w = drop (suc i) b

  abbrev x : ℕ
  x = get_or a i 0

  abbrev y : ℕ
  y = get_or b i 0

  now_is : halfway a b i ≡ spaced u x v y w
  now_is =
      (λ n. (u ++ drop-cons a i 0 (omega arith) n) ++ (take i a ++ drop-cons b i 0 (omega arith) n))
      ∙ append_assoc u (x ∷ drop (suc i) a) (take i a ++ y ∷ w)
      ∙ ap (λ (l : List ℕ). u ++ x ∷ l) (sym (append_assoc (drop (suc i) a) (take i a) (y ∷ w)))

  next_is : halfway a b (suc i) ≡ spaced u y v x w
  next_is =
      (λ n. (take-suc b i 0 (omega arith) n ++ drop (suc i) a) ++ (take-suc a i 0 (omega arith) n ++ w))
      ∙ (λ n. append_assoc u (y ∷ []) (drop (suc i) a) n ++ append_assoc (take i a) (x ∷ []) w n)
      ∙ append_assoc u (y ∷ drop (suc i) a) (take i a ++ x ∷ w)
      ∙ ap (λ (l : List ℕ). u ++ y ∷ l) (sym (append_assoc (drop (suc i) a) (take i a) (x ∷ w)))

  at_i : length u ≡ i
  at_i = length-take-le i b (omega arith)

  at_j : length u + suc (length v) ≡ k + i
  at_j = omega (arith, at_i, length-append (drop (suc i) a) (take i a), length-drop (suc i) a, length-take-le i a (omega arith))

  -- one byte more of each
  pub half_next : (q : List ℕ) → q ≡ halfway a b i → set (set q i (get_or q (k + i) 0)) (k + i) (get_or q i 0) ≡ halfway a b (i + 1)
  half_next q e =
      let f : q ≡ spaced u x v y w = e ∙ now_is in
      let g : get_or q (k + i) 0 ≡ y = ap (λ (l : List ℕ). get_or l (k + i) 0) f ∙ spaced_second u x v y w i (k + i) at_i at_j in
      let d : get_or q i 0 ≡ x = ap (λ (l : List ℕ). get_or l i 0) f ∙ spaced_first u x v y w i (k + i) at_i at_j in
      (λ n. set (set (f n) i (g n)) (k + i) (d n)) ∙ spaced_exchanged u x v y w i (k + i) at_i at_j ∙ sym next_is ∙ ap (halfway a b) (sym (add-one i))

module _ (p : List ℕ) (k : ℕ) (h : length p ≡ k + k) where
  pub half_front : length (take k p) ≡ k
  half_front = length-take-le k p (omega arith)

  pub half_back : length (drop k p) ≡ k
  half_back = omega (arith, length-drop k p)

  pub half_none : p ≡ halfway (take k p) (drop k p) 0
  half_none = sym (take-append-drop k p)

  pub half_all : (i : ℕ) → i ≡ k → halfway (take k p) (drop k p) i ≡ turned p k
  half_all i e =
      ap (halfway (take k p) (drop k p)) e
      ∙ (λ n. (take_all k (drop k p) (omega (arith, half_back)) n ++ drop_of_length-le (take k p) {i = k} (omega (arith, half_front)) n)
      ++ (take_all k (take k p) (omega (arith, half_front)) n ++ drop_of_length-le (drop k p) {i = k} (omega (arith, half_back)) n))
      ∙ (λ n. append-nil (drop k p) n ++ append-nil (take k p) n)

-- ---- the part put back
-- what a part holds from j on
drop_take : (j n : ℕ) (l : List ℕ) → j ≤ n → n ≤ length l → drop j (take n l) ≡ take (n - j) (drop j l)
drop_take j n l h g = let e : n ≡ j + (n - j) = omega arith in ap (λ (m : ℕ). drop j (take m l)) e ∙ drop-take j (n - j) l

pub put_back : (o r : List ℕ) (a b e : ℕ) → a ≤ b → b ≤ e → e ≤ length o → r ≡ turned (take (e - a) (drop a o)) (b - a)
    → take a o ++ (r ++ drop (e - a) (drop a o)) ≡ exchanged o a b e
unfolding exchanged
put_back o r a b e ab be eo r-is =
    let n : e - a ≤ length (drop a o) = omega (arith, length-drop a o) in
    let j : b - a ≤ e - a = omega arith in
    let f : e - a - (b - a) ≡ e - b = omega arith in
    let g : a + (b - a) ≡ b = omega arith in
    let d : a + (e - a) ≡ e = omega arith in
    let second : drop (b - a) (take (e - a) (drop a o)) ≡ take (e - b) (drop b o) =
    drop_take (b - a) (e - a) (drop a o) j n ∙ (λ i. take (f i) (drop-drop (b - a) a o i)) ∙ ap (λ (m : ℕ). take (e - b) (drop m o)) g in
    let first : take (b - a) (take (e - a) (drop a o)) ≡ take (b - a) (drop a o) = take-take (b - a) (e - a) (drop a o) j in
    let past : drop (e - a) (drop a o) ≡ drop e o = drop-drop (e - a) a o ∙ ap (λ (m : ℕ). drop m o) d in
    ap (λ (l : List ℕ). take a o ++ l) ((λ i. (r-is ∙ (λ k. second k ++ first k)) i ++ past i) ∙ append_assoc (take (e - b) (drop b o)) (take (b - a) (drop a o)) (drop e o))
