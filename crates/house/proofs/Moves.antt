-- An entry moved forward among others: as code turns the part, and what it leaves. Assumes nothing.
use Prim.Native.Nat.{ℕ, suc, ◌+◌, ◌-◌, ◌≤◌, ◌<◌}
use mathlib.Core.Path.{◌≡◌, sym, ap, ◌∙◌}
use mathlib.Core.List.{List, [], ◌∷◌, ◌++◌, append_assoc}
use native.Mathlib.Omega.{arith}
use native.Mathlib.Numerals.{add-one}
use lib.ListN.{length, take, drop, get_or, length-drop, drop_of_length-le}
use lib.Seq.{length-take-le, drop-cons, split_at, take-take, drop-drop, get_or-take, get_or-drop, take-add}
use Rattle.house.specs.Arranged.{moved}

-- ---- entry j moved to k
module _ (w : List ℕ) (k j : ℕ) (h : k ≤ j) (i : j < length w) where
  abbrev between : List ℕ
  between = take (j - k) (drop k w)

  -- the part from k to j, its last moved to its front
  pub part_moved : (n : ℕ) (t : List ℕ) → n ≡ j + 1 → t ≡ drop (length (take (n - k) (drop k w)) - 1) (take (n - k) (drop k w)) ++ take (length (take (n - k) (drop k w)) - 1) (take (n - k) (drop k w))
      → take k w ++ (t ++ drop (n - k) (drop k w)) ≡ moved w k j
  unfolding moved
  part_moved n t e s =
      let part = take (n - k) (drop k w) in
      let long : length part ≡ n - k = length-take-le (n - k) (drop k w) (omega (arith, length-drop k w)) in
      let last : length part - 1 ≡ j - k = omega arith in
      let own : get_or part (j - k) 0 ≡ get_or w j 0 =
      get_or-take (n - k) (drop k w) (j - k) 0 (omega arith) ∙ get_or-drop k w (j - k) 0 ∙ (let f : k + (j - k) ≡ j = omega arith in ap (λ (m : ℕ). get_or w m 0) f) in
      let none : length part ≤ suc (j - k) = omega arith in
      let a : drop (length part - 1) part ≡ get_or w j 0 ∷ [] =
      ap (λ (m : ℕ). drop m part) last ∙ drop-cons part (j - k) 0 (omega arith) ∙ (λ m. own m ∷ drop_of_length-le part none m) in
      let b : take (length part - 1) part ≡ between = ap (λ (m : ℕ). take m part) last ∙ take-take (j - k) (n - k) (drop k w) (omega arith) in
      let z : k + (n - k) ≡ j + 1 = omega arith in
      (λ m. take k w ++ (s m ++ (drop-drop (n - k) k w ∙ ap (λ (q : ℕ). drop q w) z) m)) ∙ (λ m. take k w ++ ((a m ++ b m) ++ drop (j + 1) w))

  -- the list before
  pub cut_moved : w ≡ take k w ++ (between ++ get_or w j 0 ∷ drop (j + 1) w)
  cut_moved =
      let e : k + (j - k) ≡ j = omega arith in
      split_at w j 0 i ∙ (λ m. take (sym e m) w ++ get_or w j 0 ∷ drop (sym (add-one j) m) w)
      ∙ ap (λ (l : List ℕ). l ++ get_or w j 0 ∷ drop (j + 1) w) (take-add k (j - k) w)
      ∙ append_assoc (take k w) between (get_or w j 0 ∷ drop (j + 1) w)

pub moved_same : (w : List ℕ) (j : ℕ) → j < length w → moved w j j ≡ w
unfolding moved
moved_same w j h =
    let e : j - j ≡ 0 = omega arith in
    ap (λ (n : ℕ). take j w ++ get_or w j 0 ∷ (take n (drop j w) ++ drop (j + 1) w)) e
    ∙ (λ m. take j w ++ get_or w j 0 ∷ drop (add-one j m) w) ∙ sym (split_at w j 0 h)
