-- The same records between the same racks: kept by swaps, and enough for the same marks, repeats counted. Assumes nothing.
use borrow.Table.Steps.{cases}
use Prim.Native.Nat.{ℕ, zero, suc, ◌+◌}
use mathlib.Core.Path.{◌≡◌, refl, ap, ◌∙◌, fun_ext}
use mathlib.Core.Bool.{Bool, cond}
use mathlib.Core.List.{List, [], ◌∷◌}
use native.Mathlib.Omega.{arith}
use Rattle.trace.specs.Lists.{keep, count}
use Rattle.trace.specs.Records.{Records, Lawful}
use Rattle.trace.specs.Swaps.{Swaps, no_swap, swap_first}
use Rattle.trace.specs.Order.{stretch, SameRecords}
use Rattle.trace.proofs.Lists.{count_swap}
use Rattle.trace.proofs.Elements.{SameElements}
use Rattle.trace.proofs.Swaps.{Made, made_is, untied, swaps_keep}
use Rattle.trace.proofs.Marks.{Mark, marked, marks, stretch_after, together, same_mark}

module _ {A R : Type 0} (K : Records A R) where
  open K use {same, is_rack, after}

  -- a swap changes no count in any stretch
  made_stretch : (p : A → Bool) {r : R} {i : ℕ} {l m : List A} → Made K r i l m → (k : ℕ) → count p (stretch K k l) ≡ count p (stretch K k m)
  made_stretch p (Made.here {r} {x} {y} {l} t) zero = let (a, b, c, d) = untied K r x y t in cc (count_swap p x y (stretch K zero l))
  made_stretch p (Made.here {r} {x} {y} t) (suc k) = let (a, b, c, d) = untied K r x y t in cc
  made_stretch p (Made.there {x = x} s) zero = let ih = made_stretch p s zero in cases (is_rack x) (λ a. cc) (λ a. cc)
  made_stretch p (Made.there {x = x} s) (suc k) =
      let here = made_stretch p s k in
      let later = made_stretch p s (suc k) in
      cases (is_rack x) (λ a. cc) (λ a. cc)

  swaps_stretch : {r : R} {is : List ℕ} {l m : List A} → Swaps K r is l m → (p : A → Bool) (k : ℕ) → count p (stretch K k l) ≡ count p (stretch K k m)
  swaps_stretch no_swap p k = refl
  swaps_stretch {r} (swap_first {i} {l = l} {m = m} e t) p k = made_stretch p (made_is K l m r i e) k ∙ swaps_stretch t p k

  pub swaps_records : {r : R} {is : List ℕ} {l m : List A} → Swaps K r is l m → SameRecords K l m
  swaps_records t = record { racks = swaps_keep K is_rack (λ r x y a b. cc) t; between = λ k x. swaps_stretch t (same x) k }

  -- how often a mark stands in a list, computed from the racks and from how often its record stands in each stretch
  mark_count : Mark A R → ℕ → R → List A → (ℕ → ℕ) → ℕ
  mark_count z k r [] c = cond (together K z (marked K k r z.what)) (c 0) 0
  mark_count z k r (x ∷ racks) c =
      cond (together K z (marked K k r x)) (cond (same z.what x) (suc (c 0)) (c 0)) 0 + mark_count z (suc k) (after r x) racks (λ j. c (suc j))

  mark_count_ext : (z : Mark A R) (k : ℕ) (r : R) (racks : List A) (c d : ℕ → ℕ) → ((j : ℕ) → c j ≡ d j) → mark_count z k r racks c ≡ mark_count z k r racks d
  mark_count_ext z k r racks c d h = ap (mark_count z k r racks) (fun_ext h)

  mark_count_first : (z : Mark A R) (k : ℕ) (r : R) (racks : List A) (c d : ℕ → ℕ) → ((j : ℕ) → c (suc j) ≡ d (suc j))
      → mark_count z k r racks c + cond (together K z (marked K k r z.what)) (d 0) 0 ≡ mark_count z k r racks d + cond (together K z (marked K k r z.what)) (c 0) 0
  unfolding mark_count
  mark_count_first z k r [] c d h = omega arith
  mark_count_first z k r (x ∷ racks) c d h =
      let t = mark_count_ext z (suc k) (after r x) racks (λ j. c (suc j)) (λ j. d (suc j)) h in
      cases (together K z (marked K k r x))
      (λ n. cases (same z.what x) (λ a. rw (n, a) (omega arith)) (λ a. rw (n, a) (omega arith)))
      (λ n. rw n (omega arith))

  -- how often x stands in each stretch
  abbrev each_stretch : A → List A → ℕ → ℕ
  each_stretch x l k = count (same x) (stretch K k l)

  module _ (L : Lawful K) where
    open L use {after_other}

    count_marks : (z : Mark A R) (k : ℕ) (r : R) (l : List A) → count (same_mark K z) (marks K k r l) ≡ mark_count z k r (keep is_rack l) (each_stretch z.what l)
    unfolding mark_count
    count_marks z k r [] = cases (together K z (marked K k r z.what)) (λ n. rw n) (λ n. rw n)
    count_marks z k r (x ∷ l) =
        let ih = count_marks z (stretch_after K k x) (after r x) l in
        cases (is_rack x)
        (λ a.
        let t = mark_count_ext z (suc k) (after r x) (keep is_rack l) (λ j. each_stretch z.what (x ∷ l) (suc j)) (each_stretch z.what l) (λ j. cc) in
        let u : each_stretch z.what (x ∷ l) 0 ≡ 0 = cc in
        let g = rw a at ih in
        cases (together K z (marked K k r x))
        (λ n. cases (same z.what x) (λ b. rw (a, n, b) (omega arith)) (λ b. rw (a, n, b) (omega arith)))
        (λ n. rw (a, n) (omega arith)))
        (λ a.
        let t = mark_count_first z k r (keep is_rack l) (each_stretch z.what (x ∷ l)) (each_stretch z.what l) (λ j. cc) in
        let u : each_stretch z.what (x ∷ l) 0 ≡ cond (same z.what x) (suc (each_stretch z.what l 0)) (each_stretch z.what l 0) = cc in
        let g = rw (a, after_other r x a) at ih in
        cases (together K z (marked K k r x))
        (λ n. cases (same z.what x)
        (λ b. rw (a, after_other r x a, n, b) (let t' = rw n at t in let u' = rw b at u in omega arith))
        (λ b. rw (a, after_other r x a, n, b) (let t' = rw n at t in let u' = rw b at u in omega arith)))
        (λ n. rw (a, after_other r x a, n) (let t' = rw n at t in omega arith)))

    pub records_marks : (r : R) (l m : List A) → SameRecords K l m → SameElements (same_mark K) (marks K 0 r l) (marks K 0 r m)
    records_marks r l m h z =
        let t = mark_count_ext z 0 r (keep is_rack m) (each_stretch z.what l) (each_stretch z.what m) (λ j. h.between j z.what) in
        let u = h.racks in
        cc (count_marks z 0 r l, count_marks z 0 r m)
