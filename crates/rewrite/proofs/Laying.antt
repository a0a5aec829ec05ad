-- A program laid in the lent areas: where its records start, and what stands there. Assumes nothing.
use Prim.Native.Nat.{ℕ, suc, ◌+◌, ◌-◌, ◌*◌, ◌/◌, ◌≤◌, ◌<◌}
use mathlib.Core.Path.{◌≡◌, refl, sym, ap, subst, ◌∙◌}
use mathlib.Core.Bool.{true}
use mathlib.Core.List.{List, [], ◌∷◌, ◌++◌, append_assoc}
use native.Mathlib.Omega.{arith}
use native.Mathlib.Numerals.{add-one}
use lib.ListN.{length, take, drop, get_or, set, length-append, take-append-drop, get_or-append}
use lib.Seq.{length-take-le, take-length, take-suc, take-suc-set, take_at, drop_at, drop-drop, drop-set-lt, split_at, get_or_at, get_or-drop}
use Rattle.machine.specs.Machine.{Each}
use Rattle.record.proofs.Shapes.{is}
use Rattle.record.specs.Kinds.{size_of}
use Rattle.record.specs.Format.{byte}
use Rattle.rewrite.specs.Programs.{flat, records_of, starts_of}
use Rattle.rewrite.specs.Laid.{is_record, Sound, Laid, record_at, start_at}
use Rattle.rewrite.proofs.Records.{each_part, Sized, record_size, records_length, records_flat}

-- ---- lists of records
pub flat_append : (u v : List (List ℕ)) → flat (u ++ v) ≡ flat u ++ flat v
flat_append [] v = refl
flat_append (x ∷ u) v = ap (λ (q : List ℕ). x ++ q) (flat_append u v) ∙ sym (append_assoc x (flat u) (flat v))

pub starts_length : (at : ℕ) (l : List (List ℕ)) → length (starts_of at l) ≡ length l
unfolding starts_of
starts_length at [] = refl
starts_length at (x ∷ l) = ap suc (starts_length (at + length x) l)

pub starts_append : (at : ℕ) (u v : List (List ℕ)) → starts_of at (u ++ v) ≡ starts_of at u ++ starts_of (at + length (flat u)) v
unfolding starts_of
starts_append at [] v = let e : at ≡ at + 0 = omega arith in ap (λ (n : ℕ). starts_of n v) e
starts_append at (x ∷ u) v =
    let e : at + length x + length (flat u) ≡ at + length (x ++ flat u) = omega (arith, length-append x (flat u)) in
    ap (λ (q : List ℕ). at ∷ q) (starts_append (at + length x) u v ∙ ap (λ (n : ℕ). starts_of (at + length x) u ++ starts_of n v) e)

-- ---- a record x between others
module _ (u : List (List ℕ)) (x : List ℕ) (v : List (List ℕ)) where
  pub start_between : get_or (starts_of 0 (u ++ x ∷ v)) (length u) 0 ≡ length (flat u)
  unfolding starts_of
  start_between =
      ap (λ (l : List ℕ). get_or l (length u) 0) (starts_append 0 u (x ∷ v))
      ∙ get_or_at (starts_of 0 u) (0 + length (flat u)) (starts_of (0 + length (flat u) + length x) v) 0 (length u) (starts_length 0 u)
      ∙ omega arith

  bytes_between : drop (length (flat u)) (flat (u ++ x ∷ v)) ≡ x ++ flat v
  bytes_between = ap (drop (length (flat u))) (flat_append u (x ∷ v)) ∙ drop_at (flat u) (x ++ flat v) (length (flat u)) refl

  length_between : length (flat (u ++ x ∷ v)) ≡ length (flat u) + (length x + length (flat v))
  length_between = ap length (flat_append u (x ∷ v)) ∙ omega (arith, length-append (flat u) (x ++ flat v), length-append x (flat v))

-- one start more
pub start_next : (p : List ℕ) (j : ℕ) → j < length (records_of p) → start_at p (j + 1) ≡ start_at p j + length (record_at p j)
start_next p j h =
    let l = records_of p in
    ap (λ (m : List (List ℕ)). length (flat m)) (ap (λ (n : ℕ). take n l) (add-one j) ∙ take-suc l j [] h)
    ∙ length_between (take j l) (record_at p j) [] ∙ omega arith

-- ---- record j of a program, and what stands at its start
pub record Stands (p : List ℕ) (j : ℕ) : Type 0 where
  pub is_one_record : is_record (record_at p j) ≡ true
  pub sized : Sized (record_at p j)
  pub ends : start_at p j + length (record_at p j) ≤ length p
  pub bytes : drop (start_at p j) p ≡ record_at p j ++ flat (drop (suc j) (records_of p))

module _ (p : List ℕ) (sound : Sound p) where
  abbrev l : List (List ℕ)
  l = records_of p

  few : length l * 2 ≤ length p
  few = subst (λ (q : List ℕ). length l * 2 ≤ length q) (records_flat p) (records_length l sound.records)

  pub records_short : length l ≤ 16384
  records_short = omega (arith, few, sound.short)

  pub stands : (j : ℕ) → j < length l → Stands p j
  stands j h =
      let u = take j l in let x = record_at p j in let v = drop (suc j) l in
      let cut : l ≡ u ++ x ∷ v = split_at l j [] h in
      let e : is_record x ≡ true = (each_part (λ (x : List ℕ). is_record x ≡ true) u (x ∷ v) (subst (Each (λ (x : List ℕ). is_record x ≡ true)) cut sound.records)).1.0 in
      let joined : p ≡ flat (u ++ x ∷ v) = sym (records_flat p) ∙ ap flat cut in
      record {
        is_one_record = e;
        sized = record_size x e;
        ends = omega (arith, ap length joined, length_between u x v);
        bytes = ap (drop (length (flat u))) joined ∙ bytes_between u x v;
      }

module _ (p : List ℕ) (j : ℕ) (s : Stands p j) (a : ℕ) (at : a ≡ start_at p j) where
  pub byte_at : (k : ℕ) → k < length (record_at p j) → get_or p (a + k) 0 ≡ byte (record_at p j) k
  byte_at k h =
      ap (λ (n : ℕ). get_or p (n + k) 0) at ∙ sym (get_or-drop (start_at p j) p k 0) ∙ ap (λ (q : List ℕ). get_or q k 0) s.bytes
      ∙ get_or-append (record_at p j) (flat (drop (suc j) (records_of p))) 0 k h

  pub kind_at : get_or p a 0 ≡ byte (record_at p j) 0
  kind_at = let e : a ≡ a + 0 = omega arith in ap (λ (n : ℕ). get_or p n 0) e ∙ byte_at 0 (omega (arith, s.sized.least))

  pub size_at : size_of (get_or p a 0) ≡ length (record_at p j)
  size_at = ap size_of kind_at ∙ sym s.sized.kind

  pub bytes_at : (b : ℕ) → b ≡ a + length (record_at p j) → take (b - a) (drop a p) ≡ record_at p j
  bytes_at b e =
      let n : b - a ≡ length (record_at p j) = omega arith in
      (λ k. take (n k) ((ap (λ (m : ℕ). drop m p) at ∙ s.bytes) k)) ∙ take_at (record_at p j) (flat (drop (suc j) (records_of p))) (length (record_at p j)) refl

-- ---- the starts in the work area
module _ (p w : List ℕ) (laid : Laid p w) where
  pub work_length : length w ≡ length (records_of p)
  work_length = ap length laid.starts ∙ starts_length 0 (records_of p)

  pub work_short : length w ≤ 16384
  work_short = omega (arith, work_length, records_short p laid.sound)

  pub work_start : (j : ℕ) → j < length w → get_or w j 0 ≡ start_at p j
  work_start j h =
      let i : j < length (records_of p) = omega (arith, work_length) in
      let n : length (take j (records_of p)) ≡ j = length-take-le j (records_of p) (omega arith) in
      ap (λ (q : List ℕ). get_or q j 0) laid.starts ∙ (λ k. get_or (starts_of 0 (split_at (records_of p) j [] i k)) (sym n k) 0)
      ∙ start_between (take j (records_of p)) (record_at p j) (drop (suc j) (records_of p))

-- ---- the starts, written one after another: n are written, and the next record starts at `at`
pub record Upto (p : List ℕ) (n at : ℕ) : Type 0 where
  pub some : n ≤ length (records_of p)
  pub place : at ≡ start_at p n

module _ (p : List ℕ) (sound : Sound p) (n at : ℕ) (h : Upto p n at) where
  -- the end is reached exactly after the last record
  not_yet : at < length p → n < length (records_of p)
  not_yet i =
      is n (length (records_of p))
      (λ e. absurd (omega (arith, h.place, all_taken e, i)))
      (λ d. omega (arith, h.some))
    where
      all_taken : n ≡ length (records_of p) → start_at p n ≡ length p
      all_taken e = ap (start_at p) e ∙ ap (λ (l : List (List ℕ)). length (flat l)) (take-length (records_of p)) ∙ ap length (records_flat p)

  pub next_entry : at < length p → n < length p / 2
  next_entry i = omega (arith, not_yet i, few p sound)

  pub all_written : length p ≤ at → n ≡ length (records_of p)
  all_written i =
      is n (length (records_of p)) (λ e. e)
      (λ d. let s = stands p sound n (omega (arith, h.some)) in absurd (omega (arith, s.ends, s.sized.least, h.place)))

  -- one start more
  module _ (i : at < length p) where
    next : Stands p n
    next = stands p sound n (not_yet i)

    next_is : size_of (get_or p at 0) ≡ length (record_at p n)
    next_is = size_at p n next at h.place

    pub next_size : (2 ≤ size_of (get_or p at 0)) × (size_of (get_or p at 0) ≤ 6)
    next_size = (omega (arith, next_is, next.sized.least), omega (arith, next_is, next.sized.most))

    pub upto_next : Upto p (n + 1) (at + size_of (get_or p at 0))
    upto_next = let k = not_yet i in record { some = omega arith; place = omega (arith, start_next p n k, h.place, next_is) }

    -- the work area with it
    pub starts_next : (w : List ℕ) → n < length w → take n w ≡ take n (starts_of 0 (records_of p)) → take (n + 1) (set w n at) ≡ take (n + 1) (starts_of 0 (records_of p))
    starts_next w j e =
        let own = starts_of 0 (records_of p) in
        let k : n < length own = omega (arith, not_yet i, starts_length 0 (records_of p)) in
        let f : at ≡ get_or own n 0 = h.place ∙ sym (work_start p own (record { sound = sound; starts = refl }) n k) in
        ap (λ (m : ℕ). take m (set w n at)) (add-one n) ∙ take-suc-set w n at j
        ∙ (λ q. e q ++ f q ∷ [])
        ∙ sym (take-suc own n 0 k)
        ∙ ap (λ (m : ℕ). take m own) (sym (add-one n))

-- none are written at first
pub upto_none : (p : List ℕ) → Upto p 0 0
upto_none p = record { some = omega arith; place = refl }

-- what is past them stays
pub past_next : (w w₀ : List ℕ) (n a : ℕ) → drop n w ≡ drop n w₀ → drop (n + 1) (set w n a) ≡ drop (n + 1) w₀
past_next w w₀ n a h = drop-set-lt (n + 1) w n a (omega arith) ∙ sym (drop-drop 1 n w) ∙ ap (drop 1) h ∙ drop-drop 1 n w₀

-- all of them, and the rest of the work area
pub starts_all : (p w w₀ : List ℕ) (n : ℕ) → n ≡ length (records_of p) → take n w ≡ take n (starts_of 0 (records_of p)) → drop n w ≡ drop n w₀
    → w ≡ starts_of 0 (records_of p) ++ drop n w₀
starts_all p w w₀ n e t d =
    let own = starts_of 0 (records_of p) in
    sym (take-append-drop n w) ∙ (λ i. t i ++ d i)
    ∙ ap (λ (q : List ℕ). q ++ drop n w₀) (ap (λ (m : ℕ). take m own) (e ∙ sym (starts_length 0 (records_of p))) ∙ take-length own)
