-- The records at the starts written end to end, one after another, and their new starts. Assumes nothing.
use Prim.Native.Nat.{ℕ, suc, ◌+◌, ◌≤◌, ◌<◌}
use mathlib.Core.Path.{◌≡◌, refl, sym, ap, ◌∙◌}
use mathlib.Core.List.{List, [], ◌∷◌, ◌++◌, append_assoc, append-nil}
use native.Mathlib.Omega.{arith}
use native.Mathlib.Numerals.{add-one}
use lib.ListN.{length, take, drop, get_or, set, length-append, length-map, length-drop, length-set, take-append-drop, get_or-map}
use lib.Seq.{length-take-le, take_all, take_at, drop_at, take-suc, take-suc-set, drop-drop, get_or-drop, split_at}
use Rattle.rewrite.specs.Programs.{flat, starts_of}
use Rattle.rewrite.proofs.Laying.{flat_append, starts_length, start_between, past_next}
use Rattle.house.specs.Arranged.{record_in, Begins, Starts, records_at}
use Rattle.house.proofs.Places.{begins_at}

-- i records are written, up to `at`
pub record Written (p o₀ w₀ output work : List ℕ) (at i : ℕ) : Type 0 where
  pub upto : i ≤ length w₀
  pub place : at ≡ length (flat (take i (records_at p w₀)))
  pub bytes : output ≡ flat (take i (records_at p w₀)) ++ drop at o₀
  pub long : length work ≡ length w₀
  pub front : take i work ≡ take i (starts_of 0 (records_at p w₀))
  pub past : drop i work ≡ drop i w₀

pub none_written : (p o₀ w₀ : List ℕ) → Written p o₀ w₀ o₀ w₀ 0 0
none_written p o₀ w₀ = record { upto = omega arith; place = refl; bytes = refl; long = refl; front = refl; past = refl }

module _ (p o₀ w₀ : List ℕ) (s : Starts p w₀) (room : length p ≤ length o₀) where
  abbrev all : List (List ℕ)
  all = records_at p w₀

  all_length : length all ≡ length w₀
  all_length = length-map w₀ (record_in p)

  upto_total : (i : ℕ) → length (flat (take i all)) ≤ length p
  upto_total i =
      omega (arith, s.long, ap (λ (l : List (List ℕ)). length (flat l)) (take-append-drop i all), ap length (flat_append (take i all) (drop i all)), length-append (flat (take i all)) (flat (drop i all)))

  module _ (output work : List ℕ) (at i : ℕ) (o : Written p o₀ w₀ output work at i) where
    pub output_long : length output ≡ length o₀
    output_long = omega (arith, ap length o.bytes, length-append (flat (take i all)) (drop at o₀), o.place, length-drop at o₀, upto_total i, room)

    module _ (h : i < length work) where
      -- the entry is not overwritten yet
      pub entry_is : get_or work i 0 ≡ get_or w₀ i 0
      entry_is =
          let e : i ≡ i + 0 = omega arith in
          ap (λ (n : ℕ). get_or work n 0) e ∙ sym (get_or-drop i work 0 0) ∙ ap (λ (l : List ℕ). get_or l 0 0) o.past ∙ get_or-drop i w₀ 0 0 ∙ ap (λ (n : ℕ). get_or w₀ n 0) (sym e)

      abbrev x : List ℕ
      x = record_in p (get_or work i 0)

      pub begins : Begins p (get_or work i 0)
      begins = rw entry_is (begins_at p w₀ s i (omega (arith, o.long)))

      own_is : get_or all i (record_in p 0) ≡ x
      own_is = get_or-map (record_in p) w₀ i 0 ∙ ap (record_in p) (sym entry_is)

      one_more : take (i + 1) all ≡ take i all ++ x ∷ []
      one_more = ap (λ (n : ℕ). take n all) (add-one i) ∙ take-suc all i (record_in p 0) (omega (arith, all_length, o.long)) ∙ ap (λ (y : List ℕ). take i all ++ y ∷ []) own_is

      flat_more : flat (take (i + 1) all) ≡ flat (take i all) ++ x
      flat_more = ap flat one_more ∙ flat_append (take i all) (x ∷ []) ∙ ap (λ (l : List ℕ). flat (take i all) ++ l) (append-nil x)

      pub next_place : at + length x ≡ length (flat (take (i + 1) all))
      next_place = omega (arith, o.place, ap length flat_more, length-append (flat (take i all)) x)

      pub next_small : at + length x ≤ length p
      next_small = omega (arith, next_place, upto_total (i + 1))

      -- the copy to its place in the output
      next_bytes : (t : List ℕ) (k : ℕ) → t ≡ x → k ≡ length x → take at output ++ (t ++ drop k (drop at output)) ≡ flat (take (i + 1) all) ++ drop (at + length x) o₀
      next_bytes t k e f =
          let F = flat (take i all) in
          let before : take at output ≡ F = ap (take at) o.bytes ∙ take_at F (drop at o₀) at (sym o.place) in
          let rest : drop at output ≡ drop at o₀ = ap (drop at) o.bytes ∙ drop_at F (drop at o₀) at (sym o.place) in
          let behind : drop k (drop at output) ≡ drop (at + length x) o₀ = ap (drop k) rest ∙ ap (λ (n : ℕ). drop n (drop at o₀)) f ∙ drop-drop (length x) at o₀ in
          (λ q. before q ++ (e q ++ behind q)) ∙ sym (append_assoc F x (drop (at + length x) o₀)) ∙ ap (λ (l : List ℕ). l ++ drop (at + length x) o₀) (sym flat_more)

      -- its start
      start_is : get_or (starts_of 0 all) i 0 ≡ at
      start_is =
          let u = take i all in let v = drop (suc i) all in
          let n : length u ≡ i = length-take-le i all (omega (arith, all_length, o.upto)) in
          ap (λ (k : ℕ). get_or (starts_of 0 all) k 0) (sym n)
          ∙ ap (λ (l : List (List ℕ)). get_or (starts_of 0 l) (length u) 0) (split_at all i (record_in p 0) (omega (arith, all_length, o.long)))
          ∙ start_between u (get_or all i (record_in p 0)) v ∙ sym o.place

      next_front : take (i + 1) (set work i at) ≡ take (i + 1) (starts_of 0 all)
      next_front =
          let own = starts_of 0 all in
          ap (λ (m : ℕ). take m (set work i at)) (add-one i) ∙ take-suc-set work i at h
          ∙ (λ q. o.front q ++ sym start_is q ∷ [])
          ∙ sym (take-suc own i 0 (omega (arith, starts_length 0 all, all_length, o.long))) ∙ ap (λ (m : ℕ). take m own) (sym (add-one i))

      pub one_written : (t : List ℕ) (k n : ℕ) → t ≡ x → k ≡ length x → n ≡ length x → Written p o₀ w₀ (take at output ++ (t ++ drop k (drop at output))) (set work i at) (at + n) (i + 1)
      one_written t k n e f z =
          record {
            upto = omega (arith, o.long);
            place = ap (λ (k : ℕ). at + k) z ∙ next_place;
            bytes = next_bytes t k e f ∙ ap (λ (m : ℕ). flat (take (i + 1) all) ++ drop (at + m) o₀) (sym z);
            long = length-set work i at ∙ o.long;
            front = next_front;
            past = past_next work w₀ i at o.past;
          }

    -- all are written
    module _ (h : length work ≤ i) where
      pub all_starts : work ≡ starts_of 0 all
      all_starts = sym (take_all i work h) ∙ o.front ∙ take_all i (starts_of 0 all) (omega (arith, starts_length 0 all, all_length, o.long))
