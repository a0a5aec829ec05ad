-- Two neighbours of a program: where they stand, what a swap of them is, and what it leaves. Assumes nothing.
use Prim.Native.Nat.{ℕ, suc, ◌+◌, ◌-◌, ◌≤◌, ◌<◌}
use mathlib.Core.Path.{◌≡◌, refl, sym, ap, subst, ◌∙◌}
use mathlib.Core.Bool.{true, false}
use mathlib.Core.List.{List, [], ◌∷◌, ◌++◌, append_assoc}
use native.Mathlib.Omega.{arith}
use native.Mathlib.Numerals.{add-one}
use lib.ListN.{length, take, drop, get_or, set, length-append}
use lib.Seq.{length-take-le, take_at, drop_at, drop-append-add, split_at, drop-cons, set_at}
use lib.Dec.{eqb}
use borrow.Author.Tests.{eqb-true}
use Rattle.std.proofs.lemmas.Bool.{and_parts}
use Rattle.machine.specs.declared.Racking.{Racking}
use Rattle.machine.specs.Machine.{Each}
use Rattle.record.specs.Kinds.{size_of}
use Rattle.record.specs.Format.{decode_of}
use Rattle.trace.specs.Records.{tied}
use Rattle.trace.specs.Swaps.{no_pair, is_tied, made}
use Rattle.trace.specs.Order.{in_force}
use Rattle.trace.proofs.Theorems.{made_iff_untied, refused_iff_tied, no_pair_iff_short}
use Rattle.rewrite.specs.declared.Pair.{Pair}
use Rattle.rewrite.specs.Programs.{flat, records_of, starts_of, knitting}
use Rattle.rewrite.specs.Rewrite.{racking_zero, swap_of}
use Rattle.rewrite.specs.Laid.{Placed, is_record, Sound, Laid, record_at, start_at, pair_at, tied_pair, exchanged}
use Rattle.rewrite.proofs.Records.{each_part, records_flat}
use Rattle.rewrite.proofs.Laying.{flat_append, starts_append, starts_length, start_next, Stands, stands, size_at, bytes_at}
use Rattle.rewrite.proofs.Rackings.{force_is}

-- ---- a list with two neighbours, and the same with the two exchanged
module _ (u : List (List ℕ)) (x y : List ℕ) (v : List (List ℕ)) where
  abbrev before : ℕ
  before = length (flat u)

  flat_pair : flat (u ++ x ∷ y ∷ v) ≡ flat u ++ (x ++ (y ++ flat v))
  flat_pair = flat_append u (x ∷ y ∷ v)

  -- the bytes
  bytes_exchanged : exchanged (flat (u ++ x ∷ y ∷ v)) before (before + length x) (before + length x + length y) ≡ flat (u ++ y ∷ x ∷ v)
  unfolding exchanged
  bytes_exchanged =
      let o = flat u ++ (x ++ (y ++ flat v)) in
      let a = before in let b = a + length x in let e = b + length y in
      let front : take a o ≡ flat u = take_at (flat u) _ a refl in
      let first : drop a o ≡ x ++ (y ++ flat v) = drop_at (flat u) _ a refl in
      let second : drop b o ≡ y ++ flat v = drop-append-add (flat u) (x ++ (y ++ flat v)) (length x) ∙ drop_at x _ (length x) refl in
      let z : e ≡ a + (length x + length y) = omega arith in
      let past : drop e o ≡ flat v =
      ap (λ (n : ℕ). drop n o) z ∙ drop-append-add (flat u) (x ++ (y ++ flat v)) (length x + length y)
      ∙ drop-append-add x (y ++ flat v) (length y) ∙ drop_at y _ (length y) refl in
      let m : e - b ≡ length y = omega arith in
      let n : b - a ≡ length x = omega arith in
      ap (λ (q : List ℕ). take a q ++ (take (e - b) (drop b q) ++ (take (b - a) (drop a q) ++ drop e q))) flat_pair
      ∙ (λ i. front i ++ (take (m i) (second i) ++ (take (n i) (first i) ++ past i)))
      ∙ (λ i. flat u ++ (take_at y (flat v) (length y) refl i ++ (take_at x (y ++ flat v) (length x) refl i ++ flat v)))
      ∙ sym (flat_append u (y ∷ x ∷ v))

  -- the starts: only the second moves
  starts_exchanged : (n : ℕ) → length u + 1 ≡ n → set (starts_of 0 (u ++ x ∷ y ∷ v)) n (before + length y) ≡ starts_of 0 (u ++ y ∷ x ∷ v)
  unfolding starts_of
  starts_exchanged n h =
      let s = starts_of 0 u in
      let c : ℕ = 0 + before in
      let one : starts_of 0 (u ++ x ∷ y ∷ v) ≡ (s ++ c ∷ []) ++ (c + length x) ∷ starts_of (c + length x + length y) v =
      starts_append 0 u (x ∷ y ∷ v) ∙ sym (append_assoc s (c ∷ []) ((c + length x) ∷ starts_of (c + length x + length y) v)) in
      let two : starts_of 0 (u ++ y ∷ x ∷ v) ≡ (s ++ c ∷ []) ++ (c + length y) ∷ starts_of (c + length y + length x) v =
      starts_append 0 u (y ∷ x ∷ v) ∙ sym (append_assoc s (c ∷ []) ((c + length y) ∷ starts_of (c + length y + length x) v)) in
      let long : length (s ++ c ∷ []) ≡ n = omega (arith, length-append s (c ∷ []), starts_length 0 u) in
      let f : before + length y ≡ c + length y = omega arith in
      let g : c + length x + length y ≡ c + length y + length x = omega arith in
      ap (λ (q : List ℕ). set q n (before + length y)) one
      ∙ set_at (s ++ c ∷ []) (c + length x) (starts_of (c + length x + length y) v) (before + length y) n long
      ∙ (λ i. (s ++ c ∷ []) ++ f i ∷ starts_of (g i) v)
      ∙ sym two

-- ---- records i and i + 1 of a program
module _ (p : List ℕ) (sound : Sound p) (i : ℕ) (h : i + 1 < length (records_of p)) where
  abbrev pub first : List ℕ
  first = record_at p i

  abbrev pub second : List ℕ
  second = record_at p (i + 1)

  abbrev front : List (List ℕ)
  front = take i (records_of p)

  abbrev rest : List (List ℕ)
  rest = drop (suc (i + 1)) (records_of p)

  -- what is left of a swap that is made
  abbrev exchanged_pair : List (List ℕ)
  exchanged_pair = front ++ second ∷ first ∷ rest

  pair_cut : records_of p ≡ front ++ first ∷ second ∷ rest
  pair_cut =
      split_at (records_of p) i [] (omega arith)
      ∙ ap (λ (l : List (List ℕ)). front ++ first ∷ l) (ap (λ (n : ℕ). drop n (records_of p)) (sym (add-one i)) ∙ drop-cons (records_of p) (i + 1) [] h)

  front_length : length front ≡ i
  front_length = length-take-le i (records_of p) (omega arith)

  one : Stands p i
  one = stands p sound i (omega arith)

  pub two : Stands p (i + 1)
  two = stands p sound (i + 1) h

  front_records : Each (λ (x : List ℕ). is_record x ≡ true) front
  front_records = (each_part (λ (x : List ℕ). is_record x ≡ true) front (first ∷ second ∷ rest) (subst (Each (λ (x : List ℕ). is_record x ≡ true)) pair_cut sound.records)).0

  -- ---- where they stand
  second_start : start_at p (i + 1) ≡ start_at p i + length first
  second_start = start_next p i (omega arith)

  second_end : start_at p (i + 2) ≡ start_at p (i + 1) + length second
  second_end = let e : i + 2 ≡ i + 1 + 1 = omega arith in ap (start_at p) e ∙ start_next p (i + 1) h

  -- by the two starts and the second's kind
  module _ (a b z : ℕ) (at_a : a ≡ start_at p i) (at_b : b ≡ start_at p (i + 1)) (size : z ≡ size_of (get_or p b 0)) where
    ends_at : b + z ≡ start_at p (i + 2)
    ends_at = omega (arith, at_b, size, size_at p (i + 1) two b at_b, second_end)

    pub pair_ends : b + z ≤ length p
    pair_ends = omega (arith, ends_at, second_end, two.ends)

    pub pair_is : record { first = a; second = b; end = b + z } ≡ pair_at p i
    pair_is = λ k. record { first = at_a k; second = at_b k; end = ends_at k }

  module _ (s : Pair) (at : s ≡ pair_at p i) where
    a : s.first ≡ start_at p i
    a = ap (λ (t : Pair). t.first) at

    b : s.second ≡ start_at p i + length first
    b = ap (λ (t : Pair). t.second) at ∙ second_start

    e : s.end ≡ start_at p i + length first + length second
    e = ap (λ (t : Pair). t.end) at ∙ omega (arith, second_end, second_start)

    pub placed : Placed p s
    placed =
        record {
          first_long = omega (arith, a, b, one.sized.least);
          second_long = omega (arith, b, e, two.sized.least);
          ends = omega (arith, e, second_start, two.ends);
          short = omega (arith, a, e, one.sized.most, two.sized.most);
        }

    -- each is a record's bytes
    pub first_bytes : take (s.second - s.first) (drop s.first p) ≡ first
    first_bytes = bytes_at p i one s.first a s.second (omega (arith, a, b))

    pub second_bytes : take (s.end - s.second) (drop s.second p) ≡ second
    second_bytes = bytes_at p (i + 1) two s.second (b ∙ sym second_start) s.end (omega (arith, b, e))

    -- what the two stores leave
    pub pair_bytes : exchanged p s.first s.second s.end ≡ flat exchanged_pair
    pair_bytes = (λ k. exchanged ((sym (records_flat p) ∙ ap flat pair_cut) k) (a k) (b k) (e k)) ∙ bytes_exchanged front first second rest

    pub pair_starts : (w : List ℕ) → Laid p w → set w (i + 1) (s.first + (s.end - s.second)) ≡ starts_of 0 exchanged_pair
    pair_starts w laid =
        let f : s.first + (s.end - s.second) ≡ start_at p i + length second = omega (arith, a, b, e) in
        (λ k. set ((laid.starts ∙ ap (starts_of 0) pair_cut) k) (i + 1) (f k)) ∙ starts_exchanged front first second rest (i + 1) (ap (λ (n : ℕ). n + 1) front_length)

  reads : (x : List ℕ) → is_record x ≡ true → (decode_of x).number ≡ 0
  reads x e = eqb-true (decode_of x).number 0 (and_parts (eqb (decode_of x).number 0) (eqb (decode_of x).size (length x)) e).0

  pub first_reads : (decode_of first).number ≡ 0
  first_reads = reads first one.is_one_record

  pub second_reads : (decode_of second).number ≡ 0
  second_reads = reads second two.is_one_record

  -- ---- the swap
  swap_read : swap_of i (records_of p) ≡ swap_of (length front) (front ++ first ∷ second ∷ rest)
  swap_read = λ k. swap_of (sym front_length k) (pair_cut k)

  tie_read : tied_pair p i ≡ tied knitting (in_force knitting racking_zero front) first second
  tie_read = ap (λ (r : Racking). tied knitting r first second) (sym (force_is front front_records))

  pub pair_tied : tied_pair p i ≡ true → swap_of i (records_of p) ≡ is_tied
  pair_tied t = swap_read ∙ (refused_iff_tied knitting racking_zero front first second rest).1 (sym tie_read ∙ t)

  pub pair_made : tied_pair p i ≡ false → swap_of i (records_of p) ≡ made exchanged_pair
  pair_made t = swap_read ∙ (made_iff_untied knitting racking_zero front first second rest).1 (sym tie_read ∙ t)

pub pair_none : (l : List (List ℕ)) (i : ℕ) → length l ≤ i + 1 → swap_of i l ≡ no_pair
pair_none l i h = (no_pair_iff_short knitting racking_zero i l).1 (omega (arith, add-one i))
