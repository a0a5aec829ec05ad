-- The run of a slice's first record alone, as much as there is of it, is that record's step. Assumes nothing.
use borrow.Table.Steps.{cases}
use Prim.Native.Nat.{ℕ, ◌+◌, ◌≤◌, ◌<◌}
use mathlib.Core.Path.{◌≡◌, refl, sym, ap, subst, ◌∙◌}
use mathlib.Core.List.{List, [], ◌∷◌}
use native.Mathlib.Omega.{arith}
use lib.Dec.{eqb, ltb}
use lib.ListN.{length, take}
use lib.Seq.{length-take-le, take_all}
use borrow.Author.Tests.{ne_eqb, lt-ltb, le-ltb, ltb-true, ltb-false}
use Rattle.machine.specs.declared.State.{State}
use Rattle.record.specs.Kinds.{size_of}
use Rattle.record.specs.Format.{Reading, byte, refused_as, decode_of}
use Rattle.record.proofs.Forms.{decode_none, decode_strange, decode_short, decode_front, decode_kind}
use Rattle.run.specs.declared.Stepped.{Stepped}
use Rattle.run.specs.Step.{number_at}
use Rattle.run.specs.Run.{reached, told, stay, step_of, run_from, front_of}
use Rattle.record.proofs.Shapes.{is, cond_cases}
use Rattle.machine.proofs.Refused.{number_some}
use Rattle.run.proofs.Turns.{unread_step, refused_step, made_step, stops_at, goes_at, ends_at}
use Rattle.machine.proofs.Walks.{beds_most}

-- ---- the front of a slice
pub front_none : (l : List ℕ) → length l ≡ 0 → 0 ≡ front_of l
unfolding front_of
front_none l h = simp h

module _ (l : List ℕ) (some : (length l ≡ 0 → ⊥)) where
  abbrev size : ℕ
  size = size_of (byte l 0)

  pub front_strange : size ≡ 0 → 1 ≡ front_of l
  unfolding front_of
  front_strange e = simp (ne_eqb (length l) 0 some, e)

  module _ (known : size ≡ 0 → ⊥) where
    pub front_short : length l < size → length l ≡ front_of l
    unfolding front_of
    front_short h = simp (ne_eqb (length l) 0 some, ne_eqb size 0 known, lt-ltb (length l) size h)

    pub front_whole : size ≤ length l → size ≡ front_of l
    unfolding front_of
    front_whole h = simp (ne_eqb (length l) 0 some, ne_eqb size 0 known, le-ltb (length l) size h)

  -- by the look at the kind and at the length
  front_by : (P : ℕ → Type 0) → (size ≡ 0 → P 1) → ((size ≡ 0 → ⊥) → length l < size → P (length l)) → ((size ≡ 0 → ⊥) → size ≤ length l → P size) → P (front_of l)
  front_by P strange short whole =
      is size 0 (λ e. subst P (front_strange e) (strange e))
      (λ d. cases (ltb (length l) size) (λ t. let h = ltb-true (length l) size t in subst P (front_short d h) (short d h)) (λ t. let h = ltb-false (length l) size t in subst P (front_whole d h) (whole d h)))

  within : (0 < front_of l) × (front_of l ≤ length l)
  within =
      front_by (λ (n : ℕ). (0 < n) × (n ≤ length l)) (λ e. (omega arith, omega (arith, some))) (λ d h. (omega (arith, some), omega arith)) (λ d h. (omega (arith, d), h))

  -- it is read as the whole slice is
  same : decode_of (take (front_of l) l) ≡ decode_of l
  same =
      front_by (λ (n : ℕ). decode_of (take n l) ≡ decode_of l)
      (λ e. strange l some e) (λ d h. ap decode_of (take_all (length l) l (omega arith))) (λ d h. decode_front l (omega (arith, d)) h)
    where
      strange : (k : List ℕ) → (length k ≡ 0 → ⊥) → size_of (byte k 0) ≡ 0 → decode_of (take 1 k) ≡ decode_of k
      strange [] h e = absurd (h refl)
      strange (b ∷ k) h e = decode_strange (take 1 (b ∷ k)) (omega arith) e ∙ sym (decode_strange (b ∷ k) (omega arith) e)

  -- and as long as the record, if there is one
  sized : (decode_of l).number ≡ 0 → (decode_of l).size ≡ front_of l
  unfolding refused_as
  sized k =
      front_by (λ (n : ℕ). (decode_of l).size ≡ n)
      (λ e. absurd (omega (arith, ap (λ (d : Reading). d.number) (decode_strange l (omega (arith, some)) e), k)))
      (λ d h. absurd (omega (arith, ap (λ (d : Reading). d.number) (decode_short l (omega (arith, some)) h), k)))
      (λ d h. decode_kind l k)

front_within : (l : List ℕ) → front_of l ≤ length l
front_within l = is (length l) 0 (λ e. omega (arith, front_none l e)) (λ d. (within l d).1)

pub front_long : (l : List ℕ) → length (take (front_of l) l) ≡ front_of l
front_long l = length-take-le (front_of l) l (front_within l)

-- ---- a step by its numbers and its state
pub step_told : (s : State) (l : List ℕ) → step_of s l ≡ told (step_of s l).number (step_of s l).length (step_of s l).state
unfolding step_of
step_told s l =
    cond_cases Told (eqb (decode_of l).number 0)
    (λ _. cond_cases Told (eqb (number_at s (decode_of l).what) 0) (λ _. refl) (λ _. refl)) (λ _. refl)
  where
    Told : Stepped → Type 0
    Told t = t ≡ told t.number t.length t.state

-- a step that is refused has no length and keeps the state
pub step_kept : (s : State) (l : List ℕ) → ((step_of s l).number ≡ 0 → ⊥) → ((step_of s l).length ≡ 0) × ((step_of s l).state ≡ s)
unfolding step_of
step_kept s l =
    cond_cases Kept (eqb (decode_of l).number 0)
    (λ _. cond_cases Kept (eqb (number_at s (decode_of l).what) 0) (λ _ d. absurd (d refl)) (λ _ _. (refl, refl))) (λ _ _. (refl, refl))
  where
    Kept : Stepped → Type 0
    Kept t = (t.number ≡ 0 → ⊥) → (t.length ≡ 0) × (t.state ≡ s)

-- ---- that much of a slice, alone
module _ (s : State) (l : List ℕ) where
  abbrev q : List ℕ
  q = take (front_of l) l

  -- without a byte it is cut short
  pub front_empty : front_of l ≡ 0 → step_of s l ≡ stay 4 s
  unfolding refused_as
  front_empty e =
      is (length l) 0
      (λ h. let k = decode_none l h in unread_step s l (λ z. omega (arith, ap (λ (d : Reading). d.number) k, z)) ∙ ap (λ (d : Reading). stay d.number s) k)
      (λ h. absurd (omega (arith, (within l h).0, e)))

  module _ (d : front_of l ≡ 0 → ⊥) where
    some : length l ≡ 0 → ⊥
    some h = d (sym (front_none l h))

    there : 0 < length q
    there = omega (arith, front_long l, d)

    step_same : step_of s q ≡ step_of s l
    unfolding step_of
    step_same = simp (same l some)

    pub front_size : (step_of s l).number ≡ 0 → (step_of s l).length ≡ front_of l
    front_size e =
        is (decode_of l).number 0
        (λ k. is (number_at s (decode_of l).what) 0 (λ z. ap (λ (t : Stepped). t.length) (made_step s l k z) ∙ sized l some k)
        (λ n. absurd (n (sym (ap (λ (t : Stepped). t.number) (refused_step s l k n)) ∙ e))))
        (λ n. absurd (n (sym (ap (λ (t : Stepped). t.number) (unread_step s l n)) ∙ e)))

    ends : (step_of s q).number ≡ 0 → run_from 0 q 0 s ≡ reached (step_of s q).number 0 (step_of s q).state
    ends e =
        let n : (step_of s q).length ≡ length q = ap (λ (t : Stepped). t.length) step_same ∙ front_size (sym (ap (λ (t : Stepped). t.number) step_same) ∙ e) ∙ sym (front_long l) in
        goes_at q 0 s there e ∙ ends_at q (0 + (step_of s q).length) (step_of s q).state (omega (arith, n))
        ∙ ap (λ (m : ℕ). reached m 0 (step_of s q).state) (sym e)

    pub run_alone : run_from 0 q 0 s ≡ reached (step_of s l).number 0 (step_of s l).state
    run_alone =
        is (step_of s q).number 0 ends (stops_at q 0 s there)
        ∙ ap (λ (t : Stepped). reached t.number 0 t.state) step_same

pub ruleset standing_alone = (number_some, front_long, front_empty, front_size, run_alone, step_kept)

pub ruleset stepping = (number_some, step_told, step_kept, beds_most)
