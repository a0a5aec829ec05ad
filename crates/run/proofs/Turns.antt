-- One turn of the run's loop: the step of the first record at a place, and the run of the rest of the program. Assumes nothing.
use Prim.Native.Nat.{ℕ, zero, suc, ◌+◌, ◌-◌, ◌≤◌, ◌<◌}
use mathlib.Core.Path.{◌≡◌, refl, sym, ap, subst, ◌∙◌}
use mathlib.Core.List.{List, [], ◌∷◌}
use native.Mathlib.Omega.{arith}
use lib.ListN.{length, drop, take, length-drop, drop_of_length-le}
use lib.Seq.{take_all, drop-drop}
use borrow.Author.Tests.{eq-eqb, ne_eqb}
use Rattle.machine.specs.declared.State.{State}
use Rattle.record.specs.Format.{decode_of}
use Rattle.record.proofs.Shapes.{is, known_least, known_most, carrying, two_named}
use Rattle.record.proofs.Forms.{decode_size, decode_in}
use Rattle.run.specs.Step.{number_at, apply_of}
use Rattle.run.specs.declared.Stepped.{Stepped}
use Rattle.machine.proofs.Refused.{number_some}
use Rattle.run.specs.Run.{Fits, reached, told, stay, step_of, turn, run_from}

-- passing over bytes
run_skip : (k : ℕ) (l : List ℕ) (at : ℕ) (s : State) → run_from k l at s ≡ run_from 0 (drop k l) at s
unfolding run_from
run_skip zero l at s = refl
run_skip (suc k) [] at s = refl
run_skip (suc k) (b ∷ l) at s = run_skip k l at s

pub run_end : (at : ℕ) (s : State) → run_from 0 [] at s ≡ reached 0 0 s
unfolding run_from
run_end at s = refl

skip_cons : (n b : ℕ) (l : List ℕ) (at : ℕ) (s : State) → 0 < n → run_from (n - 1) l at s ≡ run_from 0 (drop n (b ∷ l)) at s
skip_cons zero b l at s h = absurd (omega arith)
skip_cons (suc n) b l at s h = let e : suc n - 1 ≡ n = omega arith in ap (λ (k : ℕ). run_from k l at s) e ∙ run_skip n l at s

-- ---- a step's three ends
module _ (s : State) (l : List ℕ) where
  pub unread_step : ((decode_of l).number ≡ 0 → ⊥) → step_of s l ≡ stay (decode_of l).number s
  unfolding step_of
  unread_step h = simp (ne_eqb (decode_of l).number 0 h)

  module _ (k : (decode_of l).number ≡ 0) where
    pub refused_step : (number_at s (decode_of l).what ≡ 0 → ⊥) → step_of s l ≡ stay (number_at s (decode_of l).what) s
    unfolding step_of
    refused_step h = simp (eq-eqb (decode_of l).number 0 k, ne_eqb (number_at s (decode_of l).what) 0 h)

    pub made_step : number_at s (decode_of l).what ≡ 0 → step_of s l ≡ told 0 (decode_of l).size (apply_of s (decode_of l).what)
    unfolding step_of
    made_step h = simp (eq-eqb (decode_of l).number 0 k, eq-eqb (number_at s (decode_of l).what) 0 h)

-- ---- and what the run makes of it: it stops there, or goes on behind the record
pub run_stops : (l : List ℕ) (at : ℕ) (s : State) → 0 < length l → ((step_of s l).number ≡ 0 → ⊥) → run_from 0 l at s ≡ reached (step_of s l).number at (step_of s l).state
unfolding run_from turn
run_stops [] at s h d = absurd (omega arith)
run_stops (b ∷ l) at s h d = simp (ne_eqb (step_of s (b ∷ l)).number 0 d)

pub run_goes : (l : List ℕ) (at : ℕ) (s : State) → 0 < length l → (step_of s l).number ≡ 0 → 0 < (step_of s l).length
    → run_from 0 l at s ≡ run_from 0 (drop (step_of s l).length l) (at + (step_of s l).length) (step_of s l).state
unfolding run_from turn
run_goes [] at s h e m = absurd (omega arith)
run_goes (b ∷ l) at s h e m =
    simp (eq-eqb (step_of s (b ∷ l)).number 0 e) (skip_cons (step_of s (b ∷ l)).length b l (at + (step_of s (b ∷ l)).length) (step_of s (b ∷ l)).state m)

-- a first record that bytes refuse, that its step refuses, that has its step
module _ (l : List ℕ) (at : ℕ) (s : State) (h : 0 < length l) where
  number : {t : Stepped} → step_of s l ≡ t → (step_of s l).number ≡ t.number
  number e = ap (λ (t : Stepped). t.number) e

  pub run_refused : ((decode_of l).number ≡ 0 → ⊥) → run_from 0 l at s ≡ reached (decode_of l).number at s
  run_refused d =
      let e = unread_step s l d in run_stops l at s h (λ z. d (sym (number e) ∙ z)) ∙ ap (λ (t : Stepped). reached t.number at t.state) e

  module _ (k : (decode_of l).number ≡ 0) where
    pub run_stopped : (number_at s (decode_of l).what ≡ 0 → ⊥) → run_from 0 l at s ≡ reached (number_at s (decode_of l).what) at s
    run_stopped d =
        let e = refused_step s l k d in run_stops l at s h (λ z. d (sym (number e) ∙ z)) ∙ ap (λ (t : Stepped). reached t.number at t.state) e

    pub run_next : number_at s (decode_of l).what ≡ 0 → run_from 0 l at s ≡ run_from 0 (drop (decode_of l).size l) (at + (decode_of l).size) (apply_of s (decode_of l).what)
    run_next z =
        let e = made_step s l k z in
        run_goes l at s h (number e) (subst (λ (t : Stepped). 0 < t.length) (sym e) (decode_size l k).0)
        ∙ ap (λ (t : Stepped). run_from 0 (drop t.length l) (at + t.length) t.state) e

-- ---- of a slice's first record
pub fits : (l : List ℕ) → (decode_of l).number ≡ 0 → Fits (decode_of l).what
fits l k =
    let x = decode_in l k in
    record {
      kind_low = known_least x.known;
      kind_high = known_most x.known;
      at_bed = x.at_bed;
      to_bed = x.to_bed;
      carrier_low = λ h. x.carrier_low (carrying x.known h);
      carrier_high = x.carrier_high;
      second_low = λ h. x.second_low (two_named (decode_of l).what.kind h (known_most x.known));
      second_high = x.second_high;
    }

-- a step's length is that of a record that is there
pub step_sized : (s : State) (l : List ℕ) → (step_of s l).number ≡ 0 → (0 < (step_of s l).length) × ((step_of s l).length ≤ length l)
step_sized s l e =
    is (decode_of l).number 0
    (λ k. is (number_at s (decode_of l).what) 0
    (λ z. subst (λ (t : Stepped). (0 < t.length) × (t.length ≤ length l)) (sym (made_step s l k z)) (decode_size l k))
    (λ d. absurd (d (sym (ap (λ (t : Stepped). t.number) (refused_step s l k d)) ∙ e))))
    (λ d. absurd (d (sym (ap (λ (t : Stepped). t.number) (unread_step s l d)) ∙ e)))

-- ---- at a place in a program
module _ (p : List ℕ) (at : ℕ) where
  pub rest_is : take (length p - at) (drop at p) ≡ drop at p
  rest_is = take_all (length p - at) (drop at p) (omega (arith, length-drop at p))

  module _ (s : State) where
    pub ends_at : length p ≤ at → run_from 0 (drop at p) at s ≡ reached 0 0 s
    ends_at h = ap (λ (l : List ℕ). run_from 0 l at s) (drop_of_length-le p h) ∙ run_end at s

    module _ (h : at < length p) where
      some : 0 < length (drop at p)
      some = omega (arith, length-drop at p, h)

      pub stops_at : ((step_of s (drop at p)).number ≡ 0 → ⊥) → run_from 0 (drop at p) at s ≡ reached (step_of s (drop at p)).number at (step_of s (drop at p)).state
      stops_at d = run_stops (drop at p) at s some d

      module _ (e : (step_of s (drop at p)).number ≡ 0) where
        abbrev long : ℕ
        long = (step_of s (drop at p)).length

        pub goes_at : run_from 0 (drop at p) at s ≡ run_from 0 (drop (at + long) p) (at + long) (step_of s (drop at p)).state
        goes_at =
            run_goes (drop at p) at s some e (step_sized s (drop at p) e).0
            ∙ ap (λ (l : List ℕ). run_from 0 l (at + long) (step_of s (drop at p)).state) (drop-drop long at p)

        pub long_at : (0 < long) × (at + long ≤ length p)
        long_at = let z = step_sized s (drop at p) e in (z.0, omega (arith, z.1, length-drop at p))

pub ruleset advancing = (number_some, fits, unread_step, refused_step, made_step)

pub ruleset running = (number_some, rest_is, ends_at, stops_at, goes_at, long_at)
