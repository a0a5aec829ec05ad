-- What a log makes of a list of records: swaps that are made one after another, up to its end or to the log record that is refused. Assumes nothing.
use borrow.Table.Steps.{cases}
use Prim.Native.Nat.{ℕ, suc, ◌+◌, ◌*◌, ◌≤◌, ◌<◌}
use mathlib.Core.Path.{◌≡◌, refl, ap, ◌∙◌}
use mathlib.Core.Bool.{true, true≢false}
use mathlib.Core.List.{List, [], ◌∷◌, ◌++◌}
use native.Mathlib.Omega.{arith}
use native.Mathlib.Nat.{lt_of_not-le}
use lib.Dec.{eqb}
use lib.ListN.{length, length-append}
use borrow.Author.Tests.{eqb-true}
use Rattle.machine.specs.Machine.{Each}
use Rattle.trace.specs.Records.{Records}
use Rattle.trace.specs.Swaps.{Outcome, no_pair, is_tied, made, swap_at, Swaps, no_swap, swap_first}
use Rattle.trace.proofs.Swaps.{Made, made_is, short_no_pair}
use Rattle.rewrite.specs.Programs.{flat, knitting}
use Rattle.rewrite.specs.Rewrite.{racking_zero, swap_of, Replay, ended, on_outcome, replay_from, replay, writes}
use Rattle.rewrite.specs.Laid.{is_record}

-- ---- a swap moves records and changes none
pub record Moved (l m : List (List ℕ)) : Type 0 where
  pub records : length m ≡ length l
  pub bytes : length (flat m) ≡ length (flat l)
  pub each : Each (λ (x : List ℕ). is_record x ≡ true) l → Each (λ (x : List ℕ). is_record x ≡ true) m

-- two neighbours change places
neighbours : (x y : List ℕ) (l : List (List ℕ)) → Moved (x ∷ y ∷ l) (y ∷ x ∷ l)
neighbours x y l =
    record {
      records = refl;
      bytes = omega (arith, length-append x (y ++ flat l), length-append y (flat l), length-append y (x ++ flat l), length-append x (flat l));
      each = λ (a, (b, c)). (b, (a, c));
    }

-- and behind a record that stays
stays : (x : List ℕ) {l m : List (List ℕ)} → Moved l m → Moved (x ∷ l) (x ∷ m)
stays x {l} {m} s =
    record {
      records = ap suc s.records;
      bytes = omega (arith, s.bytes, length-append x (flat l), length-append x (flat m));
      each = λ (a, b). (a, s.each b);
    }

module _ {R : Type 0} (K : Records (List ℕ) R) where
  pub made_moved : {r : R} {i : ℕ} {l m : List (List ℕ)} → Made K r i l m → Moved l m
  made_moved (Made.here {x = x} {y = y} {l = l} t) = neighbours x y l
  made_moved (Made.there {x = x} s) = stays x (made_moved s)

  pub swaps_moved : {r : R} {is : List ℕ} {l m : List (List ℕ)} → Swaps K r is l m → Moved l m
  swaps_moved no_swap = record { records = refl; bytes = refl; each = λ w. w }
  swaps_moved {r} (swap_first {i} {is} {l} {m} {n} e t) =
      let a = made_moved (made_is K l m r i e) in
      let b = swaps_moved t in
      record { records = b.records ∙ a.records; bytes = b.bytes ∙ a.bytes; each = λ w. b.each (a.each w) }

  -- a swap that is made has its two records
  pub made_pair : (l m : List (List ℕ)) (r : R) (i : ℕ) → swap_at K r i l ≡ made m → suc i < length l
  made_pair l m r i e = lt_of_not-le (λ h. true≢false (cc (short_no_pair K r i l h)))

-- ---- one log record: its swap is made, or the two are tied
pub replay_made : (high low : ℕ) (log : List ℕ) (at : ℕ) (l m : List (List ℕ)) → swap_of (high * 256 + low) l ≡ made m → replay (64 ∷ high ∷ low ∷ log) at l ≡ replay log (at + 3) m
unfolding replay_from
replay_made high low log at l m e = rw e

pub replay_tied : (high low : ℕ) (log : List ℕ) (at : ℕ) (l : List (List ℕ)) → swap_of (high * 256 + low) l ≡ is_tied → replay (64 ∷ high ∷ low ∷ log) at l ≡ ended 13 at l
unfolding replay_from
replay_tied high low log at l e = rw e

-- ---- every replay goes through its log or stops at a log record with 12, 13 or 14
data Replayed : List ℕ → ℕ → List (List ℕ) → Replay → Type 0 where
  through : {at : ℕ} {l : List (List ℕ)} → Replayed [] at l (ended 0 0 l)
  stopped : {k at : ℕ} {log : List ℕ} {l : List (List ℕ)} (n : ℕ) → 0 < n → writes n ≡ true → Replayed (k ∷ log) at l (ended n at l)
  next : {high low at : ℕ} {log : List ℕ} {l m : List (List ℕ)} {r : Replay} → swap_of (high * 256 + low) l ≡ made m → Replayed log (at + 3) m r → Replayed (64 ∷ high ∷ low ∷ log) at l r

replayed : (log : List ℕ) (at : ℕ) (l : List (List ℕ)) → Replayed log at l (replay log at l)
unfolding replay_from writes
replayed [] at l = Replayed.through
replayed (k ∷ []) at l = Replayed.stopped 14 (omega arith) refl
replayed (k ∷ high ∷ []) at l = Replayed.stopped 14 (omega arith) refl
replayed (k ∷ high ∷ low ∷ log) at l =
    cases (eqb k 64) (λ e. rw (e, eqb-true k 64 e) (go (swap_of (high * 256 + low) l) refl (replayed log (at + 3)))) (λ e. rw e (Replayed.stopped 14 (omega arith) refl))
  where
    go : (o : Outcome (List ℕ)) → swap_of (high * 256 + low) l ≡ o → ((m : List (List ℕ)) → Replayed log (at + 3) m (replay log (at + 3) m))
        → Replayed (64 ∷ high ∷ low ∷ log) at l (on_outcome o at l (λ m. replay log (at + 3) m))
    go no_pair e more = Replayed.stopped 12 (omega arith) refl
    go is_tied e more = Replayed.stopped 13 (omega arith) refl
    go (made m) e more = Replayed.next e (more m)

-- the records that it leaves are reached by swaps that are made
left_by_swaps : {log : List ℕ} {at : ℕ} {l : List (List ℕ)} {r : Replay} → Replayed log at l r → (is : List ℕ) × Swaps knitting racking_zero is l r.left
left_by_swaps Replayed.through = ([], no_swap)
left_by_swaps (Replayed.stopped n h i) = ([], no_swap)
left_by_swaps (Replayed.next {high} {low} e more) = let (is, s) = left_by_swaps more in ((high * 256 + low) ∷ is, swap_first e s)

pub replay_swaps : (log : List ℕ) (at : ℕ) (l : List (List ℕ)) → (is : List ℕ) × Swaps knitting racking_zero is l (replay log at l).left
replay_swaps log at l = left_by_swaps (replayed log at l)

pub replay_moved : (log : List ℕ) (at : ℕ) (l : List (List ℕ)) → Moved l (replay log at l).left
replay_moved log at l = swaps_moved knitting (replay_swaps log at l).1

-- its number is one that writes; one that is not 0 has its place in the log
pub replay_writes : (log : List ℕ) (at : ℕ) (l : List (List ℕ)) → writes (replay log at l).number ≡ true
unfolding writes
replay_writes log at l = go (replayed log at l)
  where
    go : {log : List ℕ} {at : ℕ} {l : List (List ℕ)} {r : Replay} → Replayed log at l r → writes r.number ≡ true
    go Replayed.through = refl
    go (Replayed.stopped n h i) = i
    go (Replayed.next e more) = go more

pub replay_place : (log : List ℕ) (at : ℕ) (l : List (List ℕ)) → ((replay log at l).number ≡ 0 → ⊥) → at ≤ (replay log at l).place
replay_place log at l = go (replayed log at l)
  where
    go : {log : List ℕ} {at : ℕ} {l : List (List ℕ)} {r : Replay} → Replayed log at l r → (r.number ≡ 0 → ⊥) → at ≤ r.place
    go Replayed.through h = absurd (h refl)
    go (Replayed.stopped n a b) h = omega arith
    go (Replayed.next e more) h = omega (arith, go more h)

pub replay_within : (bound : ℕ) → 0 < bound → (log : List ℕ) (at : ℕ) (l : List (List ℕ)) → at + length log ≤ bound → (replay log at l).place < bound
replay_within bound some log at l = go (replayed log at l)
  where
    go : {log : List ℕ} {at : ℕ} {l : List (List ℕ)} {r : Replay} → Replayed log at l r → at + length log ≤ bound → r.place < bound
    go Replayed.through h = omega arith
    go (Replayed.stopped n a b) h = omega arith
    go (Replayed.next e more) h = go more (omega arith)
