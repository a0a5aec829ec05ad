-- One call on a program: the program that it hands on, and one swap as a call of its own. Assumes nothing.
use borrow.Table.Steps.{cases}
use Prim.Native.Nat.{ℕ, zero, suc, ◌/◌, ◌%◌, ◌≤◌, ◌<◌}
use mathlib.Core.Path.{◌≡◌, refl, ap, ◌∙◌}
use mathlib.Core.Bool.{true, ◌||◌}
use mathlib.Core.List.{List, [], ◌∷◌}
use native.Mathlib.Omega.{arith}
use lib.Dec.{ltb}
use lib.ListN.{length, take, drop, replicate, length-replicate}
use lib.Seq.{take_at}
use borrow.Author.Tests.{ne_eqb, le-ltb}
use Rattle.machine.specs.Limits.{program_most, log_most}
use Rattle.machine.specs.declared.State.{State}
use Rattle.machine.specs.Machine.{Each}
use Rattle.machine.specs.Range.{LimitInRange, limit_ok}
use Rattle.machine.proofs.Ranges.{limit_exactly}
use Rattle.run.specs.Relation.{Valid}
use Rattle.run.specs.Run.{answer_of, run_of}
use Rattle.record.proofs.Shapes.{is}
use Rattle.run.proofs.Refusals.{reason_other}
use Rattle.run.proofs.Demand.{final, refuses}
use Rattle.trace.specs.Swaps.{made, Swaps, no_swap, swap_first}
use Rattle.rewrite.specs.Programs.{flat, records_of, knitting}
use Rattle.rewrite.specs.Rewrite.{racking_zero, swap_of, Replay, ended, replay_from, replay, lent_no, writes, Rewritten, written}
use Rattle.rewrite.specs.Exact.{Swapped}
use Rattle.rewrite.specs.Calls.{Below, Call, call_of, call_number, handed_on, Accepted}
use Rattle.rewrite.specs.Laid.{is_record}
use Rattle.rewrite.proofs.Records.{records_flat, flat_records, steps_records, accepted_records, records_length}
use Rattle.rewrite.proofs.Rewriting.{limit_lent, enough, lent_call, refused_call, written_call}
use Rattle.rewrite.proofs.Replays.{Moved, swaps_moved, made_pair, replay_swaps, replay_moved, replay_writes}
use Rattle.rewrite.proofs.Exact.{swapped_one, swapped_replay}

-- ---- one call on a program
-- 15 by its limit, 1 or 2 by the lengths of what it is lent, or 0
abbrev pub lent : List ℕ → Call → ℕ
lent p c = lent_no c.limit (length p) (length c.log) (length c.output) (length c.work)

-- none of them is 12 to 14
abbrev Early : ℕ → Type 0
Early n = (n ≡ 12 → ⊥) × (n ≡ 13 → ⊥) × (n ≡ 14 → ⊥)

lent_number : (p : List ℕ) (c : Call) → Early (lent p c)
unfolding lent_no
lent_number p c =
    cases (limit_ok c.limit)
    (λ l. cases (ltb program_most (length p) || ltb log_most (length c.log)) (λ a. simp (l, a) (few 1 (omega arith)))
    (λ a. cases (ltb (length c.output) (length p) || ltb (length c.work) (length p / 2)) (λ b. simp (l, a, b) (few 2 (omega arith))) (λ b. simp (l, a, b) (few 0 (omega arith)))))
    (λ l. simp l ((λ e. omega arith), (λ e. omega arith), (λ e. omega arith)))
  where
    few : (n : ℕ) → n ≤ 2 → Early n
    few n h = ((λ e. omega arith), (λ e. omega arith), (λ e. omega arith))

-- a number that is none of those that write hands the same program on
same_program : (p : List ℕ) (c : Call) (n : ℕ) → call_number p c ≡ n → (n ≡ 0 → ⊥) → Early n → handed_on p c ≡ p
unfolding writes
same_program p c n e d (a, b, f) = simp (e, ne_eqb n 0 d, ne_eqb n 12 a, ne_eqb n 13 b, ne_eqb n 14 f)

pub kept_program : (p : List ℕ) (c : Call) → (lent p c ≡ 0 → ⊥) → handed_on p c ≡ p
unfolding answer_of
kept_program p c h =
    same_program p c (lent p c) (ap (λ (w : Rewritten). w.answer.number) (lent_call c.limit p c.log c.output c.work h)) h (lent_number p c)

-- the run at the call's own limit
abbrev pub ran : List ℕ → Call → ℕ
ran p c = (run_of c.limit p).number

pub refused_program : (p : List ℕ) (c : Call) → lent p c ≡ 0 → (ran p c ≡ 0 → ⊥) → handed_on p c ≡ p
refused_program p c e d =
    let f = (refuses c.limit p (limit_lent _ _ _ _ _ e) (enough _ _ _ _ _ e).short d).first.reason in
    same_program p c (ran p c) (ap (λ (w : Rewritten). w.answer.number) (refused_call c.limit p c.log c.output c.work e d)) d
    (reason_other f 12 refl, reason_other f 13 refl, reason_other f 14 refl)

-- what swaps of a program's records leave is as long
pub moved_length : (p : List ℕ) {m : List (List ℕ)} → Moved (records_of p) m → length (flat m) ≡ length p
moved_length p s = s.bytes ∙ ap length (records_flat p)

module _ (p : List ℕ) (c : Call) (e : lent p c ≡ 0) (z : ran p c ≡ 0) where
  -- with 0 from both the log is replayed
  pub call_written : call_of p c ≡ written c.limit p (replay c.log 0 (records_of p)) c.output c.work
  call_written = written_call c.limit p c.log c.output c.work e z

  -- and the records that it leaves are handed on
  written_program : handed_on p c ≡ flat (replay c.log 0 (records_of p)).left
  written_program =
      let r = replay c.log 0 (records_of p) in
      let f = call_written in
      let n : call_number p c ≡ r.number = ap (λ (w : Rewritten). w.answer.number) f in
      let test : writes (call_number p c) ≡ true = rw n (replay_writes c.log 0 (records_of p)) in
      simp test
      (ap (λ (w : Rewritten). take (length p) w.output) f
      ∙ take_at (flat r.left) (drop (length p) c.output) (length p) (moved_length p (replay_moved c.log 0 (records_of p))))

  -- which stand at the front of the output
  pub front_written : handed_on p c ≡ take (length p) (call_of p c).output
  front_written = let n = ap (λ (w : Rewritten). w.answer.number) call_written in let test : writes (call_number p c) ≡ true = rw n (replay_writes c.log 0 (records_of p)) in simp test

-- so that every call, at whatever limit, hands on what swaps reach
pub handed_on_lem : (p : List ℕ) (c : Call) → (is : List ℕ) × Swaps knitting racking_zero is (records_of p) (records_of (handed_on p c))
handed_on_lem p c =
    is (lent p c) 0
    (λ e. is (ran p c) 0
    (λ z. let (js, s) = replay_swaps c.log 0 (records_of p) in
    let w = (replay_moved c.log 0 (records_of p)).each (accepted_records c.limit p z) in
    (js, rw (written_program p c e z, flat_records (replay c.log 0 (records_of p)).left w) s))
    (λ d. ([], rw (refused_program p c e d) no_swap)))
    (λ h. ([], rw (kept_program p c h) no_swap))

-- ---- one swap as a call of its own
zeros_below : (k n : ℕ) → 0 < k → Below k (replicate n 0)
zeros_below k zero h = tt
zeros_below k (suc n) h = (h, zeros_below k n h)

swap_call : (limit : ℕ) → LimitInRange limit → (n i : ℕ) → i < 65536 → Call
swap_call limit b n i h =
    record {
      limit = limit;
      log = 64 ∷ i / 256 ∷ i % 256 ∷ [];
      output = replicate n 0;
      work = replicate n 0;
      limit_byte = omega (arith, b.most);
      log_bytes = (omega arith, (omega arith, (omega arith, tt)));
      output_bytes = zeros_below 256 n (omega arith);
      work_offsets = zeros_below 65536 n (omega arith);
    }

swap_lent : (limit : ℕ) (b : LimitInRange limit) (p : List ℕ) (i : ℕ) (h : i < 65536) → length p ≤ program_most → lent p (swap_call limit b (length p) i h) ≡ 0
unfolding lent_no swap_call
swap_lent limit b p i h k =
    let n = length p in
    let a : length (replicate {A = ℕ} n 0) ≡ n = length-replicate n 0 in
    simp ((limit_exactly limit).1 b, le-ltb program_most n k, a, le-ltb n n (omega arith), le-ltb n (n / 2) (omega arith))

module _ {limit : ℕ} {p : List ℕ} {t : State} (v : Valid limit p t) (i : ℕ) {m : List (List ℕ)} (e : swap_of i (records_of p) ≡ made m) where
  valid_records : Each (λ (x : List ℕ). is_record x ≡ true) (records_of p)
  valid_records = steps_records v.steps

  -- a position is a 16-bit number: a program has at most 16,384 records
  small : i < 65536
  small = omega (arith, made_pair knitting (records_of p) m racking_zero i e, records_length (records_of p) valid_records, ap length (records_flat p), v.short)

  -- its call, which answers 0 and hands on the records with the swap made
  abbrev one : Call
  one = swap_call limit v.limit_in (length p) i small

  abbrev swaps : Swaps knitting racking_zero (i ∷ []) (records_of p) m
  swaps = swap_first e no_swap

  one_swap : Swapped one.log (records_of p) m
  unfolding swap_call
  one_swap = swapped_one i (records_of p) m e

  one_replay : replay one.log 0 (records_of p) ≡ ended 0 0 m
  unfolding replay_from swap_call
  one_replay = swapped_replay one_swap [] 0

  one_lent : lent p one ≡ 0
  one_lent = swap_lent limit v.limit_in p i small v.short

  one_ran : ran p one ≡ 0
  unfolding swap_call
  one_ran = (final limit p t v).number

  one_done : call_number p one ≡ 0
  one_done = ap (λ (r : Rewritten). r.answer.number) (call_written p one one_lent one_ran) ∙ ap (λ (r : Replay). r.number) one_replay

  one_records : records_of (handed_on p one) ≡ m
  one_records =
      ap records_of (written_program p one one_lent one_ran ∙ ap (λ (r : Replay). flat r.left) one_replay)
      ∙ flat_records m ((swaps_moved knitting swaps).each valid_records)

  one_accepted : Accepted limit p one
  unfolding swap_call
  one_accepted = record { at = refl; done = one_done; swaps = rw one_records one_swap }

  pub call_of_swap : (c : Call) × Accepted limit p c × (records_of (handed_on p c) ≡ m)
  call_of_swap = (one, one_accepted, one_records)
