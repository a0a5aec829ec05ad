-- A log replayed from a place on, one record at a time, and the program laid again after a swap. Assumes nothing.
use Prim.Native.Nat.{ℕ, zero, suc, ◌+◌, ◌*◌, ◌≤◌, ◌<◌}
use mathlib.Core.Path.{◌≡◌, refl, sym, ap, subst, ◌∙◌}
use mathlib.Core.Bool.{true, false}
use mathlib.Core.List.{List, [], ◌∷◌}
use native.Mathlib.Omega.{arith}
use lib.Dec.{eqb}
use lib.ListN.{length, take, drop, drop_of_length-le}
use lib.Seq.{drop-cons, drop-drop}
use borrow.Author.Rules.{rules}
use Rattle.std.specs.Prelude.{Result, Ok, Err, is_ok}
use Rattle.machine.specs.declared.refusals.Refusal.{Refusal}
use Rattle.machine.proofs.Refused.{number_some}
use Rattle.machine.specs.Refusals.{number_of, told_number}
use Rattle.machine.specs.declared.Racking.{Racking}
use Rattle.machine.specs.Machine.{Each}
use Rattle.record.specs.Format.{byte}
use Rattle.trace.specs.Swaps.{Outcome, no_pair, is_tied, made}
use Rattle.trace.proofs.Swaps.{Made, made_is, untied}
use Rattle.rewrite.specs.Programs.{flat, records_of, starts_of, knitting}
use Rattle.rewrite.specs.Rewrite.{racking_zero, swap_of, LogRecord, Torn, Swap, Replay, ended, on_outcome, log_record_of, on_record, replay_from, replay}
use Rattle.rewrite.specs.Laid.{read_as, is_record, Laid, Marked, rack_byte, swap_no, left_by, follow_no, left_after}
use Rattle.rewrite.proofs.Records.{records_flat, flat_records}
use Rattle.rewrite.proofs.Laying.{starts_length, work_length}
use Rattle.rewrite.proofs.Replays.{Moved, made_moved}
use Rattle.rewrite.proofs.Rackings.{byte_after, kind_is}

-- ---- one log record: read, and followed
skipped : (log : List ℕ) (at : ℕ) (l : List (List ℕ)) → replay_from 2 log at l ≡ replay (drop 2 log) at l
unfolding replay_from
skipped [] at l = refl
skipped (a ∷ []) at l = refl
skipped (a ∷ b ∷ log) at l = refl

module _ (log : List ℕ) (at : ℕ) where
  pub log_end : (l : List (List ℕ)) → length log ≤ at → replay (drop at log) at l ≡ ended 0 0 l
  unfolding replay_from
  log_end l h = ap (λ (q : List ℕ). replay q at l) (drop_of_length-le log h)

  pub log_next : (l : List (List ℕ)) → at < length log → replay (drop at log) at l ≡ on_record (log_record_of (drop at log)) at l (λ m. replay (drop (at + 3) log) (at + 3) m)
  unfolding replay_from
  log_next l h =
      let e = drop-cons log at 0 h in
      let n : suc at + 2 ≡ at + 3 = omega arith in
      let f : drop 2 (drop (suc at) log) ≡ drop (at + 3) log = drop-drop 2 (suc at) log ∙ ap (λ (n : ℕ). drop n log) n in
      ap (λ (q : List ℕ). replay q at l) e
      ∙ (λ i. on_record (log_record_of (sym e i)) at l (λ m. (skipped (drop (suc at) log) (at + 3) m ∙ ap (λ (q : List ℕ). replay q (at + 3) m) f) i))

-- code's reading of it: torn, or a position
pub torn_left : (x : LogRecord) (l : List (List ℕ)) {why : Refusal} → Err why ≡ read_as x → (number_of why ≡ follow_no x l) × (left_after x l ≡ l)
unfolding follow_no left_after
torn_left Torn l e = (ap told_number e, refl)
torn_left (Swap i) l e = absurd (search rules)

pub swap_left : (x : LogRecord) (l : List (List ℕ)) {i : ℕ} → Ok i ≡ read_as x → (swap_no (swap_of i l) ≡ follow_no x l) × (left_by (swap_of i l) l ≡ left_after x l)
unfolding follow_no left_after
swap_left Torn l e = absurd (search rules)
swap_left (Swap j) l {i} e = let q : i ≡ j = search rules in (ap (λ (k : ℕ). swap_no (swap_of k l)) q, ap (λ (k : ℕ). left_by (swap_of k l) l) q)

-- what is refused has a number
pub told_some : {A : Type 0} (r : Result A Refusal) → is_ok r ≡ false → told_number r ≡ 0 → ⊥
told_some (Ok x) e z = absurd (search rules)
told_some (Err why) e z = number_some why z

-- by its number: refused, and nothing moved; or its swap is made
pub follow_refused : (x : LogRecord) (at n : ℕ) (l : List (List ℕ)) (more : List (List ℕ) → Replay) → n ≡ follow_no x l → (n ≡ 0 → ⊥)
    → (on_record x at l more ≡ ended n at l) × (left_after x l ≡ l)
unfolding follow_no left_after swap_no left_by
follow_refused Torn at n l more e d = (ap (λ (k : ℕ). ended k at l) (sym e), refl)
follow_refused (Swap i) at n l more e d = go (swap_of i l) e
  where
    go : (out : Outcome (List ℕ)) → n ≡ swap_no out → (on_outcome out at l more ≡ ended n at l) × (left_by out l ≡ l)
    go no_pair e = (ap (λ (k : ℕ). ended k at l) (sym e), refl)
    go is_tied e = (ap (λ (k : ℕ). ended k at l) (sym e), refl)
    go (made m) e = absurd (d e)

pub follow_made : (x : LogRecord) (at n : ℕ) (l : List (List ℕ)) (more : List (List ℕ) → Replay) → n ≡ follow_no x l → n ≡ 0
    → (on_record x at l more ≡ more (left_after x l)) × (i : ℕ) × (swap_of i l ≡ made (left_after x l))
unfolding follow_no left_after swap_no left_by
follow_made Torn at n l more e z = absurd (omega arith)
follow_made (Swap i) at n l more e z = let (a, b) = go (swap_of i l) e in (a, i, b)
  where
    go : (out : Outcome (List ℕ)) → n ≡ swap_no out → (on_outcome out at l more ≡ more (left_by out l)) × (out ≡ made (left_by out l))
    go no_pair e = absurd (omega arith)
    go is_tied e = absurd (omega arith)
    go (made m) e = (refl, refl)

-- ---- racks stay where they are
pair_rack : (x y : List ℕ) (l : List (List ℕ)) → eqb (byte x 0) 1 ≡ false → eqb (byte y 0) 1 ≡ false → (k b : ℕ)
    → rack_byte b (take k (x ∷ y ∷ l)) ≡ rack_byte b (take k (y ∷ x ∷ l))
unfolding rack_byte
pair_rack x y l e f zero b = refl
pair_rack x y l e f (suc zero) b = simp (e, f)
pair_rack x y l e f (suc (suc k)) b = both (take k l)
  where
    both : (q : List (List ℕ)) → rack_byte b (x ∷ y ∷ q) ≡ rack_byte b (y ∷ x ∷ q)
    both q = simp (e, f)

made_rack : {r : Racking} {i : ℕ} {l m : List (List ℕ)} → Made knitting r i l m → Each (λ (x : List ℕ). is_record x ≡ true) l → (k b : ℕ) → rack_byte b (take k l) ≡ rack_byte b (take k m)
unfolding rack_byte
made_rack (Made.here {r} {x} {y} {l} t) (w, (v, u)) k b =
    let (p, q, _, _) = untied knitting r x y t in
    pair_rack x y l (kind_is x w ∙ p) (kind_is y v ∙ q) k b
made_rack (Made.there s) (w, v) zero b = refl
made_rack (Made.there {x = x} s) (w, v) (suc k) b = made_rack s v k (byte_after b x)

-- ---- the program after a swap: its records are those that the swap left, and it is laid and marked as before
pub record After (p w table : List ℕ) (m : List (List ℕ)) (q v : List ℕ) : Type 0 where
  pub records : records_of q ≡ m
  pub bytes : length q ≡ length p
  pub entries : length v ≡ length w
  pub laid : Laid q v
  pub marked : Marked q table

module _ (p w table : List ℕ) (laid : Laid p w) (marked : Marked p table) (i : ℕ) (m : List (List ℕ)) (e : swap_of i (records_of p) ≡ made m)
    (q v : List ℕ) (bytes : q ≡ flat m) (starts : v ≡ starts_of 0 m) where
  swapped : Made knitting racking_zero i (records_of p) m
  swapped = made_is knitting (records_of p) m racking_zero i e

  moved : Moved (records_of p) m
  moved = made_moved knitting swapped

  records_after : records_of q ≡ m
  records_after = ap records_of bytes ∙ flat_records m (moved.each laid.sound.records)

  length_after : length q ≡ length p
  length_after = ap length bytes ∙ moved.bytes ∙ ap length (records_flat p)

  pub after_swap : After p w table m q v
  after_swap =
      record {
        records = records_after;
        bytes = length_after;
        entries = ap length starts ∙ starts_length 0 m ∙ moved.records ∙ sym (work_length p w laid);
        laid = record {
          sound = record { records = subst (Each (λ (x : List ℕ). is_record x ≡ true)) (sym records_after) (moved.each laid.sound.records); short = omega (arith, length_after, laid.sound.short) };
          starts = starts ∙ ap (starts_of 0) (sym records_after);
        };
        marked = record {
          long = marked.long;
          marks = λ k h. marked.marks k (omega (arith, ap length records_after, moved.records))
              ∙ made_rack swapped laid.sound.records (k * 64) 0
              ∙ ap (λ (l : List (List ℕ)). rack_byte 0 (take (k * 64) l)) (sym records_after);
        };
      }

-- ---- one turn
-- it ends the log, and all stays
pub record TurnEnds (log : List ℕ) (at : ℕ) (p w : List ℕ) (n : ℕ) (q v : List ℕ) : Type 0 where
  pub log_ends : replay (drop at log) at (records_of p) ≡ ended n at (records_of p)
  pub program : q ≡ p
  pub work : v ≡ w

-- or the log goes on behind it, with the records m
pub record TurnGoes (log : List ℕ) (at : ℕ) (p w table : List ℕ) (m : List (List ℕ)) (q v : List ℕ) : Type 0 where
  pub log_goes : replay (drop at log) at (records_of p) ≡ replay (drop (at + 3) log) (at + 3) (records_of q)
  pub now : After p w table m q v

-- the log record x at a place, with number n, leaves the program q and the starts v
module _ (log : List ℕ) (at : ℕ) (more : at < length log) (p w table : List ℕ) (laid : Laid p w) (marked : Marked p table) (x : LogRecord) (read : x ≡ log_record_of (drop at log))
    (n : ℕ) (number : n ≡ follow_no x (records_of p)) (q v : List ℕ) (bytes : q ≡ flat (left_after x (records_of p))) (starts : v ≡ starts_of 0 (left_after x (records_of p))) where
  abbrev rest : List (List ℕ) → Replay
  rest m = replay (drop (at + 3) log) (at + 3) m

  turn : replay (drop at log) at (records_of p) ≡ on_record x at (records_of p) rest
  turn = log_next log at (records_of p) more ∙ ap (λ (y : LogRecord). on_record y at (records_of p) rest) (sym read)

  pub turn_ends : (n ≡ 0 → ⊥) → TurnEnds log at p w n q v
  turn_ends d =
      let (e, f) = follow_refused x at n (records_of p) rest number d in
      record { log_ends = turn ∙ e; program = bytes ∙ ap flat f ∙ records_flat p; work = starts ∙ ap (starts_of 0) f ∙ sym laid.starts }

  pub turn_goes : n ≡ 0 → TurnGoes log at p w table (left_after x (records_of p)) q v
  turn_goes z =
      let (e, i, f) = follow_made x at n (records_of p) rest number z in
      let a = after_swap p w table laid marked i (left_after x (records_of p)) f q v bytes starts in
      record { log_goes = turn ∙ e ∙ ap rest (sym a.records); now = a }
