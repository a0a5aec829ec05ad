-- The rewriter in one statement, in the words of document 01 ('Extents and ties', 'Calls', the table): each way in which a call ends, with number,
-- place, state, complete, every byte of output and every entry of work.
use Rattle.std.specs.Prelude.{ℕ, ◌+◌, ◌/◌, ◌≤◌, ◌<◌, ◌≡◌, Bool, true, List, [], ◌∷◌, ◌++◌, ◌↔◌, length, drop}
use Rattle.machine.specs.declared.Racking.{Racking}
use Rattle.machine.specs.Limits.{limit_most, program_most, log_most}
use Rattle.machine.specs.declared.State.{State}
use Rattle.machine.specs.Machine.{empty_state, Each}
use Rattle.machine.specs.Range.{LimitInRange}
use Rattle.record.specs.declared.Record.{Record}
use Rattle.record.specs.Kinds.{RACK}
use Rattle.record.specs.Format.{Encodes}
use Rattle.run.specs.declared.Answer.{Answer}
use Rattle.run.specs.Relation.{Valid}
use Rattle.run.specs.Claims.{FirstRefusal, Complete}
use Rattle.trace.specs.Order.{in_force}
use Rattle.rewrite.specs.Extents.{Share}
use Rattle.rewrite.specs.Programs.{flat, starts_of, log_record_size, swap_kind, position_of, what, knitting, carrier, names}
use Rattle.rewrite.specs.Rewrite.{racking_zero, Rewritten, refused, rewrite_of}

-- ---- what is lent, by the lengths of program, log, output and work area
module _ (program log output work : ℕ) where
  -- 1, 'program or log over its limit'
  pub data TooLong : Type 0 where
    long_program : program_most < program → TooLong
    long_log : log_most < log → TooLong

  -- 2, 'output shorter than the program, work entries fewer than half its bytes rounded down'
  pub data NoBench : Type 0 where
    short_output : output < program → NoBench
    few_entries : work < program / 2 → NoBench

  -- neither
  pub record Enough : Type 0 where
    pub short : program ≤ program_most
    pub log_short : log ≤ log_most
    pub room : program ≤ output
    pub entries : program / 2 ≤ work

-- ---- records and ties
-- 'A program is records end to end', each whole, of a known kind and with its fields in range
pub record RecordsAre (program : List ℕ) (l : List (List ℕ)) : Type 0 where
  pub end_to_end : flat l ≡ program
  pub each : Each (λ (x : List ℕ). (r : Record) × Encodes x r) l

-- 'Two records are tied if either is a rack, if they name one carrier, or if their extents meet'
pub data Tied (r : Racking) (x y : List ℕ) : Type 0 where
  first_rack : (what x).kind ≡ RACK → Tied r x y
  second_rack : (what y).kind ≡ RACK → Tied r x y
  one_carrier : (k : ℕ) → names (carrier k) x ≡ true → names (carrier k) y ≡ true → Tied r x y
  extents_meet : Share r (what x) (what y) → Tied r x y

-- tied where they stand, behind the records u: at the racking in force there
abbrev pub TiedBehind : List (List ℕ) → List ℕ → List ℕ → Type 0
TiedBehind u x y = Tied (in_force knitting racking_zero u) x y

-- ---- a log
-- records i and i + 1 of a list are x and y
pub record Neighbours (l : List (List ℕ)) (i : ℕ) (u : List (List ℕ)) (x y : List ℕ) (v : List (List ℕ)) : Type 0 where
  pub list : l ≡ u ++ x ∷ y ∷ v
  pub before : length u ≡ i

-- a log that makes all its swaps, in order: 40, 'then a position in two bytes, high first. Position i swaps records i and i + 1', which are not tied
pub data Swapped : List ℕ → List (List ℕ) → List (List ℕ) → Type 0 where
  none : {l : List (List ℕ)} → Swapped [] l l
  swap : {high low : ℕ} {log : List ℕ} {l m u v : List (List ℕ)} {x y : List ℕ} → Neighbours l (position_of high low) u x y v → (TiedBehind u x y → ⊥) → Swapped log (u ++ y ∷ x ∷ v) m
      → Swapped (swap_kind ∷ high ∷ low ∷ log) l m

-- 14, 'log kind not 40, or fewer than three bytes'
pub data Torn (rest : List ℕ) : Type 0 where
  other_kind : {k : ℕ} {more : List ℕ} → rest ≡ k ∷ more → (k ≡ swap_kind → ⊥) → Torn rest
  few_bytes : 0 < length rest → length rest < log_record_size → Torn rest

module _ (program log output work : List ℕ) where
  -- what is lent is too long, is too short, or will do
  abbrev pub Long : Type 0
  Long = TooLong (length program) (length log) (length output) (length work)

  abbrev pub Short : Type 0
  Short = NoBench (length program) (length log) (length output) (length work)

  abbrev pub Lent : Type 0
  Lent = Enough (length program) (length log) (length output) (length work)

  -- what 15, 1 and 2 answer: place 0, the empty state at a limit; nothing is written
  abbrev pub unlooked : ℕ → ℕ → Rewritten
  unlooked limit n = refused (record { number = n; place = 0; complete = true; state = empty_state limit }) output work

  -- what 0 and 12 to 14 answer and leave: the program's final state, the records m at the front of the output, each one's start at the front of work;
  -- 'Output past the program's length and work past the last record's start keep their contents'
  abbrev pub leaving : ℕ → ℕ → State → Bool → List (List ℕ) → Rewritten
  leaving n at t c m =
      record {
        answer = record { number = n; place = at; complete = c; state = t };
        output = flat m ++ drop (length program) output;
        work = starts_of 0 m ++ drop (length m) work;
      }

module _ (limit : ℕ) (program log output work : List ℕ) where
  -- the program is valid at the limit and the log's front makes its swaps, which leave the records m; the rest of the log follows
  pub record Followed (t : State) (c : Bool) (front rest : List ℕ) (m : List (List ℕ)) : Type 0 where
    pub lent : Lent program log output work
    pub valid : Valid limit program t
    pub complete : Complete c t
    pub records : List (List ℕ)
    pub are : RecordsAre program records
    pub log_is : log ≡ front ++ rest
    pub swaps : Swapped front records m

  -- a call, by the ways in which it ends; 'Order: 15, 1, 2; then each record 3 to 11 by number; then each log record 14, 12, 13', and 16 and 17 behind 5
  pub data Rewrites : Rewritten → Type 0 where
    -- 02, W2: 'a run or rewrite started with a bad limit gets 15 too, before everything else, with the empty state of limit 8, complete'
    bad_limit : (LimitInRange limit → ⊥) → Rewrites (unlooked program log output work limit_most 15)
    too_long : LimitInRange limit → Long program log output work → Rewrites (unlooked program log output work limit 1)
    no_bench : LimitInRange limit → (Long program log output work → ⊥) → Short program log output work → Rewrites (unlooked program log output work limit 2)
    -- 3 to 11, 16 and 17, as the run answers; nothing is written
    not_valid : {a : Answer} → LimitInRange limit → Lent program log output work → FirstRefusal limit program a → Complete a.complete a.state → Rewrites (refused a output work)
    gone_through : {t : State} {c : Bool} {front : List ℕ} {m : List (List ℕ)} → Followed t c front [] m → Rewrites (leaving program log output work 0 0 t c m)
    torn : {t : State} {c : Bool} {front rest : List ℕ} {m : List (List ℕ)} → Followed t c front rest m → Torn rest → Rewrites (leaving program log output work 14 (length front) t c m)
    -- 12, 'position + 1 is not a record'
    no_pair : {t : State} {c : Bool} {front rest : List ℕ} {high low : ℕ} {m : List (List ℕ)} → Followed t c front (swap_kind ∷ high ∷ low ∷ rest) m
        → length m ≤ position_of high low + 1 → Rewrites (leaving program log output work 12 (length front) t c m)
    -- 13, 'the pair is tied'
    pair_tied : {t : State} {c : Bool} {front rest : List ℕ} {high low : ℕ} {m u v : List (List ℕ)} {x y : List ℕ} → Followed t c front (swap_kind ∷ high ∷ low ∷ rest) m
        → Neighbours m (position_of high low) u x y v → TiedBehind u x y → Rewrites (leaving program log output work 13 (length front) t c m)

-- a call gives and leaves this, and nothing else
abbrev pub RewriteExactly : Type 0
RewriteExactly = (limit : ℕ) (program log output work : List ℕ) (w : Rewritten) → (rewrite_of limit program log output work ≡ w) ↔ Rewrites limit program log output work w
