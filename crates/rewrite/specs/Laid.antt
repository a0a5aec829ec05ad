-- How a program is laid in the lent areas between swaps: what the rewriter's private functions ask and promise. No part of the claims.
use Rattle.std.specs.Prelude.{ℕ, ◌+◌, ◌-◌, ◌*◌, ◌≤◌, ◌<◌, ◌≡◌, Bool, true, cond, ◌&&◌, List, [], ◌∷◌, ◌++◌, ◌-ℤ◌, nat_abs, eqb, ltb, length, take, drop, get_or, Result, Ok, Err}
use Rattle.machine.specs.declared.Column.{Column}
use Rattle.machine.specs.declared.Racking.{Racking}
use Rattle.machine.specs.declared.refusals.Refusal.{Refusal}
use Rattle.machine.specs.declared.refusals.Refusal.TheVariants.{TornLog}
use Rattle.machine.specs.Refusals.{number_of}
use Rattle.machine.specs.Limits.{program_most}
use Rattle.machine.specs.Machine.{Each}
use Rattle.record.specs.Kinds.{RACK}
use Rattle.record.specs.Format.{byte, signed_of, decode_of}
use Rattle.trace.specs.Records.{tied}
use Rattle.trace.specs.Swaps.{Outcome, no_pair, is_tied, made}
use Rattle.rewrite.specs.declared.Pair.{Pair}
use Rattle.run.specs.declared.Stop.{Stop}
use Rattle.rewrite.specs.Programs.{flat, records_of, starts_of, knitting}
use Rattle.rewrite.specs.Rewrite.{swap_of, LogRecord, Torn, Swap, Replay, ended}

-- two columns apart or more, so that no extents there meet
unfoldable pub far_apart : Column → Column → Bool
far_apart a b = ltb 1 (nat_abs (a.0 -ℤ b.0))

-- a record's bytes and no more: known kind, fields in range
abbrev pub is_record : List ℕ → Bool
is_record x = eqb (decode_of x).number 0 && eqb (decode_of x).size (length x)

-- a short program of records
pub record Sound (program : List ℕ) : Type 0 where
  pub records : Each (λ (x : List ℕ). is_record x ≡ true) (records_of program)
  pub short : length program ≤ program_most

-- the racking in force after records, as the byte that a rack gave it
unfoldable pub rack_byte : ℕ → List (List ℕ) → ℕ
rack_byte b [] = b
rack_byte b (x ∷ l) = rack_byte (cond (eqb (byte x 0) RACK) (byte x 1) b) l

-- the program in the output and its starts, and no more than these, in the work area
pub record Laid (program work : List ℕ) : Type 0 where
  pub sound : Sound program
  pub starts : work ≡ starts_of 0 (records_of program)

-- and the byte of the racking in force at every 64th record in the table
pub record Marked (program table : List ℕ) : Type 0 where
  pub long : length table ≡ 256
  pub marks : (j : ℕ) → j * 64 < length (records_of program) → get_or table j 0 ≡ rack_byte 0 (take (j * 64) (records_of program))

-- record i of a program, and where it starts
abbrev pub record_at : List ℕ → ℕ → List ℕ
record_at program i = get_or (records_of program) i []

abbrev pub start_at : List ℕ → ℕ → ℕ
start_at program i = length (flat (take i (records_of program)))

-- where records i and i + 1 stand
abbrev pub pair_at : List ℕ → ℕ → Pair
pair_at program i = record { first = start_at program i; second = start_at program (i + 1); end = start_at program (i + 2) }

-- in bounds, and short
pub record Placed (program : List ℕ) (there : Pair) : Type 0 where
  pub first_long : there.first + 2 ≤ there.second
  pub second_long : there.second + 2 ≤ there.end
  pub ends : there.end ≤ length program
  pub short : there.end - there.first ≤ 12

-- the racking in force at record i
abbrev pub in_force_at : List ℕ → ℕ → Racking
in_force_at program i = record { 0 = signed_of (rack_byte 0 (take i (records_of program))) }

-- whether records i and i + 1 are tied there
abbrev pub tied_pair : List ℕ → ℕ → Bool
tied_pair program i = tied knitting (in_force_at program i) (record_at program i) (record_at program (i + 1))

-- what a swap answers and leaves
unfoldable pub swap_no : Outcome (List ℕ) → ℕ
swap_no no_pair = 12
swap_no is_tied = 13
swap_no (made m) = 0

unfoldable pub left_by : Outcome (List ℕ) → List (List ℕ) → List (List ℕ)
left_by no_pair l = l
left_by is_tied l = l
left_by (made m) l = m

-- what code reads a log record as: its position, or 14
abbrev pub read_as : LogRecord → Result ℕ Refusal
read_as Torn = Err TornLog
read_as (Swap i) = Ok i

-- what a log record answers and leaves
unfoldable pub follow_no : LogRecord → List (List ℕ) → ℕ
follow_no Torn l = 14
follow_no (Swap i) l = swap_no (swap_of i l)

unfoldable pub left_after : LogRecord → List (List ℕ) → List (List ℕ)
left_after Torn l = l
left_after (Swap i) l = left_by (swap_of i l) l

-- the records from a to b and from b to e change places
unfoldable pub exchanged : List ℕ → ℕ → ℕ → ℕ → List ℕ
exchanged o a b e = take a o ++ (take (e - b) (drop b o) ++ (take (b - a) (drop a o) ++ drop e o))

-- where a log ended, as code answers it, with the records that are left
abbrev pub stopped : Result (Unit {0}) Stop → List (List ℕ) → Replay
stopped (Ok _) l = ended 0 0 l
stopped (Err stop) l = ended (number_of stop.why) stop.place l
