-- The call beside the rewriter: what it says of two records is what the rewriter goes by.
use Rattle.std.specs.Prelude.{ℕ, ◌+◌, ◌≤◌, ◌≡◌, List, ◌++◌, ◌↔◌, ℤ, nat_abs, length, take, drop, get_or}
use Rattle.machine.specs.Limits.{racking_most}
use Rattle.record.specs.declared.Record.{Record}
use Rattle.record.specs.Format.{Encodes}
use Rattle.trace.specs.Order.{in_force}
use Rattle.rewrite.specs.Programs.{records_of, position_of, knitting}
use Rattle.rewrite.specs.Rewrite.{racking_zero, Rewritten, rewrite_of}
use Rattle.rewrite.specs.Exact.{Tied}
use Rattle.tie.specs.Tie.{tie_of}

-- 13 exactly if the rewriter's statement (RewriteExactly) calls the two tied at that racking, and 0 exactly if it does not
pub record SaysTied (z : ℤ) (p q : List ℕ) : Type 0 where
  pub tied : ((tie_of z p q).number ≡ 13) ↔ Tied (record { 0 = z }) p q
  pub untied : ((tie_of z p q).number ≡ 0) ↔ (Tied (record { 0 = z }) p q → ⊥)

abbrev pub TieAsRewriter : Type 0
TieAsRewriter = (z : ℤ) (p q : List ℕ) (x y : Record) → nat_abs z ≤ racking_most → Encodes p x → Encodes q y → SaysTied z p q

-- which of the two comes first does not matter to two records
abbrev pub TieEitherWay : Type 0
TieEitherWay = (z : ℤ) (p q : List ℕ) (x y : Record) → Encodes p x → Encodes q y → tie_of z p q ≡ tie_of z q p

-- the bytes behind a record are not looked at
abbrev pub RestUnlooked : Type 0
RestUnlooked = (z : ℤ) (p q : List ℕ) (x y : Record) (rest more : List ℕ) → Encodes p x → Encodes q y → tie_of z (p ++ rest) (q ++ more) ≡ tie_of z p q

-- ---- why a swap was refused, from the rewriter's answer: a call on a program of so many bytes, its log, and what it answered and left
module _ (bytes : ℕ) (log : List ℕ) (w : Rewritten) where
  -- the position that the log has behind the answer's place
  abbrev pub asked : ℕ
  asked = position_of (get_or log (w.answer.place + 1) 0) (get_or log (w.answer.place + 2) 0)

  -- the program that the call left, and what of it begins with record i: 'work[i]' bytes from its front
  abbrev pub left_behind : List ℕ
  left_behind = take bytes w.output

  abbrev pub from : ℕ → List ℕ
  from i = drop (get_or w.work i 0) left_behind

  -- the racking in force before record i of it
  abbrev pub racked : ℕ → ℤ
  racked i = (in_force knitting racking_zero (take i (records_of left_behind))).0

-- after 13 the two records are told to be tied
abbrev pub RefusedIsTold : Type 0
RefusedIsTold =
    (limit : ℕ) (p log output work : List ℕ) (w : Rewritten) → rewrite_of limit p log output work ≡ w → w.answer.number ≡ 13
    → let i = asked (length p) log w in (tie_of (racked (length p) log w i) (from (length p) log w i) (from (length p) log w (i + 1))).number ≡ 13
