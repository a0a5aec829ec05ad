-- What is listed: the rewriter's answer at a limit on a program and a log, and the output's program bytes.
use Rattle.std.specs.Prelude.{ℕ, ◌+◌, ◌/◌, ◌≤◌, ◌≡◌, List, length, take, replicate}
use Rattle.machine.specs.Limits.{program_most, log_most}
use Rattle.rewrite.specs.Rewrite.{Rewritten, rewrite_of}
use Rattle.rewrite.specs.Calls.{Below}
use Rattle.rewrite.specs.Exact.{Enough}
use Rattle.listing_text.specs.Grown.{Grown}
use Rattle.listing_text.specs.Text.{shown_of, listing_of}

-- the listing of a call
abbrev pub call_listed : ℕ → Rewritten → List ℕ
call_listed length w = listing_of w.answer (take (shown_of w.answer.number length) w.output)

unfoldable pub listed_of : ℕ → List ℕ → List ℕ → List ℕ → List ℕ → List ℕ
listed_of limit program log output work = call_listed (length program) (rewrite_of limit program log output work)

-- what the listing program lends the rewriter: bytes and offsets for every program, all 0
unfoldable pub lent_output : List ℕ
lent_output = replicate program_most 0

unfoldable pub lent_work : List ℕ
lent_work = replicate (program_most / 2) 0

-- it is enough for every program and log within their limits, so that 2 is never listed
abbrev pub LentIsEnough : Type 0
LentIsEnough = (program log : List ℕ) → length program ≤ program_most → length log ≤ log_most → Enough (length program) (length log) (length lent_output) (length lent_work)

-- a lent text after a listing of two files at a limit, n bytes of it written: the listing of some program and log, those read, stands at its front, cut off
-- only where the text ends, so that 88,307 bytes hold it whole; what lies behind is kept. No contract can say what a file holds; what is read of one
-- are bytes, at most one more than a program or a log may have.
pub record ListsRead (limit : ℕ) (old new : List ℕ) (n : ℕ) : Type 0 where
  pub program : List ℕ
  pub log : List ℕ
  pub program_bytes : Below 256 program
  pub log_bytes : Below 256 log
  pub program_front : length program ≤ program_most + 1
  pub log_front : length log ≤ log_most + 1
  pub text : Grown old 0 (listed_of limit program log lent_output lent_work) new n
  pub uncut : 88307 ≤ length old → take n new ≡ listed_of limit program log lent_output lent_work
