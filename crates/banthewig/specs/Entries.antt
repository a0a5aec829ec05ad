-- What the C entries answer: those at a limit, and, at limit 8, those without (02, W2: 'The listing and the C entry run with limit 8').
use Rattle.std.specs.Prelude.{ℕ, ◌+◌, ◌*◌, ◌/◌, ◌%◌, ◌≡◌, List, ◌↔◌}
use Rattle.run.specs.declared.Answer.{Answer}
use Rattle.run.specs.Run.{run_of}
use Rattle.run.specs.Claims.{Answers}
use Rattle.rewrite.specs.Rewrite.{Rewritten, rewrite_of}
use Rattle.rewrite.specs.Exact.{Rewrites}
use Rattle.house.specs.Order.{order_of}
use Rattle.house.specs.Exact.{Orders}

-- number and place in one word (01: "the run's number times 65,536 plus its place")
unfoldable pub packed : Answer → ℕ
packed a = a.number * 65536 + a.place

-- both are read back from it, as the header's macros do: bits 16 to 23, bits 0 to 15; those above are 0
pub record Reads (a : Answer) : Type 0 where
  pub number : packed a / 65536 % 256 ≡ a.number
  pub place : packed a % 65536 ≡ a.place
  pub above : packed a / 16777216 ≡ 0

abbrev pub ReadBack : Type 0
ReadBack = (limit : ℕ) (p : List ℕ) → Reads (run_of limit p)

abbrev pub RewriteReadBack : Type 0
RewriteReadBack = (limit : ℕ) (p log output work : List ℕ) → Reads (rewrite_of limit p log output work).answer

abbrev pub OrderReadBack : Type 0
OrderReadBack = (limit : ℕ) (p output work : List ℕ) → Reads (order_of limit p output work).answer

-- each entry in one statement: the word, and what is lent for writing afterwards, are those of an answer in 01's words, and no others
abbrev pub RunEntry : Type 0
RunEntry = (limit : ℕ) (p : List ℕ) (n : ℕ) → (packed (run_of limit p) ≡ n) ↔ ((a : Answer) × Answers limit p a × (a.number * 65536 + a.place ≡ n))

pub record Leaves (w : Rewritten) (n : ℕ) (bytes starts : List ℕ) : Type 0 where
  pub word : packed w.answer ≡ n
  pub bytes_are : w.output ≡ bytes
  pub starts_are : w.work ≡ starts

abbrev pub RewriteEntry : Type 0
RewriteEntry =
    (limit : ℕ) (p log output work : List ℕ) (n : ℕ) (bytes starts : List ℕ) → Leaves (rewrite_of limit p log output work) n bytes starts
    ↔ ((a : Answer) × Rewrites limit p log output work (record { answer = a; output = bytes; work = starts }) × (a.number * 65536 + a.place ≡ n))

abbrev pub OrderEntry : Type 0
OrderEntry =
    (limit : ℕ) (p output work : List ℕ) (n : ℕ) (bytes starts : List ℕ) → Leaves (order_of limit p output work) n bytes starts
    ↔ ((a : Answer) × Orders limit p output work (record { answer = a; output = bytes; work = starts }) × (a.number * 65536 + a.place ≡ n))
