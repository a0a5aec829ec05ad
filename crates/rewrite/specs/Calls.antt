-- Lists of rewriter calls (document 01, 'Extents and ties'): what each is lent, and the program that is handed on.
use Rattle.std.specs.Prelude.{ℕ, ◌<◌, ◌≡◌, cond, List, [], ◌∷◌, length, take}
use Rattle.machine.specs.Machine.{Each}
use Rattle.rewrite.specs.Programs.{records_of}
use Rattle.rewrite.specs.Rewrite.{writes, Rewritten, rewrite_of}
use Rattle.rewrite.specs.Exact.{Swapped}

-- every element is below n
abbrev pub Below : ℕ → List ℕ → Type 0
Below n l = Each (λ (x : ℕ). x < n) l

-- 'each call is lent any log, output and work area', of bytes and of 16-bit offsets; 02, W2: 'whatever limits its calls are given', any byte
pub record Call : Type 0 where
  pub limit : ℕ
  pub log : List ℕ
  pub output : List ℕ
  pub work : List ℕ
  pub limit_byte : limit < 256
  pub log_bytes : Below 256 log
  pub output_bytes : Below 256 output
  pub work_offsets : Below 65536 work

-- the call on a program, at its own limit
abbrev pub call_of : List ℕ → Call → Rewritten
call_of p c = rewrite_of c.limit p c.log c.output c.work

abbrev pub call_number : List ℕ → Call → ℕ
call_number p c = (call_of p c).answer.number

-- the next call's program: 'the one at the front of the output that the last call wrote'; 'after a number that writes nothing it is the same program again'
abbrev pub handed_on : List ℕ → Call → List ℕ
handed_on p c = cond (writes (call_number p c)) (take (length p) (call_of p c).output) p

-- the program after a list of calls; a call more or less is another list, so that what is said of every list is said after every call
abbrev pub after : List ℕ → List Call → List ℕ
after p [] = p
after p (c ∷ cs) = after (handed_on p c) cs

-- a call at a limit that answers 0, its log accepted swaps alone
pub record Accepted (limit : ℕ) (p : List ℕ) (c : Call) : Type 0 where
  pub at : c.limit ≡ limit
  pub done : call_number p c ≡ 0
  pub swaps : Swapped c.log (records_of p) (records_of (handed_on p c))

-- and a list of such calls
abbrev pub AllAccepted : ℕ → List ℕ → List Call → Type 0
AllAccepted limit p [] = Unit {0}
AllAccepted limit p (c ∷ cs) = Accepted limit p c × AllAccepted limit (handed_on p c) cs
