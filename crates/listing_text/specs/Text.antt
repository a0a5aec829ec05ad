-- The listing's text (document 01, 'Pieces to try'), as bytes: each definition is a part of it, down to a digit.
use Rattle.std.specs.Prelude.{ℕ, zero, suc, ◌+◌, ◌/◌, ◌%◌, Bool, cond, List, [], ◌∷◌, ◌++◌, eqb, ltb, ℤ, pos, negsuc, length, take, drop}
use Rattle.machine.specs.Limits.{bed_needles}
use Rattle.machine.specs.declared.Carrier.{Carrier}
use Rattle.machine.specs.declared.State.{State}
use Rattle.run.specs.declared.Answer.{Answer}
use Rattle.rewrite.specs.Rewrite.{writes}

-- a number's decimal digits, at most so many places
unfoldable pub digits_of : ℕ → ℕ → List ℕ
digits_of zero n = []
digits_of (suc k) n = cond (ltb n 10) ((48 + n) ∷ []) (digits_of k (n / 10) ++ ((48 + n % 10) ∷ []))

-- 20 places hold every 64-bit number
abbrev pub figures : ℕ → List ℕ
figures n = digits_of 20 n

-- below 0 with a hyphen
abbrev pub signed : ℤ → List ℕ
signed (pos n) = figures n
signed (negsuc n) = 45 ∷ figures (suc n)

-- a hexadecimal digit, lower case, and a byte's two
abbrev pub hex_digit : ℕ → ℕ
hex_digit d = cond (ltb d 10) (48 + d) (87 + d)

abbrev pub hex_of : ℕ → List ℕ
hex_of b = hex_digit (b / 16) ∷ hex_digit (b % 16) ∷ []

-- f for the front bed, b for the back
unfoldable pub letter_of : ℕ → ℕ
letter_of bed = cond (eqb bed 0) 102 98

-- - for left (1), + for right
unfoldable pub sign_of : ℕ → ℕ
sign_of side = cond (eqb side 1) 45 43

-- 1 for a complete state, else 0
unfoldable pub flag_of : Bool → ℕ
flag_of complete = cond complete 49 48

-- a line each, or nothing, for things that are counted from k on
unfoldable pub lines : {A : Type 0} → (ℕ → A → List ℕ) → ℕ → List A → List ℕ
lines f k [] = []
lines f k (x ∷ l) = f k x ++ lines f (suc k) l

-- a hook with loops, as in f 10 1; those of a bed, upward
unfoldable pub hook_line : ℕ → ℕ → ℕ → List ℕ
hook_line bed n loops =
    cond (eqb loops 0) []
    ((letter_of bed ∷ 32 ∷ []) ++ (figures n ++ ((32 ∷ []) ++ (figures loops ++ (10 ∷ [])))))

abbrev pub hook_lines : ℕ → List ℕ → List ℕ
hook_lines bed l = lines (hook_line bed) 0 l

-- an attachment, as in f 10 +, or none
unfoldable pub attachment_of : Carrier → List ℕ
attachment_of c =
    cond (eqb c.side 0) (32 ∷ 110 ∷ 111 ∷ 110 ∷ 101 ∷ 10 ∷ [])
    ((32 ∷ letter_of c.needle.0 ∷ 32 ∷ []) ++ (figures c.needle.1 ++ (32 ∷ sign_of c.side ∷ 10 ∷ [])))

-- an active carrier, as in c 3 11 f 10 +; those from carrier 1 on
unfoldable pub carrier_line : ℕ → Carrier → List ℕ
carrier_line k c =
    cond (eqb c.active 0) []
    ((99 ∷ 32 ∷ []) ++ (figures k ++ ((32 ∷ []) ++ (signed c.slot.0 ++ attachment_of c))))

abbrev pub carrier_lines : List Carrier → List ℕ
carrier_lines l = lines carrier_line 1 l

-- number, place and complete, before the rest
abbrev pub answer_line : Answer → List ℕ → List ℕ
answer_line a rest = figures a.number ++ ((32 ∷ []) ++ (figures a.place ++ ((32 ∷ flag_of a.complete ∷ 10 ∷ []) ++ rest)))

abbrev pub racking_line : ℤ → List ℕ
racking_line r = (114 ∷ 32 ∷ []) ++ (signed r ++ (10 ∷ []))

-- the program's bytes, or p alone
abbrev pub bytes_of : List ℕ → List ℕ
bytes_of l = lines (λ k b. hex_of b) 0 l

unfoldable pub program_line : List ℕ → List ℕ
program_line [] = 112 ∷ 10 ∷ []
program_line (b ∷ l) = (112 ∷ 32 ∷ []) ++ (bytes_of (b ∷ l) ++ (10 ∷ []))

-- the state: racking, hooks of both beds, carriers
unfoldable pub beds_of : List ℕ → List ℕ
beds_of loops = hook_lines 0 (take bed_needles loops) ++ hook_lines 1 (drop bed_needles loops)

unfoldable pub state_of : State → List ℕ
state_of s = racking_line s.racking.0 ++ (beds_of s.loops ++ carrier_lines s.carriers)

-- how many bytes of the output are listed: the program's length after a number that writes, none after the others (1 to 11 and 15 to 17)
unfoldable pub shown_of : ℕ → ℕ → ℕ
shown_of number length = cond (writes number) length 0

-- the listing of an answer and the output's program bytes
unfoldable pub listing_of : Answer → List ℕ → List ℕ
listing_of a bytes = answer_line a (state_of a.state ++ program_line bytes)
