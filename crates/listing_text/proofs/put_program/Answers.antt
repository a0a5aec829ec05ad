-- p alone, or its parts one after another.
use Rattle.std.proofs.Common.{ℕ, ◌≡◌, List, [], ◌∷◌, ◌++◌, length, refl}
use borrow.Author.Rules.{rules}
use native.Mathlib.Omega.{arith}
use Rattle.listing_text.specs.Text.{bytes_of, program_line}
use Rattle.listing_text.proofs.Adds.{then, like}
use Rattle.listing_text.proofs.put_program.Goals as goal

none : (l : List ℕ) → length l ≡ 0 → 112 ∷ 10 ∷ [] ≡ program_line l
unfolding program_line
none [] e = refl
none (b ∷ l) e = absurd (omega arith)

some : (l : List ℕ) → (length l ≡ 0 → ⊥) → (112 ∷ 32 ∷ []) ++ (bytes_of l ++ (10 ∷ [])) ≡ program_line l
unfolding program_line
some [] e = absurd (e refl)
some (b ∷ l) e = refl

pub returns-then-is_empty : goal.returns-then-is_empty
returns-then-is_empty c = like (none c.args.bytes.now (search rules)) c.put_all.ensures

pub returns : goal.returns
returns c = like (some c.args.bytes.now (search rules)) (then c.put_all-2.ensures (then c.put_bytes.ensures c.put.ensures))
