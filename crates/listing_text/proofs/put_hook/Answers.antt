-- No line without loops; else its parts one after another.
use Rattle.std.proofs.Common.{ℕ, ◌≡◌, [], ◌∷◌, ◌++◌, ap}
use borrow.Author.Tests.{eq-eqb, ne_eqb}
use native.Mathlib.Omega.{arith}
use Rattle.listing_text.specs.Text.{figures, letter_of, hook_line}
use Rattle.listing_text.proofs.Adds.{nothing, then, like}
use Rattle.listing_text.proofs.Digits.{number}
use Rattle.listing_text.proofs.put_hook.Goals as goal

none : (bed n : ℕ) {x : ℕ} → x ≡ 0 → [] ≡ hook_line bed n x
unfolding hook_line
none bed n e = simp (eq-eqb _ 0 e)

some : (bed n : ℕ) {x : ℕ} → (x ≡ 0 → ⊥) → (letter_of bed ∷ 32 ∷ []) ++ (figures n ++ ((32 ∷ []) ++ (figures x ++ (10 ∷ [])))) ≡ hook_line bed n x
unfolding hook_line
some bed n e = simp (ne_eqb _ 0 e)

pub returns-then-loops-ne0 : goal.returns-then-loops-ne0
returns-then-loops-ne0 c =
    like (some c.args.bed c.args.needle c.if-loops-ne0.true)
    (then (like (ap (λ (d : ℕ). d ∷ 32 ∷ []) c.letter.ensures) c.put_all.ensures)
    (then (number (omega arith) c.put_number.ensures) (then c.put.ensures (then (number (omega arith) c.put_number-then-loops-ne0.ensures) c.put-then-loops-ne0.ensures))))

pub returns-else-loops-ne0 : goal.returns-else-loops-ne0
returns-else-loops-ne0 c = like (none c.args.bed c.args.needle c.if-loops-ne0.false) (nothing c.args.text.now)
