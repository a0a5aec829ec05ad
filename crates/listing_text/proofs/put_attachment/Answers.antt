-- The word none, or the parts one after another.
use Rattle.std.proofs.Common.{ℕ, ◌≡◌, [], ◌∷◌, ◌++◌, ap}
use borrow.Author.Tests.{eq-eqb, ne_eqb}
use native.Mathlib.Omega.{arith}
use Rattle.machine.specs.declared.Carrier.{Carrier}
use Rattle.listing_text.specs.Text.{figures, letter_of, sign_of, attachment_of}
use Rattle.listing_text.proofs.Adds.{then, like}
use Rattle.listing_text.proofs.Digits.{number}
use Rattle.listing_text.proofs.put_attachment.Goals as goal

none : (c : Carrier) → c.side ≡ 0 → 32 ∷ 110 ∷ 111 ∷ 110 ∷ 101 ∷ 10 ∷ [] ≡ attachment_of c
unfolding attachment_of
none c e = simp (eq-eqb _ 0 e)

some : (c : Carrier) → (c.side ≡ 0 → ⊥) → (32 ∷ letter_of c.needle.0 ∷ 32 ∷ []) ++ (figures c.needle.1 ++ (32 ∷ sign_of c.side ∷ 10 ∷ [])) ≡ attachment_of c
unfolding attachment_of
some c e = simp (ne_eqb _ 0 e)

pub returns-then-c-eq0 : goal.returns-then-c-eq0
returns-then-c-eq0 c = like (none c.args.c c.if-c-eq0.true) c.put_all.ensures

pub returns : goal.returns
returns c =
    like (some c.args.c c.if-c-eq0.false)
    (then (like (ap (λ (d : ℕ). 32 ∷ d ∷ 32 ∷ []) c.letter.ensures) c.put_all-2.ensures)
    (then (number (omega arith) c.put_number.ensures) (like (ap (λ (d : ℕ). 32 ∷ d ∷ 10 ∷ []) c.sign.ensures) c.put_all-3.ensures)))
