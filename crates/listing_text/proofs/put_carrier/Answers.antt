-- No line for an inactive carrier; else its parts one after another.
use Rattle.std.proofs.Common.{ℕ, ◌≡◌, [], ◌∷◌, ◌++◌}
use Rattle.std.proofs.lemmas.Int.{to_z-of_z}
use mir.Syntax.{w16}
use mir.Val.{SFits}
use borrow.Author.Tests.{eq-eqb, ne_eqb}
use borrow.Author.Rules.{rules}
use native.Mathlib.Omega.{arith}
use Rattle.machine.specs.declared.Carrier.{Carrier}
use Rattle.listing_text.specs.Text.{figures, signed, attachment_of, carrier_line}
use Rattle.listing_text.proofs.Adds.{nothing, then, like}
use Rattle.listing_text.proofs.Digits.{number, whole}
use Rattle.listing_text.proofs.put_carrier.Goals as goal

none : (k : ℕ) (c : Carrier) → c.active ≡ 0 → [] ≡ carrier_line k c
unfolding carrier_line
none k c e = simp (eq-eqb _ 0 e)

some : (k : ℕ) (c : Carrier) → (c.active ≡ 0 → ⊥) → (99 ∷ 32 ∷ []) ++ (figures k ++ ((32 ∷ []) ++ (signed c.slot.0 ++ attachment_of c))) ≡ carrier_line k c
unfolding carrier_line
some k c e = simp (ne_eqb _ 0 e)

pub returns-then-c-ne0 : goal.returns-then-c-ne0
returns-then-c-ne0 c =
    let f : SFits w16 c.args.c.slot.0 = search rules in
    like (some c.args.number c.args.c c.if-c-ne0.true)
    (then c.put_all.ensures
    (then (number (omega arith) c.put_number.ensures)
    (then c.put.ensures (then (whole c.args.c.slot.0 (to_z-of_z w16 c.args.c.slot.0 f) (search rules) c.put_number-then-c-ne0.ensures) c.put_attachment.ensures))))

pub returns-else-c-ne0 : goal.returns-else-c-ne0
returns-else-c-ne0 c = like (none c.args.number c.args.c c.if-c-ne0.false) (nothing c.args.text.now)
