-- The parts one after another, from the front of the loan.
use Rattle.std.proofs.Common.{ℕ, ◌≡◌, ◌+◌, true, false, Bool, [], ◌∷◌}
use borrow.Author.Rules.{rules}
use native.Mathlib.Omega.{arith}
use Rattle.std.specs.Int.{from_bool}
use Rattle.listing_text.specs.Text.{flag_of, listing_of}
use Rattle.listing_text.proofs.Adds.{then, like, at_front}
use Rattle.listing_text.proofs.Digits.{number}
use Rattle.listing_text.proofs.listing.Goals as goal

-- the last figure of the line, and its ends
written : (complete : Bool) {n : ℕ} → n ≡ from_bool complete → 32 ∷ (48 + n) ∷ 10 ∷ [] ≡ 32 ∷ flag_of complete ∷ 10 ∷ []
unfolding flag_of
written true e = simp e
written false e = simp e

pub returns : goal.returns
unfolding listing_of
returns c =
    at_front c.new-out.ensures.loan c.new-out.ensures.front (search rules) c.end.ensures
    (then (number (omega arith) c.put_number.ensures)
    (then c.put.ensures
    (then (number (omega arith) c.put_number-2.ensures)
    (then (like (written c.args.a.complete c.from.ensures) c.put_all.ensures)
    (then c.put_state.ensures c.put_program.ensures)))))
