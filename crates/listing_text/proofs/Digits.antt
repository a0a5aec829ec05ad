-- The digits that std and this crate speak of are the same. Assumes nothing.
use Prim.Native.Nat.{ℕ, suc, ◌^◌, ◌<◌}
use mathlib.Core.Path.{◌≡◌, sym, ap, ◌∙◌}
use mathlib.Core.List.{List, ◌∷◌}
use native.Mathlib.Omega.{arith}
use lib.IntN.{ℤ, pos, negsuc}
use lib.Signed.{mag}
use borrow.Author.Tests.{lt-ltb, le-ltb}
use Rattle.std.specs.Fmt.{decimal, signed_decimal}
use Rattle.std.proofs.lemmas.Fmt.{decimal_from_appends, AppendsLastDigit, length-decimal-le}
use Rattle.listing_text.specs.declared.text.Text.{Text}
use Rattle.listing_text.specs.Adds.{Adds}
use Rattle.listing_text.specs.Text.{digits_of, figures, signed}
use Rattle.listing_text.proofs.Adds.{like}

appends : AppendsLastDigit digits_of
unfolding digits_of
appends = record { one = λ k n h. simp (lt-ltb n 10 h); more = λ k n h. simp (le-ltb n 10 h) }

same_figures : (n : ℕ) → n < 2 ^ 64 → decimal n ≡ figures n
same_figures n h = sym (decimal_from_appends digits_of appends 20 n h (length-decimal-le 20 n (omega arith) (omega arith) h))

same_signed : (z : ℤ) → mag z < 2 ^ 63 → signed_decimal z ≡ signed z
same_signed (pos n) h = same_figures n (omega arith)
same_signed (negsuc n) h = ap (λ (l : List ℕ). 45 ∷ l) (same_figures (suc n) (omega arith))

module _ {old new : Text} where
  pub number : {n : ℕ} → n < 2 ^ 64 → Adds old (decimal n) new → Adds old (figures n) new
  number {n} h a = like (same_figures n h) a

  pub whole : (z : ℤ) {y : ℤ} → y ≡ z → mag z < 2 ^ 63 → Adds old (signed_decimal y) new → Adds old (signed z) new
  whole z e h a = like (ap signed_decimal e ∙ same_signed z h) a
