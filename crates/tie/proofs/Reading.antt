-- A record's kind is its first byte. Assumes nothing.
use Prim.Native.Nat.{ℕ, zero, suc, ◌<◌}
use mathlib.Core.Path.{◌≡◌, refl, ◌∙◌}
use mathlib.Core.List.{List, [], ◌∷◌}
use native.Mathlib.Omega.{arith}
use lib.ListN.{length, take}
use Rattle.record.specs.declared.Record.{Record}
use Rattle.record.specs.Format.{Encodes, byte, decode_of}
use Rattle.record.proofs.Forms.{decode_form, decode_in, decode_size}
use Rattle.record.specs.Names.{outline_of}
use Rattle.rewrite.proofs.Carriers.{two_of}
use Rattle.tie.specs.Bonds.{Carries}

form_kind : {b : List ℕ} {x : Record} → Encodes b x → x.kind ≡ byte b 0
form_kind (Encodes.rack h) = refl
form_kind (Encodes.drop a b) = refl
form_kind (Encodes.xfer a b c) = refl
form_kind (Encodes.work a b c d e f g) = refl
form_kind (Encodes.split a b c d e f) = refl
form_kind (Encodes.plated a b c d e f g h i) = refl

front_byte : (n : ℕ) (l : List ℕ) → 0 < n → byte (take n l) 0 ≡ byte l 0
front_byte zero l h = absurd (omega arith)
front_byte (suc n) [] h = refl
front_byte (suc n) (b ∷ l) h = refl

pub kind_read : (l : List ℕ) → (decode_of l).number ≡ 0 → (decode_of l).what.kind ≡ byte l 0
kind_read l e = form_kind (decode_form l e) ∙ front_byte (decode_of l).size l (decode_size l e).0

pub some_byte : (l : List ℕ) → (decode_of l).number ≡ 0 → 0 < length l
some_byte l e = let (a, b) = decode_size l e in omega arith

-- the carriers that it names are carriers
pub carries_read : (l : List ℕ) → (decode_of l).number ≡ 0 → Carries (outline_of (decode_of l).what)
unfolding outline_of
carries_read l e = let h = decode_in l e in record { first = λ n. h.carrier_low n; second = λ n. h.second_low (two_of (decode_of l).what refl (λ q. omega arith) (λ q. omega arith)) }
