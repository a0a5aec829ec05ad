-- The racking in force, as the byte that a rack gave it: along the records, and at every 64th. Assumes nothing.
use Prim.Native.Nat.{ℕ, suc, ◌+◌, ◌-◌, ◌*◌, ◌≤◌, ◌<◌}
use mathlib.Core.Path.{◌≡◌, refl, sym, ap, ◌∙◌}
use mathlib.Core.Bool.{true, cond}
use mathlib.Core.List.{List, [], ◌∷◌, ◌++◌}
use native.Mathlib.Omega.{arith}
use native.Mathlib.Numerals.{add-one}
use lib.Dec.{eqb}
use lib.ListN.{length, take, drop, get_or, set, length-set}
use lib.Seq.{drop-cons, take-add, get_or-set_same, get_or-set_other}
use borrow.Author.Tests.{ne_eqb}
use Rattle.machine.specs.declared.Racking.{Racking}
use Rattle.machine.specs.Machine.{Each}
use Rattle.record.specs.declared.Record.{Record}
use Rattle.record.specs.Kinds.{RACK}
use Rattle.record.specs.Format.{Encodes, byte, signed_of}
use Rattle.record.specs.Names.{is_rack, racking_after}
use Rattle.record.proofs.Shapes.{is}
use Rattle.trace.specs.Order.{in_force}
use Rattle.rewrite.specs.Programs.{records_of, what, knitting}
use Rattle.rewrite.specs.Rewrite.{racking_zero}
use Rattle.rewrite.specs.Laid.{is_record, rack_byte, Marked}
use Rattle.rewrite.proofs.Records.{record_form}

-- ---- along the records
-- the byte after one record more
abbrev pub byte_after : ℕ → List ℕ → ℕ
byte_after b x = cond (eqb (byte x 0) RACK) (byte x 1) b

rack_append : (b : ℕ) (u v : List (List ℕ)) → rack_byte b (u ++ v) ≡ rack_byte (rack_byte b u) v
unfolding rack_byte
rack_append b [] v = refl
rack_append b (x ∷ u) v = rack_append (byte_after b x) u v

pub rack_next : (b : ℕ) (l : List (List ℕ)) (j n : ℕ) → j < n → n ≤ length l
    → rack_byte b (take (n - j) (drop j l)) ≡ rack_byte (byte_after b (get_or l j [])) (take (n - (j + 1)) (drop (j + 1) l))
unfolding rack_byte
rack_next b l j n h i =
    let e : n - j ≡ suc (n - (j + 1)) = omega arith in
    (λ k. rack_byte b (take (e k) (drop-cons l j [] (omega arith) k)))
    ∙ ap (λ (m : ℕ). rack_byte (byte_after b (get_or l j [])) (take (n - (j + 1)) (drop m l))) (sym (add-one j))

pub rack_end : (b : ℕ) (l : List (List ℕ)) (j n : ℕ) → n ≤ j → rack_byte b (take (n - j) (drop j l)) ≡ b
unfolding rack_byte
rack_end b l j n h = let e : n - j ≡ 0 = omega arith in ap (λ (m : ℕ). rack_byte b (take m (drop j l))) e

pub rack_none : (l : List (List ℕ)) → 0 ≡ rack_byte 0 (take 0 l)
unfolding rack_byte
rack_none l = refl

-- on from record j, where it is r, to record i
pub rack_on : (l : List (List ℕ)) (j i r b : ℕ) → j ≤ i → r ≡ rack_byte 0 (take j l) → b ≡ rack_byte r (take (i - j) (drop j l)) → b ≡ rack_byte 0 (take i l)
rack_on l j i r b h f g =
    let e : j + (i - j) ≡ i = omega arith in
    g ∙ ap (λ (s : ℕ). rack_byte s (take (i - j) (drop j l))) f
    ∙ sym (rack_append 0 (take j l) (take (i - j) (drop j l))) ∙ sym (ap (rack_byte 0) (take-add j (i - j) l)) ∙ ap (λ (m : ℕ). rack_byte 0 (take m l)) e

-- ---- the byte is the racking
abbrev pub racked : ℕ → Racking
racked b = record { 0 = signed_of b }

form_rack : {x : List ℕ} {y : Record} → Encodes x y → (b : ℕ) → racking_after (racked b) y ≡ racked (byte_after b x)
form_rack (Encodes.rack h) b = refl
form_rack (Encodes.drop h i) b = refl
form_rack (Encodes.xfer h i j) b = refl
form_rack (Encodes.work {kind = k} a c d e f g h) b = let n = ne_eqb k RACK (λ q. omega arith) in simp n
form_rack (Encodes.split c d e f g h) b = refl
form_rack (Encodes.plated {kind = k} a c d e f g h i j) b = let n = ne_eqb k RACK (λ q. omega arith) in simp n

form_kind : {x : List ℕ} {y : Record} → Encodes x y → eqb (byte x 0) RACK ≡ is_rack y
form_kind (Encodes.rack h) = refl
form_kind (Encodes.drop h i) = refl
form_kind (Encodes.xfer h i j) = refl
form_kind (Encodes.work a c d e f g h) = refl
form_kind (Encodes.split c d e f g h) = refl
form_kind (Encodes.plated a c d e f g h i j) = refl

in_force_lem : (b : ℕ) (u : List (List ℕ)) → Each (λ (x : List ℕ). is_record x ≡ true) u → in_force knitting (racked b) u ≡ racked (rack_byte b u)
unfolding rack_byte
in_force_lem b [] w = refl
in_force_lem b (x ∷ u) (w, v) = ap (λ (r : Racking). in_force knitting r u) (form_rack (record_form x w) b) ∙ in_force_lem (byte_after b x) u v

no_rack : racking_zero ≡ racked 0
unfolding signed_of
no_rack = refl

pub force_is : (u : List (List ℕ)) → Each (λ (x : List ℕ). is_record x ≡ true) u → in_force knitting racking_zero u ≡ racked (rack_byte 0 u)
force_is u w = ap (λ (r : Racking). in_force knitting r u) no_rack ∙ in_force_lem 0 u w

pub kind_is : (x : List ℕ) → is_record x ≡ true → eqb (byte x 0) RACK ≡ is_rack (what x)
kind_is x w = form_kind (record_form x w)

-- ---- at every 64th record
pub record MarkedUpto (p table : List ℕ) (j : ℕ) : Type 0 where
  pub long : length table ≡ 256
  pub marks : (k : ℕ) → k < j → get_or table k 0 ≡ rack_byte 0 (take (k * 64) (records_of p))

pub none_marked : (p table : List ℕ) → length table ≡ 256 → MarkedUpto p table 0
none_marked p table h = record { long = h; marks = λ k i. absurd (omega arith) }

pub one_more : (p table : List ℕ) (j i b : ℕ) → MarkedUpto p table j → i ≡ j * 64 → i < 16384 → b ≡ rack_byte 0 (take i (records_of p)) → MarkedUpto p (set table j b) (j + 1)
one_more p table j i b m at h e =
    record {
      long = length-set table j b ∙ m.long;
      marks = λ k less. is k j
          (λ q. ap (λ (n : ℕ). get_or (set table j b) n 0) q ∙ get_or-set_same table j b 0 (omega (arith, m.long)) ∙ e ∙ (let f : i ≡ k * 64 = omega arith in ap (λ (n : ℕ). rack_byte 0 (take n (records_of p))) f))
          (λ d. get_or-set_other table j k b 0 d ∙ m.marks k (omega arith));
    }

pub all_marked : (p table : List ℕ) (j : ℕ) → MarkedUpto p table j → length (records_of p) ≤ j * 64 → Marked p table
all_marked p table j m h = record { long = m.long; marks = λ k i. m.marks k (omega arith) }
