-- What is told, look by look. Assumes nothing.
use Prim.Native.Nat.{ℕ}
use mathlib.Core.Path.{◌≡◌, refl, sym, ap, ◌∙◌}
use mathlib.Core.Bool.{Bool, true, false, cond}
use mir.Syntax.{w8}
use mir.Facts.{to_z-of_z}
use mir.Val.{SFits, to_z, of_z}
use mathlib.Core.List.{List, [], ◌∷◌}
use lib.IntN.{ℤ}
use lib.Dec.{eqb}
use borrow.Author.Tests.{eq-eqb, ne_eqb}
use Rattle.machine.specs.declared.Racking.{Racking}
use Rattle.machine.specs.Range.{racking_ok}
use Rattle.machine.specs.declared.refusals.Refusal.{Refusal}
use Rattle.machine.specs.Refusals.{number_of}
use Rattle.record.specs.declared.Record.{Record}
use Rattle.record.specs.Kinds.{RACK}
use Rattle.record.specs.Format.{byte, decode_of}
use Rattle.record.specs.Names.{carriers_of, outline_of}
use Rattle.machine.proofs.Refused.{number_some}
use Rattle.rewrite.specs.Extents.{extent_of}
use Rattle.rewrite.proofs.Extents.{outline_extent}
use Rattle.std.specs.Prelude.{Option, Result, Err}
use Rattle.tie.specs.declared.Bond.{Bond}
use Rattle.tie.specs.Bonds.{told_of}
use Rattle.tie.proofs.Reading.{kind_read}
use Rattle.tie.specs.Tie.{only_number, by_rack, by_carrier, lower, called_in, least, least_shared, tie_of_extents, tie_of_two, tie_of_records, tie_of}

-- ---- two records
-- carriers are named in the outline
outline_least : (x y : Record) → least_shared (outline_of x) (outline_of y) ≡ least_shared x y
unfolding outline_of carriers_of least
outline_least x y = go (carriers_of x)
  where
    go : (l : List ℕ) → least (outline_of y) l ≡ least y l
    go [] = refl
    go (k ∷ l) = ap (lower (called_in y k)) (go l)

module _ (r : Racking) (x y : Record) where
  pub shared_tells : (least_shared x y ≡ 0 → ⊥) → tie_of_two r x y ≡ by_carrier (least_shared x y)
  unfolding tie_of_two
  shared_tells n = simp (ne_eqb (least_shared x y) 0 n)

  pub extents_tell : least_shared x y ≡ 0 → tie_of_two r x y ≡ tie_of_extents (extent_of r x) (extent_of r y)
  unfolding tie_of_two
  extents_tell e = simp (eq-eqb (least_shared x y) 0 e)

  -- outlines are all that is looked at
  pub outline_tells : tie_of_two r (outline_of x) (outline_of y) ≡ tie_of_two r x y
  unfolding tie_of_two outline_of
  outline_tells =
      λ i. cond (eqb (outline_least x y i) 0) (tie_of_extents (outline_extent r x i) (outline_extent r y i)) (by_carrier (outline_least x y i))

module _ (r : Racking) (x y : Record) where
  pub first_rack : x.kind ≡ RACK → tie_of_records r x y ≡ by_rack
  unfolding tie_of_records
  first_rack e = simp (eq-eqb x.kind RACK e)

  module _ (d : x.kind ≡ RACK → ⊥) where
    pub second_rack : y.kind ≡ RACK → tie_of_records r x y ≡ by_rack
    unfolding tie_of_records
    second_rack e = simp (ne_eqb x.kind RACK d, eq-eqb y.kind RACK e)

    module _ (f : y.kind ≡ RACK → ⊥) where
      pub no_rack : tie_of_records r x y ≡ tie_of_two r x y
      unfolding tie_of_records
      no_rack = simp (ne_eqb x.kind RACK d, ne_eqb y.kind RACK f)

      pub carrier_shared : (least_shared x y ≡ 0 → ⊥) → tie_of_records r x y ≡ by_carrier (least_shared x y)
      carrier_shared n = no_rack ∙ shared_tells r x y n

      pub by_extents_lem : least_shared x y ≡ 0 → tie_of_records r x y ≡ tie_of_extents (extent_of r x) (extent_of r y)
      by_extents_lem e = no_rack ∙ extents_tell r x y e

-- ---- the call
module _ (z : ℤ) (p q : List ℕ) where
  pub racking_out : racking_ok z ≡ false → tie_of z p q ≡ only_number 15
  unfolding tie_of
  racking_out e = simp e

  module _ (a : racking_ok z ≡ true) where
    pub first_refused : ((decode_of p).number ≡ 0 → ⊥) → tie_of z p q ≡ only_number (decode_of p).number
    unfolding tie_of
    first_refused d = simp (a, ne_eqb (decode_of p).number 0 d)

    module _ (b : (decode_of p).number ≡ 0) where
      pub second_refused : ((decode_of q).number ≡ 0 → ⊥) → tie_of z p q ≡ only_number (decode_of q).number
      unfolding tie_of
      second_refused d = simp (a, eq-eqb (decode_of p).number 0 b, ne_eqb (decode_of q).number 0 d)

      pub both_read : (decode_of q).number ≡ 0 → tie_of z p q ≡ tie_of_records (record { 0 = z }) (decode_of p).what (decode_of q).what
      unfolding tie_of
      both_read c = simp (a, eq-eqb (decode_of p).number 0 b, eq-eqb (decode_of q).number 0 c)

-- the racking as code reads it back
pub racking_back : (z : ℤ) → SFits w8 z → to_z w8 (of_z w8 z) ≡ z
racking_back z f = to_z-of_z f

pub racking_in : (z : ℤ) {t b : Bool} → SFits w8 z → b ≡ racking_ok (to_z w8 (of_z w8 z)) → b ≡ t → racking_ok z ≡ t
racking_in z f e g = sym (ap racking_ok (racking_back z f)) ∙ sym e ∙ g

-- ---- what code finds, look by look
module _ (z : ℤ) (p q : List ℕ) (a : racking_ok z ≡ true) where
  pub first_told : (why : Refusal) (r : Result (Option Bond) Refusal) → r ≡ Err why → number_of why ≡ (decode_of p).number → told_of r ≡ tie_of z p q
  first_told why r e f = ap told_of e ∙ ap only_number f ∙ sym (first_refused z p q a (λ g. number_some why (f ∙ g)))

  module _ (b : (decode_of p).number ≡ 0) where
    pub second_told : (why : Refusal) (r : Result (Option Bond) Refusal) → r ≡ Err why → number_of why ≡ (decode_of q).number → told_of r ≡ tie_of z p q
    second_told why r e f = ap told_of e ∙ ap only_number f ∙ sym (second_refused z p q a b (λ g. number_some why (f ∙ g)))

    module _ (c : (decode_of q).number ≡ 0) where
      abbrev x : Record
      x = (decode_of p).what

      abbrev y : Record
      y = (decode_of q).what

      tells : tie_of z p q ≡ tie_of_records (record { 0 = z }) x y
      tells = both_read z p q a b c

      pub first_is_rack : byte p 0 ≡ RACK → by_rack ≡ tie_of z p q
      first_is_rack e = sym (tells ∙ first_rack _ x y (kind_read p b ∙ e))

      pub second_is_rack : (byte p 0 ≡ RACK → ⊥) → byte q 0 ≡ RACK → by_rack ≡ tie_of z p q
      second_is_rack d e = sym (tells ∙ second_rack _ x y (λ f. d (sym (kind_read p b) ∙ f)) (kind_read q c ∙ e))

      pub neither_rack : (byte p 0 ≡ RACK → ⊥) → (byte q 0 ≡ RACK → ⊥) → tie_of_two (record { 0 = z }) (outline_of x) (outline_of y) ≡ tie_of z p q
      neither_rack d e =
          outline_tells (record { 0 = z }) x y ∙ sym (tells ∙ no_rack _ x y (λ f. d (sym (kind_read p b) ∙ f)) (λ f. e (sym (kind_read q c) ∙ f)))
