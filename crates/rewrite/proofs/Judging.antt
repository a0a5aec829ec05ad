-- The tie of two neighbours as the code finds it: racks first, then one carrier, then the extents. Assumes nothing.
use mathlib.Core.Path.{◌≡◌, refl, sym, ap, ◌∙◌}
use mathlib.Core.Bool.{Bool, true, false}
use mathlib.Core.List.{List}
use Prim.Native.Nat.{ℕ, ◌+◌, ◌-◌}
use native.Mathlib.Omega.{arith}
use lib.ListN.{get_or, take, drop}
use borrow.Author.Tests.{eq-eqb, ne_eqb}
use Rattle.machine.specs.declared.Racking.{Racking}
use Rattle.record.specs.declared.Record.{Record}
use Rattle.record.specs.Kinds.{RACK}
use Rattle.record.specs.Format.{byte, decode_of}
use Rattle.record.specs.Names.{is_rack, outline_of}
use Rattle.rewrite.specs.declared.Pair.{Pair}
use Rattle.rewrite.specs.Extents.{extent_of, meets, share_carrier}
use Rattle.rewrite.specs.Programs.{what}
use Rattle.rewrite.specs.Laid.{record_at, start_at, in_force_at}
use Rattle.rewrite.proofs.Extents.{rack_first, rack_second, one_carrier_tied, by_extents_lem, outline_extent, outline_share}
use Rattle.rewrite.proofs.Laying.{Stands, stands, kind_at}
use Rattle.rewrite.proofs.Rackings.{kind_is}
use Rattle.rewrite.proofs.Pairs.{first_bytes, second_bytes, first_reads, second_reads}
use Rattle.rewrite.specs.Programs.{records_of}
use Rattle.rewrite.specs.Laid.{Laid, Sound, pair_at, tied_pair}
use borrow.Table.Steps.{cases}
use Prim.Native.Nat.{◌<◌}
use lib.ListN.{length}

-- outlines u and v share a carrier and meet as the records x and y do
module _ (r : Racking) (x y u v : Record) (f : u ≡ outline_of x) (g : v ≡ outline_of y) where
  share_is : share_carrier u v ≡ share_carrier x y
  share_is = (λ i. share_carrier (f i) (g i)) ∙ outline_share x y

  meets_is : meets (extent_of r u) (extent_of r v) ≡ meets (extent_of r x) (extent_of r y)
  meets_is = (λ i. meets (extent_of r (f i)) (extent_of r (g i))) ∙ (λ i. meets (outline_extent r x i) (outline_extent r y i))

-- a record's kind tells a rack
module _ (p : List ℕ) (j a : ℕ) (s : Stands p j) (at : a ≡ start_at p j) where
  is_rack_lem : get_or p a 0 ≡ RACK → is_rack (what (record_at p j)) ≡ true
  is_rack_lem e = sym (kind_is (record_at p j) s.is_one_record) ∙ eq-eqb _ RACK (sym (kind_at p j s a at) ∙ e)

  no_rack : (get_or p a 0 ≡ RACK → ⊥) → is_rack (what (record_at p j)) ≡ false
  no_rack d = sym (kind_is (record_at p j) s.is_one_record) ∙ ne_eqb _ RACK (λ e. d (kind_at p j s a at ∙ e))

  -- its bytes, of which an outline is read
  outlined : (part : List ℕ) → part ≡ record_at p j → (decode_of (record_at p j)).number ≡ 0 → (get_or p a 0 ≡ RACK → ⊥) → ((decode_of part).number ≡ 0) × (byte part 0 ≡ RACK → ⊥)
  outlined part e h d = (ap (λ (x : List ℕ). (decode_of x).number) e ∙ h, λ q. d (kind_at p j s a at ∙ sym (ap (λ (x : List ℕ). byte x 0) e) ∙ q))

-- an outline of a record's bytes
read : {u : Record} (b x : List ℕ) → b ≡ x → u ≡ outline_of (what b) → u ≡ outline_of (what x)
read b x e f = f ∙ ap (λ (l : List ℕ). outline_of (what l)) e

-- two neighbours, and where they stand in an output that is laid
module _ (p w : List ℕ) (i : ℕ) (at : Pair) (laid : Laid p w) (h : i + 1 < length (records_of p)) (e : at ≡ pair_at p i) where
  abbrev r : Racking
  r = in_force_at p i

  abbrev x : List ℕ
  x = record_at p i

  abbrev y : List ℕ
  y = record_at p (i + 1)

  first_there : Stands p i
  first_there = stands p laid.sound i (omega (arith, h))

  second_there : Stands p (i + 1)
  second_there = stands p laid.sound (i + 1) h

  first_start : at.first ≡ start_at p i
  first_start = ap (λ (s : Pair). s.first) e

  second_start : at.second ≡ start_at p (i + 1)
  second_start = ap (λ (s : Pair). s.second) e

  first_part : take (at.second - at.first) (drop at.first p) ≡ x
  first_part = first_bytes p laid.sound i h at e

  second_part : take (at.end - at.second) (drop at.second p) ≡ y
  second_part = second_bytes p laid.sound i h at e

  module _ (not_first : get_or p at.first 0 ≡ RACK → ⊥) where
    no_first : is_rack (what x) ≡ false
    no_first = no_rack p i _ first_there first_start not_first

    pub first_read : ((decode_of (take (at.second - at.first) (drop at.first p))).number ≡ 0) × (byte (take (at.second - at.first) (drop at.first p)) 0 ≡ RACK → ⊥)
    first_read = outlined p i _ first_there first_start _ first_part (first_reads p laid.sound i h) not_first

    module _ (not_second : get_or p at.second 0 ≡ RACK → ⊥) where
      no_second : is_rack (what y) ≡ false
      no_second = no_rack p (i + 1) _ second_there second_start not_second

      pub second_read : ((decode_of (take (at.end - at.second) (drop at.second p))).number ≡ 0) × (byte (take (at.end - at.second) (drop at.second p)) 0 ≡ RACK → ⊥)
      second_read = outlined p (i + 1) _ second_there second_start _ second_part (second_reads p laid.sound i h) not_second

      -- their outlines
      module _ (u v : Record) (f : u ≡ outline_of (what (take (at.second - at.first) (drop at.first p)))) (g : v ≡ outline_of (what (take (at.end - at.second) (drop at.second p)))) (b : Bool) (s : b ≡ share_carrier u v) where
        first_is : u ≡ outline_of (what x)
        first_is = read _ _ first_part f

        second_is : v ≡ outline_of (what y)
        second_is = read _ _ second_part g

        shares : b ≡ share_carrier (what x) (what y)
        shares = s ∙ share_is r (what x) (what y) _ _ first_is second_is

        pub one_carrier : b ≡ true → true ≡ tied_pair p i
        one_carrier t = sym (one_carrier_tied r x y no_first no_second (sym shares ∙ t))

        pub by_outlines : b ≡ false → (q : Racking) → q ≡ r → meets (extent_of q u) (extent_of q v) ≡ tied_pair p i
        by_outlines t q own =
            ap (λ (z : Racking). meets (extent_of z u) (extent_of z v)) own ∙ meets_is r (what x) (what y) _ _ first_is second_is
            ∙ sym (by_extents_lem r x y no_first no_second (sym shares ∙ t))

-- a rack ahead or behind, where the code looks for its kind
module _ (p : List ℕ) (i : ℕ) (sound : Sound p) (h : i + 1 < length (records_of p)) where
  pub is_ahead : get_or p (pair_at p i).first 0 ≡ RACK → true ≡ tied_pair p i
  is_ahead f = sym (rack_first (in_force_at p i) (record_at p i) (record_at p (i + 1)) (is_rack_lem p i _ (stands p sound i (omega (arith, h))) refl f))

  pub is_behind : get_or p (pair_at p i).second 0 ≡ RACK → true ≡ tied_pair p i
  is_behind f =
      let b = is_rack_lem p (i + 1) _ (stands p sound (i + 1) h) refl f in
      cases (is_rack (what (record_at p i))) (λ a. sym (rack_first (in_force_at p i) (record_at p i) (record_at p (i + 1)) a)) (λ a. sym (rack_second (in_force_at p i) (record_at p i) (record_at p (i + 1)) a b))

pub ruleset racks = (is_ahead, is_behind)
