-- Whether the record at a is tied to the one that is put in order, look by look. Assumes nothing.
use Prim.Native.Nat.{ℕ, ◌+◌, ◌≤◌, ◌<◌}
use native.Mathlib.Omega.{arith}
use mathlib.Core.Path.{◌≡◌, refl, sym, ap, ◌∙◌}
use mathlib.Core.Bool.{true, false}
use mathlib.Core.List.{List}
use lib.ListN.{length, get_or}
use Rattle.machine.specs.declared.Racking.{Racking}
use Rattle.machine.specs.Geometry.{column_of}
use Rattle.record.specs.declared.Record.{Record}
use Rattle.record.specs.Kinds.{RACK, carriers_named}
use Rattle.record.specs.Format.{byte}
use Rattle.record.specs.Names.{is_rack, outline_of}
use Rattle.trace.specs.Records.{tied}
use Rattle.rewrite.specs.Extents.{share_carrier, extent_of, meets}
use Rattle.rewrite.specs.Programs.{what, knitting}
use Rattle.rewrite.specs.Laid.{far_apart}
use Rattle.rewrite.proofs.Extents.{rack_first, one_carrier_tied, by_extents_lem, outline_share, far_apart_lem}
use Rattle.house.specs.declared.Near.{Near}
use Rattle.house.specs.declared.Mover.{Mover}
use Rattle.house.specs.Arranged.{record_in, Begins, Moves, reach_of}
use Rattle.house.proofs.Places.{rack_in, other_in, sized}
use Rattle.house.proofs.Looks.{outline_at_lem, record_named, below_reach, above_reach, five, number_is, not_rack, shares_first, shares_second, shares_none}

-- the column of an outline is the record's
outline_column : (r : Racking) (x : Record) → column_of (outline_of x).at r ≡ column_of x.at r
unfolding outline_of
outline_column r x = refl

column_of_lem : (r : Racking) (x u : Record) → u ≡ outline_of x → column_of u.at r ≡ column_of x.at r
column_of_lem r x u e = ap (λ (v : Record). column_of v.at r) e ∙ outline_column r x

-- y at a, and x that is put in order
module _ (p : List ℕ) (a : ℕ) (own : Mover) (here : Begins p a) (m : Moves p own) where
  abbrev r : Racking
  r = own.racking

  abbrev y : List ℕ
  y = record_in p a

  abbrev x : List ℕ
  x = record_in p own.at

  pub some_byte : a < length p
  some_byte = omega (arith, here.ends, (sized p a here).least)

  no_second : is_rack (what x) ≡ false
  no_second = other_in p own.at m.begins m.no_rack

  -- the number of x's needle
  number : own.outline.at.1 ≡ (what x).at.1
  number = ap (λ (u : Record). u.at.1) m.outline ∙ outline_at_lem (what x)

  pub tied_rack : byte p a ≡ RACK → tied knitting r y x ≡ true
  tied_rack e = rack_first r y x (rack_in p a here e)

  -- y is no rack
  module _ (other : byte p a ≡ RACK → ⊥) where
    no_first : is_rack (what y) ≡ false
    no_first = other_in p a here other

    share : share_carrier (what y) (what x) ≡ true → tied knitting r y x ≡ true
    share e = one_carrier_tied r y x no_first no_second e

    -- it shares no carrier
    module _ (none : share_carrier (what y) (what x) ≡ false) where
      extents : tied knitting r y x ≡ meets (extent_of r (what y)) (extent_of r (what x))
      extents = by_extents_lem r y x no_first no_second none

      apart : far_apart (column_of (what y).at r) (column_of (what x).at r) ≡ true → tied knitting r y x ≡ false
      apart f = extents ∙ far_apart_lem r (what y) (what x) f

    -- by its outline
    module _ (u : Record) (is : u ≡ outline_of (what y)) where
      outlines_share : share_carrier u own.outline ≡ share_carrier (what y) (what x)
      outlines_share = (λ i. share_carrier (is i) (m.outline i)) ∙ outline_share (what y) (what x)

      pub tied_share : share_carrier u own.outline ≡ true → tied knitting r y x ≡ true
      tied_share e = share (sym outlines_share ∙ e)

      pub tied_extents : share_carrier u own.outline ≡ false → tied knitting r y x ≡ meets (extent_of r (what y)) (extent_of r (what x))
      tied_extents e = extents (sym outlines_share ∙ e)

      pub untied_apart : share_carrier u own.outline ≡ false → far_apart (column_of u.at r) (column_of own.outline.at r) ≡ true → tied knitting r y x ≡ false
      untied_apart e f =
          apart (sym outlines_share ∙ e) (sym (λ i. far_apart (column_of_lem r (what y) u is i) (column_of_lem r (what x) own.outline m.outline i)) ∙ f)

  -- y names one carrier
  module _ (one : carriers_named (byte p a) ≡ 1) where
    pub other_kind : byte p a ≡ RACK → ⊥
    other_kind = not_rack p a here one

    pub long : a + 5 ≤ length p
    long = omega (arith, here.ends, five p a here one)

    pub tied_first : get_or p (a + 4) 0 ≡ own.outline.carrier → tied knitting r y x ≡ true
    tied_first e = share other_kind (shares_first p a here one (what x) (record_named x m.begins.is_one_record) own.outline m.outline e)

    pub tied_second : get_or p (a + 4) 0 ≡ own.outline.second → tied knitting r y x ≡ true
    tied_second e = share other_kind (shares_second p a here one (what x) (record_named x m.begins.is_one_record) own.outline m.outline e)

    -- of another carrier
    module _ (c : get_or p (a + 4) 0 ≡ own.outline.carrier → ⊥) (d : get_or p (a + 4) 0 ≡ own.outline.second → ⊥) where
      none : share_carrier (what y) (what x) ≡ false
      none = shares_none p a here one (what x) (record_named x m.begins.is_one_record) own.outline m.outline c d

      pub tied_others : tied knitting r y x ≡ meets (extent_of r (what y)) (extent_of r (what x))
      tied_others = extents other_kind none

      pub untied_below : get_or p (a + 3) 0 < own.near.low → tied knitting r y x ≡ false
      untied_below h =
          let less : (what y).at.1 + reach_of r.0 < (what x).at.1 = omega (arith, h, ap (λ (n : Near). n.low) m.near, number, number_is p a here one) in
          apart other_kind none (below_reach r (what y).at (what x).at less)

      pub untied_above : own.near.high < get_or p (a + 3) 0 → tied knitting r y x ≡ false
      untied_above h =
          let more : (what x).at.1 + reach_of r.0 < (what y).at.1 = omega (arith, h, ap (λ (n : Near). n.high) m.near, number, number_is p a here one) in
          apart other_kind none (above_reach r (what x).at (what y).at more)

pub ruleset looks = (some_byte, tied_rack, tied_share, tied_extents, untied_apart, other_kind, long, tied_first, tied_second, tied_others, untied_below, untied_above)
