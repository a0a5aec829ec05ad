-- What ties two records, in one statement and in document 01's words: every way in which the call ends, and that it ends so and in no other way.
use Rattle.std.specs.Prelude.{ℕ, ◌≤◌, ◌≡◌, List, ◌++◌, ◌↔◌, ℤ, nat_abs}
use Rattle.machine.specs.Limits.{racking_most}
use Rattle.machine.specs.declared.Racking.{Racking}
use Rattle.record.specs.declared.Record.{Record}
use Rattle.record.specs.Kinds.{RACK}
use Rattle.record.specs.Format.{Encodes}
use Rattle.run.specs.Reason.{UnknownKind, CutShort, FieldRange, NamesCarrier}
use Rattle.rewrite.specs.declared.Extent.{Extent}
use Rattle.rewrite.specs.Extents.{Covers, Share, Within}
use Rattle.tie.specs.declared.Tied.{Tied}
use Rattle.tie.specs.Tie.{only_number, by_rack, by_carrier, by_extents, tie_of}

-- ---- bytes that begin with a record, whatever follows it, or with none: 3 strange, 4 cut short, 5 field
pub record Begins (l : List ℕ) (x : Record) : Type 0 where
  pub bytes : List ℕ
  pub rest : List ℕ
  pub whole : l ≡ bytes ++ rest
  pub form : Encodes bytes x

pub data Unread (l : List ℕ) : ℕ → Type 0 where
  unknown_kind : UnknownKind l → Unread l 3
  cut_short : CutShort l → Unread l 4
  field_range : FieldRange l → Unread l 5

-- ---- two records
module _ (x y : Record) where
  -- 'if either is a rack'
  pub data OneRack : Type 0 where
    first : x.kind ≡ RACK → OneRack
    second : y.kind ≡ RACK → OneRack

  -- 'if they name one carrier'
  abbrev pub Both : ℕ → Type 0
  Both k = NamesCarrier x k × NamesCarrier y k

  pub record LeastShared (k : ℕ) : Type 0 where
    pub both : Both k
    pub lowest : (j : ℕ) → Both j → k ≤ j

module _ (r : Racking) (x y : Record) where
  -- 'or if their extents meet': an extent of what both cover, which is something, and of nothing else
  pub record InCommon (e : Extent) : Type 0 where
    pub some : Share r x y
    pub exactly : (h : ℤ) (layer : ℕ) → Within e h layer ↔ (Covers r x h layer × Covers r y h layer)

  -- what ties them: a rack, else the least carrier that both name, else what their extents have in common; or nothing does
  pub data Ties : Tied → Type 0 where
    a_rack : OneRack x y → Ties by_rack
    one_carrier : (OneRack x y → ⊥) → (k : ℕ) → LeastShared x y k → Ties (by_carrier k)
    extents_meet : (OneRack x y → ⊥) → ((k : ℕ) → Both x y k → ⊥) → (e : Extent) → InCommon e → Ties (by_extents e)
    untied : (OneRack x y → ⊥) → ((k : ℕ) → Both x y k → ⊥) → (Share r x y → ⊥) → Ties (only_number 0)

-- ---- the call: 15 is looked at first, then 3, 4 and 5 of the first record, then of the second
pub data Tells (z : ℤ) (p q : List ℕ) : Tied → Type 0 where
  bad_racking : (nat_abs z ≤ racking_most → ⊥) → Tells z p q (only_number 15)
  first_unread : nat_abs z ≤ racking_most → (n : ℕ) → Unread p n → Tells z p q (only_number n)
  second_unread : nat_abs z ≤ racking_most → (x : Record) → Begins p x → (n : ℕ) → Unread q n → Tells z p q (only_number n)
  told : nat_abs z ≤ racking_most → (x y : Record) → Begins p x → Begins q y → (t : Tied) → Ties (record { 0 = z }) x y t → Tells z p q t

abbrev pub TieExactly : Type 0
TieExactly = (z : ℤ) (p q : List ℕ) (t : Tied) → (tie_of z p q ≡ t) ↔ Tells z p q t
