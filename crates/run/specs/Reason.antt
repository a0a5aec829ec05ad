-- Why a record has no step: the rows 3 to 11 of document 01's table, 16 of 02, W1, and 17 of W5, each said by itself, and which of them is the first.
use Rattle.std.specs.Prelude.{ℕ, ◌+◌, ◌≤◌, ◌<◌, ◌≡◌, false, cond, List, [], ◌∷◌, ◌++◌, eqb, length}
use Rattle.machine.specs.declared.State.{State}
use Rattle.machine.specs.Limits.{float_most}
use Rattle.machine.specs.Machine.{loops_on, carrier_of, Each}
use Rattle.record.specs.declared.Record.{Record}
use Rattle.record.specs.Kinds.{RACK, IN, OUT, TUCK, PLATED_TUCK, PLATED_KNIT, size_of, hooks_worked, carriers_named, loops_formed}
use Rattle.record.specs.Format.{Encodes, byte, fields_ok}
use Rattle.run.specs.Relation.{Active, Inactive, Attached, Opposite, Stretches, entry_slot, exit_slot, float_of}

-- a known kind with all its bytes there
pub record Whole (l : List ℕ) : Type 0 where
  pub some : 0 < length l
  pub known : size_of (byte l 0) ≡ 0 → ⊥
  pub long : size_of (byte l 0) ≤ length l

-- 3, strange: a byte that is no kind
pub record UnknownKind (l : List ℕ) : Type 0 where
  pub some : 0 < length l
  pub unknown : size_of (byte l 0) ≡ 0

-- 4, cut short: no byte, or fewer than the kind needs
pub data CutShort (l : List ℕ) : Type 0 where
  no_byte : length l ≡ 0 → CutShort l
  too_few : (size_of (byte l 0) ≡ 0 → ⊥) → length l < size_of (byte l 0) → CutShort l

-- 5, field: a field outside its range
pub record FieldRange (l : List ℕ) : Type 0 where
  pub whole : Whole l
  pub outside : fields_ok l ≡ false

-- carrier k is one that a record names, the first or the second
pub data NamesCarrier (x : Record) (k : ℕ) : Type 0 where
  first : 1 ≤ carriers_named x.kind → x.carrier ≡ k → NamesCarrier x k
  second : carriers_named x.kind ≡ 2 → x.second ≡ k → NamesCarrier x k

-- 16, one yarn twice: 'when both carriers are equal'
pub record YarnTwice (x : Record) : Type 0 where
  pub two : carriers_named x.kind ≡ 2
  pub equal : x.carrier ≡ x.second

module _ (s : State) (x : Record) where
  -- 17, stretched: 'for rack only', 'for some parked and attached carrier'
  pub record Stretched : Type 0 where
    pub kind : x.kind ≡ RACK
    pub carrier : ℕ
    pub stretches : Stretches s.racking x.racking (carrier_of s carrier)

  -- 6, already in: in for an active carrier
  pub record AlreadyIn : Type 0 where
    pub kind : x.kind ≡ IN
    pub active : Active (carrier_of s x.carrier)

  -- 7, not in: any other use of an inactive one
  pub record NotIn : Type 0 where
    pub carrier : ℕ
    pub named : NamesCarrier x carrier
    pub other : x.kind ≡ IN → ⊥
    pub carrier_off : Inactive (carrier_of s carrier)

  -- 8, elsewhere: parked at the wrong slot; out needs the exit slot, the rest the entry slot
  pub record WrongSlot : Type 0 where
    pub carrier : ℕ
    pub named : NamesCarrier x carrier
    pub other : x.kind ≡ IN → ⊥
    pub active : Active (carrier_of s carrier)
    pub elsewhere : (carrier_of s carrier).slot ≡ cond (eqb x.kind OUT) (exit_slot s x) (entry_slot s x) → ⊥

  -- 9, float: over 20 columns, for tuck, knit, split and plated stitches, which form a loop
  pub record FloatTooLong : Type 0 where
    pub carrier : ℕ
    pub named : NamesCarrier x carrier
    pub formed : 1 ≤ loops_formed x.kind
    pub attached : Attached (carrier_of s carrier)
    pub over : float_most < float_of s x carrier

  -- 10, not opposite: columns differ, for xfer and split, which work two hooks
  pub record NotOpposite : Type 0 where
    pub two : hooks_worked x.kind ≡ 2
    pub differ : Opposite s x → ⊥

  -- 11, hook full: over the limit's loops on a hook, the worked one of a tuck, plain or plated, the second of an xfer or split; 02, W2: 'so a plated knit
  -- at limit 1 gets 11'
  pub data HookFull : Type 0 where
    tuck : x.kind ≡ TUCK → s.limit < loops_on s x.at + 1 → HookFull
    plated_tuck : x.kind ≡ PLATED_TUCK → s.limit < loops_on s x.at + 2 → HookFull
    plated_knit : x.kind ≡ PLATED_KNIT → s.limit < 2 → HookFull
    second : hooks_worked x.kind ≡ 2 → s.limit < loops_on s x.at + loops_on s x.to → HookFull

-- a reason by its number: of a record
pub data RecordReason (n : ℕ) (s : State) (x : Record) : Type 0 where
  yarn_twice : n ≡ 16 → YarnTwice x → RecordReason n s x
  stretched : n ≡ 17 → Stretched s x → RecordReason n s x
  already_in : n ≡ 6 → AlreadyIn s x → RecordReason n s x
  not_in : n ≡ 7 → NotIn s x → RecordReason n s x
  wrong_slot : n ≡ 8 → WrongSlot s x → RecordReason n s x
  float_too_long : n ≡ 9 → FloatTooLong s x → RecordReason n s x
  not_opposite : n ≡ 10 → NotOpposite s x → RecordReason n s x
  hook_full : n ≡ 11 → HookFull s x → RecordReason n s x

-- and of bytes that begin with a record, or with none
pub data Reason (n : ℕ) (s : State) (l : List ℕ) : Type 0 where
  unknown_kind : n ≡ 3 → UnknownKind l → Reason n s l
  cut_short : n ≡ 4 → CutShort l → Reason n s l
  field_range : n ≡ 5 → FieldRange l → Reason n s l
  of_record : (bytes rest : List ℕ) (x : Record) → l ≡ bytes ++ rest → Encodes bytes x → RecordReason n s x → Reason n s l

-- ---- the first reason that holds
-- 'Order: 15, 1, 2; then each record 3 to 11 by number', 16 'after 5', 17 'after 5' and behind 16: the refusals of a record, in the order in which they are looked at
abbrev pub refusals : List ℕ
refusals = 3 ∷ 4 ∷ 5 ∷ 16 ∷ 17 ∷ 6 ∷ 7 ∷ 8 ∷ 9 ∷ 10 ∷ 11 ∷ []

-- of the list the number n is the first whose reason holds: none that stands earlier does
pub record First (n : ℕ) (s : State) (l : List ℕ) : Type 0 where
  pub earlier : List ℕ
  pub later : List ℕ
  pub order : refusals ≡ earlier ++ n ∷ later
  pub reason : Reason n s l
  pub none : Each (λ (m : ℕ). Reason m s l → ⊥) earlier
