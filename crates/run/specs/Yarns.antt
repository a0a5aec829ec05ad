-- Floats and attachments once more, from every state: in document 01's words ('Steps') and 02's (W1), by kinds, columns and needles alone.
use Rattle.std.specs.Prelude.{ℕ, ◌≤◌, ◌<◌, ◌≡◌, true, false, List, ◌++◌, ◌↔◌, ◌⊎◌, pos, ◌+ℤ◌, length}
use Rattle.machine.specs.declared.Needle.{Needle}
use Rattle.machine.specs.declared.Column.{Column}
use Rattle.machine.specs.declared.State.{State}
use Rattle.machine.specs.Limits.{carrier_count}
use Rattle.machine.specs.Machine.{carrier_of}
use Rattle.machine.specs.Geometry.{column_of}
use Rattle.record.specs.declared.Record.{Record}
use Rattle.record.specs.Kinds.{XFER, IN, OUT, TUCK, KNIT, SPLIT, PLATED_TUCK, PLATED_KNIT}
use Rattle.record.specs.Format.{Encodes, no_needle}
use Rattle.run.specs.Relation.{Attached, Step}
use Rattle.run.specs.Reason.{Reason}

-- a record forms loops with carrier k: 'tuck, knit and split', and of a plated stitch either carrier does
pub data FormsWith (x : Record) (k : ℕ) : Type 0 where
  tuck : x.kind ≡ TUCK → x.carrier ≡ k → FormsWith x k
  knit : x.kind ≡ KNIT → x.carrier ≡ k → FormsWith x k
  split : x.kind ≡ SPLIT → x.carrier ≡ k → FormsWith x k
  plated_tuck_first : x.kind ≡ PLATED_TUCK → x.carrier ≡ k → FormsWith x k
  plated_tuck_second : x.kind ≡ PLATED_TUCK → x.second ≡ k → FormsWith x k
  plated_knit_first : x.kind ≡ PLATED_KNIT → x.carrier ≡ k → FormsWith x k
  plated_knit_second : x.kind ≡ PLATED_KNIT → x.second ≡ k → FormsWith x k

-- ---- floats
-- column a lies more than 20 columns to the right of column b
pub record FarRight (a b : Column) : Type 0 where
  pub columns : ℕ
  pub over : 20 < columns
  pub apart : a.0 ≡ b.0 +ℤ pos columns

-- 'an attached carrier's needle may be at most 20 columns from the needle worked, both columns at the current racking': for one it is more
pub record Floats (s : State) (x : Record) : Type 0 where
  pub carrier : ℕ
  pub forms : FormsWith x carrier
  pub attached : Attached (carrier_of s carrier)
  pub far : FarRight (column_of (carrier_of s carrier).needle s.racking) (column_of x.at s.racking)
      ⊎ FarRight (column_of x.at s.racking) (column_of (carrier_of s carrier).needle s.racking)

-- the bytes begin with such a record
abbrev pub BeginsFloating : State → List ℕ → Type 0
BeginsFloating s l = (bytes : List ℕ) × (rest : List ℕ) × (x : Record) × (l ≡ bytes ++ rest) × Encodes bytes x × Floats s x

-- from every state 9's reason holds exactly then
abbrev pub FloatExactly : Type 0
FloatExactly = (s : State) (l : List ℕ) → Reason 9 s l ↔ BeginsFloating s l

-- ---- attachments
-- carrier k is attached on a side (0 none, 1 left, 2 right) of a needle
pub record AttachedTo (t : State) (k side : ℕ) (n : Needle) : Type 0 where
  pub side_is : (carrier_of t k).side ≡ side
  pub needle_is : (carrier_of t k).needle ≡ n

-- 'in: .. it parks at the entry slot, unattached'; 'out: .. it becomes inactive and unattached'
pub data Unattaches (x : Record) (k : ℕ) : Type 0 where
  by_in : x.kind ≡ IN → x.carrier ≡ k → Unattaches x k
  by_out : x.kind ≡ OUT → x.carrier ≡ k → Unattaches x k

-- 'xfer: .. attachments at the first go to the second'; 'split: the loops and attachments go as in xfer'
pub data Transfers (x : Record) : Type 0 where
  by_xfer : x.kind ≡ XFER → Transfers x
  by_split : x.kind ≡ SPLIT → Transfers x

pub record Goes (s : State) (x : Record) (k : ℕ) : Type 0 where
  pub transfers : Transfers x
  pub attached : Attached (carrier_of s k)
  pub at_first : (carrier_of s k).needle ≡ x.at

-- what becomes of carrier k's attachment, whatever the kind, the loops on the hooks, the racking and the other carriers
pub record Attachment (s : State) (x : Record) (t : State) (k : ℕ) : Type 0 where
  pub ended : Unattaches x k → AttachedTo t k 0 no_needle
  -- 'the carrier is attached to this needle, on the side it moved to'
  pub to_right : FormsWith x k → x.right ≡ true → AttachedTo t k 2 x.at
  pub to_left : FormsWith x k → x.right ≡ false → AttachedTo t k 1 x.at
  -- 'go to the second, sides kept'; a split's own yarn is attached after that
  pub moved : (FormsWith x k → ⊥) → Goes s x k → AttachedTo t k (carrier_of s k).side x.to
  -- else both are kept: 'Attachments remain'
  pub kept : (Unattaches x k → ⊥) → (FormsWith x k → ⊥) → (Goes s x k → ⊥) → AttachedTo t k (carrier_of s k).side (carrier_of s k).needle

-- from every state with ten carriers, of every carrier
abbrev pub AttachmentsExactly : Type 0
AttachmentsExactly =
    (s t : State) (bytes : List ℕ) (x : Record) (k : ℕ) → length s.carriers ≡ carrier_count → 1 ≤ k → k ≤ carrier_count
    → Encodes bytes x → Step s x t → Attachment s x t k
