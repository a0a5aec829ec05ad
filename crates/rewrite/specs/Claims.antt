-- Demand 3, over the rewriter's own definition. The code's `rewrite` equals rewrite_of by its contract.
use Rattle.std.specs.Prelude.{ℕ, ◌+◌, ◌<◌, ◌≡◌, true, List, [], ◌∷◌, ◌++◌, ◌↔◌, ℤ, length, take}
use Rattle.machine.specs.declared.Needle.{Needle}
use Rattle.machine.specs.declared.Racking.{Racking}
use Rattle.machine.specs.Limits.{program_most}
use Rattle.machine.specs.declared.State.{State}
use Rattle.machine.specs.Machine.{Each}
use Rattle.machine.specs.Range.{LimitInRange}
use Rattle.record.specs.declared.Record.{Record}
use Rattle.record.specs.Kinds.{DROP, XFER, IN, OUT, MISS, TUCK, KNIT, SPLIT, PLATED_TUCK, PLATED_KNIT}
use Rattle.record.specs.Format.{Encodes}
use Rattle.run.specs.Relation.{Valid}
use Rattle.trace.specs.Records.{tied}
use Rattle.trace.specs.Lists.{Nth}
use Rattle.trace.specs.Order.{SameRecords, tied_in, SameOrder}
use Rattle.rewrite.specs.Extents.{Covers, extent_of, Within}
use Rattle.rewrite.specs.Programs.{flat, records_of, log_record_size, swap_kind, position_of, what, same_bytes, knitting, needle, carrier, names, history_of}
use Rattle.rewrite.specs.Rewrite.{racking_zero, ended, replay, written, rewrite_of}
use Rattle.rewrite.specs.Exact.{Long, Short, Lent, RecordsAre, Tied, TiedBehind, Swapped}
use Rattle.rewrite.specs.Calls.{Below, Call, call_of, call_number, after, AllAccepted}

-- ---- the definitions in 01's words
-- a program is its records 'end to end', whatever its bytes
abbrev pub RecordsEndToEnd : Type 0
RecordsEndToEnd = (p : List ℕ) → flat (records_of p) ≡ p

-- those of a program that is valid at some limit are 'whole, of known kinds and with fields in range'
abbrev pub RecordsEncode : Type 0
RecordsEncode = (limit : ℕ) (p : List ℕ) (t : State) → Valid limit p t → Each (λ (x : List ℕ). Encodes x (what x)) (records_of p)

-- what code computes of a record's extent is what the record covers
abbrev pub CoversExactly : Type 0
CoversExactly = (r : Racking) (x : Record) (h : ℤ) (layer : ℕ) → Within (extent_of r x) h layer ↔ Covers r x h layer

-- the test for ties that the swaps of crate trace go by is the words of Exact.antt
abbrev pub TiedExactly : Type 0
TiedExactly = (r : Racking) (x y : List ℕ) → (tied knitting r x y ≡ true) ↔ Tied r x y

-- 'Equal records of one stretch are always tied'
abbrev pub EqualRecordsTied : Type 0
EqualRecordsTied = (r : Racking) (x : List ℕ) → tied knitting r x x ≡ true

-- 'A needle's history is the list of drop, xfer, tuck, knit and split records naming it', first or second; 'in, out and miss pass by the hook and don't enter'.
-- 02, W1: plated stitches enter as tuck and knit do
pub data Enters (n : Needle) (x : Record) : Type 0 where
  by_drop : x.kind ≡ DROP → x.at ≡ n → Enters n x
  xfer_from : x.kind ≡ XFER → x.at ≡ n → Enters n x
  xfer_to : x.kind ≡ XFER → x.to ≡ n → Enters n x
  by_tuck : x.kind ≡ TUCK → x.at ≡ n → Enters n x
  by_knit : x.kind ≡ KNIT → x.at ≡ n → Enters n x
  split_from : x.kind ≡ SPLIT → x.at ≡ n → Enters n x
  split_to : x.kind ≡ SPLIT → x.to ≡ n → Enters n x
  by_plated_tuck : x.kind ≡ PLATED_TUCK → x.at ≡ n → Enters n x
  by_plated_knit : x.kind ≡ PLATED_KNIT → x.at ≡ n → Enters n x

abbrev pub EntersExactly : Type 0
EntersExactly = (n : Needle) (bytes : List ℕ) (x : Record) → Encodes bytes x → (names (needle n) bytes ≡ true) ↔ Enters n x

-- 'a carrier's is the list of all records naming it': in, out, miss, tuck, knit and split name one, plated stitches two
pub data Carries (k : ℕ) (x : Record) : Type 0 where
  by_in : x.kind ≡ IN → x.carrier ≡ k → Carries k x
  by_out : x.kind ≡ OUT → x.carrier ≡ k → Carries k x
  by_miss : x.kind ≡ MISS → x.carrier ≡ k → Carries k x
  by_tuck : x.kind ≡ TUCK → x.carrier ≡ k → Carries k x
  by_knit : x.kind ≡ KNIT → x.carrier ≡ k → Carries k x
  by_split : x.kind ≡ SPLIT → x.carrier ≡ k → Carries k x
  plated_tuck_first : x.kind ≡ PLATED_TUCK → x.carrier ≡ k → Carries k x
  plated_tuck_second : x.kind ≡ PLATED_TUCK → x.second ≡ k → Carries k x
  plated_knit_first : x.kind ≡ PLATED_KNIT → x.carrier ≡ k → Carries k x
  plated_knit_second : x.kind ≡ PLATED_KNIT → x.second ≡ k → Carries k x

abbrev pub CarrierExactly : Type 0
CarrierExactly = (k : ℕ) (bytes : List ℕ) (x : Record) → Encodes bytes x → (names (carrier k) bytes ≡ true) ↔ Carries k x

-- a history is 'the list of' those records of the program, all of them and in their order
pub data Those (P : Record → Type 0) : List (List ℕ) → List (List ℕ) → Type 0 where
  none : Those P [] []
  enters : {bytes : List ℕ} {x : Record} {l h : List (List ℕ)} → Encodes bytes x → P x → Those P l h → Those P (bytes ∷ l) (bytes ∷ h)
  passes : {bytes : List ℕ} {x : Record} {l h : List (List ℕ)} → Encodes bytes x → (P x → ⊥) → Those P l h → Those P (bytes ∷ l) h

abbrev pub HistoriesExactly : Type 0
HistoriesExactly =
    (p : List ℕ) (l h : List (List ℕ)) → RecordsAre p l
    → ((n : Needle) → (history_of (needle n) p ≡ h) ↔ Those (Enters n) l h) × ((k : ℕ) → (history_of (carrier k) p ≡ h) ↔ Those (Carries k) l h)

-- a place lies within a program or a log, so that number and place go into one word
abbrev pub RewritePlaceIsSmall : Type 0
RewritePlaceIsSmall = (limit : ℕ) (program log output work : List ℕ) → (rewrite_of limit program log output work).answer.place < program_most

-- ---- what is kept
-- the same records between the same racks, and the same order of every two tied records, each known by its bytes and its count
pub record SameProgram (p q : List ℕ) : Type 0 where
  pub records : SameRecords knitting (records_of p) (records_of q)
  pub order : SameOrder knitting racking_zero (records_of p) (records_of q)

-- of a program p with final state t at a limit
pub record Keeps (limit : ℕ) (p : List ℕ) (t : State) (q : List ℕ) : Type 0 where
  -- valid there, with p's final state
  pub valid : Valid limit q t
  -- the same history of each needle and carrier
  pub needles : (n : Needle) → history_of (needle n) q ≡ history_of (needle n) p
  pub carriers : (k : ℕ) → history_of (carrier k) q ≡ history_of (carrier k) p
  pub same : SameProgram p q

-- the same order, said of positions: of two tied records, each known by its count, the one stands first in both programs or in neither
abbrev pub OrderByPositions : Type 0
OrderByPositions =
    (p q : List ℕ) → SameProgram p q → (x y : List ℕ) (i j a b a' b' : ℕ) → Nth same_bytes (records_of p) x i a → Nth same_bytes (records_of p) y j b
    → tied_in knitting racking_zero (records_of p) a b x y ≡ true → Nth same_bytes (records_of q) x i a' → Nth same_bytes (records_of q) y j b' → (a < b) ↔ (a' < b')

-- ---- which swaps are made
-- the call reads its log: neither 15, 1 nor 2, nor a refusal by the run, since the program is valid at the call's own limit
pub record ReadsLog (p : List ℕ) (c : Call) : Type 0 where
  pub lent : Lent p c.log c.output c.work
  pub final : State
  pub valid : Valid c.limit p final

-- a call's log comes to a swap of x and y: what stands before it in the log are swaps that are made, and x and y stand where it points
pub record ComesTo (p : List ℕ) (c : Call) (front : List ℕ) (u : List (List ℕ)) (x y : List ℕ) (v : List (List ℕ)) (rest : List ℕ) : Type 0 where
  pub reads : ReadsLog p c
  pub before : Swapped front (records_of p) (u ++ x ∷ y ∷ v)
  pub high : ℕ
  pub low : ℕ
  pub log : c.log ≡ front ++ swap_kind ∷ high ∷ low ∷ rest
  pub position : length u ≡ position_of high low

-- it is made if the two are not tied: the call goes on behind it with the two exchanged; else it gets 13, and nothing more is made.
-- The call answers 13 at this log record's place exactly if they are tied; 13 at a later place is another swap's.
pub record SwapExactly (p : List ℕ) (c : Call) (place : ℕ) (u : List (List ℕ)) (x y : List ℕ) (v : List (List ℕ)) (rest : List ℕ) : Type 0 where
  pub made : (TiedBehind u x y → ⊥)
      → call_of p c ≡ written c.limit p (replay rest (place + log_record_size) (u ++ y ∷ x ∷ v)) c.output c.work
  pub refused : TiedBehind u x y
      → call_of p c ≡ written c.limit p (ended 13 place (u ++ x ∷ y ∷ v)) c.output c.work
  pub thirteen : ((call_number p c ≡ 13) × ((call_of p c).answer.place ≡ place)) ↔ TiedBehind u x y

-- ---- the program that is handed on: 'the one at the front of the output that the last call wrote'; 'after a number that writes nothing it is the same program again'
abbrev pub FrontHandedOn : Type 0
FrontHandedOn =
    (p : List ℕ) (c : Call)
    → (ReadsLog p c → after p (c ∷ []) ≡ take (length p) (call_of p c).output) × ((ReadsLog p c → ⊥) → after p (c ∷ []) ≡ p)

-- each call is given the program as the last one left it, whatever that one answered: 'Numbers 12 to 14 end their log and not the list'
abbrev pub InTurn : Type 0
InTurn = (p : List ℕ) (c : Call) (cs : List Call) → (after p [] ≡ p) × (after p (c ∷ cs) ≡ after (after p (c ∷ [])) cs)

-- 'each call is lent any log, output and work area': every list of bytes, and of 16-bit offsets; at every limit that is a byte
abbrev pub AnyLoan : Type 0
AnyLoan =
    (limit : ℕ) (log output work : List ℕ) → limit < 256 → Below 256 log → Below 256 output → Below 65536 work
    → (c : Call) × (c.limit ≡ limit) × (c.log ≡ log) × (c.output ≡ output) × (c.work ≡ work)

-- ---- a call that does not read its log
-- 15 by its limit, 1 or 2 by what it is lent, or 11 by its run, which a smaller limit than the program's alone can give
pub data TurnedAs (limit : ℕ) (p : List ℕ) (c : Call) (n : ℕ) : Type 0 where
  bad_limit : (LimitInRange c.limit → ⊥) → n ≡ 15 → TurnedAs limit p c n
  too_long : LimitInRange c.limit → Long p c.log c.output c.work → n ≡ 1 → TurnedAs limit p c n
  no_bench : LimitInRange c.limit → (Long p c.log c.output c.work → ⊥) → Short p c.log c.output c.work → n ≡ 2 → TurnedAs limit p c n
  hook_full : LimitInRange c.limit → Lent p c.log c.output c.work → c.limit < limit → n ≡ 11 → TurnedAs limit p c n

-- and it writes nothing
pub record TurnedAway (limit : ℕ) (p : List ℕ) (c : Call) : Type 0 where
  pub number : TurnedAs limit p c (call_number p c)
  pub output : (call_of p c).output ≡ c.output
  pub work : (call_of p c).work ≡ c.work

-- ---- demand 3 for a program that is valid at a limit and every list of calls from it, each at a limit of its own
pub record EveryList (limit : ℕ) (p : List ℕ) (t : State) : Type 0 where
  -- after every call of every list
  pub keeps : (cs : List Call) → Keeps limit p t (after p cs)
  -- every swap that the next call's log comes to
  pub exactly : (cs : List Call) (c : Call) (front rest : List ℕ) (u v : List (List ℕ)) (x y : List ℕ)
      → ComesTo (after p cs) c front u x y v rest → SwapExactly (after p cs) c (length front) u x y v rest
  -- a log of swaps that are made is gone through, with 0
  pub done : (cs : List Call) (c : Call) (m : List (List ℕ)) → ReadsLog (after p cs) c → Swapped c.log (records_of (after p cs)) m
      → call_of (after p cs) c ≡ written c.limit (after p cs) (ended 0 0 m) c.output c.work
  -- a call that does not read its log
  pub otherwise : (cs : List Call) (c : Call) → (ReadsLog (after p cs) c → ⊥) → TurnedAway limit (after p cs) c
  -- the programs so reached are exactly these
  pub reached : (q : List ℕ) → ((cs : List Call) × (after p cs ≡ q)) ↔ SameProgram p q
  -- each by calls at the program's limit that answer 0 with logs of accepted swaps alone
  pub by_swaps : (q : List ℕ) → SameProgram p q → (cs : List Call) × (after p cs ≡ q) × AllAccepted limit p cs

abbrev pub Demand3 : Type 0
Demand3 = (limit : ℕ) (p : List ℕ) (t : State) → Valid limit p t → EveryList limit p t
