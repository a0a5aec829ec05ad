-- What is claimed of the house order of programs (02, W3). The code's `order` equals order_of by its contract, its `outcome` in all but state and complete.
use Rattle.std.specs.Prelude.{ℕ, ◌<◌, ◌≡◌, true, List, [], ◌↔◌, ◌⊎◌, length, take}
use Rattle.machine.specs.Limits.{program_most}
use Rattle.machine.specs.declared.State.{State}
use Rattle.run.specs.Relation.{Valid}
use Rattle.record.specs.Names.{racking_after}
use Rattle.trace.specs.House.{NoEarlier, StrictOrder}
use Rattle.rewrite.specs.Programs.{records_of, what}
use Rattle.rewrite.specs.Rewrite.{racking_zero, rewrite_of}
use Rattle.rewrite.specs.Calls.{Call, after, AllAccepted}
use Rattle.rewrite.specs.Exact.{Lent}
use Rattle.rewrite.specs.Claims.{Keeps}
use Rattle.house.specs.Order.{bytes_first, comes_first, house_records, house_of, order_of}
use Rattle.house.specs.Exact.{BytesFirst, InHouse}

-- ---- the comparison
-- the test is the words, and at each racking a strict total order on records that are not equal
abbrev pub BytesFirstExactly : Type 0
BytesFirstExactly = (x y : List ℕ) → (bytes_first x y ≡ true) ↔ BytesFirst x y

abbrev pub ComparisonStrict : Type 0
ComparisonStrict = StrictOrder comes_first

-- ---- the house order
-- it is what the words say, and there is no second
abbrev pub HouseRecordsExactly : Type 0
HouseRecordsExactly = (p : List ℕ) (m : List (List ℕ)) → (house_records p ≡ m) ↔ InHouse (records_of p) m

-- ---- a call that is made: the program stands at the front of its output in house order
-- the call on a program answers 0 and leaves the program q
pub record Ordered (limit : ℕ) (p output work q : List ℕ) : Type 0 where
  pub done : (order_of limit p output work).answer.number ≡ 0
  pub front : take (length p) (order_of limit p output work).output ≡ q

-- it answers 0 exactly if the program is valid at its limit and what is lent will do, and then leaves the house order
abbrev pub OrderedExactly : Type 0
OrderedExactly = (limit : ℕ) (p output work q : List ℕ) → Ordered limit p output work q ↔ (Lent p [] output work × ((t : State) × Valid limit p t) × (house_of p ≡ q))

-- 'Two valid programs must get equal bytes exactly if accepted swaps lead from one to the other', each ordered at a limit of its own; the swaps are of calls at the first one's
abbrev pub EqualExactly : Type 0
EqualExactly =
    (i j : ℕ) (p q o w o' w' u v : List ℕ) → Ordered i p o w u → Ordered j q o' w' v → (u ≡ v) ↔ ((cs : List Call) × (after p cs ≡ q) × AllAccepted i p cs)

-- of all programs that calls reach it is the one that comes first, record by record
abbrev pub OrderFirst : Type 0
OrderFirst =
    (i : ℕ) (p o w q : List ℕ) → Ordered i p o w q → (cs : List Call)
    → NoEarlier (λ r x. racking_after r (what x)) (λ r x y. BytesFirst x y) racking_zero (records_of q) (records_of (after p cs))

-- 'ordering twice must give what ordering once gives': the ordered program, lent enough, is ordered again at every limit where the program is valid, and stays
abbrev pub OrderTwice : Type 0
OrderTwice =
    (i j : ℕ) (p o w o' w' q : List ℕ) (t : State) → Ordered i p o w q → Valid j p t → Lent q [] o' w' → Ordered j q o' w' q

-- the ordered program keeps all that demand 3 keeps, at every limit where the program is valid, and is one of the programs that accepted swaps reach
abbrev pub OrderKeeps : Type 0
OrderKeeps =
    (i j : ℕ) (p o w q : List ℕ) (t : State) → Ordered i p o w q → Valid j p t → Keeps j p t q × ((cs : List Call) × (after p cs ≡ q) × AllAccepted j p cs)

-- ---- what a call never does
-- it answers 0 or refuses as the rewriter does that has no log; 12 to 14 are never answered
abbrev pub OrderRefusals : Type 0
OrderRefusals =
    (limit : ℕ) (p output work : List ℕ) → let w = order_of limit p output work in
    ((w.answer.number ≡ 0) ⊎ (w ≡ rewrite_of limit p [] output work)) × ((w.answer.number ≡ 12 → ⊥) × (w.answer.number ≡ 13 → ⊥) × (w.answer.number ≡ 14 → ⊥))

-- a place lies within a program, so that number and place go into one word
abbrev pub OrderPlaceIsSmall : Type 0
OrderPlaceIsSmall = (limit : ℕ) (p output work : List ℕ) → (order_of limit p output work).answer.place < program_most
