-- The call in one statement, in the words of 02, W3: each way in which it ends, with number, place, state, complete, every byte of output and every entry
-- of work.
use Rattle.std.specs.Prelude.{ℕ, ◌<◌, ◌≡◌, Bool, List, [], ◌∷◌, ◌↔◌}
use Rattle.machine.specs.declared.State.{State}
use Rattle.record.specs.Names.{racking_after}
use Rattle.run.specs.Relation.{Valid}
use Rattle.run.specs.Claims.{Complete}
use Rattle.trace.specs.House.{HouseOrder}
use Rattle.rewrite.specs.Programs.{what}
use Rattle.rewrite.specs.Rewrite.{racking_zero, Rewritten}
use Rattle.rewrite.specs.Exact.{Lent, RecordsAre, Tied, leaving, Rewrites}
use Rattle.house.specs.Order.{order_of}

-- bytes come first: 'unsigned, byte by byte, a shorter prefix first'
pub data BytesFirst : List ℕ → List ℕ → Type 0 where
  shorter : {b : ℕ} {y : List ℕ} → BytesFirst [] (b ∷ y)
  smaller : {a b : ℕ} {x y : List ℕ} → a < b → BytesFirst (a ∷ x) (b ∷ y)
  next_byte : {a : ℕ} {x y : List ℕ} → BytesFirst x y → BytesFirst (a ∷ x) (a ∷ y)

-- the house order m of records l, from racking 0 on: 'between racks, always take next the record whose bytes come first among those not tied to an earlier
-- remaining one'
abbrev pub InHouse : List (List ℕ) → List (List ℕ) → Type 0
InHouse l m = HouseOrder (λ r x. racking_after r (what x)) Tied (λ r x y. BytesFirst x y) racking_zero l m

module _ (limit : ℕ) (program output work : List ℕ) where
  -- a call, by the ways in which it ends
  pub data Orders : Rewritten → Type 0 where
    -- 'The answer, the refusals and what output and work then hold are the rewriter's': every refusal of one with no log is this call's
    as_the_rewriter : {w : Rewritten} → Rewrites limit program [] output work w → (w.answer.number ≡ 0 → ⊥) → Orders w
    -- 'for a valid program, its house order'; 'with this order in place of swaps'
    in_order : {t : State} {c : Bool} {l m : List (List ℕ)} → Lent program [] output work → Valid limit program t → Complete c t → RecordsAre program l → InHouse l m
        → Orders (leaving program [] output work 0 0 t c m)

-- a call gives and leaves this, and nothing else
abbrev pub OrderExactly : Type 0
OrderExactly = (limit : ℕ) (program output work : List ℕ) (w : Rewritten) → (order_of limit program output work ≡ w) ↔ Orders limit program output work w
