-- A call ends in one of the ways of specs/Exact, and in no other. Assumes nothing.
use borrow.Table.Steps.{cases}
use Prim.Native.Nat.{ℕ}
use mathlib.Core.Path.{◌≡◌, refl, sym, ap, subst, ◌∙◌}
use mathlib.Core.List.{List, [], ◌++◌}
use native.Mathlib.Omega.{arith}
use lib.Dec.{eqb}
use lib.ListN.{length, drop}
use borrow.Author.Tests.{eqb-true, eqb-false}
use Rattle.machine.specs.declared.State.{State}
use Rattle.run.specs.Relation.{Valid}
use Rattle.run.proofs.Refusals.{reason_other}
use Rattle.run.proofs.Demand.{final, complete}
use Rattle.run.proofs.Exact.{run_flag}
use Rattle.trace.specs.House.{InHouseOrder}
use Rattle.trace.proofs.Theorems.{house_exactly}
use Rattle.trace.proofs.Houses.{in_words}
use Rattle.rewrite.specs.Programs.{flat, records_of, starts_of, knitting}
use Rattle.rewrite.specs.Rewrite.{racking_zero, Rewritten, rewrite_of}
use Rattle.rewrite.specs.Exact.{Lent, Rewrites}
use Rattle.rewrite.proofs.Lawful.{lawful, tied_exactly}
use Rattle.rewrite.proofs.Exact.{valid_are, are_records, rewrite_exactly}
use Rattle.rewrite.proofs.Rewriting.{all_lent}
use Rattle.house.specs.Order.{comes_first, house_records, order_of}
use Rattle.house.specs.Exact.{InHouse, Orders, OrderExactly}
use Rattle.house.specs.Claims.{HouseRecordsExactly}
use Rattle.house.proofs.Comparison.{bytes_first_exactly, comparison_strict}
use Rattle.house.proofs.Ordering.{as_plain, as_ordered, plain_done}

-- ---- the house order in words
to_words : {l m : List (List ℕ)} → InHouseOrder knitting comes_first racking_zero l m → InHouse l m
to_words = in_words knitting.after (λ r x y. (tied_exactly r x y).0) (λ r x y. (tied_exactly r x y).1) (λ r x y. (bytes_first_exactly x y).0)

by_tests : {l m : List (List ℕ)} → InHouse l m → InHouseOrder knitting comes_first racking_zero l m
by_tests = in_words knitting.after (λ r x y. (tied_exactly r x y).1) (λ r x y. (tied_exactly r x y).0) (λ r x y. (bytes_first_exactly x y).1)

pub house_records_exactly : HouseRecordsExactly
house_records_exactly p m =
    let e = house_exactly knitting comes_first lawful comparison_strict racking_zero (records_of p) m in
    ((λ f. to_words (e.0 f)), (λ h. e.1 (by_tests h)))

-- ---- a rewriter's call that answers 0
pub record Accepted (limit : ℕ) (p output work : List ℕ) : Type 0 where
  pub lent : Lent p [] output work
  pub final_state : State
  pub valid : Valid limit p final_state

module _ (limit : ℕ) (p output work : List ℕ) where
  accepted : {w : Rewritten} → Rewrites limit p [] output work w → w.answer.number ≡ 0 → Accepted limit p output work
  accepted (Rewrites.bad_limit b) e = absurd (omega (arith, e))
  accepted (Rewrites.too_long b h) e = absurd (omega (arith, e))
  accepted (Rewrites.no_bench b h k) e = absurd (omega (arith, e))
  accepted (Rewrites.not_valid b l f k) e = absurd (reason_other f.first.reason 0 refl e)
  accepted (Rewrites.gone_through {t = t} f) e = record { lent = f.lent; final_state = t; valid = f.valid }
  accepted (Rewrites.torn f k) e = absurd (omega (arith, e))
  accepted (Rewrites.no_pair f k) e = absurd (omega (arith, e))
  accepted (Rewrites.pair_tied f k m) e = absurd (omega (arith, e))

  pub plain_accepted : (rewrite_of limit p [] output work).answer.number ≡ 0 → Accepted limit p output work
  plain_accepted e = accepted ((rewrite_exactly limit p [] output work _).0 refl) e

  pub accepted_plain : Accepted limit p output work → (rewrite_of limit p [] output work).answer.number ≡ 0
  accepted_plain a = plain_done limit p output work (all_lent _ _ _ _ _ a.valid.limit_in a.lent) (final limit p a.final_state a.valid).number

  -- ---- the call
  abbrev Ends : Rewritten → Type 0
  Ends w = Orders limit p output work w

  own : Ends (order_of limit p output work)
  own =
      cases (eqb (rewrite_of limit p [] output work).answer.number 0)
      (λ t.
      let z = eqb-true (rewrite_of limit p [] output work).answer.number 0 t in
      let a = plain_accepted z in let v = a.valid in
      subst Ends (sym (as_ordered limit p output work z))
      (Orders.in_order a.lent (subst (Valid limit p) (sym (final limit p a.final_state v).state) v) (complete limit p) (valid_are v) ((house_records_exactly p (house_records p)).0 refl)))
      (λ t.
      let d = eqb-false (rewrite_of limit p [] output work).answer.number 0 t in
      subst Ends (sym (as_plain limit p output work d)) (Orders.as_the_rewriter ((rewrite_exactly limit p [] output work _).0 refl) d))

  one : {w : Rewritten} → Ends w → order_of limit p output work ≡ w
  one (Orders.as_the_rewriter h d) =
      let e = (rewrite_exactly limit p [] output work _).1 h in
      as_plain limit p output work (λ z. d (sym (ap (λ (w : Rewritten). w.answer.number) e) ∙ z)) ∙ e
  one (Orders.in_order {t = t} {c = c} {l = l} {m = m} lent v h are house) =
      let d = final limit p t v in
      let f = run_flag limit p c d.state h in
      let e : house_records p ≡ m = (house_records_exactly p m).1 (subst (λ (k : List (List ℕ)). InHouse k m) (sym (are_records are)) house) in
      as_ordered limit p output work (accepted_plain (record { lent = lent; final_state = t; valid = v }))
      ∙ (λ i. record {
        answer = record { number = 0; place = 0; complete = f i; state = d.state i };
        output = flat (e i) ++ drop (length p) output;
        work = starts_of 0 (e i) ++ drop (length (e i)) work;
      })

pub order_exactly : OrderExactly
order_exactly limit p output work w = ((λ e. subst (Orders limit p output work) e (own limit p output work)), one limit p output work)
