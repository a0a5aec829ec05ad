-- The theorems over programs, each of the type that specs/Claims names. Assumes nothing.
use borrow.Table.Steps.{cases}
use Prim.Native.Nat.{ℕ}
use mathlib.Core.Path.{◌≡◌, refl, sym, ap, subst, ◌∙◌}
use mathlib.Core.Bool.{true}
use mathlib.Core.List.{List, [], ◌∷◌, ◌++◌}
use mathlib.Core.Logic.{inl, inr}
use native.Mathlib.Omega.{arith}
use lib.Dec.{eqb}
use lib.ListN.{length, take, drop, length-append}
use lib.Seq.{take_at}
use borrow.Author.Tests.{eqb-true, eqb-false}
use Rattle.machine.specs.declared.Racking.{Racking}
use Rattle.machine.specs.declared.State.{State}
use Rattle.record.specs.Names.{racking_after}
use Rattle.run.specs.Relation.{Valid}
use Rattle.run.proofs.Refusals.{reason_other}
use Rattle.trace.proofs.Theorems.{reaches_exactly, house_reached, one_house_exactly, house_first, house_twice}
use Rattle.trace.specs.Swaps.{Swaps}
use Rattle.trace.specs.House.{NoEarlier, house_order}
use Rattle.rewrite.specs.Programs.{flat, records_of, what, knitting}
use Rattle.rewrite.specs.Rewrite.{racking_zero, Rewritten, rewrite_of}
use Rattle.rewrite.specs.Calls.{Call, after, AllAccepted}
use Rattle.rewrite.specs.Exact.{Torn, Rewrites}
use Rattle.rewrite.specs.Claims.{SameProgram, Keeps}
use Rattle.rewrite.proofs.Records.{flat_records, steps_records}
use Rattle.rewrite.proofs.Replays.{swaps_moved}
use Rattle.rewrite.proofs.Lawful.{lawful}
use Rattle.rewrite.proofs.Demand.{place_bound, demand_3}
use Rattle.rewrite.proofs.Exact.{rewrite_exactly}
use Rattle.house.specs.Order.{comes_first, house_records, house_of, order_of}
use Rattle.house.specs.Exact.{BytesFirst}
use Rattle.house.specs.Claims.{OrderedExactly, EqualExactly, OrderFirst, OrderTwice, OrderKeeps, OrderRefusals, OrderPlaceIsSmall}
use Rattle.house.proofs.Comparison.{bytes_first_exactly, comparison_strict}
use Rattle.house.proofs.Ordering.{house_bytes, as_plain, as_ordered}
use Rattle.house.proofs.Exact.{plain_accepted, accepted_plain}

-- ---- what a call that answers 0 leaves
module _ (limit : ℕ) (p output work : List ℕ) where
  abbrev plain : Rewritten
  plain = rewrite_of limit p [] output work

  -- it answers 0 as the rewriter does
  zero_plain : (order_of limit p output work).answer.number ≡ 0 → plain.answer.number ≡ 0
  zero_plain e =
      cases (eqb plain.answer.number 0) (eqb-true plain.answer.number 0)
      (λ t. let d = eqb-false plain.answer.number 0 t in absurd (d (sym (ap (λ (w : Rewritten). w.answer.number) (as_plain limit p output work d)) ∙ e)))

  front_is : plain.answer.number ≡ 0 → take (length p) (order_of limit p output work).output ≡ house_of p
  front_is z = ap (λ (w : Rewritten). take (length p) w.output) (as_ordered limit p output work z) ∙ take_at (house_of p) (drop (length p) output) (length p) (house_bytes p)

pub ordered_exactly : OrderedExactly
ordered_exactly limit p output work q = (
  (λ o. let z = zero_plain limit p output work o.done in let a = plain_accepted limit p output work z in
      (a.lent, (a.final_state, a.valid), sym (front_is limit p output work z) ∙ o.front)),
  (λ (l, (t, v), e). let z = accepted_plain limit p output work (record { lent = l; final_state = t; valid = v }) in
      record { done = ap (λ (w : Rewritten). w.answer.number) (as_ordered limit p output work z); front = front_is limit p output work z ∙ e }),
)

-- ---- the records of a program in house order
module _ {limit : ℕ} {p : List ℕ} {t : State} (v : Valid limit p t) where
  reached : (is : List ℕ) × Swaps knitting racking_zero is (records_of p) (house_records p)
  reached = house_reached knitting comes_first lawful comparison_strict racking_zero (records_of p)

  house_is : records_of (house_of p) ≡ house_records p
  house_is = flat_records (house_records p) ((swaps_moved knitting reached.1).each (steps_records v.steps))

  same_program : SameProgram p (house_of p)
  same_program =
      let (r, o) = (reaches_exactly knitting lawful racking_zero (records_of p) (records_of (house_of p))).0 (subst (λ (l : List (List ℕ)). (is : List ℕ) × Swaps knitting racking_zero is (records_of p) l) (sym house_is) reached) in
      record { records = r; order = o }

  keeps : Keeps limit p t (house_of p) × ((cs : List Call) × (after p cs ≡ house_of p) × AllAccepted limit p cs)
  keeps =
      let d = demand_3 limit p t v in
      let (cs, e, a) = d.by_swaps (house_of p) same_program in
      (subst (Keeps limit p t) e (d.keeps cs), (cs, e, a))

-- ---- the theorems
pub equal_exactly : EqualExactly
equal_exactly i j p q o w o' w' u v a b =
    let (la, (t, va), ea) = (ordered_exactly i p o w u).0 a in
    let (lb, (s, vb), eb) = (ordered_exactly j q o' w' v).0 b in
    let d = demand_3 i p t va in
    let one = one_house_exactly knitting comes_first lawful comparison_strict racking_zero (records_of p) (records_of q) in
    let same = reaches_exactly knitting lawful racking_zero (records_of p) (records_of q) in (
      (λ e.
          let f : house_records p ≡ house_records q = sym (house_is va) ∙ ap records_of (ea ∙ e ∙ sym eb) ∙ house_is vb in
          let (r, k) = same.0 (one.0 f) in
          d.by_swaps q (record { records = r; order = k })),
      (λ (cs, e, c).
          let k = (d.reached q).0 (cs, e) in
          sym ea ∙ ap flat (one.1 (same.1 (k.records, k.order))) ∙ eb),
    )

-- a comparison in words for one by the test
first_words : {r : Racking} {n m : List (List ℕ)} → NoEarlier knitting.after (λ r x y. comes_first r x y ≡ true) r n m → NoEarlier (λ r x. racking_after r (what x)) (λ r x y. BytesFirst x y) r n m
first_words NoEarlier.both_end = NoEarlier.both_end
first_words (NoEarlier.differ {x = x} {y = y} e) = NoEarlier.differ ((bytes_first_exactly x y).0 e)
first_words (NoEarlier.agree h) = NoEarlier.agree (first_words h)

pub order_first : OrderFirst
order_first i p o w q a cs =
    let (l, (t, v), e) = (ordered_exactly i p o w q).0 a in
    let k = ((demand_3 i p t v).keeps cs).same in
    let (is, s) = (reaches_exactly knitting lawful racking_zero (records_of p) (records_of (after p cs))).1 (k.records, k.order) in
    subst (λ (m : List (List ℕ)). NoEarlier (λ r x. racking_after r (what x)) (λ r x y. BytesFirst x y) racking_zero m (records_of (after p cs))) (sym (house_is v) ∙ ap records_of e)
    (first_words (house_first knitting comes_first lawful comparison_strict racking_zero is (records_of p) (records_of (after p cs)) s))

pub order_twice : OrderTwice
order_twice i j p o w o' w' q t a v l =
    let (m, s, e) = (ordered_exactly i p o w q).0 a in
    let again : house_of q ≡ q =
    ap house_of (sym e) ∙ ap (λ (k : List (List ℕ)). flat (house_order knitting comes_first racking_zero k)) (house_is v)
    ∙ ap flat (house_twice knitting comes_first lawful comparison_strict racking_zero (records_of p)) ∙ e in
    (ordered_exactly j q o' w' q).1 (l, (t, subst (λ (z : List ℕ). Valid j z t) e (keeps v).0.valid), again)

pub order_keeps : OrderKeeps
order_keeps i j p o w q t a v =
    let (l, s, e) = (ordered_exactly i p o w q).0 a in
    subst (λ (z : List ℕ). Keeps j p t z × ((cs : List Call) × (after p cs ≡ z) × AllAccepted j p cs)) e (keeps v)

-- no log, so none of its numbers
no_log : {limit : ℕ} {p output work : List ℕ} {w : Rewritten} → Rewrites limit p [] output work w → (w.answer.number ≡ 12 → ⊥) × (w.answer.number ≡ 13 → ⊥) × (w.answer.number ≡ 14 → ⊥)
no_log (Rewrites.bad_limit b) = ((λ e. omega (arith, e)), (λ e. omega (arith, e)), (λ e. omega (arith, e)))
no_log (Rewrites.too_long b h) = ((λ e. omega (arith, e)), (λ e. omega (arith, e)), (λ e. omega (arith, e)))
no_log (Rewrites.no_bench b h k) = ((λ e. omega (arith, e)), (λ e. omega (arith, e)), (λ e. omega (arith, e)))
no_log (Rewrites.not_valid b l f k) = (reason_other f.first.reason 12 refl, reason_other f.first.reason 13 refl, reason_other f.first.reason 14 refl)
no_log (Rewrites.gone_through f) = ((λ e. omega (arith, e)), (λ e. omega (arith, e)), (λ e. omega (arith, e)))
no_log (Rewrites.torn {front = front} {rest = rest} f (Torn.other_kind {k} {more} e d)) = absurd (some_log front rest k more f.log_is e)
  where
    some_log : (u v : List ℕ) (k : ℕ) (m : List ℕ) → [] ≡ u ++ v → v ≡ k ∷ m → ⊥
    some_log u v k m e f = omega (arith, ap length e, ap length f, length-append u v)
no_log (Rewrites.torn {front = front} {rest = rest} f (Torn.few_bytes h k)) = absurd (omega (arith, ap length f.log_is, length-append front rest, h))
no_log (Rewrites.no_pair {front = front} {rest = rest} {high = high} {low = low} f h) = absurd (omega (arith, ap length f.log_is, length-append front (64 ∷ high ∷ low ∷ rest)))
no_log (Rewrites.pair_tied {front = front} {rest = rest} {high = high} {low = low} f h k) = absurd (omega (arith, ap length f.log_is, length-append front (64 ∷ high ∷ low ∷ rest)))

pub order_refusals : OrderRefusals
order_refusals limit p output work =
    let w = rewrite_of limit p [] output work in
    cases (eqb w.answer.number 0)
    (λ t.
    let e = ap (λ (v : Rewritten). v.answer.number) (as_ordered limit p output work (eqb-true w.answer.number 0 t)) in
    (inl e, ((λ q. omega (arith, e, q)), (λ q. omega (arith, e, q)), (λ q. omega (arith, e, q)))))
    (λ t.
    let f = as_plain limit p output work (eqb-false w.answer.number 0 t) in
    let g = ap (λ (v : Rewritten). v.answer.number) f in
    let (a, b, c) = no_log ((rewrite_exactly limit p [] output work w).0 refl) in
    (inr f, ((λ q. a (sym g ∙ q)), (λ q. b (sym g ∙ q)), (λ q. c (sym g ∙ q)))))

pub order_place : OrderPlaceIsSmall
order_place limit p output work =
    let w = rewrite_of limit p [] output work in
    cases (eqb w.answer.number 0)
    (λ t. let e = ap (λ (v : Rewritten). v.answer.place) (as_ordered limit p output work (eqb-true w.answer.number 0 t)) in omega (arith, e))
    (λ t. let e = ap (λ (v : Rewritten). v.answer.place) (as_plain limit p output work (eqb-false w.answer.number 0 t)) in omega (arith, e, place_bound limit p [] output work))
