-- The word of a C entry: number and place are read back from it, and it is that of an answer in 01's words. Assumes nothing.
use Prim.Native.Nat.{ℕ, ◌+◌, ◌*◌, ◌≤◌, ◌<◌}
use mathlib.Core.Path.{◌≡◌, refl, ap, subst, ◌∙◌}
use mathlib.Core.List.{List, ◌∷◌}
use mathlib.Core.Logic.{◌↔◌}
use native.Mathlib.Omega.{arith}
use Rattle.machine.specs.declared.State.{State}
use Rattle.machine.specs.Machine.{Each}
use Rattle.run.specs.Reason.{refusals, First}
use Rattle.run.specs.Claims.{Answers}
use Rattle.run.specs.declared.Answer.{Answer}
use Rattle.run.specs.Run.{run_of}
use Rattle.run.proofs.Demand.{place_bound}
use Rattle.run.proofs.Exact.{run_exactly}
use Rattle.rewrite.specs.Rewrite.{Rewritten, rewrite_of}
use Rattle.rewrite.proofs.Demand.{place_bound as rewrite-bound}
use Rattle.rewrite.specs.Exact.{Rewrites}
use Rattle.rewrite.proofs.Records.{each_part}
use Rattle.rewrite.proofs.Exact.{rewrite_exactly}
use Rattle.house.specs.Order.{order_of}
use Rattle.house.specs.Exact.{Orders}
use Rattle.house.proofs.Theorems.{order_place}
use Rattle.house.proofs.Exact.{order_exactly}
use Rattle.banthewig.specs.Entries.{packed, Reads, ReadBack, RewriteReadBack, OrderReadBack, RunEntry, Leaves, RewriteEntry, OrderEntry}

-- ---- every number is one of a byte
first_small : {n : ℕ} {s : State} {l : List ℕ} → First n s l → n ≤ 17
first_small {n} f = (each_part Small f.earlier (n ∷ f.later) (subst (Each Small) f.order all)).1.0
  where
    Small : ℕ → Type 0
    Small m = m ≤ 17

    all : Each Small refusals
    all = (omega arith, (omega arith, (omega arith, (omega arith, (omega arith, (omega arith, (omega arith, (omega arith, (omega arith, (omega arith, (omega arith, tt)))))))))))

run_small : {limit : ℕ} {p : List ℕ} {a : Answer} → Answers limit p a → a.number ≤ 17
run_small (Answers.bad_limit d) = omega arith
run_small (Answers.too_long a b) = omega arith
run_small (Answers.done v c) = omega arith
run_small (Answers.refused a b f c) = first_small f.first

rewrite_small : {limit : ℕ} {p log output work : List ℕ} {w : Rewritten} → Rewrites limit p log output work w → w.answer.number ≤ 17
rewrite_small (Rewrites.bad_limit d) = omega arith
rewrite_small (Rewrites.too_long a b) = omega arith
rewrite_small (Rewrites.no_bench a b c) = omega arith
rewrite_small (Rewrites.not_valid a b f c) = first_small f.first
rewrite_small (Rewrites.gone_through f) = omega arith
rewrite_small (Rewrites.torn f t) = omega arith
rewrite_small (Rewrites.no_pair f h) = omega arith
rewrite_small (Rewrites.pair_tied f n t) = omega arith

order_small : {limit : ℕ} {p output work : List ℕ} {w : Rewritten} → Orders limit p output work w → w.answer.number ≤ 17
order_small (Orders.as_the_rewriter r d) = rewrite_small r
order_small (Orders.in_order a v c l h) = omega arith

-- ---- and is read back
word_read : (a : Answer) → a.number ≤ 17 → a.place < 65536 → Reads a
unfolding packed
word_read a k h = record { number = omega arith; place = omega arith; above = omega arith }

pub read_back : ReadBack
read_back limit p = word_read (run_of limit p) (run_small ((run_exactly limit p (run_of limit p)).0 refl)) (omega (arith, place_bound limit p))

pub rewrite_read_back : RewriteReadBack
rewrite_read_back limit p log output work =
    let w = rewrite_of limit p log output work in
    word_read w.answer (rewrite_small ((rewrite_exactly limit p log output work w).0 refl)) (omega (arith, rewrite-bound limit p log output work))

pub order_read_back : OrderReadBack
order_read_back limit p output work =
    let w = order_of limit p output work in
    word_read w.answer (order_small ((order_exactly limit p output work w).0 refl)) (omega (arith, order_place limit p output work))

-- the word of an answer, and the answer in 01's words
pub run_entry : RunEntry
unfolding packed
run_entry limit p n = (
  (λ e. (run_of limit p, (run_exactly limit p (run_of limit p)).0 refl, e)),
  (λ (a, h, e). ap packed ((run_exactly limit p a).1 h) ∙ e),
)

-- what a call leaves is what a relation says that is exact for it
leaves : (P : Rewritten → Type 0) (call : Rewritten) → ((w : Rewritten) → (call ≡ w) ↔ P w) → (n : ℕ) (bytes starts : List ℕ)
    → Leaves call n bytes starts ↔ ((a : Answer) × P (record { answer = a; output = bytes; work = starts }) × (a.number * 65536 + a.place ≡ n))
unfolding packed
leaves P call exactly n bytes starts = (
  (λ l. (call.answer, (exactly _).0 (λ i. record { answer = call.answer; output = l.bytes_are i; work = l.starts_are i }), l.word)),
  (λ (a, h, e). let f = (exactly _).1 h in
      record { word = ap (λ (w : Rewritten). packed w.answer) f ∙ e; bytes_are = ap (λ (w : Rewritten). w.output) f; starts_are = ap (λ (w : Rewritten). w.work) f }),
)

pub rewrite_entry : RewriteEntry
rewrite_entry limit p log output work n bytes starts = leaves (Rewrites limit p log output work) (rewrite_of limit p log output work) (rewrite_exactly limit p log output work) n bytes starts

pub order_entry : OrderEntry
order_entry limit p output work n bytes starts = leaves (Orders limit p output work) (order_of limit p output work) (order_exactly limit p output work) n bytes starts
