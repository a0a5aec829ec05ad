-- Demand 3: which swaps are made, what every list of calls keeps, and what is reached. Assumes nothing.
use borrow.Table.Steps.{cases}
use Prim.Native.Nat.{ℕ, ◌+◌, ◌*◌, ◌≤◌}
use mathlib.Core.Path.{◌≡◌, refl, sym, ap, subst, ◌∙◌}
use mathlib.Core.Bool.{Bool, true, false}
use mathlib.Core.List.{List, [], ◌∷◌, ◌++◌, append-nil}
use mathlib.Core.Logic.{◌↔◌, ⊎_elim}
use native.Mathlib.Omega.{arith}
use lib.ListN.{length}
use Rattle.machine.specs.declared.State.{State}
use Rattle.machine.specs.declared.Racking.{Racking}
use Rattle.machine.specs.Machine.{empty_state}
use Rattle.run.specs.Relation.{Valid}
use Rattle.record.proofs.Shapes.{is}
use Rattle.run.specs.declared.Answer.{Answer}
use Rattle.run.specs.Claims.{Answers}
use Rattle.run.proofs.Refusals.{reason_other}
use Rattle.run.proofs.Demand.{final, accepts}
use Rattle.run.proofs.Exact.{run_exactly}
use Rattle.run.proofs.Limits.{at_another_limit}
use Rattle.trace.specs.Records.{tied}
use Rattle.trace.specs.Swaps.{made, Swaps, no_swap, swap_first}
use Rattle.trace.specs.Order.{in_force, SameOrder}
use Rattle.trace.specs.Machine.{Kept}
use Rattle.trace.proofs.Theorems.{made_iff_untied, refused_iff_tied, order_of_positions, reaches_exactly, swaps_keep}
use Rattle.trace.proofs.Swaps.{swaps_append, equals_are_tied}
use Rattle.rewrite.specs.Programs.{flat, records_of, knitting, needle, carrier, names}
use Rattle.rewrite.specs.Rewrite.{racking_zero, swap_of, Replay, ended, replay_from, replay, Rewritten, written}
use Rattle.rewrite.specs.Calls.{Call, call_of, call_number, handed_on, after, AllAccepted}
use Rattle.rewrite.specs.Claims.{RecordsEndToEnd, RecordsEncode, TiedExactly, EqualRecordsTied, RewritePlaceIsSmall, SameProgram, Keeps, OrderByPositions, ReadsLog, ComesTo, SwapExactly, TurnedAs, TurnedAway, FrontHandedOn, InTurn, AnyLoan, Demand3}
use Rattle.rewrite.specs.Exact.{TiedBehind, Swapped, Followed, Rewrites}
use Rattle.rewrite.proofs.Machine.{machine, Good}
use Rattle.rewrite.proofs.Lawful.{lawful, orderly, tied_exactly}
use Rattle.rewrite.proofs.Records.{each_map, records_flat, record_form, steps_records}
use Rattle.rewrite.proofs.Joined.{valid_ends, ends_valid}
use Rattle.rewrite.proofs.Replays.{swaps_moved, replay_made, replay_tied, replay_place}
use Rattle.rewrite.proofs.Rewriting.{all_lent, enough, place_small}
use Rattle.rewrite.proofs.Exact.{swapped_replay, rewrite_exactly}
use Rattle.rewrite.proofs.Handed.{lent, ran, call_written, moved_length, kept_program, refused_program, front_written, handed_on_lem, call_of_swap}

-- ---- a call that reads its log: neither its lengths nor its run refuse it
lent_zero : {p : List ℕ} {c : Call} → ReadsLog p c → lent p c ≡ 0
lent_zero h = all_lent _ _ _ _ _ h.valid.limit_in h.lent

ran_zero : {p : List ℕ} {c : Call} → ReadsLog p c → ran p c ≡ 0
ran_zero {p} {c} h = (final c.limit p h.final h.valid).number

reads_written : {p : List ℕ} (c : Call) → ReadsLog p c → call_of p c ≡ written c.limit p (replay c.log 0 (records_of p)) c.output c.work
reads_written {p} c h = call_written p c (lent_zero h) (ran_zero h)

-- ---- a swap that a log comes to
module _ {p : List ℕ} (c : Call) (front rest : List ℕ) (u v : List (List ℕ)) (x y : List ℕ) (h : ComesTo p c front u x y v rest) where
  -- the log is replayed up to it
  up_to : call_of p c ≡ written c.limit p (replay (64 ∷ h.high ∷ h.low ∷ rest) (length front) (u ++ x ∷ y ∷ v)) c.output c.work
  up_to =
      let swap : List ℕ = 64 ∷ h.high ∷ h.low ∷ rest in
      let e : 0 + length front ≡ length front = omega arith in
      reads_written c h.reads
      ∙ ap (λ (r : Replay). written c.limit p r c.output c.work)
      (ap (λ (log : List ℕ). replay log 0 (records_of p)) h.log
      ∙ swapped_replay h.before swap 0
      ∙ ap (λ (n : ℕ). replay swap n (u ++ x ∷ y ∷ v)) e)

  at_pair : swap_of (h.high * 256 + h.low) (u ++ x ∷ y ∷ v) ≡ swap_of (length u) (u ++ x ∷ y ∷ v)
  at_pair = ap (λ (i : ℕ). swap_of i (u ++ x ∷ y ∷ v)) (sym h.position)

  abbrev are_tied : Bool
  are_tied = tied knitting (in_force knitting racking_zero u) x y

  swap_made : are_tied ≡ false → call_of p c ≡ written c.limit p (replay rest (length front + 3) (u ++ y ∷ x ∷ v)) c.output c.work
  swap_made e =
      up_to ∙ ap (λ (r : Replay). written c.limit p r c.output c.work)
      (replay_made h.high h.low rest (length front) (u ++ x ∷ y ∷ v) (u ++ y ∷ x ∷ v) (at_pair ∙ (made_iff_untied knitting racking_zero u x y v).1 e))

  swap_refused : are_tied ≡ true → call_of p c ≡ written c.limit p (ended 13 (length front) (u ++ x ∷ y ∷ v)) c.output c.work
  swap_refused e =
      up_to ∙ ap (λ (r : Replay). written c.limit p r c.output c.work)
      (replay_tied h.high h.low rest (length front) (u ++ x ∷ y ∷ v) (at_pair ∙ (refused_iff_tied knitting racking_zero u x y v).1 e))

  -- a swap that is made leaves no 13 at its place
  later_place : are_tied ≡ false → call_number p c ≡ 13 → length front + 3 ≤ (call_of p c).answer.place
  later_place e n =
      let f = swap_made e in
      let z = ap (λ (r : Rewritten). r.answer.number) f in
      omega (arith, ap (λ (r : Rewritten). r.answer.place) f, replay_place rest (length front + 3) (u ++ y ∷ x ∷ v) (λ k. omega (arith, z, k, n)))

  abbrev words : (are_tied ≡ true) ↔ TiedBehind u x y
  words = tied_exactly (in_force knitting racking_zero u) x y

  made_exactly : SwapExactly p c (length front) u x y v rest
  made_exactly =
      record {
        made = λ d. swap_made (cases are_tied (λ e. absurd (d (words.0 e))) (λ e. e));
        refused = λ t. swap_refused (words.1 t);
        thirteen = (
          (λ (n, k). cases are_tied (λ e. words.0 e) (λ e. absurd (omega (arith, later_place e n, k)))),
          (λ t. let e = swap_refused (words.1 t) in (ap (λ (r : Rewritten). r.answer.number) e, ap (λ (r : Rewritten). r.answer.place) e)),
        );
      }

-- a log of swaps that are made
log_done : {p : List ℕ} (c : Call) (m : List (List ℕ)) → ReadsLog p c → Swapped c.log (records_of p) m
    → call_of p c ≡ written c.limit p (ended 0 0 m) c.output c.work
unfolding replay_from
log_done {p} c m reads s =
    reads_written c reads
    ∙ ap (λ (r : Replay). written c.limit p r c.output c.work) (ap (λ (log : List ℕ). replay log 0 (records_of p)) (sym (append-nil c.log)) ∙ swapped_replay s [] 0)

-- ---- a call that does not read its log is turned away
module _ {limit : ℕ} {p : List ℕ} {t : State} (v : Valid limit p t) (c : Call) where
  away : (w : Rewritten) → call_of p c ≡ w → TurnedAs limit p c w.answer.number → w.output ≡ c.output → w.work ≡ c.work → TurnedAway limit p c
  away w e why out work =
      record {
        number = subst (TurnedAs limit p c) (sym (ap (λ (r : Rewritten). r.answer.number) e)) why;
        output = ap (λ (r : Rewritten). r.output) e ∙ out;
        work = ap (λ (r : Rewritten). r.work) e ∙ work;
      }

  turned_away : (ReadsLog p c → ⊥) → TurnedAway limit p c
  turned_away d = go ((rewrite_exactly c.limit p c.log c.output c.work (call_of p c)).0 refl) refl
    where
      reads : {u : State} {b : Bool} {front rest : List ℕ} {m : List (List ℕ)} → Followed c.limit p c.log c.output c.work u b front rest m → ⊥
      reads {u} f = d (record { lent = f.lent; final = u; valid = f.valid })

      go : {w : Rewritten} → Rewrites c.limit p c.log c.output c.work w → call_of p c ≡ w → TurnedAway limit p c
      go (Rewrites.bad_limit b) e = away _ e (TurnedAs.bad_limit b refl) refl refl
      go (Rewrites.too_long b h) e = away _ e (TurnedAs.too_long b h refl) refl refl
      go (Rewrites.no_bench b h k) e = away _ e (TurnedAs.no_bench b h k refl) refl refl
      go (Rewrites.not_valid {a = a} b l f k) e =
          let r = ap (λ (n : Answer). n.number) ((run_exactly c.limit p a).1 (Answers.refused b l.short f k)) in
          ⊎_elim (λ z. absurd (reason_other f.first.reason 0 refl (sym r ∙ z))) (λ (z, less). away _ e (TurnedAs.hook_full b l less (sym r ∙ z)) refl refl)
          (at_another_limit limit c.limit p t v b)
      go (Rewrites.gone_through f) e = absurd (reads f)
      go (Rewrites.torn f k) e = absurd (reads f)
      go (Rewrites.no_pair f k) e = absurd (reads f)
      go (Rewrites.pair_tied f k m) e = absurd (reads f)

-- ---- every list of calls
-- every program starts at racking 0
empty_racking : (limit : ℕ) → (empty_state limit).racking ≡ racking_zero
unfolding empty_state
empty_racking limit = refl

-- swaps of a valid program's records keep all that is to be kept
kept_swaps : {limit : ℕ} {p : List ℕ} {t : State} {is : List ℕ} {m : List (List ℕ)} → Valid limit p t → Swaps knitting racking_zero is (records_of p) m
    → Kept knitting machine names (empty_state limit) t (records_of p) m
kept_swaps {limit} {p} {t} {is} {m} v s =
    swaps_keep knitting machine names Good lawful orderly (empty_state limit) t tt is (records_of p) m (valid_ends v)
    (subst (λ (r : Racking). Swaps knitting r is (records_of p) m) (sym (empty_racking limit)) s)

keeps_all : {limit : ℕ} {p q : List ℕ} {t : State} {is : List ℕ} → Valid limit p t → Swaps knitting racking_zero is (records_of p) (records_of q) → Keeps limit p t q
keeps_all {limit} {p} {q} {t} {is} v s =
    let k : Kept knitting machine names (empty_state limit) t (records_of p) (records_of q) = kept_swaps v s in
    let n : length q ≡ length p = sym (ap length (records_flat q)) ∙ moved_length p (swaps_moved knitting s) in
    record {
      valid = ends_valid v.limit_in q (omega (arith, n, v.short)) k.ends;
      needles = λ m. sym (k.histories (needle m));
      carriers = λ m. sym (k.histories (carrier m));
      same = record { records = k.records; order = subst (λ (r : Racking). SameOrder knitting r (records_of p) (records_of q)) (empty_racking limit) k.order };
    }

-- every list of calls leaves a program that swaps reach
after_swaps : (cs : List Call) (p : List ℕ) → (is : List ℕ) × Swaps knitting racking_zero is (records_of p) (records_of (after p cs))
after_swaps [] p = ([], no_swap)
after_swaps (c ∷ cs) p =
    let (is, s) = handed_on_lem p c in
    let (js, r) = after_swaps cs (handed_on p c) in
    (is ++ js, swaps_append knitting s r)

after_keeps : {limit : ℕ} {p : List ℕ} {t : State} → Valid limit p t → (cs : List Call) → Keeps limit p t (after p cs)
after_keeps {p = p} v cs = keeps_all v (after_swaps cs p).1

-- swaps that are made are calls that answer 0, one for each
one_by_one : {limit : ℕ} {is : List ℕ} {l m : List (List ℕ)} → Swaps knitting racking_zero is l m → (p : List ℕ) {t : State} → Valid limit p t → records_of p ≡ l
    → (cs : List Call) × (records_of (after p cs) ≡ m) × AllAccepted limit p cs
one_by_one no_swap p v q = ([], q, tt)
one_by_one (swap_first {i} {l = l} {m = m} {n = n} e s) p v q =
    let f : swap_of i (records_of p) ≡ made m = ap (swap_of i) q ∙ e in
    let (c, a, r) = call_of_swap v i f in
    let (is, w) = handed_on_lem p c in
    let (cs, k, b) = one_by_one s (handed_on p c) (keeps_all v w).valid r in
    (c ∷ cs, k, (a, b))

-- so that every program with the same records and the same order of tied ones is reached
by_calls : {limit : ℕ} {p : List ℕ} {t : State} → Valid limit p t → (q : List ℕ) → SameProgram p q → (cs : List Call) × (after p cs ≡ q) × AllAccepted limit p cs
by_calls {p = p} v q s =
    let (is, r) = (reaches_exactly knitting lawful racking_zero (records_of p) (records_of q)).1 (s.records, s.order) in
    let (cs, e, a) = one_by_one r p v refl in
    (cs, sym (records_flat (after p cs)) ∙ ap flat e ∙ records_flat q, a)

-- ---- the theorems, each of the type that specs/Claims names
pub end_to_end : RecordsEndToEnd
end_to_end = records_flat

pub records_encode : RecordsEncode
records_encode limit p t v = each_map record_form (records_of p) (steps_records v.steps)

pub ties : TiedExactly
ties = tied_exactly

pub equals_tied : EqualRecordsTied
equals_tied r x = equals_are_tied knitting lawful r x x (lawful.same_refl x)

pub place_bound : RewritePlaceIsSmall
place_bound = place_small

pub order_by_positions : OrderByPositions
order_by_positions p q s = order_of_positions knitting lawful racking_zero (records_of p) (records_of q) s.order

pub front_handed_on : FrontHandedOn
front_handed_on p c = (
  (λ h. front_written p c (lent_zero h) (ran_zero h)),
  (λ d. is (lent p c) 0
      (λ e. is (ran p c) 0 (λ z. let (t, v) = (accepts c.limit p).0 z in absurd (d (record { lent = enough _ _ _ _ _ e; final = t; valid = v }))) (refused_program p c e)) (kept_program p c)),
)

pub in_turn : InTurn
in_turn p c cs = (refl, refl)

pub any_loan : AnyLoan
any_loan limit log output work i a b d = (record { limit = limit; log = log; output = output; work = work; limit_byte = i; log_bytes = a; output_bytes = b; work_offsets = d }, refl, refl, refl, refl)

pub demand_3 : Demand3
demand_3 limit p t v =
    record {
      keeps = after_keeps v;
      exactly = λ cs c front rest u w x y. made_exactly c front rest u w x y;
      done = λ cs c m. log_done c m;
      otherwise = λ cs c. turned_away (after_keeps v cs).valid c;
      reached = λ q. (
        (λ (cs, e). subst (SameProgram p) e (after_keeps v cs).same),
        (λ s. let (cs, e, a) = by_calls v q s in (cs, e)),
      );
      by_swaps = by_calls v;
    }
