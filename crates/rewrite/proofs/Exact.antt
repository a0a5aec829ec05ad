-- A call ends in one of the ways of specs/Exact, and in no other. Assumes nothing.
use borrow.Table.Steps.{cases}
use Prim.Native.Nat.{ℕ, zero, suc, ◌+◌, ◌*◌, ◌/◌, ◌%◌, ◌≤◌, ◌<◌}
use mathlib.Core.Path.{◌≡◌, refl, sym, ap, subst, ◌∙◌}
use mathlib.Core.Bool.{Bool, true≢false}
use mathlib.Core.List.{List, [], ◌∷◌, ◌++◌, append-nil}
use native.Mathlib.Nat.{div-add-mod'}
use native.Mathlib.Omega.{arith}
use lib.Dec.{eqb, leb, ltb}
use lib.ListN.{length, drop, get_or}
use borrow.Author.Tests.{eqb-true, eqb-false, ne_eqb, leb-true, leb-false, ltb-true, ltb-false}
use Rattle.machine.specs.Limits.{program_most, log_most}
use Rattle.machine.specs.declared.State.{State}
use Rattle.machine.specs.Machine.{empty_state}
use Rattle.machine.specs.Range.{LimitInRange}
use Rattle.machine.proofs.Ranges.{limit_exactly, limit_cases, limit_out}
use Rattle.machine.proofs.Laws.{empty_is_complete}
use Rattle.run.specs.declared.Answer.{Answer}
use Rattle.run.specs.Relation.{Valid}
use Rattle.run.specs.Run.{answer_limit, answer_of, run_of}
use Rattle.run.specs.Claims.{Answers, Complete}
use Rattle.run.proofs.Refusals.{reason_other}
use Rattle.run.proofs.Demand.{final, complete}
use Rattle.run.proofs.Exact.{run_flag, run_exactly}
use Rattle.trace.specs.Records.{tied}
use Rattle.trace.specs.Order.{in_force}
use Rattle.trace.specs.Swaps.{is_tied, made}
use Rattle.trace.proofs.Theorems.{made_iff_untied, refused_iff_tied, no_pair_iff_short}
use Rattle.rewrite.specs.Programs.{flat, records_of, starts_of, knitting}
use Rattle.rewrite.specs.Rewrite.{racking_zero, swap_of, Replay, ended, on_outcome, replay_from, replay, lent_no, Rewritten, refused, rewrite_of}
use Rattle.rewrite.specs.Exact.{TooLong, NoBench, RecordsAre, TiedBehind, Neighbours, Swapped, Torn, Long, Short, Lent, unlooked, leaving, Followed, Rewrites, RewriteExactly}
use Rattle.rewrite.proofs.Lawful.{tied_exactly}
use Rattle.rewrite.proofs.Records.{each_map, records_flat, flat_records, record_form, form_record, steps_records}
use Rattle.rewrite.proofs.Replays.{made_pair, replay_made, replay_tied}
use Rattle.rewrite.proofs.Rewriting.{limit_bad, program_long, log_long, output_short, work_short, all_lent, lent_call, refused_call, written_call}

-- ---- two neighbours at a position
record Pair (l : List (List ℕ)) (i : ℕ) : Type 0 where
  u : List (List ℕ)
  v : List (List ℕ)
  x : List ℕ
  y : List ℕ
  stand : Neighbours l i u x y v

pair : (l : List (List ℕ)) (i : ℕ) → i + 1 < length l → Pair l i
pair [] i h = absurd (omega arith)
pair (x ∷ []) i h = absurd (omega arith)
pair (x ∷ y ∷ l) zero h = record { u = []; v = l; x = x; y = y; stand = record { list = refl; before = refl } }
pair (z ∷ x ∷ l) (suc i) h =
    let q = pair (x ∷ l) i (omega arith) in
    record { u = z ∷ q.u; v = q.v; x = q.x; y = q.y; stand = record { list = ap (λ (m : List (List ℕ)). z ∷ m) q.stand.list; before = ap suc q.stand.before } }

-- their swap, by the words for a tie
module _ {l : List (List ℕ)} {i : ℕ} {u v : List (List ℕ)} {x y : List ℕ} (s : Neighbours l i u x y v) where
  there : swap_of i l ≡ swap_of (length u) (u ++ x ∷ y ∷ v)
  there = ap (λ (m : List (List ℕ)). swap_of i m) s.list ∙ ap (λ (j : ℕ). swap_of j (u ++ x ∷ y ∷ v)) (sym s.before)

  when_tied : TiedBehind u x y → swap_of i l ≡ is_tied
  when_tied t = there ∙ (refused_iff_tied knitting racking_zero u x y v).1 ((tied_exactly (in_force knitting racking_zero u) x y).1 t)

  when_free : (TiedBehind u x y → ⊥) → swap_of i l ≡ made (u ++ y ∷ x ∷ v)
  when_free d =
      let r = in_force knitting racking_zero u in
      there ∙ (made_iff_untied knitting racking_zero u x y v).1 (cases (tied knitting r x y) (λ t. absurd (d ((tied_exactly r x y).0 t))) (λ t. t))

-- ---- a log
-- every log is gone through or stops behind a front whose swaps are made
data Stops (log : List ℕ) (at : ℕ) (l : List (List ℕ)) : Replay → Type 0 where
  through : {m : List (List ℕ)} → Swapped log l m → Stops log at l (ended 0 0 m)
  is_torn : (front rest : List ℕ) {m : List (List ℕ)} → log ≡ front ++ rest → Swapped front l m → Torn rest → Stops log at l (ended 14 (at + length front) m)
  unpaired : (front rest : List ℕ) (high low : ℕ) {m : List (List ℕ)} → log ≡ front ++ 64 ∷ high ∷ low ∷ rest → Swapped front l m → length m ≤ high * 256 + low + 1
      → Stops log at l (ended 12 (at + length front) m)
  ties : (front rest : List ℕ) (high low : ℕ) {m u v : List (List ℕ)} {x y : List ℕ} → log ≡ front ++ 64 ∷ high ∷ low ∷ rest → Swapped front l m
      → Neighbours m (high * 256 + low) u x y v → TiedBehind u x y → Stops log at l (ended 13 (at + length front) m)

-- where it stands
placed : {log : List ℕ} (at : ℕ) {l : List (List ℕ)} {n : ℕ} {m : List (List ℕ)} → Stops log at l (ended n (at + 0) m) → Stops log at l (ended n at m)
placed {log} at {l} {n} {m} s = let e : at + 0 ≡ at = omega arith in subst (λ (k : ℕ). Stops log at l (ended n k m)) e s

-- and behind a swap that is made
module _ (high low : ℕ) (log : List ℕ) (at : ℕ) {l u v : List (List ℕ)} {x y : List ℕ} (s : Neighbours l (high * 256 + low) u x y v) (d : TiedBehind u x y → ⊥) where
  abbrev From : Replay → Type 0
  From r = Stops (64 ∷ high ∷ low ∷ log) at l r

  further : {n : ℕ} (front : List ℕ) {m : List (List ℕ)} → From (ended n (at + length (64 ∷ high ∷ low ∷ front)) m) → From (ended n (at + 3 + length front) m)
  further {n} front {m} f = let q : at + length (64 ∷ high ∷ low ∷ front) ≡ at + 3 + length front = omega arith in subst (λ (k : ℕ). From (ended n k m)) q f

  longer : {front : List ℕ} → log ≡ front → 64 ∷ high ∷ low ∷ log ≡ 64 ∷ high ∷ low ∷ front
  longer q = ap (λ (k : List ℕ). 64 ∷ high ∷ low ∷ k) q

  behind : {r : Replay} → Stops log (at + 3) (u ++ y ∷ x ∷ v) r → From r
  behind (Stops.through w) = Stops.through (Swapped.swap s d w)
  behind (Stops.is_torn front rest q w t) = further front (Stops.is_torn (64 ∷ high ∷ low ∷ front) rest (longer q) (Swapped.swap s d w) t)
  behind (Stops.unpaired front rest h k q w t) = further front (Stops.unpaired (64 ∷ high ∷ low ∷ front) rest h k (longer q) (Swapped.swap s d w) t)
  behind (Stops.ties front rest h k q w n t) = further front (Stops.ties (64 ∷ high ∷ low ∷ front) rest h k (longer q) (Swapped.swap s d w) n t)

module _ (high low at : ℕ) (log : List ℕ) (l : List (List ℕ)) (more : (m : List (List ℕ)) → Stops log (at + 3) m (replay log (at + 3) m)) where
  abbrev i : ℕ
  i = high * 256 + low

  abbrev Goes : Type 0
  Goes = Stops (64 ∷ high ∷ low ∷ log) at l (on_outcome (swap_of i l) at l (λ m. replay log (at + 3) m))

  goes_pair : Pair l i → Goes
  goes_pair q =
      let r = in_force knitting racking_zero q.u in
      cases (tied knitting r q.x q.y)
      (λ t. let w = (tied_exactly r q.x q.y).0 t in rw (when_tied q.stand w) (placed at (Stops.ties [] log high low refl Swapped.none q.stand w)))
      (λ t. let d : TiedBehind q.u q.x q.y → ⊥ = λ w. true≢false (sym ((tied_exactly r q.x q.y).1 w) ∙ t) in
      rw (when_free q.stand d) (behind high low log at q.stand d (more (q.u ++ q.y ∷ q.x ∷ q.v))))

  goes : Goes
  goes =
      cases (leb (length l) (i + 1))
      (λ t. let h = leb-true (length l) (i + 1) t in
      rw ((no_pair_iff_short knitting racking_zero i l).1 (omega arith)) (placed at (Stops.unpaired [] log high low refl Swapped.none h)))
      (λ t. goes_pair (pair l i (leb-false (length l) (i + 1) t)))

stops : (log : List ℕ) (at : ℕ) (l : List (List ℕ)) → Stops log at l (replay log at l)
unfolding replay_from
stops [] at l = Stops.through Swapped.none
stops (k ∷ []) at l = placed at (Stops.is_torn [] (k ∷ []) refl Swapped.none (Torn.few_bytes (omega arith) (omega arith)))
stops (k ∷ high ∷ []) at l = placed at (Stops.is_torn [] (k ∷ high ∷ []) refl Swapped.none (Torn.few_bytes (omega arith) (omega arith)))
stops (k ∷ high ∷ low ∷ log) at l =
    cases (eqb k 64) (λ e. rw (e, eqb-true k 64 e) (goes high low at log l (stops log (at + 3))))
    (λ e. rw e (placed at (Stops.is_torn [] (k ∷ high ∷ low ∷ log) refl Swapped.none (Torn.other_kind refl (eqb-false k 64 e)))))

-- a front whose swaps are made is gone through, and the log goes on behind it
pub swapped_replay : {front : List ℕ} {l m : List (List ℕ)} → Swapped front l m → (rest : List ℕ) (at : ℕ) → replay (front ++ rest) at l ≡ replay rest (at + length front) m
swapped_replay (Swapped.none {l = l}) rest at = let e : at ≡ at + 0 = omega arith in ap (λ (n : ℕ). replay rest n l) e
swapped_replay (Swapped.swap {high} {low} {log} {l} {m} {u} {v} {x} {y} s d w) rest at =
    let f : at + 3 + length log ≡ at + length (64 ∷ high ∷ low ∷ log) = omega arith in
    replay_made high low (log ++ rest) at l (u ++ y ∷ x ∷ v) (when_free s d) ∙ swapped_replay w rest (at + 3) ∙ ap (λ (n : ℕ). replay rest n m) f

-- a log of one swap that is made
pub swapped_one : (i : ℕ) (l m : List (List ℕ)) → swap_of i l ≡ made m → Swapped (64 ∷ i / 256 ∷ i % 256 ∷ []) l m
swapped_one i l m e =
    let j = i / 256 * 256 + i % 256 in
    let f : swap_of j l ≡ made m = ap (λ (k : ℕ). swap_of k l) (div-add-mod' i 256) ∙ e in
    let q = pair l j (omega (arith, made_pair knitting l m racking_zero j f)) in
    let d : TiedBehind q.u q.x q.y → ⊥ = λ w. true≢false (cc (when_tied q.stand w, f)) in
    let g : q.u ++ q.y ∷ q.x ∷ q.v ≡ m = cc (when_free q.stand d, f) in
    Swapped.swap q.stand d (subst (Swapped [] (q.u ++ q.y ∷ q.x ∷ q.v)) g Swapped.none)

-- where it stops
torn_replay : (rest : List ℕ) → Torn rest → (at : ℕ) (l : List (List ℕ)) → replay rest at l ≡ ended 14 at l
unfolding replay_from
torn_replay [] (Torn.other_kind q d) at l = absurd (omega (arith, ap length q))
torn_replay [] (Torn.few_bytes a b) at l = absurd (omega arith)
torn_replay (k ∷ []) t at l = refl
torn_replay (k ∷ high ∷ []) t at l = refl
torn_replay (k ∷ high ∷ low ∷ log) (Torn.other_kind q d) at l = simp (ne_eqb k 64 (λ e. d (sym (ap (λ (m : List ℕ). get_or m 0 0) q) ∙ e)))
torn_replay (k ∷ high ∷ low ∷ log) (Torn.few_bytes a b) at l = absurd (omega arith)

unpaired_replay : (high low : ℕ) (log : List ℕ) (at : ℕ) (l : List (List ℕ)) → length l ≤ high * 256 + low + 1 → replay (64 ∷ high ∷ low ∷ log) at l ≡ ended 12 at l
unfolding replay_from
unpaired_replay high low log at l h = rw ((no_pair_iff_short knitting racking_zero (high * 256 + low) l).1 (omega arith)) refl

-- ---- the records of a program
pub valid_are : {limit : ℕ} {p : List ℕ} {t : State} → Valid limit p t → RecordsAre p (records_of p)
valid_are {p = p} v = record { end_to_end = records_flat p; each = each_map (λ x w. (_, record_form x w)) (records_of p) (steps_records v.steps) }

pub are_records : {p : List ℕ} {l : List (List ℕ)} → RecordsAre p l → records_of p ≡ l
are_records {l = l} a = ap records_of (sym a.end_to_end) ∙ flat_records l (each_map (λ x (r, form). form_record form) l a.each)

-- ---- a call
module _ (limit : ℕ) (p log output work : List ℕ) where
  abbrev number : ℕ
  number = lent_no limit (length p) (length log) (length output) (length work)

  abbrev call : Rewritten
  call = rewrite_of limit p log output work

  -- 1 and 2
  long_number : LimitInRange limit → Long p log output work → number ≡ 1
  long_number b (TooLong.long_program h) = program_long _ _ _ _ _ b h
  long_number b (TooLong.long_log h) =
      cases (ltb program_most (length p)) (λ t. program_long _ _ _ _ _ b (ltb-true program_most (length p) t)) (λ t. log_long _ _ _ _ _ b (ltb-false program_most (length p) t) h)

  -- what is lent is too long, too short, or will do
  by_lengths : {G : Type 0} → (Long p log output work → G) → ((Long p log output work → ⊥) → Short p log output work → G) → (Lent p log output work → G) → G
  by_lengths f g h =
      cases (ltb program_most (length p)) (λ t. f (TooLong.long_program (ltb-true program_most (length p) t))) λ a.
      cases (ltb log_most (length log)) (λ t. f (TooLong.long_log (ltb-true log_most (length log) t))) λ b.
      let short = ltb-false program_most (length p) a in
      let log_short = ltb-false log_most (length log) b in
      cases (ltb (length output) (length p)) (λ t. g (not_long short log_short) (NoBench.short_output (ltb-true (length output) (length p) t))) λ c.
      cases (ltb (length work) (length p / 2)) (λ t. g (not_long short log_short) (NoBench.few_entries (ltb-true (length work) (length p / 2) t))) λ d.
      h (record { short = short; log_short = log_short; room = ltb-false (length output) (length p) c; entries = ltb-false (length work) (length p / 2) d })
    where
      not_long : length p ≤ program_most → length log ≤ log_most → Long p log output work → ⊥
      not_long h i (TooLong.long_program k) = omega arith
      not_long h i (TooLong.long_log k) = omega arith

  short_number : LimitInRange limit → (Long p log output work → ⊥) → Short p log output work → number ≡ 2
  short_number b d s =
      by_lengths (λ l. absurd (d l)) (λ e k. go (shorter program_most (length p) (λ h. d (TooLong.long_program h))) (shorter log_most (length log) (λ h. d (TooLong.long_log h))) k)
      (λ l. absurd (none l s))
    where
      shorter : (n m : ℕ) → (n < m → ⊥) → m ≤ n
      shorter n m d = cases (ltb n m) (λ t. absurd (d (ltb-true n m t))) (λ t. ltb-false n m t)

      go : length p ≤ program_most → length log ≤ log_most → Short p log output work → number ≡ 2
      go h i (NoBench.short_output k) = output_short _ _ _ _ _ b h i k
      go h i (NoBench.few_entries k) =
          cases (ltb (length output) (length p)) (λ t. output_short _ _ _ _ _ b h i (ltb-true (length output) (length p) t)) (λ t. work_short _ _ _ _ _ b h i (ltb-false (length output) (length p) t) k)

      none : Lent p log output work → Short p log output work → ⊥
      none l (NoBench.short_output k) = omega (arith, l.room)
      none l (NoBench.few_entries k) = omega (arith, l.entries)

  unlooked_call : (n l : ℕ) → number ≡ suc n → answer_limit limit ≡ l → call ≡ unlooked p log output work l (suc n)
  unfolding answer_of
  unlooked_call n l e f =
      lent_call limit p log output work (λ q. omega (arith, e, q))
      ∙ (λ i. refused (record { number = e i; place = 0; complete = empty_is_complete (answer_limit limit) i; state = empty_state (f i) }) output work)

  given : LimitInRange limit → answer_limit limit ≡ limit
  unfolding answer_limit
  given b = simp ((limit_exactly limit).1 b)

  not_given : (LimitInRange limit → ⊥) → answer_limit limit ≡ 8
  unfolding answer_limit
  not_given b = simp (limit_out limit b)

  -- 0 and 12 to 14: what a replay that ends so leaves
  leaving_call : {t : State} {c : Bool} (n at : ℕ) (m : List (List ℕ)) → Lent p log output work → Valid limit p t → Complete c t → replay log 0 (records_of p) ≡ ended n at m
      → call ≡ leaving p log output work n at t c m
  leaving_call {t} {c} n at m l v h e =
      let d = final limit p t v in
      let f = run_flag limit p c d.state h in
      written_call limit p log output work (all_lent _ _ _ _ _ v.limit_in l) d.number
      ∙ (λ i. record {
        answer = record { number = (e i).number; place = (e i).place; complete = f i; state = d.state i };
        output = flat (e i).left ++ drop (length p) output;
        work = starts_of 0 (e i).left ++ drop (length (e i).left) work;
      })

  followed_replay : {t : State} {c : Bool} {front rest : List ℕ} {m : List (List ℕ)} → Followed limit p log output work t c front rest m → replay log 0 (records_of p) ≡ replay rest (length front) m
  followed_replay {front = front} {rest = rest} {m = m} f =
      let e : 0 + length front ≡ length front = omega arith in
      (λ i. replay (f.log_is i) 0 (are_records f.are i)) ∙ swapped_replay f.swaps rest 0 ∙ ap (λ (n : ℕ). replay rest n m) e

  -- whatever ends so is what the call gives and leaves
  one : {w : Rewritten} → Rewrites limit p log output work w → call ≡ w
  unfolding replay_from
  one (Rewrites.bad_limit b) = unlooked_call 14 8 (limit_bad _ _ _ _ _ b) (not_given b)
  one (Rewrites.too_long b h) = unlooked_call 0 limit (long_number b h) (given b)
  one (Rewrites.no_bench b d h) = unlooked_call 1 limit (short_number b d h) (given b)
  one (Rewrites.not_valid {a = a} b l f c) =
      let e = (run_exactly limit p a).1 (Answers.refused b l.short f c) in
      refused_call limit p log output work (all_lent _ _ _ _ _ b l) (λ z. reason_other f.first.reason 0 refl (sym (ap (λ (b : Answer). b.number) e) ∙ z))
      ∙ ap (λ (b : Answer). refused b output work) e
  one (Rewrites.gone_through {front = front} {m = m} f) = leaving_call 0 0 m f.lent f.valid f.complete (followed_replay f)
  one (Rewrites.torn {front = front} {rest = rest} {m = m} f t) =
      leaving_call 14 (length front) m f.lent f.valid f.complete (followed_replay f ∙ torn_replay rest t (length front) m)
  one (Rewrites.no_pair {front = front} {rest = rest} {high = high} {low = low} {m = m} f h) =
      leaving_call 12 (length front) m f.lent f.valid f.complete (followed_replay f ∙ unpaired_replay high low rest (length front) m h)
  one (Rewrites.pair_tied {front = front} {rest = rest} {high = high} {low = low} {m = m} f s t) =
      leaving_call 13 (length front) m f.lent f.valid f.complete (followed_replay f ∙ replay_tied high low rest (length front) m (when_tied s t))

  -- and the call ends so
  abbrev Ends : Rewritten → Type 0
  Ends w = Rewrites limit p log output work w

  ends_as : {w : Rewritten} → Ends w → Ends call
  ends_as {w} h = subst Ends (sym (one h)) h

  module _ (l : Lent p log output work) {t : State} (v : Valid limit p t) where
    follows : (front rest : List ℕ) {m : List (List ℕ)} → log ≡ front ++ rest → Swapped front (records_of p) m → Followed limit p log output work t (run_of limit p).complete front rest m
    follows front rest e s =
        record {
          lent = l;
          valid = v;
          complete = subst (Complete (run_of limit p).complete) (final limit p t v).state (complete limit p);
          records = records_of p;
          are = valid_are v;
          log_is = e;
          swaps = s;
        }

    stopped : {r : Replay} → Stops log 0 (records_of p) r → Ends call
    stopped (Stops.through s) = ends_as (Rewrites.gone_through (follows log [] (sym (append-nil log)) s))
    stopped (Stops.is_torn front rest e s t) = ends_as (Rewrites.torn (follows front rest e s) t)
    stopped (Stops.unpaired front rest high low e s h) = ends_as (Rewrites.no_pair (follows front (64 ∷ high ∷ low ∷ rest) e s) h)
    stopped (Stops.ties front rest high low e s n t) = ends_as (Rewrites.pair_tied (follows front (64 ∷ high ∷ low ∷ rest) e s) n t)

  looked : LimitInRange limit → Lent p log output work → {a : Answer} → Answers limit p a → Ends call
  looked b l (Answers.bad_limit d) = absurd (d b)
  looked b l (Answers.too_long c h) = absurd (omega (arith, l.short))
  looked b l (Answers.done v c) = stopped l v (stops log 0 (records_of p))
  looked b l (Answers.refused i h f c) = ends_as (Rewrites.not_valid b l f c)

  own : Ends call
  own =
      limit_cases limit
      (λ b. by_lengths (λ h. ends_as (Rewrites.too_long b h)) (λ d h. ends_as (Rewrites.no_bench b d h)) (λ l. looked b l ((run_exactly limit p (run_of limit p)).0 refl)))
      (λ d. ends_as (Rewrites.bad_limit d))

pub rewrite_exactly : RewriteExactly
rewrite_exactly limit p log output work w = ((λ e. subst (Rewrites limit p log output work) e (own limit p log output work)), one limit p log output work)
