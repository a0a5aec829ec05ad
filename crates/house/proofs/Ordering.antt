-- The call, put together: refused as by the rewriter, or the house order written. Assumes nothing.
use Prim.Native.Nat.{ℕ, ◌≤◌, ◌/◌}
use mathlib.Core.Path.{◌≡◌, refl, sym, ap, subst, ◌∙◌}
use mathlib.Core.List.{List, [], ◌++◌}
use native.Mathlib.Omega.{arith}
use lib.ListN.{length, take, drop, length-append, length-map}
use lib.Seq.{take_at, drop_at, length-take-le}
use borrow.Author.Tests.{eq-eqb, ne_eqb}
use Rattle.machine.specs.Machine.{empty_state}
use Rattle.machine.specs.declared.State.{State}
use Rattle.run.specs.declared.Answer.{Answer}
use Rattle.run.specs.declared.Ended.{Ended}
use Rattle.run.specs.Run.{reached, answer_limit, answer_of, run_of}
use Rattle.run.proofs.Demand.{accepts, final}
use Rattle.trace.specs.House.{house_order}
use Rattle.trace.proofs.Theorems.{house_reached, house_length}
use Rattle.machine.proofs.Refused.{number_some}
use Rattle.rewrite.specs.Programs.{flat, records_of, starts_of, knitting}
use Rattle.rewrite.specs.Rewrite.{racking_zero, ended, replay_from, lent_no, Rewritten, refused, written, rewrite_of}
use Rattle.rewrite.specs.Laid.{Sound}
use Rattle.rewrite.proofs.Lawful.{lawful}
use Rattle.rewrite.proofs.Replays.{swaps_moved}
use Rattle.rewrite.proofs.Handed.{moved_length}
use Rattle.rewrite.proofs.Laying.{starts_length}
use Rattle.rewrite.proofs.Rewriting.{enough, sound_run, lent_call, refused_call, written_call}
use Rattle.house.specs.Order.{comes_first, house_records, house_of, order_of}
use Rattle.house.specs.Arranged.{record_in, Starts, records_at}
use Rattle.house.proofs.Comparison.{comparison_strict}
use Rattle.house.proofs.Places.{own_are, own_starts}

-- ---- the program in house order is as long, and has as many records
pub house_bytes : (p : List ℕ) → length (house_of p) ≡ length p
house_bytes p = moved_length p (swaps_moved knitting (house_reached knitting comes_first lawful comparison_strict racking_zero (records_of p)).1)

pub house_count : (p : List ℕ) → length (house_records p) ≡ length (records_of p)
house_count p = house_length knitting comes_first lawful comparison_strict racking_zero (records_of p)

-- ---- the call
module _ (limit : ℕ) (p output work : List ℕ) where
  abbrev number : ℕ
  number = lent_no limit (length p) 0 (length output) (length work)

  abbrev plain : Rewritten
  plain = rewrite_of limit p [] output work

  abbrev call : Rewritten
  call = order_of limit p output work

  -- as the rewriter, unless that answers 0
  pub as_plain : (plain.answer.number ≡ 0 → ⊥) → call ≡ plain
  unfolding order_of
  as_plain d = simp (ne_eqb plain.answer.number 0 d)

  pub as_ordered : plain.answer.number ≡ 0 → call ≡ written limit p (ended 0 0 (house_records p)) output work
  unfolding order_of
  as_ordered e = simp (eq-eqb plain.answer.number 0 e)

  -- which it does as its lengths and its run do
  plain_lent : (number ≡ 0 → ⊥) → plain.answer.number ≡ number
  unfolding answer_of
  plain_lent d = ap (λ (w : Rewritten). w.answer.number) (lent_call limit p [] output work d)

  plain_run : number ≡ 0 → ((run_of limit p).number ≡ 0 → ⊥) → plain.answer.number ≡ (run_of limit p).number
  plain_run z d = ap (λ (w : Rewritten). w.answer.number) (refused_call limit p [] output work z d)

  pub plain_done : number ≡ 0 → (run_of limit p).number ≡ 0 → plain.answer.number ≡ 0
  unfolding replay_from
  plain_done z y = ap (λ (w : Rewritten). w.answer.number) (written_call limit p [] output work z y)

  -- refused before the program is looked at, by its run, or ordered
  pub call_lent : (number ≡ 0 → ⊥) → call ≡ refused (answer_of (reached number 0 (empty_state (answer_limit limit)))) output work
  call_lent d = as_plain (λ q. d (sym (plain_lent d) ∙ q)) ∙ lent_call limit p [] output work d

  module _ (lent : number ≡ 0) where
    pub call_refused : ((run_of limit p).number ≡ 0 → ⊥) → call ≡ refused (run_of limit p) output work
    call_refused d = as_plain (λ q. d (sym (plain_run lent d) ∙ q)) ∙ refused_call limit p [] output work lent d

    pub call_ordered : (run_of limit p).number ≡ 0 → call ≡ record { answer = run_of limit p; output = house_of p ++ drop (length p) output; work = starts_of 0 (house_records p) ++ drop (length (house_records p)) work }
    call_ordered y =
        let (t, u) = (accepts limit p).0 y in
        as_ordered (plain_done lent y)
        ∙ sym (λ i. record {
          answer = record { number = y i; place = (final limit p t u).place i; complete = (run_of limit p).complete; state = (run_of limit p).state };
          output = house_of p ++ drop (length p) output;
          work = starts_of 0 (house_records p) ++ drop (length (house_records p)) work;
        })

  -- what is answered and left
  unfoldable pub Gives : Answer → List ℕ → List ℕ → Type 0
  Gives a q v = (a ≡ call.answer) × ((q ≡ call.output) × (v ≡ call.work))

  gives : (w : Rewritten) → call ≡ w → Gives w.answer w.output w.work
  unfolding Gives
  gives w f = (sym (ap (λ (c : Rewritten). c.answer) f), (sym (ap (λ (c : Rewritten). c.output) f), sym (ap (λ (c : Rewritten). c.work) f)))

  pub gives_lent : (n : ℕ) (a : Answer) → n ≡ number → (n ≡ 0 → ⊥) → a ≡ answer_of (reached n 0 (empty_state (answer_limit limit))) → Gives a output work
  gives_lent n a f d g =
      let none : number ≡ 0 → ⊥ = λ q. d (f ∙ q) in
      subst (λ (b : Answer). Gives b output work) (sym (g ∙ ap (λ (k : ℕ). answer_of (reached k 0 (empty_state (answer_limit limit)))) f))
      (gives (refused (answer_of (reached number 0 (empty_state (answer_limit limit)))) output work) (as_plain (λ q. none (sym (plain_lent none) ∙ q)) ∙ lent_call limit p [] output work none))

  module _ (lent : number ≡ 0) where
    pub gives_refused : ((run_of limit p).number ≡ 0 → ⊥) → Gives (run_of limit p) output work
    gives_refused none = gives (refused (run_of limit p) output work) (as_plain (λ q. none (sym (plain_run lent none) ∙ q)) ∙ refused_call limit p [] output work lent none)

    pub gives_ordered : (run_of limit p).number ≡ 0 → (q v : List ℕ) → q ≡ house_of p ++ drop (length p) output → v ≡ starts_of 0 (house_records p) ++ drop (length (house_records p)) work → Gives (run_of limit p) q v
    unfolding Gives
    gives_ordered y q v bytes starts =
        let g = gives (written limit p (ended 0 0 (house_records p)) output work) (as_ordered (plain_done lent y)) in
        let (t, u) = (accepts limit p).0 y in
        let a : run_of limit p ≡ record { number = 0; place = 0; complete = (run_of limit p).complete; state = (run_of limit p).state } =
        (λ i. record { number = y i; place = (final limit p t u).place i; complete = (run_of limit p).complete; state = (run_of limit p).state }) in
        (a ∙ g.0, (bytes ∙ g.1.0, starts ∙ g.1.1))

  pub as_run : (q v : List ℕ) (a : Answer) → a ≡ run_of limit p → Gives (run_of limit p) q v → Gives a q v
  as_run q v a e g = subst (λ (b : Answer). Gives b q v) (sym e) g

  -- number and place of it
  unfoldable pub Tells : Ended → List ℕ → List ℕ → Type 0
  Tells e q v = ((e.number ≡ call.answer.number) × (e.place ≡ call.answer.place)) × ((q ≡ call.output) × (v ≡ call.work))

  pub tells : (q v : List ℕ) (a : Answer) → Gives a q v → (e : Ended) → e.number ≡ a.number → e.place ≡ a.place → Tells e q v
  unfolding Gives Tells
  tells q v a (f, g) e n z = ((n ∙ ap (λ (b : Answer). b.number) f, z ∙ ap (λ (b : Answer). b.place) f), g)

-- an answer before the run
pub answer_number : (n : ℕ) (s : State) → (answer_of (reached n 0 s)).number ≡ n
unfolding answer_of
answer_number n s = refl

pub answer_place : (n : ℕ) (s : State) → (answer_of (reached n 0 s)).place ≡ 0
unfolding answer_of
answer_place n s = refl

-- what writing asks
pub ready : (limit : ℕ) (p output work : List ℕ) → lent_no limit (length p) 0 (length output) (length work) ≡ 0 → (run_of limit p).number ≡ 0 → Sound p × (length p ≤ length output) × (length p / 2 ≤ length work)
ready limit p output work e f = let l = enough limit (length p) 0 (length output) (length work) e in (sound_run limit p l.short f, l.room, l.entries)

pub ruleset calls = (ready, call_lent, call_refused, call_ordered, answer_number, answer_place, number_some)

-- ---- the parts that are lent on
module _ (p work w : List ℕ) (n : ℕ) (sound : Sound p) (count : n ≡ length (records_of p)) (written : w ≡ starts_of 0 (records_of p) ++ drop n work) where
  front : take n w ≡ starts_of 0 (records_of p)
  front = ap (take n) written ∙ take_at (starts_of 0 (records_of p)) (drop n work) n (starts_length 0 (records_of p) ∙ sym count)

  pub part_fits : n ≤ length w
  part_fits = omega (arith, ap length written, length-append (starts_of 0 (records_of p)) (drop n work), starts_length 0 (records_of p), count)

  pub part_starts : Starts p (take n w)
  part_starts = subst (Starts p) (sym front) (own_starts p sound)

  past : drop n w ≡ drop n work
  past = ap (drop n) written ∙ drop_at (starts_of 0 (records_of p)) (drop n work) n (starts_length 0 (records_of p) ∙ sym count)

  -- the part in order, put back
  module _ (v : List ℕ) (are : records_at p v ≡ house_order knitting comes_first racking_zero (records_at p (take n w))) where
    long : length v ≡ n
    long =
        sym (length-map v (record_in p)) ∙ ap length are ∙ house_length knitting comes_first lawful comparison_strict racking_zero (records_at p (take n w))
        ∙ length-map (take n w) (record_in p) ∙ length-take-le n w part_fits

    abbrev back : List ℕ
    back = v ++ drop n w

    pub back_front : take n back ≡ v
    back_front = take_at v (drop n w) n long

    back_past : drop n back ≡ drop n work
    back_past = drop_at v (drop n w) n long ∙ past

    pub back_fits : n ≤ length back
    back_fits = omega (arith, length-append v (drop n w), long)

    back_records : records_at p (take n back) ≡ house_records p
    back_records = ap (records_at p) back_front ∙ are ∙ ap (house_order knitting comes_first racking_zero) (ap (records_at p) front ∙ own_are p sound)

    -- laid, the whole is what the order leaves
    pub laid_bytes : (output q : List ℕ) → q ≡ flat (records_at p (take n back)) ++ drop (length (flat (records_at p (take n back)))) output → q ≡ house_of p ++ drop (length p) output
    laid_bytes output q e = e ∙ ap (λ (r : List (List ℕ)). flat r ++ drop (length (flat r)) output) back_records ∙ ap (λ (k : ℕ). house_of p ++ drop k output) (house_bytes p)

    pub laid_starts : (t : List ℕ) → t ≡ starts_of 0 (records_at p (take n back)) → t ++ drop n back ≡ starts_of 0 (house_records p) ++ drop (length (house_records p)) work
    laid_starts t e =
        (λ i. e i ++ back_past i) ∙ ap (λ (r : List (List ℕ)). starts_of 0 r ++ drop n work) back_records
        ∙ ap (λ (k : ℕ). starts_of 0 (house_records p) ++ drop k work) (count ∙ sym (house_count p))
