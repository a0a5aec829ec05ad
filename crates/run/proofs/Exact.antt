-- The run gives an answer in 01's words and no other one is; rows 3 to 5 against the format. Assumes nothing.
use Prim.Native.Nat.{ℕ, ◌≤◌}
use mathlib.Core.Path.{◌≡◌, refl, sym, ap, subst, ◌∙◌}
use mathlib.Core.Bool.{Bool, true, false, true≢false}
use mathlib.Core.List.{List, [], ◌∷◌, ◌++◌, append-nil}
use native.Mathlib.Omega.{arith}
use lib.ListN.{length, take, drop, take-append-drop}
use Rattle.std.proofs.lemmas.Bool.Decides.{same_from_decides}
use Rattle.machine.specs.declared.State.{State}
use Rattle.record.specs.declared.Record.{Record}
use Rattle.record.specs.Kinds.{IN, OUT, MISS, TUCK, KNIT, PLATED_TUCK, PLATED_KNIT, size_of}
use Rattle.record.specs.Format.{Reading, Encodes, signed_of, byte, fields_ok, refused_as, decode_of}
use Rattle.record.proofs.Shapes.{Known, at_known, sized_known}
use Rattle.record.proofs.Forms.{Reads, reads, form_decode, decode_form, decode_kind}
use Rattle.run.specs.declared.Answer.{Answer}
use Rattle.run.specs.Reason.{Whole}
use Rattle.run.specs.Run.{reached, answer_of, run_of}
use Rattle.run.specs.Claims.{Complete, Answers, RunExactly, KnownExactly, SizeExactly, FieldExactly}
use Rattle.run.proofs.Bytes.{reason_no_step}
use Rattle.run.proofs.Answers.{Answered, answered, long_run, bad_run, valid_run, complete_empty}
use Rattle.run.proofs.Unique.{one_refusal}

-- ---- an answer by its parts
-- the run's flag, where its state is t
pub run_flag : (limit : ℕ) (p : List ℕ) {t : State} (c : Bool) → (run_of limit p).state ≡ t → Complete c t → (run_of limit p).complete ≡ c
run_flag limit p c e h = same_from_decides (run_of limit p).complete c (subst (Complete (run_of limit p).complete) e (complete_empty (answered limit p))) h

-- number, place and state are the run's: then the answer is
same_answer : (limit : ℕ) (p : List ℕ) (a : Answer) → run_of limit p ≡ answer_of (reached a.number a.place a.state) → Complete a.complete a.state → run_of limit p ≡ a
unfolding answer_of
same_answer limit p a e h =
    let c = run_flag limit p a.complete (ap (λ (b : Answer). b.state) e) h in
    λ i. record { number = (e i).number; place = (e i).place; complete = c i; state = (e i).state }

-- ---- every run ends in one of these ways, and whatever ends so is the run's answer
own : {limit : ℕ} {p : List ℕ} {a : Answer} → Answered limit p a → Answers limit p a
unfolding answer_of
own (Answered.through i h steps) = Answers.done (record { limit_in = i; short = h; steps = steps }) (complete_empty (Answered.through i h steps))
own (Answered.refused i h k before r) =
    Answers.refused i h (record { within = k; before = before; no_step = reason_no_step r.reason; first = r }) (complete_empty (Answered.refused i h k before r))
own (Answered.too_long i h) = Answers.too_long i h
own (Answered.bad_limit i) = Answers.bad_limit i

one : {limit : ℕ} {p : List ℕ} {a : Answer} → Answers limit p a → run_of limit p ≡ a
one {limit} {p} (Answers.bad_limit i) = bad_run i p
one {limit} {p} (Answers.too_long i h) = long_run i p h
one {limit} {p} {a} (Answers.done {t = t} v c) = same_answer limit p a (valid_run p t v) c
one {limit} {p} {a} (Answers.refused i h f c) = same_answer limit p a (one_refusal i p a h f) c

pub run_exactly : RunExactly
run_exactly limit p a = ((λ e. subst (Answers limit p) e (own (answered limit p))), one)

-- ---- 3 to 5
pub size_exactly : SizeExactly
size_exactly bytes x form = go (form_decode form []) (decode_kind (bytes ++ []))
  where
    go : decode_of (bytes ++ []) ≡ record { number = 0; size = length bytes; what = x } → ((decode_of (bytes ++ [])).number ≡ 0 → (decode_of (bytes ++ [])).size ≡ size_of (byte (bytes ++ []) 0))
        → length bytes ≡ size_of (byte bytes 0)
    go d k = sym (ap (λ (e : Reading). e.size) d) ∙ k (ap (λ (e : Reading). e.number) d) ∙ ap (λ (l : List ℕ). size_of (byte l 0)) (append-nil bytes)

-- a record of each known kind, its fields the least in range
some_record : {k : ℕ} → Known k → (body : List ℕ) × (x : Record) × Encodes (k ∷ body) x
unfolding signed_of
some_record =
    at_known (λ (k : ℕ). (body : List ℕ) × (x : Record) × Encodes (k ∷ body) x)
    (0 ∷ [], _, Encodes.rack {b = 0} (omega arith))
    (0 ∷ 0 ∷ [], _, Encodes.drop {bed = 0} {n = 0} (omega arith) (omega arith))
    (0 ∷ 0 ∷ 0 ∷ [], _, Encodes.xfer {bed = 0} {n = 0} {m = 0} (omega arith) (omega arith) (omega arith))
    (work IN (omega arith) (omega arith)) (work OUT (omega arith) (omega arith)) (work MISS (omega arith) (omega arith)) (work TUCK (omega arith) (omega arith)) (work KNIT (omega arith) (omega arith))
    (0 ∷ 0 ∷ 0 ∷ 1 ∷ 0 ∷ [], _, Encodes.split {right = 0} {bed = 0} {n = 0} {k = 1} {m = 0} (omega arith) (omega arith) (omega arith) (omega arith) (omega arith) (omega arith))
    (plated PLATED_TUCK (omega arith) (omega arith)) (plated PLATED_KNIT (omega arith) (omega arith))
  where
    plated : (k : ℕ) → PLATED_TUCK ≤ k → k ≤ PLATED_KNIT → (body : List ℕ) × (x : Record) × Encodes (k ∷ body) x
    plated k low high = (
      0 ∷ 0 ∷ 0 ∷ 1 ∷ 2 ∷ [],
      _,
      Encodes.plated {kind = k} {right = 0} {bed = 0} {n = 0} {k = 1} {j = 2} low high (omega arith) (omega arith) (omega arith) (omega arith) (omega arith) (omega arith) (omega arith),
    )

    work : (k : ℕ) → IN ≤ k → k ≤ KNIT → (body : List ℕ) × (x : Record) × Encodes (k ∷ body) x
    work k low high =
        (0 ∷ 0 ∷ 0 ∷ 1 ∷ [], _, Encodes.work {kind = k} {right = 0} {bed = 0} {n = 0} {k = 1} low high (omega arith) (omega arith) (omega arith) (omega arith) (omega arith))

pub known_exactly : KnownExactly
known_exactly k = ((λ h. some_record (sized_known k h)), λ (body, x, form). λ z. omega (arith, size_exactly (k ∷ body) x form, z))

-- fields of bytes that are read, and of whole bytes that are not
module _ {l : List ℕ} where
  in_range : {d : Reading} → Reads l d → d.number ≡ 0 → fields_ok l ≡ true
  unfolding refused_as
  in_range (Reads.none a) e = absurd (omega arith)
  in_range (Reads.strange a b) e = absurd (omega arith)
  in_range (Reads.short f a b) e = absurd (omega arith)
  in_range (Reads.outside f a b) e = absurd (omega arith)
  in_range (Reads.done f a b) e = b

  out_of_range : {d : Reading} → Reads l d → Whole l → (d.number ≡ 0 → ⊥) → fields_ok l ≡ false
  out_of_range (Reads.none a) w h = absurd (omega (arith, w.some))
  out_of_range (Reads.strange a b) w h = absurd (w.known b)
  out_of_range (Reads.short f a b) w h = absurd (omega (arith, w.long))
  out_of_range (Reads.outside f a b) w h = b
  out_of_range (Reads.done f a b) w h = absurd (h refl)

pub field_exactly : FieldExactly
field_exactly l w = (
  (λ e bytes rest x q form. true≢false (sym (in_range (reads l) (ap (λ (d : Reading). d.number) (ap decode_of q ∙ form_decode form rest))) ∙ e)),
  (λ h. out_of_range (reads l) w (λ e. h (take (decode_of l).size l) (drop (decode_of l).size l) (decode_of l).what (sym (take-append-drop (decode_of l).size l)) (decode_form l e))),
)
