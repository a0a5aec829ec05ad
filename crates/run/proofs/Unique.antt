-- Whatever is a first refusal of a program is the run's. Assumes nothing.
use Prim.Native.Nat.{ℕ, ◌+◌, ◌≤◌, ◌<◌}
use mathlib.Core.Path.{◌≡◌, sym, ap, ◌∙◌}
use mathlib.Core.List.{List, [], ◌∷◌, ◌++◌, append_assoc}
use native.Mathlib.Omega.{arith}
use lib.ListN.{length, take, drop, length-append, length-drop, take-append-drop}
use lib.Seq.{length-take-le}
use Rattle.machine.specs.declared.State.{State}
use Rattle.machine.specs.Machine.{empty_state}
use Rattle.machine.specs.Range.{LimitInRange}
use Rattle.record.specs.Format.{decode_of}
use Rattle.record.proofs.Forms.{decode_form, decode_in}
use Rattle.run.specs.Run.{Reached}
use Rattle.run.specs.declared.Answer.{Answer}
use Rattle.run.specs.Relation.{Steps}
use Rattle.run.specs.Reason.{First}
use Rattle.run.specs.Step.{apply_of}
use Rattle.run.specs.Run.{reached, run_from, answer_of, run_of}
use Rattle.run.specs.Claims.{FirstRefusal}
use Rattle.run.proofs.Refusals.{first_is_one}
use Rattle.run.proofs.Sound.{step_sound}
use Rattle.run.proofs.Bytes.{bytes_first_lem, step_first, reason_no_step}
use Rattle.run.proofs.Runs.{Turns, turns, on_form}
use Rattle.run.proofs.Answers.{short_run}

-- records that have their steps, before others
run_prefix : {s t : State} {q : List ℕ} → Steps s q t → (r : List ℕ) (at : ℕ) → run_from 0 (q ++ r) at s ≡ run_from 0 r (at + length q) t
run_prefix {s} Steps.none r at = let e : at ≡ at + 0 = omega arith in ap (λ (n : ℕ). run_from 0 r n s) e
run_prefix {s} {t} (Steps.next {bytes = bytes} {rest = rest} form step more) r at =
    let e : at + length bytes + length rest ≡ at + length (bytes ++ rest) = omega (arith, length-append bytes rest) in
    ap (λ (l : List ℕ). run_from 0 l at s) (append_assoc bytes rest r)
    ∙ on_form form step (rest ++ r) at ∙ run_prefix more r (at + length bytes) ∙ ap (λ (n : ℕ). run_from 0 r n t) e

stops_there : (l : List ℕ) (at n : ℕ) (s : State) → 0 < length l → First n s l → run_from 0 l at s ≡ reached n at s
stops_there [] at n s h r = absurd (omega arith)
stops_there (b ∷ l) at n s h r = go (turns b l at s)
  where
    go : {a : Reached} → Turns (b ∷ l) at s a → a ≡ reached n at s
    go (Turns.unread k) = ap (λ (m : ℕ). reached m at s) (first_is_one (bytes_first_lem s (b ∷ l) k) r)
    go (Turns.stopped e k) = ap (λ (m : ℕ). reached m at s) (first_is_one (step_first s (b ∷ l) e k) r)
    go (Turns.passed e z) =
        let d = decode_of (b ∷ l) in
        absurd (reason_no_step r.reason (take d.size (b ∷ l)) (drop d.size (b ∷ l)) d.what (apply_of s d.what)
        (sym (take-append-drop d.size (b ∷ l))) (decode_form (b ∷ l) e) (step_sound s d.what (decode_in (b ∷ l) e) z))

pub one_refusal : {limit : ℕ} → LimitInRange limit → (p : List ℕ) (a : Answer) → length p ≤ 32768 → FirstRefusal limit p a
    → run_of limit p ≡ answer_of (reached a.number a.place a.state)
one_refusal {limit} i p a h f =
    let k = a.place in
    let e : 0 + length (take k p) ≡ k = omega (arith, length-take-le k p (omega (arith, f.within))) in
    short_run i p h
    ∙ ap answer_of
    (ap (λ (l : List ℕ). run_from 0 l 0 (empty_state limit)) (sym (take-append-drop k p))
    ∙ run_prefix f.before (drop k p) 0
    ∙ ap (λ (n : ℕ). run_from 0 (drop k p) n a.state) e
    ∙ stops_there (drop k p) k a.number a.state (omega (arith, length-drop k p, f.within)) f.first)
