-- The run against the relation: it goes through the records that have their steps, and stops at the first that has none. Assumes nothing.
use Prim.Native.Nat.{ℕ, zero, suc, ◌+◌, ◌≤◌, ◌<◌}
use mathlib.Core.Path.{◌≡◌, refl, sym, ap, subst, ◌∙◌}
use mathlib.Core.List.{List, [], ◌∷◌, ◌++◌, append-nil, append_assoc}
use native.Mathlib.Omega.{arith}
use lib.ListN.{length, take, drop, length-drop, length-set, length-map, take-append-drop}
use lib.Seq.{drop-append_seam, drop-drop, take-add}
use Rattle.machine.specs.declared.State.{State}
use Rattle.record.specs.declared.Record.{Record}
use Rattle.record.specs.Format.{Reading, Encodes, decode_of}
use Rattle.record.proofs.Forms.{form_decode, form_in, decode_size, decode_form, decode_in}
use Rattle.run.specs.Run.{Reached}
use Rattle.run.specs.Relation.{Step, Steps}
use Rattle.run.specs.Reason.{First}
use Rattle.run.specs.Step.{number_at, apply_of}
use Rattle.run.specs.Run.{reached, run_from}
use Rattle.run.proofs.Turns.{run_end, run_refused, run_stopped, run_next}
use Rattle.record.proofs.Shapes.{is}
use Rattle.run.proofs.Sound.{step_only, step_sound}
use Rattle.run.proofs.Bytes.{bytes_first_lem, step_first}

-- what becomes of a list with a byte: refused by its bytes, refused by its step, or gone on with
pub data Turns (l : List ℕ) (at : ℕ) (s : State) : Reached → Type 0 where
  unread : ((decode_of l).number ≡ 0 → ⊥) → Turns l at s (reached (decode_of l).number at s)
  stopped : (decode_of l).number ≡ 0 → (number_at s (decode_of l).what ≡ 0 → ⊥) → Turns l at s (reached (number_at s (decode_of l).what) at s)
  passed : (decode_of l).number ≡ 0 → number_at s (decode_of l).what ≡ 0
      → Turns l at s (run_from 0 (drop (decode_of l).size l) (at + (decode_of l).size) (apply_of s (decode_of l).what))

pub turns : (b : ℕ) (l : List ℕ) (at : ℕ) (s : State) → Turns (b ∷ l) at s (run_from 0 (b ∷ l) at s)
turns b l at s =
    is (decode_of (b ∷ l)).number 0
    (λ e. is (number_at s (decode_of (b ∷ l)).what) 0 (λ z. rw (run_next (b ∷ l) at s (omega arith) e z) (Turns.passed e z))
    (λ h. rw (run_stopped (b ∷ l) at s (omega arith) e h) (Turns.stopped e h)))
    (λ h. rw (run_refused (b ∷ l) at s (omega arith) h) (Turns.unread h))

-- ---- a list of records that have their steps is run to its end
pub on_form : {bytes : List ℕ} {x : Record} {s t : State} → Encodes bytes x → Step s x t → (rest : List ℕ) (at : ℕ) → run_from 0 (bytes ++ rest) at s ≡ run_from 0 rest (at + length bytes) t
on_form {bytes} {x} {s} {t} form step rest at =
    let e = form_decode form rest in
    let (z, u) = step_only s x (form_in form) step in
    let k : (decode_of (bytes ++ rest)).number ≡ 0 = ap (λ (d : Reading). d.number) e in
    run_next (bytes ++ rest) at s (omega (arith, decode_size (bytes ++ rest) k)) k (ap (λ (d : Reading). number_at s d.what) e ∙ z)
    ∙ ap (λ (d : Reading). run_from 0 (drop d.size (bytes ++ rest)) (at + d.size) (apply_of s d.what)) e
    ∙ ap (λ (l : List ℕ). run_from 0 l (at + length bytes) (apply_of s x)) (drop-append_seam bytes rest) ∙ ap (run_from 0 rest (at + length bytes)) u

pub run_steps : {s t : State} {p : List ℕ} → Steps s p t → (at : ℕ) → run_from 0 p at s ≡ reached 0 0 t
run_steps {s} Steps.none at = run_end at s
run_steps (Steps.next {bytes = bytes} {rest = rest} form step more) at = on_form form step rest at ∙ run_steps more (at + length bytes)

-- ---- every run ends so or stops at a refusal
pub data Ends (p : List ℕ) (at : ℕ) (s : State) : Reached → Type 0 where
  through : {t : State} → Steps s p t → Ends p at s (reached 0 0 t)
  refused : {n place k : ℕ} {t : State} → place ≡ at + k → k < length p → Steps s (take k p) t → First n t (drop k p) → Ends p at s (reached n place t)

module _ (p : List ℕ) (at : ℕ) (s : State) (e : (decode_of p).number ≡ 0) (z : number_at s (decode_of p).what ≡ 0) where
  abbrev size : ℕ
  size = (decode_of p).size

  go_on : {r : Reached} → Ends (drop size p) (at + size) (apply_of s (decode_of p).what) r → Ends p at s r
  go_on (Ends.through {t = t} more) =
      Ends.through (subst (λ (l : List ℕ). Steps s l t) (take-append-drop size p) (Steps.next (decode_form p e) (step_sound s (decode_of p).what (decode_in p e) z) more))
  go_on (Ends.refused {n = n} {place = place} {k = k} {t = t} w h before r) =
      let (a, b) = decode_size p e in
      Ends.refused {place = place} {k = size + k} (omega arith) (omega (arith, length-drop size p))
      (subst (λ (l : List ℕ). Steps s l t) (sym (take-add size k p)) (Steps.next (decode_form p e) (step_sound s (decode_of p).what (decode_in p e) z) before))
      (subst (First n t) (drop-drop k size p) r)

next : (b : ℕ) (l : List ℕ) (at : ℕ) (s : State)
    → ((q : List ℕ) → length q ≤ length l → (at : ℕ) (s : State) → Ends q at s (run_from 0 q at s)) → Ends (b ∷ l) at s (run_from 0 (b ∷ l) at s)
next b l at s more = go (turns b l at s)
  where
    go : {r : Reached} → Turns (b ∷ l) at s r → Ends (b ∷ l) at s r
    go (Turns.unread h) = Ends.refused {place = at} {k = 0} (omega arith) (omega arith) Steps.none (bytes_first_lem s (b ∷ l) h)
    go (Turns.stopped e h) = Ends.refused {place = at} {k = 0} (omega arith) (omega arith) Steps.none (step_first s (b ∷ l) e h)
    go (Turns.passed e z) =
        go_on (b ∷ l) at s e z
        (more (drop (decode_of (b ∷ l)).size (b ∷ l)) (omega (arith, length-drop (decode_of (b ∷ l)).size (b ∷ l), decode_size (b ∷ l) e)) _ _)

pub runs : (bound : ℕ) (p : List ℕ) → length p ≤ bound → (at : ℕ) (s : State) → Ends p at s (run_from 0 p at s)
runs zero [] h at s = rw (run_end at s) (Ends.through Steps.none)
runs (suc bound) [] h at s = rw (run_end at s) (Ends.through Steps.none)
runs zero (b ∷ l) h at s = absurd (omega arith)
runs (suc bound) (b ∷ l) h at s = next b l at s (λ q w. runs bound q (omega arith))

-- ---- a step keeps how many hooks and carriers there are, and the limit
pub record SameFrame (s t : State) : Type 0 where
  pub loops : length t.loops ≡ length s.loops
  pub limit : t.limit ≡ s.limit
  pub carriers : length t.carriers ≡ length s.carriers

pub step_frame : {s : State} {x : Record} {t : State} → Step s x t → SameFrame s t
step_frame (Step.rack e u) = record { loops = refl; limit = refl; carriers = refl }
step_frame (Step.drop e) = record { loops = simp length-set; limit = refl; carriers = refl }
step_frame (Step.xfer e o r) = record { loops = simp length-set; limit = refl; carriers = simp length-map }
step_frame (Step.carrier_in e c) = record { loops = refl; limit = refl; carriers = simp length-set }
step_frame (Step.carrier_out e p) = record { loops = refl; limit = refl; carriers = simp length-set }
step_frame (Step.miss e p) = record { loops = refl; limit = refl; carriers = simp length-set }
step_frame (Step.tuck e p h r) = record { loops = simp length-set; limit = refl; carriers = simp length-set }
step_frame (Step.knit e p h) = record { loops = simp length-set; limit = refl; carriers = simp length-set }
step_frame (Step.split e p h o r) = record { loops = simp length-set; limit = refl; carriers = simp (length-set, length-map) }
step_frame (Step.plated_tuck e two p q h i r) = record { loops = simp length-set; limit = refl; carriers = simp length-set }
step_frame (Step.plated_knit e two p q h i r) = record { loops = simp length-set; limit = refl; carriers = simp length-set }

pub steps_frame : {s t : State} {p : List ℕ} → Steps s p t → SameFrame s t
steps_frame Steps.none = record { loops = refl; limit = refl; carriers = refl }
steps_frame (Steps.next form step more) =
    let a = step_frame step in let b = steps_frame more in
    record { loops = b.loops ∙ a.loops; limit = b.limit ∙ a.limit; carriers = b.carriers ∙ a.carriers }

-- and so does a run
pub run_frame : (p : List ℕ) (at : ℕ) (s : State) → SameFrame s (run_from 0 p at s).state
run_frame p at s = kept (runs (length p) p (omega arith) at s)
  where
    kept : {r : Reached} → Ends p at s r → SameFrame s r.state
    kept (Ends.through steps) = steps_frame steps
    kept (Ends.refused w h before r) = steps_frame before

-- ---- one record more behind others
pub steps_on : {s t u : State} {p bytes : List ℕ} {x : Record} → Steps s p t → Encodes bytes x → Step t x u → Steps s (p ++ bytes) u
steps_on {s = s} {u = u} {bytes = bytes} Steps.none form step = subst (λ (l : List ℕ). Steps s l u) (append-nil bytes) (Steps.next form step Steps.none)
steps_on {s = s} {u = u} {bytes = bytes} (Steps.next {bytes = b} {rest = rest} f g more) form step =
    subst (λ (l : List ℕ). Steps s l u) (sym (append_assoc b rest bytes)) (Steps.next f g (steps_on more form step))
