-- Which records enter a needle's history and a carrier's, and that a history is the list of them. Assumes nothing.
use borrow.Table.Steps.{cases}
use Prim.Native.Nat.{ℕ}
use mathlib.Core.Path.{◌≡◌, refl, sym, ap, subst, ◌∙◌}
use mathlib.Core.Bool.{Bool, true, true≢false}
use mathlib.Core.List.{List, [], ◌∷◌}
use mathlib.Core.Logic.{◌↔◌, ◌⊎◌, inl, inr, ⊎_elim}
use lib.Dec.{eqb}
use borrow.Author.Tests.{eqb-true, eq-eqb}
use Rattle.machine.specs.declared.Needle.{Needle}
use Rattle.machine.specs.Machine.{Each, same_needle}
use Rattle.record.specs.declared.Record.{Record}
use Rattle.record.specs.Format.{Encodes}
use Rattle.record.specs.Kinds.{by_kind, hooks_worked, carriers_named}
use Rattle.record.specs.Names.{needles_of, carriers_of}
use Rattle.record.proofs.Shapes.{Known}
use Rattle.record.proofs.Forms.{form_in}
use Rattle.rewrite.specs.Extents.{member}
use Rattle.trace.specs.Lists.{keep}
use Rattle.rewrite.specs.Programs.{member_needle, records_of, needle, carrier, names}
use Rattle.rewrite.specs.Exact.{RecordsAre}
use Rattle.rewrite.specs.Claims.{Enters, EntersExactly, Carries, CarrierExactly, Those, HistoriesExactly}
use Rattle.rewrite.proofs.Commute.{needle_eq}
use Rattle.rewrite.proofs.Records.{form_what}
use Rattle.rewrite.proofs.Exact.{are_records}

-- ---- members of lists of one and of two
same_needle_lem : (n m : Needle) → m ≡ n → same_needle n m ≡ true
unfolding same_needle
same_needle_lem n m e = simp (eq-eqb n.0 m.0 (ap (λ (k : Needle). k.0) (sym e)), eq-eqb n.1 m.1 (ap (λ (k : Needle). k.1) (sym e)))

module _ (n a b : Needle) where
  member_none : member_needle n [] ≡ true → ⊥
  unfolding member_needle
  member_none e = true≢false (sym e)

  one_member : (member_needle n (a ∷ []) ≡ true) ↔ (a ≡ n)
  unfolding member_needle
  one_member = (
    (λ e. cases (same_needle n a) (λ q. sym (needle_eq n a q)) (λ q. absurd (true≢false (sym e ∙ simp q)))),
    (λ e. simp (same_needle_lem n a e)),
  )

  two_members : (member_needle n (a ∷ b ∷ []) ≡ true) ↔ ((a ≡ n) ⊎ (b ≡ n))
  unfolding member_needle
  two_members = (
    (λ e. cases (same_needle n a) (λ q. inl (sym (needle_eq n a q))) λ q.
        cases (same_needle n b) (λ s. inr (sym (needle_eq n b s))) (λ s. absurd (true≢false (sym e ∙ simp (q, s))))),
    ⊎_elim (λ e. simp (same_needle_lem n a e)) (λ e. cases (same_needle n a) (λ q. simp q) (λ q. simp (q, same_needle_lem n b e))),
  )

-- ---- the hooks that a record works, by its kind
module _ (n : Needle) (x : Record) where
  abbrev Named : Type 0
  Named = member_needle n (needles_of x) ≡ true

  works_none : hooks_worked x.kind ≡ 0 → Named → ⊥
  unfolding needles_of
  works_none c e = member_none n x.at x.to (subst (λ (l : List Needle). member_needle n l ≡ true) (simp c) e)

  works_one : hooks_worked x.kind ≡ 1 → Named ↔ (x.at ≡ n)
  unfolding needles_of
  works_one c = let e : needles_of x ≡ x.at ∷ [] = simp c in subst (λ (l : List Needle). (member_needle n l ≡ true) ↔ (x.at ≡ n)) (sym e) (one_member n x.at x.to)

  works_two : hooks_worked x.kind ≡ 2 → Named ↔ ((x.at ≡ n) ⊎ (x.to ≡ n))
  unfolding needles_of
  works_two c =
      let e : needles_of x ≡ x.at ∷ x.to ∷ [] = simp c in
      subst (λ (l : List Needle). (member_needle n l ≡ true) ↔ ((x.at ≡ n) ⊎ (x.to ≡ n))) (sym e) (two_members n x.at x.to)

  named_enters : Known x.kind → Named → Enters n x
  unfolding by_kind
  named_enters (Known.rack k) e = absurd (works_none (simp k) e)
  named_enters (Known.drop k) e = Enters.by_drop k ((works_one (simp k)).0 e)
  named_enters (Known.xfer k) e = ⊎_elim (Enters.xfer_from k) (Enters.xfer_to k) ((works_two (simp k)).0 e)
  named_enters (Known.carrier_in k) e = absurd (works_none (simp k) e)
  named_enters (Known.carrier_out k) e = absurd (works_none (simp k) e)
  named_enters (Known.miss k) e = absurd (works_none (simp k) e)
  named_enters (Known.tuck k) e = Enters.by_tuck k ((works_one (simp k)).0 e)
  named_enters (Known.knit k) e = Enters.by_knit k ((works_one (simp k)).0 e)
  named_enters (Known.split k) e = ⊎_elim (Enters.split_from k) (Enters.split_to k) ((works_two (simp k)).0 e)
  named_enters (Known.plated_tuck k) e = Enters.by_plated_tuck k ((works_one (simp k)).0 e)
  named_enters (Known.plated_knit k) e = Enters.by_plated_knit k ((works_one (simp k)).0 e)

  enters_named : Enters n x → Named
  unfolding by_kind
  enters_named (Enters.by_drop k e) = (works_one (simp k)).1 e
  enters_named (Enters.xfer_from k e) = (works_two (simp k)).1 (inl e)
  enters_named (Enters.xfer_to k e) = (works_two (simp k)).1 (inr e)
  enters_named (Enters.by_tuck k e) = (works_one (simp k)).1 e
  enters_named (Enters.by_knit k e) = (works_one (simp k)).1 e
  enters_named (Enters.split_from k e) = (works_two (simp k)).1 (inl e)
  enters_named (Enters.split_to k e) = (works_two (simp k)).1 (inr e)
  enters_named (Enters.by_plated_tuck k e) = (works_one (simp k)).1 e
  enters_named (Enters.by_plated_knit k e) = (works_one (simp k)).1 e

pub enters_exactly : EntersExactly
enters_exactly n bytes x form = rw (form_what form) (named_enters n x (form_in form).known, enters_named n x)

-- ---- the carrier
module _ (k : ℕ) (x : Record) where
  abbrev Carried : Type 0
  Carried = member k (carriers_of x) ≡ true

  names_none : carriers_named x.kind ≡ 0 → Carried → ⊥
  unfolding member carriers_of
  names_none c e = true≢false (sym e ∙ simp c)

  names_one : carriers_named x.kind ≡ 1 → Carried ↔ (x.carrier ≡ k)
  unfolding member carriers_of
  names_one c = (
    (λ e. cases (eqb k x.carrier) (λ q. sym (eqb-true k x.carrier q)) (λ q. absurd (true≢false (sym e ∙ simp (c, q))))),
    (λ e. simp (c, eq-eqb k x.carrier (sym e))),
  )

  names_two : carriers_named x.kind ≡ 2 → Carried ↔ ((x.carrier ≡ k) ⊎ (x.second ≡ k))
  unfolding member carriers_of
  names_two c = (
    (λ e. cases (eqb k x.carrier) (λ q. inl (sym (eqb-true k x.carrier q))) λ q.
        cases (eqb k x.second) (λ s. inr (sym (eqb-true k x.second s))) (λ s. absurd (true≢false (sym e ∙ simp (c, q, s))))),
    ⊎_elim (λ e. simp (c, eq-eqb k x.carrier (sym e))) (λ e. cases (eqb k x.carrier) (λ q. simp (c, q)) (λ q. simp (c, q, eq-eqb k x.second (sym e)))),
  )

  named_carries : Known x.kind → Carried → Carries k x
  unfolding by_kind
  named_carries (Known.rack c) e = absurd (names_none (simp c) e)
  named_carries (Known.drop c) e = absurd (names_none (simp c) e)
  named_carries (Known.xfer c) e = absurd (names_none (simp c) e)
  named_carries (Known.carrier_in c) e = Carries.by_in c ((names_one (simp c)).0 e)
  named_carries (Known.carrier_out c) e = Carries.by_out c ((names_one (simp c)).0 e)
  named_carries (Known.miss c) e = Carries.by_miss c ((names_one (simp c)).0 e)
  named_carries (Known.tuck c) e = Carries.by_tuck c ((names_one (simp c)).0 e)
  named_carries (Known.knit c) e = Carries.by_knit c ((names_one (simp c)).0 e)
  named_carries (Known.split c) e = Carries.by_split c ((names_one (simp c)).0 e)
  named_carries (Known.plated_tuck c) e = ⊎_elim (Carries.plated_tuck_first c) (Carries.plated_tuck_second c) ((names_two (simp c)).0 e)
  named_carries (Known.plated_knit c) e = ⊎_elim (Carries.plated_knit_first c) (Carries.plated_knit_second c) ((names_two (simp c)).0 e)

  carries_named : Carries k x → Carried
  unfolding by_kind
  carries_named (Carries.by_in c e) = (names_one (simp c)).1 e
  carries_named (Carries.by_out c e) = (names_one (simp c)).1 e
  carries_named (Carries.by_miss c e) = (names_one (simp c)).1 e
  carries_named (Carries.by_tuck c e) = (names_one (simp c)).1 e
  carries_named (Carries.by_knit c e) = (names_one (simp c)).1 e
  carries_named (Carries.by_split c e) = (names_one (simp c)).1 e
  carries_named (Carries.plated_tuck_first c e) = (names_two (simp c)).1 (inl e)
  carries_named (Carries.plated_tuck_second c e) = (names_two (simp c)).1 (inr e)
  carries_named (Carries.plated_knit_first c e) = (names_two (simp c)).1 (inl e)
  carries_named (Carries.plated_knit_second c e) = (names_two (simp c)).1 (inr e)

pub carrier_exactly : CarrierExactly
carrier_exactly k bytes x form = rw (form_what form) (named_carries k x (form_in form).known, carries_named k x)

-- ---- the list of them: what a test keeps, where the test says whether a record is one of those
module _ (f : List ℕ → Bool) (P : Record → Type 0) (says : (bytes : List ℕ) (x : Record) → Encodes bytes x → (f bytes ≡ true) ↔ P x) where
  kept_those : (l : List (List ℕ)) → Each (λ (x : List ℕ). (r : Record) × Encodes x r) l → Those P l (keep f l)
  kept_those [] w = Those.none
  kept_those (bytes ∷ l) ((x, form), w) =
      cases (f bytes) (λ e. rw e (Those.enters form ((says bytes x form).0 e) (kept_those l w)))
      (λ e. rw e (Those.passes form (λ p. true≢false (sym ((says bytes x form).1 p) ∙ e)) (kept_those l w)))

  those_kept : {l h : List (List ℕ)} → Those P l h → keep f l ≡ h
  those_kept Those.none = refl
  those_kept (Those.enters {bytes} {x} {l} {h} form p t) = rw ((says bytes x form).1 p) (ap (λ (m : List (List ℕ)). bytes ∷ m) (those_kept t))
  those_kept (Those.passes {bytes} {x} {l} {h} form d t) = cases (f bytes) (λ e. absurd (d ((says bytes x form).0 e))) (λ e. rw e (those_kept t))

  history : (p : List ℕ) (l h : List (List ℕ)) → RecordsAre p l → (keep f (records_of p) ≡ h) ↔ Those P l h
  history p l h a =
      subst (λ (m : List (List ℕ)). (keep f m ≡ h) ↔ Those P l h) (sym (are_records a)) ((λ e. subst (Those P l) e (kept_those l a.each)), those_kept)

pub histories_exactly : HistoriesExactly
histories_exactly p l h a = (
  (λ n. history (names (needle n)) (Enters n) (enters_exactly n) p l h a),
  (λ k. history (names (carrier k)) (Carries k) (carrier_exactly k) p l h a),
)
