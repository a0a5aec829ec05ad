-- The call beside the rewriter. Assumes nothing.
use Prim.Native.Nat.{ℕ, ◌≤◌}
use mathlib.Core.Path.{◌≡◌, refl, sym, subst, ◌∙◌}
use mathlib.Core.List.{List, [], ◌++◌, append-nil}
use mathlib.Core.Logic.{◌↔◌}
use native.Mathlib.Omega.{arith}
use lib.IntN.{ℤ, nat_abs}
use Rattle.machine.specs.Limits.{racking_most}
use Rattle.machine.specs.declared.Racking.{Racking}
use Rattle.record.specs.declared.Record.{Record}
use Rattle.record.specs.Format.{Encodes}
use Rattle.rewrite.specs.Extents.{Share}
use Rattle.rewrite.specs.Programs.{what}
use Rattle.rewrite.specs.Exact.{Tied}
use Rattle.tie.specs.declared.Tied as told
use Rattle.tie.specs.Tie.{only_number, tie_of}
use Rattle.tie.specs.Exact.{Begins, Unread, OneRack, Both, Ties, Tells}
use Rattle.tie.specs.Claims.{SaysTied, TieAsRewriter, TieEitherWay, RestUnlooked}
use Rattle.tie.proofs.Exact.{begins_read, unread_number, tie_exactly}
use Rattle.tie.proofs.Carriers.{named_member, member_named}

-- bytes that are a record, with anything behind them
begins : {p : List ℕ} {x : Record} (rest : List ℕ) → Encodes p x → Begins (p ++ rest) x
begins {p} rest form = record { bytes = p; rest = rest; whole = refl; form = form }

begins_alone : {p : List ℕ} {x : Record} → Encodes p x → Begins p x
begins_alone {p} form = record { bytes = p; rest = []; whole = sym (append-nil p); form = form }

what_is : {p : List ℕ} {x : Record} → Encodes p x → what p ≡ x
what_is form = (begins_read (begins_alone form)).1

-- ---- the words of a tie, there and here
module _ (r : Racking) (p q : List ℕ) where
  abbrev x : Record
  x = what p

  abbrev y : Record
  y = what q

  untied_words : (OneRack x y → ⊥) → ((k : ℕ) → Both x y k → ⊥) → (Share r x y → ⊥) → Tied r p q → ⊥
  untied_words d n s (Tied.first_rack e) = d (OneRack.first e)
  untied_words d n s (Tied.second_rack e) = d (OneRack.second e)
  untied_words d n s (Tied.one_carrier k a b) = n k (member_named x k a, member_named y k b)
  untied_words d n s (Tied.extents_meet t) = s t

  -- an answer is 13 and they are tied, or 0 and they are not
  data Verdict : ℕ → Type 0 where
    yes : Tied r p q → Verdict 13
    no : (Tied r p q → ⊥) → Verdict 0

  verdict : {t : told.Tied} → Ties r x y t → Verdict t.number
  verdict (Ties.a_rack (OneRack.first e)) = Verdict.yes (Tied.first_rack e)
  verdict (Ties.a_rack (OneRack.second e)) = Verdict.yes (Tied.second_rack e)
  verdict (Ties.one_carrier d k s) = Verdict.yes (Tied.one_carrier k (named_member x k s.both.0) (named_member y k s.both.1))
  verdict (Ties.extents_meet d n e s) = Verdict.yes (Tied.extents_meet s.some)
  verdict (Ties.untied d n s) = Verdict.no (untied_words d n s)

-- ---- two records are both read
not_unread : {l : List ℕ} {n : ℕ} {w : Record} → Encodes l w → Unread l n → ⊥
not_unread form u = let (e, some) = unread_number u in some (sym e ∙ (begins_read (begins_alone form)).0)

-- a racking out of range, or what ties them
data Two (z : ℤ) (x y : Record) : told.Tied → Type 0 where
  bad : (nat_abs z ≤ racking_most → ⊥) → Two z x y (only_number 15)
  fair : {t : told.Tied} → nat_abs z ≤ racking_most → Ties (record { 0 = z }) x y t → Two z x y t

module _ (z : ℤ) {p q : List ℕ} {x y : Record} (f : Encodes p x) (g : Encodes q y) where
  two : {t : told.Tied} → Tells z p q t → Two z x y t
  two (Tells.bad_racking d) = Two.bad d
  two (Tells.first_unread near n u) = absurd (not_unread f u)
  two (Tells.second_unread near w b n u) = absurd (not_unread g u)
  two (Tells.told near v w b c t s) =
      let a : v ≡ x = sym (begins_read b).1 ∙ what_is f in
      let e : w ≡ y = sym (begins_read c).1 ∙ what_is g in
      Two.fair near (subst (λ (u : Record). Ties (record { 0 = z }) u y t) a (subst (λ (u : Record). Ties (record { 0 = z }) v u t) e s))

  -- what is told of them
  they : Two z x y (tie_of z p q)
  they = two ((tie_exactly z p q (tie_of z p q)).0 refl)

-- it is told of all that begin so
tell : {z : ℤ} {p q : List ℕ} {x y : Record} {t : told.Tied} → Begins p x → Begins q y → Two z x y t → tie_of z p q ≡ t
tell {z} {p} {q} {x} {y} {t} f g (Two.bad d) = (tie_exactly z p q (only_number 15)).1 (Tells.bad_racking d)
tell {z} {p} {q} {x} {y} {t} f g (Two.fair near s) = (tie_exactly z p q t).1 (Tells.told near x y f g t s)

pub tie_as_rewriter : TieAsRewriter
tie_as_rewriter z p q x y near f g = go (they z f g) refl
  where
    r : Racking
    r = record { 0 = z }

    says : {n : ℕ} → Verdict r p q n → ((n ≡ 13) ↔ Tied r p q) × ((n ≡ 0) ↔ (Tied r p q → ⊥))
    says (Verdict.yes t) = ((λ e. t, λ w. refl), (λ e. absurd (omega arith), λ d. absurd (d t)))
    says (Verdict.no d) = ((λ e. absurd (omega arith), λ t. absurd (d t)), (λ e. d, λ w. refl))

    go : {t : told.Tied} → Two z x y t → tie_of z p q ≡ t → SaysTied z p q
    go (Two.bad d) e = absurd (d near)
    go {t} (Two.fair a s) e =
        let w = subst (λ (u : Record). Ties r u y t) (sym (what_is f)) s in
        let v = says (subst (λ (u : told.Tied). Verdict r p q u.number) (sym e) (verdict r p q (subst (λ (u : Record). Ties r (what p) u t) (sym (what_is g)) w))) in
        record { tied = v.0; untied = v.1 }

-- ---- the other way round
rack_turned : {x y : Record} → OneRack x y → OneRack y x
rack_turned (OneRack.first e) = OneRack.second e
rack_turned (OneRack.second e) = OneRack.first e

turned : {r : Racking} {x y : Record} {t : told.Tied} → Ties r x y t → Ties r y x t
turned (Ties.a_rack o) = Ties.a_rack (rack_turned o)
turned (Ties.one_carrier d k s) =
    Ties.one_carrier (λ o. d (rack_turned o)) k (record { both = (s.both.1, s.both.0); lowest = λ j (a, b). s.lowest j (b, a) })
turned (Ties.extents_meet d n e s) =
    let (h, layer, a, b) = s.some in
    Ties.extents_meet (λ o. d (rack_turned o)) (λ k (a, b). n k (b, a)) e
    (record { some = (h, layer, b, a); exactly = λ h layer. (λ c. let (a, b) = (s.exactly h layer).0 c in (b, a), λ (a, b). (s.exactly h layer).1 (b, a)) })
turned (Ties.untied d n s) = Ties.untied (λ o. d (rack_turned o)) (λ k (a, b). n k (b, a)) (λ (h, layer, a, b). s (h, layer, b, a))

turned_two : {z : ℤ} {x y : Record} {t : told.Tied} → Two z x y t → Two z y x t
turned_two (Two.bad d) = Two.bad d
turned_two (Two.fair near s) = Two.fair near (turned s)

pub tie_either_way : TieEitherWay
tie_either_way z p q x y f g = sym (tell (begins_alone g) (begins_alone f) (turned_two (they z f g)))

pub rest_unlooked : RestUnlooked
rest_unlooked z p q x y rest more f g = tell (begins rest f) (begins more g) (they z f g)
