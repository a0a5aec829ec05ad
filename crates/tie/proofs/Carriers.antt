-- The least carrier that two records name. Assumes nothing.
use borrow.Table.Steps.{cases}
use Prim.Native.Nat.{ℕ, ◌≤◌}
use mathlib.Core.Path.{◌≡◌, refl, sym, subst, ◌∙◌}
use mathlib.Core.Bool.{true, true≢false}
use mathlib.Core.List.{List, [], ◌∷◌}
use native.Mathlib.Omega.{arith}
use lib.Dec.{eqb, ltb}
use borrow.Author.Tests.{eq-eqb, ne_eqb, eqb-true, ltb-true, ltb-false}
use Rattle.record.specs.declared.Record.{Record}
use Rattle.record.specs.Kinds.{carriers_named}
use Rattle.record.specs.Names.{carriers_of}
use Rattle.record.proofs.Ranges.{InRange}
use Rattle.record.proofs.Shapes.{is, Count, none, one, two, carrier_count_lem}
use Rattle.run.specs.Reason.{NamesCarrier}
use Rattle.rewrite.specs.Extents.{member}
use Rattle.rewrite.proofs.Carriers.{none_named, one_named, two_named}
use Rattle.tie.specs.Tie.{lower, called_in, least, least_shared}
use Rattle.tie.specs.Exact.{Both, LeastShared}

-- ---- a record's carriers
module _ (x : Record) (k : ℕ) where
  pub named_member : NamesCarrier x k → member k (carriers_of x) ≡ true
  unfolding member
  named_member n = go (carrier_count_lem x.kind) refl n
    where
      go : {m : ℕ} → Count m → carriers_named x.kind ≡ m → NamesCarrier x k → member k (carriers_of x) ≡ true
      go none e (NamesCarrier.first h q) = absurd (omega arith)
      go none e (NamesCarrier.second h q) = absurd (omega arith)
      go one e (NamesCarrier.first h q) = simp (one_named x e, eq-eqb k x.carrier (sym q))
      go one e (NamesCarrier.second h q) = absurd (omega arith)
      go two e (NamesCarrier.first h q) = simp (two_named x e, eq-eqb k x.carrier (sym q))
      go two e (NamesCarrier.second h q) = is k x.carrier (λ f. simp (two_named x e, eq-eqb k x.carrier f)) (λ f. simp (two_named x e, ne_eqb k x.carrier f, eq-eqb k x.second (sym q)))

  pub member_named : member k (carriers_of x) ≡ true → NamesCarrier x k
  unfolding member
  member_named n = go (carrier_count_lem x.kind) refl n
    where
      go : {m : ℕ} → Count m → carriers_named x.kind ≡ m → member k (carriers_of x) ≡ true → NamesCarrier x k
      go none e n = absurd (true≢false (sym (sym (simp (none_named x e)) ∙ n)))
      go one e n =
          is k x.carrier (λ f. NamesCarrier.first (omega arith) (sym f))
          (λ f. absurd (true≢false (sym (sym (simp (one_named x e, ne_eqb k x.carrier f)) ∙ n))))
      go two e n =
          is k x.carrier (λ f. NamesCarrier.first (omega arith) (sym f))
          (λ f. is k x.second (λ g. NamesCarrier.second e (sym g))
          (λ g. absurd (true≢false (sym (sym (simp (two_named x e, ne_eqb k x.carrier f, ne_eqb k x.second g)) ∙ n)))))

-- a carrier that a record names is not 0
pub named_some : {x : Record} {k : ℕ} → InRange x → NamesCarrier x k → 1 ≤ k
named_some h (NamesCarrier.first a q) = omega (arith, h.carrier_low a)
named_some h (NamesCarrier.second a q) = omega (arith, h.second_low a)

-- ---- the lower of two, where 0 is none
data Lower (a b : ℕ) : ℕ → Type 0 where
  first : (1 ≤ a) → (b ≡ 0 → ⊥) → a ≤ b → Lower a b a
  first_alone : b ≡ 0 → Lower a b a
  second : b ≤ a → (1 ≤ b) → Lower a b b
  second_alone : a ≡ 0 → Lower a b b

lowers : (a b : ℕ) → Lower a b (lower a b)
unfolding lower
lowers a b =
    is a 0 (λ e. rw (eq-eqb a 0 e) (Lower.second_alone e))
    (λ d. is b 0 (λ e. rw (ne_eqb a 0 d, eq-eqb b 0 e) (Lower.first_alone e))
    (λ f. cases (ltb a b) (λ t. rw (ne_eqb a 0 d, ne_eqb b 0 f, t) (Lower.first (omega arith) f (omega (arith, ltb-true a b t))))
    (λ t. rw (ne_eqb a 0 d, ne_eqb b 0 f, t) (Lower.second (omega (arith, ltb-false a b t)) (omega arith)))))

-- ---- the least of a list that a record names
module _ (y : Record) where
  -- the first of the list
  called_some : (k : ℕ) → (called_in y k ≡ 0 → ⊥) → (member k (carriers_of y) ≡ true) × (called_in y k ≡ k)
  called_some k d = cases (member k (carriers_of y)) (λ t. (t, simp t)) (λ t. absurd (d (simp t)))

  called_is : (k : ℕ) → member k (carriers_of y) ≡ true → called_in y k ≡ k
  called_is k t = simp t

  -- if it is not 0 it is in the list, and the record names it
  pub least_in : (l : List ℕ) → (least y l ≡ 0 → ⊥) → (member (least y l) l ≡ true) × (member (least y l) (carriers_of y) ≡ true)
  unfolding least member
  least_in [] d = absurd (d refl)
  least_in (k ∷ l) d = go (λ f. least_in l f) (lowers (called_in y k) (least y l)) refl
    where
      In : ℕ → Type 0
      In n = (member n (k ∷ l) ≡ true) × (member n (carriers_of y) ≡ true)

      here : (called_in y k ≡ 0 → ⊥) → In (called_in y k)
      here f = let (t, e) = called_some k f in subst In (sym e) (simp (eq-eqb k k refl), t)

      there : (member (least y l) l ≡ true) × (member (least y l) (carriers_of y) ≡ true) → In (least y l)
      there (a, b) = (cases (eqb (least y l) k) (λ t. simp t) (λ t. simp (t, a)), b)

      go : ((least y l ≡ 0 → ⊥) → (member (least y l) l ≡ true) × (member (least y l) (carriers_of y) ≡ true)) → {n : ℕ} → Lower (called_in y k) (least y l) n
          → lower (called_in y k) (least y l) ≡ n → In (lower (called_in y k) (least y l))
      go more (Lower.first a b c) e = subst In (sym e) (here (λ q. omega arith))
      go more (Lower.first_alone a) e = subst In (sym e) (here (λ q. d (e ∙ q)))
      go more (Lower.second a b) e = subst In (sym e) (there (more (λ q. omega arith)))
      go more (Lower.second_alone a) e = subst In (sym e) (there (more (λ q. d (e ∙ q))))

  -- a carrier of the list that the record names, and is not 0: it is not 0 either, and no greater
  pub least_lowest : (l : List ℕ) (k : ℕ) → 1 ≤ k → member k l ≡ true → member k (carriers_of y) ≡ true → (1 ≤ least y l) × (least y l ≤ k)
  unfolding least member
  least_lowest [] k h a b = absurd (true≢false (sym a))
  least_lowest (j ∷ l) k h a b = cases (eqb k j) (λ t. here (eqb-true k j t)) (λ t. there (least_lowest l k h (sym (simp t) ∙ a) b))
    where
      Low : ℕ → Type 0
      Low n = (1 ≤ n) × (n ≤ k)

      here : k ≡ j → Low (lower (called_in y j) (least y l))
      here e = go (lowers (called_in y j) (least y l)) (called_is j (subst (λ (n : ℕ). member n (carriers_of y) ≡ true) e b) ∙ sym e)
        where
          go : {n : ℕ} → Lower (called_in y j) (least y l) n → called_in y j ≡ k → Low n
          go (Lower.first p q r) f = (omega arith, omega arith)
          go (Lower.first_alone p) f = (omega arith, omega arith)
          go (Lower.second p q) f = (omega arith, omega arith)
          go (Lower.second_alone p) f = (omega arith, omega arith)

      there : Low (least y l) → Low (lower (called_in y j) (least y l))
      there (p, q) = go (lowers (called_in y j) (least y l))
        where
          go : {n : ℕ} → Lower (called_in y j) (least y l) n → Low n
          go (Lower.first a b c) = (omega arith, omega arith)
          go (Lower.first_alone a) = absurd (omega arith)
          go (Lower.second a b) = (omega arith, omega arith)
          go (Lower.second_alone a) = (p, q)

-- ---- of two records in range
module _ (x y : Record) (h : InRange x) where
  pub shared_none : least_shared x y ≡ 0 → (k : ℕ) → Both x y k → ⊥
  shared_none e k (a, b) = let low = least_lowest y (carriers_of x) k (named_some h a) (named_member x k a) (named_member y k b) in omega (arith, low.0)

  pub none_shared : ((k : ℕ) → Both x y k → ⊥) → least_shared x y ≡ 0
  none_shared d =
      is (least_shared x y) 0 (λ e. e) (λ f. let (a, b) = least_in y (carriers_of x) f in absurd (d (least_shared x y) (member_named x (least_shared x y) a, member_named y (least_shared x y) b)))

  pub shared_least : (least_shared x y ≡ 0 → ⊥) → LeastShared x y (least_shared x y)
  shared_least f =
      let (a, b) = least_in y (carriers_of x) f in
      record {
        both = (member_named x (least_shared x y) a, member_named y (least_shared x y) b);
        lowest = λ j (p, q). (least_lowest y (carriers_of x) j (named_some h p) (named_member x j p) (named_member y j q)).1;
      }

  pub least_shared_lem : {k : ℕ} → LeastShared x y k → (least_shared x y ≡ k) × (k ≡ 0 → ⊥)
  least_shared_lem {k} s =
      let (a, b) = s.both in
      let some = named_some h a in
      let low = least_lowest y (carriers_of x) k some (named_member x k a) (named_member y k b) in
      let own = shared_least (λ e. omega (arith, low.0)) in
      (omega (arith, low.1, s.lowest (least_shared x y) own.both), λ e. omega arith)
