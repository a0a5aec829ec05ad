-- The list of refusals: every reason's number stands in it, and the first that holds is one. Assumes nothing.
use Prim.Native.Nat.{ℕ, suc, ◌≤◌, ◌<◌}
use mathlib.Core.Path.{◌≡◌, refl, sym, ap, subst, ◌∙◌}
use mathlib.Core.Bool.{cond}
use mathlib.Core.List.{List, [], ◌∷◌, ◌++◌, head-eq_of_cons-eq, tail-eq_of_cons-eq}
use native.Mathlib.Omega.{arith}
use lib.Dec.{eqb}
use lib.ListN.{length}
use borrow.Author.Tests.{eq-eqb, ne_eqb}
use Rattle.machine.specs.declared.State.{State}
use Rattle.machine.specs.Machine.{Each}
use Rattle.record.specs.declared.Record.{Record}
use Rattle.record.specs.Format.{Encodes}
use Rattle.run.specs.Reason.{Stretched, FloatTooLong, RecordReason, Reason, refusals, First}
use Rattle.record.proofs.Shapes.{is}

-- how many stand before a number in a list; all, if it is not there
abbrev pub index : ℕ → List ℕ → ℕ
index n [] = 0
index n (x ∷ l) = cond (eqb x n) 0 (suc (index n l))

here : (x n : ℕ) (l : List ℕ) → x ≡ n → index n (x ∷ l) ≡ 0
here x n l e = simp (eq-eqb x n e)

past : (x n : ℕ) (l : List ℕ) → (x ≡ n → ⊥) → index n (x ∷ l) ≡ suc (index n l)
past x n l d = simp (ne_eqb x n d)

abbrev pub rank : ℕ → ℕ
rank n = index n refusals

-- ---- every reason's number stands in the list
abbrev Stands : ℕ → Type 0
Stands n = rank n < length refusals

record_stands : {n : ℕ} {s : State} {x : Record} → RecordReason n s x → Stands n
record_stands (RecordReason.yarn_twice e a) = rw e (omega arith)
record_stands (RecordReason.stretched e a) = rw e (omega arith)
record_stands (RecordReason.already_in e a) = rw e (omega arith)
record_stands (RecordReason.not_in e a) = rw e (omega arith)
record_stands (RecordReason.wrong_slot e a) = rw e (omega arith)
record_stands (RecordReason.float_too_long e a) = rw e (omega arith)
record_stands (RecordReason.not_opposite e a) = rw e (omega arith)
record_stands (RecordReason.hook_full e a) = rw e (omega arith)

reason_stands : {n : ℕ} {s : State} {l : List ℕ} → Reason n s l → Stands n
reason_stands (Reason.unknown_kind e a) = rw e (omega arith)
reason_stands (Reason.cut_short e a) = rw e (omega arith)
reason_stands (Reason.field_range e a) = rw e (omega arith)
reason_stands (Reason.of_record bytes rest x e form r) = record_stands r

-- so none of them is a number that does not stand there, as 0, 1 and 15
other : (n k : ℕ) → Stands n → rank k ≡ length refusals → n ≡ k → ⊥
other n k h e q = let w : rank n ≡ rank k = ap rank q in omega (arith, h, e, w)

pub record_other : {n : ℕ} {s : State} {x : Record} → RecordReason n s x → (k : ℕ) → rank k ≡ length refusals → n ≡ k → ⊥
record_other {n} r k = other n k (record_stands r)

pub reason_other : {n : ℕ} {s : State} {l : List ℕ} → Reason n s l → (k : ℕ) → rank k ≡ length refusals → n ≡ k → ⊥
reason_other {n} r k = other n k (reason_stands r)

-- ---- a reason by its number
-- over 5 it is one of a record
pub begun : {n : ℕ} {s : State} {l : List ℕ} → Reason n s l → 5 < n → (bytes : List ℕ) × (rest : List ℕ) × (x : Record) × (l ≡ bytes ++ rest) × Encodes bytes x × RecordReason n s x
begun (Reason.unknown_kind e a) h = absurd (omega arith)
begun (Reason.cut_short e a) h = absurd (omega arith)
begun (Reason.field_range e a) h = absurd (omega arith)
begun (Reason.of_record bytes rest x e form r) h = (bytes, rest, x, e, form, r)

-- of a record only a stretched yarn has the number 17, and only a float 9
pub record ByNumber (n : ℕ) (s : State) (x : Record) : Type 0 where
  pub stretched : n ≡ 17 → Stretched s x
  pub float : n ≡ 9 → FloatTooLong s x

pub by_number : {n : ℕ} {s : State} {x : Record} → RecordReason n s x → ByNumber n s x
by_number (RecordReason.yarn_twice e a) = record { stretched = λ q. absurd (omega arith); float = λ q. absurd (omega arith) }
by_number (RecordReason.stretched e a) = record { stretched = λ q. a; float = λ q. absurd (omega arith) }
by_number (RecordReason.already_in e a) = record { stretched = λ q. absurd (omega arith); float = λ q. absurd (omega arith) }
by_number (RecordReason.not_in e a) = record { stretched = λ q. absurd (omega arith); float = λ q. absurd (omega arith) }
by_number (RecordReason.wrong_slot e a) = record { stretched = λ q. absurd (omega arith); float = λ q. absurd (omega arith) }
by_number (RecordReason.float_too_long e a) = record { stretched = λ q. absurd (omega arith); float = λ q. a }
by_number (RecordReason.not_opposite e a) = record { stretched = λ q. absurd (omega arith); float = λ q. absurd (omega arith) }
by_number (RecordReason.hook_full e a) = record { stretched = λ q. absurd (omega arith); float = λ q. absurd (omega arith) }

-- ---- the first of a list that holds
module _ (P : ℕ → Type 0) where
  abbrev None : List ℕ → Type 0
  None u = Each (λ (m : ℕ). P m → ⊥) u

  -- n, if what holds stands nowhere before it
  found : (n : ℕ) (l : List ℕ) → index n l < length l → ((m : ℕ) → P m → index n l ≤ index m l)
      → (u : List ℕ) × (v : List ℕ) × (l ≡ u ++ n ∷ v) × None u
  found n [] h f = absurd (omega arith)
  found n (x ∷ l) h f =
      is x n (λ e. ([], l, ap (λ (y : ℕ). y ∷ l) e, tt))
      (λ d. let (u, v, e, none) = found n l (omega (arith, h, past x n l d)) (further d) in
      (x ∷ u, v, ap (λ (k : List ℕ). x ∷ k) e, (λ p. not_here d x p refl, none)))
    where
      not_here : (x ≡ n → ⊥) → (m : ℕ) → P m → x ≡ m → ⊥
      not_here d m p e = omega (arith, f m p, past x n l d, here x m l e)

      further : (x ≡ n → ⊥) → (m : ℕ) → P m → index n l ≤ index m l
      further d m p = omega (arith, f m p, past x n l d, past x m l (not_here d m p))

  -- there is one only
  one : (u v w z : List ℕ) (n m : ℕ) → u ++ n ∷ v ≡ w ++ m ∷ z → P n → P m → None u → None w → n ≡ m
  one [] v [] z n m e p q a b = head-eq_of_cons-eq e
  one [] v (y ∷ w) z n m e p q a b = absurd (b.0 (subst P (head-eq_of_cons-eq e) p))
  one (x ∷ u) v [] z n m e p q a b = absurd (a.0 (subst P (sym (head-eq_of_cons-eq e)) q))
  one (x ∷ u) v (y ∷ w) z n m e p q a b = one u v w z n m (tail-eq_of_cons-eq e) p q a.1 b.1

-- the number of a reason is the first if no reason that holds stands before it
pub first_of : {n : ℕ} {s : State} {l : List ℕ} → Reason n s l → ((m : ℕ) → Reason m s l → rank n ≤ rank m) → First n s l
first_of {n} {s} {l} r h =
    let (u, v, e, none) = found (λ m. Reason m s l) n refusals (reason_stands r) h in
    record { earlier = u; later = v; order = e; reason = r; none = none }

pub first_is_one : {n m : ℕ} {s : State} {l : List ℕ} → First n s l → First m s l → n ≡ m
first_is_one {n} {m} {s} {l} a b =
    one (λ k. Reason k s l) a.earlier a.later b.earlier b.later n m (sym a.order ∙ b.order) a.reason b.reason a.none b.none
