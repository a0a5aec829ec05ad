-- A look at a pair: carriers by their bytes, and needles out of reach. Assumes nothing.
use borrow.Table.Steps.{cases}
use Prim.Native.Nat.{ℕ, ◌+◌, ◌≤◌, ◌<◌}
use mathlib.Core.Path.{◌≡◌, refl, sym, ap, ◌∙◌}
use mathlib.Core.Bool.{true, false, or-false}
use mathlib.Core.List.{List, [], ◌∷◌}
use mathlib.Core.Logic.{◌⊎◌, inl, inr}
use native.Mathlib.Omega.{arith}
use lib.Dec.{eqb}
use lib.IntN.{ℤ, pos, negsuc, ◌-ℤ◌, nat_abs}
use lib.ListN.{length, get_or}
use borrow.Author.Tests.{eq-eqb, ne_eqb, lt-ltb}
use Rattle.machine.specs.declared.Needle.{Needle}
use Rattle.machine.specs.declared.Racking.{Racking}
use Rattle.machine.specs.Limits.{last_needle}
use Rattle.machine.specs.Geometry.{column_of}
use Rattle.machine.proofs.Signed.{up, dn, sum, difference}
use Rattle.record.specs.declared.Record.{Record}
use Rattle.record.specs.Kinds.{RACK, by_kind, carriers_named}
use Rattle.record.specs.Format.{Encodes, byte, needle}
use Rattle.record.specs.Names.{carriers_of, outline_at, outline_of}
use Rattle.record.proofs.Shapes.{one_named as one_carrier, two_named as two_carriers}
use Rattle.record.proofs.Outlines.{carried_long, carried_outline}
use Rattle.rewrite.specs.Extents.{member, common, share_carrier}
use Rattle.rewrite.specs.Programs.{what}
use Rattle.rewrite.specs.Laid.{is_record, far_apart}
use Rattle.rewrite.proofs.Carriers.{one_named, two_named}
use Rattle.rewrite.proofs.Records.{record_form}
use Rattle.house.specs.Arranged.{record_in, Begins, reach_of}
use Rattle.house.proofs.Places.{reads, kind_in, byte_in}

-- ---- carriers
-- a carrier that is not named is 0
pub data Named (x : Record) : Type 0 where
  none_named : carriers_of x ≡ [] → x.carrier ≡ 0 → x.second ≡ 0 → Named x
  one_is : carriers_of x ≡ x.carrier ∷ [] → 1 ≤ x.carrier → x.second ≡ 0 → Named x
  two_are : carriers_of x ≡ x.carrier ∷ x.second ∷ [] → Named x

by_one : (x : Record) → carriers_named x.kind ≡ 1 → 1 ≤ x.carrier → x.second ≡ 0 → Named x
by_one x e f g = one_is (one_named x e) f g

by_two : (x : Record) → carriers_named x.kind ≡ 2 → Named x
by_two x e = two_are (two_named x e)

form_named : {l : List ℕ} {x : Record} → Encodes l x → Named x
unfolding carriers_of by_kind
form_named (Encodes.rack h) = none_named refl refl refl
form_named (Encodes.drop h i) = none_named refl refl refl
form_named (Encodes.xfer h i j) = none_named refl refl refl
form_named (Encodes.work {kind = k} a c d e f g h) = by_one _ (one_carrier k a (omega arith)) g refl
form_named (Encodes.split c d e f g h) = one_is refl f refl
form_named (Encodes.plated {kind = k} a c d e f g h i j) = by_two _ (two_carriers k a c)

-- whether k, which is a carrier, is one of them
module _ (x : Record) (k : ℕ) where
  first_is : Named x → 1 ≤ k → k ≡ x.carrier → member k (carriers_of x) ≡ true
  unfolding member
  first_is (none_named e f g) h q = absurd (omega (arith, h, q, f))
  first_is (one_is e f g) h q = simp (e, eq-eqb k x.carrier q)
  first_is (two_are e) h q = simp (e, eq-eqb k x.carrier q)

  second_is : Named x → 1 ≤ k → k ≡ x.second → member k (carriers_of x) ≡ true
  unfolding member
  second_is (none_named e f g) h q = absurd (omega (arith, h, q, g))
  second_is (one_is e f g) h q = absurd (omega (arith, h, q, g))
  second_is (two_are e) h q = cases (eqb k x.carrier) (λ t. simp (e, t)) (λ t. simp (e, t, eq-eqb k x.second q))

  neither_is : Named x → (k ≡ x.carrier → ⊥) → (k ≡ x.second → ⊥) → member k (carriers_of x) ≡ false
  unfolding member
  neither_is (none_named e f g) c d = simp e
  neither_is (one_is e f g) c d = simp (e, ne_eqb k x.carrier c)
  neither_is (two_are e) c d = simp (e, ne_eqb k x.carrier c, ne_eqb k x.second d)

pub record_named : (x : List ℕ) → is_record x ≡ true → Named (what x)
record_named x h = form_named (record_form x h)

-- ---- a needle's number is small
form_small : {l : List ℕ} {x : Record} → Encodes l x → x.at.1 ≤ last_needle
form_small (Encodes.rack h) = omega arith
form_small (Encodes.drop h i) = i
form_small (Encodes.xfer h i j) = i
form_small (Encodes.work a c d e f g h) = f
form_small (Encodes.split c d e f g h) = e
form_small (Encodes.plated a c d e f g h i j) = f

pub outline_at_lem : (x : Record) → (outline_of x).at.1 ≡ x.at.1
unfolding outline_of
outline_at_lem x = refl

pub needle_small : (p : List ℕ) (a : ℕ) (u : Record) → Begins p a → u ≡ outline_of (what (record_in p a)) → u.at.1 ≤ last_needle
needle_small p a u b e =
    let x = record_in p a in
    omega (arith, ap (λ (v : Record). v.at.1) e, outline_at_lem (what x), form_small (record_form x b.is_one_record))

-- ---- needles out of reach are far apart
-- by numbers that omega reads
abs_is : (z : ℤ) → up z + dn z ≡ nat_abs z
abs_is (pos n) = omega arith
abs_is (negsuc n) = omega arith

-- a column is a needle's number, or that and the racking
At : ℤ → ℕ → ℤ → Type 0
At r n a = (up a + dn r ≡ dn a + (n + up r)) ⊎ ((up a ≡ n) × (dn a ≡ 0))

column_at : (n : Needle) (r : Racking) → At r.0 n.1 (column_of n r).0
unfolding column_of At
column_at n r = cases (eqb n.0 0) (λ t. simp t (inr (refl, refl))) (λ t. simp t (inl (omega (arith, sum (pos n.1) r.0))))

far_columns : (r : ℤ) (n m : ℕ) (a b : ℤ) → At r n a → At r m b → n + reach_of r < m → (1 < nat_abs (a -ℤ b)) × (1 < nat_abs (b -ℤ a))
unfolding At
far_columns r n m a b p q h = go p q
  where
    go : At r n a → At r m b → (1 < nat_abs (a -ℤ b)) × (1 < nat_abs (b -ℤ a))
    go (inl p) (inl q) = (omega (arith, p, q, h, abs_is r, abs_is (a -ℤ b), difference a b), omega (arith, p, q, h, abs_is r, abs_is (b -ℤ a), difference b a))
    go (inl p) (inr (q, s)) = (omega (arith, p, q, s, h, abs_is r, abs_is (a -ℤ b), difference a b), omega (arith, p, q, s, h, abs_is r, abs_is (b -ℤ a), difference b a))
    go (inr (p, s)) (inl q) = (omega (arith, p, q, s, h, abs_is r, abs_is (a -ℤ b), difference a b), omega (arith, p, q, s, h, abs_is r, abs_is (b -ℤ a), difference b a))
    go (inr (p, s)) (inr (q, t)) = (omega (arith, p, q, s, t, h, abs_is r, abs_is (a -ℤ b), difference a b), omega (arith, p, q, s, t, h, abs_is r, abs_is (b -ℤ a), difference b a))

module _ (r : Racking) (n m : Needle) (h : n.1 + reach_of r.0 < m.1) where
  far : (1 < nat_abs ((column_of n r).0 -ℤ (column_of m r).0)) × (1 < nat_abs ((column_of m r).0 -ℤ (column_of n r).0))
  far = far_columns r.0 n.1 m.1 (column_of n r).0 (column_of m r).0 (column_at n r) (column_at m r) h

  pub below_reach : far_apart (column_of n r) (column_of m r) ≡ true
  unfolding far_apart
  below_reach = lt-ltb 1 (nat_abs ((column_of n r).0 -ℤ (column_of m r).0)) far.0

  pub above_reach : far_apart (column_of m r) (column_of n r) ≡ true
  unfolding far_apart
  above_reach = lt-ltb 1 (nat_abs ((column_of m r).0 -ℤ (column_of n r).0)) far.1

-- ---- a record that names one carrier, by its bytes
module _ (p : List ℕ) (a : ℕ) (b : Begins p a) (one : carriers_named (byte p a) ≡ 1) where
  abbrev y : Record
  y = what (record_in p a)

  own_kind : carriers_named (byte (record_in p a) 0) ≡ 1
  own_kind = ap carriers_named (sym (kind_in p a b)) ∙ one

  carried : outline_at (byte (record_in p a) 0) (needle (byte (record_in p a) 2) (byte (record_in p a) 3)) (byte (record_in p a) 4) 0 ≡ outline_of y
  carried = carried_outline (record_in p a) (reads p a b) own_kind

  pub not_rack : byte p a ≡ RACK → ⊥
  unfolding by_kind
  not_rack e = let q : ◌≡◌ {A = ℕ} 0 1 = sym (ap carriers_named e) ∙ one in omega (arith, q)

  pub five : 5 ≤ length (record_in p a)
  five = carried_long (record_in p a) (reads p a b) own_kind

  fields : (y.kind ≡ byte (record_in p a) 0) × (y.at.1 ≡ byte (record_in p a) 3) × (y.carrier ≡ byte (record_in p a) 4)
  unfolding outline_of
  fields = let e = carried in (sym (ap (λ (x : Record). x.kind) e), sym (ap (λ (x : Record). x.at.1) e), sym (ap (λ (x : Record). x.carrier) e))

  pub carrier_is : get_or p (a + 4) 0 ≡ y.carrier
  carrier_is = byte_in p a b 4 (omega (arith, five)) ∙ sym fields.2

  pub number_is : get_or p (a + 3) 0 ≡ y.at.1
  number_is = byte_in p a b 3 (omega (arith, five)) ∙ sym fields.1

  own_carriers : carriers_of y ≡ y.carrier ∷ []
  own_carriers = one_named y (ap carriers_named (fields.0 ∙ sym (kind_in p a b)) ∙ one)

  some_carrier : 1 ≤ y.carrier
  some_carrier = go (record_named (record_in p a) b.is_one_record)
    where
      go : Named y → 1 ≤ y.carrier
      go (none_named e f g) = absurd (omega (arith, ap length (sym e ∙ own_carriers)))
      go (one_is e f g) = f
      go (two_are e) = absurd (omega (arith, ap length (sym e ∙ own_carriers)))

  -- what it shares with another, whose outline is u
  module _ (x : Record) (named : Named x) (u : Record) (is : u ≡ outline_of x) where
    shares : share_carrier y x ≡ member y.carrier (carriers_of x)
    unfolding common
    shares = ap (λ (l : List ℕ). common l (carriers_of x)) own_carriers ∙ or-false (member y.carrier (carriers_of x))

    outline_carriers : (u.carrier ≡ x.carrier) × (u.second ≡ x.second)
    unfolding outline_of
    outline_carriers = (ap (λ (v : Record). v.carrier) is, ap (λ (v : Record). v.second) is)

    pub shares_first : get_or p (a + 4) 0 ≡ u.carrier → share_carrier y x ≡ true
    shares_first e = shares ∙ first_is x y.carrier named some_carrier (sym carrier_is ∙ e ∙ outline_carriers.0)

    pub shares_second : get_or p (a + 4) 0 ≡ u.second → share_carrier y x ≡ true
    shares_second e = shares ∙ second_is x y.carrier named some_carrier (sym carrier_is ∙ e ∙ outline_carriers.1)

    pub shares_none : (get_or p (a + 4) 0 ≡ u.carrier → ⊥) → (get_or p (a + 4) 0 ≡ u.second → ⊥) → share_carrier y x ≡ false
    shares_none c d = shares ∙ neither_is x y.carrier named (λ q. c (carrier_is ∙ q ∙ sym outline_carriers.0)) (λ q. d (carrier_is ∙ q ∙ sym outline_carriers.1))
