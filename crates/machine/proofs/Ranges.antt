-- States in range: the test is true exactly of them, the empty state is one, and what a step makes of a slot, a carrier or a list stays in range. Assumes nothing.
use borrow.Table.Steps.{cases}
use Prim.Native.Nat.{ℕ, zero, suc, ◌+◌, ◌≤◌}
use mathlib.Core.Path.{◌≡◌, refl, sym, ap, ◌∙◌}
use mathlib.Core.Bool.{Bool, true, false, true≢false, ◌&&◌, not, cond}
use mathlib.Core.List.{List, [], ◌∷◌, map}
use native.Mathlib.Omega.{arith}
use lib.IntN.{ℤ, pos, negsuc, ◌+ℤ◌, nat_abs}
use lib.Dec.{eqb, leb}
use lib.ListN.{get_or, set, replicate}
use borrow.Author.Tests.{ne_eqb, eqb-true, eqb-false, leb-true, le-leb, not-true}
use Rattle.std.proofs.lemmas.Bool.{and_parts}
use Rattle.machine.specs.declared.Needle.{Needle}
use Rattle.machine.specs.declared.Racking.{Racking}
use Rattle.machine.specs.declared.Slot.{Slot}
use Rattle.machine.specs.declared.Carrier.{Carrier}
use Rattle.machine.specs.Geometry.{eq_z, column_of, entry_of, exit_of}
use Rattle.machine.specs.Machine.{OnBed, all, attached_at, moved_to, same_needle, inactive, inactive_carrier, empty_state}
use Rattle.machine.specs.Range.{SlotInRange, CarrierInRange, LimitInRange, StateInRange, slot_ok, racking_ok, limit_ok, number_ok, on_bed, attachment_ok, carrier_ok, state_ok, LimitExactly, RangeExactly}
use Rattle.machine.proofs.Signed.{up, dn, sum}
use Rattle.machine.proofs.Laws.{inactive_is}

-- ---- what holds of every element of a list, and past its end
module _ {A : Type 0} (P : A → Type 0) (d : A) where
  abbrev Every : List A → Type 0
  Every l = (i : ℕ) → P (get_or l i d)

  -- a store and a map keep it, and a list of one value has it
  pub every_set : (l : List A) (k : ℕ) (v : A) → P v → Every l → Every (set l k v)
  every_set [] k v p h i = h i
  every_set (x ∷ l) zero v p h zero = p
  every_set (x ∷ l) zero v p h (suc i) = h (suc i)
  every_set (x ∷ l) (suc k) v p h zero = h zero
  every_set (x ∷ l) (suc k) v p h (suc i) = every_set l k v p (λ j. h (suc j)) i

  pub every_map : (f : A → A) → ((x : A) → P x → P (f x)) → (l : List A) → Every l → Every (map f l)
  every_map f k [] h i = h i
  every_map f k (x ∷ l) h zero = k x (h zero)
  every_map f k (x ∷ l) h (suc i) = every_map f k l (λ j. h (suc j)) i

  every_replicate : (n : ℕ) → P d → Every (replicate n d)
  every_replicate zero p i = p
  every_replicate (suc n) p zero = p
  every_replicate (suc n) p (suc i) = every_replicate n p i

  -- a test of every element
  module _ (p : A → Bool) where
    all_every : ((x : A) → p x ≡ true → P x) → P d → (l : List A) → all p l ≡ true → Every l
    unfolding all
    all_every k h [] e i = h
    all_every k h (x ∷ l) e zero = k x (and_parts (p x) (all p l) e).0
    all_every k h (x ∷ l) e (suc i) = all_every k h l (and_parts (p x) (all p l) e).1 i

    every_all : ((x : A) → P x → p x ≡ true) → (l : List A) → Every l → all p l ≡ true
    unfolding all
    every_all k [] h = refl
    every_all k (x ∷ l) h = simp (k x (h zero), every_all k l (λ j. h (suc j)))

-- ---- slots
slot_is : (z : ℤ) → slot_ok z ≡ true → SlotInRange (record { 0 = z })
unfolding slot_ok
slot_is (pos n) e = SlotInRange.nonnegative (leb-true n 258 e)
slot_is (negsuc n) e = SlotInRange.negative (leb-true n 7 e)

slot_ok_lem : {z : Slot} → SlotInRange z → slot_ok z.0 ≡ true
unfolding slot_ok
slot_ok_lem (SlotInRange.nonnegative {n = n} h) = le-leb n 258 h
slot_ok_lem (SlotInRange.negative {n = n} h) = le-leb n 7 h

-- a slot u - d
slot_of : (z : ℤ) (u d : ℕ) → up z + d ≡ dn z + u → u ≤ 258 → d ≤ 8 → SlotInRange (record { 0 = z })
slot_of (pos n) u d e h k = SlotInRange.nonnegative {n = n} (omega arith)
slot_of (negsuc n) u d e h k = SlotInRange.negative {n = n} (omega arith)

up_abs : (z : ℤ) → up z ≤ nat_abs z
up_abs (pos n) = omega arith
up_abs (negsuc n) = omega arith

dn_abs : (z : ℤ) → dn z ≤ nat_abs z
dn_abs (pos n) = omega arith
dn_abs (negsuc n) = omega arith

-- the slots beside the column of a needle on a bed
module _ (n : Needle) (r : Racking) (b : OnBed n) (k : nat_abs r.0 ≤ 8) where
  abbrev z : ℤ
  z = (column_of n r).0

  parts : (u : ℕ) × (d : ℕ) × (up z + d ≡ dn z + u) × (u ≤ 257) × (d ≤ 8)
  unfolding column_of
  parts = go (eqb n.0 0)
    where
      go : (t : Bool) → let y = cond t (pos n.1) (pos n.1 +ℤ r.0) in (u : ℕ) × (d : ℕ) × (up y + d ≡ dn y + u) × (u ≤ 257) × (d ≤ 8)
      go true = (n.1, 0, omega arith, omega (arith, b.number), omega arith)
      go false =
          (n.1 + up r.0, dn r.0, omega (arith, sum (pos n.1) r.0), omega (arith, b.number, up_abs r.0), omega (arith, dn_abs r.0))

  here : SlotInRange (record { 0 = z })
  here = let (u, d, e, h, j) = parts in slot_of z u d e (omega arith) j

  next : SlotInRange (record { 0 = z +ℤ pos 1 })
  next = let (u, d, e, h, j) = parts in slot_of (z +ℤ pos 1) (u + 1) d (omega (arith, sum z (pos 1))) (omega arith) j

  pub entry_in : (right : Bool) → SlotInRange (entry_of (column_of n r) right)
  unfolding entry_of
  entry_in true = here
  entry_in false = next

  pub exit_in : (right : Bool) → SlotInRange (exit_of (column_of n r) right)
  unfolding exit_of
  exit_in true = next
  exit_in false = here

-- ---- needles and carriers
pub bed_is : (n : Needle) → on_bed n ≡ true → OnBed n
bed_is n e =
    let (a, b) = and_parts (leb n.0 1) (number_ok n.1) e in
    record { bed = omega (arith, leb-true n.0 1 a); number = omega (arith, leb-true n.1 249 b) }

pub bed_ok : (n : Needle) → OnBed n → on_bed n ≡ true
bed_ok n b = simp (le-leb n.0 1 (omega (arith, b.bed)), le-leb n.1 249 (omega (arith, b.number)))

no_needle_lem : (a b : ℕ) → (eqb a 0 && eqb b 0) ≡ true → ◌≡◌ {A = Needle} (record { 0 = a; 1 = b }) (record { 0 = 0; 1 = 0 })
no_needle_lem a b e = let (p, q) = and_parts (eqb a 0) (eqb b 0) e in simp (eqb-true a 0 p, eqb-true b 0 q)

carrier_is : (c : Carrier) → carrier_ok c ≡ true → CarrierInRange c
unfolding carrier_ok attachment_ok
carrier_is c e =
    cases (eqb c.active 0) (λ t. CarrierInRange.idle (inactive_is c (simp t at e)))
    (λ t. let (a, f) = and_parts (eqb c.active 1) _ (simp t at e) in
    let (z, g) = and_parts (slot_ok c.slot.0) _ f in
    cases (eqb c.side 0)
    (λ u. CarrierInRange.unattached (eqb-true c.active 1 a) (slot_is c.slot.0 z) (eqb-true c.side 0 u) (no_needle_lem c.needle.0 c.needle.1 (simp u at g)))
    (λ u. let (m, n) = and_parts (leb c.side 2) _ (simp u at g) in
    CarrierInRange.attached (eqb-true c.active 1 a) (slot_is c.slot.0 z) (omega (arith, eqb-false c.side 0 u)) (leb-true c.side 2 m) (bed_is c.needle n)))

carrier_ok_lem : (c : Carrier) → CarrierInRange c → carrier_ok c ≡ true
unfolding carrier_ok attachment_ok inactive_carrier eq_z
carrier_ok_lem c (CarrierInRange.idle e) = simp e
carrier_ok_lem c (CarrierInRange.unattached a z u n) = simp (a, slot_ok_lem z, u, n)
carrier_ok_lem c (CarrierInRange.attached a z u v b) = simp (a, slot_ok_lem z, ne_eqb c.side 0 (λ q. omega arith), le-leb c.side 2 v, bed_ok c.needle b)

pub inactive_in : CarrierInRange inactive
inactive_in = CarrierInRange.idle refl

-- an attachment that moves to a needle on a bed
moved : (n : Needle) (c : Carrier) → OnBed n → (c.side ≡ 0 → ⊥) → CarrierInRange c
    → CarrierInRange (record { active = c.active; side = c.side; slot = c.slot; needle = n })
moved n c b h (CarrierInRange.idle e) = absurd (h (ap (λ (c : Carrier). c.side) e))
moved n c b h (CarrierInRange.unattached a z u m) = absurd (h u)
moved n c b h (CarrierInRange.attached a z u v m) = CarrierInRange.attached a z u v b

pub moved_in : (from to : Needle) → OnBed to → (c : Carrier) → CarrierInRange c → CarrierInRange (moved_to from to c)
unfolding moved_to attached_at
moved_in from to b c k =
    cases (attached_at from c)
    (λ t. simp t (moved to c b (eqb-false c.side 0 (not-true (eqb c.side 0) (and_parts (not (eqb c.side 0)) (same_needle c.needle from) t).0)) k))
    (λ t. simp t k)

-- ---- limits and states
pub limit_exactly : LimitExactly
limit_exactly n =
    (λ e. let (a, b) = and_parts (leb 1 n) (leb n 8) e in record { least = leb-true 1 n a; most = leb-true n 8 b }, λ h. simp (le-leb 1 n h.least, le-leb n 8 h.most))

-- a limit is in range or it is not, and the test says which
pub limit_cases : (n : ℕ) {G : Type 0} → (LimitInRange n → G) → ((LimitInRange n → ⊥) → G) → G
limit_cases n f g = cases (limit_ok n) (λ t. f ((limit_exactly n).0 t)) (λ t. g (λ h. true≢false (sym ((limit_exactly n).1 h) ∙ t)))

pub limit_out : (n : ℕ) → (LimitInRange n → ⊥) → limit_ok n ≡ false
limit_out n h = cases (limit_ok n) (λ t. absurd (h ((limit_exactly n).0 t))) (λ t. t)

pub range_exactly : RangeExactly
unfolding state_ok
range_exactly s = (is, ok)
  where
    is : state_ok s ≡ true → StateInRange s
    is e =
        let (r, f) = and_parts (racking_ok s.racking.0) _ e in
        let (m, g) = and_parts (limit_ok s.limit) _ f in
        let (l, k) = and_parts (all (λ (n : ℕ). leb n s.limit) s.loops) (all carrier_ok s.carriers) g in
        record {
          racking = leb-true (nat_abs s.racking.0) 8 r;
          limit = (limit_exactly s.limit).0 m;
          loops = all_every (λ (n : ℕ). n ≤ s.limit) 0 (λ (n : ℕ). leb n s.limit) (λ n h. leb-true n s.limit h) (omega arith) s.loops l;
          carriers = all_every CarrierInRange inactive carrier_ok carrier_is inactive_in s.carriers k;
        }

    ok : StateInRange s → state_ok s ≡ true
    ok h =
        simp (
          le-leb (nat_abs s.racking.0) 8 h.racking,
          (limit_exactly s.limit).1 h.limit,
          every_all (λ (n : ℕ). n ≤ s.limit) 0 (λ (n : ℕ). leb n s.limit) (λ n k. le-leb n s.limit k) s.loops h.loops,
          every_all CarrierInRange inactive carrier_ok carrier_ok_lem s.carriers h.carriers,
        )

pub empty_in : (limit : ℕ) → LimitInRange limit → StateInRange (empty_state limit)
unfolding empty_state
empty_in limit h = record {
  racking = omega arith;
  limit = h;
  loops = every_replicate (λ (n : ℕ). n ≤ limit) 0 500 (omega arith);
  carriers = every_replicate CarrierInRange inactive 10 inactive_in;
}
