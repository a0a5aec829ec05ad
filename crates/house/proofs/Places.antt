-- The record that begins at a place of a program: its bytes, and those of the program's own records. Assumes nothing.
use Prim.Native.Nat.{ℕ, zero, suc, ◌+◌, ◌-◌, ◌≤◌, ◌<◌}
use mathlib.Core.Path.{◌≡◌, refl, sym, ap, subst, ◌∙◌}
use mathlib.Core.Bool.{true, false}
use mathlib.Core.List.{List, [], ◌∷◌, ◌++◌, append_assoc}
use native.Mathlib.Omega.{arith}
use lib.Dec.{eqb}
use lib.ListN.{length, take, drop, get_or, length-append, length-take, get_or-append}
use lib.Seq.{take_at, drop_at, get_or-take, get_or-drop}
use borrow.Author.Tests.{eqb-true, eq-eqb, ne_eqb}
use Rattle.std.proofs.lemmas.Bool.{and_parts}
use Rattle.machine.specs.Machine.{Each}
use Rattle.record.specs.Kinds.{RACK, size_of}
use Rattle.record.specs.Format.{byte, decode_of}
use Rattle.record.specs.Names.{is_rack}
use Rattle.rewrite.specs.Programs.{flat, records_of, starts_of, what}
use Rattle.rewrite.specs.Laid.{is_record, Sound}
use Rattle.rewrite.proofs.Records.{Sized, record_size, records_flat}
use Rattle.rewrite.proofs.Rackings.{kind_is}
use Rattle.house.specs.Arranged.{record_in, Begins, Starts, records_at}

-- ---- a record that begins at a
module _ (p : List ℕ) (a : ℕ) (b : Begins p a) where
  abbrev x : List ℕ
  x = record_in p a

  pub sized : Sized x
  sized = record_size x b.is_one_record

  wide : length x ≤ size_of (byte p a)
  unfolding record_in
  wide = omega (arith, length-take (size_of (byte p a)) (drop a p))

  pub byte_in : (k : ℕ) → k < length x → get_or p (a + k) 0 ≡ byte x k
  unfolding record_in
  byte_in k h = sym (get_or-take (size_of (byte p a)) (drop a p) k 0 (omega (arith, h, wide)) ∙ get_or-drop a p k 0)

  pub kind_in : byte p a ≡ byte x 0
  kind_in = let e : a ≡ a + 0 = omega arith in ap (λ (n : ℕ). get_or p n 0) e ∙ byte_in 0 (omega (arith, sized.least))

  pub size_in : size_of (byte p a) ≡ length x
  size_in = ap size_of kind_in ∙ sym sized.kind

  pub part_in : (e : ℕ) → e ≡ a + length x → take (e - a) (drop a p) ≡ x
  unfolding record_in
  part_in e h = let n : e - a ≡ size_of (byte p a) = omega (arith, h, size_in) in ap (λ (m : ℕ). take m (drop a p)) n

  pub reads : (decode_of x).number ≡ 0
  reads = eqb-true (decode_of x).number 0 (and_parts (eqb (decode_of x).number 0) (eqb (decode_of x).size (length x)) b.is_one_record).0

  -- its kind tells a rack
  pub rack_in : byte p a ≡ RACK → is_rack (what x) ≡ true
  rack_in e = sym (kind_is x b.is_one_record) ∙ eq-eqb (byte x 0) RACK (sym kind_in ∙ e)

  pub other_in : (byte p a ≡ RACK → ⊥) → is_rack (what x) ≡ false
  other_in d = sym (kind_is x b.is_one_record) ∙ ne_eqb (byte x 0) RACK (λ e. d (kind_in ∙ e))

-- ---- one of each element
each_at : (P : ℕ → Type 0) (l : List ℕ) → Each P l → (i : ℕ) → i < length l → P (get_or l i 0)
each_at P (y ∷ l) (w, v) zero h = w
each_at P (y ∷ l) (w, v) (suc i) h = each_at P l v i (omega arith)
each_at P [] w i h = absurd (omega arith)

pub begins_at : (p w : List ℕ) → Starts p w → (i : ℕ) → i < length w → Begins p (get_or w i 0)
begins_at p w s i h = each_at (λ (a : ℕ). Begins p a) w s.begin i h

-- ---- a program's own records
module _ (q x v : List ℕ) (h : is_record x ≡ true) where
  abbrev all : List ℕ
  all = q ++ (x ++ v)

  own_in : record_in all (length q) ≡ x
  unfolding record_in
  own_in =
      let s = record_size x h in
      let from : drop (length q) all ≡ x ++ v = drop_at q (x ++ v) (length q) refl in
      let kind : byte all (length q) ≡ byte x 0 =
      (let e : length q ≡ length q + 0 = omega arith in ap (λ (n : ℕ). get_or all n 0) e) ∙ sym (get_or-drop (length q) all 0 0) ∙ ap (λ (l : List ℕ). get_or l 0 0) from ∙ get_or-append x v 0 0 (omega (arith, s.least)) in
      let size : size_of (byte all (length q)) ≡ length x = ap size_of kind ∙ sym s.kind in
      (λ i. take (size i) (from i)) ∙ take_at x v (length x) refl

  own_begins : Begins all (length q)
  own_begins =
      record {
        is_one_record = ap is_record own_in ∙ h;
        ends = omega (arith, ap length own_in, length-append q (x ++ v), length-append x v);
      }

own_records : (q : List ℕ) (l : List (List ℕ)) → Each (λ (x : List ℕ). is_record x ≡ true) l
    → (records_at (q ++ flat l) (starts_of (length q) l) ≡ l) × Each (λ (a : ℕ). Begins (q ++ flat l) a) (starts_of (length q) l)
unfolding starts_of
own_records q [] w = (refl, tt)
own_records q (x ∷ l) (h, w) =
    let (e, f) = own_records (q ++ x) l w in
    let joined : (q ++ x) ++ flat l ≡ q ++ (x ++ flat l) = append_assoc q x (flat l) in
    let n = length-append q x in
    let g : records_at (q ++ (x ++ flat l)) (starts_of (length q + length x) l) ≡ l = sym (λ i. records_at (joined i) (starts_of (n i) l)) ∙ e in (
      (λ i. own_in q x (flat l) h i ∷ g i),
      (
        own_begins q x (flat l) h,
        subst (λ (z : List ℕ). Each (λ (a : ℕ). Begins z a) (starts_of (length q + length x) l)) joined
            (subst (λ (m : ℕ). Each (λ (a : ℕ). Begins ((q ++ x) ++ flat l) a) (starts_of m l)) n f),
      ),
    )

module _ (p : List ℕ) (sound : Sound p) where
  own : (records_at p (starts_of 0 (records_of p)) ≡ records_of p) × Each (λ (a : ℕ). Begins p a) (starts_of 0 (records_of p))
  own = subst (λ (q : List ℕ). (records_at q (starts_of 0 (records_of p)) ≡ records_of p) × Each (λ (a : ℕ). Begins q a) (starts_of 0 (records_of p))) (records_flat p)
      (own_records [] (records_of p) sound.records)

  pub own_are : records_at p (starts_of 0 (records_of p)) ≡ records_of p
  own_are = own.0

  pub own_starts : Starts p (starts_of 0 (records_of p))
  own_starts = record { short = sound.short; begin = own.1; long = omega (arith, ap (λ (l : List (List ℕ)). length (flat l)) own_are, ap length (records_flat p)) }
