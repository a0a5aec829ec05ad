-- The starts while they are put in order: one record more of the program at a time. Assumes nothing.
use Prim.Native.Nat.{ℕ, zero, suc, ◌+◌, ◌-◌, ◌≤◌, ◌<◌}
use mathlib.Core.Path.{◌≡◌, refl, sym, ap, subst, ◌∙◌}
use mathlib.Core.Bool.{true}
use mathlib.Core.List.{List, [], ◌∷◌, ◌++◌, append_assoc, map, map-append}
use native.Mathlib.Omega.{arith}
use native.Mathlib.Numerals.{add-one}
use lib.ListN.{length, take, drop, get_or, length-append, length-map, length-drop, take-append-drop}
use lib.Seq.{length-take-le, take_at, drop_at, take-suc, drop-cons, take-take, take-add}
use borrow.Author.Tests.{eq-eqb, ne_eqb}
use Rattle.machine.specs.declared.Racking.{Racking}
use Rattle.machine.specs.Machine.{Each}
use Rattle.record.specs.Kinds.{RACK}
use Rattle.record.specs.Format.{byte, signed_of}
use Rattle.trace.specs.Order.{in_force}
use Rattle.trace.specs.House.{taken, house_order, spot_of}
use Rattle.trace.proofs.Theorems.{house_inserted, house_length, rack_last, spot_small}
use Rattle.rewrite.specs.Programs.{flat, knitting}
use Rattle.rewrite.specs.Rewrite.{racking_zero}
use Rattle.rewrite.specs.Laid.{is_record, rack_byte}
use Rattle.rewrite.proofs.Records.{each_part}
use Rattle.rewrite.proofs.Laying.{flat_append}
use Rattle.rewrite.proofs.Lawful.{lawful}
use Rattle.rewrite.proofs.Rackings.{byte_after, rack_next, rack_end, rack_on, racked, force_is}
use Rattle.house.specs.Order.{comes_first}
use Rattle.house.specs.Arranged.{record_in, Begins, Starts, records_at, record_of, spot_at, moved}
use Rattle.house.proofs.Comparison.{comparison_strict}
use Rattle.house.proofs.Places.{sized, byte_in, kind_in, rack_in, begins_at}
use Rattle.house.proofs.Moves.{cut_moved, moved_same}

-- ---- lists
pub map_take : {A B : Type 0} (f : A → B) (n : ℕ) (l : List A) → map f (take n l) ≡ take n (map f l)
map_take f zero l = refl
map_take f (suc n) [] = refl
map_take f (suc n) (x ∷ l) = ap (λ (m : List _). f x ∷ m) (map_take f n l)

pub map_drop : {A B : Type 0} (f : A → B) (n : ℕ) (l : List A) → map f (drop n l) ≡ drop n (map f l)
map_drop f zero l = refl
map_drop f (suc n) [] = refl
map_drop f (suc n) (x ∷ l) = map_drop f n l

drop_take : (k j : ℕ) (l : List ℕ) → k ≤ j → j ≤ length l → drop k (take j l) ≡ take (j - k) (drop k l)
drop_take k j l h i =
    let e : k + (j - k) ≡ j = omega arith in
    ap (drop k) (ap (λ (n : ℕ). take n l) (sym e) ∙ take-add k (j - k) l) ∙ drop_at (take k l) (take (j - k) (drop k l)) k (length-take-le k l (omega arith))

each_join : {A : Type 0} (P : A → Type 0) (u v : List A) → Each P u → Each P v → Each P (u ++ v)
each_join P [] v a b = b
each_join P (x ∷ u) v (a, w) b = (a, each_join P u v w b)

-- ---- a move keeps what begins at the starts
module _ (p : List ℕ) where
  abbrev total : List ℕ → ℕ
  total w = length (flat (records_at p w))

  total_append : (u v : List ℕ) → total (u ++ v) ≡ total u + total v
  total_append u v =
      ap (λ (l : List (List ℕ)). length (flat l)) (map-append (record_in p) u v) ∙ ap length (flat_append (records_at p u) (records_at p v)) ∙ length-append (flat (records_at p u)) (flat (records_at p v))

  pub moved_starts : (w : List ℕ) (k j : ℕ) → k ≤ j → j < length w → Starts p w → Starts p (moved w k j)
  unfolding moved
  moved_starts w k j h i s =
      let P : ℕ → Type 0 = λ a. Begins p a in
      let u = take k w in let v = take (j - k) (drop k w) in let a = get_or w j 0 in let t = drop (j + 1) w in
      let cut = cut_moved w k j h i in
      let (e, f) = each_part (λ (a : ℕ). Begins p a) u (v ++ a ∷ t) (subst (Each (λ (a : ℕ). Begins p a)) cut s.begin) in
      let (g, q) = each_part (λ (a : ℕ). Begins p a) v (a ∷ t) f in
      record {
        short = s.short;
        begin = each_join (λ (a : ℕ). Begins p a) u (a ∷ (v ++ t)) e (q.0, each_join (λ (a : ℕ). Begins p a) v t g q.1);
        long = omega (
          arith,
          s.long,
          ap total cut,
          total_append u (v ++ a ∷ t),
          total_append v (a ∷ t),
          total_append (a ∷ []) t,
          total_append u (a ∷ (v ++ t)),
          total_append (a ∷ []) (v ++ t),
          total_append v t,
        );
      }

-- ---- the first j records are in house order, the others as they were
abbrev pub first_of_house : List ℕ → List ℕ → ℕ → List (List ℕ)
first_of_house p w j = house_order knitting comes_first racking_zero (take j (records_at p w))

pub record InOrder (p w₀ w : List ℕ) (r : Racking) (j : ℕ) : Type 0 where
  pub starts : Starts p w
  pub long : length w ≡ length w₀
  pub upto : j ≤ length w
  pub are : records_at p w ≡ first_of_house p w₀ j ++ drop j (records_at p w₀)
  pub racking : r ≡ racked (rack_byte 0 (take j (records_at p w₀)))

pub none_in_order : (p w : List ℕ) → Starts p w → InOrder p w w racking_zero 0
unfolding rack_byte taken signed_of
none_in_order p w s = record { starts = s; long = refl; upto = omega arith; are = refl; racking = refl }

module _ (p w₀ w : List ℕ) (r : Racking) (j : ℕ) (o : InOrder p w₀ w r j) (h : j < length w) where
  abbrev all : List (List ℕ)
  all = records_at p w₀

  abbrev done : List (List ℕ)
  done = first_of_house p w₀ j

  abbrev x : List ℕ
  x = record_of p w j

  -- the racking byte in force
  abbrev b : ℕ
  b = rack_byte 0 (take j all)

  all_length : length all ≡ length w
  all_length = length-map w₀ (record_in p) ∙ sym o.long

  done_length : length done ≡ j
  done_length = house_length knitting comes_first lawful comparison_strict racking_zero (take j all) ∙ length-take-le j all (omega (arith, all_length))

  front_is : records_at p (take j w) ≡ done
  front_is = map_take (record_in p) j w ∙ ap (take j) o.are ∙ take_at done (drop j all) j done_length

  past_is : records_at p (drop j w) ≡ drop j all
  past_is = map_drop (record_in p) j w ∙ ap (drop j) o.are ∙ drop_at done (drop j all) j done_length

  -- the next record, and those behind it
  next_is : (x ∷ records_at p (drop (j + 1) w)) ≡ get_or all j [] ∷ drop (j + 1) all
  next_is =
      ap (λ (n : ℕ). x ∷ records_at p (drop n w)) (add-one j) ∙ sym (ap (records_at p) (drop-cons w j 0 h)) ∙ past_is ∙ drop-cons all j [] (omega (arith, all_length))
      ∙ ap (λ (n : ℕ). get_or all j [] ∷ drop n all) (sym (add-one j))

  own_is : x ≡ get_or all j []
  own_is = ap (λ (l : List (List ℕ)). get_or l 0 []) next_is

  others_are : records_at p (drop (j + 1) w) ≡ drop (j + 1) all
  others_are = ap (drop 1) next_is

  upto_next : take j all ++ x ∷ [] ≡ take (j + 1) all
  upto_next = ap (λ (y : List ℕ). take j all ++ y ∷ []) own_is ∙ sym (take-suc all j [] (omega (arith, all_length))) ∙ ap (λ (n : ℕ). take n all) (sym (add-one j))

  -- the racking in force
  own_begins : Begins p (get_or w j 0)
  own_begins = begins_at p w o.starts j h

  -- records that begin somewhere are records
  are_records : (v : List ℕ) → Each (λ (a : ℕ). Begins p a) v → Each (λ (y : List ℕ). is_record y ≡ true) (records_at p v)
  are_records [] e = tt
  are_records (a ∷ v) (e, f) = (e.is_one_record, are_records v f)

  force : (s₀ : Starts p w₀) → r ≡ in_force knitting racking_zero (take j all)
  force s₀ =
      let v = take j w₀ in
      let e = (each_part (λ (a : ℕ). Begins p a) v (drop j w₀) (subst (Each (λ (a : ℕ). Begins p a)) (sym (take-append-drop j w₀)) s₀.begin)).0 in
      let f = subst (Each (λ (y : List ℕ). is_record y ≡ true)) (map_take (record_in p) j w₀) (are_records v e) in
      o.racking ∙ sym (force_is (take j all) f)

  byte_next : byte_after b x ≡ rack_byte 0 (take (j + 1) all)
  byte_next =
      rack_on all j (j + 1) b (byte_after b x) (omega arith) refl
      (sym (rack_next b all j (j + 1) (omega arith) (omega (arith, all_length)) ∙ rack_end (byte_after b (get_or all j [])) all (j + 1) (j + 1) (omega arith)
      ∙ ap (byte_after b) (sym own_is)))

  -- one record more, moved to where it goes
  module _ (s₀ : Starts p w₀) where
    abbrev k : ℕ
    k = spot_at p w j r

    k_small : k ≤ j
    k_small = omega (arith, spot_small knitting comes_first lawful comparison_strict r x (records_at p (take j w)), ap length front_is, done_length)

    k_is : k ≡ spot_of knitting comes_first (in_force knitting racking_zero (take j all)) x done
    k_is = λ n. spot_of knitting comes_first (force s₀ n) x (front_is n)

    before_k : records_at p (take k w) ≡ take k done
    before_k = ap (records_at p) (sym (take-take k j w k_small)) ∙ map_take (record_in p) k (take j w) ∙ ap (take k) front_is

    from_k : records_at p (take (j - k) (drop k w)) ≡ drop k done
    from_k = ap (records_at p) (sym (drop_take k j w k_small (omega arith))) ∙ map_drop (record_in p) k (take j w) ∙ ap (drop k) front_is

    one_more : take k done ++ x ∷ drop k done ≡ first_of_house p w₀ (j + 1)
    one_more =
        ap (λ (n : ℕ). take n done ++ x ∷ drop n done) k_is
        ∙ sym (house_inserted knitting comes_first lawful comparison_strict racking_zero (take j all) x)
        ∙ ap (house_order knitting comes_first racking_zero) upto_next

    moved_are : records_at p (moved w k j) ≡ first_of_house p w₀ (j + 1) ++ drop (j + 1) all
    unfolding moved
    moved_are =
        map-append (record_in p) (take k w) (get_or w j 0 ∷ (take (j - k) (drop k w) ++ drop (j + 1) w))
        ∙ (λ n. before_k n ++ x ∷ map-append (record_in p) (take (j - k) (drop k w)) (drop (j + 1) w) n)
        ∙ (λ n. take k done ++ x ∷ (from_k n ++ others_are n))
        ∙ sym (append_assoc (take k done) (x ∷ drop k done) (drop (j + 1) all))
        ∙ ap (λ (l : List (List ℕ)). l ++ drop (j + 1) all) one_more

    moved_length : length (moved w k j) ≡ length w
    moved_length =
        sym (length-map (moved w k j) (record_in p)) ∙ ap length moved_are
        ∙ omega (arith, length-append (first_of_house p w₀ (j + 1)) (drop (j + 1) all), length-drop (j + 1) all, all_length, house_length knitting comes_first lawful comparison_strict racking_zero (take (j + 1) all), length-take-le (j + 1) all (omega (arith, all_length)))

    with_racking : (w' : List ℕ) (r' : Racking) → w' ≡ moved w k j → r' ≡ racked (byte_after b x) → InOrder p w₀ w' r' (j + 1)
    with_racking w' r' e f =
        record {
          starts = subst (Starts p) (sym e) (moved_starts p w k j k_small h o.starts);
          long = ap length e ∙ moved_length ∙ o.long;
          upto = omega (arith, ap length e, moved_length);
          are = ap (records_at p) e ∙ moved_are;
          racking = f ∙ ap racked byte_next;
        }

    -- as the two branches leave it: a rack stays, and gives the racking
    pub rack_done : (r' : Racking) → byte p (get_or w j 0) ≡ RACK → r' ≡ racked (byte p (get_or w j 0 + 1)) → InOrder p w₀ w r' (j + 1)
    rack_done r' e f =
        let a = get_or w j 0 in
        let z : byte x 0 ≡ RACK = sym (kind_in p a own_begins) ∙ e in
        let stays : k ≡ j = rack_last knitting comes_first lawful comparison_strict r x (records_at p (take j w)) (rack_in p a own_begins e) ∙ ap length front_is ∙ done_length in
        with_racking w r' (sym (ap (λ (n : ℕ). moved w n j) stays ∙ moved_same w j h))
        (f ∙ ap racked (byte_in p a own_begins 1 (omega (arith, (sized p a own_begins).least)) ∙ sym (simp (eq-eqb (byte x 0) RACK z))))

    pub other_done : (w' : List ℕ) (r' : Racking) → (byte p (get_or w j 0) ≡ RACK → ⊥) → w' ≡ moved w (spot_at p w j r) j → r' ≡ r → InOrder p w₀ w' r' (j + 1)
    other_done w' r' d e f =
        let a = get_or w j 0 in
        let z : byte_after b x ≡ b = simp (ne_eqb (byte x 0) RACK (λ q. d (kind_in p a own_begins ∙ q))) in
        with_racking w' r' e (f ∙ o.racking ∙ ap racked (sym z))
