-- The theorems, each of the type that specs/Claims names. Assumes nothing.
use Prim.Native.Nat.{◌≤◌}
use mathlib.Core.Path.{◌≡◌, sym, subst, ◌∙◌}
use mathlib.Core.Bool.{Bool, true}
use mathlib.Core.List.{List, [], ◌∷◌, ◌++◌}
use lib.ListN.{length}
use Rattle.trace.specs.Records.{Records, Lawful}
use Rattle.trace.specs.Swaps.{Swaps}
use Rattle.trace.specs.Machine.{Machine}
use Rattle.trace.specs.House.{StrictOrder, InHouseOrder, house_order, spot_of}
use Rattle.trace.specs.Claims.{MadeExactly, RefusedExactly, NoPairExactly, EqualsAreTied, OnePosition, OrderOfPositions, ReachesExactly, OneHalfIsEnough, SwapsKeep, SwapsKeepTheRun, HouseExactly, OneHouseOrder, HouseReached, OneHouseExactly, HouseFirst, HouseTwice, HouseInserted}
use Rattle.trace.proofs.Positions.{nth_unique}
use Rattle.trace.proofs.Swaps.{made_exactly, refused_exactly, no_pair_short, short_no_pair, equals_are_tied, swaps_append, swaps_back}
use Rattle.trace.proofs.Stretches.{swaps_records}
use Rattle.trace.proofs.Reach.{reaches, same_order, positions}
use Rattle.trace.proofs.Runs.{swaps_run, swaps_history}
use Rattle.trace.proofs.Houses.{one_order, ordered, swaps_order, order_reached, own_order, order_length, comes_first_lem}
use Rattle.trace.proofs.Insertions.{put_in, rack_spot, spot_bound}

module _ {A R : Type 0} (K : Records A R) where
  pub made_iff_untied : MadeExactly K
  made_iff_untied = made_exactly K

  pub refused_iff_tied : RefusedExactly K
  refused_iff_tied = refused_exactly K

  pub no_pair_iff_short : NoPairExactly K
  no_pair_iff_short r i l = (no_pair_short K r i l, short_no_pair K r i l)

  pub equals_tied : EqualsAreTied K
  equals_tied L = equals_are_tied K L

  pub one_position : OnePosition K
  one_position L l x i p q = nth_unique K.same L.same_refl x l i p q

  pub order_of_positions : OrderOfPositions K
  order_of_positions L r l m o = positions K L r l m (λ x y i j. (o x y i j).0)

  pub reaches_exactly : ReachesExactly K
  reaches_exactly L r l m = (
    (λ t. (swaps_records K t.1, same_order K L t.1)),
    (λ t. reaches K L r l m t.0 (λ x y i j. (t.1 x y i j).0)),
  )

  pub one_half_is_enough : OneHalfIsEnough K
  one_half_is_enough L r l m s o = same_order K L (reaches K L r l m s o).1

module _ {A R S N : Type 0} (K : Records A R) (M : Machine A R S) (names : N → A → Bool) (Good : S → Type 0) where
  swaps_keep_the_run : SwapsKeepTheRun K M names Good
  swaps_keep_the_run O s g is l m t = swaps_run K M names Good O s g t

  pub swaps_keep : SwapsKeep K M names Good
  swaps_keep L O s e g is l m v t =
      record {
        ends = sym (swaps_keep_the_run O s g is l m t) ∙ v;
        histories = λ n. swaps_history K M names Good O n s e g v t;
        records = swaps_records K t;
        order = same_order K L t;
      }

module _ {A R : Type 0} (K : Records A R) (less : R → A → A → Bool) where
  pub house_exactly : HouseExactly K less
  house_exactly L S r l m = (
    (λ e. subst (λ (n : List A). InHouseOrder K less r l n) e (ordered K L less S r l)),
    (λ h. one_order K L less S (ordered K L less S r l) h),
  )

  pub one_house_order : OneHouseOrder K less
  one_house_order L S r l = (house_order K less r l, ordered K L less S r l, λ n h. one_order K L less S h (ordered K L less S r l))

  pub house_reached : HouseReached K less
  house_reached L S r l = order_reached K L less S (ordered K L less S r l)

  pub one_house_exactly : OneHouseExactly K less
  one_house_exactly L S r l m = (
    (λ e.
        let (is, s) = house_reached L S r l in
        let (js, t) = swaps_back K L (house_reached L S r m).1 in
        (is ++ js, swaps_append K s (subst (λ (n : List A). Swaps K r js n m) (sym e) t))),
    (λ (is, s). one_order K L less S (swaps_order K L less S (ordered K L less S r l) s) (ordered K L less S r m)),
  )

  pub house_first : HouseFirst K less
  house_first L S r is l m s = comes_first_lem K L less S (swaps_order K L less S (ordered K L less S r l) s)

  pub house_twice : HouseTwice K less
  house_twice L S r l = one_order K L less S (ordered K L less S r (house_order K less r l)) (own_order K L less S (ordered K L less S r l))

  pub house_inserted : HouseInserted K less
  house_inserted L S r l x = one_order K L less S (ordered K L less S r (l ++ x ∷ [])) (put_in K L less S r l (house_order K less r l) x (ordered K L less S r l))

  pub house_length : Lawful K → StrictOrder less → (r : R) (l : List A) → length (house_order K less r l) ≡ length l
  house_length L S r l = order_length K L less S (ordered K L less S r l)

  -- a rack stays behind all before it
  pub rack_last : (L : Lawful K) (S : StrictOrder less) (r : R) (x : A) (l : List A) → K.is_rack x ≡ true → spot_of K less r x l ≡ length l
  rack_last L S = rack_spot K L less S

  pub spot_small : (L : Lawful K) (S : StrictOrder less) (r : R) (x : A) (l : List A) → spot_of K less r x l ≤ length l
  spot_small L S = spot_bound K L less S
