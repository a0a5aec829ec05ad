-- The least carrier that two records name, as the least of the first's that the second names. Assumes nothing.
use borrow.Table.Steps.{cases}
use Prim.Native.Nat.{ℕ, ◌≤◌, ◌<◌, min}
use mathlib.Core.Path.{◌≡◌, refl, sym, ap, subst, ◌∙◌}
use mathlib.Core.List.{List, [], ◌∷◌}
use native.Mathlib.Omega.{arith}
use lib.ListN.{take}
use Rattle.std.specs.Prelude.{Option, Some, None, unwrap_or, option_map, IfSome}
use Rattle.std.specs.List.{filter, reduce}
use Rattle.std.proofs.lemmas.Bool.Decides.{nat_tests}
use Rattle.record.specs.declared.Record.{Record}
use Rattle.record.specs.Kinds.{carriers_named}
use Rattle.record.specs.Names.{carriers_of}
use Rattle.record.proofs.Shapes.{Count, none, one, two, carrier_count_lem}
use Rattle.rewrite.specs.Extents.{member}
use Rattle.rewrite.proofs.Carriers.{none_named, one_named, two_named}
use Rattle.tie.specs.Bonds.{Carries}
use Rattle.tie.specs.Tie.{lower, least, least_shared}

pub count_small : (kind : ℕ) → carriers_named kind ≤ 2
count_small kind = go (carrier_count_lem kind)
  where
    go : {m : ℕ} → Count m → m ≤ 2
    go none = omega arith
    go one = omega arith
    go two = omega arith

pub named_are : (x : Record) (n : ℕ) → n ≡ carriers_named x.kind → take n (x.carrier ∷ x.second ∷ []) ≡ carriers_of x
unfolding carriers_of
named_are x n e = ap (λ (m : ℕ). take m (x.carrier ∷ x.second ∷ [])) e

-- of a list of carriers, those that the record names
module _ (y : Record) where
  abbrev picked : List ℕ → Option ℕ
  picked l = reduce min (filter (λ k. member k (carriers_of y)) l)

  abbrev IsLeast : List ℕ → Type 0
  IsLeast l = (unwrap_or (picked l) 0 ≡ least y l) × IfSome (picked l) (λ k. 0 < k)

  least_none : IsLeast []
  unfolding least
  least_none = (refl, tt)

  least_one : (a : ℕ) → 0 < a → IsLeast (a ∷ [])
  unfolding least lower
  least_one a h =
      cases (member a (carriers_of y)) (λ s. simp s (grind (arith, nat_tests), h)) (λ s. simp s (refl, tt))

  least_two : (a b : ℕ) → 0 < a → 0 < b → IsLeast (a ∷ b ∷ [])
  unfolding least lower
  least_two a b h k =
      cases (member a (carriers_of y))
      (λ s. cases (member b (carriers_of y)) (λ t. simp (s, t) (grind (arith, nat_tests), omega arith)) (λ t. simp (s, t) (grind (arith, nat_tests), h)))
      (λ s. cases (member b (carriers_of y)) (λ t. simp (s, t) (grind (arith, nat_tests), k)) (λ t. simp (s, t) (refl, tt)))

same_option : (r : Option ℕ) → option_map (λ k. k) r ≡ r
same_option None = refl
same_option (Some k) = refl

pub least_picked : (x y : Record) → Carries x → (r : Option ℕ) → option_map (λ k. k) r ≡ reduce min (filter (λ k. member k (carriers_of y)) (carriers_of x)) → (unwrap_or r 0 ≡ least_shared x y) × IfSome r (λ k. 0 < k)
least_picked x y h r e = subst (λ (o : Option ℕ). (unwrap_or o 0 ≡ least_shared x y) × IfSome o (λ k. 0 < k)) (sym e ∙ same_option r) (go (carrier_count_lem x.kind) refl)
  where
    go : {m : ℕ} → Count m → carriers_named x.kind ≡ m → IsLeast y (carriers_of x)
    go none q = subst (IsLeast y) (sym (none_named x q)) (least_none y)
    go one q = subst (IsLeast y) (sym (one_named x q)) (least_one y x.carrier (h.first (omega arith)))
    go two q = subst (IsLeast y) (sym (two_named x q)) (least_two y x.carrier x.second (h.first (omega arith)) (h.second (omega arith)))
