-- The carriers of a record by how many its kind names. Assumes nothing.
use Prim.Native.Nat.{ℕ}
use mathlib.Core.Path.{◌≡◌, refl, ◌∙◌}
use mathlib.Core.List.{[], ◌∷◌}
use Rattle.record.specs.declared.Record.{Record}
use Rattle.record.specs.Kinds.{carriers_named}
use Rattle.record.specs.Names.{carriers_of}
use Rattle.record.proofs.Shapes.{Count, none, one, two, carrier_count_lem}

module _ (x : Record) where
  pub none_named : carriers_named x.kind ≡ 0 → carriers_of x ≡ []
  unfolding carriers_of
  none_named e = simp e

  pub one_named : carriers_named x.kind ≡ 1 → carriers_of x ≡ x.carrier ∷ []
  unfolding carriers_of
  one_named e = simp e

  pub two_named : carriers_named x.kind ≡ 2 → carriers_of x ≡ x.carrier ∷ x.second ∷ []
  unfolding carriers_of
  two_named e = simp e

  -- neither none nor one
  pub two_of : {n : ℕ} → n ≡ carriers_named x.kind → (n ≡ 0 → ⊥) → (n ≡ 1 → ⊥) → carriers_named x.kind ≡ 2
  two_of e d f = go (carrier_count_lem x.kind) (λ q. d (e ∙ q)) (λ q. f (e ∙ q))
    where
      go : {m : ℕ} → Count m → (m ≡ 0 → ⊥) → (m ≡ 1 → ⊥) → m ≡ 2
      go none d f = absurd (d refl)
      go one d f = absurd (f refl)
      go two d f = refl

pub ruleset carriers = (none_named, one_named, two_named, two_of)
