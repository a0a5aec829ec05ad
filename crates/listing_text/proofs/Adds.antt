-- How a text grows: by nothing, by one piece and then another, by a piece under another name. Assumes nothing.
use Prim.Native.Nat.{ℕ}
use mathlib.Core.Path.{◌≡◌, refl, subst, ◌∙◌}
use mathlib.Core.List.{List, [], ◌++◌}
use Rattle.listing_text.specs.declared.text.Text.{Text}
use Rattle.listing_text.specs.Adds.{Adds}
use Rattle.listing_text.specs.Grown.{Grown}
use Rattle.listing_text.proofs.Grow as grow

pub nothing : (t : Text) → Adds t [] t
nothing t = record { same = refl; grown = grow.nothing t.bytes.now t.end t.within }

pub then : {old mid new : Text} {a b : List ℕ} → Adds old a mid → Adds mid b new → Adds old (a ++ b) new
then f g = record { same = g.same ∙ f.same; grown = grow.then f.grown g.grown }

pub like : {old new : Text} {p q : List ℕ} → p ≡ q → Adds old p new → Adds old q new
like {old} {new} e a = subst (λ (l : List ℕ). Adds old l new) e a

-- from no text on, in a loan that was lent and then taken back
pub at_front : {old new : Text} {piece given back : List ℕ} {n : ℕ} → old.bytes.now ≡ given → old.end ≡ 0 → new.bytes.now ≡ back → n ≡ new.end → Adds old piece new
    → Grown given 0 piece back n
at_front {old} {new} {piece} e f g h a = rw (← e, ← f, ← g, h) a.grown
