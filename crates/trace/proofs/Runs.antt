-- Swaps keep the run, and along a run that ends the history of each thing named. Assumes nothing.
use Prim.Native.Nat.{ℕ}
use mathlib.Core.Path.{◌≡◌, refl, sym, ap, ◌∙◌}
use mathlib.Core.Bool.{Bool, true, false, true≢false}
use mathlib.Core.List.{List, ◌∷◌}
use mathlib.Core.Option.{Option, none, some}
use Rattle.trace.specs.Lists.{keep}
use Rattle.trace.specs.Records.{Records, tied}
use Rattle.trace.specs.Swaps.{Swaps, no_swap, swap_first}
use Rattle.trace.specs.Machine.{Machine, and_then, run, Ends, Orderly}
use Rattle.trace.proofs.Lists.{keep_swap}
use Rattle.trace.proofs.Swaps.{Made, made_is}

then_then : {S : Type 0} (o : Option S) (f g : S → Option S) → and_then (and_then o f) g ≡ and_then o (λ s. and_then (f s) g)
then_then none f g = refl
then_then (some s) f g = refl

module _ {A R S N : Type 0} (K : Records A R) (M : Machine A R S) (names : N → A → Bool) (Good : S → Type 0) (O : Orderly K M names Good) where
  open K use {after}
  open M use {step, racking}
  open O use {good_step, racking_step, commute, named}

  made_run : {r : R} {i : ℕ} {l m : List A} → Made K r i l m → (s : S) → Good s → racking s ≡ r → run M s l ≡ run M s m
  made_run (Made.here {r} {x} {y} {l} t) s g q =
      sym (then_then (step s x) (λ u. step u y) (λ u. run M u l)) ∙ ap (λ (o : Option S). and_then o (λ u. run M u l)) (commute s x y g (rw q t))
      ∙ then_then (step s y) (λ u. step u x) (λ u. run M u l)
  made_run (Made.there {r} {x} {l = l} {m = m} t) s g q = go (step s x) refl (made_run t)
    where
      go : (o : Option S) → step s x ≡ o → ((u : S) → Good u → racking u ≡ after r x → run M u l ≡ run M u m)
          → and_then (step s x) (λ u. run M u l) ≡ and_then (step s x) (λ u. run M u m)
      go none e ih = cc
      go (some u) e ih = rw e (ih u (good_step s u x g e) (racking_step s u x e ∙ ap (λ (z : R). after z x) q))

  -- by recursion on the swaps, with the state before their positions
  run_kept : (s : S) {is : List ℕ} {l m : List A} → Good s → Swaps K (racking s) is l m → run M s l ≡ run M s m
  run_kept s g no_swap = refl
  run_kept s g (swap_first {i} {l = l} {m = m} e t) = made_run (made_is K l m (racking s) i e) s g refl ∙ run_kept s g t

  pub swaps_run : {is : List ℕ} {l m : List A} (s : S) → Good s → Swaps K (racking s) is l m → run M s l ≡ run M s m
  swaps_run s g t = run_kept s g t

  module _ (n : N) where
    -- two that have their steps and name one thing are not swapped
    not_both : (s e : S) (x y : A) (l : List A) → Good s → Ends M s (x ∷ y ∷ l) e → tied K (racking s) x y ≡ false → names n x ≡ true → names n y ≡ true → ⊥
    not_both s e x y l g v t a b = one (step s x) refl
      where
        two : (w : S) → step s x ≡ some w → (o : Option S) → step w y ≡ o → ⊥
        two w q none d = true≢false (cc)
        two w q (some u) d = true≢false (sym (named n s w u x y g q d a b) ∙ t)

        one : (o : Option S) → step s x ≡ o → ⊥
        one none q = true≢false (cc)
        one (some w) q = two w q (step w y) refl

    made_history : {r : R} {i : ℕ} {l m : List A} → Made K r i l m → (s e : S) → Good s → racking s ≡ r → Ends M s l e → keep (names n) l ≡ keep (names n) m
    made_history (Made.here {r} {x} {y} {l} t) s e g q v = keep_swap (names n) x y l (λ a b. absurd (not_both s e x y l g v (rw q t) a b))
    made_history (Made.there {r} {x} {l = l} {m = m} t) s e g q v = go (step s x) refl (made_history t)
      where
        go : (o : Option S) → step s x ≡ o → ((u d : S) → Good u → racking u ≡ after r x → Ends M u l d → keep (names n) l ≡ keep (names n) m)
            → keep (names n) (x ∷ l) ≡ keep (names n) (x ∷ m)
        go none f ih = absurd (true≢false (cc))
        go (some u) f ih = let z = ih u e (good_step s u x g f) (racking_step s u x f ∙ ap (λ (w : R). after w x) q) (cc) in cc

    history_kept : (s e : S) {is : List ℕ} {l m : List A} → Good s → Ends M s l e → Swaps K (racking s) is l m → keep (names n) l ≡ keep (names n) m
    history_kept s e g v no_swap = refl
    history_kept s e g v (swap_first {i} {l = l} {m = m} h t) =
        let k = made_is K l m (racking s) i h in
        made_history k s e g refl v ∙ history_kept s e g (sym (made_run k s g refl) ∙ v) t

    pub swaps_history : {is : List ℕ} {l m : List A} (s e : S) → Good s → Ends M s l e → Swaps K (racking s) is l m → keep (names n) l ≡ keep (names n) m
    swaps_history s e g v t = history_kept s e g v t
