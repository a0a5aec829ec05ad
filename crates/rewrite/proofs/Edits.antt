-- Edits of a list at listed places (run's `edit`), and when they change places. One law for hooks and for carriers. Assumes nothing.
use Prim.Native.Nat.{ℕ, zero, suc}
use mathlib.Core.Path.{◌≡◌, refl, sym, ap, ◌∙◌}
use mathlib.Core.List.{List, [], ◌∷◌, map}
use lib.ListN.{get_or, set}
use lib.Seq.{get_or-set_other, set_comm}
use Rattle.machine.specs.Machine.{Each}
use Rattle.run.specs.Step.{edit}

-- a place that is not listed, and lists with no place in common
abbrev pub Away : ℕ → List ℕ → Type 0
Away i l = Each (λ (j : ℕ). i ≡ j → ⊥) l

abbrev pub Apart : List ℕ → List ℕ → Type 0
Apart is js = Each (λ (i : ℕ). Away i js) is

pub apart_sym : (is js : List ℕ) → Apart is js → Apart js is
apart_sym is [] h = tt
apart_sym is (j ∷ js) h = (heads is h, apart_sym is js (rest is h))
  where
    heads : (is : List ℕ) → Apart is (j ∷ js) → Away j is
    heads [] h = tt
    heads (i ∷ is) h = ((λ e. h.0.0 (sym e)), heads is h.1)

    rest : (is : List ℕ) → Apart is (j ∷ js) → Apart is js
    rest [] h = tt
    rest (i ∷ is) h = (h.0.1, rest is h.1)

module _ {A W : Type 0} (act : W → A → A) (d : A) where
  -- an edit at one place
  abbrev once : ℕ → W → List A → List A
  once i v l = set l i (act v (get_or l i d))

  pub edit_other : (is : List ℕ) (vs : List W) (l : List A) (i : ℕ) → Away i is → get_or (edit act d is vs l) i d ≡ get_or l i d
  unfolding edit
  edit_other [] vs l i h = refl
  edit_other (j ∷ is) [] l i h = refl
  edit_other (j ∷ is) (v ∷ vs) l i h = edit_other is vs (once j v l) i h.1 ∙ get_or-set_other l j i (act v (get_or l j d)) d h.0

  once_once : (i j : ℕ) (v w : W) (l : List A) → (i ≡ j → ⊥) → once i v (once j w l) ≡ once j w (once i v l)
  once_once i j v w l h =
      let p = get_or-set_other l j i (act w (get_or l j d)) d h in
      let q = get_or-set_other l i j (act v (get_or l i d)) d (λ e. h (sym e)) in
      ap (λ (a : A). set (set l j (act w (get_or l j d))) i (act v a)) p
      ∙ set_comm l j i (act w (get_or l j d)) (act v (get_or l i d)) (λ e. h (sym e))
      ∙ ap (λ (a : A). set (set l i (act v (get_or l i d))) j (act w a)) (sym q)

  once_edit : (i : ℕ) (v : W) (js : List ℕ) (ws : List W) (l : List A) → Away i js → once i v (edit act d js ws l) ≡ edit act d js ws (once i v l)
  unfolding edit
  once_edit i v [] ws l h = refl
  once_edit i v (j ∷ js) [] l h = refl
  once_edit i v (j ∷ js) (w ∷ ws) l h = once_edit i v js ws (once j w l) h.1 ∙ ap (edit act d js ws) (once_once i j v w l h.0)

  -- edits at places apart change places
  pub edit_edit : (is js : List ℕ) (vs ws : List W) (l : List A) → Apart is js
      → edit act d is vs (edit act d js ws l) ≡ edit act d js ws (edit act d is vs l)
  unfolding edit
  edit_edit [] js vs ws l h = refl
  edit_edit (i ∷ is) js [] ws l h = refl
  edit_edit (i ∷ is) js (v ∷ vs) ws l h = ap (edit act d is vs) (once_edit i v js ws l h.0) ∙ edit_edit is js vs ws (once i v l) h.1

  -- a change of every element, which leaves the default
  module _ (f : A → A) (still : f d ≡ d) where
    abbrev pub Passes : W → Type 0
    Passes v = (a : A) → f (act v a) ≡ act v (f a)

    pub map_at : (l : List A) (i : ℕ) → get_or (map f l) i d ≡ f (get_or l i d)
    map_at [] i = sym still
    map_at (x ∷ l) zero = refl
    map_at (x ∷ l) (suc i) = map_at l i

    map_set : (l : List A) (i : ℕ) (a : A) → map f (set l i a) ≡ set (map f l) i (f a)
    map_set [] i a = refl
    map_set (x ∷ l) zero a = refl
    map_set (x ∷ l) (suc i) a = ap (λ (t : List A). f x ∷ t) (map_set l i a)

    -- it passes an edit that it passes at each element
    pub map_edit : (is : List ℕ) (vs : List W) (l : List A) → Each Passes vs → map f (edit act d is vs l) ≡ edit act d is vs (map f l)
    unfolding edit
    map_edit [] vs l h = refl
    map_edit (i ∷ is) [] l h = refl
    map_edit (i ∷ is) (v ∷ vs) l h =
        map_edit is vs (once i v l) h.1
        ∙ ap (edit act d is vs) (map_set l i (act v (get_or l i d)) ∙ ap (set (map f l) i) (h.0 (get_or l i d) ∙ ap (act v) (sym (map_at l i))))

pub map_map : {A : Type 0} (f g : A → A) → ((a : A) → f (g a) ≡ g (f a)) → (l : List A) → map f (map g l) ≡ map g (map f l)
map_map f g h [] = refl
map_map f g h (x ∷ l) = cc (h x, map_map f g h l)
