-- Tests of lists, computed, and that they say so. Assumes nothing.
use mathlib.Core.Path.{◌≡◌, sym}
use mathlib.Core.Bool.{Bool, true, false, ◌&&◌, not}
use mathlib.Core.List.{List, [], ◌∷◌, ◌++◌, map}
use borrow.Author.Tests.{not-true}
use Rattle.machine.specs.Machine.{Each}
use Rattle.std.proofs.lemmas.Bool.{and_parts}
use Rattle.pieces.specs.Edges.{for_each}

unfoldable pub same_bool : Bool → Bool → Bool
same_bool true b = b
same_bool false b = not b

pub same_bool_lem : (a b : Bool) → same_bool a b ≡ true → a ≡ b
unfolding same_bool
same_bool_lem true b e = sym e
same_bool_lem false b e = sym (not-true b e)

abbrev pub every : {A : Type 0} → (A → Bool) → List A → Bool
every f [] = true
every f (x ∷ l) = f x && every f l

pub each : {A : Type 0} (P : A → Type 0) (f : A → Bool) → ((x : A) → f x ≡ true → P x) → (l : List A) → every f l ≡ true → Each P l
each P f g [] e = tt
each P f g (x ∷ l) e = let (p, q) = and_parts (f x) (every f l) e in (g x p, each P f g l q)

-- rows that say that f gives what g has: one equation of lists
pub each_given : {A B : Type 0} (P : A → Type 0) (f g : A → B) → ((x : A) → f x ≡ g x → P x) → (l : List A) → map f l ≡ map g l → Each P l
each_given P f g h [] e = tt
each_given P f g h (x ∷ l) e = let p : f x ≡ g x = cc in let q : map f l ≡ map g l = cc in (h x p, each_given P f g h l q)

-- Each over lists that are put together, that are mapped, and that a function lists; the elements that are tested may be others, one for one
pub each_both : {A : Type 0} (P : A → Type 0) (l m : List A) → Each P l → Each P m → Each P (l ++ m)
each_both P [] m p q = q
each_both P (x ∷ l) m (a, p) q = (a, each_both P l m p q)

pub each_map : {A B C : Type 0} (P : C → Type 0) (f : B → Bool) (g : A → B) (h : A → C) → ((x : A) → f (g x) ≡ true → P (h x)) → (l : List A) → every f (map g l) ≡ true → Each P (map h l)
each_map P f g h k [] e = tt
each_map P f g h k (x ∷ l) e = let (p, q) = and_parts (f (g x)) (every f (map g l)) e in (k x p, each_map P f g h k l q)

pub each_listed : {A B : Type 0} (P : B → Type 0) (f : A → Bool) (g : A → List B) → ((x : A) → f x ≡ true → Each P (g x)) → (l : List A) → every f l ≡ true → Each P (for_each l g)
each_listed P f g k [] e = tt
each_listed P f g k (x ∷ l) e = let (p, q) = and_parts (f x) (every f l) e in each_both P (g x) (for_each l g) (k x p) (each_listed P f g k l q)
