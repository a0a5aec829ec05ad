-- How texts grow: by nothing, by a byte, and by one piece after another. Assumes nothing.
use Prim.Native.Nat.{ℕ, zero, suc, ◌+◌, ◌-◌, ◌≤◌, ◌<◌}
use mathlib.Core.Path.{◌≡◌, refl, sym, ap, subst, ◌∙◌}
use mathlib.Core.List.{List, [], ◌∷◌, ◌++◌, append_assoc, append-nil}
use native.Mathlib.Omega.{arith}
use native.Mathlib.Numerals.{add-one}
use lib.ListN.{length, take, drop, set, length-take, length-append, length-set}
use lib.Seq.{take_all, take-length, take-suc-set, take-append_seam, drop-set-lt, drop-drop}
use Rattle.listing_text.specs.Grown.{Grown}

-- what was cut off once need not be cut off before
cut_cut : (n : ℕ) (l m : List ℕ) → take n (take n l ++ m) ≡ take n (l ++ m)
cut_cut zero l m = refl
cut_cut (suc n) [] m = refl
cut_cut (suc n) (x ∷ l) m = ap (λ (k : List ℕ). x ∷ k) (cut_cut n l m)

pub nothing : (old : List ℕ) (at : ℕ) → at ≤ length old → Grown old at [] old at
nothing old at h =
    record {
      text = sym (simp append-nil (take_all (length old) (take at old) (omega (arith, length-take at old))));
      rest = refl;
      room = refl;
      grew = omega arith;
      within = h;
    }

pub one : (old : List ℕ) (at b : ℕ) → at < length old → Grown old at (b ∷ []) (set old at b) (at + 1)
one old at b h =
    record {
      text = rw add-one (take-suc-set old at b h ∙ sym (take_all (length old) (take at old ++ (b ∷ [])) (omega (arith, length-append (take at old) (b ∷ []), length-take at old))));
      rest = drop-set-lt (at + 1) old at b (omega arith);
      room = length-set old at b;
      grew = omega arith;
      within = omega (arith, length-set old at b);
    }

pub full : (old : List ℕ) (at b : ℕ) → at ≤ length old → length old ≤ at → Grown old at (b ∷ []) old (length old)
full old at b k h =
    record {
      text = take-length old ∙ sym (ap (λ (l : List ℕ). take (length old) (l ++ (b ∷ []))) (take_all at old h) ∙ take-append_seam old (b ∷ []));
      rest = refl;
      room = refl;
      grew = k;
      within = omega arith;
    }

-- what is kept from m on is kept from any later place on
later : (m r : ℕ) (l k : List ℕ) → m ≤ r → drop m l ≡ drop m k → drop r l ≡ drop r k
later m r l k h e =
    let s : m + (r - m) ≡ r = omega arith in
    ap (λ (n : ℕ). drop n l) (sym s) ∙ sym (drop-drop (r - m) m l) ∙ ap (λ (x : List ℕ). drop (r - m) x) e ∙ drop-drop (r - m) m k ∙ ap (λ (n : ℕ). drop n k) s

-- one piece and then another
pub then : {old a mid b new : List ℕ} {at m r : ℕ} → Grown old at a mid m → Grown mid m b new r → Grown old at (a ++ b) new r
then {old} {a} {mid} {b} {new} {at} {m} {r} f g =
    record {
      text = g.text ∙ ap (λ (n : ℕ). take n (take m mid ++ b)) f.room ∙ ap (λ (l : List ℕ). take (length old) (l ++ b)) f.text ∙ cut_cut (length old) (take at old ++ a) b ∙ ap (λ (l : List ℕ). take (length old) l) (append_assoc (take at old) a b);
      rest = g.rest ∙ later m r mid old g.grew f.rest;
      room = g.room ∙ f.room;
      grew = omega (arith, f.grew, g.grew);
      within = g.within;
    }

-- a piece by another name
pub like : {old p q new : List ℕ} {at r : ℕ} → p ≡ q → Grown old at p new r → Grown old at q new r
like {old} {p} {q} {new} {at} {r} e g = subst (λ (l : List ℕ). Grown old at l new r) e g
