-- Kinds: every known one is named, what its column says, and in to knit (bytes 04 to 08) as one. Assumes nothing.
use borrow.Table.Steps.{cases}
use Prim.Native.Nat.{ℕ, ◌+◌, ◌≤◌}
use mathlib.Core.Path.{◌≡◌, refl, sym, subst, ◌∙◌}
use mathlib.Core.Bool.{Bool, true, false, cond, true≢false}
use native.Mathlib.Omega.{arith}
use lib.Dec.{eqb, leb}
use borrow.Author.Tests.{eqb-true, eqb-false, ne_eqb, leb-true, leb-false}
use Rattle.record.specs.Kinds.{RACK, DROP, XFER, IN, OUT, MISS, TUCK, KNIT, SPLIT, PLATED_TUCK, PLATED_KNIT, by_kind, size_of, hooks_worked, carriers_named, loops_formed, tucks}

-- a known kind, by its name
pub data Known (k : ℕ) : Type 0 where
  rack : k ≡ RACK → Known k
  drop : k ≡ DROP → Known k
  xfer : k ≡ XFER → Known k
  carrier_in : k ≡ IN → Known k
  carrier_out : k ≡ OUT → Known k
  miss : k ≡ MISS → Known k
  tuck : k ≡ TUCK → Known k
  knit : k ≡ KNIT → Known k
  split : k ≡ SPLIT → Known k
  plated_tuck : k ≡ PLATED_TUCK → Known k
  plated_knit : k ≡ PLATED_KNIT → Known k

-- a choice by a test, and a case by a number
pub cond_cases : {A : Type 0} (P : A → Type 0) (b : Bool) {x y : A} → (b ≡ true → P x) → (b ≡ false → P y) → P (cond b x y)
cond_cases P true f g = f refl
cond_cases P false f g = g refl

pub is : {G : Type 0} (k n : ℕ) → (k ≡ n → G) → ((k ≡ n → ⊥) → G) → G
is k n f g = cases (eqb k n) (λ t. f (eqb-true k n t)) (λ t. g (eqb-false k n t))

pub data Named (k : ℕ) : Type 0 where
  known : Known k → Named k
  unknown : (Known k → ⊥) → size_of k ≡ 0 → Named k

-- every number is a known kind or none
pub named : (k : ℕ) → Named k
unfolding by_kind
named k =
    is k RACK (λ e. Named.known (Known.rack e)) (λ a. is k DROP (λ e. Named.known (Known.drop e)) (λ b. is k XFER (λ e. Named.known (Known.xfer e))
    (λ c. is k IN (λ e. Named.known (Known.carrier_in e)) (λ d. is k OUT (λ e. Named.known (Known.carrier_out e)) (λ f. is k MISS (λ e. Named.known (Known.miss e))
    (λ g. is k TUCK (λ e. Named.known (Known.tuck e)) (λ h. is k KNIT (λ e. Named.known (Known.knit e)) (λ i. is k SPLIT (λ e. Named.known (Known.split e))
    (λ j. is k PLATED_TUCK (λ e. Named.known (Known.plated_tuck e)) (λ l. is k PLATED_KNIT (λ e. Named.known (Known.plated_knit e))
    (λ m. Named.unknown (none a b c d f g h i j l m)
    (simp (ne_eqb k 1 a, ne_eqb k 2 b, ne_eqb k 3 c, ne_eqb k 4 d, ne_eqb k 5 f, ne_eqb k 6 g, ne_eqb k 7 h, ne_eqb k 8 i, ne_eqb k 9 j, ne_eqb k 10 l, ne_eqb k 11 m)))))))))))))
  where
    none : (k ≡ RACK → ⊥) → (k ≡ DROP → ⊥) → (k ≡ XFER → ⊥) → (k ≡ IN → ⊥) → (k ≡ OUT → ⊥) → (k ≡ MISS → ⊥) → (k ≡ TUCK → ⊥) → (k ≡ KNIT → ⊥) → (k ≡ SPLIT → ⊥)
        → (k ≡ PLATED_TUCK → ⊥) → (k ≡ PLATED_KNIT → ⊥) → Known k → ⊥
    none a b c d f g h i j l m (Known.rack e) = a e
    none a b c d f g h i j l m (Known.drop e) = b e
    none a b c d f g h i j l m (Known.xfer e) = c e
    none a b c d f g h i j l m (Known.carrier_in e) = d e
    none a b c d f g h i j l m (Known.carrier_out e) = f e
    none a b c d f g h i j l m (Known.miss e) = g e
    none a b c d f g h i j l m (Known.tuck e) = h e
    none a b c d f g h i j l m (Known.knit e) = i e
    none a b c d f g h i j l m (Known.split e) = j e
    none a b c d f g h i j l m (Known.plated_tuck e) = l e
    none a b c d f g h i j l m (Known.plated_knit e) = m e

-- what holds of the value of each kind, and of 0, holds of every number's
pub any_kind : (P : ℕ → Type 0) {a b c d f g h i j l m : ℕ} → P a → P b → P c → P d → P f → P g → P h → P i → P j → P l → P m → P 0
    → (k : ℕ) → P (by_kind a b c d f g h i j l m k)
unfolding by_kind
any_kind P pa pb pc pd pf pg ph pi pj pl pm p0 k =
    cond_cases P (eqb k RACK) (λ e. pa) (λ e. cond_cases P (eqb k DROP) (λ e. pb) (λ e. cond_cases P (eqb k XFER) (λ e. pc) (λ e. cond_cases P (eqb k IN) (λ e. pd)
    (λ e. cond_cases P (eqb k OUT) (λ e. pf) (λ e. cond_cases P (eqb k MISS) (λ e. pg) (λ e. cond_cases P (eqb k TUCK) (λ e. ph) (λ e. cond_cases P (eqb k KNIT) (λ e. pi)
    (λ e. cond_cases P (eqb k SPLIT) (λ e. pj) (λ e. cond_cases P (eqb k PLATED_TUCK) (λ e. pl) (λ e. cond_cases P (eqb k PLATED_KNIT) (λ e. pm) (λ e. p0)))))))))))

-- what holds at each named kind holds at every known one
pub at_known : (P : ℕ → Type 0) → P RACK → P DROP → P XFER → P IN → P OUT → P MISS → P TUCK → P KNIT → P SPLIT → P PLATED_TUCK → P PLATED_KNIT → {k : ℕ} → Known k → P k
at_known P a b c d f g h i j l m (Known.rack e) = subst P (sym e) a
at_known P a b c d f g h i j l m (Known.drop e) = subst P (sym e) b
at_known P a b c d f g h i j l m (Known.xfer e) = subst P (sym e) c
at_known P a b c d f g h i j l m (Known.carrier_in e) = subst P (sym e) d
at_known P a b c d f g h i j l m (Known.carrier_out e) = subst P (sym e) f
at_known P a b c d f g h i j l m (Known.miss e) = subst P (sym e) g
at_known P a b c d f g h i j l m (Known.tuck e) = subst P (sym e) h
at_known P a b c d f g h i j l m (Known.knit e) = subst P (sym e) i
at_known P a b c d f g h i j l m (Known.split e) = subst P (sym e) j
at_known P a b c d f g h i j l m (Known.plated_tuck e) = subst P (sym e) l
at_known P a b c d f g h i j l m (Known.plated_knit e) = subst P (sym e) m

-- a kind has a length exactly if it is known
pub known_size : {k : ℕ} → Known k → 2 ≤ size_of k
unfolding by_kind
known_size = at_known (λ (k : ℕ). 2 ≤ size_of k) (omega arith) (omega arith) (omega arith) (omega arith) (omega arith) (omega arith) (omega arith) (omega arith) (omega arith) (omega arith) (omega arith)

pub sized_known : (k : ℕ) → (size_of k ≡ 0 → ⊥) → Known k
sized_known k h = go (named k)
  where
    go : Named k → Known k
    go (Named.known a) = a
    go (Named.unknown a e) = absurd (h e)

-- the least and the greatest kind
pub known_least : {k : ℕ} → Known k → RACK ≤ k
known_least = at_known (λ (k : ℕ). RACK ≤ k) (omega arith) (omega arith) (omega arith) (omega arith) (omega arith) (omega arith) (omega arith) (omega arith) (omega arith) (omega arith) (omega arith)

pub known_most : {k : ℕ} → Known k → k ≤ PLATED_KNIT
known_most = at_known (λ (k : ℕ). k ≤ PLATED_KNIT) (omega arith) (omega arith) (omega arith) (omega arith) (omega arith) (omega arith) (omega arith) (omega arith) (omega arith) (omega arith) (omega arith)

-- those from in on name a carrier
pub carrying : {k : ℕ} → Known k → IN ≤ k → 1 ≤ carriers_named k
unfolding by_kind
carrying =
    at_known (λ (k : ℕ). IN ≤ k → 1 ≤ carriers_named k) (λ h. omega arith) (λ h. omega arith) (λ h. omega arith) (λ h. omega arith) (λ h. omega arith) (λ h. omega arith)
    (λ h. omega arith) (λ h. omega arith) (λ h. omega arith) (λ h. omega arith) (λ h. omega arith)

-- a kind of two that stand side by side
pub one_of_two : {G : Type 0} (k a b : ℕ) → b ≡ a + 1 → a ≤ k → k ≤ b → (k ≡ a → G) → (k ≡ b → G) → G
one_of_two k a b e h j f g = is k a f (λ d. g (omega arith))

-- what holds at each kind from in to knit, from in to split, or at both plated ones, holds in the range
pub in_work : (P : ℕ → Type 0) → P IN → P OUT → P MISS → P TUCK → P KNIT → (k : ℕ) → IN ≤ k → k ≤ KNIT → P k
in_work P a b c d e k h j =
    is k IN (λ q. subst P (sym q) a) (λ n4. is k OUT (λ q. subst P (sym q) b) (λ n5. is k MISS (λ q. subst P (sym q) c)
    (λ n6. is k TUCK (λ q. subst P (sym q) d) (λ n7. let q : k ≡ KNIT = omega arith in subst P (sym q) e))))

pub in_carried : (P : ℕ → Type 0) → P IN → P OUT → P MISS → P TUCK → P KNIT → P SPLIT → (k : ℕ) → IN ≤ k → k ≤ SPLIT → P k
in_carried P a b c d e f k h j = is k SPLIT (λ q. subst P (sym q) f) (λ n. in_work P a b c d e k h (omega arith))

pub in_plated : (P : ℕ → Type 0) → P PLATED_TUCK → P PLATED_KNIT → (k : ℕ) → PLATED_TUCK ≤ k → k ≤ PLATED_KNIT → P k
in_plated P a b k h j = one_of_two k PLATED_TUCK PLATED_KNIT refl h j (λ q. subst P (sym q) a) (λ q. subst P (sym q) b)

pub in_range_known : (k : ℕ) → RACK ≤ k → k ≤ PLATED_KNIT → Known k
in_range_known k h j =
    is k RACK Known.rack (λ a. is k DROP Known.drop (λ b. is k XFER Known.xfer (λ c. is k SPLIT Known.split
    (λ d. is k PLATED_TUCK Known.plated_tuck (λ e. is k PLATED_KNIT Known.plated_knit
    (λ f. in_work Known (Known.carrier_in refl) (Known.carrier_out refl) (Known.miss refl) (Known.tuck refl) (Known.knit refl) k (omega arith) (omega arith)))))))

pub one_named : (k : ℕ) → IN ≤ k → k ≤ SPLIT → carriers_named k ≡ 1
unfolding by_kind
one_named = in_carried (λ (k : ℕ). carriers_named k ≡ 1) refl refl refl refl refl refl

pub two_named : (k : ℕ) → PLATED_TUCK ≤ k → k ≤ PLATED_KNIT → carriers_named k ≡ 2
unfolding by_kind
two_named = in_plated (λ (k : ℕ). carriers_named k ≡ 2) refl refl

pub none_named : (k : ℕ) → (IN ≤ k → k ≤ PLATED_KNIT → ⊥) → carriers_named k ≡ 0
unfolding by_kind
none_named k w =
    is k RACK (λ e. simp e) (λ a. is k DROP (λ e. simp e) (λ b. is k XFER (λ e. simp e)
    (λ c. simp (
      ne_eqb k 1 a,
      ne_eqb k 2 b,
      ne_eqb k 3 c,
      ne_eqb k 4 (λ e. w (omega arith) (omega arith)),
      ne_eqb k 5 (λ e. w (omega arith) (omega arith)),
      ne_eqb k 6 (λ e. w (omega arith) (omega arith)),
      ne_eqb k 7 (λ e. w (omega arith) (omega arith)),
      ne_eqb k 8 (λ e. w (omega arith) (omega arith)),
      ne_eqb k 9 (λ e. w (omega arith) (omega arith)),
      ne_eqb k 10 (λ e. w (omega arith) (omega arith)),
      ne_eqb k 11 (λ e. w (omega arith) (omega arith)),
    ))))

-- how many hooks or carriers: none, one or two
pub data Count : ℕ → Type 0 where
  none : Count 0
  one : Count 1
  two : Count 2

pub hook_count_lem : (k : ℕ) → Count (hooks_worked k)
hook_count_lem = any_kind Count none one two none none none one one two one one none

pub carrier_count_lem : (k : ℕ) → Count (carriers_named k)
carrier_count_lem = any_kind Count none none none one one one one one one two two none

pub two_at_most : (k : ℕ) → carriers_named k ≤ 2
two_at_most = any_kind (λ (n : ℕ). n ≤ 2) (omega arith) (omega arith) (omega arith) (omega arith) (omega arith) (omega arith) (omega arith) (omega arith) (omega arith) (omega arith) (omega arith) (omega arith)

-- ---- kinds by what they do
-- those that name two carriers
pub data Plated (k : ℕ) : Type 0 where
  tuck : k ≡ PLATED_TUCK → Plated k
  knit : k ≡ PLATED_KNIT → Plated k

-- the kinds by how many carriers they name
pub unnamed : {k : ℕ} → Known k → carriers_named k ≡ 0 → k ≤ XFER
unfolding by_kind
unnamed = at_known (λ (k : ℕ). carriers_named k ≡ 0 → k ≤ XFER) (λ h. omega arith) (λ h. omega arith) (λ h. omega arith) (λ h. omega arith) (λ h. omega arith) (λ h. omega arith) (λ h. omega arith) (λ h. omega arith) (λ h. omega arith) (λ h. omega arith) (λ h. omega arith)

pub named_once : {k : ℕ} → Known k → carriers_named k ≡ 1 → (IN ≤ k) × (k ≤ SPLIT)
unfolding by_kind
named_once =
    at_known (λ (k : ℕ). carriers_named k ≡ 1 → (IN ≤ k) × (k ≤ SPLIT)) (λ h. (omega arith, omega arith)) (λ h. (omega arith, omega arith)) (λ h. (omega arith, omega arith)) (λ h. (omega arith, omega arith)) (λ h. (omega arith, omega arith)) (λ h. (omega arith, omega arith)) (λ h. (omega arith, omega arith)) (λ h. (omega arith, omega arith)) (λ h. (omega arith, omega arith)) (λ h. (omega arith, omega arith)) (λ h. (omega arith, omega arith))

pub two_carriers : {k : ℕ} → Known k → carriers_named k ≡ 2 → Plated k
unfolding by_kind
two_carriers {k} a e = let low = twice a e in is k PLATED_TUCK Plated.tuck (λ d. Plated.knit (omega (arith, d, low, known_most a)))
  where
    twice : {j : ℕ} → Known j → carriers_named j ≡ 2 → PLATED_TUCK ≤ j
    twice = at_known (λ (j : ℕ). carriers_named j ≡ 2 → PLATED_TUCK ≤ j) (λ h. omega arith) (λ h. omega arith) (λ h. omega arith) (λ h. omega arith) (λ h. omega arith) (λ h. omega arith) (λ h. omega arith) (λ h. omega arith) (λ h. omega arith) (λ h. omega arith) (λ h. omega arith)

pub plated_two : {k : ℕ} → Plated k → carriers_named k ≡ 2
unfolding by_kind
plated_two (Plated.tuck e) = simp e
plated_two (Plated.knit e) = simp e

-- those that form a loop
pub data Forms (k : ℕ) : Type 0 where
  tuck : k ≡ TUCK → Forms k
  knit : k ≡ KNIT → Forms k
  split : k ≡ SPLIT → Forms k
  plated : Plated k → Forms k

pub forms : {k : ℕ} → Known k → 1 ≤ loops_formed k → Forms k
unfolding by_kind
forms (Known.rack e) h = let q : 1 ≤ 0 = simp e at h in absurd (omega arith)
forms (Known.drop e) h = let q : 1 ≤ 0 = simp e at h in absurd (omega arith)
forms (Known.xfer e) h = let q : 1 ≤ 0 = simp e at h in absurd (omega arith)
forms (Known.carrier_in e) h = let q : 1 ≤ 0 = simp e at h in absurd (omega arith)
forms (Known.carrier_out e) h = let q : 1 ≤ 0 = simp e at h in absurd (omega arith)
forms (Known.miss e) h = let q : 1 ≤ 0 = simp e at h in absurd (omega arith)
forms (Known.tuck e) h = Forms.tuck e
forms (Known.knit e) h = Forms.knit e
forms (Known.split e) h = Forms.split e
forms (Known.plated_tuck e) h = Forms.plated (Plated.tuck e)
forms (Known.plated_knit e) h = Forms.plated (Plated.knit e)

-- those that work two hooks
pub data Moves (k : ℕ) : Type 0 where
  xfer : k ≡ XFER → Moves k
  split : k ≡ SPLIT → Moves k

pub two_hooks : {k : ℕ} → Known k → hooks_worked k ≡ 2 → Moves k
unfolding by_kind
two_hooks (Known.rack e) h = let q : ◌≡◌ {A = ℕ} 0 2 = simp e at h in absurd (omega arith)
two_hooks (Known.drop e) h = let q : ◌≡◌ {A = ℕ} 1 2 = simp e at h in absurd (omega arith)
two_hooks (Known.xfer e) h = Moves.xfer e
two_hooks (Known.carrier_in e) h = let q : ◌≡◌ {A = ℕ} 0 2 = simp e at h in absurd (omega arith)
two_hooks (Known.carrier_out e) h = let q : ◌≡◌ {A = ℕ} 0 2 = simp e at h in absurd (omega arith)
two_hooks (Known.miss e) h = let q : ◌≡◌ {A = ℕ} 0 2 = simp e at h in absurd (omega arith)
two_hooks (Known.tuck e) h = let q : ◌≡◌ {A = ℕ} 1 2 = simp e at h in absurd (omega arith)
two_hooks (Known.knit e) h = let q : ◌≡◌ {A = ℕ} 1 2 = simp e at h in absurd (omega arith)
two_hooks (Known.split e) h = Moves.split e
two_hooks (Known.plated_tuck e) h = let q : ◌≡◌ {A = ℕ} 1 2 = simp e at h in absurd (omega arith)
two_hooks (Known.plated_knit e) h = let q : ◌≡◌ {A = ℕ} 1 2 = simp e at h in absurd (omega arith)

-- those that use a carrier that is in
pub data Uses (k : ℕ) : Type 0 where
  carrier_out : k ≡ OUT → Uses k
  miss : k ≡ MISS → Uses k
  forming : Forms k → Uses k

pub uses : {k : ℕ} → Known k → 1 ≤ carriers_named k → (k ≡ IN → ⊥) → Uses k
unfolding by_kind
uses (Known.rack e) h d = let q : 1 ≤ 0 = simp e at h in absurd (omega arith)
uses (Known.drop e) h d = let q : 1 ≤ 0 = simp e at h in absurd (omega arith)
uses (Known.xfer e) h d = let q : 1 ≤ 0 = simp e at h in absurd (omega arith)
uses (Known.carrier_in e) h d = absurd (d e)
uses (Known.carrier_out e) h d = Uses.carrier_out e
uses (Known.miss e) h d = Uses.miss e
uses (Known.tuck e) h d = Uses.forming (Forms.tuck e)
uses (Known.knit e) h d = Uses.forming (Forms.knit e)
uses (Known.split e) h d = Uses.forming (Forms.split e)
uses (Known.plated_tuck e) h d = Uses.forming (Forms.plated (Plated.tuck e))
uses (Known.plated_knit e) h d = Uses.forming (Forms.plated (Plated.knit e))

-- a kind that forms a loop names a carrier, and is neither in nor out
pub record Loop (k : ℕ) : Type 0 where
  pub formed : 1 ≤ loops_formed k
  pub carried : 1 ≤ carriers_named k
  pub not_in : k ≡ IN → ⊥
  pub not_out : k ≡ OUT → ⊥

pub loop : {k : ℕ} → Forms k → Loop k
unfolding by_kind
loop (Forms.tuck e) = rw e (record { formed = omega arith; carried = omega arith; not_in = λ q. omega arith; not_out = λ q. omega arith })
loop (Forms.knit e) = rw e (record { formed = omega arith; carried = omega arith; not_in = λ q. omega arith; not_out = λ q. omega arith })
loop (Forms.split e) = rw e (record { formed = omega arith; carried = omega arith; not_in = λ q. omega arith; not_out = λ q. omega arith })
loop (Forms.plated (Plated.tuck e)) = rw e (record { formed = omega arith; carried = omega arith; not_in = λ q. omega arith; not_out = λ q. omega arith })
loop (Forms.plated (Plated.knit e)) = rw e (record { formed = omega arith; carried = omega arith; not_in = λ q. omega arith; not_out = λ q. omega arith })

-- tuck to plated knit form loops, and no other kind does
pub forms_some : (k : ℕ) → TUCK ≤ k → k ≤ PLATED_KNIT → leb 1 (loops_formed k) ≡ true
unfolding by_kind
forms_some k h j =
    is k TUCK (λ e. simp e) (λ a. is k KNIT (λ e. simp e) (λ b. is k SPLIT (λ e. simp e) (λ c. is k PLATED_TUCK (λ e. simp e)
    (λ d. let e : k ≡ PLATED_KNIT = omega arith in simp e))))

pub forms_none : (k : ℕ) → (TUCK ≤ k → k ≤ PLATED_KNIT → ⊥) → loops_formed k ≡ 0
unfolding by_kind
forms_none k h =
    is k RACK (λ e. simp e) (λ a. is k DROP (λ e. simp e) (λ b. is k XFER (λ e. simp e) (λ c. is k IN (λ e. simp e) (λ d. is k OUT (λ e. simp e) (λ f. is k MISS (λ e. simp e)
    (λ g. simp (
      ne_eqb k 1 a,
      ne_eqb k 2 b,
      ne_eqb k 3 c,
      ne_eqb k 4 d,
      ne_eqb k 5 f,
      ne_eqb k 6 g,
      ne_eqb k 7 (λ e. h (omega arith) (omega arith)),
      ne_eqb k 8 (λ e. h (omega arith) (omega arith)),
      ne_eqb k 9 (λ e. h (omega arith) (omega arith)),
      ne_eqb k 10 (λ e. h (omega arith) (omega arith)),
      ne_eqb k 11 (λ e. h (omega arith) (omega arith)),
    )))))))

-- what forms a loop works a hook, a tuck does, plain or plated
pub formed_works : (k : ℕ) → 1 ≤ loops_formed k → 1 ≤ hooks_worked k
unfolding by_kind
formed_works k h = go (named k)
  where
    at_stitch : TUCK ≤ k → k ≤ PLATED_KNIT → Known k
    at_stitch p q =
        is k TUCK Known.tuck (λ a. is k KNIT Known.knit (λ b. is k SPLIT Known.split (λ c. is k PLATED_TUCK Known.plated_tuck (λ d. Known.plated_knit (omega arith)))))

    go : Named k → 1 ≤ hooks_worked k
    go (Named.known a) = at_known (λ (n : ℕ). 1 ≤ loops_formed n → 1 ≤ hooks_worked n) (λ q. omega arith) (λ q. omega arith) (λ q. omega arith) (λ q. omega arith) (λ q. omega arith)
        (λ q. omega arith) (λ q. omega arith) (λ q. omega arith) (λ q. omega arith) (λ q. omega arith) (λ q. omega arith) a h
    go (Named.unknown d z) = absurd (omega (arith, h, forms_none k (λ p q. d (at_stitch p q))))

pub tuck_works : (k : ℕ) → tucks k ≡ true → 1 ≤ hooks_worked k
unfolding by_kind
tuck_works k t = is k TUCK (λ e. simp e (omega arith)) (λ d. is k PLATED_TUCK (λ e. simp e (omega arith)) (λ e. absurd (true≢false (sym t ∙ simp (ne_eqb k TUCK d, ne_eqb k PLATED_TUCK e)))))

-- a kind that names no carrier
pub record Uncarried (k : ℕ) : Type 0 where
  pub not_in : k ≡ IN → ⊥
  pub not_out : k ≡ OUT → ⊥
  pub not_miss : k ≡ MISS → ⊥
  pub forms_none : loops_formed k ≡ 0

pub uncarried : (k : ℕ) → carriers_named k ≡ 0 → Uncarried k
uncarried k e =
    let one : IN ≤ k → k ≤ SPLIT → ⊥ = λ h j. omega (arith, e, one_named k h j) in
    let two : PLATED_TUCK ≤ k → k ≤ PLATED_KNIT → ⊥ = λ h j. omega (arith, e, two_named k h j) in
    record {
      not_in = λ q. one (omega arith) (omega arith);
      not_out = λ q. one (omega arith) (omega arith);
      not_miss = λ q. one (omega arith) (omega arith);
      forms_none = forms_none k (λ h j. cases (leb k SPLIT) (λ t. one (omega arith) (leb-true k SPLIT t)) (λ t. two (omega (arith, leb-false k SPLIT t)) j));
    }

-- ---- in to knit have a four-byte body
pub above_bare : (k : ℕ) → 1 ≤ k → (k ≡ RACK → ⊥) → (k ≡ DROP → ⊥) → (k ≡ XFER → ⊥) → IN ≤ k
above_bare k h a b d = omega arith

pub work_size : (k : ℕ) → IN ≤ k → k ≤ KNIT → size_of k ≡ 5
unfolding by_kind
work_size = in_work (λ (k : ℕ). size_of k ≡ 5) refl refl refl refl refl

pub plated_size : (k : ℕ) → PLATED_TUCK ≤ k → k ≤ PLATED_KNIT → size_of k ≡ 6
unfolding by_kind
plated_size = in_plated (λ (k : ℕ). size_of k ≡ 6) refl refl

-- split and the plated ones
pub six_bytes : (k : ℕ) → SPLIT ≤ k → k ≤ PLATED_KNIT → size_of k ≡ 6
unfolding by_kind
six_bytes k h j = is k SPLIT (λ e. simp e) (λ d. plated_size k (omega arith) j)

-- what is none of them, nor another known kind, has no length
pub no_size : (k : ℕ) → (k ≡ RACK → ⊥) → (k ≡ DROP → ⊥) → (k ≡ XFER → ⊥) → (IN ≤ k → k ≤ PLATED_KNIT → ⊥) → size_of k ≡ 0
no_size k a b c w = go (named k)
  where
    go : Named k → size_of k ≡ 0
    go (Named.unknown n e) = e
    go (Named.known (Known.rack e)) = absurd (a e)
    go (Named.known (Known.drop e)) = absurd (b e)
    go (Named.known (Known.xfer e)) = absurd (c e)
    go (Named.known (Known.carrier_in e)) = absurd (w (omega arith) (omega arith))
    go (Named.known (Known.carrier_out e)) = absurd (w (omega arith) (omega arith))
    go (Named.known (Known.miss e)) = absurd (w (omega arith) (omega arith))
    go (Named.known (Known.tuck e)) = absurd (w (omega arith) (omega arith))
    go (Named.known (Known.knit e)) = absurd (w (omega arith) (omega arith))
    go (Named.known (Known.split e)) = absurd (w (omega arith) (omega arith))
    go (Named.known (Known.plated_tuck e)) = absurd (w (omega arith) (omega arith))
    go (Named.known (Known.plated_knit e)) = absurd (w (omega arith) (omega arith))
