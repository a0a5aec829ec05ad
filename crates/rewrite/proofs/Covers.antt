-- What a record covers is what lies within its extent, kind by kind. Assumes nothing.
use borrow.Table.Steps.{cases}
use Prim.Native.Nat.{ℕ, ◌+◌, ◌≤◌}
use mathlib.Core.Path.{◌≡◌, sym, subst, subst⁻¹, ◌∙◌}
use mathlib.Core.Bool.{true}
use mathlib.Core.Logic.{◌↔◌, ◌⊎◌, inl, inr, ⊎_elim}
use native.Mathlib.Omega.{arith}
use lib.IntN.{ℤ, pos, ◌+ℤ◌, ◌-ℤ◌}
use lib.Signed.{le_z}
use lib.Dec.{ltb}
use borrow.Author.Tests.{eq-eqb, ne_eqb, ltb-true, ltb-false}
use Rattle.machine.specs.declared.Racking.{Racking}
use Rattle.machine.proofs.Signed.{up, dn, sum, difference, eq_of}
use Rattle.record.specs.declared.Record.{Record}
use Rattle.record.specs.Kinds.{DROP, IN, MISS, TUCK, KNIT, PLATED_TUCK, PLATED_KNIT, size_of}
use Rattle.record.proofs.Shapes.{Known, Named, named, is, known_size, work_size, plated_size}
use Rattle.rewrite.specs.declared.Extent.{Extent}
use Rattle.rewrite.specs.Extents.{Passes, TucksOrKnits, IsPlated, Without, twice_z, Around, Front, Covers, half_column, layer_of, narrow, broad, smaller, greater, form_extent, extent_of, Within}
use Rattle.rewrite.specs.Claims.{CoversExactly}
use Rattle.rewrite.proofs.Signed.{le_of, le_from, le_self}
use Rattle.rewrite.proofs.Extents.{drop_extent, xfer_extent, pass_extent, form_extent_lem, plated_extent, other_extent}

-- ---- half columns, by comparisons and by name
module _ (h z : ℤ) where
  alone : le_z z h ≡ true → le_z h z ≡ true → h ≡ z
  alone p q = eq_of h z (omega (arith, le_from z h p, le_from h z q))

  three : {G : Type 0} → le_z (z -ℤ pos 1) h ≡ true → le_z h (z +ℤ pos 1) ≡ true → (h +ℤ pos 1 ≡ z → G) → (h ≡ z → G) → (h ≡ z +ℤ pos 1 → G) → G
  three p q f g k =
      let a = le_from (z -ℤ pos 1) h p in
      let b = le_from h (z +ℤ pos 1) q in
      is (up h + dn z + 1) (up z + dn h) (λ e. f (eq_of (h +ℤ pos 1) z (omega (arith, sum h (pos 1), e))))
      (λ d. is (up h + dn z) (up z + dn h) (λ e. g (eq_of h z (omega (arith, e))))
      (λ c. k (eq_of h (z +ℤ pos 1) (omega (arith, a, b, difference z (pos 1), sum z (pos 1), c, d)))))

  at_left : h +ℤ pos 1 ≡ z → up z + dn h ≡ dn z + (up h + 1)
  at_left e = subst (λ (w : ℤ). up w + dn h ≡ dn w + (up h + 1)) e (omega (arith, sum h (pos 1)))

  at_own : h ≡ z → up h + dn z ≡ up z + dn h
  at_own e = subst (λ (w : ℤ). up h + dn w ≡ up w + dn h) e (omega arith)

  at_right : h ≡ z +ℤ pos 1 → up h + dn z ≡ dn h + (up z + 1)
  at_right e = subst (λ (w : ℤ). up w + dn z ≡ dn w + (up z + 1)) (sym e) (omega (arith, sum z (pos 1)))

  near : up z + dn h ≤ up h + dn z + 1 → up h + dn z ≤ up z + dn h + 1 → (le_z (z -ℤ pos 1) h ≡ true) × (le_z h (z +ℤ pos 1) ≡ true)
  near p q = (le_of (z -ℤ pos 1) h (omega (arith, difference z (pos 1))), le_of h (z +ℤ pos 1) (omega (arith, sum z (pos 1))))

-- ---- layers, up to and from either of two carriers
module _ (k j layer : ℕ) where
  to_greater : (layer ≤ greater k j) ↔ ((layer ≤ k) ⊎ (layer ≤ j))
  to_greater =
      cases (ltb k j) (λ t. let h = ltb-true k j t in rw t (λ p. inr p, ⊎_elim {C = layer ≤ j} (λ p. omega arith) (λ p. p)))
      (λ t. let h = ltb-false k j t in rw t (λ p. inl p, ⊎_elim {C = layer ≤ k} (λ p. p) (λ p. omega arith)))

  from_smaller : (smaller k j ≤ layer) ↔ ((k ≤ layer) ⊎ (j ≤ layer))
  from_smaller =
      cases (ltb k j) (λ t. let h = ltb-true k j t in rw t (λ p. inl p, ⊎_elim {C = k ≤ layer} (λ p. p) (λ p. omega arith)))
      (λ t. let h = ltb-false k j t in rw t (λ p. inr p, ⊎_elim {C = j ≤ layer} (λ p. omega arith) (λ p. p)))

module _ (r : Racking) (x : Record) (h : ℤ) (layer : ℕ) where
  abbrev z : ℤ
  z = half_column x.at r

  -- ---- one half column, and three
  around : le_z (z -ℤ pos 1) h ≡ true → le_z h (z +ℤ pos 1) ≡ true → Around r x h
  unfolding half_column
  around p q = three h (twice_z r x) p q Around.before Around.own Around.behind

  around_near : Around r x h → (le_z (z -ℤ pos 1) h ≡ true) × (le_z h (z +ℤ pos 1) ≡ true)
  unfolding half_column
  around_near (Around.before e) = near h (twice_z r x) (omega (arith, at_left h (twice_z r x) e)) (omega (arith, at_left h (twice_z r x) e))
  around_near (Around.own e) = near h (twice_z r x) (omega (arith, at_own h (twice_z r x) e)) (omega (arith, at_own h (twice_z r x) e))
  around_near (Around.behind e) = near h (twice_z r x) (omega (arith, at_right h (twice_z r x) e)) (omega (arith, at_right h (twice_z r x) e))

  module _ {low high : ℕ} where
    in_broad : Within (broad z low high) h layer → Around r x h × (low ≤ layer) × (layer ≤ high)
    in_broad w = (around w.left w.right, w.low, w.high)

    to_broad : Around r x h → low ≤ layer → layer ≤ high → Within (broad z low high) h layer
    to_broad a l m = let (p, q) = around_near a in record { left = p; right = q; low = l; high = m }

    in_narrow : Within (narrow z low high) h layer → (h ≡ twice_z r x) × (low ≤ layer) × (layer ≤ high)
    unfolding half_column
    in_narrow w = (alone h (twice_z r x) w.left w.right, w.low, w.high)

    to_narrow : h ≡ twice_z r x → low ≤ layer → layer ≤ high → Within (narrow z low high) h layer
    unfolding half_column
    to_narrow e l m =
        record { left = subst⁻¹ (λ (w : ℤ). le_z (twice_z r x) w ≡ true) e (le_self (twice_z r x)); right = subst⁻¹ (λ (w : ℤ). le_z w (twice_z r x) ≡ true) e (le_self (twice_z r x)); low = l; high = m }

  -- ---- a stitch, by its bed
  front_form : (low high : ℕ) → Front r x → form_extent z x.at low high ≡ broad z 0 high
  front_form low high e = simp (eq-eqb x.at.0 0 e)

  back_form : (low high : ℕ) → (Front r x → ⊥) → form_extent z x.at low high ≡ broad z low 11
  back_form low high d = simp (ne_eqb x.at.0 0 d)

  front_layer : Front r x → layer_of x.at ≡ 0
  unfolding layer_of
  front_layer e = simp (eq-eqb x.at.0 0 e)

  back_layer : (Front r x → ⊥) → layer_of x.at ≡ 11
  unfolding layer_of
  back_layer d = simp (ne_eqb x.at.0 0 d)

  abbrev In : Extent → Type 0
  In e = Within e h layer

  -- ---- what lies within it is covered
  drop_covers : x.kind ≡ DROP → In (extent_of r x) → Covers r x h layer
  drop_covers e w =
      let (a, l, m) = in_narrow (subst In (drop_extent r x e) w) in
      is x.at.0 0 (λ f. Covers.front_drop e f a (omega (arith, front_layer f, m))) (λ d. Covers.back_drop e d a (omega (arith, back_layer d, l, m)))

  pass_covers : Passes x.kind → IN ≤ x.kind → x.kind ≤ MISS → In (extent_of r x) → Covers r x h layer
  pass_covers k p q w = let (a, l, m) = in_broad (subst In (pass_extent r x p q) w) in Covers.passing k a (omega (arith, l, m))

  stitch_covers : TucksOrKnits x.kind → TUCK ≤ x.kind → x.kind ≤ KNIT → In (extent_of r x) → Covers r x h layer
  stitch_covers k p q w =
      let v = subst In (form_extent_lem r x p q) w in
      is x.at.0 0 (λ f. let (a, l, m) = in_broad (subst In (front_form x.carrier x.carrier f) v) in Covers.front_stitch k f a m)
      (λ d. let (a, l, m) = in_broad (subst In (back_form x.carrier x.carrier d) v) in Covers.back_stitch k d a l m)

  plated_covers : IsPlated x.kind → PLATED_TUCK ≤ x.kind → x.kind ≤ PLATED_KNIT → In (extent_of r x) → Covers r x h layer
  plated_covers k p q w =
      let low = smaller x.carrier x.second in
      let high = greater x.carrier x.second in
      let v = subst In (plated_extent r x p q) w in
      is x.at.0 0 (λ f. let (a, l, m) = in_broad (subst In (front_form low high f) v) in Covers.front_plated k f a ((to_greater x.carrier x.second layer).0 m))
      (λ d. let (a, l, m) = in_broad (subst In (back_form low high d) v) in Covers.back_plated k d a ((from_smaller x.carrier x.second layer).0 l) m)

  unknown_extent : size_of x.kind ≡ 0 → extent_of r x ≡ broad z 0 11
  unknown_extent e =
      other_extent r x (λ q. omega (arith, known_size (Known.drop q), e)) (λ q. omega (arith, known_size (Known.xfer q), e)) (λ p q. omega (arith, work_size x.kind p q, e)) (λ p q. omega (arith, plated_size x.kind p q, e))

  covered : Named x.kind → In (extent_of r x) → Covers r x h layer
  covered (Named.known (Known.rack e)) w = let (a, l, m) = in_broad (subst In (other_extent r x (λ q. omega arith) (λ q. omega arith) (λ p q. omega arith) (λ p q. omega arith)) w) in Covers.without (Without.a_rack e) a m
  covered (Named.known (Known.drop e)) w = drop_covers e w
  covered (Named.known (Known.xfer e)) w = let (a, l, m) = in_narrow (subst In (xfer_extent r x e) w) in Covers.xfer e a m
  covered (Named.known (Known.carrier_in e)) w = pass_covers (Passes.carrier_in e) (omega arith) (omega arith) w
  covered (Named.known (Known.carrier_out e)) w = pass_covers (Passes.carrier_out e) (omega arith) (omega arith) w
  covered (Named.known (Known.miss e)) w = pass_covers (Passes.miss e) (omega arith) (omega arith) w
  covered (Named.known (Known.tuck e)) w = stitch_covers (TucksOrKnits.tuck e) (omega arith) (omega arith) w
  covered (Named.known (Known.knit e)) w = stitch_covers (TucksOrKnits.knit e) (omega arith) (omega arith) w
  covered (Named.known (Known.split e)) w = let (a, l, m) = in_broad (subst In (other_extent r x (λ q. omega arith) (λ q. omega arith) (λ p q. omega arith) (λ p q. omega arith)) w) in Covers.split e a m
  covered (Named.known (Known.plated_tuck e)) w = plated_covers (IsPlated.tuck e) (omega arith) (omega arith) w
  covered (Named.known (Known.plated_knit e)) w = plated_covers (IsPlated.knit e) (omega arith) (omega arith) w
  covered (Named.unknown d e) w = let (a, l, m) = in_broad (subst In (unknown_extent e) w) in Covers.without (Without.no_kind e) a m

  -- ---- and what is covered lies within it
  passing_kinds : Passes x.kind → (IN ≤ x.kind) × (x.kind ≤ MISS)
  passing_kinds (Passes.carrier_in e) = (omega arith, omega arith)
  passing_kinds (Passes.carrier_out e) = (omega arith, omega arith)
  passing_kinds (Passes.miss e) = (omega arith, omega arith)

  stitch_kinds : TucksOrKnits x.kind → (TUCK ≤ x.kind) × (x.kind ≤ KNIT)
  stitch_kinds (TucksOrKnits.tuck e) = (omega arith, omega arith)
  stitch_kinds (TucksOrKnits.knit e) = (omega arith, omega arith)

  plated_kinds : IsPlated x.kind → (PLATED_TUCK ≤ x.kind) × (x.kind ≤ PLATED_KNIT)
  plated_kinds (IsPlated.tuck e) = (omega arith, omega arith)
  plated_kinds (IsPlated.knit e) = (omega arith, omega arith)

  without_extent : Without x.kind → extent_of r x ≡ broad z 0 11
  without_extent (Without.a_rack e) = other_extent r x (λ q. omega arith) (λ q. omega arith) (λ p q. omega arith) (λ p q. omega arith)
  without_extent (Without.no_kind e) = unknown_extent e

  within : Covers r x h layer → In (extent_of r x)
  within (Covers.front_drop e f a l) = subst⁻¹ In (drop_extent r x e) (to_narrow a (omega (arith, front_layer f, l)) (omega (arith, front_layer f, l)))
  within (Covers.back_drop e d a l) = subst⁻¹ In (drop_extent r x e) (to_narrow a (omega (arith, back_layer d, l)) (omega (arith, back_layer d, l)))
  within (Covers.xfer e a m) = subst⁻¹ In (xfer_extent r x e) (to_narrow a (omega arith) m)
  within (Covers.front_stitch k f a m) = let (p, q) = stitch_kinds k in subst⁻¹ In (form_extent_lem r x p q ∙ front_form x.carrier x.carrier f) (to_broad a (omega arith) m)
  within (Covers.back_stitch k d a l m) = let (p, q) = stitch_kinds k in subst⁻¹ In (form_extent_lem r x p q ∙ back_form x.carrier x.carrier d) (to_broad a l m)
  within (Covers.split e a m) = subst⁻¹ In (other_extent r x (λ q. omega arith) (λ q. omega arith) (λ p q. omega arith) (λ p q. omega arith)) (to_broad a (omega arith) m)
  within (Covers.passing k a l) = let (p, q) = passing_kinds k in subst⁻¹ In (pass_extent r x p q) (to_broad a (omega arith) (omega arith))
  within (Covers.front_plated k f a m) = let (p, q) = plated_kinds k in subst⁻¹ In (plated_extent r x p q ∙ front_form (smaller x.carrier x.second) (greater x.carrier x.second) f) (to_broad a (omega arith) ((to_greater x.carrier x.second layer).1 m))
  within (Covers.back_plated k d a l m) = let (p, q) = plated_kinds k in subst⁻¹ In (plated_extent r x p q ∙ back_form (smaller x.carrier x.second) (greater x.carrier x.second) d) (to_broad a ((from_smaller x.carrier x.second layer).1 l) m)
  within (Covers.without k a m) = subst⁻¹ In (without_extent k) (to_broad a (omega arith) m)

pub covers_exactly : CoversExactly
covers_exactly r x h layer = (covered r x h layer (named x.kind), within r x h layer)
