-- The rows of ties and of extents hold: each is tested, and the tests computed. Assumes nothing.
use Prim.Native.Nat.{ℕ}
use mathlib.Core.Path.{◌≡◌, refl}
use mathlib.Core.Bool.{Bool, true, ◌&&◌, ◌||◌}
use mathlib.Core.List.{List, ◌++◌, map}
use lib.IntN.{ℤ}
use lib.Dec.{eqb, leb}
use borrow.Author.Tests.{eqb-true}
use Rattle.machine.proofs.Signed.{eq_z_true}
use Rattle.std.proofs.lemmas.Bool.{and_parts}
use Rattle.machine.specs.declared.Needle.{Needle}
use Rattle.machine.specs.declared.Racking.{Racking}
use Rattle.machine.specs.Machine.{Each}
use Rattle.machine.specs.Geometry.{eq_z, column_of}
use Rattle.record.specs.Kinds.{by_kind}
use Rattle.record.specs.Format.{decode_of, read_of, fields_ok, record_from, refused_as, rack_ok, needle_ok, work_ok, signed_of}
use Rattle.record.specs.Names.{is_rack, carriers_of}
use Rattle.trace.specs.Records.{tied}
use Rattle.rewrite.specs.declared.Extent.{Extent}
use Rattle.rewrite.specs.Extents.{half_column, layer_of, extent_of, meets, member, common}
use Rattle.rewrite.specs.Programs.{what, knitting}
use Rattle.pieces.specs.Edges.{Pair, pair, pairs, Spot, Cover, middle, outer, covers, half_columns, layers, probed, edges_of, edges_here, edges_at, edges}
use Rattle.pieces.specs.Extents.{Span, spans, plated_spans, Spans}
use Rattle.pieces.specs.Pieces.{in_force, Ties}
use Rattle.pieces.proofs.Tests.{same_bool, same_bool_lem, every, each, each_both, each_map, each_listed}

-- what a tie looks at: whether a record is a rack, the carriers that it names, its extent
pub record Read : Type 0 where
  pub rack : Bool
  pub names : List ℕ
  pub extent : Extent

abbrev read : Racking → List ℕ → Read
read r bytes =
    let x = what bytes in
    let c = is_rack x in
    let ks = carriers_of x in
    let e = extent_of r x in
    record { rack = c; names = ks; extent = e }

-- two of them, in either order
tie_test : Read → Read → Bool → Bool
tie_test x y t =
    same_bool (x.rack || (y.rack || (common x.names y.names || meets x.extent y.extent))) t
    && same_bool (y.rack || (x.rack || (common y.names x.names || meets y.extent x.extent))) t

tie_says : (r : Pair) → tie_test (read (in_force r) r.first) (read (in_force r) r.second) r.tied ≡ true → Ties r
unfolding tie_test
tie_says r e =
    let (p, q) = and_parts (same_bool (tied knitting (in_force r) r.first r.second) r.tied) _ e in
    record { forth = same_bool_lem _ _ p; back = same_bool_lem _ _ q }

pair_test : Pair → Bool
pair_test r = tie_test (read (in_force r) r.first) (read (in_force r) r.second) r.tied

pair_says : (r : Pair) → pair_test r ≡ true → Ties r
unfolding pair_test
pair_says r e = tie_says r e

-- the probes of a spot are read once, and each record that they probe
abbrev read_probe : Racking → ℕ × List ℕ → ℕ × Read
read_probe r p = let y = read r p.1 in (p.0, y)

probe_test : Read → ℕ → ℕ → ℕ × Read → Bool
probe_test x low high p = tie_test x p.1 (leb low p.0 && leb p.0 high)

cover_test : Racking → Needle → List (ℕ × Read) → List (ℕ × Read) → Cover → Bool
cover_test r n hs ls c =
    let x = read r (c.made n) in
    every (probe_test x c.left c.right) hs && every (probe_test x c.low c.high) ls

abbrev probes_of : Racking → List (ℕ × List ℕ) → List (ℕ × Read)
probes_of r l = map (read_probe r) l

needle_test : Spot → Racking → List (ℕ × Read) → Needle → Bool
needle_test s r hs n = let ls = probes_of r (layers s n) in every (cover_test r n hs ls) (covers s.hands n)

abbrev racking_at : ℤ → Racking
racking_at z = record { 0 = z }

spot_test : Spot → Bool
spot_test s =
    let r = racking_at s.racking in
    let hs = probes_of r (half_columns s) in
    every (needle_test s r hs) s.here

probe_says : (z : ℤ) (x : List ℕ) (low high : ℕ) (l : List (ℕ × List ℕ))
    → every (probe_test (read (racking_at z) x) low high) (probes_of (racking_at z) l) ≡ true → Each Ties (probed z x low high l)
unfolding probe_test
probe_says z x low high l e =
    each_map Ties (probe_test (read (racking_at z) x) low high) (read_probe (racking_at z)) (λ (p : ℕ × List ℕ). pair z x p.1 (leb low p.0 && leb p.0 high))
    (λ p f. tie_says (pair z x p.1 (leb low p.0 && leb p.0 high)) f) l e

cover_says : (s : Spot) (n : Needle) (c : Cover)
    → cover_test (racking_at s.racking) n (probes_of (racking_at s.racking) (half_columns s)) (probes_of (racking_at s.racking) (layers s n)) c ≡ true
    → Each Ties (edges_of s n c)
unfolding cover_test
cover_says s n c e =
    let r : Racking = racking_at s.racking in
    let (p, q) = and_parts (every (probe_test (read r (c.made n)) c.left c.right) (probes_of r (half_columns s))) _ e in
    each_both Ties (probed s.racking (c.made n) c.left c.right (half_columns s)) (probed s.racking (c.made n) c.low c.high (layers s n))
    (probe_says s.racking (c.made n) c.left c.right (half_columns s) p) (probe_says s.racking (c.made n) c.low c.high (layers s n) q)

spot_says : (s : Spot) → spot_test s ≡ true → Each Ties (edges_at s)
unfolding spot_test needle_test
spot_says s e =
    let r : Racking = racking_at s.racking in
    let hs = probes_of r (half_columns s) in
    each_listed Ties (needle_test s r hs) (edges_here s)
    (λ n f. each_listed Ties (cover_test r n hs (probes_of r (layers s n))) (edges_of s n) (cover_says s n) (covers s.hands n) f) s.here e

same_extent : Extent → Extent → Bool
same_extent a b = eq_z a.left b.left && (eq_z a.right b.right && (eqb a.low b.low && eqb a.high b.high))

bounds : (p q p' q' : ℤ) (a b a' b' : ℕ) → p ≡ p' → q ≡ q' → a ≡ a' → b ≡ b'
    → ◌≡◌ {A = Extent} (record { left = p; right = q; low = a; high = b }) (record { left = p'; right = q'; low = a'; high = b' })
bounds p q p' q' a b a' b' t u v w = cc

same_extent_lem : (d e : Extent) → same_extent d e ≡ true → d ≡ e
unfolding same_extent
same_extent_lem d e t =
    let (p, t1) = and_parts (eq_z d.left e.left) _ t in
    let (q, t2) = and_parts (eq_z d.right e.right) _ t1 in
    let (a, b) = and_parts (eqb d.low e.low) (eqb d.high e.high) t2 in
    bounds d.left d.right e.left e.right d.low d.high e.low e.high (eq_z_true _ _ p) (eq_z_true _ _ q) (eqb-true _ _ a) (eqb-true _ _ b)

span_test : Span → Bool
span_test c = same_extent (extent_of (record { 0 = c.racking }) c.made) c.extent

span_says : (c : Span) → span_test c ≡ true → Spans c
unfolding span_test
span_says c e = same_extent_lem _ _ e

-- computed apart, since a declaration is checked in fifty million steps at most
pairs_computed : every pair_test pairs ≡ true
unfolding pair_test tie_test same_bool half_column layer_of extent_of meets member common column_of decode_of read_of fields_ok record_from refused_as rack_ok needle_ok work_ok signed_of carriers_of by_kind
pairs_computed = refl

edges_computed : every spot_test (middle ++ outer) ≡ true
unfolding spot_test needle_test cover_test probe_test tie_test same_bool half_column layer_of extent_of meets member common column_of decode_of read_of fields_ok record_from refused_as rack_ok needle_ok work_ok signed_of carriers_of by_kind
edges_computed = refl

pub pairs_so : Each Ties pairs
pairs_so = each Ties pair_test pair_says pairs pairs_computed

pub edges_so : Each Ties edges
edges_so = each_listed Ties spot_test edges_at spot_says (middle ++ outer) edges_computed

spans_computed : every span_test spans ≡ true
unfolding span_test same_extent eq_z extent_of half_column layer_of member column_of
spans_computed = refl

plated_computed : every span_test plated_spans ≡ true
unfolding span_test same_extent eq_z extent_of half_column layer_of member column_of
plated_computed = refl

pub spans_so : Each Spans spans
spans_so = each Spans span_test span_says spans spans_computed

pub plated_so : Each Spans plated_spans
plated_so = each Spans span_test span_says plated_spans plated_computed
