-- The outline of a record that bytes are known to encode, read at its kind. Assumes nothing.
use Prim.Native.Nat.{ℕ, ◌≤◌, ◌<◌}
use mathlib.Core.Path.{◌≡◌, sym, ap, ◌∙◌}
use mathlib.Core.List.{List}
use native.Mathlib.Omega.{arith}
use lib.ListN.{length}
use Rattle.record.specs.declared.Record.{Record}
use Rattle.record.specs.Kinds.{RACK, DROP, XFER, SPLIT, IN, KNIT, PLATED_TUCK, PLATED_KNIT, by_kind, size_of, carriers_named}
use Rattle.record.specs.Format.{byte, needle, record_from, decode_of}
use Rattle.record.specs.Names.{outline_at, outline_of}
use Rattle.record.proofs.Shapes.{Known, Plated, is, known_least, unnamed, named_once, two_carriers, two_at_most, work_size, six_bytes}
use Rattle.record.proofs.Sizes.{drop_size, xfer_size}
use Rattle.record.proofs.Readings.{drop_record_lem, xfer_record_lem, split_record_lem}
use Rattle.record.proofs.Forms.{decodes, work_record_lem, plated_record_lem}

module _ (l : List ℕ) where
  -- the outline by the ways to read it: of a record that names no carrier, one, or two
  record Bare : Type 0 where
    long : 3 ≤ length l
    is : outline_at (byte l 0) (needle (byte l 1) (byte l 2)) 0 0 ≡ outline_of (record_from l)

  record Carried : Type 0 where
    long : 5 ≤ length l
    is : outline_at (byte l 0) (needle (byte l 2) (byte l 3)) (byte l 4) 0 ≡ outline_of (record_from l)

  record Doubled : Type 0 where
    long : 6 ≤ length l
    is : outline_at (byte l 0) (needle (byte l 2) (byte l 3)) (byte l 4) (byte l 5) ≡ outline_of (record_from l)

  work : IN ≤ byte l 0 → byte l 0 ≤ KNIT → 5 ≤ length l → Carried
  unfolding outline_of
  work h j n = record { long = n; is = simp (work_record_lem l h j) }

  double : PLATED_TUCK ≤ byte l 0 → byte l 0 ≤ PLATED_KNIT → 6 ≤ length l → Doubled
  unfolding outline_of
  double h j n = record { long = n; is = simp (plated_record_lem l h j) }

  bare_at : Known (byte l 0) → size_of (byte l 0) ≤ length l → (byte l 0 ≡ RACK → ⊥) → carriers_named (byte l 0) ≡ 0 → Bare
  unfolding outline_of
  bare_at k h d z =
      let high = unnamed k z in
      let low = known_least k in
      is (byte l 0) DROP (λ e. record { long = omega (arith, h, drop_size (byte l 0) e); is = simp (drop_record_lem l e, e) })
      (λ f. let e : byte l 0 ≡ XFER = omega (arith, d, f, high, low) in record { long = omega (arith, h, xfer_size (byte l 0) e); is = simp (xfer_record_lem l e, e) })

  carried_at : Known (byte l 0) → size_of (byte l 0) ≤ length l → carriers_named (byte l 0) ≡ 1 → Carried
  unfolding outline_of
  carried_at k h z =
      let (low, high) = named_once k z in
      is (byte l 0) SPLIT (λ e. record { long = omega (arith, h, six_bytes (byte l 0) (omega arith) (omega arith)); is = simp (split_record_lem l e, e) })
      (λ f. let j : byte l 0 ≤ KNIT = omega (arith, f, high) in work low j (omega (arith, h, work_size (byte l 0) low j)))

  doubled_at : Plated (byte l 0) → size_of (byte l 0) ≤ length l → Doubled
  unfolding by_kind
  doubled_at (Plated.tuck e) h = double (omega arith) (omega arith) (simp e at h)
  doubled_at (Plated.knit e) h = double (omega arith) (omega arith) (simp e at h)

  -- what code reads in each way, and that the bytes are there
  module _ (e : (decode_of l).number ≡ 0) where
    abbrev wanted : Record
    wanted = outline_of (decode_of l).what

    known : Known (byte l 0)
    known = (decodes l e).known

    long : size_of (byte l 0) ≤ length l
    long = let d = decodes l e in omega (arith, d.kind, d.long)

    what : outline_of (record_from l) ≡ wanted
    what = ap outline_of (sym (decodes l e).what)

    pub some_byte : 0 < length l
    some_byte = let d = decodes l e in omega (arith, d.some, d.long)

    pub bare_long : (byte l 0 ≡ RACK → ⊥) → carriers_named (byte l 0) ≡ 0 → 3 ≤ length l
    bare_long n z = (bare_at known long n z).long

    pub bare_outline : (byte l 0 ≡ RACK → ⊥) → carriers_named (byte l 0) ≡ 0 → outline_at (byte l 0) (needle (byte l 1) (byte l 2)) 0 0 ≡ wanted
    bare_outline n z = (bare_at known long n z).is ∙ what

    pub carried_long : carriers_named (byte l 0) ≡ 1 → 5 ≤ length l
    carried_long z = (carried_at known long z).long

    pub carried_outline : carriers_named (byte l 0) ≡ 1 → outline_at (byte l 0) (needle (byte l 2) (byte l 3)) (byte l 4) 0 ≡ wanted
    carried_outline z = (carried_at known long z).is ∙ what

    module _ (a : carriers_named (byte l 0) ≡ 0 → ⊥) (b : carriers_named (byte l 0) ≡ 1 → ⊥) where
      doubled : Doubled
      doubled = doubled_at (two_carriers known (omega (arith, a, b, two_at_most (byte l 0)))) long

      pub doubled_long : 6 ≤ length l
      doubled_long = doubled.long

      pub doubled_outline : outline_at (byte l 0) (needle (byte l 2) (byte l 3)) (byte l 4) (byte l 5) ≡ wanted
      doubled_outline = doubled.is ∙ what

pub ruleset outlines = (some_byte, bare_long, bare_outline, carried_long, carried_outline, doubled_long, doubled_outline)
