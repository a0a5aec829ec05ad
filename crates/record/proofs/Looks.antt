-- Decoding by the kind: every known one lies from rack to plated knit. Assumes nothing.
use Prim.Native.Nat.{ℕ, ◌≤◌, ◌<◌}
use mathlib.Core.Path.{◌≡◌, sym}
use mathlib.Core.Bool.{true, not}
use mathlib.Core.List.{List}
use native.Mathlib.Omega.{arith}
use lib.ListN.{length}
use lib.Dec.{eqb}
use Rattle.record.specs.Kinds.{RACK, PLATED_KNIT}
use Rattle.record.specs.Format.{byte, work_ok, refused_as, read_of, decode_of}
use Rattle.record.proofs.Shapes.{known_size, in_range_known}
use Rattle.record.proofs.Sizes.{sizes, unknown_size}
use Rattle.record.proofs.Ranges.{needle_bed, work_right, work_bed, direction}
use Rattle.record.proofs.Readings.{fields, records}
use Rattle.record.proofs.Forms.{decode_strange, decode_known, read_cut, read_outside, read_inside}

pub unknown_read : (l : List ℕ) → 0 < length l → (RACK ≤ byte l 0 → byte l 0 ≤ PLATED_KNIT → ⊥) → refused_as 3 ≡ decode_of l
unknown_read l h k = sym (decode_strange l h (unknown_size (byte l 0) k))

pub known_read : (l : List ℕ) → 0 < length l → RACK ≤ byte l 0 → byte l 0 ≤ PLATED_KNIT → read_of l ≡ decode_of l
known_read l h a b = sym (decode_known l h (λ z. omega (arith, known_size (in_range_known (byte l 0) a b), z)))

-- a direction in range, by either test
pub to_right : (right bed n k : ℕ) → work_ok right bed n k ≡ true → eqb right 1 ≡ not (eqb right 0)
to_right right bed n k e = direction right (work_right right bed n k e)

pub ruleset looks = (sizes, read_cut, read_outside, read_inside, fields, records, needle_bed, work_bed, to_right)
