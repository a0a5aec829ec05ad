-- The rows of what ties two records hold, computed. Assumes nothing.
use mathlib.Core.Path.{refl}
use Rattle.machine.specs.Machine.{Each}
use Rattle.machine.specs.Geometry.{column_of}
use Rattle.record.specs.Kinds.{by_kind}
use Rattle.record.specs.Format.{decode_of, read_of, fields_ok, record_from, refused_as, rack_ok, needle_ok, work_ok, signed_of}
use Rattle.record.specs.Names.{carriers_of}
use Rattle.rewrite.specs.Extents.{member, half_column, layer_of, extent_of, meets}
use Rattle.tie.specs.Tie.{lower, least, common, tie_of_extents, tie_of_two, tie_of_records, tie_of}
use Rattle.pieces.specs.Ties.{Row, tied_rows, TiedSo}
use Rattle.pieces.proofs.Tests.{each_given}

pub tied_so : Each TiedSo tied_rows
unfolding tie_of tie_of_records tie_of_two tie_of_extents lower least common member half_column layer_of extent_of meets column_of decode_of read_of fields_ok record_from refused_as rack_ok needle_ok work_ok signed_of carriers_of by_kind
tied_so = each_given TiedSo (λ (r : Row). tie_of r.0 r.1 r.2) (λ (r : Row). r.3) (λ r e. e) tied_rows refl
