-- The bytes are a record, of the kind that stands there. Assumes nothing.
use Rattle.std.proofs.Common.{List, ℕ, sym, ap, ◌∙◌}
use Rattle.record.specs.Format.{byte, decode_of}
use Rattle.house.proofs.Places.{kind_in, reads}
use Rattle.house.proofs.outline_at.Goals as goal

pub outline-requires : goal.outline-requires
outline-requires c = let e = c.bytes_at.ensures in (
  ap (λ (l : List ℕ). (decode_of l).number) e ∙ reads c.args.program.now c.args.a c.requires.0,
  (λ q. c.requires.1 (kind_in c.args.program.now c.args.a c.requires.0 ∙ sym (ap (λ (l : List ℕ). byte l 0) e) ∙ q)),
)
