-- The parts one after another; the racking as its bits are read.
use Rattle.std.proofs.lemmas.Int.{ints}
use borrow.Author.Rules.{rules}
use native.Mathlib.Omega.{arith}
use mir.Syntax.{w8}
use mir.Val.{SFits}
use Rattle.listing_text.proofs.Adds.{then}
use Rattle.listing_text.proofs.Digits.{whole}
use Rattle.listing_text.proofs.put_racking.Goals as goal

pub returns : goal.returns
returns c =
    let f : SFits w8 c.args.r.0 = search rules in
    then c.put_all.ensures (then (whole c.args.r.0 (omega (arith, ints, f)) (search rules) c.put_number.ensures) c.put.ensures)
