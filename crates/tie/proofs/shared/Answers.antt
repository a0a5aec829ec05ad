-- The least of the carriers that the second names. Assumes nothing.
use Rattle.std.proofs.Common.{◌≡◌, ◌≤◌, ◌∷◌, [], sym, ◌∙◌, arith, rules, tests, take}
use lib.Seq.{length-take-le}
use Rattle.std.proofs.lemmas.Iterator.{YieldsList-from_slice}
use Rattle.std.proofs.lemmas.Iterator.Consumers.{YieldsList-from_copied, YieldsList-from_filter, min_from_yields_List}
use Rattle.record.specs.Names.{carriers_of}
use Rattle.rewrite.specs.Extents.{member}
use Rattle.tie.proofs.Sharing.{count_small, named_are, least_picked}
use Rattle.tie.proofs.shared.Goals as goal

pub slice_bounds-carriers-end : goal.slice_bounds-carriers-end
slice_bounds-carriers-end c = omega (arith, c.from.ensures, c.carriers_named.ensures, count_small c.args.x.kind)

pub slice_bounds-named-end : goal.slice_bounds-named-end
slice_bounds-named-end c = let h : c.from.result ≤ 2 = omega (arith, c.from.ensures, c.carriers_named.ensures, count_small c.args.x.kind) in sym (length-take-le c.from.result (c.args.x.carrier ∷ c.args.x.second ∷ []) h)

pub returns : goal.returns
returns c =
    let x = c.args.x in let y = c.args.y in
    let all : take c.from.result (x.carrier ∷ x.second ∷ []) ≡ carriers_of x = named_are x c.from.result (c.from.ensures ∙ c.carriers_named.ensures) in
    let least =
    least_picked x y c.requires c.min.result
    (min_from_yields_List _ c.min.result c.min.ensures.ran
    (YieldsList-from_filter _ (λ k. member k (carriers_of y)) (YieldsList-from_copied (YieldsList-from_slice (carriers_of x) (cc))) c.filter.ensures.closure (λ k b q h. search (rules, tests)))) in
    record { value = least.0; carrier = least.1 }
