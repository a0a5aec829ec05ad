-- Look by look. Assumes nothing.
use Rattle.std.proofs.Common.{◌≡◌, sym, ◌∙◌, arith, rules, Err}
use Rattle.tie.specs.Tie.{tie_of_two}
use Rattle.tie.proofs.Looks.{racking_back, racking_in, racking_out, first_told, second_told, first_is_rack, second_is_rack, neither_rack}
use Rattle.tie.proofs.Reading.{some_byte, carries_read}
use Rattle.tie.proofs.find_bond.Goals as goal
use Rattle.tie.proofs.find_bond.Goals.{then-first-eq-RACK-via-then-first-eq-RACK, then-first-eq-RACK-via-else-first-eq-RACK+then-second-eq-RACK}

pub returns-then-not-in_range : goal.returns-then-not-in_range
returns-then-not-in_range c = sym (racking_out c.args.racking c.args.first.now c.args.second.now (racking_in c.args.racking (search rules) c.in_range.ensures c.if-not-in_range.true))

pub returns-in_err-check : goal.returns-in_err-check
returns-in_err-check c =
    let told : c.from_residual.result ≡ Err c.in_err-check.field-0.0 = search rules in
    first_told c.args.racking c.args.first.now c.args.second.now (racking_in c.args.racking (search rules) c.in_range.ensures c.if-not-in_range.false) _ _ told c.in_err-check.ensures

pub returns-in_err-check-2 : goal.returns-in_err-check-2
returns-in_err-check-2 c =
    let told : c.from_residual-in_err-check-2.result ≡ Err c.in_err-check-2.field-0.0 = search rules in
    second_told c.args.racking c.args.first.now c.args.second.now (racking_in c.args.racking (search rules) c.in_range.ensures c.if-not-in_range.false) (sym c.in_ok-check.ensures) _ _ told c.in_err-check-2.ensures

pub bounds-first-0 : goal.bounds-first-0
bounds-first-0 c = let k = c.in_ok-check.ensures in omega (arith, some_byte c.args.first.now (sym c.in_ok-check.ensures))

pub bounds-second-0 : goal.bounds-second-0
bounds-second-0 c = omega (arith, some_byte c.args.second.now (sym c.in_ok-check-2.ensures))

pub returns-then-first-eq-RACK : goal.returns-then-first-eq-RACK
returns-then-first-eq-RACK c =
    let z = c.args.racking in let p = c.args.first.now in let q = c.args.second.now in
    let a = racking_in z (search rules) c.in_range.ensures c.if-not-in_range.false in
    let b = sym c.in_ok-check.ensures in let d = sym c.in_ok-check-2.ensures in
    elim c.then-first-eq-RACK.branch [
      | then-first-eq-RACK-via-then-first-eq-RACK w ↦ first_is_rack z p q a b d w.if-first-eq-RACK.true
      | then-first-eq-RACK-via-else-first-eq-RACK+then-second-eq-RACK w ↦ second_is_rack z p q a b d w.if-first-eq-RACK.false w.if-second-eq-RACK.true
    ]

pub what_ties-requires : goal.what_ties-requires
what_ties-requires c = rw c.outline-x.ensures (carries_read c.args.first.now (sym c.in_ok-check.ensures))

pub returns : goal.returns
returns c =
    let z = c.args.racking in let p = c.args.first.now in let q = c.args.second.now in
    c.what_ties.ensures ∙ (λ i. tie_of_two (record { 0 = racking_back z (search rules) i }) (c.outline-x.ensures i) (c.outline-y.ensures i))
    ∙ neither_rack z p q (racking_in z (search rules) c.in_range.ensures c.if-not-in_range.false) (sym c.in_ok-check.ensures) (sym c.in_ok-check-2.ensures) c.if-first-eq-RACK.false c.if-second-eq-RACK.false
