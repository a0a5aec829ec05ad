-- Ten entries are written, or none. Assumes nothing.
use Rattle.std.proofs.Common.{ℕ, ◌≡◌, ◌≤◌, List, ◌++◌, length, drop, ap, sym, ◌∙◌, rules}
use Rattle.std.proofs.Math.Seq.{length-take-le}
use Rattle.machine.specs.declared.Carrier.{Carrier}
use Rattle.machine.specs.declared.State.{State}
use Rattle.panel.specs.declared.Served.{Served}
use Rattle.panel.specs.Panel.{list_answer, carrier_list}
use Rattle.panel.proofs.Filled.{list_long, list_written, list_kept}
use Rattle.banthewig.proofs.knitout_carriers.Goals as goal

-- a call that is done has room for ten
long : (s : State) (n : ℕ) (out : Served) → out ≡ list_answer s n → out.number ≡ 0 → 10 ≤ n
long s n out e z = list_long s n (sym (ap (λ (a : Served). a.number) e) ∙ z)

-- and its list is the ten carriers and what lies behind
written : (s : State) (list front : List Carrier) (out : Served) → length s.carriers ≡ 10 → front ≡ s.carriers → out ≡ list_answer s (length list) → out.number ≡ 0
    → front ++ drop 10 list ≡ carrier_list s list
written s list front out ten f e z =
    ap (λ (l : List Carrier). l ++ drop 10 list) f
    ∙ ap (λ (n : ℕ). s.carriers ++ drop n list) (sym ten)
    ∙ list_written s list ten (sym (ap (λ (a : Served). a.number) e) ∙ z)

pub slice_bounds-copy_from_slice-end : goal.slice_bounds-copy_from_slice-end
slice_bounds-copy_from_slice-end c = long c.args.state.now _ _ c.list_answer-out.ensures c.if-out-eq0.true

pub slice_bounds-copy_from_slice-end-then-out-eq0 : goal.slice_bounds-copy_from_slice-end-then-out-eq0
slice_bounds-copy_from_slice-end-then-out-eq0 c =
    sym (length-take-le 10 c.args.list.now (long c.args.state.now _ _ c.list_answer-out.ensures c.if-out-eq0.true))

pub copy_from_slice-requires : goal.copy_from_slice-requires
copy_from_slice-requires c =
    let ten : length c.args.state.now.carriers ≡ 10 = search rules in
    length-take-le 10 c.args.list.now (long c.args.state.now _ _ c.list_answer-out.ensures c.if-out-eq0.true) ∙ sym ten

pub returns-then-out-eq0 : goal.returns-then-out-eq0
returns-then-out-eq0 c =
    let ten : length c.args.state.now.carriers ≡ 10 = search rules in
    (c.list_answer-out.ensures, written c.args.state.now c.args.list.now _ _ ten c.copy_from_slice.ensures.after c.list_answer-out.ensures c.if-out-eq0.true)

pub returns-else-out-eq0 : goal.returns-else-out-eq0
returns-else-out-eq0 c =
    (c.list_answer-out.ensures, list_kept c.args.state.now c.args.list.now (λ e. c.if-out-eq0.false (ap (λ (s : Served). s.number) c.list_answer-out.ensures ∙ e)))
