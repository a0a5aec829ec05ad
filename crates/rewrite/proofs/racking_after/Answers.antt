-- A walk along the records between. Assumes nothing.
use Rattle.std.proofs.Common.{arith, ◌≡◌, ℕ, ◌+◌, ◌-◌, ◌≤◌, ◌<◌, List, length, take, drop, get_or, sym, ap, ◌∙◌}
use borrow.Author.Tests.{eq-eqb, ne_eqb}
use Rattle.record.specs.Format.{byte}
use Rattle.rewrite.specs.Programs.{records_of}
use Rattle.rewrite.specs.Laid.{record_at, start_at, rack_byte, Laid}
use Rattle.rewrite.proofs.Laying.{Stands, stands, byte_at, kind_at, work_length}
use Rattle.rewrite.proofs.Rackings.{byte_after, rack_next, rack_end}
use Rattle.rewrite.proofs.racking_after.Goals.{then-program-at-eq-RACK, else-program-at-eq-RACK}
use Rattle.rewrite.proofs.racking_after.Goals as goal

-- the byte after record j, which starts at a, as the two branches leave it
module _ (p : List ℕ) (j : ℕ) (s : Stands p j) (a : ℕ) (at : a ≡ start_at p j) (b c : ℕ) where
  at_rack : get_or p a 0 ≡ 1 → c ≡ get_or p (a + 1) 0 → c ≡ byte_after b (record_at p j)
  at_rack e f = f ∙ byte_at p j s a at 1 (omega (arith, s.sized.least)) ∙ sym (simp (eq-eqb (byte (record_at p j) 0) 1 (sym (kind_at p j s a at) ∙ e)))

  at_other : (get_or p a 0 ≡ 1 → ⊥) → c ≡ b → c ≡ byte_after b (record_at p j)
  at_other d f = f ∙ sym (simp (ne_eqb (byte (record_at p j) 0) 1 (λ e. d (kind_at p j s a at ∙ e))))

pub start-at-requires : goal.start-at-requires
start-at-requires c = omega (arith, c.loop-j-test.true, c.requires.2, work_length c.args.program.now c.args.work.now c.requires.0)

-- record j stands where its start was read
here : (p w : List ℕ) → Laid p w → (j n : ℕ) → j < n → n ≤ length (records_of p) → Stands p j
here p w laid j n h i = stands p laid.sound j (omega arith)

pub bounds-program-at : goal.bounds-program-at
bounds-program-at c =
    let s = here _ _ c.requires.0 c.loop-j.j _ c.loop-j-test.true c.requires.2 in
    omega (arith, c.start-at.ensures _ c.requires.0, s.ends, s.sized.least)

pub bounds-program-at-then-program-at-eq-RACK : goal.bounds-program-at-then-program-at-eq-RACK
bounds-program-at-then-program-at-eq-RACK c =
    let s = here _ _ c.requires.0 c.loop-j.j _ c.loop-j-test.true c.requires.2 in
    omega (arith, c.start-at.ensures _ c.requires.0, s.ends, s.sized.least)

pub loop-j-preserved : goal.loop-j-preserved
loop-j-preserved c =
    let v = c.loop-j in
    let p = c.args.program.now in
    let s = here _ _ c.requires.0 v.j _ c.loop-j-test.true c.requires.2 in
    let a = c.start-at.ensures _ c.requires.0 in
    let e : c.if-program-at-eq-RACK.b ≡ byte_after v.b (record_at p v.j) =
    elim c.if-program-at-eq-RACK.branch [
      | then-program-at-eq-RACK u ↦ at_rack p v.j s _ a v.b c.if-program-at-eq-RACK.b u.if-program-at-eq-RACK.true u.b-is
      | else-program-at-eq-RACK u ↦ at_other p v.j s _ a v.b c.if-program-at-eq-RACK.b u.if-program-at-eq-RACK.false u.b-is
    ] in
    v.invariant ∙ rack_next v.b (records_of p) v.j c.args.n c.loop-j-test.true c.requires.2
    ∙ ap (λ (b : ℕ). rack_byte b (take (c.args.n - (v.j + 1)) (drop (v.j + 1) (records_of p)))) (sym e)

pub returns : goal.returns
returns c = let v = c.loop-j in sym (v.invariant ∙ rack_end v.b (records_of c.args.program.now) v.j c.args.n c.loop-j-test.false)
