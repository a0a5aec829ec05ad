-- Two neighbours looked at, and exchanged or left. Assumes nothing.
use Rattle.std.proofs.Common.{arith, ◌≡◌, ℕ, ◌+◌, ◌<◌, List, length, sym, refl, ◌∙◌}
use Rattle.trace.specs.Swaps.{Outcome, no_pair, is_tied, made}
use Rattle.rewrite.specs.Programs.{flat, records_of, starts_of}
use Rattle.rewrite.specs.Laid.{Laid, swap_no, left_by}
use Rattle.rewrite.proofs.Records.{records_flat}
use Rattle.rewrite.proofs.Laying.{work_length}
use Rattle.rewrite.proofs.Pairs.{pair_bytes, pair_starts, pair_tied, pair_made, pair_none}
use Rattle.rewrite.proofs.swap.Goals as goal

-- what is answered and left, by the outcome
record Left (l : List (List ℕ)) (out : Outcome (List ℕ)) (n : ℕ) (q v : List ℕ) : Type 0 where
  number : n ≡ swap_no out
  bytes : q ≡ flat (left_by out l)
  starts : v ≡ starts_of 0 (left_by out l)

module _ {p w : List ℕ} (laid : Laid p w) {out : Outcome (List ℕ)} where
  none_left : out ≡ no_pair → Left (records_of p) out 12 p w
  unfolding swap_no left_by
  none_left e = rw e (record { number = refl; bytes = sym (records_flat p); starts = laid.starts })

  tied_left : out ≡ is_tied → Left (records_of p) out 13 p w
  unfolding swap_no left_by
  tied_left e = rw e (record { number = refl; bytes = sym (records_flat p); starts = laid.starts })

made_left : {l m : List (List ℕ)} {out : Outcome (List ℕ)} {q v : List ℕ} → out ≡ made m → q ≡ flat m → v ≡ starts_of 0 m → Left l out 0 q v
unfolding swap_no left_by
made_left e a b = rw e (record { number = refl; bytes = a; starts = b })

-- a start more than i is one of a record
pair_there : (p w : List ℕ) → Laid p w → (i : ℕ) → i + 1 < length w → i + 1 < length (records_of p)
pair_there p w laid i h = omega (arith, work_length p w laid)

pub returns-then-work-i : goal.returns-then-work-i
returns-then-work-i c =
    let p = c.args.output.now in
    let g = c.requires.0 in
    let t = none_left g (pair_none (records_of p) c.args.i (omega (arith, c.if-work-i.true, work_length p c.args.work.now g))) in
    record { number = t.number; bytes = t.bytes; starts = t.starts }

pub pair_at-there-requires : goal.pair_at-there-requires
pair_at-there-requires c = (c.requires.0, pair_there _ _ c.requires.0 c.args.i c.if-work-i.false)

pub returns-then-tied : goal.returns-then-tied
returns-then-tied c =
    let p = c.args.output.now in
    let g = c.requires.0 in
    let h = pair_there _ _ g c.args.i c.if-work-i.false in
    let t = tied_left g (pair_tied p g.sound c.args.i h (sym c.tied.ensures ∙ c.if-tied.true)) in
    record { number = t.number; bytes = t.bytes; starts = t.starts }

pub returns : goal.returns
returns c =
    let p = c.args.output.now in
    let g = c.requires.0 in
    let i = c.args.i in
    let h = pair_there _ _ g i c.if-work-i.false in
    let at = c.pair_at-there.ensures.0 in
    let t = made_left (pair_made p g.sound i h (sym c.tied.ensures ∙ c.if-tied.false)) (c.exchange.ensures ∙ pair_bytes p g.sound i h _ at) (pair_starts p g.sound i h _ at _ g) in
    record { number = t.number; bytes = t.bytes; starts = t.starts }
