-- What the rows claim: the definitions of the run, the rewriter, ties and the house order, which the code equals, answer each as it says.
use Rattle.std.specs.Prelude.{ℕ, zero, suc, ◌-◌, ◌≡◌, Bool, List, [], ◌∷◌, ◌++◌, length, drop}
use Rattle.machine.specs.declared.Needle.{Needle}
use Rattle.machine.specs.declared.Carrier.{Carrier}
use Rattle.machine.specs.declared.Racking.{Racking}
use Rattle.machine.specs.Machine.{loops_on, carrier_of, Each}
use Rattle.run.specs.declared.Answer.{Answer}
use Rattle.run.specs.Run.{run_of}
use Rattle.trace.specs.Records.{tied}
use Rattle.rewrite.specs.Programs.{knitting}
use Rattle.rewrite.specs.Rewrite.{Rewritten, rewrite_of}
use Rattle.pieces.specs.Rows.{Expected, Row, rows, Swap, swaps}
use Rattle.pieces.specs.Edges.{Pair, pairs, edges}
use Rattle.pieces.specs.Extents.{spans, plated_spans, Spans}
use Rattle.house.specs.Order.{bytes_first, order_of}
use Rattle.pieces.specs.Orders.{OrdersHold}
use Rattle.pieces.specs.Houses.{houses, firsts}
use Rattle.pieces.specs.Steps.{walks, WalksSo, steps, Shows, looks, LooksSo, pieces, StepsSo}
use Rattle.pieces.specs.Racks.{racks, RacksSo}
use Rattle.pieces.specs.Ties.{tied_rows, TiedSo}

-- an answer is as expected
pub record Says (a : Answer) (e : Expected) : Type 0 where
  pub number : a.number ≡ e.number
  pub place : a.place ≡ e.place
  pub complete : a.complete ≡ e.complete
  pub racking : a.state.racking.0 ≡ e.racking
  pub limit : a.state.limit ≡ e.limit
  pub hooks : Each (λ (h : Needle × ℕ). loops_on a.state h.0 ≡ h.1) e.hooks
  pub carriers : Each (λ (k : ℕ × Carrier). carrier_of a.state k.0 ≡ k.1) e.carriers

abbrev pub Holds : Row → Type 0
Holds r = Says (run_of r.limit r.program) r.answer

-- an output or a work area of a length; it ends .. 253, 254, 255, so that what is not written is seen to stay in place
abbrev pub lent : ℕ → List ℕ
lent zero = []
lent (suc n) = (255 - n) ∷ lent n

abbrev pub front : List ℕ → ℕ → List ℕ
front q n = q ++ drop (length q) (lent n)

abbrev pub rewritten : Swap → Rewritten
rewritten r = rewrite_of r.limit r.program r.log (lent r.output) (lent r.work)

abbrev pub ordered : Swap → Rewritten
ordered r = order_of r.limit r.program (lent r.output) (lent r.work)

-- what a call answers and leaves is the row's
pub record Leaves (w : Rewritten) (r : Swap) : Type 0 where
  pub answer : Says w.answer r.answer
  pub output : w.output ≡ front r.wrote r.output
  pub work : w.work ≡ front r.starts r.work

abbrev pub Rewrites : Swap → Type 0
Rewrites r = Leaves (rewritten r) r

abbrev pub Orders : Swap → Type 0
Orders r = Leaves (ordered r) r

-- bytes come first, or not
abbrev pub Firsts : List ℕ × List ℕ × Bool → Type 0
Firsts r = bytes_first r.0 r.1 ≡ r.2

-- two records are tied, or not, in either order
abbrev pub in_force : Pair → Racking
in_force r = record { 0 = r.racking }

pub record Ties (r : Pair) : Type 0 where
  pub forth : tied knitting (in_force r) r.first r.second ≡ r.tied
  pub back : tied knitting (in_force r) r.second r.first ≡ r.tied

-- the one theorem; edges and extents are listed by functions: that many
abbrev pub PiecesHold : Type 0
PiecesHold =
    Each Holds rows × Each Rewrites swaps × Each Ties pairs × Each Ties edges × (length edges ≡ 29796) × OrdersHold × Each Orders houses × Each Firsts firsts
    × Each WalksSo walks × Each Shows steps × Each LooksSo looks × Each StepsSo pieces × Each RacksSo racks × Each TiedSo tied_rows
    × Each Spans spans × (length spans ≡ 4284) × Each Spans plated_spans × (length plated_spans ≡ 12240)
