-- The part that is listed is within the output.
use Rattle.std.proofs.Common.{ℕ, ◌≡◌, min, List, length, take, ap, ◌∙◌}
use Rattle.std.proofs.lemmas.List.{take_min}
use Rattle.run.specs.declared.Answer.{Answer}
use Rattle.rewrite.specs.Rewrite.{Rewritten, rewrite_of}
use Rattle.listing_text.specs.Listed.{listed_of, call_listed}
use Rattle.listing_text.specs.Text.{shown_of, listing_of}
use Rattle.listing_text.proofs.Grow.{like}
use Rattle.listing_text.proofs.list.Goals as goal

listed : (a : Answer) (w : Rewritten) (out : List ℕ) (k : ℕ) {n : ℕ} → a ≡ w.answer → out ≡ w.output → n ≡ min (shown_of a.number k) (length out)
    → listing_of a (take n out) ≡ call_listed k w
listed a w out k e f g =
    ap (λ (m : ℕ). listing_of a (take m out)) g ∙ ap (λ (l : List ℕ). listing_of a l) (take_min (shown_of a.number k) out) ∙ simp (e, f)

pub returns-clause-grown : goal.returns-clause-grown
unfolding listed_of
returns-clause-grown c =
    like
    (listed _ (rewrite_of c.args.limit c.args.program.now c.args.log.now c.args.output.now c.args.work.now) _ _ c.rewrite-a.ensures.answer c.rewrite-a.ensures.bytes c.shown-n.ensures)
    c.listing.ensures
