-- The front bed's hooks and then the back bed's.
use Rattle.std.proofs.Common.{ℕ, ◌≡◌, List, ◌++◌, length, take, drop, ap}
use Rattle.std.proofs.Math.ListN.{length-drop}
use Rattle.std.proofs.Math.Seq.{take_all}
use borrow.Author.Rules.{rules}
use native.Mathlib.Omega.{arith}
use Rattle.listing_text.specs.Text.{hook_lines, beds_of}
use Rattle.listing_text.proofs.Adds.{then, like}
use Rattle.listing_text.proofs.put_beds.Goals as goal

both : (l : List ℕ) → length l ≡ 500 → hook_lines 0 (take 250 l) ++ hook_lines 1 (take 250 (drop 250 l)) ≡ beds_of l
unfolding beds_of
both l h = ap (λ (b : List ℕ). hook_lines 0 (take 250 l) ++ hook_lines 1 b) (take_all 250 (drop 250 l) (omega (arith, length-drop 250 l)))

pub returns : goal.returns
returns c = like (both c.args.loops.now (search rules)) (then c.put_hooks.ensures c.put_hooks-2.ensures)
