-- The house order of a program as a definition that computes (02, W3), which the call's contract cites: answer, output and work area, for every limit,
-- program and loan.
use Rattle.std.specs.Prelude.{ℕ, Bool, true, false, cond, List, [], ◌∷◌, eqb, ltb}
use Rattle.machine.specs.declared.Racking.{Racking}
use Rattle.trace.specs.House.{house_order}
use Rattle.rewrite.specs.Programs.{flat, records_of, knitting}
use Rattle.rewrite.specs.Rewrite.{racking_zero, ended, Rewritten, written, rewrite_of}

-- 'the record whose bytes come first (unsigned, byte by byte, a shorter prefix first)'
unfoldable pub bytes_first : List ℕ → List ℕ → Bool
bytes_first x [] = false
bytes_first [] (b ∷ y) = true
bytes_first (a ∷ x) (b ∷ y) = cond (eqb a b) (bytes_first x y) (ltb a b)

-- the comparison of two records at the racking in force, which this one does not look at
abbrev pub comes_first : Racking → List ℕ → List ℕ → Bool
comes_first r x y = bytes_first x y

-- the records of a program in its house order, and that program
abbrev pub house_records : List ℕ → List (List ℕ)
house_records p = house_order knitting comes_first racking_zero (records_of p)

abbrev pub house_of : List ℕ → List ℕ
house_of p = flat (house_records p)

-- 'The answer, the refusals and what output and work then hold are the rewriter's, with this order in place of swaps': those of a rewriter with no log
unfoldable pub order_of : ℕ → List ℕ → List ℕ → List ℕ → Rewritten
order_of limit program output work =
    cond (eqb (rewrite_of limit program [] output work).answer.number 0)
    (written limit program (ended 0 0 (house_records program)) output work)
    (rewrite_of limit program [] output work)
