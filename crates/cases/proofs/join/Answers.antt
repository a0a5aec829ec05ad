-- The folder is copied to the front and the file's name behind it.
use Rattle.std.proofs.Common.{ℕ, ◌+◌, ◌≤◌, ◌<◌, ◌≡◌, List, [], ◌++◌, length, take, ◌∙◌}
use Rattle.std.proofs.Math.Seq.{take-append_seam, take-append-add}
use borrow.Author.Tests.{le-leb, lt-leb}
use native.Mathlib.Omega.{arith}
use Rattle.cases.specs.Paths.{path_of}
use Rattle.cases.proofs.join.Goals as goal

-- what the two copies leave at the front
front : (x y rest post p q : List ℕ) → p ≡ x → q ≡ y → take (length x + length y) (take (length x) (p ++ rest) ++ (q ++ post)) ≡ x ++ y
front x y rest post p q e f = simp (e, f, take-append_seam, take-append-add)

whole : (room : ℕ) (x y : List ℕ) → length x + length y ≤ room → x ++ y ≡ path_of room x y
unfolding path_of
whole room x y h = simp (le-leb _ _ h)

none : (room : ℕ) (x y : List ℕ) → room < length x + length y → [] ≡ path_of room x y
unfolding path_of
none room x y h = simp (lt-leb _ _ h)

pub returns-then-path-end : goal.returns-then-path-end
returns-then-path-end c = none (length c.args.path.now) c.args.folder.now c.args.file.now (omega arith)

pub returns : goal.returns
returns c =
    front c.args.folder.now c.args.file.now _ _ _ _ (c.copy_from_slice.ensures.after ∙ c.as_bytes.ensures.value) (c.copy_from_slice-2.ensures.after ∙ c.as_bytes-2.ensures.value)
    ∙ whole (length c.args.path.now) c.args.folder.now c.args.file.now (omega arith)
