-- The path of a file in a folder, within room for so many bytes.
use Rattle.std.specs.Prelude.{ℕ, ◌+◌, cond, List, [], ◌++◌, leb, length}

-- empty where it would be too long; no file has that path
unfoldable pub path_of : ℕ → List ℕ → List ℕ → List ℕ
path_of room folder file = cond (leb (length folder + length file) room) (folder ++ file) []
