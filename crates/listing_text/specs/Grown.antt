-- A text that grows at the front of a loan, cut off where the loan ends.
use Rattle.std.specs.Prelude.{ℕ, ◌≤◌, ◌≡◌, List, ◌++◌, length, take, drop}

-- the loan held a text of length `at`, and holds that text and a piece more, of length `end`; what lies behind is kept
pub record Grown (old : List ℕ) (at : ℕ) (piece new : List ℕ) (end : ℕ) : Type 0 where
  pub text : take end new ≡ take (length old) (take at old ++ piece)
  pub rest : drop end new ≡ drop end old
  pub room : length new ≡ length old
  pub grew : at ≤ end
  pub within : end ≤ length new
