-- A text that grows by a piece, in one loan.
use Rattle.std.specs.Prelude.{ℕ, ◌≡◌, List}
use Rattle.listing_text.specs.declared.text.Text.{Text}
use Rattle.listing_text.specs.Grown.{Grown}

pub record Adds (old : Text) (piece : List ℕ) (new : Text) : Type 0 where
  pub same : new.bytes.ghost_name ≡ old.bytes.ghost_name
  pub grown : Grown old.bytes.now old.end piece new.bytes.now new.end
