-- What `position` promises of a text and a place: the definition's line and column.
-- Assumes nothing.
use Rattle.std.specs.Prelude.{◌≡◌, List, ℕ}
use Rattle.definition.specs.Position.{line_of, column_of}
use Rattle.position.specs.declared.Position.{Position}

pub record Found (t : List ℕ) (place : ℕ) (r : Position) : Type 0 where
  pub line_is : r.line ≡ line_of t place
  pub column_is : r.column ≡ column_of t place
