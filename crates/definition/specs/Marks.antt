-- Not to be believed: no contract of a host cites it. A set of layers as a number of 64 bits: each name of the text has one mark, by first appearance, and
-- the first name has the lowest. What is told of a set is what `appearing` has (crate laws, proofs/Story/Marks.antt).
use Rattle.std.specs.Prelude.{[], ◌∷◌, ℕ, ◌+◌, ◌*◌, if◌then◌else◌}
use Rattle.definition.specs.Summary.{Names, among}

unfoldable pub set_of_layers : (names : Names) → (layers : Names) → ℕ
set_of_layers [] ls = 0
set_of_layers (n ∷ ns) ls = set_of_layers ns ls * 2 + (if among n ls then 1 else 0)
