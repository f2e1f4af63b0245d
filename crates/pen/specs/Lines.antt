-- The parts of a line as the code writes them: a running account, not to be believed. What a line is, is said by definition/specs/Flat.antt.
-- Assumes nothing.
use Rattle.std.specs.Prelude.{Bool, List, [], ◌∷◌, ℕ, ℤ, if◌then◌else◌}
use Rattle.definition.specs.Words.{same}
use Rattle.definition.specs.Flat.{decimal, line}

-- what stands before a number of a line
abbrev pub space : Bool → List ℕ
space first = if first then [] else 32 ∷ []

-- a number of a line: the first of them, or one behind a space
abbrev pub number : Bool → ℤ → List ℕ
number first z = if first then decimal z else 32 ∷ decimal z

-- the L line before a shape, as `said` has it
abbrev pub layer_line : List ℕ → List ℕ → List ℕ
layer_line before layer = if same before layer then [] else line 76 layer
