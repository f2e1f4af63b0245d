-- A command outside of definitions that draws: what its words say, and that what happens is the definition's. A running account, not to be believed.
-- Assumes nothing.
use Rattle.std.specs.Prelude.{◌≡◌, List, ℕ, ℤ, nat_abs, Result}
use Rattle.definition.specs.Words.{at}
use Rattle.definition.specs.Table.{Step, shape, instance}
use Rattle.definition.specs.Drawing.{output, happens}
use Rattle.definition.specs.declared.Refusal.{Refusal}
use Rattle.names.specs.Names.{name_of}
use Rattle.moves.specs.Moves.{ShapedAt}
use Rattle.shapes.specs.declared.Ink.{Ink}
use Rattle.shapes.specs.Painting.{Painted}
use Rattle.library.specs.Memory.{call_letter, table_of}
use Rattle.chain.specs.Chain.{chain_in}
use Rattle.opening.specs.Calls.{CalledAt}

-- the words after the first two, up to this place, are those of a shape, on the layer that stands, or of a call
pub data Says (words : List ℤ) (kind end : ℕ) (l : List ℕ) : Step → Type 0 where
  a_shape : (h : ShapedAt words kind end) → Says words kind end l (shape l h.shape)
  a_call : kind ≡ call_letter → (h : CalledAt words end) → Says words kind end l (instance (nat_abs h.symbol) h.turns)

-- the contract of `draw_outer`
abbrev pub OuterDraws : (rows : List ℕ) (b : List ℤ) (live : ℕ) (words : List ℤ) (kind place end layer : ℕ) → Ink → List ℕ → List ℕ → Result Ink Refusal → List ℕ → Type 0
OuterDraws rows b live words kind place end layer ink room drawing' r room' =
    (s : Step) → Says words kind end (name_of layer) s → Painted ink (happens (table_of rows b live) (output (at place s))) room (chain_in drawing') r room'
