-- What is drawn in the table that memory holds, whose bodies are lean, is drawn in the text's own table: what the pass over a text goes on from.
-- Assumes nothing.
use Rattle.std.specs.Prelude.{Result}
use mathlib.Core.Path.{sym, subst}
use mathlib.Core.List.{List}
use Prim.Native.Nat.{ℕ}
use lib.IntN.{ℤ}
use Rattle.definition.specs.Words.{at}
use Rattle.definition.specs.Table.{Step, Table}
use Rattle.definition.specs.Drawing.{output, happens}
use Rattle.definition.specs.declared.Refusal.{Refusal}
use Rattle.laws.proofs.Story.Lean.{Alike, alike_output}
use Rattle.names.specs.Names.{name_of}
use Rattle.shapes.specs.declared.Ink.{Ink}
use Rattle.shapes.specs.Painting.{Painted}
use Rattle.shapes.proofs.Alike.{alike_painted}
use Rattle.chain.specs.Chain.{chain_in}
use Rattle.library.specs.Holds.{Holds}
use Rattle.library.proofs.Holding.{held-table}
use Rattle.engine.specs.Outer.{Says, OuterDraws}

pub outer-held : {rows : List ℕ} {b : List ℤ} {live : ℕ} {t : Table} → Holds rows b live t → {words : List ℤ} {kind end : ℕ} (place layer : ℕ) {ink : Ink} {room : List ℕ} (drawing' : List ℕ) {r : Result Ink Refusal} {room' : List ℕ}
    → OuterDraws rows b live words kind place end layer ink room drawing' r room'
    → (s : Step) → Says words kind end (name_of layer) s → Painted ink (happens t (output (at place s))) room (chain_in drawing') r room'
outer-held {t = t} h place layer {ink} drawing' x s k =
    alike_painted (subst (λ (u : Table). Alike (happens u (output (at place s))) (happens t (output (at place s)))) (sym (held-table h)) (alike_output t (at place s))) ink (x s k)
