-- Why a shape is here, call by call (RULES 20, request 11): the account that a reviewer can follow from the outermost call inward. What is told is proved to have one: `Explained` of
-- proofs. It reads the definitions' own table and steps.
-- Assumes nothing.
use Rattle.std.specs.Prelude.{◌≡◌, false, ℕ, ℤ}
use mathlib.Core.List.{List, [], ◌∷◌, ◌++◌, Memᴰ}
use Rattle.std.proofs.Math.Option.{some}
use Rattle.definition.specs.Words.{Placed, at}
use Rattle.definition.specs.Commands.{Shape, Turn}
use Rattle.definition.specs.Turns.{moved, off_axes}
use Rattle.definition.specs.Table.{Step, shape, instance, Definition, Table, find}
use Rattle.definition.specs.Drawing.{Deed, output, Chain, Drawn}
use Rattle.definition.specs.Summary.{table_then}

infix 40 ◌∈◌
abbrev pub ◌∈◌ : {A : Type 0} → A → List A → Type 0  -- it stands in the list
a ∈ l = Memᴰ a l

-- among these steps, and with the table t, these calls lead to the shape d as it is drawn, under the transformations of the calls around them
pub data Explains (t : Table) (d : Drawn) : (steps : List (Placed Step)) → (calls : Chain) → (around : List (Turn ℤ)) → Type 0 where
  -- no call more: the shape's command stands here, on its layer, and d is the shape that it writes, under the transformations of all calls
  by_command : {steps : List (Placed Step)} {net : List (Turn ℤ)} (written : Shape ℤ) → at d.place (shape d.layer_of written) ∈ steps → d.net ≡ net → d.itself ≡ moved net written
      → Explains t d steps [] net
  -- the call at p of symbol n stands here, with no R off the axes; the table has a definition of n, and among the steps of its body the calls further inward lead to d. The call's own
  -- transformations act before those around it
  by_call : {steps : List (Placed Step)} {calls : Chain} {around : List (Turn ℤ)} (p n : ℕ) (own : List (Turn ℤ)) (found : Definition) → at p (instance n own) ∈ steps → off_axes own ≡ false
      → find n t ≡ some found → Explains t d found.body calls (own ++ around) → Explains t d steps (at p n ∷ calls) around

-- of deeds, from the table t on: some executable command, with the table as it stood then, leads by the calls of d to the shape d
pub record ExplainedBy (t : Table) (ds : List Deed) (d : Drawn) : Type 0 where
  pub before : List Deed
  pub executable : Placed Step
  pub after : List Deed
  pub parted : ds ≡ before ++ output executable ∷ after
  pub explains : Explains (table_then t before) d (executable ∷ []) d.chain []
