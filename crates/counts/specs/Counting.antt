-- What one more does to the running counts, and that this is how the definition's `counted` counts the event. A running account, not to be believed:
-- what is counted, and where a limit refuses, is said by crates/definition.
-- Assumes nothing.
use Rattle.std.specs.Prelude.{◌≡◌, false, ℕ, ◌+◌, ltb, if◌then◌else◌, Result, Ok, Err}
use Rattle.definition.specs.Words.{none?}
use Rattle.definition.specs.Table.{Definition, Table, find}
use Rattle.definition.specs.Drawing.{Chain, Drawn, called, drew, entered}
use Rattle.definition.specs.Counts.{counts, End, finished, stopped, counted}
use Rattle.definition.specs.Counts.{Counts as Tally}
use Rattle.definition.specs.Limits.{most_calls, most_shapes}
use Rattle.definition.specs.Rules.{refuse}
use Rattle.definition.specs.declared.Rule.{Rule}
use Rattle.definition.specs.declared.Rule.TheVariants.{TooManyCalls, TooManyShapes}
use Rattle.counts.specs.declared.Counts.{Counts}

-- the record, as the definition has it
abbrev pub tally : Counts → Tally
tally c = counts c.calls c.shapes c.redefinitions

-- nothing is counted
abbrev pub zero_counts : Counts
zero_counts = record { calls = 0; shapes = 0; redefinitions = 0 }

-- the record with another number in a field
abbrev pub with_calls : Counts → ℕ → Counts
with_calls c n = record { calls = n; shapes = c.shapes; redefinitions = c.redefinitions }

abbrev pub with_shapes : Counts → ℕ → Counts
with_shapes c n = record { calls = c.calls; shapes = n; redefinitions = c.redefinitions }

abbrev pub with_redefinitions : Counts → ℕ → Counts
with_redefinitions c n = record { calls = c.calls; shapes = c.shapes; redefinitions = n }

-- one more of what is counted, up to the most that there may be
abbrev pub one_more : (had most : ℕ) → Rule → Result ℕ Rule
one_more had most rule = if ltb had most then Ok (had + 1) else Err rule

-- how the definition says what is answered at a place and under open calls: one definition for both cases, with the rule of RULES 12 in it
unfoldable pub end_of : Result Counts Rule → ℕ → Chain → End
end_of (Ok c) p chain = finished (tally c)
end_of (Err rule) p chain = stopped (refuse rule p) chain

-- the contracts by value: the answer written out, and that it is the definition's
pub record CountsCall (c : Counts) (r : Result Counts Rule) : Type 0 where
  pub is : r ≡ (if ltb c.calls most_calls then Ok (with_calls c (c.calls + 1)) else Err TooManyCalls)
  pub ends : (p : ℕ) (chain : Chain) (d : Definition) → counted (tally c) (called p chain d) ≡ end_of r p chain

pub record CountsShape (c : Counts) (r : Result Counts Rule) : Type 0 where
  pub is : r ≡ (if ltb c.shapes most_shapes then Ok (with_shapes c (c.shapes + 1)) else Err TooManyShapes)
  pub ends : (d : Drawn) → counted (tally c) (drew d) ≡ end_of r d.place d.chain

pub record CountsRedefinition (c c' : Counts) : Type 0 where
  pub is : c' ≡ with_redefinitions c (c.redefinitions + 1)
  pub ends : (d : Definition) (before : Table) → none? (find d.symbol before) ≡ false → counted (tally c) (entered d before) ≡ finished (tally c')
