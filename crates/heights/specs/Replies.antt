-- What crate heights answers, in the definition's words (crates/definition, specs/Summary.antt): the rule, or the height and the set of the layers, for
-- whatever names the sets of the rows go by. The table is the one that the memory holds.
-- Assumes nothing.
use Rattle.std.specs.Prelude.{◌≡◌, List, [], ℕ, Result, Err, ◌<◌, ℤ}
use Rattle.definition.specs.Limits.{deepest}
use Rattle.definition.specs.declared.Rule.{Rule}
use Rattle.definition.specs.Summary as summary
use Rattle.definition.specs.Summary.{Names, bars, stands, own_layers, reply_to}
use Rattle.definition.specs.Marks.{set_of_layers}
use Rattle.library.specs.Memory.{body_at, table_of}
use Rattle.columns.specs.declared.Own.{Own}
use Rattle.columns.specs.Columns.{own_at}
use Rattle.heights.specs.declared.Standing.{Standing}
use Rattle.heights.specs.Walk.{standing}

unfoldable pub ReplyOf : Names → summary.Reply → Result Standing Rule → Type 0
ReplyOf ns (bars rule) r = r ≡ Err rule
ReplyOf ns (stands h ls) r = r ≡ standing h (set_of_layers ns ls)

-- the set beside each row is that of its body's own layers
abbrev pub OwnSets : (rows : List ℕ) (b : List ℤ) (live : ℕ) (own : List Own) → Names → Type 0
OwnSets rows b live own ns = (i : ℕ) → i < live → (own_at own i).layers ≡ set_of_layers ns (own_layers (body_at rows b i))

-- the contract of `ask`
abbrev pub SymbolReplies : (rows : List ℕ) (b : List ℤ) (live : ℕ) (own : List Own) (n : ℕ) → Result Standing Rule → Type 0
SymbolReplies rows b live own n r = (ns : Names) → OwnSets rows b live own ns → ReplyOf ns (reply_to deepest (table_of rows b live) [] 0 n) r
