-- What the functions between a text and its summary answer, in the definition's words. A running account, not to be believed: what is promised to a host is
-- crates/definition's `Summarised`.
-- Assumes nothing.
use Rattle.std.specs.Prelude.{◌≡◌, List, [], map, ℕ, Result, Ok, Err, ◌≤◌, ℤ, length}
use Rattle.std.proofs.Math.Option.{none, some}
use Rattle.grammar.specs.Notation.{Letter}
use Rattle.grammar.specs.Viable.{Marked}
use Rattle.definition.specs.declared.Refusal.{Refusal}
use Rattle.definition.specs.declared.Rule.{Rule}
use Rattle.definition.specs.declared.Summary.{Summary}
use Rattle.definition.specs.Limits.{deepest}
use Rattle.definition.specs.Words.{Placed, those, first}
use Rattle.definition.specs.Commands.{commands}
use Rattle.definition.specs.Table.{Step, Table, find}
use Rattle.definition.specs.Drawing.{Deed, story}
use Rattle.definition.specs.Counts.{Counts, counts, End, finished, stopped, ending}
use Rattle.definition.specs.Held.{held_to}
use Rattle.definition.specs.Summary.{Names, layer_names, too_many_from, sooner, kept?, table_then, table_deeds, appearing, packed_name, own_shapes, own_calls, own_layers}
use Rattle.definition.specs.Summary.{Reply, reply_to, body_found, in_symbol, empty_summary, summary_in, Summarises}
use Rattle.definition.specs.Marks.{set_of_layers}
use Rattle.library.specs.Sound.{Stocked}
use Rattle.library.specs.Rows.{Sorted}
use Rattle.library.specs.Holds.{Holds}
use Rattle.keeping.specs.Keeping.{most_words}
use Rattle.passing.specs.Passed.{Passed}
use Rattle.marks.specs.declared.Names.{Names as Run}
use Rattle.marks.specs.Noted.{Noted}
use Rattle.columns.specs.Columns.{Afresh}
use Rattle.columns.specs.declared.Own.{Own}
use Rattle.heights.specs.declared.Standing.{Standing}
use Rattle.heights.specs.Replies.{ReplyOf}

abbrev pub kept_of : List Deed → List Deed  -- what keeps the table
kept_of ds = those kept? ds

-- how keeping the table of a text ends, with so many words lent, and the table left
abbrev pub end_of : (words : ℕ) → List Letter → End
end_of w m = ending (counts 0 0 0) (map (held_to w) (story [] (table_deeds (commands 0 m))))

abbrev pub table_left : List Letter → Table
table_left m = table_then [] (table_deeds (commands 0 m))

-- memory holds a table, with the summary beside it
pub record TableHeld (rows : List ℕ) (b : List ℤ) (live : ℕ) (names : List ℕ) (count : ℕ) (column : List Own) (t : Table) : Type 0 where
  pub holds : Holds rows b live t
  pub sorted : Sorted rows live
  pub stocked : Stocked rows b live
  pub short : length b ≤ most_words
  pub afresh : Afresh rows b live names count column

-- the contract of `keep_text`
pub record KeepsAll (words : ℕ) (m : List Letter) (names : List ℕ) (count live : ℕ) (rows : List ℕ) (b : List ℤ) (column : List Own) : Type 0 where
  pub totals : Counts
  pub ends : end_of words m ≡ finished totals
  pub held : TableHeld rows b live names count column (table_left m)

unfoldable pub KeepsText : (t : List ℕ) (words : ℕ) (names : List ℕ) (count : ℕ) → Result ℕ Refusal → (rows : List ℕ) (b : List ℤ) (column : List Own) → Type 0
KeepsText t words names count (Ok n) rows b column = (p : Passed t) → KeepsAll words p.letters names count n rows b column
KeepsText t words names count (Err why) rows b column = (p : Passed t) → end_of words p.letters ≡ stopped why []

-- of refusals 3 to 9 and 19 of a text of the grammar the first in text order: the contract of `foremost`
abbrev pub Foremost : List ℕ → Refusal → Refusal → Type 0
Foremost t before r = (m : List Letter) → Marked t m → sooner (some before) (too_many_from [] (commands 0 m)) ≡ some r

-- the contract of `begin`: the text is refused, whatever is asked of it; or 1 to 9 and 19 let it pass, and these are its names
pub record NamedPassed (t : List ℕ) (names : List ℕ) (count : ℕ) : Type 0 where
  pub passed : Passed t
  pub noted : Noted names count (layer_names (commands 0 passed.letters))
  pub clear : too_many_from [] (commands 0 passed.letters) ≡ none

unfoldable pub Starts : List ℕ → Result Run Refusal → Type 0
Starts t (Err why) = (words symbol : ℕ) → Summarises t words symbol (empty_summary t why)
Starts t (Ok run) = NamedPassed t run.numbers run.count

-- ---- a symbol

-- the contract of `first_name`: of the layers that a set stands for, the first in the text
abbrev pub FirstName : (names : List ℕ) (set r : ℕ) → Type 0
FirstName names set r = (count : ℕ) (ns ls : Names) → Noted names count ns → set ≡ set_of_layers ns ls → r ≡ packed_name (first (appearing ns ls))

-- the set is one of the layers that the run names
pub record SetIn (names : List ℕ) (set : ℕ) : Type 0 where
  pub count : ℕ
  pub all_names : Names
  pub layers : Names
  pub noted : Noted names count all_names
  pub is : set ≡ set_of_layers all_names layers

-- a reply as the code gives it (crate heights) stands for the definition's; the own numbers are those of a body
pub record OwnIs (ns : Names) (own : Own) (ss : List (Placed Step)) : Type 0 where
  pub shapes : own.shapes ≡ own_shapes ss
  pub calls : own.calls ≡ own_calls ss
  pub layers : own.layers ≡ set_of_layers ns (own_layers ss)

pub record Given (names : List ℕ) (reply : Result Standing Rule) (own : Own) : Type 0 where
  pub count : ℕ
  pub all_names : Names
  pub told : Reply
  pub body : List (Placed Step)
  pub noted : Noted names count all_names
  pub is : ReplyOf all_names told reply
  pub own_is : OwnIs all_names own body

-- the contract of `tell_reply`, of `tell`, and of `tell_text`
abbrev pub TellsReply : (names : List ℕ) (reply : Result Standing Rule) (own : Own) → Summary → Type 0
TellsReply names reply own r =
    (count : ℕ) (ns : Names) (told : Reply) (ss : List (Placed Step)) → Noted names count ns → ReplyOf ns told reply → OwnIs ns own ss → r ≡ in_symbol ns told ss

abbrev pub Tells : (rows : List ℕ) (b : List ℤ) (live : ℕ) (names : List ℕ) (column : List Own) (symbol : ℕ) → Summary → Type 0
Tells rows b live names column symbol r =
    (count : ℕ) (ns : Names) (t : Table) → Noted names count ns → TableHeld rows b live names count column t
    → r ≡ in_symbol ns (reply_to deepest t [] 0 symbol) (body_found (find symbol t))

pub record Askable (rows : List ℕ) (b : List ℤ) (live : ℕ) (names : List ℕ) (column : List Own) : Type 0 where
  pub count : ℕ
  pub all_names : Names
  pub table : Table
  pub noted : Noted names count all_names
  pub held : TableHeld rows b live names count column table

abbrev pub TellsText : (t : List ℕ) (words : ℕ) (names : List ℕ) (count symbol : ℕ) → Summary → Type 0
TellsText t words names count symbol r =
    (p : Passed t) → Noted names count (layer_names (commands 0 p.letters))
    → r ≡ summary_in t (end_of words p.letters) (layer_names (commands 0 p.letters)) (table_left p.letters) symbol
