-- What is warned of deeds, one after another, up to a definition that refusal 10 or 25 meets. A running account, not to be believed: of an accepted text it is
-- the definition's `warning_lines` (proofs/Agrees.antt).
-- Assumes nothing.
use Rattle.std.specs.Prelude.{Bool, false, ◌||◌, ℕ, Option, Some, None, ◌+◌, ◌*◌, ◌≤◌, ltb, ℤ, length, if◌then◌else◌}
use mathlib.Core.List.{List, [], ◌∷◌, ◌++◌, flat_map}
use Rattle.definition.specs.Limits.{most_definitions}
use Rattle.definition.specs.Commands.{commands}
use Rattle.definition.specs.Standing.{outside}
use Rattle.definition.specs.Table.{Table, enter}
use Rattle.definition.specs.Drawing.{Deed, output, define, remove, deeds, entered, removed, table_after}
use Rattle.definition.specs.Held.{words_in}
use Rattle.definition.specs.Warnings.{redefined, warnings_at, warning_line}
use Rattle.digits.specs.Writes.{Writes}
use Rattle.passing.specs.Passed.{Passed}
use Rattle.dangling.specs.Searched.{warning_by, Searched}

unfoldable pub warned_at : Table → Deed → List ℕ
warned_at t (define d) = flat_map warning_line (warnings_at (entered d t))
warned_at t (remove n) = flat_map warning_line (warnings_at (removed n t))
warned_at t (output s) = []

unfoldable pub stops_at : (words : ℕ) → Table → Deed → Bool
stops_at w t (define d) = ltb most_definitions (length (enter d t)) || ltb w (words_in (enter d t))
stops_at w t (remove n) = false
stops_at w t (output s) = false

unfoldable pub warned_from : (words : ℕ) → Table → List Deed → List ℕ
warned_from w t [] = []
warned_from w t (d ∷ ds) = let later = warned_from w (table_after t d) ds in if stops_at w t d then [] else warned_at t d ++ later

-- of a whole text, with so many words lent
abbrev pub warned_of : {t : List ℕ} → (words : ℕ) → Passed t → List ℕ
warned_of w p = warned_from w [] (deeds (outside []) (commands 0 p.letters))

-- the line of a definition that brought one redefinition more, and that of what a search found
abbrev pub redefined_line : (symbol before after : ℕ) → List ℕ
redefined_line n before after = if ltb before after then warning_line (redefined n) else []

abbrev pub dangling_line : Option ℕ → List ℕ
dangling_line d = flat_map warning_line (warning_by d)

-- what the last search found, if the table has not changed since
abbrev pub SearchedLast : (rows : List ℕ) (b : List ℤ) (live : ℕ) → Option (Option ℕ) → Type 0
SearchedLast rows b live (Some found) = Searched rows b live found
SearchedLast rows b live None = Unit {0}

-- the contract of `warn`. A DD has four bytes at least, and its line at most sixty
pub record Warns (t : List ℕ) (words : ℕ) (old new : List ℕ) (from r : ℕ) : Type 0 where
  pub writes : (p : Passed t) → Writes old new from r (warned_of words p)
  pub near : r ≤ from + 15 * length t

-- what is warned of any text: nothing where refusals 1 to 9 do not let it pass
pub data WarnedAny (t : List ℕ) (words : ℕ) : List ℕ → Type 0 where
  of_passed : (p : Passed t) → WarnedAny t words (warned_of words p)
  of_refused : (Passed t → ⊥) → WarnedAny t words []

-- the contract of `warn_any`
pub record WarnsAny (t : List ℕ) (words : ℕ) (old new : List ℕ) (from r : ℕ) : Type 0 where
  pub bytes : List ℕ
  pub warned : WarnedAny t words bytes
  pub writes : Writes old new from r bytes
  pub near : r ≤ from + 15 * length t
