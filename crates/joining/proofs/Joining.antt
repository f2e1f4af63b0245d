-- Request 14 (RULES 18), joining: two accepted texts are joined, the first cut at its E, then `DD0;`, then the second. If the totals of calls and shapes and the lengths of
-- the joined text and of its flat file stay within the limits, it is accepted and draws the first list followed by the second; and in no other case is it accepted.
-- Assumes nothing.
use mathlib.Core.List.{List, ◌++◌}
use mathlib.Core.Logic.{◌↔◌}
use Prim.Native.Nat.{ℕ, ◌+◌, ◌≤◌}
use lib.ListN.{length}
use Rattle.definition.specs.Words.{Placed}
use Rattle.definition.specs.Commands.{Command, commands}
use Rattle.definition.specs.Drawing.{Event}
use Rattle.definition.specs.Counts.{Counts, shapes_of}
use Rattle.definition.specs.Flat.{flat}
use Rattle.definition.specs.Held.{words_needed}
use Rattle.definition.specs.Answer.{accepted, Answers}
use Rattle.laws.proofs.Rules.Outcomes.{acceptance}
use Rattle.joining.specs.Joined.{joined, added, WithinLimits, Enough, Joins}
use Rattle.joining.proofs.FlatSeam.{flat_shorter, layers-named}
use Rattle.joining.proofs.Parted.{parted, letters}
use Rattle.joining.proofs.Together.{drawing, accepted-both, joins_so, only_so, enough_for_both}

module _ {first second : List ℕ} {words₁ words₂ room₁ room₂ : ℕ} {cs₁ cs₂ : List (Placed Command)} {c₁ c₂ : Counts} {es₁ es₂ : List Event}
    (one : Answers first words₁ room₁ (accepted cs₁ c₁ es₁)) (two : Answers second words₂ room₂ (accepted cs₂ c₂ es₂)) where
  -- within the limits, with words enough, and in a room that holds the flat file, which one of 16,777,216 bytes does
  pub joining : WithinLimits first second c₁ c₂ (shapes_of es₁) (shapes_of es₂) → (words room : ℕ) → Enough first second words₁ words₂ words
      → length (flat (shapes_of es₁ ++ shapes_of es₂)) ≤ room → Joins first second words room cs₁ cs₂ c₁ c₂ es₁ es₂
  joining w words room enough fits =
      let p = parted one in
      let q = parted two in
      let needs = enough_for_both p q enough in
      joins_so p q words room (accepted-both p q words room w needs.0 needs.1 fits)

  -- each condition is needed: with any words and any room the joined text is accepted only if the limits are kept, the words are as many as each of the two needs, and
  -- the flat file fits the room
  pub joining_exactly : (words room : ℕ)
      → ((cs : List (Placed Command)) × (c : Counts) × (es : List Event) × Answers (joined first second) words room (accepted cs c es))
      ↔ (WithinLimits first second c₁ c₂ (shapes_of es₁) (shapes_of es₂) × (words_needed es₁ ≤ words) × (words_needed es₂ ≤ words) × (length (flat (shapes_of es₁ ++ shapes_of es₂)) ≤ room))
  joining_exactly words room =
      let p = parted one in
      let q = parted two in (
        λ a. only_so p q (acceptance.0 a.3),
        λ h. (commands 0 (letters p q), added c₁ c₂, drawing p q, acceptance.1 (accepted-both p q words room h.0 h.1 h.2 h.3)),
      )

  -- ---- how long the flat file is

  -- an L line at the seam falls away where the two lists meet on one layer, and the first's End does: so it is shorter than the two by 2 bytes at least
  pub flat_at_most : length (flat (shapes_of es₁ ++ shapes_of es₂)) + 2 ≤ length (flat (shapes_of es₁)) + length (flat (shapes_of es₂))
  flat_at_most = flat_shorter (shapes_of es₁) (shapes_of es₂) (layers-named (parted two))
