-- RULES 8, request 10: bodies are kept as numbers in words that a host lends. How many words the live bodies need, and the refusal where they are more than were
-- lent. The story stays as it is: it is held to the words lent, event by event.
use Rattle.std.specs.Prelude.{List, [], ◌∷◌, ℕ, ◌+◌, max, ltb, ℤ, length, if◌then◌else◌}
use Rattle.definition.specs.Words.{Placed}
use Rattle.definition.specs.declared.Rule.TheVariants.{TooFewWords}
use Rattle.definition.specs.Rules.{refuse}
use Rattle.definition.specs.Commands.{Turn, translate, mirror_x, mirror_y, rotate}
use Rattle.definition.specs.Table.{Step, shape, instance, setting, Table, enter}
use Rattle.definition.specs.Flat.{numbers_of_shape}
use Rattle.definition.specs.Drawing.{Event, called, drew, entered, removed, refused}

abbrev pub total : {A : Type 0} → (A → ℕ) → List A → ℕ  -- the numbers of all of a list, added up
total f [] = 0
total f (a ∷ l) = f a + total f l

unfoldable pub words_of_turn : Turn ℤ → ℕ  -- one for its letter T, M or R, and one per number
words_of_turn (translate p) = 1 + 2
words_of_turn mirror_x = 1
words_of_turn mirror_y = 1
words_of_turn (rotate d) = 1 + 2

-- each body command takes two words and one per number, after defaults are filled in; a call's numbers are its symbol's and those of its T and R, and
-- it takes one more per T, M or R letter; an L command takes one more for its name; all else is no step of a body and takes none
unfoldable pub words_of_step : Step → ℕ
words_of_step (shape l k) = 2 + length (numbers_of_shape k)
words_of_step (instance n ts) = 2 + 1 + total words_of_turn ts
words_of_step (setting l) = 2 + 1

unfoldable pub words_of_body : List (Placed Step) → ℕ
words_of_body ss = total (λ s. words_of_step s.what) ss

unfoldable pub words_in : Table → ℕ  -- what the live bodies need
words_in t = total (λ d. words_of_body d.body) t

-- refusal 25, exactly when the live bodies after some DF need more words than were lent, directly after 10, at the DS
unfoldable pub held_to : (words : ℕ) → Event → Event
held_to words (entered d before) = if ltb words (words_in (enter d before)) then refused (refuse TooFewWords d.place) [] else entered d before
held_to words (called p chain d) = called p chain d
held_to words (drew d) = drew d
held_to words (removed n before) = removed n before
held_to words (refused r chain) = refused r chain

unfoldable pub words_after : Event → ℕ  -- what the live bodies need after a DF; nothing else that happens needs words
words_after (entered d before) = words_in (enter d before)
words_after (called p chain d) = 0
words_after (drew d) = 0
words_after (removed n before) = 0
words_after (refused r chain) = 0

unfoldable pub words_needed : List Event → ℕ  -- the most words that the live bodies need after some DF of a story
words_needed [] = 0
words_needed (e ∷ es) = max (words_after e) (words_needed es)
