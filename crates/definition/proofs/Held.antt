-- The words of request 10 (RULES 8) at texts: what the live bodies need after each DF, and refusal 25 from both sides. Every number was worked out by hand from
-- the request and not from the definitions, so a definition that counts otherwise is refused here.
-- Assumes nothing.
use Rattle.std.specs.Prelude.{if◌then◌else◌}
use mathlib.Core.Path.{◌≡◌, refl}
use mathlib.Core.List.{List, [], ◌∷◌, map}
use Prim.Native.Nat.{ℕ, ◌+◌, ◌≤◌, ◌<◌}
use Prim.Native.String.{String}
use lib.Dec.{eqb}
use lib.ListN.{length}
use borrow.Author.Tests.{lt-ltb, le-ltb}
use Rattle.grammar.specs.Notation.{has, dec}
use Rattle.grammar.specs.Tables.{kinds, table}
use Rattle.grammar.specs.Steps.{kind_of}
use Rattle.definition.specs.Quick.{packed, packed_rows, marking_by, quick_letters}
use Rattle.definition.specs.Words.{any, those, bytes_of}
use Rattle.definition.specs.declared.Rule.{Rule}
use Rattle.definition.specs.declared.Rule.TheVariants.{TooManyDefinitions, TooFewWords}
use Rattle.definition.specs.Rules.{number_of, refuse, order}
use Rattle.definition.specs.Commands.{worth, numbers, paired, next, named, turn_at, turns, command_at, commands}
use Rattle.definition.specs.Standing.{after, nearest, scaled, scaled_shape, scaled_turn}
use Rattle.definition.specs.Faults.{beyond, bearings}
use Rattle.definition.specs.Turns.{negative, heading, rotated, act, aim, in_order, moved, off_axes}
use Rattle.definition.specs.Table.{Definition, Table, find, enter, forget}
use Rattle.definition.specs.Drawing.{define, Event, called, drew, entered, removed, refused}
use Rattle.definition.specs.Drawing.{step_of, retained, deed_of, deeds, drawn_shape, drawn_step, drawn_body, passage_to, passage_of, through, drawn_call, happens, table_after, story}
use Rattle.definition.specs.Counts.{counts, End, finished, stopped, counted, go_on, ending}
use Rattle.definition.specs.Held.{words_of_turn, words_of_step, words_of_body, words_in, held_to, words_after, words_needed}
use Rattle.definition.specs.Answer.{drawing_of}

-- from both sides: with as many words as the live bodies need a definition is entered, and with fewer it is refused at its DS, with no calls open
pub words_reached : (words : ℕ) (d : Definition) (t : Table) → words_in (enter d t) ≤ words → held_to words (entered d t) ≡ entered d t
unfolding held_to
words_reached words d t h = rw (le-ltb words (words_in (enter d t)) h)

pub words_passed : (words : ℕ) (d : Definition) (t : Table) → words < words_in (enter d t)
    → held_to words (entered d t) ≡ refused (refuse TooFewWords d.place) []
unfolding held_to
words_passed words d t h = rw (lt-ltb words (words_in (enter d t)) h)

-- 513 definitions are refused as they were, however few words are lent
pub definitions_first : (words p : ℕ) → held_to words (refused (refuse TooManyDefinitions p) []) ≡ refused (refuse TooManyDefinitions p) []
unfolding held_to
definitions_first words p = refl

-- so where both stand, at one DS, it is 10
pub ten_first : (words : ℕ) (t : Table) (d : Definition) → 512 < length (enter d t)
    → map (held_to words) (happens t (define d)) ≡ refused (refuse TooManyDefinitions d.place) [] ∷ []
unfolding happens held_to
ten_first words t d h = rw (lt-ltb 512 (length (enter d t)) h)

-- and in the order of the rules 25 stands directly after 10
number_first : List Rule → ℕ
number_first [] = 0
number_first (r ∷ rs) = number_of r

unfoldable pub number_after : ℕ → List Rule → ℕ
unfolding number_first
number_after n [] = 0
number_after n (r ∷ rs) = let later = number_after n rs in if eqb (number_of r) n then number_first rs else later

pub directly_after-10 : number_after 10 order ≡ 25
unfolding number_after
directly_after-10 = refl

-- all that happens in a text's drawing; the words that its live bodies need after each DF; number and place of the refusal where so many are lent
unfoldable pub drawing_in : String → List Event
unfolding words_of_turn words_of_step words_of_body words_in words_after has dec kinds table kind_of packed packed_rows marking_by quick_letters those any bytes_of worth numbers paired next named turn_at turns command_at commands after nearest scaled scaled_shape scaled_turn beyond bearings negative heading rotated act aim in_order moved off_axes find enter forget step_of retained deed_of deeds drawn_shape drawn_step drawn_body passage_to passage_of through drawn_call happens table_after story
drawing_in t = drawing_of (commands 0 (quick_letters (bytes_of t)))

unfoldable pub needs : List Event → List ℕ
needs [] = []
needs (entered d before ∷ es) = words_after (entered d before) ∷ needs es
needs (called p chain d ∷ es) = needs es
needs (drew d ∷ es) = needs es
needs (removed n before ∷ es) = needs es
needs (refused r chain ∷ es) = needs es

unfoldable pub refusal_in : End → List ℕ
refusal_in (finished c) = []
refusal_in (stopped r chain) = number_of r.rule ∷ r.place ∷ []

pub record Body : Type 0 where  -- a text, and the words that its live bodies need after each DF
  pub text : String
  pub words : List ℕ

pub record Lending : Type 0 where  -- a text, the words lent, and number and place of the refusal, or none
  pub text : String
  pub words : ℕ
  pub refusal : List ℕ

abbrev pub need : String → List ℕ → Body
need t ws = record { text = t; words = ws }

abbrev pub lending : ℕ → String → List ℕ → Lending
lending w t r = record { text = t; words = w; refusal = r }

pub bodies : List Body
bodies =
    -- one command of each kind: L, a box with its direction filled in, a call, a wire, a polygon, a flash
    need "DS1;LA;B1 2 3 4;C2 T1 1 MX R0 1;W3 0 0 5 5;P0 0 1 1 2 2;R4 0 0;DF;E" ((3 + 8 + (3 + 3 + 1 + 3) + 7 + 8 + 5) ∷ [])
    ∷ need "DS1;LA;B1 2 3 4 0 1;DF;E" (11 ∷ [])
    ∷ need "DS1;C2;C2MY;C2T1 1T1 1;DF;E" ((3 + 4 + 9) ∷ [])
    ∷ need "DS1;LA;W1 0 0;W1 0 0 1 1;P0 0 1 1 2 2 3 3;DF;E" ((3 + 5 + 7 + 10) ∷ [])
    -- a layer's name takes one word whatever its length, also where it changes nothing; comments, user extensions and empty commands take none
    ∷ need "DS1;LABCD;LA;LA;DF;E" (9 ∷ [])
    ∷ need "DS1 7 1;(LA;);9 1 2;;DF;E" (0 ∷ [])
    -- what stands outside takes none; a replaced body and a removed one no longer count, and live ones do, drawn or not
    ∷ need "LA;R1 0 0;DS1;C2;DF;C3;E" (3 ∷ [])
    ∷ need "DS1;LA;R1 0 0;DF;DS2;LA;DF;DS1;C2;DF;DS1;DF;E" (8 ∷ 11 ∷ 6 ∷ 3 ∷ [])
    ∷ need "DS2;LA;DF;DS3;LA;R1 0 0;DF;DD3;DS1;C2;DF;DD0;DS4;DF;E" (3 ∷ 11 ∷ 6 ∷ 0 ∷ [])
    ∷ []

pub lendings : List Lending
lendings =
    lending 8 "DS1;LA;R1 0 0;DF;E" []
    ∷ lending 7 "DS1;LA;R1 0 0;DF;E" (25 ∷ 0 ∷ [])
    ∷ lending 0 "DS1;DF;E" []
    -- at the DS of the first definition for which the words are too few
    ∷ lending 8 "DS1;LA;R1 0 0;DF;DS2;LA;DF;DS3;LA;DF;E" (25 ∷ 17 ∷ [])
    -- the replaced body no longer counts, and the removed one neither
    ∷ lending 8 "DS1;LA;R1 0 0;DF;DS1;LB;R2 0 0;DF;DD1;DS2;LB;R2 0 0;DF;E" []
    -- in the order of drawing: after a call refused before the DS, and before one refused after it
    ∷ lending 0 "C1;DS1;LA;DF;E" (12 ∷ 0 ∷ [])
    ∷ lending 0 "DS1;LA;DF;C2;E" (25 ∷ 0 ∷ [])
    ∷ []

pub bodies_need : map (λ b. needs (drawing_in b.text)) bodies ≡ map (λ b. b.words) bodies
unfolding bodies needs drawing_in
bodies_need = refl

pub lendings_end : map (λ l. refusal_in (ending (counts 0 0 0) (map (held_to l.words) (drawing_in l.text)))) lendings ≡ map (λ l. l.refusal) lendings
unfolding lendings refusal_in counted go_on ending held_to drawing_in
lendings_end = refl

-- the most of them is what must be lent
pub bodies_most : map (λ b. words_needed (drawing_in b.text)) bodies ≡ 41 ∷ 11 ∷ 16 ∷ 25 ∷ 9 ∷ 0 ∷ 3 ∷ 11 ∷ 11 ∷ []
unfolding bodies drawing_in words_needed
bodies_most = refl
