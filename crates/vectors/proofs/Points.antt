-- The points that the documents leave open, as rows with the choice that docs/DECISIONS.md gives under the number named. Missing are decisions without
-- a text of their own (12, 19, 33) and those whose texts stand elsewhere: 13, 20, 22, 25 and 28 in the two files Limits, 31 among the printouts
-- of the definition's Texts.
-- Assumes nothing.
use mathlib.Core.List.{List, [], ◌∷◌}
use Rattle.definition.specs.Words.{bytes_of}
use Rattle.definition.proofs.Rows.{Row, accepting, accepted, refused_at, in_calls, Holds, Each, all_hold, each}
use Rattle.vectors.proofs.Limits.{text, times}

pub grammar : List Row
unfolding bytes_of text times
grammar =
    -- decision 2: a text that is only unfinished is itself the longest prefix that can be completed
    refused_at "LA" 2 2
    ∷ refused_at "(()" 2 3
    ∷ refused_at "DS1;" 2 4
    -- decision 3: behind a complete list an upper-case letter is a separator, and commits to more numbers
    ∷ refused_at "LA;B1 2 3 4 X;E" 2 13
    ∷ accepted "LA;B1 2 3 4 X5 6;E" 1 0 0 "LA;\nB1 2 3 4 5 6;\nE\n"
    ∷ refused_at "DS1X;DF;E" 2 4
    ∷ refused_at "DS1DF;E" 2 5
    -- decision 4: a minus sign starts no unsigned number, and touches its first digit
    ∷ refused_at "B1 -2 3 4" 2 3
    ∷ refused_at "LA;B1 2 3 - 4;E" 2 11
    -- decision 5: before a layer name stand blanks only
    ∷ refused_at "LX A;E" 2 3
    -- decision 6: and before a transformation; behind T and R letters are separators again
    ∷ refused_at "C1 A;E" 2 3
    ∷ accepted "DS1;DF;C1 then T1 1;E" 0 1 0 "E\n"
    ∷ accepted "DS1;LA;R1 1 1;DF;C1TMX5 0;E" 1 1 0 "LA;\nR1 6 1;\nE\n"
    -- decision 7: any semicolon lets blanks stand before E
    ∷ accepted " ;E" 0 0 0 "E\n"
    ∷ accepted "; E" 0 0 0 "E\n"
    -- decision 8: control bytes are blanks; bytes from 128 up fit nowhere
    ∷ accepted "(\0\u{7f});9\u{1};\u{1f}E\0\u{7f}" 0 0 0 "E\n"
    ∷ refused_at "E\u{80}" 2 1
    ∷ refused_at "(ÿ);E" 2 1
    ∷ refused_at "9\u{80};E" 2 1
    -- decision 9: what a definition may not hold is a matter of grammar
    ∷ refused_at "DS1;E" 2 4
    ∷ refused_at "DS1;DD2;DF;E" 2 5
    ∷ refused_at "DS1;DS2;DF;E" 2 5
    -- decision 10: a leading zero is the first digit, a leading separator is not
    ∷ refused_at "LA;R1 0016777216 0;E" 3 6
    ∷ refused_at "LA;R1 X 0016777216 0;E" 3 8
    -- decision 11: digits without limit; only the value counts
    ∷ accepting 21 (text "LA;R1 " 1000 "0" "16777215 0;E") 1 0 0 (bytes_of "LA;\nR1 16777215 0;\nE\n")
    ∷ []

pub grammar_hold : Each Holds grammar
unfolding all_hold grammar text times
grammar_hold = each grammar tt

pub commands : List Row
commands =
    -- decision 1: DS, each command in a definition, and DF are commands of their own
    refused_at "DS1;R0 0 0;R99999999 0 0;DF;E" 7 4
    -- decision 14: within a command by refusal number, whatever the places
    ∷ refused_at "DS1 2 1;C1T8388608 16777216;DF;E" 3 19
    ∷ refused_at "DS1 3 2;C1T16777214 1;DF;E" 6 11
    -- decision 103: the range is looked at after rounding
    ∷ refused_at "DS1 3 2;LA;R2 16777213 1;DF;E" 6 14
    -- decision 16: 3 is for every number, drawn or not
    ∷ refused_at "DD16777216;E" 3 2
    ∷ refused_at "DS16777216;DF;E" 3 2
    ∷ refused_at "DS1;C16777216;DF;E" 3 5
    ∷ refused_at "C1R0 16777216;E" 3 5
    -- decision 17: and before 4
    ∷ refused_at "DS1 16777216 0;DF;E" 3 4
    -- decision 18: 7 is also for an R of a call that is never drawn, or of an undefined symbol
    ∷ refused_at "DS1;C9R0 0;DF;E" 7 4
    ∷ refused_at "C9R0 0;E" 7 0
    -- decision 32: 7 before 8, for a zero width of a wire too; a wire of one point is accepted, a polygon of two is not
    ∷ refused_at "W0 0 0;E" 7 0
    ∷ accepted "LA;W5 1 2;E" 1 0 0 "LA;\nW5 1 2;\nE\n"
    ∷ refused_at "LA;P0 0 1 1;E" 7 3
    ∷ accepted "LA;P0 0 1 1 0 0;E" 1 0 0 "LA;\nP0 0 1 1 0 0;\nE\n"
    -- decision 21: no layer is set again where none was before the DS
    ∷ refused_at "DS1;LA;DF;R1 0 0;E" 8 10
    -- decision 27: -0 is 0
    ∷ accepted "LA;R1 -0 -0;E" 1 0 0 "LA;\nR1 0 0;\nE\n"
    ∷ refused_at "LA;B1 1 0 0 -0 0;E" 7 3
    ∷ []

pub commands_hold : Each Holds commands
unfolding all_hold commands
commands_hold = each commands tt

pub drawing : List Row
drawing =
    -- decision 23: 11 looks at each R by itself
    refused_at "DS1;DF;C1R1 1R1 1;E" 11 7
    -- decision 24: 13 goes by symbol number, at any distance
    ∷ in_calls (20 ∷ 4 ∷ []) (refused_at "DS1;C2;DF;DS2;C1;DF;C1;E" 13 14)
    -- decision 26: 16 and 20 look at points, and not at how far a shape reaches
    ∷ accepted "LA;R16777215 16777215 0;E" 1 0 0 "LA;\nR16777215 16777215 0;\nE\n"
    -- decision 29: a direction along x is written as given
    ∷ accepted "LA;B1 2 3 4 2 0;E" 1 0 0 "LA;\nB1 2 3 4 2 0;\nE\n"
    -- decision 30: a symbol number is a number, and not its digits
    ∷ accepted "DS01;DF;DS1;LA;R1 0 0;DF;C001;E" 1 1 1 "LA;\nR1 0 0;\nE\n"
    ∷ []

pub drawing_hold : Each Holds drawing
unfolding all_hold drawing
drawing_hold = each drawing tt
