-- Texts that show what joining and placing say, and that each condition is needed: joined as the request says, and in ways that it does not say. Every answer was worked out
-- by hand from the rules, and the definitions are held to it here, as in Texts of crate definition.
-- Assumes nothing.
use mathlib.Core.List.{List, [], ◌∷◌, ◌++◌}
use Prim.Native.Nat.{ℕ}
use Prim.Native.String.{String}
use Rattle.definition.specs.Words.{bytes_of}
use Rattle.definition.proofs.Rows.{Row, lent, in_calls, accepting, rounding, refusing, accepted, refused_at, Holds, Each, all_hold, each}
use Rattle.joining.specs.Joined.{before_e, joined}

abbrev both : String → String → List ℕ  -- the first cut at its E, then `DD0;`, then the second; without `DD0;`; and with the first's E left
both first second = joined (bytes_of first) (bytes_of second)

abbrev straight : String → String → List ℕ
straight first second = before_e (bytes_of first) ++ bytes_of second

abbrev uncut : String → String → List ℕ
uncut first second = bytes_of first ++ (bytes_of "DD0;" ++ bytes_of second)

abbrev room : ℕ
room = 32768

pub rows : List Row
rows =
    -- the first list, then the second; calls are the sums, and each text draws its own symbol 1. Without `DD0;` the second's is a redefinition
    accepted "DS1;LA;R2 0 0;DF;C1;E" 1 1 0 "LA;\nR2 0 0;\nE\n"
    ∷ accepted "DS1;LB;R4 0 0;DF;C1;E" 1 1 0 "LB;\nR4 0 0;\nE\n"
    ∷ accepting room (both "DS1;LA;R2 0 0;DF;C1;E" "DS1;LB;R4 0 0;DF;C1;E") 2 2 0 (bytes_of "LA;\nR2 0 0;\nLB;\nR4 0 0;\nE\n")
    ∷ accepting room (straight "DS1;LA;R2 0 0;DF;C1;E" "DS1;LB;R4 0 0;DF;C1;E") 2 2 1 (bytes_of "LA;\nR2 0 0;\nLB;\nR4 0 0;\nE\n")
    -- the second must be accepted by itself: it does not find the first's definitions, and without `DD0;` it would
    ∷ refused_at "C1;E" 12 0
    ∷ refusing room (both "DS1;LA;R2 0 0;DF;E" "C1;E") 12 21
    ∷ accepting room (straight "DS1;LA;R2 0 0;DF;E" "C1;E") 1 1 0 (bytes_of "LA;\nR2 0 0;\nE\n")
    -- the first's layer still stands when the second begins, so a second that sets none is drawn, though by itself it is refused
    ∷ refused_at "R4 0 0;E" 8 0
    ∷ accepting room (both "LA;E" "R4 0 0;E") 1 0 0 (bytes_of "LA;\nR4 0 0;\nE\n")
    -- and a blank before its E has a semicolon before it, though by itself it has none
    ∷ refused_at " E" 2 1
    ∷ accepting room (both "E" " E") 0 0 0 (bytes_of "E\n")
    -- the first must be accepted too
    ∷ refusing room (both "R4 0 0;E" "E") 8 0
    -- it is cut at its E: with it, nothing but blanks may follow. Blanks after it are cut as well, and no other letter E is taken for it
    ∷ refusing room (uncut "LA;R1 0 0;E" "LB;R1 0 0;E") 2 11
    ∷ accepting room (both "LA;R1 0 0;E end of file" "LB;R1 0 0;E x") 2 0 0 (bytes_of "LA;\nR1 0 0;\nLB;\nR1 0 0;\nE\n")
    ∷ accepting room (both "LE;(E);R1 0 0;9E;E e" "LA;R2 0 0;E") 2 0 0 (bytes_of "LE;\nR1 0 0;\nLA;\nR2 0 0;\nE\n")
    ∷ accepting room (both "E" "E") 0 0 0 (bytes_of "E\n")
    -- an L line at the seam falls away when both layers agree
    ∷ accepting room (both "LA;R1 0 0;E" "LA;R2 0 0;E") 2 0 0 (bytes_of "LA;\nR1 0 0;\nR2 0 0;\nE\n")
    -- the flat file must fit, though each of the two fits by itself: 14 and 14 bytes, and 26
    ∷ accepting 26 (both "LA;R1 0 0;E" "LB;R1 0 0;E") 2 0 0 (bytes_of "LA;\nR1 0 0;\nLB;\nR1 0 0;\nE\n")
    ∷ refusing 25 (both "LA;R1 0 0;E" "LB;R1 0 0;E") 18 0
    -- as many words as for each of the two, since `DD0;` frees the first's; without it their sum
    ∷ lent 3 (accepting room (both "DS1;C1;DF;E" "DS2;C2;DF;E") 0 0 0 (bytes_of "E\n"))
    ∷ lent 2 (refusing room (both "DS1;C1;DF;E" "DS2;C2;DF;E") 25 0)
    ∷ lent 5 (refusing room (straight "DS1;C1;DF;E" "DS2;C2;DF;E") 25 10)
    ∷ lent 6 (accepting room (straight "DS1;C1;DF;E" "DS2;C2;DF;E") 0 0 0 (bytes_of "E\n"))
    -- redefinitions and rounded distances are the sums
    ∷ accepting room (both "DS1;DF;DS1;DF;E" "DS2;DF;DS2;DF;DS2;DF;E") 0 0 3 (bytes_of "E\n")
    ∷ rounding room (both "DS1 1 2;LA;R2 1 0;DF;E" "DS1 1 2;LA;R5 1 -1;DF;C1;E") 1 1 0 4 (bytes_of "LA;\nR3 1 -1;\nE\n")
    -- placing: a call in a body draws as one with the composed list; only the final points are held to the range
    ∷ accepted "DS1;LA;B4 2 3 5 2 1;DF;DS2;C1 MX T10 0;DF;C2 R0 1 T0 7;C1 MX T10 0 R0 1 T0 7;E" 2 3 0 "LA;\nB4 2 -5 14 -1 -2;\nB4 2 -5 14 -1 -2;\nE\n"
    ∷ accepted "DS1;LA;R2 1 0;DF;DS2;C1T16777215 0;DF;C2T-1 0;E" 1 2 0 "LA;\nR2 16777215 0;\nE\n"
    ∷ in_calls (38 ∷ 21 ∷ []) (refused_at "DS1;LA;R2 1 0;DF;DS2;C1T16777215 0;DF;C2;E" 16 7)
    -- both lists must be right-angled
    ∷ in_calls (31 ∷ []) (refused_at "DS1;LA;R2 1 0;DF;DS2;C1R1 1;DF;C2;E" 11 21)
    ∷ refused_at "DS1;LA;R2 1 0;DF;DS2;C1;DF;C2R1 1;E" 11 27
    ∷ []

pub joined_texts : Each Holds rows
unfolding all_hold rows before_e joined
joined_texts = each rows tt
