-- The vectors of tests/requests/p02.tsv, made into rows by tools/vectors.py: answers that were worked out apart from the definitions.
-- A trailing comment is the vector's name. They stand in batches, so that a row that does not compute is found.
-- Assumes nothing.
use mathlib.Core.List.{List, [], ◌∷◌}
use Rattle.definition.proofs.Rows.{Row, accepted_in, rounded_in, refused_in, on_line, in_calls, Holds, Each, all_hold, each}

pub rows-1 : List Row
rows-1 =
    rounded_in 1048576 "DS1 1 3;LA;R3 1 2;DF;C1;E" 1 1 0 2 "LA;\nR1 0 1;\nE\n"  -- both sides 0
    ∷ rounded_in 1048576 "DS1 1 2;LA;R1 0 0;DF;C1;E" 1 1 0 1 "LA;\nR1 0 0;\nE\n"  -- both sides 1
    ∷ rounded_in 1048576 "DS1 1 2;C2T1 -1;DF;DS2;LA;R1 0 0;DF;C1;E" 1 2 0 2 "LA;\nR1 1 -1;\nE\n"  -- both sides 2
    ∷ refused_in 1048576 "DS1 3 2;LA;R2 11184811 0;DF;E" 6 14  -- both sides 3
    ∷ refused_in 1048576 "DS1 16777214 16777213;LA;R1 16777215 0;DF;E" 6 28  -- both sides 4
    ∷ refused_in 1048576 "DS1 10 9;LA;R9 15099494 0;DF;E" 6 15  -- both sides 5
    ∷ rounded_in 1048576 "DS1 8 7;LA;R7 14680063 0;DF;C1;E" 1 1 0 1 "LA;\nR8 16777215 0;\nE\n"  -- both sides 6
    ∷ rounded_in 65536 "DS1 1 2;LA;R3 5 7;DF;C1;E" 1 1 0 3 "LA;\nR2 3 4;\nE\n"  -- diameter and centre
    ∷ rounded_in 65536 "DS3;LA;R1 0 0;DF;DS1 1 2;C3T1 -3 R3 0 R0 -5 T5 7;DF;C1;E" 1 2 0 4 "LA;\nR1 1 3;\nE\n"  -- T is scaled, R is not, the symbol is not
    ∷ accepted_in 65536 "DS1 1 2;DF;LA;R1 1 1;E" 1 0 0 "LA;\nR1 1 1;\nE\n"  -- outside nothing is scaled
    ∷ rounded_in 65536 "DS2 1 3;LA;R3 1 2;DF;DS1 1 2;C2T1 1;DF;C1;E" 1 2 0 4 "LA;\nR1 1 2;\nE\n"  -- a called symbol keeps its own scale
    ∷ rounded_in 65536 "DS1 1 3;LA;R3 1 2;R3 -1 -2;R3 4 5;R3 -4 -5;DF;C1;E" 4 1 0 8 "LA;\nR1 0 1;\nR1 0 -1;\nR1 1 2;\nR1 -1 -2;\nE\n"  -- thirds
    ∷ accepted_in 65536 "DS1 3 6;LA;R2 4 -8;DF;C1;E" 1 1 0 "LA;\nR1 2 -4;\nE\n"  -- whole although b is not 1
    ∷ accepted_in 65536 "DS1 16777215 16777215;LA;R1 16777215 -16777215;DF;C1;E" 1 1 0 "LA;\nR1 16777215 -16777215;\nE\n"  -- the largest a and b
    ∷ rounded_in 65536 "DS1 16777214 16777215;LA;R2 16777213 -16777214;DF;C1;E" 1 1 0 3 "LA;\nR2 16777212 -16777213;\nE\n"  -- the largest product, off the grid
    ∷ refused_in 65536 "DS1 31 2;LA;R2 1082401 0;DF;C1;E" 6 15  -- 6 by the half
    ∷ rounded_in 65536 "DS1 16777214 16777213;LA;R1 16777214 -16777214;DF;C1;E" 1 1 0 3 "LA;\nR1 16777215 -16777215;\nE\n"  -- a little over the limit, rounds to it
    ∷ refused_in 65536 "DS1 31 2;LA;R1082401 0 0;DF;C1;E" 6 13  -- 6 for a size
    ∷ refused_in 65536 "DS1 1 3;LA;W1 5 5;DF;C1;E" 7 11  -- a size that rounds to 0: width
    ∷ refused_in 65536 "DS1 1 3;LA;R1 0 0;DF;E" 7 11  -- 7 is judged in a definition never drawn
    ∷ []

pub hold-1 : Each Holds rows-1
unfolding all_hold rows-1
hold-1 = each rows-1 tt

pub rows-2 : List Row
rows-2 =
    rounded_in 65536 "DS1 1 2;LA;R2 1 0;DF;E" 0 0 0 1 "E\n"  -- counted though never drawn
    ∷ rounded_in 65536 "DS1 1 2;LA;W2 1 1 1 1;DF;C1;E" 1 1 0 4 "LA;\nW1 1 1 1 1;\nE\n"  -- a repeated point counts again
    ∷ accepted_in 65536 "(Everything; once);\n9 user text;\n;DS 3 2 1; LA; B 4 2 1 0; B 4 2 1 0 0 1; R 6 1 1; W 2 0 0 5 5; P 0 0 4 0 0 4; C 5 T 1 0 MX R 0 1;\n(inside); 7 inside; ; DF;\nDS 5; L BB; R 1 3 5; DF;\nDS 9; C 8; DF;\nC 3; L CC; W 1 0 0; C 3 MY T 10 -10; DD 9;\nDS 5; LZ; R 2 0 0; DF;\nC 5;\nE\n" 14 5 1 "LA;\nB8 4 2 0 1 0;\nB8 4 2 0 0 1;\nR12 2 2;\nW4 0 0 10 10;\nP0 0 8 0 0 8;\nLBB;\nR1 -5 -5;\nLCC;\nW1 0 0;\nLA;\nB8 4 12 -10 1 0;\nB8 4 12 -10 0 -1;\nR12 12 -12;\nW4 10 -10 20 -20;\nP10 -10 18 -10 10 -18;\nLBB;\nR1 5 -5;\nLZ;\nR2 0 0;\nE\n"  -- everything
    ∷ refused_in 1 "DS1 5 8;LA;R8 1 2;R8 3 4;R8 -5 -6;R8 7 -7;DF;C1;E" 18 0  -- five eighths, no room
    ∷ refused_in 1 "DS1 6 5;LA;R5 13981013 0;DF;C1;E" 6 14  -- 6 over the half, no room
    ∷ refused_in 1 "DS1 31 2;LA;R0 1082401 0;DF;C1;E" 6 15  -- 6 before 7 in one command, no room
    ∷ refused_in 1 "DS1 1 3;LA;R1 0 0;DF;C1;E" 7 11  -- a size that rounds to 0: diameter, no room
    ∷ refused_in 1 "DS1 1 3;LA;B1 3 0 0;DF;C1;E" 7 11  -- a size that rounds to 0: length, no room
    ∷ refused_in 1 "DS1 31 2;LA;R2 1082401 16777216;DF;C1;E" 3 23  -- 3 before 6, no room
    ∷ refused_in 1 "DS1 1 2;LA;R2 1 0;DF;C1T16777214 0;E" 18 0  -- rounded and just within the range, no room
    ∷ accepted_in 65536 "DS1 1 1;LA;P1 0 0 -1 0 0;DF;C1;E" 1 1 0 "LA;\nP1 0 0 -1 0 0;\nE\n"  -- a 1 b 1 d 1
    ∷ accepted_in 65536 "DS1 1 2;LA;P50 0 0 -50 0 0;DF;C1;E" 1 1 0 "LA;\nP25 0 0 -25 0 0;\nE\n"  -- a 1 b 2 d 50
    ∷ rounded_in 65536 "DS1 1 3;LA;P1 0 0 -1 0 0;DF;C1;E" 1 1 0 2 "LA;\nP0 0 0 0 0 0;\nE\n"  -- a 1 b 3 d 1
    ∷ rounded_in 65536 "DS1 1 3;LA;P7 0 0 -7 0 0;DF;C1;E" 1 1 0 2 "LA;\nP2 0 0 -2 0 0;\nE\n"  -- a 1 b 3 d 7
    ∷ rounded_in 65536 "DS1 1 3;LA;P50 0 0 -50 0 0;DF;C1;E" 1 1 0 2 "LA;\nP17 0 0 -17 0 0;\nE\n"  -- a 1 b 3 d 50
    ∷ accepted_in 65536 "DS1 1 3;LA;P16777215 0 0 -16777215 0 0;DF;C1;E" 1 1 0 "LA;\nP5592405 0 0 -5592405 0 0;\nE\n"  -- a 1 b 3 d 16777215
    ∷ rounded_in 65536 "DS1 1 100;LA;P7 0 0 -7 0 0;DF;C1;E" 1 1 0 2 "LA;\nP0 0 0 0 0 0;\nE\n"  -- a 1 b 100 d 7
    ∷ rounded_in 65536 "DS1 1 16777215;LA;P1 0 0 -1 0 0;DF;C1;E" 1 1 0 2 "LA;\nP0 0 0 0 0 0;\nE\n"  -- a 1 b 16777215 d 1
    ∷ accepted_in 65536 "DS1 1 16777215;LA;P16777215 0 0 -16777215 0 0;DF;C1;E" 1 1 0 "LA;\nP1 0 0 -1 0 0;\nE\n"  -- a 1 b 16777215 d 16777215
    ∷ accepted_in 65536 "DS1 2 1;LA;P1 0 0 -1 0 0;DF;C1;E" 1 1 0 "LA;\nP2 0 0 -2 0 0;\nE\n"  -- a 2 b 1 d 1
    ∷ []

pub hold-2 : Each Holds rows-2
unfolding all_hold rows-2
hold-2 = each rows-2 tt

pub rows-3 : List Row
rows-3 =
    refused_in 65536 "DS1 2 1;LA;P8388608 0 0 -8388608 0 0;DF;C1;E" 6 12  -- a 2 b 1 d 8388608
    ∷ rounded_in 65536 "DS1 2 3;LA;P8388608 0 0 -8388608 0 0;DF;C1;E" 1 1 0 2 "LA;\nP5592405 0 0 -5592405 0 0;\nE\n"  -- a 2 b 3 d 8388608
    ∷ rounded_in 65536 "DS1 2 7;LA;P1 0 0 -1 0 0;DF;C1;E" 1 1 0 2 "LA;\nP0 0 0 0 0 0;\nE\n"  -- a 2 b 7 d 1
    ∷ rounded_in 65536 "DS1 2 100;LA;P1 0 0 -1 0 0;DF;C1;E" 1 1 0 2 "LA;\nP0 0 0 0 0 0;\nE\n"  -- a 2 b 100 d 1
    ∷ rounded_in 65536 "DS1 2 100;LA;P7 0 0 -7 0 0;DF;C1;E" 1 1 0 2 "LA;\nP0 0 0 0 0 0;\nE\n"  -- a 2 b 100 d 7
    ∷ rounded_in 65536 "DS1 2 100;LA;P16777215 0 0 -16777215 0 0;DF;C1;E" 1 1 0 2 "LA;\nP335544 0 0 -335544 0 0;\nE\n"  -- a 2 b 100 d 16777215
    ∷ rounded_in 65536 "DS1 2 16777215;LA;P1 0 0 -1 0 0;DF;C1;E" 1 1 0 2 "LA;\nP0 0 0 0 0 0;\nE\n"  -- a 2 b 16777215 d 1
    ∷ rounded_in 65536 "DS1 2 16777215;LA;P7 0 0 -7 0 0;DF;C1;E" 1 1 0 2 "LA;\nP0 0 0 0 0 0;\nE\n"  -- a 2 b 16777215 d 7
    ∷ rounded_in 65536 "DS1 2 16777215;LA;P8388608 0 0 -8388608 0 0;DF;C1;E" 1 1 0 2 "LA;\nP1 0 0 -1 0 0;\nE\n"  -- a 2 b 16777215 d 8388608
    ∷ refused_in 65536 "DS1 3 1;LA;P5592406 0 0 -5592406 0 0;DF;C1;E" 6 12  -- a 3 b 1 d 5592406
    ∷ accepted_in 65536 "DS1 3 3;LA;P7 0 0 -7 0 0;DF;C1;E" 1 1 0 "LA;\nP7 0 0 -7 0 0;\nE\n"  -- a 3 b 3 d 7
    ∷ accepted_in 65536 "DS1 3 3;LA;P5592405 0 0 -5592405 0 0;DF;C1;E" 1 1 0 "LA;\nP5592405 0 0 -5592405 0 0;\nE\n"  -- a 3 b 3 d 5592405
    ∷ accepted_in 65536 "DS1 3 3;LA;P16777215 0 0 -16777215 0 0;DF;C1;E" 1 1 0 "LA;\nP16777215 0 0 -16777215 0 0;\nE\n"  -- a 3 b 3 d 16777215
    ∷ accepted_in 65536 "DS1 3 7;LA;P5592405 0 0 -5592405 0 0;DF;C1;E" 1 1 0 "LA;\nP2396745 0 0 -2396745 0 0;\nE\n"  -- a 3 b 7 d 5592405
    ∷ rounded_in 65536 "DS1 3 7;LA;P5592406 0 0 -5592406 0 0;DF;C1;E" 1 1 0 2 "LA;\nP2396745 0 0 -2396745 0 0;\nE\n"  -- a 3 b 7 d 5592406
    ∷ accepted_in 65536 "DS1 3 7;LA;P16777215 0 0 -16777215 0 0;DF;C1;E" 1 1 0 "LA;\nP7190235 0 0 -7190235 0 0;\nE\n"  -- a 3 b 7 d 16777215
    ∷ rounded_in 65536 "DS1 3 100;LA;P50 0 0 -50 0 0;DF;C1;E" 1 1 0 2 "LA;\nP2 0 0 -2 0 0;\nE\n"  -- a 3 b 100 d 50
    ∷ rounded_in 65536 "DS1 3 100;LA;P5592406 0 0 -5592406 0 0;DF;C1;E" 1 1 0 2 "LA;\nP167772 0 0 -167772 0 0;\nE\n"  -- a 3 b 100 d 5592406
    ∷ accepted_in 65536 "DS1 3 16777215;LA;P5592405 0 0 -5592405 0 0;DF;C1;E" 1 1 0 "LA;\nP1 0 0 -1 0 0;\nE\n"  -- a 3 b 16777215 d 5592405
    ∷ accepted_in 65536 "DS1 7 1;LA;P7 0 0 -7 0 0;DF;C1;E" 1 1 0 "LA;\nP49 0 0 -49 0 0;\nE\n"  -- a 7 b 1 d 7
    ∷ []

pub hold-3 : Each Holds rows-3
unfolding all_hold rows-3
hold-3 = each rows-3 tt

pub rows-4 : List Row
rows-4 =
    accepted_in 65536 "DS1 7 1;LA;P2396745 0 0 -2396745 0 0;DF;C1;E" 1 1 0 "LA;\nP16777215 0 0 -16777215 0 0;\nE\n"  -- a 7 b 1 d 2396745
    ∷ refused_in 65536 "DS1 7 1;LA;P2396746 0 0 -2396746 0 0;DF;C1;E" 6 12  -- a 7 b 1 d 2396746
    ∷ accepted_in 65536 "DS1 7 2;LA;P2396746 0 0 -2396746 0 0;DF;C1;E" 1 1 0 "LA;\nP8388611 0 0 -8388611 0 0;\nE\n"  -- a 7 b 2 d 2396746
    ∷ rounded_in 65536 "DS1 7 3;LA;P2396746 0 0 -2396746 0 0;DF;C1;E" 1 1 0 2 "LA;\nP5592407 0 0 -5592407 0 0;\nE\n"  -- a 7 b 3 d 2396746
    ∷ refused_in 65536 "DS1 7 3;LA;P7190236 0 0 -7190236 0 0;DF;C1;E" 6 12  -- a 7 b 3 d 7190236
    ∷ accepted_in 65536 "DS1 7 7;LA;P2396745 0 0 -2396745 0 0;DF;C1;E" 1 1 0 "LA;\nP2396745 0 0 -2396745 0 0;\nE\n"  -- a 7 b 7 d 2396745
    ∷ accepted_in 65536 "DS1 7 7;LA;P16777215 0 0 -16777215 0 0;DF;C1;E" 1 1 0 "LA;\nP16777215 0 0 -16777215 0 0;\nE\n"  -- a 7 b 7 d 16777215
    ∷ rounded_in 65536 "DS1 7 16777215;LA;P1 0 0 -1 0 0;DF;C1;E" 1 1 0 2 "LA;\nP0 0 0 0 0 0;\nE\n"  -- a 7 b 16777215 d 1
    ∷ rounded_in 65536 "DS1 7 16777215;LA;P50 0 0 -50 0 0;DF;C1;E" 1 1 0 2 "LA;\nP0 0 0 0 0 0;\nE\n"  -- a 7 b 16777215 d 50
    ∷ accepted_in 65536 "DS1 7 16777215;LA;P2396745 0 0 -2396745 0 0;DF;C1;E" 1 1 0 "LA;\nP1 0 0 -1 0 0;\nE\n"  -- a 7 b 16777215 d 2396745
    ∷ accepted_in 65536 "DS1 100 1;LA;P50 0 0 -50 0 0;DF;C1;E" 1 1 0 "LA;\nP5000 0 0 -5000 0 0;\nE\n"  -- a 100 b 1 d 50
    ∷ accepted_in 65536 "DS1 100 2;LA;P1 0 0 -1 0 0;DF;C1;E" 1 1 0 "LA;\nP50 0 0 -50 0 0;\nE\n"  -- a 100 b 2 d 1
    ∷ accepted_in 65536 "DS1 100 2;LA;P50 0 0 -50 0 0;DF;C1;E" 1 1 0 "LA;\nP2500 0 0 -2500 0 0;\nE\n"  -- a 100 b 2 d 50
    ∷ accepted_in 65536 "DS1 100 2;LA;P335544 0 0 -335544 0 0;DF;C1;E" 1 1 0 "LA;\nP16777200 0 0 -16777200 0 0;\nE\n"  -- a 100 b 2 d 335544
    ∷ rounded_in 65536 "DS1 100 3;LA;P50 0 0 -50 0 0;DF;C1;E" 1 1 0 2 "LA;\nP1667 0 0 -1667 0 0;\nE\n"  -- a 100 b 3 d 50
    ∷ rounded_in 65536 "DS1 100 3;LA;P167773 0 0 -167773 0 0;DF;C1;E" 1 1 0 2 "LA;\nP5592433 0 0 -5592433 0 0;\nE\n"  -- a 100 b 3 d 167773
    ∷ accepted_in 65536 "DS1 100 7;LA;P7 0 0 -7 0 0;DF;C1;E" 1 1 0 "LA;\nP100 0 0 -100 0 0;\nE\n"  -- a 100 b 7 d 7
    ∷ rounded_in 65536 "DS1 100 7;LA;P50 0 0 -50 0 0;DF;C1;E" 1 1 0 2 "LA;\nP714 0 0 -714 0 0;\nE\n"  -- a 100 b 7 d 50
    ∷ rounded_in 65536 "DS1 100 7;LA;P167772 0 0 -167772 0 0;DF;C1;E" 1 1 0 2 "LA;\nP2396743 0 0 -2396743 0 0;\nE\n"  -- a 100 b 7 d 167772
    ∷ accepted_in 65536 "DS1 100 100;LA;P167772 0 0 -167772 0 0;DF;C1;E" 1 1 0 "LA;\nP167772 0 0 -167772 0 0;\nE\n"  -- a 100 b 100 d 167772
    ∷ []

pub hold-4 : Each Holds rows-4
unfolding all_hold rows-4
hold-4 = each rows-4 tt

pub rows-5 : List Row
rows-5 =
    accepted_in 65536 "DS1 100 100;LA;P167773 0 0 -167773 0 0;DF;C1;E" 1 1 0 "LA;\nP167773 0 0 -167773 0 0;\nE\n"  -- a 100 b 100 d 167773
    ∷ refused_in 65536 "DS1 16777215 1;LA;P2 0 0 -2 0 0;DF;C1;E" 6 19  -- a 16777215 b 1 d 2
    ∷ accepted_in 65536 "DS1 16777215 2;LA;P2 0 0 -2 0 0;DF;C1;E" 1 1 0 "LA;\nP16777215 0 0 -16777215 0 0;\nE\n"  -- a 16777215 b 2 d 2
    ∷ refused_in 65536 "DS1 16777215 3;LA;P4 0 0 -4 0 0;DF;C1;E" 6 19  -- a 16777215 b 3 d 4
    ∷ refused_in 65536 "DS1 16777215 7;LA;P50 0 0 -50 0 0;DF;C1;E" 6 19  -- a 16777215 b 7 d 50
    ∷ accepted_in 65536 "DS1 16777215 7;LA;P2 0 0 -2 0 0;DF;C1;E" 1 1 0 "LA;\nP4793490 0 0 -4793490 0 0;\nE\n"  -- a 16777215 b 7 d 2
    ∷ rounded_in 65536 "DS1 16777215 100;LA;P50 0 0 -50 0 0;DF;C1;E" 1 1 0 2 "LA;\nP8388608 0 0 -8388608 0 0;\nE\n"  -- a 16777215 b 100 d 50
    ∷ accepted_in 65536 "DS1 16777215 16777215;LA;P2 0 0 -2 0 0;DF;C1;E" 1 1 0 "LA;\nP2 0 0 -2 0 0;\nE\n"  -- a 16777215 b 16777215 d 2
    ∷ refused_in 65536 " " 2 1  -- refusal 2
    ∷ refused_in 65536 "(\u{80});E" 2 1  -- refusal 2
    ∷ accepted_in 65536 "(;);E" 0 0 0 "E\n"  -- refusal 2
    ∷ refused_in 65536 "(()" 2 3  -- refusal 2
    ∷ refused_in 65536 "()E" 2 2  -- refusal 2
    ∷ refused_in 65536 "() ()" 2 3  -- refusal 2
    ∷ refused_in 65536 "DD-0;E" 2 2  -- refusal 2
    ∷ refused_in 65536 "C1R;E" 2 3  -- refusal 2
    ∷ accepted_in 65536 "LA;R1 00 0;E" 1 0 0 "LA;\nR1 0 0;\nE\n"  -- refusal 3
    ∷ refused_in 65536 "LA;R1 99999999 0;E" 3 6  -- refusal 3
    ∷ accepted_in 65536 "LA;R1 -00 0;E" 1 0 0 "LA;\nR1 0 0;\nE\n"  -- refusal 3
    ∷ accepted_in 65536 "LA;R1 0 0016777215;E" 1 0 0 "LA;\nR1 0 16777215;\nE\n"  -- refusal 3
    ∷ []

pub hold-5 : Each Holds rows-5
unfolding all_hold rows-5
hold-5 = each rows-5 tt

pub rows-6 : List Row
rows-6 =
    accepted_in 65536 "LA;R1 0 -16777215;E" 1 0 0 "LA;\nR1 0 -16777215;\nE\n"  -- refusal 3
    ∷ accepted_in 65536 "LA;W1 0 0 5 -0016777215;E" 1 0 0 "LA;\nW1 0 0 5 -16777215;\nE\n"  -- refusal 3
    ∷ accepted_in 65536 "LA;W1 0 0 5 -00;E" 1 0 0 "LA;\nW1 0 0 5 0;\nE\n"  -- refusal 3
    ∷ refused_in 65536 "LA;P0 0 1 1 -16777216 2;E" 3 12  -- refusal 3
    ∷ refused_in 65536 "LA;P0 0 1 1 99999999 2;E" 3 12  -- refusal 3
    ∷ accepted_in 65536 "LA;B1 1 0016777215 1;E" 1 0 0 "LA;\nB1 1 16777215 1 1 0;\nE\n"  -- refusal 3
    ∷ accepted_in 65536 "LA;B1 1 -0016777215 1;E" 1 0 0 "LA;\nB1 1 -16777215 1 1 0;\nE\n"  -- refusal 3
    ∷ accepted_in 65536 "DD16777215;E" 0 0 0 "E\n"  -- refusal 3
    ∷ refused_in 65536 "DD16777216;E" 3 2  -- refusal 3
    ∷ accepted_in 65536 "DS0;DF;E" 0 0 0 "E\n"  -- refusal 3
    ∷ refused_in 65536 "DS16777216;DF;E" 3 2  -- refusal 3
    ∷ accepted_in 65536 "DS1;C16777215;DF;E" 0 0 0 "E\n"  -- refusal 3
    ∷ refused_in 65536 "DS1;C1677721600000000000000000000000000000000000000000000000000;DF;E" 3 5  -- refusal 3
    ∷ refused_in 65536 "DS1;C2T0 0016777216;DF;E" 3 9  -- refusal 3
    ∷ refused_in 65536 "DS1;C2T0  X-1677721600000000000000000000000000000000000000000000000000;DF;E" 3 11  -- refusal 3
    ∷ refused_in 65536 "LA;B1 1 0 0 1 99999999;E" 3 14  -- refusal 3
    ∷ accepted_in 65536 "DS1;C2R1 16777215;DF;E" 0 0 0 "E\n"  -- refusal 3
    ∷ refused_in 65536 "DS1;C2R1 99999999;DF;E" 3 9  -- refusal 3
    ∷ refused_in 65536 "DS1;C2T1 1MXR1  X-0016777216;DF;E" 3 17  -- refusal 3
    ∷ accepted_in 65536 "DS1;C2T1 1MXR1 -0016777215;DF;E" 0 0 0 "E\n"  -- refusal 3
    ∷ []

pub hold-6 : Each Holds rows-6
unfolding all_hold rows-6
hold-6 = each rows-6 tt

pub rows-7 : List Row
rows-7 =
    accepted_in 65536 "DS1 16777215 1;DF;E" 0 0 0 "E\n"  -- refusal 3
    ∷ refused_in 65536 "DS1 1 0;DF;E" 4 0  -- refusal 4
    ∷ refused_in 65536 "; D S1 00 0;DF;E" 4 2  -- refusal 4
    ∷ accepted_in 65536 "LA;W1 0 0;E" 1 0 0 "LA;\nW1 0 0;\nE\n"  -- refusal 7
    ∷ accepted_in 65536 "DS1;C1R0 -1;DF;E" 0 0 0 "E\n"  -- refusal 7
    ∷ accepted_in 65536 "DS1;C2MXMXMXMXMXMXMXMXMXMXMXMXMXMXMXMXMXMXMXMXMXMXMXMXMXMXMXMXMXMXMXMX;DF;E" 0 0 0 "E\n"  -- refusal 9
    ∷ accepted_in 65536 "DS1;C2T1 1T1 1T1 1T1 1T1 1T1 1T1 1T1 1T1 1T1 1T1 1T1 1T1 1T1 1T1 1T1 1T1 1T1 1T1 1T1 1T1 1T1 1T1 1T1 1T1 1T1 1T1 1T1 1T1 1T1 1T1 1T1 1;DF;E" 0 0 0 "E\n"  -- refusal 9
    ∷ refused_in 65536 "DS1;DF;C1R1 1R1 1;E" 11 7  -- refusal 11 pair makes right angle
    ∷ in_calls (10 ∷ []) (refused_in 65536 "DS1;C2;DF;C1;E" 12 4)  -- refusal 12 inner
    ∷ accepted_in 65536 "DS1;C2;DF;DS2;DF;C1;E" 0 2 0 "E\n"  -- refusal 12 defined between
    ∷ in_calls (20 ∷ 4 ∷ []) (refused_in 65536 "DS1;C2;DF;DS2;C1;DF;C1;E" 13 14)  -- refusal 13 ring
    ∷ accepted_in 65536 "DS1;DF;DS2;C1;C1;DF;C2;C2;C1;E" 0 7 0 "E\n"  -- refusal 13 twice is no ring
    ∷ refused_in 65536 "LA;R1 -16777216 16777216;E" 3 6  -- refusal in command
    ∷ refused_in 65536 "DS1 3 1;LA;R16777215 16777215 16777215;DF;E" 6 12  -- refusal in command
    ∷ refused_in 65536 "B1 1 0 0 0 0;E" 7 0  -- refusal in command
    ∷ refused_in 65536 "R1 0 16777216;(" 2 15  -- refusal in command
    ∷ refused_in 65536 "LA;R1 0 16777216;R0 0 0;E" 3 8  -- refusal in command
    ∷ refused_in 4096 "(\0\0a;a;;);DS1 16777215 1;L NM ; P0 324 0 222 -389 0@; R2 117' 462+;(-DF-E-a);((a\0\0 ;)\n()\n);( (a9)) ;DF;25(E99999999999()\n;E" 6 35  -- random 0
    ∷ accepted_in 4096 "DS1 1 16777215 ;LABCD; (;( \0(9DF\0)));LQ7;DF;C1 R0 1T-146 -5  xyzMYT-158 447;E^" 0 1 0 "E\n"  -- random 2
    ∷ accepted_in 65536 " D \"\u{7f}S7;L0;B290 4 0 -16777215,{\r\n;(EE( \n));98DF;W~1 -4 0 -90 52 8 2 004 5 214 0;L9Z;\n~D'F ; DS114;LA ;LCM; C 7;W1 -16777215 0=1 -436 0 0 0'.\t0000000000 0 -0; R1 0 -4 ;CU7;DF;DS16777215; DF\u{1b}; C000000000114T6 393MXM Y;C0016777215 ;E" 6 4 0 "L0;\nB290 4 -6 16776822 -1 0;\nW1 -2 -393 84 -445 -14 -395 -10 -398 -220 -393;\nLCM;\nW1 16777209 -393 -7 43 -6 -393 -6 -393 -6 -393;\nR1 -6 -389;\nL0;\nB290 4 -6 16776822 -1 0;\nW1 -2 -393 84 -445 -14 -395 -10 -398 -220 -393;\nE\n"  -- random 3
    ∷ []

pub hold-7 : Each Holds rows-7
unfolding all_hold rows-7
hold-7 = each rows-7 tt

pub rows-8 : List Row
rows-8 =
    accepted_in 65536 " DS2 1LT16777215;LNM;DF;DS9;LCM;/31 ;DF;73E(9-;C2R-1 0;\u{b}C'HE9 T120@0M Yxyz\0R -1 -0R:K-1 0;E[^#" 0 2 0 "E\n"  -- random 4
    ∷ rounded_in 65536 "DS3 7 3;LND;R 1 -375 8;DF;D S16777215 100 1;73aDF -999999999999;L ABCD;RK2 335 0;DF;DS5 ;L9Z;L 9Z ;72\nDFaDF a; ;R424 -338 492;B16777215 16777215 0V-9 8 6;DF\";C3; C16777215M YM*Y MY;C5;E" 4 3 0 2 "LND;\nR2 -875 19;\nLABCD;\nR200 33500 0;\nL9Z;\nR424 -338 492;\nB16777215 16777215 0 -9 8 6;\nE\n"  -- random 7
    ∷ on_line 2 35 (refused_in 65536 "D S\0\u{1b}002\0;LNM;C57;W 356 5054 -8;W7843 0 435 -167 0 0 0;D\r\nF ;LND;C2:T-15752 3R16777215FO1 ; B1 8 2 -10 -0 00;~DS57 ;(EE\n( 9\n9DF)) ;LABCD[;.  C2 T16777216W0 ;CY9T -432ooD:03777TE~a-9 -2;\tLNM`; B\n16777214*7 0 00000000000000000000000000000014576 -5 7;DF;(9); DS57 3\"\" 07\u{b};L0001;W301 -0308 16777215 378=K-49 49\r\n=[-63 39146835 308 315J\n\u{1b}98@;/L9Z\u{7f};B287:V16777215 -5592406 301; P385@-420 000000000000000000000000000000273 100000000\0`#39146835 301;LQ7.;DF;E" 7 92)  -- random 8
    ∷ accepted_in 65536 "DS 3 ;LQ7;P-0[0 0{~'-9 -484 -0013;((-\0a)a\n\n DF;)+\t;(\0;DF  -EE-) ;'(9 \nDF;9 ) ; R1 -0 0;DF;L9Z;E" 0 0 0 "E\n"  -- random 9
    ∷ accepted_in 65536 "DS 114 16777215 16777215;DF';C114T-221 -438; E" 0 1 0 "E\n"  -- random 10
    ∷ accepted_in 65536 "L CM;(a\n-) ;\r\n=E " 0 0 0 "E\n"  -- random 12
    ∷ accepted_in 65536 "DS114 1 1;L0;W 16777215 -6 0 0 -16777215  0 -2; (E\0;\n;());(9 9);DF; 36E99999999999;LZZZZ;DS5 1 100;LND;C114MYMYMYR 1 0;LABCD;DF; R1 0 7;C5+R_0 -1MXT5U0;E" 2 2 0 "LZZZZ;\nR1 0 7;\nL0;\nW16777215 5 6 -16777210 0 3 0;\nE\n"  -- random 14
    ∷ accepted_in 65536 "DS2 16777215 1;DF; E" 0 0 0 "E\n"  -- random 15
    ∷ accepted_in 3 "LNM;DS3 1 16777215;~L9Z ;;(E\0E\n-a9\n);(());DF ;~L9Z;E" 0 0 0 "E\n"  -- random 16
    ∷ refused_in 65536 "LZZZZ;DS16777215 100 1;LND;B5#5 167774 7 1J0;(E;);B226 175 -7 -64; DF;D S1;LND; ; L Q7;L 0001;409 \n-;( ;-9 9(;E\n);) ;DF ;L9Z;L CM;C16777215T0 -000/\"*R1 0T-21 -174T-149\0247;E" 6 32  -- random 17
    ∷ accepted_in 65536 "DS5 ;[#LNP ;(\n\0 DFDF\nE\n ):+:;(\n\0(9));.,P-461 X=0 0 0 0 9; D F;E" 0 0 0 "E\n"  -- random 18
    ∷ accepted_in 65536 "LNM; DS5;LNM;DF;W1 4B0 4 0 ; C5T7 -248MXMYT0 -248; E" 1 1 0 "LNM;\nW1 4 0 4 0;\nE\n"  -- random 20
    ∷ refused_in 0 " ();E " 18 0  -- random 21
    ∷ in_calls (147 ∷ []) (refused_in 65536 "D\0+S57 16777215 16777215oo;46 (999999999999a99999999999;L\tABCD;B7 9 0 0 0 17;LZZZZ ;B5 1 0 -16777215 1 0; (\0(;9 ));DF;;DS3 07 3;L.CM;64\n;C57; DF ; C57T00192 -191T7 0;\u{7f}_\0E" 20 84)  -- random 22
    ∷ accepted_in 2 "DD3;DS2 3 2;DF;C2 T-92 22MXR0 1R0 -7;C2R0 -7R0 -7MX MY;C2;E" 0 3 0 "E\n"  -- random 24
    ∷ on_line 2 116 (refused_in 65536 "L A; D,^S7 3 7;L9Z;B7 7 -252 6 -2_-000a; (;\n;(DF aDF));DF ;aD@S57;; L 0;\u{1b}LNM ;();; C7aMY=T181 -105;DF ; R6 -1 000000000499 ;DS4\t16777215 1;L0;95;C00000000057;R389 0 1={;DF;C7 R-0 1\"MY;C4;E " 6 159)  -- random 25
    ∷ on_line 3 4 (refused_in 0 " DS16777215 1T#.100;\0;LCM;W224 -7 247; (() Ea- -\0\n ());DF;DS3 2 1 ;LNP;C16777215T-8388607 04;B 6 200 114\t-393;;B7 1 -126 00473 -000 16777215;C16777215R0 -2T@\r\nP0 8388609R16777215 0 MY;DF ;ooDS 9; LCM;BaY1 8 1 -16777215 -1000 0;C3;R 1 0B2;W0000000000000000000000000000006J0 -16777215 -236 0 225 7 ; B6 5 159 8;D+F:;LNP;DS7,16777215 1;:L0;DF;@C3T-2 -35;C9T453 0R-000 16777215R-1 0 ;E[" 6 162)  -- random 26
    ∷ refused_in 65536 "DD4;LB1;P-46 -34 -46 0 0 -34;DS3 1 1;LC2;P23 40 23 0 0 40;C2 T47 88;W7 29 -10 -10 29;P-17 38 -17 0 0 38;LD;B75 13 30 41 0 1;B23 59 -26 22 0 1;DF;DD3;C4 R0 1;DS5;DF;DS0;LC2;C5;DF;C5;DS4 5 3;C0;LC2;P-7 -15 -7 0 0 -15;B35 79 -23 19 -2 0;DF;DS3;LD;P23 -19 23 0 0 -19;DF;DD0;E" 12 149  -- random 27
    ∷ accepted_in 3 ",/*LA ; E" 0 0 0 "E\n"  -- random 28
    ∷ accepted_in 65536 "DS16777215;L9Z;(DF-(\n\n (;))); D F;L0 ;CooPa16777215;E" 0 1 0 "E\n"  -- random 30
    ∷ []

pub hold-8 : Each Holds rows-8
unfolding all_hold rows-8
hold-8 = each rows-8 tt

pub rows-9 : List Row
rows-9 =
    refused_in 0 "D S3;LNP;L ND;R5 0 -16777214 ;(\0());D#F;L ZZZZ;LNM ;DS1 100 1 ;/;L A;C3MXT0 4T-7 8 MY;C3T176 0R1 0T0 3;D=,,F;C3 aT0 -0 MX;^E" 18 0  -- random 31
    ∷ accepted_in 26 "=L0001;DS114;D~F ;R113 -222 -170 ;C114MY;E " 1 1 0 "L0001;\nR113 -222 -170;\nE\n"  -- random 32
    ∷ accepted_in 16 "[  @LNM;W1 0 0; DS9;D @F;DS7; DF;C9T-000 -333 TQ^3L-4; E" 1 1 0 "LNM;\nW1 0 0;\nE\n"  -- random 33
    ∷ refused_in 2 "DD3;\r\nLC2;B26 56 4 36 -2 0;\n\nDS0 3 2;DF;C0 R-1 0;\n  C0 R0 -7;\r\nDS0 2 1;\r\nDF;DD2;DS900;\n  LD;P15 -29 15 0 0 -29;\n\nDF;\nDS0;LB1;B50 1 -1 50 -2 0;DF;\nC0MX;DD2;\n\nDS0 1 1;\nLE4;\nC2R-1 0 T89 -51;C0;\n\nC0 MY MY;LC2;R3 50 29;;\r\nDF;LC2;\n  R6 11 4;R2 9 -35;\n\nDS0;\n  LE4;\n  B67 45 -36 -44 0 -3;\r\nLC2;\r\nDF;\r\nDS0 3 2;\r\nLD;\nB86 8 20 -6;B51 78 48 -29;LD;\r\nDF;DS900;LD;P-23 -27 -23 0 0 -27;;LA;P27 -14 27 0 0 -14;\n  DF;E" 18 0  -- random 34
    ∷ accepted_in 65536 "DS1;LC2;\nR7 40 31;\n\nDF;DS5 1 1;\n\nLD;\n  B33 69 -4 -46 -2 0;C2 T66 -26;\nDF;C1MX R-1 0;C1 T50 -38T67 47;C1R0 1 MYR-1 0R-1 0;\r\nC1;DS5 2 1;LD;B36 56 -12 2 0 -3;LE4;R3 -4 -27;C4 MX;W9 11 13 13 11;DF;\nDS2;C1MY T-4 88;\r\nC1R-1 0;DF;DD2;LA;\nB44 65 27 3;C1MX MX T39 71MY;\nLA;B36 28 -12 38 3 -4;E" 7 5 1 "LC2;\nR7 40 -31;\nR7 157 40;\nR7 -31 -40;\nR7 40 31;\nLA;\nB44 65 27 3 1 0;\nLC2;\nR7 79 -102;\nLA;\nB36 28 -12 38 3 -4;\nE\n"  -- random 35
    ∷ refused_in 2 "DS1 5 3;LA;B30 19 43 -13 1 1;C5MY MXR0 1 R0 -7;B85 97 38 33;B28 15 -22 43;R8 -18 -38;DF;DS1 1 1;C0R-1 0;LB1;B52 39 -3 -23;DF;DS2;LD;B84 32 3 -19 3 -4;W9 17 -21 -21 17;(x;);W9 36 4 4 36;LA;B22 80 -48 0 -2 0;DF;LC2;W9 -35 0 0 -35;DS1 2 1;LB1;B32 49 1 3 -2 0;C0 R-1 0;C0;C4 R0 1;R8 16 18;DF;C2;DS3 3 2;DF;E" 18 0  -- random 36
    ∷ accepted_in 2 "DS114; LA;L0;B 245'123 -1 -395; R8 -487 -16777215;(DF( DFE;E9\n9 ));(\0;-());DF ;LCM; E " 0 0 0 "E\n"  -- random 37
    ∷ rounded_in 45 "L0001;DS3ooM100 1; L9Z ;DF;DS16777215 1 16777215;LND ; R16777215 0 195;P0 0 3 0 0 0 56:4 0oo0 ; R16777215 0 0;DF;C3MY;\n\"C 16777215 T-000 1 ; E" 3 2 0 4 "LND;\nR1 0 1;\nP0 1 0 1 0 1 0 1 0 1;\nR1 0 1;\nE\n"  -- random 38
    ∷ refused_in 2 "DS0;#;LZZZZ; Wa{:1 144 68 7 -370 0 1;DF;C0;E" 18 0  -- random 39
    ∷ accepted_in 65536 "DS2 16777215 1 ; \u{7f}=LA\t*;(  \0(9));LZZZZ; ;(-DFaaa9a)xyz; LCM;DF;DS5 16777215 16777215;@L\r\n0001;C2;DF; L0001;C5MXT-5 -3 MX MY;D S9 50a@B2;L0;C2T-497 -190T 671088 0MYT0 -191;C5T-425 -204 ;DF;C2; C9MX;E\0'." 0 7 0 "E\n"  -- random 40
    ∷ accepted_in 65536 "L NM;E" 0 0 0 "E\n"  -- random 41
    ∷ rounded_in 4096 "D SG4 1 16777215; (\0\n 9a-) ;L 0001;(a ;\n\n-(\0)) ;LZZZZ/;Pa0 5 0 3 0 115;R16777215 0 -16777215;DF;L0;C4M=\u{b}Y;E" 2 1 0 3 "LZZZZ;\nP0 0 0 0 0 0;\nR1 0 1;\nE\n"  -- random 42
    ∷ rounded_in 38 " D S4 2 1 ;DF;D\u{7f},\"S0 1 2;L NM;;(\09\n\nE(E;)); LCM;B   2 16777215 -2 0 -1000 0;B2 16777215`82 -16777215 1000 0;DF;LNM;D@S0;L CM;(aa9-a);B9 1 0 1J16777215 -16777215 ;DF;P7 421 0 000 320 0 0 326 209 4;C4 M\n XR-0 -50T-188 8;E" 1 1 1 3 "LNM;\nP7 421 0 0 320 0 0 326 209 4;\nE\n"  -- random 43
    ∷ refused_in 85 "DS1;C0;;LA;W2 31 11 11 31;LB1;B67 75 -9 35 0 -3;LB1;R8 11 -26;LB1;B87 92 -23 28 1 0;DF;DS3 1 1;LA;W8 25 25 25 25;DF;DS1 1 1;LA;B44 5 -14 -37;LD;W2 12 -8 -8 12;C0 T-72 -91;DF;DS4;LA;P43 48 43 0 0 48;P-13 18 -13 0 0 18;C3MX;DF;DS1;DF;C4 R-1 0MX;DS2;LA;B49 84 -50 -37;C0 MY;LB1;P19 -9 19 0 0 -9;DF;DS5 3 2;C4 MY R-1 0R0 -7 R0 -7;C0;LC2;R8 37 -19;DF;LA;B80 58 8 -31;E" 18 0  -- random 44
    ∷ refused_in 638 "DS552;LZZZZ ; C\u{b}628;C628 MY ;B1 1D0E1034 1 0;DF;\u{7f}= DS160; LNM;W12177 0 8450 -104 14208 -10078 -5;C\" 640T-142 570MYROoo-16777215 0 ;W{#294 -389 0 -344 10272 0398 -236;C640T-3 397\u{b}R-1R\r\n\u{1b}0MY;DF\"\0,;DS640 ;LND;B7243 1 1 -7689;DF;DS51;L NP/~a; C777\u{7f}*;DF;DS628;L 0001;C/00160;DF.oo:;[\u{1b}DS640;LND\t;B7243 1 1 -7689;DF ;DS777;LNP\u{b} a;C552TJ-633 -873MY;B1 289 -6 -000 -17 -0;`C552~; DF;C51;DD494;E" 18 0  -- random 45
    ∷ refused_in 1 "DSU1;LNP;DF;C1MXMYR0 16777215M Y;E" 18 0  -- random 47
    ∷ accepted_in 4096 "L\u{7f}NP;E" 0 0 0 "E\n"  -- random 48
    ∷ accepted_in 19 "DSZ4 1 1;[ [LABCD\u{7f}; DF;LNP;LNM;R284 0 95;21aDFaEa;E" 1 0 0 "LNM;\nR284 0 95;\nE\n"  -- random 49
    ∷ rounded_in 4096 "DS3 3 2;LE4;R2 31 -50;C1 R0 1;B9 86 -20 -5 0 -3;DF;DS16777214;LD;R8 46 27;B26 47 15 45;R6 -29 4;DF;C16777214MYR0 -7;C16777214MX;DD16777215;C16777214MYR-1 0;C16777214T-61 85MY;DS16777214 1 1;;DF;DD16777214;DS1;LA;B27 49 13 33;P23 10 23 0 0 10;DF;E" 12 4 1 3 "LD;\nR8 -27 -46;\nB26 47 -45 -15 0 -1;\nR6 -4 29;\nR8 -46 27;\nB26 47 -15 45 -1 0;\nR6 29 4;\nR8 -46 27;\nB26 47 -15 45 -1 0;\nR6 29 4;\nR8 -15 -112;\nB26 47 -46 -130 1 0;\nR6 -90 -89;\nE\n"  -- random 50
    ∷ accepted_in 2 "(\0-(E(-\0\na\nE)));DS114 16777215 16777215;LCM;DF; D`S 9;L0 ;DF.;DS16777215 100 1;L0001;;93E\n); B1 47Z00 0;D F;1299999999999\naEDF;C 114; E " 0 1 0 "E\n"  -- random 51
    ∷ []

pub hold-9 : Each Holds rows-9
unfolding all_hold rows-9
hold-9 = each rows-9 tt

pub rows-10 : List Row
rows-10 =
    refused_in 2 "*\u{7f}*DS7';L0001;LND; ( DF\n);DF;\t;oo*L NP;DS57; L0001;R1~\u{7f}@0 0;W\u{b}@9 -289 0 0 476 -4 -453;C7R0 2MXT0 0#\u{1b}TG0 -5;DF;(()());DS1;LA; C@7 R1 0;C57R-0 -2;W69 161 416M-0 -00000000000000000000000000000016777214;DF ;C7R0 0000000001T-3 4;C1R 0 -1;E " 18 0  -- random 52
    ∷ accepted_in 2 "E" 0 0 0 "E\n"  -- random 53
    ∷ accepted_in 65536 "DS 3 2 1;LQ7 ; DF;~\u{b}_L9Z;2199999999999DF; C3 MY;E" 0 1 0 "E\n"  -- random 54
    ∷ accepted_in 65536 ". DS5 4 6;7)9DFa;DF; LA;`#,P0 0 -1 -7 -244 -5 447 203 0 7;C5MXTV[8 476T-3 -3oo#{MY;E " 1 1 0 "LA;\nP0 0 -1 -7 -244 -5 447 203 0 7;\nE\n"  -- random 55
    ∷ accepted_in 4096 "DS1 1 1;L9Z\r\n+;R16777213 -1 0; P340 0 0 -000 -492 0 ; B 1 1 -1 -139 0 1000;+ aDF;;`'DS^00114;LA ;W1 0 21 0 146 0 -354;\0{L9Z\n  \0;B 6 422 -3 -6 0 1;D F;C1;@E" 3 1 0 "L9Z;\nR16777213 -1 0;\nP340 0 0 0 -492 0;\nB1 1 -1 -139 0 1000;\nE\n"  -- random 56
    ∷ accepted_in 2 "':^DS2;LA; R341 -0410 -4\0\u{1b}.;\u{b}(\09DF;());P-143 422=0  -9 -474 0;R1 1 332 ;P0 0 -8 3 136 6 0 9 0 -55;DF; E" 0 0 0 "E\n"  -- random 57
    ∷ accepted_in 3 "L0001;E" 0 0 0 "E\n"  -- random 58
    ∷ accepted_in 4096 " DS7;L ABCD ;96-)a-;P418 6 0  8 3 65 0 -3;B1 16777213 418 5;B2 108 -9 339{;LABCD;DF;L A;C7T-0 7T-5 -447R 0 2T\u{1b}'E7 198;E " 3 1 0 "LABCD;\nP441 611 439 193 382 196 450 193;\nB1 16777213 442 611 0 1;\nB2 108 108 184 0 1;\nE\n"  -- random 59
    ∷ accepted_in 65536 "DS8 2 1;DF;C8T11 52R0 1 R-1 0 R-1 0;C8 T2 -29;C8;E" 0 3 0 "E\n"  -- random 60
    ∷ accepted_in 3 "D S2 50  2;26 --) ;LABCD;B1 8 9 256 -1 0;DF; DS2 16777215 16777215; LNM;;( \n9a);B1 9 0XP1 1 0;DF;DS57*100 1 ; LND; 52; C 2MXR-16777215 0;L 0001; DF ; DS57 4 6;LABCD; L0001#xyz#;DF\u{1b}\u{7f};C57;E" 0 1 2 "E\n"  -- random 61
    ∷ refused_in 52 "L9Z;R3022 2 -17509 ; DS5;LA;( );DF;B 328 1 0 0 1000 0;C5T-466 2T-0 -10241;DS9 1 2;L0001 ;B100 90 -52 -20 -8 -5; (;);C5T106 2MY;P 110 -90 80 80 -46 -80 88 28 ;C5MYM XMY;DF;R1 -1 366 ;DS16777215;L0001;W 3 14634 -8 -316 9744 -12632 2;DF;DD16777215;E " 18 0  -- random 62
    ∷ accepted_in 2 "DS2;a ;DF; DS\t \u{7f}57; LND;DF;C2T0 0;^\n\nC57;aE" 0 2 0 "E\n"  -- random 64
    ∷ accepted_in 44 "D S16777215 50 2;L ND;R58 -86 54;DF ;LA;C16777215MY;C16777215M XMYT9 5; 969;E" 2 2 0 "LND;\nR1450 -2150 -1350;\nR1450 2159 -1345;\nE\n"  -- random 65
    ∷ accepted_in 3 " DS4 16777215 16777215;\u{1b}/{LA; (\na;99EE 9\n;);\"B1/\u{7f}434 -2 -4 7 -8;R95 7 0;(\0;9aE\n 9\nDFa ) ;LNM;DF;E" 0 0 0 "E\n"  -- random 66
    ∷ accepted_in 65536 "L A;Exyz\u{b}" 0 0 0 "E\n"  -- random 67
    ∷ rounded_in 65536 "DS2 ; (((\0 -Ea EDF)));DF;DS3 16777215 16777215;LND; W1 0 -9 -178 20 0 268 16777215 0 0^-0;\u{7f}xyz\tR1 0000000000 -4;C2T-222 16777214MX;R1 460 0 ; C2;DF;DS0 1 16777215;LA;W16777215 -86 0 0 -000;;W\"16777215 -56 3 -2 192 -2 0 ; DF;C2T-8 -5TU\":1 -368 T0 334;C3 MYMYMY;C0MXR0 -16777215;E" 5 5 0 6 "LND;\nW1 0 9 -178 -20 0 -268 16777215 0 0 0;\nR1 0 4;\nR1 460 0;\nLA;\nW1 0 0 0 0;\nW1 0 0 0 0 0 0;\nE\n"  -- random 68
    ∷ on_line 3 12 (refused_in 65536 "\n\u{1b}D S2 16777215 1;DF;L\u{7f}*A\t;*W001 0A19490;D\tD8; L[ooND;[La=ooCM  \u{b}a;B1,0000000001\u{b}\u{1b}417 -7 4 -7 ;R 5\r\n 0 DF-9;D\"_F;DS0 ;CX 2`/:R0 -1T6211 0T62 0MX;LQ7'xyz:;W3 -000000000000000000000000000000216 0 ;L CM;L\u{7f}*A\t;D F  `;*:/() \r\n=; E" 2 111)  -- random 69
    ∷ accepted_in 65536 "DS5 1 16777215;DF;D^S114; DF;LABCD ;R121 -0 -8 ;C114M Yxyz`*;E" 1 1 0 "LABCD;\nR121 0 -8;\nE\n"  -- random 70
    ∷ accepted_in 65536 "L 0 ;DS0;# ;L0001;\r\n= (a (\n);;\nE9-\n);(\na\nDF);B1 9\r\n276 0;R438 -382 0;DF;E" 0 0 0 "E\n"  -- random 71
    ∷ rounded_in 65536 "DS1 5 3;C5R0 1;LC2;B97 33 -6 3;P12 -22 12 0 0 -22;DF;DS1;LB1;R6 35 -19;B34 52 3 -5 0 -3;DF;DS900 2 1;LD;R9 2 -28;C1 R0 -7;C5R0 -7;DF;DS16777215 1 1;LB1;B64 13 42 -33;W3 23 -26 -26 23;DF;DS16777215 1 1;(x;);C1 T-90 -93 R0 -7;C1MY;LD;R9 -42 -49;DF;DD5;LB1;W6 -24 40 40 -24;DS5 5 3;DF;DS16777215;LB1;B73 18 0 38 0 1;DF;DD16777215;C5 MY;DS1;LD;B24 5 -10 -41 1 0;C1;DF;DS16777215 5 3;LD;B55 82 35 7 3 -4;LE4;B55 53 -29 -6 0 -3;DF;C16777215 R0 1T19 -16MYR0 1;DS5 1 1;9u C1;LA;P21 35 21 0 0 35;B36 11 -24 16 0 -3;DF;DS1 5 3;;LE4;R5 -38 -8;LE4;R3 23 29;B17 8 32 18 0 -3;P48 -6 48 0 0 -6;LC2;R5 10 -43;DF;B82 93 -10 -5 0 1;C16777215;DS16777215 1 1;LB1;B3 42 -7 -47 3 -4;B4 1 35 24 0 -3;DF;DS1;DF;C1;C5;C16777215;E" 10 6 7 21 "LB1;\nW6 -24 40 40 -24;\nLD;\nB92 137 42 7 3 4;\nLE4;\nB92 88 -64 29 0 3;\nLB1;\nB82 93 -10 -5 0 1;\nLD;\nB92 137 58 12 3 -4;\nLE4;\nB92 88 -48 -10 0 -3;\nLA;\nP21 35 21 0 0 35;\nB36 11 -24 16 0 -3;\nLB1;\nB3 42 -7 -47 3 -4;\nB4 1 35 24 0 -3;\nE\n"  -- random 72
    ∷ []

pub hold-10 : Each Holds rows-10
unfolding all_hold rows-10
hold-10 = each rows-10 tt

pub rows-11 : List Row
rows-11 =
    accepted_in 2 "\n:,D@~\nS*xyz1 4Y0000000006_*;{.LCM/\n ;PH\0\t-000000000000000000000000000000336\u{7f}-000000000000000000000000000000198\u{7f}-06 000000000264/210`-000000000000000000000000000000180@00000000048*'-108\00222O12xyz\u{1b}[;ooC2M+X@T132{00270[;D^F*  ;=D_.aS4a0000000000000000000000000000001 2[_^;:\n*L\tND\t;{BO#030\u{7f}74PR70,'~-98 ^;.\u{7f}.R=92oo\t\n-18oo-104~^\u{b};xyzLoo@:0xyz;=_Doo{^F\r\n;/DxyzS\nK0000000000000000000000000000005\"_`;~'^L \0 NP#;/W  \t  16777215^O-1081oo[I2 000000000000000000000000000000161C-383;LxyzNP[\u{b}=;[D^\tFxyz;[D SNxyz+114;+\0:L:_ZZZZ;D{^ F+oo\u{1b};\tD,S3[`16777215G001;\t\r\n\"86-a;.*L,0001;\n\u{7f}(E9 -)\u{7f};/D:'F  `[;'E\n*" 0 0 0 "E\n"  -- random 73
    ∷ refused_in 0 "DS1/2 1;L ND ;((a;)DF;9\n9a);B5 452 394 0 -0 2;W 1 66 '\t-338 0 0 0 0=-2 140 -3 5;DF;DS114 1/M2; L+A{=;L0;();DF;LQ7;Doooo_S1 {\t;L0;(E9DFDF\n-DF); ;`DF;E" 18 0  -- random 74
    ∷ accepted_in 65536 "LCM;B16777214 5 -0 5585;E" 1 0 0 "LCM;\nB16777214 5 0 5585 1 0;\nE\n"  -- random 77
    ∷ on_line 4 43 (refused_in 2 "DSZ\r\n2;DF;L0001;DS114 7 3;L*,ND; DF;DSWN{4;L9Z;DF;DS3 100\r\n1;~L0;C 114R0 -1T-4 -9; DF ;D\r\n{*S 114 16777215 1; LCM;(aDFE9\0(9));LCM; R148 0 -381;D   F;C2MY R0 2*T230 -9MX #;C114 R0U-1 MYMaX;~xyzC3;E" 6 132)  -- random 78
    ∷ rounded_in 3 "DS 0KG.3\t7;L0;L 0 ;WR3 0 -442 -7 0 0 -8 0 203 0 7oo;R 329\u{7f}-0 -2;DaF; D:[:S5; ;LZZZZ;L9Z;DF.;LNP;C5;E " 0 1 0 4 "E\n"  -- random 81
    ∷ accepted_in 65536 "LA;P 0 0 -159[-334 0 -0;\u{7f}P0 -2 226 -0 6 0;D~ ooS0;L NM ;(--  DF);(\n-a -E);(a;a;E-\0- \09);49 a-E)a;81E)-;DF; DS\u{7f}\t4 ; 549a; LABCD;85 99999999999;C\"0M`oo{Y;LA ;R148 0 336;DF;R1 -170 482;C0MYMXT-229 0;C4 M Y /M,YR-2 0_T-6 5 ;E" 4 3 0 "LA;\nP0 0 -159 -334 0 0;\nP0 -2 226 0 6 0;\nR1 -170 482;\nR148 -6 -331;\nE\n"  -- random 82
    ∷ refused_in 30 "DS7 ;LNM ; DF;DS0 1 100; LNM;R100 1 422;C7R-0 16777215MXMYT0 3;DF ;LA;+\0P-3 -288 0 -489 0 2 -000 3;LNM ;`_,C7MY;E" 18 0  -- random 83
    ∷ refused_in 1 "D+*S 5 ; ;LCM;LCM;L 9Z;DF ; L0001oo;C5M  YR-0 -1T4 2 ;E" 18 0  -- random 84
    ∷ accepted_in 65536 "LCM;DS\nxyz0;L,NM;(E DF(;DF));R486 -2_1; DF ;aL\u{b}NP\r\n*,;R1 -4 1;D\u{1b}S114;DF; D S[16777215; L0001;C114MX ;R1 172 -182;D F;C0MXT-0 338;C114 R0 1R0 1T-170 0R0 1; C16777215T-432 0M X;E" 3 4 0 "LNP;\nR1 -4 1;\nLNM;\nR486 2 339;\nL0001;\nR1 260 -182;\nE\n"  -- random 86
    ∷ accepted_in 65536 "`\u{7f}199999999999999999999999a)a; D S2 1 1;LNDoo;B5 81 0 206 0   -1\"  /;DF; C2MX\u{b}T -5 3R0 -1MX;E" 1 1 0 "LND;\nB5 81 -209 5 1 0;\nE\n"  -- random 87
    ∷ accepted_in 65536 "DS16777215;L 9Z;(a;E--\n99 DFEa);W 000000000000000000000000000000125  290 0 0 -353 0 7 0 0 -252 -184;D  F;LA;DS9;L0; #\u{1b}R1 -000 0 ;C16777215R-50 0;C16777215MY T-000 -477R 1 0MY ;DF;8899999999999DFDF; C9; E" 3 3 0 "L0;\nR1 0 0;\nL9Z;\nW125 -290 0 0 353 0 -7 0 0 252 184;\nW125 290 477 0 124 0 484 0 477 -252 293;\nE\n"  -- random 88
    ∷ accepted_in 2 " DS2; L\u{1b}NP ; DF;LNP;DS57 100 1;LCM ;R36 0 8;B38 167771 0 -1 -1 0 ;B1 1 0 0000000000000000000000000000008;DF;60-\n9 9;C2^;E" 0 1 0 "E\n"  -- random 89
    ∷ accepted_in 2 "L9Z;( \n(E;E));E" 0 0 0 "E\n"  -- random 90
    ∷ accepted_in 65536 " DS9 ; LND; P-7 09 -406 3 203 -0 -16777213 8`[D0 401;W218 0 0 -000 -248 -1 000000000149;69\n()EEa;R2 0 -5;09E;DF;E" 0 0 0 "E\n"  -- random 91
    ∷ accepted_in 65536 "L ABCD;D{ \u{1b}S0; L 0; LABCD;(\09(DF\n));(\0-E-a-()) ;R1 5 0;(-DFDF\0\n \na) ;DF;C0T144 318M~\t_Y ;W167 47 498 397 0 -4 0;C0MYT 7 311T-140 -490';.\n`C0;E" 4 3 0 "LABCD;\nR1 149 -318;\nW167 47 498 397 0 -4 0;\nR1 -128 -179;\nR1 5 0;\nE\n"  -- random 92
    ∷ rounded_in 65536 "aLNP; D S4 1 100;LZZZZ;R207\t0 -5a ';DF;DS0;L NP;R9 -0 -6;DF;B112Q1\t-82 -146 2 -6;DS0;LNP;W1 -474 374;DF;C4 ;C0T-26 000; E" 3 2 1 2 "LNP;\nB112 1 -82 -146 2 -6;\nLZZZZ;\nR2 0 0;\nLNP;\nW1 -500 374;\nE\n"  -- random 93
    ∷ refused_in 2 "LNP ;DS57; DF;DS9 1.1;;LND;L 0001 ; LNP; B1 159 -457 -3;C 57M Y;DF ;DS2; LZZZZ ; C57T-8 9MY ;L0001; W 1 -2 0 -6\u{7f}0 152 0;\0DF;DS9 7 3;53DFE;LABCD;R2\n{^00 -415;DF ;C57T0 -161 ;`+C9;C2T0 -180; E" 18 0  -- random 94
    ∷ rounded_in 65536 "DS9 1 16777215@\";DF;LZZZZ;DS16777215 1 2;L 0 ;L0001;B\"**2 2 0 8 0 -2;C9 R 16777215 -0T-6 349R-16777215 0;C9;RW/2 05 35/_;D F;C9;C 16777215;E" 2 4 0 3 "L0001;\nB1 1 0 4 0 -2;\nR1 3 18;\nE\n"  -- random 97
    ∷ refused_in 0 " L9Z;;R*1 0W-42*\t ;24  \u{1a}a;C1;_D@,\u{1b}S0,__1¬6777215\u{7f}S1¶777215;DF;`=B000 0 7C-6\0;,   E\n" 2 40  -- random 98
    ∷ accepted_in 65536 "9a;(-\0;a-) ;DS2 16777215 1oo=;L0001;;DF,\u{7f}; C2T0 0T_+0\n 0T0 -381;E" 0 1 0 "E\n"  -- random 99
    ∷ []

pub hold-11 : Each Holds rows-11
unfolding all_hold rows-11
hold-11 = each rows-11 tt
