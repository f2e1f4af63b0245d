-- The vectors of tests/coming/p11.tsv that ask why a shape is there, made into rows by tools/vectors.py: answers that were worked out apart from the definitions.
-- A trailing comment is the vector's name. They stand in batches, so that a row that does not compute is found.
-- Assumes nothing.
use mathlib.Core.List.{List, [], ◌∷◌}
use Rattle.definition.proofs.Rows.{Each}
use Rattle.definition.proofs.Whys.{Pointed, shown, not_shown, none_there, Shown, all_shown, each_shown}

pub rows-1 : List Pointed
rows-1 =
    none_there "LA;R1 0 0;R1 0 0;E" 0  -- both sides 0
    ∷ shown "LA;R1 0 0;R1 0 0;E" 2 10 "1 0 0 1 0 0" []  -- both sides 1
    ∷ not_shown "LA;R1 0 0;C1;E" 0 12 10 1 11 []  -- both sides 2
    ∷ shown "\nLA;R1 0 0; W2 1 1;E" 1 4 "1 0 0 1 0 0" []  -- outside
    ∷ shown "DS1;LA;R1 3 5;DF;C1T10 -20;E" 1 7 "1 0 0 1 10 -20" (17 ∷ [])  -- one call
    ∷ none_there "DS1;LA;R1 3 5;DF;C1T10 -20;E" 4  -- one call
    ∷ none_there "DS1;LA;R1 3 5;DF;C1T10 -20;E" 5  -- one call
    ∷ none_there "DS1;LA;R1 3 5;DF;C1T10 -20;E" 1048576  -- one call
    ∷ none_there "DS1;LA;R1 3 5;DF;C1T10 -20;E" 4294967295  -- one call
    ∷ none_there "DS1;LA;R1 3 5;DF;DS2;C1R0 1;DF;LA;R9 0 0;C2T10 0;C1MX;E" 4  -- two levels
    ∷ none_there "DS1;LA;R1 3 5;DF;DS2;C1T1 1;C1MX;DF;C2;C2R0 1T7 0;E" 0  -- one shape drawn four times
    ∷ shown "DS1;LA;R1 3 5;DF;DS2;C1T1 1;C1MX;DF;C2;C2R0 1T7 0;E" 3 7 "0 -1 1 0 6 1" (39 ∷ 21 ∷ [])  -- one shape drawn four times
    ∷ none_there "DS1;LA;R1 3 5;DF;DS2;C1T1 1;C1MX;DF;C2;C2R0 1T7 0;E" 5  -- one shape drawn four times
    ∷ none_there "DS1;LA;R1 3 5;DF;DS2;C1T1 1;C1MX;DF;C2;C2R0 1T7 0;E" 6  -- one shape drawn four times
    ∷ none_there "DS1;LA;R1 3 5;DF;DS2;C1T1 1;C1MX;DF;C2;C2R0 1T7 0;E" 1048576  -- one shape drawn four times
    ∷ shown "DS1;LA;R1 0 0;DF;DS2;LB;R2 0 0;C1;R3 0 0;C1MY;R4 0 0;DF;LC;R5 0 0;C2T1 2;R6 0 0;E" 2 24 "1 0 0 1 1 2" (66 ∷ [])  -- shapes before, between and after calls
    ∷ shown "DS1;LA;R1 0 0;DF;DS2;LB;R2 0 0;C1;R3 0 0;C1MY;R4 0 0;DF;LC;R5 0 0;C2T1 2;R6 0 0;E" 4 34 "1 0 0 1 1 2" (66 ∷ [])  -- shapes before, between and after calls
    ∷ shown "DS1;LA;R1 0 0;DF;DS2;LB;R2 0 0;C1;R3 0 0;C1MY;R4 0 0;DF;LC;R5 0 0;C2T1 2;R6 0 0;E" 5 7 "1 0 0 -1 1 2" (66 ∷ 41 ∷ [])  -- shapes before, between and after calls
    ∷ none_there "DS1;LA;R1 0 0;DF;DS2;LB;R2 0 0;C1;R3 0 0;C1MY;R4 0 0;DF;LC;R5 0 0;C2T1 2;R6 0 0;E" 4294967295  -- shapes before, between and after calls
    ∷ shown "DS1;LA;R1 0 0;DF;C1;DS1;LA;R2 0 0;W1 0 0;DF;C1T5 5;E" 1 7 "1 0 0 1 0 0" (17 ∷ [])  -- a symbol redefined between
    ∷ []

pub told-1 : Each Shown rows-1
unfolding all_shown rows-1
told-1 = each_shown rows-1 tt

pub rows-2 : List Pointed
rows-2 =
    shown "DS1;LA;R1 0 0;DF;C1;DS1;LA;R2 0 0;W1 0 0;DF;C1T5 5;E" 2 27 "1 0 0 1 5 5" (44 ∷ [])  -- a symbol redefined between
    ∷ shown "DS1;LA;R1 0 0;DF;C1;DS1;LA;R2 0 0;W1 0 0;DF;C1T5 5;E" 3 34 "1 0 0 1 5 5" (44 ∷ [])  -- a symbol redefined between
    ∷ none_there "DS1;LA;R1 0 0;DF;C1;DS1;LA;R2 0 0;W1 0 0;DF;C1T5 5;E" 4  -- a symbol redefined between
    ∷ none_there "DS1;LA;R1 0 0;DF;C1MX;DD0;E" 0  -- removed afterwards
    ∷ none_there "DS1;LA;R1 0 0;DF;C1MX;DD0;E" 1048576  -- removed afterwards
    ∷ shown "DS1;DF;C1;LA;R1 0 0;E" 1 13 "1 0 0 1 0 0" []  -- an empty symbol
    ∷ none_there "DS1;DF;C1;LA;R1 0 0;E" 5  -- an empty symbol
    ∷ none_there "DS1;DF;C1;LA;R1 0 0;E" 4294967295  -- an empty symbol
    ∷ none_there "E" 2  -- no shapes
    ∷ none_there "E" 4  -- no shapes
    ∷ none_there "E" 5  -- no shapes
    ∷ none_there "E" 4294967295  -- no shapes
    ∷ shown "DS1;LA;R1 -16777215 16777215;DF;DS2;C1T16777215 -16777215;DF;C2T16777215 -16777215;E" 1 7 "1 0 0 1 33554430 -33554430" (61 ∷ 36 ∷ [])  -- a translation far out of range, the point within
    ∷ none_there "DS1;LA;R1 -16777215 16777215;DF;DS2;C1T16777215 -16777215;DF;C2T16777215 -16777215;E" 2  -- a translation far out of range, the point within
    ∷ none_there "DS1;LA;R1 -16777215 16777215;DF;DS2;C1T16777215 -16777215;DF;C2T16777215 -16777215;E" 3  -- a translation far out of range, the point within
    ∷ none_there "DS1;LA;R1 -16777215 16777215;DF;DS2;C1T16777215 -16777215;DF;C2T16777215 -16777215;E" 4  -- a translation far out of range, the point within
    ∷ none_there "DS1;LA;R1 -16777215 16777215;DF;DS2;C1T16777215 -16777215;DF;C2T16777215 -16777215;E" 4294967295  -- a translation far out of range, the point within
    ∷ none_there "DS1 5 2;LA;R2 2 4;DF;DS2 3 1;C1T7 -9MXT1 0;DF;C2;E" 2  -- scaled
    ∷ none_there "DS1 5 2;LA;R2 2 4;DF;DS2 3 1;C1T7 -9MXT1 0;DF;C2;E" 4  -- scaled
    ∷ none_there "DS1 5 2;LA;R2 2 4;DF;DS2 3 1;C1T7 -9MXT1 0;DF;C2;E" 5  -- scaled
    ∷ []

pub told-2 : Each Shown rows-2
unfolding all_shown rows-2
told-2 = each_shown rows-2 tt

pub rows-3 : List Pointed
rows-3 =
    none_there "DS1 5 2;LA;R2 2 4;DF;DS2 3 1;C1T7 -9MXT1 0;DF;C2;E" 1048576  -- scaled
    ∷ none_there "DS1 1 2;LA;R3 1 -1;DF;DS2 1 2;C1T1 -1;DF;C2;E" 3  -- rounded
    ∷ none_there "DS1 1 2;LA;R3 1 -1;DF;DS2 1 2;C1T1 -1;DF;C2;E" 5  -- rounded
    ∷ not_shown "LA;R1 0 0;C1;E" 3 12 10 1 11 []  -- 12 behind the shape
    ∷ not_shown "LA;R1 0 0;C1;E" 4 12 10 1 11 []  -- 12 behind the shape
    ∷ not_shown "LA;R1 0 0;C1;E" 5 12 10 1 11 []  -- 12 behind the shape
    ∷ not_shown "LA;R1 0 0;C1;E" 4294967295 12 10 1 11 []  -- 12 behind the shape
    ∷ not_shown "LA;R1 0 0;DS1;\nC2;DF;C1;E" 0 12 15 2 1 (21 ∷ [])  -- 12 inside
    ∷ not_shown "LA;R1 0 0;DS1;\nC2;DF;C1;E" 3 12 15 2 1 (21 ∷ [])  -- 12 inside
    ∷ not_shown "LA;R1 0 0;DS1;\nC2;DF;C1;E" 4 12 15 2 1 (21 ∷ [])  -- 12 inside
    ∷ not_shown "DS1;LA;R1 1 0;DF;C1;C1T16777215 0;E" 4 16 7 1 8 (20 ∷ [])  -- 16
    ∷ not_shown "DS1;LA;R1 1 0;DF;C1;C1T16777215 0;E" 4294967295 16 7 1 8 (20 ∷ [])  -- 16
    ∷ not_shown "DS1;LA;R1 0 1;DF;C1;\nDS2;C1T0 16777215;DF;C2;E" 5 20 7 1 8 (42 ∷ 25 ∷ [])  -- 20
    ∷ not_shown "LA;R1 0 0;DS1;R1 0 0;DF;E" 1048576 8 14 1 15 []  -- 8
    ∷ not_shown "LA;R1 0 0;" 0 2 10 1 11 []  -- 2
    ∷ shown "(Everything; once);\n9 user text;\n;DS 3 2 1; LA; B 4 2 1 0; B 4 2 1 0 0 1; R 6 1 1; W 2 0 0 5 5; P 0 0 4 0 0 4; C 5 T 1 0 MX R 0 1;\n(inside); 7 inside; ; DF;\nDS 5; L BB; R 1 3 5; DF;\nDS 9; C 8; DF;\nC 3; L CC; W 1 0 0; C 3 MY T 10 -10; DD 9;\nDS 5; LZ; R 2 0 0; DF;\nC 5;\nE\n" 3 74 "1 0 0 1 0 0" (197 ∷ [])  -- everything
    ∷ shown "(Everything; once);\n9 user text;\n;DS 3 2 1; LA; B 4 2 1 0; B 4 2 1 0 0 1; R 6 1 1; W 2 0 0 5 5; P 0 0 4 0 0 4; C 5 T 1 0 MX R 0 1;\n(inside); 7 inside; ; DF;\nDS 5; L BB; R 1 3 5; DF;\nDS 9; C 8; DF;\nC 3; L CC; W 1 0 0; C 3 MY T 10 -10; DD 9;\nDS 5; LZ; R 2 0 0; DF;\nC 5;\nE\n" 5 96 "1 0 0 1 0 0" (197 ∷ [])  -- everything
    ∷ none_there "(Everything; once);\n9 user text;\n;DS 3 2 1; LA; B 4 2 1 0; B 4 2 1 0 0 1; R 6 1 1; W 2 0 0 5 5; P 0 0 4 0 0 4; C 5 T 1 0 MX R 0 1;\n(inside); 7 inside; ; DF;\nDS 5; L BB; R 1 3 5; DF;\nDS 9; C 8; DF;\nC 3; L CC; W 1 0 0; C 3 MY T 10 -10; DD 9;\nDS 5; LZ; R 2 0 0; DF;\nC 5;\nE\n" 4294967295  -- everything
    ∷ shown "DS1;LA;R1 3 5;DF;C1 R1 0;E" 1 7 "1 0 0 1 0 0" (17 ∷ [])  -- list R1 0
    ∷ shown "DS1;LA;R1 3 5;DF;C1 MX R0 1;E" 1 7 "0 -1 -1 0 0 0" (17 ∷ [])  -- list MX R0 1
    ∷ []

pub told-3 : Each Shown rows-3
unfolding all_shown rows-3
told-3 = each_shown rows-3 tt

pub rows-4 : List Pointed
rows-4 =
    shown "DS1;LA;R1 3 5;DF;C1 R0 1 MX;E" 1 7 "0 1 1 0 0 0" (17 ∷ [])  -- list R0 1 MX
    ∷ shown "DS1;LA;R1 3 5;DF;C1 MY R0 1;E" 1 7 "0 1 1 0 0 0" (17 ∷ [])  -- list MY R0 1
    ∷ shown "DS1;LA;R1 3 5;DF;C1 T10 20;E" 1 7 "1 0 0 1 10 20" (17 ∷ [])  -- list T10 20
    ∷ shown "DS1;LA;R1 3 5;DF;C1 R0 1 T10 20;E" 1 7 "0 -1 1 0 10 20" (17 ∷ [])  -- list R0 1 T10 20
    ∷ shown "DS1;LA;R1 3 5;DF;C1 R16777215 0;E" 1 7 "1 0 0 1 0 0" (17 ∷ [])  -- list R16777215 0
    ∷ shown "DS1;LA;R1 3 5;DF;C1 R0 -16777215 T-1 -1;E" 1 7 "0 1 -1 0 -1 -1" (17 ∷ [])  -- list R0 -16777215 T-1 -1
    ∷ shown "DS1;LA;R1 3 5;DF;C1 T-10 0 R0 -1 T0 -10;E" 1 7 "0 1 -1 0 0 0" (17 ∷ [])  -- list T-10 0 R0 -1 T0 -10
    ∷ shown "DS1;LA;R1 3 5;DF;DS2;C1 ;DF;C2 MX MY;E" 1 7 "-1 0 0 -1 0 0" (28 ∷ 21 ∷ [])  -- lists  and MX MY
    ∷ shown "DS1;LA;R1 3 5;DF;DS2;C1 MY;DF;C2 T10 20;E" 1 7 "1 0 0 -1 10 20" (30 ∷ 21 ∷ [])  -- lists MY and T10 20
    ∷ shown "DS1;LA;R1 3 5;DF;DS2;C1 R0 7 R0 9;DF;C2 R16777215 0;E" 1 7 "-1 0 0 -1 0 0" (37 ∷ 21 ∷ [])  -- lists R0 7 R0 9 and R16777215 0
    ∷ shown "DS1;LA;R1 3 5;DF;DS2;C1 T10 20;DF;C2 MY;E" 1 7 "1 0 0 -1 10 -20" (34 ∷ 21 ∷ [])  -- lists T10 20 and MY
    ∷ shown "DS1;LA;R1 3 5;DF;DS2;C1 T10 20 MX;DF;C2 R0 -1;E" 1 7 "0 1 1 0 20 10" (37 ∷ 21 ∷ [])  -- lists T10 20 MX and R0 -1
    ∷ shown "DS1;LA;R1 3 5;DF;DS2;C1 R0 1 T10 20;DF;C2 ;E" 1 7 "0 -1 1 0 10 20" (39 ∷ 21 ∷ [])  -- lists R0 1 T10 20 and
    ∷ not_shown "C1;E" 0 12 0 1 1 []  -- 26 after the reader's
    ∷ none_there " ; E " 1  -- refusal 2
    ∷ not_shown "E\u{80}" 1 2 1 1 2 []  -- refusal 2
    ∷ shown "LA;B1 2 3 4 -5 6;E" 1 3 "1 0 0 1 0 0" []  -- refusal 2
    ∷ not_shown "LA;R1 0 0 1;E" 1 2 10 1 11 []  -- refusal 2
    ∷ not_shown "LA;W1 2;E" 1 2 7 1 8 []  -- refusal 2
    ∷ none_there "LABCD;E" 1  -- refusal 2
    ∷ []

pub told-4 : Each Shown rows-4
unfolding all_shown rows-4
told-4 = each_shown rows-4 tt

pub rows-5 : List Pointed
rows-5 =
    none_there "DSX1;DF;E" 1  -- refusal 2
    ∷ not_shown "DS;DF;E" 1 2 2 1 3 []  -- refusal 2
    ∷ not_shown "C1T5;E" 1 2 4 1 5 []  -- refusal 2
    ∷ not_shown "C1T1 2 3;E" 1 2 7 1 8 []  -- refusal 2
    ∷ not_shown "LA;R1 99999999 0;E" 1 3 6 1 7 []  -- refusal 3
    ∷ shown "LA;R1 -00 0;E" 1 3 "1 0 0 1 0 0" []  -- refusal 3
    ∷ not_shown "LA;R1 0  X-16777216;E" 1 3 10 1 11 []  -- refusal 3
    ∷ not_shown "LA;R1 0 -99999999;E" 1 3 8 1 9 []  -- refusal 3
    ∷ not_shown "LA;W1 0 0 5  X-16777216;E" 1 3 14 1 15 []  -- refusal 3
    ∷ shown "LA;W1 0 0 5 -0;E" 1 3 "1 0 0 1 0 0" []  -- refusal 3
    ∷ shown "LA;W1 0 0 5 -00;E" 1 3 "1 0 0 1 0 0" []  -- refusal 3
    ∷ not_shown "LA;P0 0 1 1 99999999 2;E" 1 3 12 1 13 []  -- refusal 3
    ∷ not_shown "LA;B1 1  X-0016777216 1;E" 1 3 10 1 11 []  -- refusal 3
    ∷ shown "LA;B1 1 -0016777215 1;E" 1 3 "1 0 0 1 0 0" []  -- refusal 3
    ∷ none_there "DD16777215;E" 1  -- refusal 3
    ∷ none_there "DS0;DF;E" 1  -- refusal 3
    ∷ not_shown "DS1677721600000000000000000000000000000000000000000000000000;DF;E" 1 3 2 1 3 []  -- refusal 3
    ∷ not_shown "DS1;C1677721600000000000000000000000000000000000000000000000000;DF;E" 1 3 5 1 6 []  -- refusal 3
    ∷ none_there "DS1;C2T16777215 0;DF;E" 1  -- refusal 3
    ∷ not_shown "DS1;C2T X-99999999 0;DF;E" 1 3 9 1 10 []  -- refusal 3
    ∷ []

pub told-5 : Each Shown rows-5
unfolding all_shown rows-5
told-5 = each_shown rows-5 tt

pub rows-6 : List Pointed
rows-6 =
    none_there "DS1;C2T0 0016777215;DF;E" 1  -- refusal 3
    ∷ not_shown "DS1;C2T0 -1677721600000000000000000000000000000000000000000000000000;DF;E" 1 3 9 1 10 []  -- refusal 3
    ∷ not_shown "DS1;C2T0  X-1677721600000000000000000000000000000000000000000000000000;DF;E" 1 3 11 1 12 []  -- refusal 3
    ∷ not_shown "LA;B1 1 0 0 1 -16777216;E" 1 3 14 1 15 []  -- refusal 3
    ∷ not_shown "LA;B1 1 0 0 1 99999999;E" 1 3 14 1 15 []  -- refusal 3
    ∷ shown "LA;B1 1 0 0 1 -00;E" 1 3 "1 0 0 1 0 0" []  -- refusal 3
    ∷ not_shown "DS1;C2R1  X-0016777216;DF;E" 1 3 11 1 12 []  -- refusal 3
    ∷ not_shown "DS1;C2R1 99999999;DF;E" 1 3 9 1 10 []  -- refusal 3
    ∷ not_shown "DS1;C2T1 1MXR1 -0016777216;DF;E" 1 3 15 1 16 []  -- refusal 3
    ∷ not_shown "DS1;C2T1 1MXR1  X-0016777216;DF;E" 1 3 17 1 18 []  -- refusal 3
    ∷ shown "LA;B16777215 1 0 0;E" 1 3 "1 0 0 1 0 0" []  -- refusal 3
    ∷ not_shown "DS1;LA;R1 16777216 0;DF;E" 1 3 10 1 11 []  -- refusal 3 undrawn
    ∷ none_there "DS1 1 2;LA;R1 1 0;DF;E" 1  -- refusal 5
    ∷ none_there "DS1 1 2;LA;R2 0 X-1;DF;E" 1  -- refusal 5
    ∷ shown "DS1 1 2;DF;LA;R1 1 1;E" 1 14 "1 0 0 1 0 0" []  -- refusal 5 outside
    ∷ shown "LA;B1 1 0 0 0 -1;E" 1 3 "1 0 0 1 0 0" []  -- refusal 7
    ∷ not_shown "W1 0 0;E" 1 8 0 1 1 []  -- refusal 8
    ∷ not_shown "DS1;LA;DF;DS2;R1 0 0;DF;E" 1 8 14 1 15 []  -- refusal 8
    ∷ shown "LA;DD0;R1 0 0;E" 1 7 "1 0 0 1 0 0" []  -- refusal 8
    ∷ not_shown "DS1;DF;C1R1 1R1 1;E" 1 11 7 1 8 []  -- refusal 11 pair makes right angle
    ∷ []

pub told-6 : Each Shown rows-6
unfolding all_shown rows-6
told-6 = each_shown rows-6 tt

pub rows-7 : List Pointed
rows-7 =
    not_shown "DS1;C2;DF;DS2;C1;DF;C1;E" 1 13 14 1 15 (20 ∷ 4 ∷ [])  -- refusal 13 ring
    ∷ not_shown "DS1;C2;DF;DS2;C1;DF;C2;E" 1 13 4 1 5 (20 ∷ 14 ∷ [])  -- refusal 13 ring
    ∷ none_there "DS1;DF;DS2;C1;C1;DF;C2;C2;C1;E" 1  -- refusal 13 twice is no ring
    ∷ not_shown "LA;R1 -16777216 16777216;E" 1 3 6 1 7 []  -- refusal in command
    ∷ not_shown "DS1 3 2;R0 1 2;DF;E" 1 7 8 1 9 []  -- refusal in command
    ∷ not_shown "R1 0 16777216;(" 1 2 15 1 16 []  -- refusal in command
    ∷ shown "DS0;LA;R7 -4 -72;W13 -88 28;DF;C0;C0;DS1;LA;W57 87 61 71 -37 -96 18;DF;C1  MX;C1;E" 6 44 "1 0 0 1 0 0" (78 ∷ [])  -- random 0
    ∷ shown "DS0;LA;DF;C0 MXR0 1 MXR0 1;C0 MY R0 1 R0 1;LB;B9 16777214 -94 16777215 0 1;E" 1 46 "1 0 0 1 0 0" []  -- random 1
    ∷ none_there "LB;B52 26 -82 2 16777215 -1;B25 16 84 -70 1 1;B2 54 -68 -8 1 0;P-71 -3 -37 -91 27 -12 -84 30;E" 5  -- random 4
    ∷ not_shown "C57 R0 1R0 -7 R-1 0T-61 -37;DS900;LD;C0 R-1 0;C0T95 -29;B81 31 29 28 0 1;LD;B10 86 -3 25;DF;E" 1 12 0 1 1 []  -- random 6
    ∷ shown "DD0;DS4 5 3;C3MY R0 -7MYR-1 0;LD;P11 0 11 0 0 0;LA;R6 -32 3;DF;LC2;W7 24 -29 -29 24;DD1;LE4;W1 -2 37 37 -2;DS1;C0;LD;W8 -44 -10 -10 -44;B27 23 32 -20 0 -3;DF;DS5;LD;R5 -24 35;LE4;W9 39 -49 -49 39;LE4;W5 32 -26 -26 32;W8 -10 43 43 -10;DF;DS5;C0R0 1T-2 -36MYR0 1;DF;E" 1 67 "1 0 0 1 0 0" []  -- random 7
    ∷ none_there "DD4;DD4;DS5 2 1;C2 R0 1 MY;C2;LE4;B33 31 -7 33 1 1;DF;E" 1  -- random 8
    ∷ none_there "DD0;DD0;DS2;C1 MY R-1 0 R-1 0 MX;(x;);DF;DS4 2 1;LC2;P14 23 14 0 0 23;B34 78 18 -29;C0;LB1;P-15 -4 -15 0 0 -4;B1 80 45 -6 1 1;LC2;B48 67 -15 -9;DF;E" 1  -- random 9
    ∷ shown "LE4;R8 -30 2;E" 1 4 "1 0 0 1 0 0" []  -- random 10
    ∷ none_there "DS0;LA;DF;C0;DS1;LA;DF;C1 R0 1;LB;P44 35 -45 88 -44 -71 -98 4 47 99;E" 2  -- random 13
    ∷ not_shown "DS2;C0 T-60 -57;LE4;W3 -6 42 42 -6;R1 38 32;DF;DD2;LC2;W8 11 21 21 11;DD8;DS16777215 1 1;C900 R0 1;(x;);LD;P-8 -6 -8 0 0 -6;B77 52 -41 46;P40 -46 40 0 0 -46;C900 R-1 0;DF;B57 47 17 21;C900;DD3;DS8 1 1;C2 MX;LD;B83 42 28 15 0 -3;DF;E" 1 12 184 1 185 []  -- random 14
    ∷ none_there "DS479;L9Z;C755 ;W5 295 8879 -000000000225 0;DF[ ;DS755;LA; R9714 364 2 ;B104 4663 -7 0; C952 T-667 707;C952MX MXT-502 801;@DF;DS952; L0;\"DF~; C952;C952; DD544; E " 1  -- random 16
    ∷ shown "DS434 ;LNP;C393+MX;P4284 -7179 -78 -2 -2 8388608;DF;\u{b}DS393;L Q7;B001XU344 -213 -8388608 0a-1;W1 -7415 15946 284 -235 ;[.DF; C434\ta\u{b};E" 3 19 "1 0 0 1 0 0" (124 ∷ [])  -- random 17
    ∷ none_there " DS595 ; L NM;*xyz*W1 16862 -7779 0 13518;DF;C595;E" 2  -- random 19
    ∷ shown "xyzDS689;@LQ7;R1 -3 -442;R1*-7 19413; C{'R593; DF~;DS593; +^L0  ; C000000000547T-780 -39 T-244 905; DF ;DS52^; LNM\"\t;R378JI-2 8388608 ;_*'DF\";DS547;LND;C52{:\u{1b};C52MXM Y;DF;C52;E" 1 117 "1 0 0 1 0 0" (171 ∷ [])  -- random 20
    ∷ []

pub told-7 : Each Shown rows-7
unfolding all_shown rows-7
told-7 = each_shown rows-7 tt

pub rows-8 : List Pointed
rows-8 =
    shown "DS3;LC2;R3 2 50;P-8 -17 -8 0 0 -17;DF;DS1;DF;C3 MX MX MX MY;DS5;C4R0 1 R-1 0T-77 68 MY;LE4;P-5 -3 -5 0 0 -3;W7 -50 -31 -31 -50;C0R0 1 MY;DF;C3;C1 MY;DS4 3 2;LD;B95 15 -42 19;DF;C3 MY;E" 5 8 "1 0 0 -1 0 0" (177 ∷ [])  -- random 21
    ∷ none_there "DS0;LA;B38 26 -10 39 -9 0;P-71 -20 -36 19 71 -62;B54 9 -19 -75 1 0;DF;C0;C0 R-1 0;E" 0  -- random 24
    ∷ shown "DS0;LA;B1 16777215 16777214 -71 -3 4;DF;C0 R-1 0 R0 1;C0 MX MXR0 1;DS1;LA;DF;LB;W23 0 39 29 65;E" 3 80 "1 0 0 1 0 0" []  -- random 25
    ∷ none_there "DD1;DS3;DF;DS4 1 1;C2R0 1 R0 -7;C3 R-1 0 R0 1MXR-1 0;LB1;B65 54 -3 -15;LC2;B44 66 -23 -46;DF;C3;E" 1  -- random 27
    ∷ shown "DS2;DF;LD;B84 26 -14 27 3 -4;C2;DS2;LD;P25 19 25 0 0 19;C2 T-62 28;B24 76 13 -44 0 1;DF;DD16777215;DS5 5 3;;LC2;C2R0 1;DF;DD0;DS57 1 1;C5MY R-1 0;DF;W2 28 -24 -24 28;B59 24 -49 -14 1 1;DS57;LD;R6 47 8;DF;C57;E" 2 149 "1 0 0 1 0 0" []  -- random 28
    ∷ none_there "DS4;\n  C0MX;\nC0 T-87 4 R0 1;\n  LC2;B30 36 -13 -44 0 -3;\nDF;DS3;\n\nDF;DD0;\n  E" 1  -- random 29
    ∷ shown "DS0;LA;P-11 -73 77 58 -12 -82 -30 7;DF;C0 R0 700 MX T3 -4 MXR0 1;C0 ;LB;B42 21 40 -19 0 1;P-8 -56 -84 -86 68 -2 -52 10;E" 4 90 "1 0 0 1 0 0" []  -- random 30
    ∷ none_there "DS0;LA;B39 27 -91 60 -9 0;B10 34 -25 -60 0 1;DF;C0 R5 0;C0 MX R-1 0;DS1;LA;P46 -54 92 -90 -28 -71;B41 52 -81 13 -9 0;DF;C1;C1 R5 0;LB;E" 0  -- random 33
    ∷ shown "DS654;~L0001;B.864 3688 -1062 0;R1 1 0;DF;DS434 ;LND ;C000000000398T 538_S^-242/;C398T875 -60;=\u{1b}W1 4 -410 105 -00149;B10 6 -0 -3 2 0; DF;DS697;LA;C434;R9480 -6 -7;/B\u{7f}1 8798 291 -0 8 9;\u{1b}DF@';DS398;_\u{b}L ABCD;C654T75 262R0'L16777215;DF;C697;C697;E" 16 164 "1 0 0 1 0 0" (237 ∷ [])  -- random 34
    ∷ none_there "DS0;LD;\n\nB25 54 30 0;LC2;DF;DS5;(x;\n);\r\nDF;DS0 2 1;\r\nDF;\r\nDS2 5 3;\r\nLA;W3 37 -22 -22 37;\n  B93 11 -33 46 1 1;\nDF;\nDS3;DF;C0;\n  DS4;\n\nDF;C0 R0 -7;\n\nC0;C5;\r\nC2;E" 3  -- random 36
    ∷ none_there "L~xyz_ND,`;E\"" 1  -- random 38
    ∷ shown "DS4;LD;B34 47 -22 -2 0 1;DF;C4;DD2;DD5;DS5;LA;B27 22 13 2 1 1;;W1 -19 -40 -40 -19;C0R-1 0 R0 -7;C1;LE4;R4 -13 44;DF;DS3 1 1;LC2;B53 76 -27 -40 1 0;LD;R4 21 -14;DF;LE4;W4 -21 50 50 -21;C3;E" 1 7 "1 0 0 1 0 0" (28 ∷ [])  -- random 39
    ∷ none_there "DS1;LQ;R1 1 0;LA;C2T1 0;C2;DF;DS2;C3R0 1;DF;DS3;C4T1 0;LA;LQ;R1 3 0;DF;DS4;LQ;R1 4 0;LQ;R1 4 0;C5R0 1;LCM;LA;DF;DS5;LCM;C6MX;LQ;R1 5 0;LB;LQ;R1 5 0;DF;DS6;C7;C7MX;C7;DF;DS7;C8MX;LQ;R1 7 0;LA;C1;DF;DS8;DF;E" 1  -- random 41
    ∷ shown "DS57 5 3;LB1;W7 18 -31 -31 18;LC2;P49 25 49 0 0 25;LD;R7 -4 -3;DF;C57 R0 1MY;DS16777214 3 2;LE4;R5 -28 -38;C1;W4 10 -23 -23 10;DF;DS16777214 5 3;LE4;R8 11 1;B92 8 24 -30 0 -3;W3 -30 -3 -3 -30;LD;R8 -3 -4;DF;C57;C16777214;E" 1 13 "0 -1 -1 0 0 0" (66 ∷ [])  -- random 42
    ∷ shown "DS5;\nLC2;R1 -16 -41;\n  C3 MY MXMX R0 -7;\nP-16 -28 -16 0 0 -28;\r\nDF;LE4;W5 41 19 19 41;\nDS5;\n\nC3 R0 1;\r\nC3R0 -7 R0 -7;(x;\n  );\nLE4;\n  R2 13 28;W9 -46 -32 -32 -46;\nC1MYT-99 -43 R0 1R0 -7;\n  DF;E" 1 71 "1 0 0 1 0 0" []  -- random 43
    ∷ shown "\"  ((; DF)  )\r\n;L0 ~;oo\u{7f}L9Z^;\"P=-11\t3\u{1b}18418,-238K@0 SG-351;DS\0 4=I1 1#/;+DF;\u{1b}\0E xyz" 1 30 "1 0 0 1 0 0" []  -- random 44
    ∷ none_there "DS1;LB1;B32 30 3 46;P4 -33 4 0 0 -33;\r\nB67 88 19 42;DF;\n\nC1R0 -7;C1R-1 0R0 -7;\n  C1;C1;\nE" 13  -- random 45
    ∷ none_there "DS1 5 3;LE4;C0 R-1 0;\r\nB49 89 -41 26;\n  LA;R5 15 14;DF;DS4;C2MXR0 -7R0 -7 R0 1;LD;B15 26 17 -49;\n  LB1;\nDF;DS2 2 1;LE4;B81 81 43 -27;C0;DF;\nDD5;\r\nDS0 5 3;DF;\n\nLA;\n  W9 -37 32 32 -37;C2;C1;C4;\nC2;\n  E" 0  -- random 46
    ∷ shown "DS5;LE4;B72 13 47 -4 1 1;R5 -43 13;DF;DS0;DF;C0MY;DD1;LD;W4 -9 -19 -19 -9;DS3;C0R-1 0;LA;W7 -35 -34 -34 -35;DF;C0;DS5 5 3;LB1;B47 90 -29 -1 1 0;LB1;R1 26 -21;C3 R0 -7;DF;E" 1 57 "1 0 0 1 0 0" []  -- random 47
    ∷ shown "LA;B53 57 -49 21 3 -4;DD57;DS0;LA;B97 32 -24 24 0 1;DF;DS16777214;LA;B99 13 -22 46 -2 0;W6 7 -8 -8 7;C3 T43 16 R0 -7;C0 MY;DF;DD3;DS57 5 3;LD;P46 -28 46 0 0 -28;DF;C0R0 1R0 -7;C0R0 -7 T-54 2;E" 3 34 "0 1 -1 0 -54 2" (176 ∷ [])  -- random 48
    ∷ []

pub told-8 : Each Shown rows-8
unfolding all_shown rows-8
told-8 = each_shown rows-8 tt

pub rows-9 : List Pointed
rows-9 =
    shown "DS5 2 1;LA;R4 -45 27;R6 -38 -30;LB1;P-15 -4 -15 0 0 -4;C1 T-72 -44;DF;DS0;DF;C0R0 -7R0 1R0 -7R0 1;DS4;LE4;W4 9 -33 -33 9;DF;DD5;DS5 3 2;C4MY;LD;B30 77 41 46 -2 0;DF;DS5 3 2;LB1;W9 36 49 49 36;W4 35 -18 -18 35;LE4;W1 44 6 6 44;DF;DS4 1 1;C3 R-1 0 R-1 0 T-24 -95 MY;DF;C0;LC2;W3 15 -21 -21 15;E" 1 274 "1 0 0 1 0 0" []  -- random 50
    ∷ shown "DS5;LC2;B30 86 28 23;W8 15 31 31 15;C1 R-1 0;LC2;B95 51 47 25;P-44 -20 -44 0 0 -20;DF;DS900 2 1;C5;C0 T0 -42;LB1;P-22 40 -22 0 0 40;LE4;B8 11 -37 -8;DF;LE4;W1 -46 -13 -13 -46;DS1 3 2;;LE4;P28 -15 28 0 0 -15;W4 20 39 39 20;DF;C5;C1;E" 1 156 "1 0 0 1 0 0" []  -- random 52
    ∷ shown "DS1;C5;C2;DF;DS2;C3T1 0;DF;DS3;LCM;C4MX;LQ;R1 3 0;DF;DS4;LQ;R1 4 0;C5R0 1;LA;C8;DF;DS5;C6;DF;DS6;C7T1 0;DF;DS7;C8R0 1;DF;DS8;DF;C1;E" 1 60 "-1 0 0 1 1 0" (128 ∷ 7 ∷ 17 ∷ 35 ∷ [])  -- random 54
    ∷ shown "DS0 2 1;(x;);LB1;B46 48 -31 7;LC2;DF;\n  C0;C0 MX;DD5;DS0 2 1;\nLE4;DF;C0MX;DS0 1 1;LB1;\n\nW4 -14 18 18 -14;\n\nC1 MY;\nDF;DS2 1 1;\nDF;DS4;\nLD;\r\nR4 -18 -40;P23 50 23 0 0 50;LD;\n\nB64 54 26 36;\n\n(x;);\n\nC0R0 -7;DF;DD0;\n\nDS2;LE4;B76 35 49 -45 1 1;\nDF;\nDS4 5 3;LA;B13 91 3 12 -2 0;DF;E" 1 17 "1 0 0 1 0 0" (40 ∷ [])  -- random 56
    ∷ not_shown "DS5;C6;LCM;LQ;R1 5 0;C8;DF;DS8;C1;DF;DS3;LCM;LQ;R1 3 0;C4;DF;DS4;C5T1 0;DF;DS2;C3R0 1;DF;DS1;C2;DF;DS6;C7R0 1;C7;LQ;R1 6 0;LCM;DF;DS7;C8R0 1;DF;C1;C2;E" 0 13 31 1 32 (144 ∷ 93 ∷ 79 ∷ 55 ∷ 65 ∷ 4 ∷ 103 ∷ 134 ∷ [])  -- random 58
    ∷ not_shown "(C1R0 0;);DF;C1MXMXMXMXMXMXMXMXMXMXMXMXMXMXMXMXMXMXMXMXMXMXMXMXMXMXMXMXMXMXMXMXMX;C16777215;DD16777215;E" 1 2 11 1 12 []  -- random 59
    ∷ shown "DS0;LA;DF;C0;C0 R5 0;DS1;LA;R23 60 39;DF;C1;C1 R0 1;LB;E" 2 28 "0 -1 1 0 0 0" (44 ∷ [])  -- random 62
    ∷ none_there "DS0;LA;W55 -59 3 35 -19;DF;LB;E" 1  -- random 63
    ∷ none_there "DS0;LA;R30 -50 16;B6 15 -47 54 1 0;DF;C0 MY;LB;R9 -80 -25;P92 -47 42 -56 -61 32 78 -19 -66 35;B37 7 85 51 -9 0;B17 57 -84 -81 -9 0;E" 7  -- random 64
    ∷ none_there "DS88`\u{b}\n;a`L ND;DF; DS88; L ND;DF;DS64;L0001; P-16370 -17887 11790 3^12205 0 0 -379; C713T-157 392;DF\"{;=\u{7f}aDS713;L0001;P-85ooBZ0  0 -9 0 367 -17941 -12864;R001 00115 3 xyz;C88TW\u{b}V000000000943 -629R-2 0R -000 2;  DF`@;C64 ;C64;DD19;E " 7  -- random 66
    ∷ none_there "^,DS057.\u{7f};D@{F;E" 1  -- random 67
    ∷ none_there "DS5 5 3;C0;C2R-1 0MY;C4;LD;B51 32 32 43;C1MX;R9 7 38;DF;DS3 5 3;LC2;B18 50 -15 -27;LC2;LD;B91 21 -28 -21;DF;DS4;C2 R-1 0;LB1;W6 8 21 21 8;DF;DS5;LA;B46 96 -23 -31 0 -3;C3;DF;DS2 3 2;C0 R0 -7 T-77 -30R-1 0 MX;DF;C3;C3 MX;C5MY;DD4;DS0;LE4;B53 25 12 8;DF;C2MX;E" 9  -- random 69
    ∷ none_there "DS0;LA;R39 19 -30;DF;C0;LB;W43 -36 -91;B43 36 88 65 16777215 -1;E" 0  -- random 70
    ∷ none_there "LB;R16777214 91 -16777215;W45 -16777215 -16777215;B31 1 16777215 16777215 1 1;P16777214 16777215 29 16777214 -81 0 -17 -21 82 4;E" 0  -- random 75
    ∷ shown "DS673;LNP;W 347 16777215 0*RL-04\n\n0;C208MXMXR-1 -0;\tRD\"~4628~  P-283 119;DF; DS673\t;[.LNP;W 347 16777215 0*RL-04\n\n0;C208MXMXR-1 -0[{;RD\"~4628~  P-283 119+\r\n;DF;DS208 ;LQ7; B5 16777214DD467/0;ooC200T-501 -491MY  ;B8314 177 -16777214{ 13033+ L6 7;DF;\0DS200;\n\u{7f}LNP;RV16235'69 -6480;DF ; C673;E" 5 133 "1 0 0 1 0 0" (283 ∷ [])  -- random 76
    ∷ none_there "DS:I^0 2 1;L0001;B6 4 -309Q\0-6; DF;LNP ;DS57 2 1;LND;69 ;R 57 0 148;DF;C 0MY;C57R0 2T303 -33T0 -0;E" 3  -- random 77
    ∷ none_there "DS3;LB1;P-1 -42 -1 0 0 -42;C0R-1 0MY;DF;DS3;LD;B40 47 22 -46;W2 49 -29 -29 49;C2R0 1 MX;C0 MY;DF;DS5 5 3;DF;C5MX;DD2;DS1;LD;B84 71 20 -19 3 -4;P38 -5 38 0 0 -5;DF;E" 1  -- random 78
    ∷ shown "'DS900 ;LA;R459 -181 0+;B8 1\u{7f}0`\t0 1 0;DF;DS900 ;LA;R459 -181 0;B8 1\u{7f}0`\t0 1 0;DF;DS182;L 0;W 1 0a395;C900T-538 -685MY ; B7 177 11 9;C00900MY\"R0 -50R-0 -50 ;DF;C900 ;C900;E " 1 51 "1 0 0 1 0 0" (158 ∷ [])  -- random 79
    ∷ shown " DS2;~L0001;C346;DF;DS283;ooL NM; C2T-516 -258T882R-32T87 -957;B2 16777214 0^0xyz.;DF ;DS233;LCM;DF ;DS346; LNP; P495 0 0 -2397U\u{b}B-479 -18098 -280 9~[\r\n-7 15231;C233M XMYT 477 -806;.+Pxyz:-108 -18858 0 -1725C0 0#;DF;C283; C233;E" 2 183 "1 0 0 1 453 -1247" (216 ∷ 34 ∷ 12 ∷ [])  -- random 80
    ∷ not_shown "0 1;DF;C1 T56 -96R0 1 R0 -7R0 \u{ad}7;E" 1 2 5 1 6 []  -- random 81
    ∷ []

pub told-9 : Each Shown rows-9
unfolding all_shown rows-9
told-9 = each_shown rows-9 tt

pub rows-10 : List Pointed
rows-10 =
    none_there "DS5 5 3;DF;DS16777215;DF;DS16777215 3 2;\n  DF;\nC5;C16777215;\n\nE" 1  -- random 83
    ∷ none_there "DS0;LA;DF;DS1;LA;B54 13 -56 99;DF;LB;B44 21 52 -12 1 1;B12 20 12 -16 1 1;E" 3  -- random 84
    ∷ shown "DS213;L0001 ;R1 4 0 ;B 1 6657 -492 0;DF@a=; DS244 ;La\u{1b}9Z~;R1 4 8388608;P214 -8 0000000007 0 7346 490;\"C416 ;DF`;#DS949;L ZZZZ;P4 -2915 17537 -000000000313 -16777215 0a\" 7 0;B129 1 -5 -12212; C213;C213T-641 870T970 -98R0Y-16777215 ;DF;DS416 ;L\0\0'NM;C 949;B1 434 -0096 156 -0 -1;DF;C244;E " 1 58 "1 0 0 1 0 0" (280 ∷ [])  -- random 86
    ∷ none_there "DS0;LA;B24 11 56 80;P-60 85 -37 -87 -30 10 40 -35 88 -31;R48 -34 87;DF;E" 1  -- random 87
    ∷ none_there "DS1 1 1;C0R0 1 MY;LA;9u C1;(x;);W2 -34 -38 -38 -34;9u C1;DF;DS3 5 3;LB1;B22 7 35 40 1 1;B24 10 -20 34;P-33 -6 -33 0 0 -6;DF;DS4;LE4;DF;DD0;DS5 2 1;LD;P-34 -29 -34 0 0 -29;B31 61 42 -30;R6 27 -25;DF;C5;E" 4  -- random 91
    ∷ none_there "DS4 1 1;DF;DS1 3 2;C0 MX;LD;P-49 -12 -49 0 0 -12;LB1;W5 46 -10 -10 46;DF;LA;B1 49 -45 0 0 1;DS4;LE4;B73 92 -46 -44;B2 13 39 -48 1 0;DF;C4;C4T-93 32;DS0 2 1;LC2;B68 54 44 -11;DF;DS4 1 1;C3R0 1;C3 MYR0 -7;C0;DF;DD3;DS4 3 2;LE4;B60 58 -15 -39;DF;DS1 1 1;LD;W3 -11 49 49 -11;DF;C1;C0;C4;E" 9  -- random 92
    ∷ shown "DS4 5 3;;LD;B99 17 26 29 -2 0;DF;DS5;LE4;R4 -6 38;LE4;B50 45 -25 24 1 0;DF;DS0 5 3;LD;P13 -9 13 0 0 -9;C5 MXR-1 0;DF;DS3;LC2;B93 34 34 -41 -2 0;P24 -31 24 0 0 -31;DF;C0 MX T78 85;C4 R0 1;C4;DS3 5 3;LC2;P-5 13 -5 0 0 13;B64 56 48 12 3 -4;DF;E" 1 86 "-1 0 0 1 78 85" (166 ∷ [])  -- random 94
    ∷ shown "DS0;LA;W39 52 54 -60 8 -54 -6;R35 -19 -50;DF;C0;LB;E" 1 7 "1 0 0 1 0 0" (45 ∷ [])  -- random 97
    ∷ shown "DS0;LA;W48 51 85 -57 80 93 -69;DF;C0;DS1;LA;DF;C1 R0 700 MX T3 -4;C1 R0 700 MX T3 -4 MY R0 1;LB;B35 23 11 34;B57 35 95 33;E" 1 7 "1 0 0 1 0 0" (34 ∷ [])  -- random 98
    ∷ shown "DS5;\nLA;B20 77 18 27 3 -4;LB1;\nP18 47 18 0 0 47;LB1;B99 87 -14 12;DF;DS0 2 1;\r\nLD;\r\nR9 8 25;\r\nR2 50 -37;\r\nDF;LC2;P18 19 18 0 0 19;DS1 1 1;\r\nDF;LB1;B24 65 18 6;C1 MY;\n\nC1;\nDS5;DF;\nDS4;DF;C4MY;\r\nC5;DS5;C1R-1 0;\n\nLB1;R1 -10 -17;B70 66 4 -24;\nLD;\n\nW3 -28 -49 -49 -28;C2T77 94 R0 1;DF;C0;\n  C1;\n  C4;E" 3 84 "1 0 0 1 0 0" (280 ∷ [])  -- random 99
    ∷ []

pub told-10 : Each Shown rows-10
unfolding all_shown rows-10
told-10 = each_shown rows-10 tt
