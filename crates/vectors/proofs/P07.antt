-- The vectors of tests/coming/p07.tsv that lend records, made into rows by tools/vectors.py: answers that were worked out apart from the definitions.
-- A trailing comment is the vector's name. They stand in batches, so that a row that does not compute is found.
-- Assumes nothing.
use mathlib.Core.List.{List, [], ◌∷◌}
use Rattle.definition.proofs.Rows.{Each, accepted_in, rounded_in, refused_in, on_line, in_calls}
use Rattle.definition.proofs.Recorded.{Recorded, with, HoldsWith, all_recorded, each_recorded}

pub rows-1 : List Recorded
rows-1 =
    with 1 (accepted_in 1048576 "DS1;DF;C1;E" 0 1 0 "E\n")  -- both sides 0
    ∷ with 1 (in_calls (17 ∷ []) (refused_in 1048576 "DS1;C2;DF;DS2;DF;C1;E" 21 4))  -- both sides 2
    ∷ with 32 (accepted_in 1048576 "DS1;C2;DF;DS2;DF;C1;E" 0 2 0 "E\n")  -- both sides 4
    ∷ with 4 (in_calls (47 ∷ 4 ∷ 14 ∷ 24 ∷ []) (refused_in 1048576 "DS1;C2;DF;DS2;C3;DF;DS3;C4;DF;DS4;C5;DF;DS5;DF;C1;E" 21 34))  -- both sides 5
    ∷ with 33 (accepted_in 1048576 "DS1;C2;DF;DS2;C3;DF;DS3;C4;DF;DS4;C5;DF;DS5;DF;C1;E" 0 5 0 "E\n")  -- both sides 6
    ∷ with 3 (accepted_in 65536 "LA;R1 0 0;E" 1 0 0 "LA;\nR1 0 0;\nE\n")  -- no call
    ∷ with 32 (accepted_in 65536 "LA;R1 0 0;E" 1 0 0 "LA;\nR1 0 0;\nE\n")  -- no call
    ∷ with 0 (refused_in 65536 "DS1;DF;C1;E" 21 7)  -- one empty call
    ∷ with 3 (accepted_in 65536 "DS1;DF;C1;E" 0 1 0 "E\n")  -- one empty call
    ∷ with 32 (accepted_in 65536 "DS1;LA;R1 0 0;DF;C1;C1;C1;E" 3 3 0 "LA;\nR1 0 0;\nR1 0 0;\nR1 0 0;\nE\n")  -- calls side by side
    ∷ with 2 (accepted_in 65536 "DS1;LA;R1 1 2;DF;DS2;C1;LB;R1 0 0;C1MX;DF;C2;C1;C2R0 1;E" 7 7 0 "LA;\nR1 1 2;\nLB;\nR1 0 0;\nLA;\nR1 -1 2;\nR1 1 2;\nR1 -2 1;\nLB;\nR1 0 0;\nLA;\nR1 -2 -1;\nE\n")  -- two levels
    ∷ with 3 (accepted_in 65536 "DS1;LA;R1 1 2;DF;DS2;C1;LB;R1 0 0;C1MX;DF;C2;C1;C2R0 1;E" 7 7 0 "LA;\nR1 1 2;\nLB;\nR1 0 0;\nLA;\nR1 -1 2;\nR1 1 2;\nR1 -2 1;\nLB;\nR1 0 0;\nLA;\nR1 -2 -1;\nE\n")  -- two levels
    ∷ with 31 (accepted_in 65536 "DS1;LA;R1 1 2;DF;DS2;C1;LB;R1 0 0;C1MX;DF;C2;C1;C2R0 1;E" 7 7 0 "LA;\nR1 1 2;\nLB;\nR1 0 0;\nLA;\nR1 -1 2;\nR1 1 2;\nR1 -2 1;\nLB;\nR1 0 0;\nLA;\nR1 -2 -1;\nE\n")  -- two levels
    ∷ with 1 (in_calls (50 ∷ []) (refused_in 65536 "DS1;LA;R1 0 0;DF;DS2;C1T1 1;DF;DS3;C1;C2;C1;DF;C1;C3;E" 21 35))  -- deep only in the second branch
    ∷ with 3 (accepted_in 65536 "DS1;LA;R1 0 0;DF;DS2;C1T1 1;DF;DS3;C1;C2;C1;DF;C1;C3;E" 4 6 0 "LA;\nR1 0 0;\nR1 0 0;\nR1 1 1;\nR1 0 0;\nE\n")  -- deep only in the second branch
    ∷ with 64 (accepted_in 65536 "DS1;LA;R1 0 0;DF;DS2;C1T1 1;DF;DS3;C1;C2;C1;DF;C1;C3;E" 4 6 0 "LA;\nR1 0 0;\nR1 0 0;\nR1 1 1;\nR1 0 0;\nE\n")  -- deep only in the second branch
    ∷ with 0 (refused_in 65536 "DS1;LA;R1 0 0;DF;DS2;LB;R2 0 0;C1;R3 0 0;C1;R4 0 0;DF;DS3;C2;LC;R5 0 0;C2;DF;C3;C3MX;E" 21 77)  -- shapes around calls
    ∷ with 1 (in_calls (77 ∷ []) (refused_in 65536 "DS1;LA;R1 0 0;DF;DS2;LB;R2 0 0;C1;R3 0 0;C1;R4 0 0;DF;DS3;C2;LC;R5 0 0;C2;DF;C3;C3MX;E" 21 58))  -- shapes around calls
    ∷ with 2 (in_calls (77 ∷ 58 ∷ []) (refused_in 65536 "DS1;LA;R1 0 0;DF;DS2;LB;R2 0 0;C1;R3 0 0;C1;R4 0 0;DF;DS3;C2;LC;R5 0 0;C2;DF;C3;C3MX;E" 21 31))  -- shapes around calls
    ∷ with 64 (accepted_in 65536 "DS1;LA;R1 0 0;DF;DS2;LB;R2 0 0;C1;R3 0 0;C1;R4 0 0;DF;DS3;C2;LC;R5 0 0;C2;DF;C3;C3MX;E" 22 14 0 "LB;\nR2 0 0;\nLA;\nR1 0 0;\nLB;\nR3 0 0;\nLA;\nR1 0 0;\nLB;\nR4 0 0;\nLC;\nR5 0 0;\nLB;\nR2 0 0;\nLA;\nR1 0 0;\nLB;\nR3 0 0;\nLA;\nR1 0 0;\nLB;\nR4 0 0;\nR2 0 0;\nLA;\nR1 0 0;\nLB;\nR3 0 0;\nLA;\nR1 0 0;\nLB;\nR4 0 0;\nLC;\nR5 0 0;\nLB;\nR2 0 0;\nLA;\nR1 0 0;\nLB;\nR3 0 0;\nLA;\nR1 0 0;\nLB;\nR4 0 0;\nE\n")  -- shapes around calls
    ∷ []

pub hold-1 : Each HoldsWith rows-1
unfolding all_recorded rows-1
hold-1 = each_recorded rows-1 tt

pub rows-2 : List Recorded
rows-2 =
    with 2 (in_calls (77 ∷ 58 ∷ []) (refused_in 2 "DS1;LA;R1 0 0;DF;DS2;LB;R2 0 0;C1;R3 0 0;C1;R4 0 0;DF;DS3;C2;LC;R5 0 0;C2;DF;C3;C3MX;E" 21 31))  -- shapes around calls, no room
    ∷ with 0 (refused_in 65536 "DS1;DF;C1R1 1;E" 11 7)  -- 11 first
    ∷ with 1 (refused_in 65536 "DS1;DF;C1R1 1;E" 11 7)  -- 11 first
    ∷ with 3 (refused_in 65536 "DS1;DF;C1R1 1;E" 11 7)  -- 11 first
    ∷ with 64 (refused_in 65536 "DS1;DF;C1R1 1;E" 11 7)  -- 11 first
    ∷ with 0 (refused_in 65536 "C1;E" 12 0)  -- 12 first
    ∷ with 2 (refused_in 65536 "C1;E" 12 0)  -- 12 first
    ∷ with 33 (refused_in 65536 "C1;E" 12 0)  -- 12 first
    ∷ with 0 (refused_in 65536 "DS1;C1;DF;C1;E" 21 10)  -- 13 first
    ∷ with 1 (in_calls (10 ∷ []) (refused_in 65536 "DS1;C1;DF;C1;E" 13 4))  -- 13 first
    ∷ with 64 (in_calls (10 ∷ []) (refused_in 65536 "DS1;C1;DF;C1;E" 13 4))  -- 13 first
    ∷ with 1 (in_calls (20 ∷ []) (refused_in 65536 "DS1;C2;DF;DS2;C1;DF;C1;E" 21 4))  -- 13 two levels up
    ∷ with 2 (in_calls (20 ∷ 4 ∷ []) (refused_in 65536 "DS1;C2;DF;DS2;C1;DF;C1;E" 13 14))  -- 13 two levels up
    ∷ with 0 (refused_in 65536 "DS1;C2R1 1;DF;DS2;DF;C1;E" 21 21)  -- 11 inside
    ∷ with 3 (in_calls (21 ∷ []) (refused_in 65536 "DS1;C2R1 1;DF;DS2;DF;C1;E" 11 4))  -- 11 inside
    ∷ with 31 (in_calls (21 ∷ []) (refused_in 65536 "DS1;C2R1 1;DF;DS2;DF;C1;E" 11 4))  -- 11 inside
    ∷ with 64 (in_calls (21 ∷ []) (refused_in 65536 "DS1;C2R1 1;DF;DS2;DF;C1;E" 11 4))  -- 11 inside
    ∷ with 0 (refused_in 65536 "DS1;C2;DF;C1;E" 21 10)  -- 12 inside
    ∷ with 2 (in_calls (10 ∷ []) (refused_in 65536 "DS1;C2;DF;C1;E" 12 4))  -- 12 inside
    ∷ with 3 (in_calls (10 ∷ []) (refused_in 65536 "DS1;C2;DF;C1;E" 12 4))  -- 12 inside
    ∷ []

pub hold-2 : Each HoldsWith rows-2
unfolding all_recorded rows-2
hold-2 = each_recorded rows-2 tt

pub rows-3 : List Recorded
rows-3 =
    with 31 (in_calls (10 ∷ []) (refused_in 65536 "DS1;C2;DF;C1;E" 12 4))  -- 12 inside
    ∷ with 32 (in_calls (10 ∷ []) (refused_in 65536 "DS1;C2;DF;C1;E" 12 4))  -- 12 inside
    ∷ with 2 (in_calls (10 ∷ []) (refused_in 2 "DS1;C2;DF;C1;E" 12 4))  -- 12 inside, no room
    ∷ with 1 (in_calls (27 ∷ []) (refused_in 65536 "DS1;DF;DS2;LA;R1 1 0;C1;DF;C2T16777215 0;E" 16 14))  -- 16 before a deeper call
    ∷ with 3 (in_calls (27 ∷ []) (refused_in 65536 "DS1;DF;DS2;LA;R1 1 0;C1;DF;C2T16777215 0;E" 16 14))  -- 16 before a deeper call
    ∷ with 32 (in_calls (27 ∷ []) (refused_in 65536 "DS1;DF;DS2;LA;R1 1 0;C1;DF;C2T16777215 0;E" 16 14))  -- 16 before a deeper call
    ∷ with 0 (refused_in 65536 "DS1;DF;DS2;LA;R1 0 1;C1;DF;C2T0 16777215;E" 21 27)  -- 20 before a deeper call
    ∷ with 64 (in_calls (27 ∷ []) (refused_in 65536 "DS1;DF;DS2;LA;R1 0 1;C1;DF;C2T0 16777215;E" 20 14))  -- 20 before a deeper call
    ∷ with 0 (refused_in 65536 "DS1;DF;DS2;LA;C1;R1 1 0;DF;C2T16777215 0;E" 21 27)  -- a deeper call before 16
    ∷ with 32 (in_calls (27 ∷ []) (refused_in 65536 "DS1;DF;DS2;LA;C1;R1 1 0;DF;C2T16777215 0;E" 16 17))  -- a deeper call before 16
    ∷ with 2 (in_calls (36 ∷ 24 ∷ []) (refused_in 65536 "DS1;DF;DS2;C1;C1;DF;DS3;C2;C1;C2;DF;C3;E" 21 11))  -- the same symbol one level up and again
    ∷ with 3 (accepted_in 65536 "DS1;DF;DS2;C1;C1;DF;DS3;C2;C1;C2;DF;C3;E" 0 8 0 "E\n")  -- the same symbol one level up and again
    ∷ with 33 (accepted_in 65536 "DS1;DF;DS2;C1;C1;DF;DS3;C2;C1;C2;DF;C3;E" 0 8 0 "E\n")  -- the same symbol one level up and again
    ∷ with 2 (in_calls (36 ∷ 24 ∷ []) (refused_in 2 "DS1;DF;DS2;C1;C1;DF;DS3;C2;C1;C2;DF;C3;E" 21 11))  -- the same symbol one level up and again, no room
    ∷ with 32 (accepted_in 65536 "DS1;DF;C1;DS2;LA;R1 0 0;DF;DS1;C2;DF;C1;E" 1 3 1 "LA;\nR1 0 0;\nE\n")  -- a symbol redefined between
    ∷ with 0 (refused_in 65536 "DS1;LA;B4 2 3 5 1 2;DF;DS2;C1R0 1T10 0;DF;DS3;C2MXT0 7;C2R-1 0;DF;C3MYT100 200;C3R0 -1;E" 21 66)  -- transformations through levels
    ∷ with 31 (accepted_in 65536 "DS1;LA;B4 2 3 5 1 2;DF;DS2;C1R0 1T10 0;DF;DS3;C2MXT0 7;C2R-1 0;DF;C3MYT100 200;C3R0 -1;E" 4 10 0 "LA;\nB4 2 95 190 2 -1;\nB4 2 95 203 2 1;\nB4 2 10 5 1 -2;\nB4 2 -3 5 -1 -2;\nE\n")  -- transformations through levels
    ∷ with 0 (on_line 7 1 (refused_in 65536 "(Everything; once);\n9 user text;\n;DS 3 2 1; LA; B 4 2 1 0; B 4 2 1 0 0 1; R 6 1 1; W 2 0 0 5 5; P 0 0 4 0 0 4; C 5 T 1 0 MX R 0 1;\n(inside); 7 inside; ; DF;\nDS 5; L BB; R 1 3 5; DF;\nDS 9; C 8; DF;\nC 3; L CC; W 1 0 0; C 3 MY T 10 -10; DD 9;\nDS 5; LZ; R 2 0 0; DF;\nC 5;\nE\n" 21 197))  -- everything
    ∷ with 31 (accepted_in 65536 "(Everything; once);\n9 user text;\n;DS 3 2 1; LA; B 4 2 1 0; B 4 2 1 0 0 1; R 6 1 1; W 2 0 0 5 5; P 0 0 4 0 0 4; C 5 T 1 0 MX R 0 1;\n(inside); 7 inside; ; DF;\nDS 5; L BB; R 1 3 5; DF;\nDS 9; C 8; DF;\nC 3; L CC; W 1 0 0; C 3 MY T 10 -10; DD 9;\nDS 5; LZ; R 2 0 0; DF;\nC 5;\nE\n" 14 5 1 "LA;\nB8 4 2 0 1 0;\nB8 4 2 0 0 1;\nR12 2 2;\nW4 0 0 10 10;\nP0 0 8 0 0 8;\nLBB;\nR1 -5 -5;\nLCC;\nW1 0 0;\nLA;\nB8 4 12 -10 1 0;\nB8 4 12 -10 0 -1;\nR12 12 -12;\nW4 10 -10 20 -20;\nP10 -10 18 -10 10 -18;\nLBB;\nR1 5 -5;\nLZ;\nR2 0 0;\nE\n")  -- everything
    ∷ with 1 (accepted_in 65536 "DS1;DF;\nC1;E" 0 1 0 "E\n")  -- chain of 1
    ∷ []

pub hold-3 : Each HoldsWith rows-3
unfolding all_recorded rows-3
hold-3 = each_recorded rows-3 tt

pub rows-4 : List Recorded
rows-4 =
    with 2 (accepted_in 65536 "DS1;DF;\nC1;E" 0 1 0 "E\n")  -- chain of 1
    ∷ with 30 (accepted_in 65536 "DS1;DF;\nC1;E" 0 1 0 "E\n")  -- chain of 1
    ∷ with 33 (accepted_in 65536 "DS1;DF;\nC1;E" 0 1 0 "E\n")  -- chain of 1
    ∷ with 63 (accepted_in 65536 "DS1;DF;\nC1;E" 0 1 0 "E\n")  -- chain of 1
    ∷ with 0 (on_line 2 1 (refused_in 65536 "DS1;C2;DF;DS2;DF;\nC1;E" 21 18))  -- chain of 2
    ∷ with 64 (accepted_in 65536 "DS1;C2;DF;DS2;DF;\nC1;E" 0 2 0 "E\n")  -- chain of 2
    ∷ with 0 (on_line 2 1 (refused_in 65536 "DS1;C2;DF;DS2;C3;DF;DS3;DF;\nC1;E" 21 28))  -- chain of 3
    ∷ with 63 (accepted_in 65536 "DS1;C2;DF;DS2;C3;DF;DS3;DF;\nC1;E" 0 3 0 "E\n")  -- chain of 3
    ∷ with 64 (accepted_in 65536 "DS1;C2;DF;DS2;C3;DF;DS3;DF;\nC1;E" 0 3 0 "E\n")  -- chain of 3
    ∷ with 17 (accepted_in 65536 "DS1;C2;DF;DS2;C3;DF;DS3;C4;DF;DS4;C5;DF;DS5;C6;DF;DS6;C7;DF;DS7;C8;DF;DS8;C9;DF;DS9;C10;DF;DS10;C11;DF;DS11;C12;DF;DS12;C13;DF;DS13;C14;DF;DS14;C15;DF;DS15;C16;DF;DS16;DF;\nC1;E" 0 16 0 "E\n")  -- chain of 16
    ∷ with 32 (accepted_in 65536 "DS1;C2;DF;DS2;C3;DF;DS3;C4;DF;DS4;C5;DF;DS5;C6;DF;DS6;C7;DF;DS7;C8;DF;DS8;C9;DF;DS9;C10;DF;DS10;C11;DF;DS11;C12;DF;DS12;C13;DF;DS13;C14;DF;DS14;C15;DF;DS15;C16;DF;DS16;DF;\nC1;E" 0 16 0 "E\n")  -- chain of 16
    ∷ with 63 (accepted_in 65536 "DS1;C2;DF;DS2;C3;DF;DS3;C4;DF;DS4;C5;DF;DS5;C6;DF;DS6;C7;DF;DS7;C8;DF;DS8;C9;DF;DS9;C10;DF;DS10;C11;DF;DS11;C12;DF;DS12;C13;DF;DS13;C14;DF;DS14;C15;DF;DS15;C16;DF;DS16;DF;\nC1;E" 0 16 0 "E\n")  -- chain of 16
    ∷ with 11 (in_calls (169 ∷ 4 ∷ 17 ∷ 30 ∷ 43 ∷ 56 ∷ 69 ∷ 82 ∷ 95 ∷ 108 ∷ 124 ∷ []) (refused_in 65536 "DS1;C2;C2;DF;DS2;C3;C3;DF;DS3;C4;C4;DF;DS4;C5;C5;DF;DS5;C6;C6;DF;DS6;C7;C7;DF;DS7;C8;C8;DF;DS8;C9;C9;DF;DS9;C10;C10;DF;DS10;C11;C11;DF;DS11;C12;C12;DF;DS12;LA;R1 0 0;DF;C1;E" 21 140))  -- doubling
    ∷ with 1 (accepted_in 65536 "; E" 0 0 0 "E\n")  -- refusal 2
    ∷ with 32 (accepted_in 65536 "(;);E" 0 0 0 "E\n")  -- refusal 2
    ∷ with 32 (accepted_in 65536 "1);E" 0 0 0 "E\n")  -- refusal 2
    ∷ with 32 (accepted_in 65536 "LABCD;E" 0 0 0 "E\n")  -- refusal 2
    ∷ with 32 (accepted_in 65536 "DS1; DF;E" 0 0 0 "E\n")  -- refusal 2
    ∷ with 1 (accepted_in 65536 "DS1;DF;C1TMX1XX2MxX MYR0 1R-1 0T-1 0;E" 0 1 0 "E\n")  -- refusal 2
    ∷ with 1 (accepted_in 65536 "LA;R1 0 0;E" 1 0 0 "LA;\nR1 0 0;\nE\n")  -- refusal 3
    ∷ []

pub hold-4 : Each HoldsWith rows-4
unfolding all_recorded rows-4
hold-4 = each_recorded rows-4 tt

pub rows-5 : List Recorded
rows-5 =
    with 32 (accepted_in 65536 "LA;R1 -00 0;E" 1 0 0 "LA;\nR1 0 0;\nE\n")  -- refusal 3
    ∷ with 1 (accepted_in 65536 "LA;R1 -00 0;E" 1 0 0 "LA;\nR1 0 0;\nE\n")  -- refusal 3
    ∷ with 32 (accepted_in 65536 "LA;R1 0 0016777215;E" 1 0 0 "LA;\nR1 0 16777215;\nE\n")  -- refusal 3
    ∷ with 32 (accepted_in 65536 "LA;R1 0 -16777215;E" 1 0 0 "LA;\nR1 0 -16777215;\nE\n")  -- refusal 3
    ∷ with 32 (accepted_in 65536 "LA;W1 0 0 5 0016777215;E" 1 0 0 "LA;\nW1 0 0 5 16777215;\nE\n")  -- refusal 3
    ∷ with 1 (accepted_in 65536 "LA;W1 0 0 5 -0016777215;E" 1 0 0 "LA;\nW1 0 0 5 -16777215;\nE\n")  -- refusal 3
    ∷ with 32 (accepted_in 65536 "LA;W1 0 0 5 -0;E" 1 0 0 "LA;\nW1 0 0 5 0;\nE\n")  -- refusal 3
    ∷ with 1 (accepted_in 65536 "LA;W1 0 0 5 -00;E" 1 0 0 "LA;\nW1 0 0 5 0;\nE\n")  -- refusal 3
    ∷ with 1 (accepted_in 65536 "LA;P0 0 1 1 0016777215 2;E" 1 0 0 "LA;\nP0 0 1 1 16777215 2;\nE\n")  -- refusal 3
    ∷ with 1 (accepted_in 65536 "LA;B1 1 0016777215 1;E" 1 0 0 "LA;\nB1 1 16777215 1 1 0;\nE\n")  -- refusal 3
    ∷ with 32 (accepted_in 65536 "LA;B1 1 -0016777215 1;E" 1 0 0 "LA;\nB1 1 -16777215 1 1 0;\nE\n")  -- refusal 3
    ∷ with 32 (accepted_in 65536 "DS0;DF;E" 0 0 0 "E\n")  -- refusal 3
    ∷ with 1 (accepted_in 65536 "DS1;C2T0 0016777215;DF;E" 0 0 0 "E\n")  -- refusal 3
    ∷ with 32 (accepted_in 65536 "LA;B1 1 0 0 1 00;E" 1 0 0 "LA;\nB1 1 0 0 1 0;\nE\n")  -- refusal 3
    ∷ with 32 (accepted_in 65536 "LA;B1 1 0 0 1 -00;E" 1 0 0 "LA;\nB1 1 0 0 1 0;\nE\n")  -- refusal 3
    ∷ with 1 (accepted_in 65536 "LA;B1 1 0 0 1 -00;E" 1 0 0 "LA;\nB1 1 0 0 1 0;\nE\n")  -- refusal 3
    ∷ with 32 (accepted_in 65536 "DS1;C2R1 00;DF;E" 0 0 0 "E\n")  -- refusal 3
    ∷ with 1 (accepted_in 65536 "DS1;C2T1 1MXR1 16777215;DF;E" 0 0 0 "E\n")  -- refusal 3
    ∷ with 1 (accepted_in 65536 "DS1;C2T1 1MXR1 -0016777215;DF;E" 0 0 0 "E\n")  -- refusal 3
    ∷ with 32 (accepted_in 65536 "DS1;C2T1 1MXR1 -00;DF;E" 0 0 0 "E\n")  -- refusal 3
    ∷ []

pub hold-5 : Each HoldsWith rows-5
unfolding all_recorded rows-5
hold-5 = each_recorded rows-5 tt

pub rows-6 : List Recorded
rows-6 =
    with 32 (accepted_in 65536 "LA;B16777215 1 0 0;E" 1 0 0 "LA;\nB16777215 1 0 0 1 0;\nE\n")  -- refusal 3
    ∷ with 32 (accepted_in 65536 "LA;W1 0 0;E" 1 0 0 "LA;\nW1 0 0;\nE\n")  -- refusal 7
    ∷ with 32 (accepted_in 65536 "DS1;C1T0 0;DF;E" 0 0 0 "E\n")  -- refusal 7
    ∷ with 1 (accepted_in 65536 "DS1;C1T0 0;DF;E" 0 0 0 "E\n")  -- refusal 7
    ∷ with 1 (accepted_in 65536 "LA;DD0;R1 0 0;E" 1 0 0 "LA;\nR1 0 0;\nE\n")  -- refusal 8
    ∷ with 32 (accepted_in 65536 "DS1;C2MXMXMXMXMXMXMXMXMXMXMXMXMXMXMXMXMXMXMXMXMXMXMXMXMXMXMXMXMXMXMXMX;DF;E" 0 0 0 "E\n")  -- refusal 9
    ∷ with 32 (accepted_in 65536 "DS1;C2T1 1T1 1T1 1T1 1T1 1T1 1T1 1T1 1T1 1T1 1T1 1T1 1T1 1T1 1T1 1T1 1T1 1T1 1T1 1T1 1T1 1T1 1T1 1T1 1T1 1T1 1T1 1T1 1T1 1T1 1T1 1T1 1;DF;E" 0 0 0 "E\n")  -- refusal 9
    ∷ with 1 (accepted_in 65536 "DS1;C2T1 1T1 1T1 1T1 1T1 1T1 1T1 1T1 1T1 1T1 1T1 1T1 1T1 1T1 1T1 1T1 1T1 1T1 1T1 1T1 1T1 1T1 1T1 1T1 1T1 1T1 1T1 1T1 1T1 1T1 1T1 1T1 1;DF;E" 0 0 0 "E\n")  -- refusal 9
    ∷ with 1 (refused_in 65536 "DS1;DF;C1R-1 16777215;E" 11 7)  -- refusal 11
    ∷ with 32 (refused_in 65536 "DS1;DF;C1R1 1R1 1;E" 11 7)  -- refusal 11 pair makes right angle
    ∷ with 32 (refused_in 65536 "C1;E" 12 0)  -- refusal 12
    ∷ with 1 (in_calls (10 ∷ []) (refused_in 65536 "DS1;C2;DF;C1;E" 12 4))  -- refusal 12 inner
    ∷ with 1 (in_calls (17 ∷ []) (refused_in 65536 "DS1;C2;DF;DS2;DF;C1;E" 21 4))  -- refusal 12 defined between
    ∷ with 1 (in_calls (20 ∷ []) (refused_in 65536 "DS1;C2;DF;DS2;C1;DF;C2;E" 21 14))  -- refusal 13 ring
    ∷ with 1 (in_calls (17 ∷ []) (refused_in 65536 "DS1;DF;DS1;C1;DF;C1;E" 13 11))  -- refusal 13 old self
    ∷ with 32 (in_calls (18 ∷ []) (refused_in 65536 "DS1;LA;R1 0 -1;DF;C1T0 -16777215;E" 20 7))  -- refusal 16 y
    ∷ with 1 (in_calls (38 ∷ []) (refused_in 65536 "DS1;LA;R1 5 0;DF;DS2;C1T16777215 0;DF;C2T-16777215 0;E" 21 21))  -- refusal 16 levels
    ∷ with 32 (in_calls (21 ∷ []) (refused_in 65536 "DS1;LA;W1 0 0 0 1;DF;C1T0 16777215;E" 20 7))  -- refusal 16 second point
    ∷ with 1 (in_calls (21 ∷ []) (refused_in 65536 "DS1;LA;W1 0 0 0 1;DF;C1T0 16777215;E" 20 7))  -- refusal 16 second point
    ∷ with 31 (accepted_in 64 "DS5 5 3;DF;DS1 3 2;DF;C1;DS0;DF;C5;DS0;C0 MY;C4;C3;LD;B3 52 2 -43;DF;DD3;C1 T-4 7 R0 1;C1 R0 1 R0 1 T-41 -53 MY;C1;DS1;LC2;R3 1 47;C0;R3 18 -7;DF;E" 0 5 2 "E\n")  -- random 1
    ∷ []

pub hold-6 : Each HoldsWith rows-6
unfolding all_recorded rows-6
hold-6 = each_recorded rows-6 tt

pub rows-7 : List Recorded
rows-7 =
    with 32 (accepted_in 65536 "DS932;\0\r\nxyzLND;R10363 -183 0;DF[; DS932;LND; R10363 -183 0;DF;DS985;L  #\"9Z;B5900 3 0 oo8^,H17 0;C932T -863 -381;R7802 -14940 0 ; DF# ';C985  ; C985;E " 6 4 1 "L9Z;\nB5900 3 0 8 17 0;\nLND;\nR10363 -1046 -381;\nL9Z;\nR7802 -14940 0;\nB5900 3 0 8 17 0;\nLND;\nR10363 -1046 -381;\nL9Z;\nR7802 -14940 0;\nE\n")  -- random 2
    ∷ with 5 (accepted_in 65536 "DS229;LZZZZ ;oo,R 5 -4 -1203;DF;DS841 ;L~^\tND;oo@P-448 -5 227 -5 -1\u{1b}K393 4 0 0 364; C 229;DF; DS602;L0; P-10558 193 -7 -6 -3 -1 6 14; C841;P-3 -427 -14317 0 0 15382;C841T-402 108R-50 -0;DF;C602;C602;E" 12 10 0 "L0;\nP-10558 193 -7 -6 -3 -1 6 14;\nLND;\nP-448 -5 227 -5 -1 393 4 0 0 364;\nLZZZZ;\nR5 -4 -1203;\nL0;\nP-3 -427 -14317 0 0 15382;\nLND;\nP850 -103 175 -103 403 -501 398 -108 402 -472;\nLZZZZ;\nR5 406 1095;\nL0;\nP-10558 193 -7 -6 -3 -1 6 14;\nLND;\nP-448 -5 227 -5 -1 393 4 0 0 364;\nLZZZZ;\nR5 -4 -1203;\nL0;\nP-3 -427 -14317 0 0 15382;\nLND;\nP850 -103 175 -103 403 -501 398 -108 402 -472;\nLZZZZ;\nR5 406 1095;\nE\n")  -- random 5
    ∷ with 32 (rounded_in 65536 "DS2 2 1;C0;DF;LB1;W1 -4 7 7 -4;DS2 3 2;DF;DS5 1 1;DF;DS4 1 1;C1;DF;DS1 2 1;DF;DS3 5 3;LA;P-8 45 -8 0 0 45;DF;DD1;DS0;LB1;B25 51 -50 -26 0 1;DF;E" 1 0 1 2 "LB1;\nW1 -4 7 7 -4;\nE\n")  -- random 8
    ∷ with 1 (in_calls (230 ∷ []) (refused_in 64 "DS712 ;L0;P-8013 -11869 0 -1/OG-443 8 -265 -18;C~257T488 -894 ; C 257;DF;'ooDS947;L\u{1b}ZZZZ; C537M XMYMY; C537MXM:Y ;DF;DS537; L 9Z;C712T \u{7f}-955 -956;DF;DS257;LND;W[4 -17547 220 -9 -00000000000000000000000000000015109 0 285:oo; DF;\n\"=C947;E*xyz" 21 90))  -- random 9
    ∷ with 9 (accepted_in 65536 "DS440;LZZZZ ;C946;CaC=946;DFxyz;DS946;LCM;W9#V\r\n0 0 0 17893@-71 -7 -237 -405 0=-6;\0~^DF; C440;E" 2 3 0 "LCM;\nW9 0 0 0 17893 -71 -7 -237 -405 0 -6;\nW9 0 0 0 17893 -71 -7 -237 -405 0 -6;\nE\n")  -- random 10
    ∷ with 3 (accepted_in 65536 " DS461;L0;DF;DS875;L{={Q7;R8388608 -4`\u{7f}-160;R437 \r\nR-00328 -0000000002;C461;DF;DS399;LNP; C0875T00415 909T\u{1b}-73 -546R-0 2;B 1 2465 275 -10751;DF;C399  ;E" 3 3 0 "LQ7;\nR8388608 -203 338;\nR437 -361 14;\nLNP;\nB1 2465 275 -10751 1 0;\nE\n")  -- random 13
    ∷ with 4 (accepted_in 65536 "DS0 1 1;DF;DS0;LC2;B15 88 -7 -6 1 0;LA;B46 2 49 -22 3 -4;P-32 -31 -32 0 0 -31;DF;DS1;C0;LD;W9 -49 -30 -30 -49;C4MX MX;P-1 36 -1 0 0 36;C0;LD;R1 46 46;DF;DS1 1 1;LA;R6 10 41;DF;C0;C1;E" 4 2 2 "LC2;\nB15 88 -7 -6 1 0;\nLA;\nB46 2 49 -22 3 -4;\nP-32 -31 -32 0 0 -31;\nR6 10 41;\nE\n")  -- random 16
    ∷ with 0 (refused_in 0 " DS531 ;_LA;R0321 195E7;DF;C531 ;=E" 21 27)  -- random 17
    ∷ with 5 (accepted_in 65536 "{.D D3;E" 0 0 0 "E\n")  -- random 23
    ∷ with 5 (accepted_in 64 "LNM\0;\u{3}DSa4\u{1b}:;DF\u{b};E" 0 0 0 "E\n")  -- random 25
    ∷ with 9 (in_calls (186 ∷ 110 ∷ 146 ∷ []) (refused_in 65536 "DS984;  \0L^A;R140 -357 220 ;B003 19361 16777214 -10192; DF;DS62 ; L 9Z;B1\u{7f}15488G267 5 5 3 ;B367 1 13237 -297 ;C741TGCS923 435R-0 -1;DF;DS741;L[CM;C984R\u{1b}0 0050M\r\naX ;B Q262 3 -0 0 8 0;DF;C62;C62; DD497;E" 16 28))  -- random 26
    ∷ with 32 (rounded_in 64 "DS5 3 2;\n  C1R-1 0 R0 1;LC2;\n\nLE4;\r\nB39 51 1 49;B52 28 -49 20;LA;\nB73 91 25 35 1 1;\r\nDF;\nDS1 2 1;LC2;P16 -21 16 0 0 -21;\nC0MX;DF;\nE" 0 0 0 9 "E\n")  -- random 29
    ∷ with 64 (accepted_in 65536 "DS168;L CM#;B1 5719 7 129;B1 10062 9 -392 -1000_0;C711T914 -000000000000000000000000000000446^`R-1 0R16777215 0;DF;*\tDS711;L0/oo;W1 -5 180 0 -000 -000H'-0 5 0 7 3;=xyz=DF; DS536;L 0001a;C168;B36 2 -11241 224\"-17 0 ;C168;DF;C536; E " 7 5 0 "LCM;\nB1 5719 7 129 1 0;\nB1 10062 9 -392 -1000 0;\nL0;\nW1 -909 266 -914 446 -914 446 -919 446 -921 443;\nL0001;\nB36 2 -11241 224 -17 0;\nLCM;\nB1 5719 7 129 1 0;\nB1 10062 9 -392 -1000 0;\nL0;\nW1 -909 266 -914 446 -914 446 -919 446 -921 443;\nE\n")  -- random 32
    ∷ with 3 (accepted_in 64 "DS689 ; L\t{NM; R1 11051 5 ;B\u{7f}B_8388608 14578 366 -304 -2+0 ;DF;\r\n_C689;E" 2 1 0 "LNM;\nR1 11051 5;\nB8388608 14578 366 -304 -2 0;\nE\n")  -- random 36
    ∷ with 32 (accepted_in 65536 "@DS562 ;LNM;C442 R0 -1MY_T546 30;DF;DS442~;L0;DF;C562;C562;DD312; E" 0 4 0 "E\n")  -- random 41
    ∷ with 32 (accepted_in 65536 "DS661 ;LZZZZ/~;P-09558 0 67 -1 0 0 0 0;@+ RW6 0 -299;C28R0 -16777215T 797ooP\u{1b}-837R1 0;DF;DS28 ;LNP;B16777214 7904 0 11665 0 -17;C628 MXT39 -377;\u{b}C 628R\u{b}0[-1MX ;R1 0 0;DF; DS628;L0001;W4 8388607 0 8 8 8439 2;R192 74 00423;DF;DS584;LA#~; C661;P0 4 -16777215 -0 242 408;DF ;C584;E" 9 5 0 "LZZZZ;\nP-9558 0 67 -1 0 0 0 0;\nR6 0 -299;\nLNP;\nB16777214 7904 12462 -837 -17 0;\nL0001;\nW4 420 8387731 428 -868 422 7563;\nR192 843 -802;\nW4 -8387810 -837 789 -829 -7642 -835;\nR192 723 -414;\nLNP;\nR1 797 -837;\nLA;\nP0 4 -16777215 0 242 408;\nE\n")  -- random 42
    ∷ with 3 (accepted_in 65536 "DS850;L0/\u{1b};C927\nT-678 381MX^T312 160#;DF;DS927;L ND;P -19514 0 10341 483 -124 5632;~:DF;C927\n[;E" 1 1 0 "LND;\nP-19514 0 10341 483 -124 5632;\nE\n")  -- random 43
    ∷ with 2 (in_calls (51 ∷ 4 ∷ []) (refused_in 64 "DS1;C2MX;DF;DS2;C3R0 1;C999;LA;LQ;R1 2 0;DF;DS3;DF;C1;E" 21 16))  -- random 44
    ∷ with 5 (accepted_in 64 "LC2;P-26 -43 -26 0 0 -43;DS1 3 2;LE4;C0;\n  P40 -12 40 0 0 -12;\nDF;\nE" 1 0 0 "LC2;\nP-26 -43 -26 0 0 -43;\nE\n")  -- random 45
    ∷ with 1 (in_calls (34 ∷ []) (refused_in 65536 "DS1;C2T1 0;DF;DS2;C3;DF;DS3;C4;DF;C2;E" 21 18))  -- random 46
    ∷ []

pub hold-7 : Each HoldsWith rows-7
unfolding all_recorded rows-7
hold-7 = each_recorded rows-7 tt

pub rows-8 : List Recorded
rows-8 =
    with 32 (accepted_in 65536 "LE4;P-27 41 -27 0 0 41;DS3;DF;DS2;DF;C3R-1 0 MX;E" 1 1 0 "LE4;\nP-27 41 -27 0 0 41;\nE\n")  -- random 47
    ∷ with 0 (refused_in 0 "DD0;DS0;LA;P-18 -32 -18 0 0 -32;R9 17 32;DF;DD1;C0;C0;E" 21 48)  -- random 50
    ∷ with 31 (accepted_in 65536 "`DS788;L0001 ;C 779M Y;C779;DF;{DS779;LABCD;W1 -352 0 0 -7;R325 -2 7;DF; C779; C788; DD271;E" 6 4 0 "LABCD;\nW1 -352 0 0 -7;\nR325 -2 7;\nW1 -352 0 0 7;\nR325 -2 -7;\nW1 -352 0 0 -7;\nR325 -2 7;\nE\n")  -- random 55
    ∷ with 4 (rounded_in 65536 "DS900 3 2;C8 MYT-1 -55;LE4;DF;DS8 2 1;C3;DF;LD;B45 80 23 34 0 1;DS8 3 2;C3R0 1;DF;B81 60 16 26 1 1;LA;B33 24 -36 -33 1 0;DS16777215 1 1;9u C1;C3 R-1 0;DF;DS8 5 3;LA;R6 1 -18;DF;DS3 3 2;DF;C3 MXMY;E" 3 1 2 3 "LD;\nB45 80 23 34 0 1;\nB81 60 16 26 1 1;\nLA;\nB33 24 -36 -33 1 0;\nE\n")  -- random 61
    ∷ with 1 (in_calls (152 ∷ []) (refused_in 65536 "DS1;C2MX;DF;DS2;C5;C3;C4;DF;DS3;C4T1 0;DF;DS4;C6;C5;DF;DS5;C6R0 1;DF;DS6;LCM;LQ;R1 6 0;C7;DF;DS7;LA;LQ;R1 7 0;LQ;R1 7 0;LB;C8;DF;DS8;LB;C8;LQ;R1 8 0;DF;C1;E" 21 4))  -- random 63
    ∷ with 1 (accepted_in 64 "D S3;L\"\u{b}0001oo\r\n;DF;D S57;\u{7f}L/ND;LNM;D*F;LQ7;65;BX,368 320 0 12102\0a; DS9;D\u{b}\r\nF_; E" 1 0 0 "LQ7;\nB368 320 0 12102 1 0;\nE\n")  -- random 65
    ∷ with 0 (refused_in 64 "DS1;LQ;R1 1 0;C2R0 1;LCM;DF;DS5;C6R0 1;DF;DS6;C7R0 1;DF;DS8;C1;DF;DS3;C4MX;DF;DS4;LQ;R1 4 0;C8;LB;C5T1 0;DF;DS2;C1;C3MX;C7;DF;DS7;C8;DF;C3;C1;E" 21 136)  -- random 67
    ∷ with 64 (rounded_in 64 "DS2 5 3;DF;DD4;DS5 2 1;DF;DS0 2 1;LD;B38 98 -28 -11;DF;C0;DS0 5 3;LC2;W4 37 -15 -15 37;DF;DS2 5 3;C1MX;DF;LA;B81 83 -16 -47;E" 2 1 2 3 "LD;\nB76 196 -56 -22 1 0;\nLA;\nB81 83 -16 -47 1 0;\nE\n")  -- random 68
    ∷ with 32 (accepted_in 65536 "DS605;L:A;P00000000043xyz-8974 -4 -3251 -12815 -0xyz';C469[\u{b}T554\u{1b}00000000078; DF ;DS605a;L:A ;P00000000043xyz-8974 -4 -3251 -12815 -0;*/\u{1b}C469[\u{b}T554\u{1b}00000000078;DF ; DS469;L\u{b}ND;/#B7 7 -3 0 1000 0 ; DF;@DS469;L\u{b}ND; B7 7 -3 0 1000 0;,DF;C469 ;E#\t" 1 1 2 "LND;\nB7 7 -3 0 1000 0;\nE\n")  -- random 69
    ∷ with 1 (in_calls (257 ∷ []) (refused_in 65536 "ooDS245;LABCD;C381;DF ;DS163;L ABCD ;xyz  +C625;P8388607 459 -15531 0 6939 -8;DF;\n\"^DS245;LABCD#;C381 ;DF;DS381;+\0*LCM+;B1 431 0 7 000 1;R10078 -2 0000000000;DF;DS625;LNM;C245T-742 218\u{1b}; W13754Z6994 5 372 -16777215 498 -6 85 290 -000 -6236;R4522 0 -4978;DF;C163 ;#@:E" 21 43))  -- random 70
    ∷ with 9 (accepted_in 65536 "DS894;L0;DF;C894;C894; E" 0 2 0 "E\n")  -- random 73
    ∷ with 30 (accepted_in 65536 "DD3;DS16777214;\n  C8;\nLE4;R3 24 -21;\r\nW4 0 -29 -29 0;\r\n(x;\n);\r\nC8 R0 -7 R0 -7;\n  C1 R0 1;\n\nDF;\n\nDS16777214 2 1;\nC8 MY;;\nDF;\nDS8;LD;B3 90 1 -43 0 -3;DF;LE4;P-8 -27 -8 0 0 -27;\r\nE" 1 0 1 "LE4;\nP-8 -27 -8 0 0 -27;\nE\n")  -- random 74
    ∷ with 31 (rounded_in 65536 "DS3;DF;C3 R0 1R-1 0MX R-1 0;LA;P-17 23 -17 0 0 23;DS2;C0 R0 -7;9u C1;LB1;B31 60 -11 -3;DF;DS3 1 1;LA;DF;DS2 3 2;C1 R0 1 T81 -60T26 95 T-98 -53;LD;W7 34 40 40 34;DF;DS5;DF;C3R0 1;C5T44 9;DS3;C2 R0 1MX;LA;P4 -5 4 0 0 -5;DF;DS3;LB1;B28 71 45 -7;B46 60 -13 32 0 1;DF;DD3;E" 1 3 4 4 "LA;\nP-17 23 -17 0 0 23;\nE\n")  -- random 75
    ∷ with 32 (rounded_in 65536 "DS5 2 1;C4MXT92 -48R-1 0MY;DF;DS1 5 3;LC2;R9 2 16;DF;DS3;LB1;W1 24 48 48 24;DF;DS5 3 2;C3;C4 MXR-1 0;LA;P-2 48 -2 0 0 48;R1 43 6;DF;C1;C3;E" 2 2 1 4 "LC2;\nR15 3 27;\nLB1;\nW1 24 48 48 24;\nE\n")  -- random 76
    ∷ with 0 (accepted_in 65536 "DS5;LB1;B5 55 -42 41 -2 0;DF;DS3 5 3;DF;DS5;DF;LE4;B14 56 -19 -15 0 -3;DS1 5 3;;DF;DS2 2 1;DF;DS1;LB1;P-34 -46 -34 0 0 -46;LD;DF;DS2 5 3;DF;E" 1 0 3 "LE4;\nB14 56 -19 -15 0 -3;\nE\n")  -- random 77
    ∷ with 32 (accepted_in 64 " #xyzL\u{7f}ABCD:;\"E  " 0 0 0 "E\n")  -- random 78
    ∷ with 0 (refused_in 0 "DS5 1 1;DF;C5;DS1 1 1;DF;DD4;C1R0 -7;C1R0 1T16 42 R0 -7MY;DD3;DS5 1 1;LE4;C1MY R0 -7;LE4;W2 -50 -6 -6 -50;B72 91 -25 -17;DF;DS2 5 3;C1 T-23 -84;DF;DS1;DF;DD5;LB1;R7 -5 27;C1;C2;E" 21 11)  -- random 82
    ∷ with 2 (rounded_in 65536 "DD8;DD8;DS900 5 3;LE4;P38 -10 38 0 0 -10;C8;LE4;B80 65 38 43 1 0;R4 -33 42;B18 77 36 -14;LE4;W1 -10 -37 -37 -10;DF;DS16777215;LC2;DF;DS900;LC2;R2 6 -20;DF;DD900;DS8 5 3;DF;LC2;R2 -2 0;LA;B87 61 -1 -8;C8;E" 2 1 1 16 "LC2;\nR2 -2 0;\nLA;\nB87 61 -1 -8 1 0;\nE\n")  -- random 87
    ∷ with 31 (accepted_in 65536 ".\u{b}DS513;LABCD; DF; DS759 ;LA;C513R1 0 MXT-175\u{7f}\n.100;~\r\nR@9235 -901 19629;W1 -16777215 -5783 0 0;C\t513 ;DF;DS478;L*\u{b}'ABCD; P0\u{b}10 1435 9 17021 -8388608\t.,129 0;C\u{7f}759M X ;R7913@-6 18173 ;DF; C478 ;C513;E" 4 5 0 "LABCD;\nP0 10 1435 9 17021 -8388608 129 0;\nLA;\nR9235 901 19629;\nW1 16777215 -5783 0 0;\nLABCD;\nR7913 -6 18173;\nE\n")  -- random 88
    ∷ with 32 (accepted_in 65536 " DS974;L'NM;{  ^DF\u{7f};DS974;L'NM;DF;DS404;L 0 ;#C974MX;C974; {DF; C404;DD716 ;aE " 0 3 1 "E\n")  -- random 89
    ∷ []

pub hold-8 : Each HoldsWith rows-8
unfolding all_recorded rows-8
hold-8 = each_recorded rows-8 tt

pub rows-9 : List Recorded
rows-9 =
    with 4 (accepted_in 65536 "DS233_\u{7f};LND  \r\n;\u{7f}R286 8 2218\u{1b}~=;R16777214 0 15970.\t~;{DF;DS40 ;L@@~ND;C\u{1b}a`233T170 301R.-0 -16777215T372 -665;W5 381 -9359 5 -394 181\u{7f}.2;C233T134 830T-870 -147;DF/xyz\u{7f};~{DS233;LND;R286 8 2218;R16777214 0 15970;DF ;C233;DD633;E" 2 1 1 "LND;\nR286 8 2218;\nR16777214 0 15970;\nE\n")  -- random 90
    ∷ with 4 (in_calls (124 ∷ 79 ∷ 14 ∷ 107 ∷ []) (refused_in 64 "DS2;LQ;R1 2 0;C3MX;LA;DF;DS6;C7MX;DF;DS5;C6;DF;DS7;C8T1 0;LQ;R1 7 0;LCM;DF;DS1;C2R0 1;DF;DS4;C5T1 0;DF;DS3;C4T1 0;DF;DS8;DF;C1;E" 21 93))  -- random 92
    ∷ with 4 (in_calls (145 ∷ 121 ∷ 135 ∷ 57 ∷ []) (refused_in 64 "DS8;LQ;R1 8 0;C999;LCM;DF;DS7;C8;DF;DS5;C6R0 1;DF;DS4;LA;C5T1 0;LQ;R1 4 0;DF;DS6;C7MX;LQ;R1 6 0;LB;C8;DF;DS1;C2MX;DF;DS2;C3T1 0;DF;DS3;C4R0 1;DF;C2;E" 21 40))  -- random 93
    ∷ with 9 (accepted_in 64 "LABCD;R 6991 -13288 -3033;61DF9999999999999E);E" 1 0 0 "LABCD;\nR6991 -13288 -3033;\nE\n")  -- random 94
    ∷ with 33 (rounded_in 64 "DS4 1 1;LD;W4 15 -6 -6 15;C2;;DF;DS2 5 3;DF;DD1;DS2;DF;DS2 5 3;C3R0 -7;LD;R3 -28 26;LE4;B61 94 -26 -34;LD;W3 2 -39 -39 2;LC2;R2 -16 7;LB1;P-33 28 -33 0 0 28;DF;DS5 5 3;LD;B22 35 33 39 3 -4;C3 MY;R7 -5 -29;DF;DD1;LC2;P-43 26 -43 0 0 26;E" 1 0 1 18 "LC2;\nP-43 26 -43 0 0 26;\nE\n")  -- random 96
    ∷ with 1 (in_calls (95 ∷ []) (refused_in 65536 "DS810; L\u{1b}=_ZZZZ#@; R 01\u{7f}-8 0 ;DF;[DS509;LA;C810;R7 7592 -8 ;DF; DS509; LA ;C810;R7 7592 -8;DF; C509;\n+/E " 21 75))  -- random 98
    ∷ []

pub hold-9 : Each HoldsWith rows-9
unfolding all_recorded rows-9
hold-9 = each_recorded rows-9 tt
