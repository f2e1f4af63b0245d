-- The vectors of tests/requests/p04.tsv, made into rows by tools/vectors.py: answers that were worked out apart from the definitions.
-- A trailing comment is the vector's name. They stand in batches, so that a row that does not compute is found.
-- Assumes nothing.
use mathlib.Core.List.{List, [], ◌∷◌}
use Rattle.definition.proofs.Rows.{Row, accepted_in, rounded_in, refused_in, on_line, in_calls, Holds, Each, all_hold, each}

pub rows-1 : List Row
rows-1 =
    in_calls (19 ∷ []) (on_line 3 1 (refused_in 1048576 "\nDS1;LA;\nR1 1 0;DF;C1T16777215 0;E" 16 9))  -- both sides 0
    ∷ in_calls (19 ∷ []) (on_line 3 1 (refused_in 1048576 "\nDS1;LA;\nR1 0 1;DF;C1T0 16777215;E" 20 9))  -- both sides 1
    ∷ in_calls (26 ∷ []) (on_line 3 1 (refused_in 1048576 "\nDS1;LA;\nB1 1 -1 0 1 1;DF;C1R0 -1T0 16777215;E" 20 9))  -- both sides 2
    ∷ accepted_in 1048576 "\nDS1;LA;\nR1 0 0;DF;C1T16777215 -16777215;E" 1 1 0 "LA;\nR1 16777215 -16777215;\nE\n"  -- both sides 3
    ∷ refused_in 65536 "" 2 0  -- empty
    ∷ on_line 2 1 (refused_in 65536 ";\r\nC1;E" 12 3)  -- carriage return and line end
    ∷ on_line 3 1 (refused_in 65536 "LA;\nR1 0\n-16777216;E" 3 9)  -- a number on its own line
    ∷ refused_in 65536 "C1;\n\nE\n" 12 0  -- line end only behind the place
    ∷ on_line 2 1 (refused_in 65536 "\nDS1 0 1;\nDF;E" 4 1)  -- 4
    ∷ on_line 4 1 (refused_in 65536 "\nDS1 2 1;\nLA;R1\n8388608 0;DF;E" 6 16)  -- 6
    ∷ on_line 2 2 (refused_in 65536 "\n C1MXMXMXMXMXMXMXMXMXMXMXMXMXMXMXMXMXMXMXMXMXMXMXMXMXMXMXMXMXMXMXMXMX;E" 9 2)  -- 9
    ∷ in_calls (16 ∷ []) (on_line 2 1 (refused_in 65536 "DS1;\nC2R1 1;DF;\nC1;E" 11 5))  -- 11 inside
    ∷ in_calls (22 ∷ 5 ∷ []) (on_line 2 11 (refused_in 65536 "DS1;\nC2;DF;DS2;C3;DF;\nC1;E" 12 15))  -- 12 inside
    ∷ in_calls (13 ∷ []) (on_line 2 1 (refused_in 65536 "DS1;\nC1;\nDF;\nC1;\nE" 13 5))  -- 13
    ∷ in_calls (31 ∷ 14 ∷ 24 ∷ []) (refused_in 65536 "DS1;C2;DF;DS2;C3;DF;DS3;C1;DF;\nC2;E" 13 4)  -- 13, ring of three
    ∷ in_calls (375 ∷ 4 ∷ 14 ∷ 24 ∷ 34 ∷ 44 ∷ 54 ∷ 64 ∷ 74 ∷ 84 ∷ 96 ∷ 108 ∷ 120 ∷ 132 ∷ 144 ∷ 156 ∷ 168 ∷ 180 ∷ 192 ∷ 204 ∷ 216 ∷ 228 ∷ 240 ∷ 252 ∷ 264 ∷ 276 ∷ 288 ∷ 300 ∷ 312 ∷ 324 ∷ 336 ∷ 348 ∷ []) (refused_in 65536 "DS1;C2;DF;DS2;C3;DF;DS3;C4;DF;DS4;C5;DF;DS5;C6;DF;DS6;C7;DF;DS7;C8;DF;DS8;C9;DF;DS9;C10;DF;DS10;C11;DF;DS11;C12;DF;DS12;C13;DF;DS13;C14;DF;DS14;C15;DF;DS15;C16;DF;DS16;C17;DF;DS17;C18;DF;DS18;C19;DF;DS19;C20;DF;DS20;C21;DF;DS21;C22;DF;DS22;C23;DF;DS23;C24;DF;DS24;C25;DF;DS25;C26;DF;DS26;C27;DF;DS27;C28;DF;DS28;C29;DF;DS29;C30;DF;DS30;C31;DF;DS31;C32;DF;DS32;C33;DF;DS33;DF;C1;E" 14 360)  -- 14
    ∷ in_calls (19 ∷ []) (on_line 3 1 (refused_in 65536 "\nDS1;LA;\nR1 0 1;DF;C1T0 16777215;E" 20 9))  -- y beyond
    ∷ in_calls (18 ∷ []) (refused_in 65536 "DS1;LA;R1 0 -1;DF;C1T0 -16777215;E" 20 7)  -- y below
    ∷ in_calls (17 ∷ []) (refused_in 65536 "DS1;LA;R1 1 1;DF;C1T16777215 16777215;E" 16 7)  -- x and y beyond
    ∷ in_calls (21 ∷ []) (refused_in 65536 "DS1;LA;W1 1 0 0 1;DF;C1T16777215 16777215;E" 16 7)  -- first point x, second point y
    ∷ []

pub hold-1 : Each Holds rows-1
unfolding all_hold rows-1
hold-1 = each rows-1 tt

pub rows-2 : List Row
rows-2 =
    in_calls (27 ∷ []) (refused_in 65536 "DS1;LA;P0 0 0 0 0 0 0 1;DF;C1T16777215 16777215;E" 20 7)  -- only a last y
    ∷ in_calls (17 ∷ []) (refused_in 65536 "DS1;LA;R1 1 0;DF;C1R0 1T0 16777215;E" 20 7)  -- x beyond turned to y
    ∷ accepted_in 65536 "DS1;LA;R1 0 0;DF;C1T16777215 -16777215;E" 1 1 0 "LA;\nR1 16777215 -16777215;\nE\n"  -- both at the limit
    ∷ accepted_in 65536 "DS1;LA;B16777215 16777215 0 0;DF;C1T16777215 -16777215;E" 1 1 0 "LA;\nB16777215 16777215 16777215 -16777215 1 0;\nE\n"  -- a reach is no point
    ∷ in_calls (20 ∷ []) (refused_in 65536 "DS1;LA;R1 0 1;C9;DF;C1T0 16777215;E" 20 7)  -- 20 before a later 12
    ∷ in_calls (39 ∷ 21 ∷ []) (refused_in 65536 "DS1;LA;R1 0 1;DF;DS2;C1T0 16777215;DF;\nC2;E" 20 7)  -- 20 two levels down
    ∷ in_calls (504 ∷ 4 ∷ 18 ∷ 32 ∷ 46 ∷ 60 ∷ 74 ∷ 88 ∷ 102 ∷ 116 ∷ 132 ∷ 148 ∷ 164 ∷ 180 ∷ 196 ∷ 212 ∷ 228 ∷ 244 ∷ 260 ∷ 276 ∷ 292 ∷ 308 ∷ 324 ∷ 340 ∷ 356 ∷ 372 ∷ 388 ∷ 404 ∷ 420 ∷ 436 ∷ 452 ∷ 468 ∷ []) (refused_in 65536 "DS1;C2T0 1;DF;DS2;C3T0 1;DF;DS3;C4T0 1;DF;DS4;C5T0 1;DF;DS5;C6T0 1;DF;DS6;C7T0 1;DF;DS7;C8T0 1;DF;DS8;C9T0 1;DF;DS9;C10T0 1;DF;DS10;C11T0 1;DF;DS11;C12T0 1;DF;DS12;C13T0 1;DF;DS13;C14T0 1;DF;DS14;C15T0 1;DF;DS15;C16T0 1;DF;DS16;C17T0 1;DF;DS17;C18T0 1;DF;DS18;C19T0 1;DF;DS19;C20T0 1;DF;DS20;C21T0 1;DF;DS21;C22T0 1;DF;DS22;C23T0 1;DF;DS23;C24T0 1;DF;DS24;C25T0 1;DF;DS25;C26T0 1;DF;DS26;C27T0 1;DF;DS27;C28T0 1;DF;DS28;C29T0 1;DF;DS29;C30T0 1;DF;DS30;C31T0 1;DF;DS31;C32T0 1;DF;DS32;LA;R1 0 16777185;DF;C1;E" 20 487)  -- 20 at 32 levels
    ∷ accepted_in 65536 "DS1;LA;R1 0 1;DF;DS2;C1T0 16777215;DF;C2T0 -1;E" 1 2 0 "LA;\nR1 0 16777215;\nE\n"  -- a point back in range
    ∷ accepted_in 65536 "(Everything; once);\n9 user text;\n;DS 3 2 1; LA; B 4 2 1 0; B 4 2 1 0 0 1; R 6 1 1; W 2 0 0 5 5; P 0 0 4 0 0 4; C 5 T 1 0 MX R 0 1;\n(inside); 7 inside; ; DF;\nDS 5; L BB; R 1 3 5; DF;\nDS 9; C 8; DF;\nC 3; L CC; W 1 0 0; C 3 MY T 10 -10; DD 9;\nDS 5; LZ; R 2 0 0; DF;\nC 5;\nE\n" 14 5 1 "LA;\nB8 4 2 0 1 0;\nB8 4 2 0 0 1;\nR12 2 2;\nW4 0 0 10 10;\nP0 0 8 0 0 8;\nLBB;\nR1 -5 -5;\nLCC;\nW1 0 0;\nLA;\nB8 4 12 -10 1 0;\nB8 4 12 -10 0 -1;\nR12 12 -12;\nW4 10 -10 20 -20;\nP10 -10 18 -10 10 -18;\nLBB;\nR1 5 -5;\nLZ;\nR2 0 0;\nE\n"  -- everything
    ∷ refused_in 1 "\n;\nE" 18 0  -- 18
    ∷ refused_in 65536 "(Everything; once)\u{80};\n9 user text;\n;DS 3 2 1; LA; B 4 2 1 0; B 4 2 1 0 0 1; R 6 1 1; W 2 0 0 5 5; P 0 0 4 0 0 4; C 5 T 1 0 MX R 0 1;\n(inside); 7 inside; ; DF;\nDS 5; L BB; R 1 3 5; DF;\nDS 9; C 8; DF;\nC 3; L CC; W 1 0 0; C 3 MY T 10 -10; DD 9;\nDS 5; LZ; R 2 0 0; DF;\nC 5;\nE\n" 2 18  -- everything, a stray byte at 18
    ∷ on_line 2 8 (refused_in 65536 "(Everything; once);\n9 user \u{80}text;\n;DS 3 2 1; LA; B 4 2 1 0; B 4 2 1 0 0 1; R 6 1 1; W 2 0 0 5 5; P 0 0 4 0 0 4; C 5 T 1 0 MX R 0 1;\n(inside); 7 inside; ; DF;\nDS 5; L BB; R 1 3 5; DF;\nDS 9; C 8; DF;\nC 3; L CC; W 1 0 0; C 3 MY T 10 -10; DD 9;\nDS 5; LZ; R 2 0 0; DF;\nC 5;\nE\n" 2 27)  -- everything, a stray byte at 27
    ∷ on_line 3 4 (refused_in 65536 "(Everything; once);\n9 user text;\n;DS\u{80} 3 2 1; LA; B 4 2 1 0; B 4 2 1 0 0 1; R 6 1 1; W 2 0 0 5 5; P 0 0 4 0 0 4; C 5 T 1 0 MX R 0 1;\n(inside); 7 inside; ; DF;\nDS 5; L BB; R 1 3 5; DF;\nDS 9; C 8; DF;\nC 3; L CC; W 1 0 0; C 3 MY T 10 -10; DD 9;\nDS 5; LZ; R 2 0 0; DF;\nC 5;\nE\n" 2 36)  -- everything, a stray byte at 36
    ∷ on_line 3 22 (refused_in 65536 "(Everything; once);\n9 user text;\n;DS 3 2 1; LA; B 4 2 \u{80}1 0; B 4 2 1 0 0 1; R 6 1 1; W 2 0 0 5 5; P 0 0 4 0 0 4; C 5 T 1 0 MX R 0 1;\n(inside); 7 inside; ; DF;\nDS 5; L BB; R 1 3 5; DF;\nDS 9; C 8; DF;\nC 3; L CC; W 1 0 0; C 3 MY T 10 -10; DD 9;\nDS 5; LZ; R 2 0 0; DF;\nC 5;\nE\n" 2 54)  -- everything, a stray byte at 54
    ∷ on_line 3 49 (refused_in 65536 "(Everything; once);\n9 user text;\n;DS 3 2 1; LA; B 4 2 1 0; B 4 2 1 0 0 1; R 6 1 1\u{80}; W 2 0 0 5 5; P 0 0 4 0 0 4; C 5 T 1 0 MX R 0 1;\n(inside); 7 inside; ; DF;\nDS 5; L BB; R 1 3 5; DF;\nDS 9; C 8; DF;\nC 3; L CC; W 1 0 0; C 3 MY T 10 -10; DD 9;\nDS 5; LZ; R 2 0 0; DF;\nC 5;\nE\n" 2 81)  -- everything, a stray byte at 81
    ∷ on_line 5 6 (refused_in 65536 "(Everything; once);\n9 user text;\n;DS 3 2 1; LA; B 4 2 1 0; B 4 2 1 0 0 1; R 6 1 1; W 2 0 0 5 5; P 0 0 4 0 0 4; C 5 T 1 0 MX R 0 1;\n(inside); 7 inside; ; DF;\nDS 5;\u{80} L BB; R 1 3 5; DF;\nDS 9; C 8; DF;\nC 3; L CC; W 1 0 0; C 3 MY T 10 -10; DD 9;\nDS 5; LZ; R 2 0 0; DF;\nC 5;\nE\n" 2 162)  -- everything, a stray byte at 162
    ∷ on_line 5 24 (refused_in 65536 "(Everything; once);\n9 user text;\n;DS 3 2 1; LA; B 4 2 1 0; B 4 2 1 0 0 1; R 6 1 1; W 2 0 0 5 5; P 0 0 4 0 0 4; C 5 T 1 0 MX R 0 1;\n(inside); 7 inside; ; DF;\nDS 5; L BB; R 1 3 5; DF\u{80};\nDS 9; C 8; DF;\nC 3; L CC; W 1 0 0; C 3 MY T 10 -10; DD 9;\nDS 5; LZ; R 2 0 0; DF;\nC 5;\nE\n" 2 180)  -- everything, a stray byte at 180
    ∷ on_line 6 8 (refused_in 65536 "(Everything; once);\n9 user text;\n;DS 3 2 1; LA; B 4 2 1 0; B 4 2 1 0 0 1; R 6 1 1; W 2 0 0 5 5; P 0 0 4 0 0 4; C 5 T 1 0 MX R 0 1;\n(inside); 7 inside; ; DF;\nDS 5; L BB; R 1 3 5; DF;\nDS 9; C\u{80} 8; DF;\nC 3; L CC; W 1 0 0; C 3 MY T 10 -10; DD 9;\nDS 5; LZ; R 2 0 0; DF;\nC 5;\nE\n" 2 189)  -- everything, a stray byte at 189
    ∷ on_line 7 11 (refused_in 65536 "(Everything; once);\n9 user text;\n;DS 3 2 1; LA; B 4 2 1 0; B 4 2 1 0 0 1; R 6 1 1; W 2 0 0 5 5; P 0 0 4 0 0 4; C 5 T 1 0 MX R 0 1;\n(inside); 7 inside; ; DF;\nDS 5; L BB; R 1 3 5; DF;\nDS 9; C 8; DF;\nC 3; L CC;\u{80} W 1 0 0; C 3 MY T 10 -10; DD 9;\nDS 5; LZ; R 2 0 0; DF;\nC 5;\nE\n" 2 207)  -- everything, a stray byte at 207
    ∷ on_line 7 29 (refused_in 65536 "(Everything; once);\n9 user text;\n;DS 3 2 1; LA; B 4 2 1 0; B 4 2 1 0 0 1; R 6 1 1; W 2 0 0 5 5; P 0 0 4 0 0 4; C 5 T 1 0 MX R 0 1;\n(inside); 7 inside; ; DF;\nDS 5; L BB; R 1 3 5; DF;\nDS 9; C 8; DF;\nC 3; L CC; W 1 0 0; C 3 MY T\u{80} 10 -10; DD 9;\nDS 5; LZ; R 2 0 0; DF;\nC 5;\nE\n" 2 225)  -- everything, a stray byte at 225
    ∷ []

pub hold-2 : Each Holds rows-2
unfolding all_hold rows-2
hold-2 = each rows-2 tt

pub rows-3 : List Row
rows-3 =
    on_line 8 4 (refused_in 65536 "(Everything; once);\n9 user text;\n;DS 3 2 1; LA; B 4 2 1 0; B 4 2 1 0 0 1; R 6 1 1; W 2 0 0 5 5; P 0 0 4 0 0 4; C 5 T 1 0 MX R 0 1;\n(inside); 7 inside; ; DF;\nDS 5; L BB; R 1 3 5; DF;\nDS 9; C 8; DF;\nC 3; L CC; W 1 0 0; C 3 MY T 10 -10; DD 9;\nDS \u{80}5; LZ; R 2 0 0; DF;\nC 5;\nE\n" 2 243)  -- everything, a stray byte at 243
    ∷ refused_in 65536 " " 2 1  -- refusal 2
    ∷ refused_in 65536 "(\u{80});E" 2 1  -- refusal 2
    ∷ accepted_in 65536 "(;);E" 0 0 0 "E\n"  -- refusal 2
    ∷ refused_in 65536 "(()" 2 3  -- refusal 2
    ∷ refused_in 65536 "()E" 2 2  -- refusal 2
    ∷ refused_in 65536 "() ()" 2 3  -- refusal 2
    ∷ refused_in 65536 "DD-0;E" 2 2  -- refusal 2
    ∷ refused_in 65536 "C1R;E" 2 3  -- refusal 2
    ∷ accepted_in 65536 "LA;R1 00 0;E" 1 0 0 "LA;\nR1 0 0;\nE\n"  -- refusal 3
    ∷ refused_in 65536 "LA;R1 99999999 0;E" 3 6  -- refusal 3
    ∷ accepted_in 65536 "LA;R1 -00 0;E" 1 0 0 "LA;\nR1 0 0;\nE\n"  -- refusal 3
    ∷ accepted_in 65536 "LA;R1 0 0016777215;E" 1 0 0 "LA;\nR1 0 16777215;\nE\n"  -- refusal 3
    ∷ accepted_in 65536 "LA;R1 0 -16777215;E" 1 0 0 "LA;\nR1 0 -16777215;\nE\n"  -- refusal 3
    ∷ accepted_in 65536 "LA;W1 0 0 5 -0016777215;E" 1 0 0 "LA;\nW1 0 0 5 -16777215;\nE\n"  -- refusal 3
    ∷ accepted_in 65536 "LA;W1 0 0 5 -00;E" 1 0 0 "LA;\nW1 0 0 5 0;\nE\n"  -- refusal 3
    ∷ refused_in 65536 "LA;P0 0 1 1 -16777216 2;E" 3 12  -- refusal 3
    ∷ refused_in 65536 "LA;P0 0 1 1 99999999 2;E" 3 12  -- refusal 3
    ∷ accepted_in 65536 "LA;B1 1 0016777215 1;E" 1 0 0 "LA;\nB1 1 16777215 1 1 0;\nE\n"  -- refusal 3
    ∷ accepted_in 65536 "LA;B1 1 -0016777215 1;E" 1 0 0 "LA;\nB1 1 -16777215 1 1 0;\nE\n"  -- refusal 3
    ∷ []

pub hold-3 : Each Holds rows-3
unfolding all_hold rows-3
hold-3 = each rows-3 tt

pub rows-4 : List Row
rows-4 =
    accepted_in 65536 "DD16777215;E" 0 0 0 "E\n"  -- refusal 3
    ∷ refused_in 65536 "DD16777216;E" 3 2  -- refusal 3
    ∷ accepted_in 65536 "DS0;DF;E" 0 0 0 "E\n"  -- refusal 3
    ∷ refused_in 65536 "DS16777216;DF;E" 3 2  -- refusal 3
    ∷ accepted_in 65536 "DS1;C16777215;DF;E" 0 0 0 "E\n"  -- refusal 3
    ∷ refused_in 65536 "DS1;C1677721600000000000000000000000000000000000000000000000000;DF;E" 3 5  -- refusal 3
    ∷ refused_in 65536 "DS1;C2T0 0016777216;DF;E" 3 9  -- refusal 3
    ∷ refused_in 65536 "DS1;C2T0  X-1677721600000000000000000000000000000000000000000000000000;DF;E" 3 11  -- refusal 3
    ∷ refused_in 65536 "LA;B1 1 0 0 1 99999999;E" 3 14  -- refusal 3
    ∷ accepted_in 65536 "DS1;C2R1 16777215;DF;E" 0 0 0 "E\n"  -- refusal 3
    ∷ refused_in 65536 "DS1;C2R1 99999999;DF;E" 3 9  -- refusal 3
    ∷ refused_in 65536 "DS1;C2T1 1MXR1  X-0016777216;DF;E" 3 17  -- refusal 3
    ∷ accepted_in 65536 "DS1;C2T1 1MXR1 -0016777215;DF;E" 0 0 0 "E\n"  -- refusal 3
    ∷ accepted_in 65536 "DS1 16777215 1;DF;E" 0 0 0 "E\n"  -- refusal 3
    ∷ refused_in 65536 "DS1 1 0;DF;E" 4 0  -- refusal 4
    ∷ refused_in 65536 "; D S1 00 0;DF;E" 4 2  -- refusal 4
    ∷ accepted_in 65536 "DS1 1 2;DF;LA;R1 1 1;E" 1 0 0 "LA;\nR1 1 1;\nE\n"  -- refusal 5 outside
    ∷ accepted_in 65536 "LA;W1 0 0;E" 1 0 0 "LA;\nW1 0 0;\nE\n"  -- refusal 7
    ∷ accepted_in 65536 "DS1;C1R0 -1;DF;E" 0 0 0 "E\n"  -- refusal 7
    ∷ accepted_in 65536 "DS1;C2MXMXMXMXMXMXMXMXMXMXMXMXMXMXMXMXMXMXMXMXMXMXMXMXMXMXMXMXMXMXMXMX;DF;E" 0 0 0 "E\n"  -- refusal 9
    ∷ []

pub hold-4 : Each Holds rows-4
unfolding all_hold rows-4
hold-4 = each rows-4 tt

pub rows-5 : List Row
rows-5 =
    accepted_in 65536 "DS1;C2T1 1T1 1T1 1T1 1T1 1T1 1T1 1T1 1T1 1T1 1T1 1T1 1T1 1T1 1T1 1T1 1T1 1T1 1T1 1T1 1T1 1T1 1T1 1T1 1T1 1T1 1T1 1T1 1T1 1T1 1T1 1T1 1;DF;E" 0 0 0 "E\n"  -- refusal 9
    ∷ refused_in 65536 "DS1;DF;C1R1 1R1 1;E" 11 7  -- refusal 11 pair makes right angle
    ∷ in_calls (10 ∷ []) (refused_in 65536 "DS1;C2;DF;C1;E" 12 4)  -- refusal 12 inner
    ∷ accepted_in 65536 "DS1;C2;DF;DS2;DF;C1;E" 0 2 0 "E\n"  -- refusal 12 defined between
    ∷ in_calls (20 ∷ 4 ∷ []) (refused_in 65536 "DS1;C2;DF;DS2;C1;DF;C1;E" 13 14)  -- refusal 13 ring
    ∷ accepted_in 65536 "DS1;DF;DS2;C1;C1;DF;C2;C2;C1;E" 0 7 0 "E\n"  -- refusal 13 twice is no ring
    ∷ refused_in 65536 "LA;R1 -16777216 16777216;E" 3 6  -- refusal in command
    ∷ refused_in 65536 "DS1 3 1;LA;R16777215 16777215 16777215;DF;E" 6 12  -- refusal in command
    ∷ refused_in 65536 "B1 1 0 0 0 0;E" 7 0  -- refusal in command
    ∷ refused_in 65536 "R1 0 16777216;(" 2 15  -- refusal in command
    ∷ refused_in 65536 "LA;R1 0 16777216;R0 0 0;E" 3 8  -- refusal in command
    ∷ accepted_in 65536 "LNP[@;\n\n\u{b}3; B18059 3\n{A0~-48 17 0;(\0- ;-a;DFaa\0);\n  DS3 2\t^[1; LNP; LNP ;\n  (DF - \nDF-;\0-E);\nDaF;;DS9;\n*DF ;\n  C9T-3903 -7864 T 0 0013433T2 -14905;\r\nB384K,\t8388608 -0406 464 2#\t0;\n^\u{b};DS7;\r\nLND \u{b}\n;\nL\n~ND;\r\nB250\"424 8 3861 -000^-5;\r\nB207 8641O8388607 -391;R132 5 0;C 3 T-14257A11753MY ;D F;\n\nD S0 00000000016777215 16777215;\nLCM;\n\nC7 M YMY;\n\nDF;\n  B013672D2{-8306 0+oo\u{b};E" 3 1 0 "LNP;\nB18059 3 0 -48 17 0;\nB384 8388608 -406 464 2 0;\nB13672 2 -8306 0 1 0;\nE\n"  -- random 1
    ∷ on_line 20 5 (refused_in 2 "DS11;C12T1 0;DF;\n\nDS25;\n  C26MX;DF;\nDS3;\r\nC4R0 1;C3;\n\nLQ;\r\nR1 3 0;LA;DF;DS23;LQ;\nR1 23 0;C24MX;\nLB;\n  DF;\nDS10;C11MX;\n\nDF;\nDS22;\n\nC23;\nDF;DS26;\nLQ;DS77;\n  LA;\nR1 1 0;\nDF;\n  C77T0 16777215;R1 26 0;\n\nLCM;C27T1 0;DF;DS15;LCM;LQ;\n  R1 15 0;\nC16T1 0;\n\nDF;DS18;C19MX;\r\nDF;\r\nDS29;\r\nC999;\n  DF;DS7;\r\nC8T1 0;LQ;R1 7 0;LB;\n  DF;DS16;\n  C17;DF;DS19;C20R0 1;\n\nDF;DS28;\nC29T1 0;DF;DS13;C14MX;\r\nDF;\n  DS5;LQ;R1 5 0;C6T1 0;\nLB;DF;\n\nDS8;\n\nLQ;R1 8 0;C12;\n  C9;LB;DF;DS27;C28MX;\nDF;\nDS1;\nC2MX;\nDF;\r\nDS17;\nC18MX;LQ;\n  R1 17 0;\nLB;\r\nDF;DS6;\nC7MX;DF;\r\nDS4;C5T1 0;\nDF;DS2;\n\nC3;DF;DS24;\r\nLQ;R1 24 0;\nC25;\n\nLCM;DF;DS12;C13;DF;\n\nDS14;\nC15T1 0;\n\nDF;DS21;\n\nC22R0 1;C30;\n\nDF;\n\nDS20;\n\nC21MX;DF;DS9;\nC10R0 1;DF;\n  C1;\n  C1;\nE" 2 148)  -- random 3
    ∷ accepted_in 4096 "LZZZZ; ;DS1;LABCD ;\nB172 8 15869 -400;LA;D F;\n DS5 16777215 1; 66(;C1R1 1; L0;DF;\n\n R367 19 -174;DS57 1 1;\r\nL NM;\n;B473 12 -2941 8388607 -2 0; (E9 ;DF ;\r\n);DF; E" 1 0 0 "LZZZZ;\nR367 19 -174;\nE\n"  -- random 5
    ∷ in_calls (25 ∷ []) (refused_in 2 "437 0 457 0;DS77;C77;DF;\nC77;\n  +E " 13 17)  -- random 7
    ∷ on_line 2 5 (refused_in 65536 "L9Z;C1R1 1;W+=#00372 005`_L-77\nUQ-2" 2 35)  -- random 8
    ∷ refused_in 2 "DS3 2 1;LA;\r\nC0MY;LB1;B66 47 44 -22;\n  DF;DS1 3 2;LB1;B20 61 -33 20 -2 0;\nLD;R2 9 -46;LC2;\r\nP-4 45 -4 0 0 45;R6 -13 -32;LA;W1 48 -29 -29 48;C0 R0 1R0 1 R-1 0 R0 1;DF;DS0;LA;B90 45 -17 -9 1 0;\r\nLA;B47 15 6 29 1 0;\n9u C1;\nDF;\nDD1;\nDD2;\nDS3 1 1;LA;B34 58 26 -27;\n\nDF;\n  LE4;B33 98 -24 -18;\nDS5;LC2;B86 12 48 47;\nLD;B33 40 40 -20;W8 -15 -38 -38 -15;C3;DF;\r\nC0T70 -99R-1 0 MYT-30 72;\nDD0;\nE" 18 0  -- random 9
    ∷ on_line 11 3 (refused_in 65536 "DS5;\n  DF;\nDS1 5 3;LB1;R7 30 -22;R7 24 -38;B76 47 -46 -8;\n\nDF;\n\nDS16777214 3 2;C57;\nC5;\nDF;C1;\n  DD5;DS1 3 2;DF;\n  C1R1 1;\n  E" 11 115)  -- random 10
    ∷ refused_in 2 "DS2 2 1;\n\nLD;R2 37 -50;C57T-41 25T92 95;C2R0 -7;B93 33 14 -21;DF;\nDS57 5 3;\n  LA;\nP23 11 23 0 0 11;LA;R4 7 -38;LE4;W7 22 -4 -4 22;LE4;W5 -44 -29 -29 -44;\n\nC2T38 -86;DF;\n\nDS16777214;\nLE4;B60 91 6 11 3 -4;\r\nDF;\r\nLC2;\nW7 40 -12 -12 40;DS16777215 3 2;\n  LC2;\nB32 98 49 9 3 -4;\n  C5;C2MX;\r\nC5;\nDF;\r\nDD5;DS5 1 1;LB1;\n  P15 -37 15 0 0 -37;LC2;\nP-39 0 -39 0 0 0;C2 R0 1 T-71 -3 MY R0 -7;\r\nR8 42 -7;\nC2 R-1 0;\nLB1;\r\nB75 86 -18 24;\n\nDF;\r\nDS2;DF;C2R0 -7;DS5 1 1;\r\nLB1;\r\nP39 30 39 0 0 30;\n\nP13 7 13 0 0 7;\n\nB69 45 47 48 1 0;DF;C2 R0 -7MX;DS2;\r\nLC2;W6 32 47 47 32;DF;\n\nDD16777214;\r\nC2T-34 82R0 1;\n\nC2R0 1;\n\nDS5 5 3;\n  C16777214 MX MY R0 -7 R-1 0;\nLB1;\nR5 -6 22;\r\nDF;E" 18 0  -- random 12
    ∷ on_line 72 7 (refused_in 65536 "DS29;C30;\r\nDF;DS4;C5;DF;\n  DS17;\nC18MX;DF;\r\nDS25;LQ;R1 25 0;\n\nLCM;C26T1 0;DF;DS23;\r\nC24;\r\nDF;\n  DS31;\nC32;\n\nDF;\n  DS27;\nC28MX;\n  DF;\r\nDS16;\n\nC17T1 0;\n  DF;\n  DS22;C23T1 0;\n\nLA;LQ;\n  R1 22 0;DF;DS1;\nC2T1 0;DF;DS7;\nC8;\n\nDF;\nDS3;C4R0 1;\n  DF;DS18;C19R0 1;\n  DF;\nDS32;\n  C33;\nC33R0 1;DF;DS20;\n  C21R0 1;DF;\n  DS11;\n\nC12R0 1;DF;\r\nDS6;\nC7;\r\nC10;\r\nDF;DS30;\n\nC31T1 0;\nDF;\nDS5;\r\nC6MX;DF;DS10;C11;\n\nDF;\nDS26;C27;DF;\n  DS28;\nC29R0 1;\r\nDF;\n\nDS2;\nLCM;\n\nLB;\nLQ;\r\nR1 2 0;C3MX;LQ;\n  R1 2 0;DF;\n  DS34;DF;DS33;\nC34;DF;DS19;C20R0 1;\r\nDF;DS24;C25MX;\n\nDF;DS15;\nC16;\r\nC20;\nDF;DS8;C9;\n\nDF;\r\nDS14;DS77;LA;R1 1 0;\n\nDF;\n  C77T16777215 0;\n  C15R0 1;\n  DF;DS12;C13R0 1;DF;\n\nDS21;C22MX;\n  DF;DS13;LB;LA;LQ;\nR1 13 0;\r\nC14R0 1;LQ;R1 13 0;DF;\r\nDS9;C10MX;DF;\r\nE" 2 575)  -- random 13
    ∷ []

pub hold-5 : Each Holds rows-5
unfolding all_hold rows-5
hold-5 = each rows-5 tt

pub rows-6 : List Row
rows-6 =
    in_calls (757 ∷ 6 ∷ 23 ∷ 54 ∷ 72 ∷ 87 ∷ 117 ∷ 135 ∷ 148 ∷ 163 ∷ 181 ∷ 198 ∷ 238 ∷ 267 ∷ 304 ∷ 351 ∷ 371 ∷ 390 ∷ 420 ∷ 466 ∷ 478 ∷ 495 ∷ 514 ∷ 545 ∷ 574 ∷ 594 ∷ 616 ∷ 630 ∷ 647 ∷ 664 ∷ 680 ∷ 696 ∷ []) (on_line 78 9 (refused_in 4096 "DS1;\r\nC2R0 1;\r\nDF;DS2;\nC3T1 0;DF;DS3;\r\nLA;LQ;R1 3 0;\n\nC4T1 0;\nDF;\nDS4;\n\nC5R0 1;DF;\nDS5;C6;\nDF;DS6;\nLQ;\n\nR1 6 0;\nLB;\r\nC7R0 1;\nDF;\n  DS7;C8MX;\nDF;DS8;C9R0 1;DF;\nDS9;C10MX;\nDF;\nDS10;\r\nC11R0 1;DF;\nDS11;C12;\nLQ;\nR1 11 0;\nLCM;\n  DF;DS12;LCM;\n  C13R0 1;LQ;R1 12 0;\r\nDF;DS13;C14;LCM;LQ;\nR1 13 0;\n\nC14MX;DF;DS14;\nC15;DF;\n\nDS15;LA;LQ;\nR1 15 0;\r\nLQ;R1 15 0;LB;\n\nC16T1 0;DF;\n  DS16;\nC17MX;DF;\r\nDS17;\n  C18MX;\n  DF;DS18;\r\nLQ;R1 18 0;C19R0 1;\n  LCM;\r\nLCM;\n\nLQ;R1 18 0;\nDF;DS19;\n  C20;DF;DS20;C21T1 0;DF;\nDS21;C22R0 1;\nDF;DS22;\n\nC23;\r\nDF;\nDS23;LQ;R1 23 0;\n\nLA;C24MX;LB;LQ;R1 23 0;DF;\nDS24;C25T1 0;\n  DF;\nDS25;C26T1 0;\n  DF;\n  DS26;C27;\r\nDF;DS27;C28;\n  DF;\nDS28;\nC29;\n\nDF;\n  DS29;C30R0 1;DF;DS30;C31MX;DF;\nDS31;\nC32T1 0;\n  DF;\nDS32;LB;C33T1 0;LQ;R1 32 0;\n  DF;DS33;DF;C2;\n\nC1;\nE" 14 719))  -- random 14
    ∷ in_calls (105 ∷ []) (on_line 9 1 (refused_in 0 "DS4 3 2;LA;DF;\nLC2;P-19 -27 -19 0 0 -27;DS3;LD;9u C1;\n\nLC2;\r\nP-4 -48 -4 0 0 -48;DF;\nC4;\r\nDS77;\n\nC77;\n\nDF;C77;\nC3;\nE" 13 96))  -- random 17
    ∷ on_line 3 12 (refused_in 65536 ":.L\u{1b}NM\r\n;DS77;LA;R1 1 0;DF;C77T0 16777215;oo[BX*@519 7481^0  +0 ;/\r\n;C57_+M^X^ D_S114 ;LCM\u{7f};C.2[M\nY\u{7f}=:T\0-463@ 0000000000000000000000000000000;#+DF ;\u{7f}Exyz" 2 79)  -- random 18
    ∷ on_line 2 7 (refused_in 65536 "LND; D D100;DS7 1 16777215;LNM; R16777215 0 0;\r\nLABCD\u{7f}B16777215 16777215 0 0 ;\n\nD F;\n  C 7 ;\r\n DD0 ;DS77;\n  LA;\nR1 0 9;DF;C77R0 1T-16777215 0;E" 2 54)  -- random 20
    ∷ refused_in 0 "DS900 5 3;DF;\r\nDS900;C3 R0 -7;\n  LA;W4 27 -33 -33 27;\n  \nDF;\n\n\n  DS0 2 1;LD;\nW2 -3 44 44 -3;\n\nDF;\r\nDS16777215 3 2;C16777214T22 -31R-1 0;\n\nLA;\nB49 96 -1 -7;\r\nDF;\n  \n  DS16777215 5 3;\n\n  C0T76 -57;\nLB1;\nW5 -24 -1 -1 -24;\n\nDF;\n  LE4;\nR9 41 -18;\n\nDS16777214;\nLA;\nP-49 40 -49 0 0 40;\n\nC3R0 -7;W4 43 -11 -11 43;\r\nC900R0 -7;\nR6 12 46;\n  \n\nR7 33 22;DF;\nC0;DS16777215;\n\n\n\n(x;\n  \r\n);\r\n\r\nLC2;\r\nDF;\nC16777215;\n\n\nDD0;\nDS3;\n\r\nC0R0 1;C0;\n\nLC2;B16 72 39 49;\nC0 R0 -7 R-1 0 T-3 -57 R-1 0;B52 57 -15 25 1 1;DF;\n\n\r\nDS0 5 3;\n\r\nDF;\n\nDS16777214 5 3;\n  LB1;\n\n\nP-6 -22 -6 0 0 -22;\r\n\nB47 71 -23 45 1 1;\n  \r\nB88 12 0 2;\r\nDF;\n\n\nDS3 1 1;\n  LB1;\r\nB89 96 28 2;\n  DF;\r\nDS16777215;\n\nLE4;B42 59 41 -17 3 -4;\n\nDF;\n  \r\nC3;\nC0T51 64;\r\n\nB80 38 43 40;\r\n\n  E" 18 0  -- random 22
    ∷ accepted_in 4096 "\r\nL'9Z'a;E{#" 0 0 0 "E\n"  -- random 24
    ∷ accepted_in 65536 "D:.D'8#;\u{1b}Eoo~" 0 0 0 "E\n"  -- random 25
    ∷ accepted_in 65536 "DS114 50 2 ;L 0001;B44 52 98 34 -9 -1;DF;\r\nE" 0 0 0 "E\n"  -- random 28
    ∷ rounded_in 4096 "DS5 2 1;\n  LA;\n  DF;C5;DD3;DD0;DD0;\n  DS0 2 1;LB1;\nLA;\nW6 -5 -12 -12 -5;\nC5;W3 45 35 35 45;DF;DSE5 3 2;\nDF;DD0;DS4 1 1;\nLA;R1 7 5;\n\nB40 33 -17 33 1 0;LE4;B81 81 -34 32;\n\nP-29 33 -29 0 0 33;DF;\r\nLA;B34 59 41 22;\n  DS1 3 2;\nLB1;\r\nC0;LC2;\n  B89 22 -12 38 1 1;LC2;\n\nR7 -18 -3;\nC5;DF;\n  DS5 1 1;C1 MY;\r\nDF;DS3;C0;\nLA;B71 30 41 -12 3 -4;\n  LD;B56 51 27 -30;;DF;\nDS1 3 2;LD;\n  R8 48 4;\n\nj0 R-1 0 MY MXMX;\r\nC0 MX;\r\nC4MYMYMY R0 1;B6 37 7 -46 3 -4;LD;B37 56 -34 -32;\r\nDF;C4MYR0 -7 R0 -7R-1 0;\r\nE" 5 2 1 6 "LA;\nB34 59 41 22 1 0;\nR1 7 -5;\nB40 33 -17 -33 1 0;\nLE4;\nB81 81 -34 -32 1 0;\nP-29 -33 -29 0 0 -33;\nE\n"  -- random 31
    ∷ in_calls (33 ∷ []) (on_line 4 4 (refused_in 65536 "LQ;\r\nR1 0 0;\r\nDS4;\nLA;R1 1 1;DF;\nC4T0 16777215;DS77;\nLA;\r\nR1 1 0;DF;\n  C77T16777215 0;\n  LQ;\nE" 20 22))  -- random 32
    ∷ on_line 4 13 (refused_in 65536 "LND ; L0;(9aDF;\n DF\n\n9);DS0 7 3;DS77;\nLA;\n  R1 1 0;DF;\nC77T0 16777215;\nL ND; (9;E(DFE- )(DF));(a);LCM;\n  DF;LND ;R2535 285 -16777215;\n DS9 16777215 1 ;\n\nL0;;\n  (DF;\n9\n a\n 9\0\n;);DF;R429 0 -16777214;E" 2 33)  -- random 33
    ∷ accepted_in 65536 "L~#\u{7f}ABCD`;\nDaS9 50K2 ;\n   ~\nL ZZZZ;^_L ND; B6 82 14 -104 9 -6;\n D F;\nD@D  8;,*D S7 ;\nLNP ;\n DF;\n/C 7={\u{7f};DSxyz+ 2 2 1;LABCD;\n(;DF\nE\nE);\n\nL9Z;W9 24@-22 16 -31 ;\n\n\nDF;\r\nC7MY=T`_-14245 -8388608~\0;\nRK`\t824 9 8 ;\r\nDS0\u{7f}/\02 01;\u{1b}DF;\r\nB361,03431 0U16777214;R 66 -12935:\0233;E" 3 2 0 "LABCD;\nR824 9 8;\nB361 3431 0 16777214 1 0;\nR66 -12935 233;\nE\n"  -- random 36
    ∷ on_line 6 1 (refused_in 4096 "\"'L,CM@#;R16762 9 0;\n\nC999;\" aC7M XMXMX~T:I-98 -0093\n#;R5 -227 2;C16777215R-0 0T-120 12028'\n/T -00X 10894MX;\r\n" 2 110)  -- random 37
    ∷ accepted_in 65536 "^L+ =0001\u{b}\u{7f}oo;\n. R7941\0R -2 -002553 ;\n  LNP@;\n\t;D=S05J2 001 a\r\n;\n  \"L0001*;\n  \nDF\u{1b},+;oo#\u{b}R000000000190T -16722\txyz0;\r\n,`DSU4K\u{1b} 1D001;L0;\nCX5 ;\"\u{1b}~D[F;\na(9EE9DF\0-DFDFa\n;)\n;\n E  {+" 2 0 0 "L0001;\nR7941 -2 -2553;\nLNP;\nR190 -16722 0;\nE\n"  -- random 38
    ∷ accepted_in 2 "E" 0 0 0 "E\n"  -- random 42
    ∷ refused_in 2 " LABCD;C1R1 1;E" 11 7  -- random 43
    ∷ accepted_in 65536 "DS5 5 3;DF;DS2 1 1;LC2;C0;B7 12 -18 -31 0 -3;C0 R0 -7 R0 1;LB1;B93 86 50 -4 3 -4;C0R-1 0 MY R-1 0 R0 1;DF;C5R0 1 T-25 29;C5MXR0 -7 R0 -7 MY;C5 T-35 -92;C5;LE4;R8 -3 -10;C5 T-91 93;C5;DS5;LB1;P17 -25 17 0 0 -25;B46 89 -20 -6;LE4;B77 52 45 -3;DF;C5 R0 -7;C5;E" 7 8 1 "LE4;\nR8 -3 -10;\nLB1;\nP-25 -17 0 -17 -25 0;\nB46 89 -6 20 0 -1;\nLE4;\nB77 52 -3 -45 0 -1;\nLB1;\nP17 -25 17 0 0 -25;\nB46 89 -20 -6 1 0;\nLE4;\nB77 52 45 -3 1 0;\nE\n"  -- random 44
    ∷ refused_in 65536 " LNP; \u{95}" 2 6  -- random 45
    ∷ on_line 2 1 (refused_in 2 "L0;\r\nBQ0\u{b}492 -0 8388607 -1 0;DS@=57 1 2;\nL9Z~:;{`C1M YTa=V6 -16777215R0 0MY;\r\n;\n  DF';\n\nB_4375 10000000000000000000000000 -0012730 0000000000000000000000000000005;\n@;\r\n D+D16777215[  ;\nR8[0@\u{1b}18213; R11469\t  D-11634 0;CQ57T_\u{7f}[6668 9MX;~D'S7[1Z000000000000000000000000000000100^\0@;L,ND;=P +00000000016777215 16777215 -5100 -2000*\n3100 -0000000000000000000000000000001700 -2400 -1500 -1000@[-3400 ;\n65 E)DF);^xyzW0000000000000000000000000000000 1700 0000000000000000000000000000004400;DF^;\n  C\n7;\n\nDxyzS2;{ \u{7f}LNP;CM +57 ;\nD{\u{b}F;\nDS77;LA;\nR1 0 9;DF;\r\nC77R0 1T-16777215 0;\n\n=DSxyz{[4 1 1;\nDF;@E\t" 7 5)  -- random 46
    ∷ refused_in 65536 "DS9L0 ;DS77;\nC77;DF;\n\nC77;\n\nDF;\r\nE" 2 6  -- random 47
    ∷ []

pub hold-6 : Each Holds rows-6
unfolding all_hold rows-6
hold-6 = each rows-6 tt

pub rows-7 : List Row
rows-7 =
    refused_in 4096 "DS3;DF;DS2;C3MX;DS77;C998;DF;DF;DS1;C2;DF;C1;E" 2 17  -- random 48
    ∷ rounded_in 4096 "DD900;DS0;DF;DS0 5 3;\n  9u C1;DF;DS900;\n\nC5;\r\nC0;LC2;\nP37 -2 37 0 0 -2;\n  DF;\r\nDS900 3 2;\nLC2;\n\nP-34 -24 -34 0 0 -24;B57 94 -27 24;;\n  C0R0 1;W1 -36 -18 -18 -36;\r\nC0;DF;DS900;\n\n(x;\r\n);LB1;B36 25 -39 24 1 1;W3 29 26 26 29;\nR9 14 -24;DF;\n\nDS900 3 2;\n  C5T-11 4;\nC0 MXR0 -7;\nC0R-1 0;LE4;B89 46 12 12;\r\nLD;C5 R0 1;DF;DD0;\nDD0;DS5;LE4;W2 -6 -44 -44 -6;R9 13 42;P-48 5 -48 0 0 5;\n\n;DF;C5;C5;\nDS900 2 1;LA;R5 27 37;\nB52 30 26 12;LD;B91 41 -34 6;W8 -8 -45 -45 -8;\nLE4;\nW5 -47 -40 -40 -47;\nDF;LD;\nP20 27 20 0 0 27;DS0 3 2;\r\nLD;P-39 -19 -39 0 0 -19;DF;\n\nDS5 1 1;\n  LC2;LA;\nLC2;B39 71 39 -34 3 -4;\n  DF;C5 R-1 0;\n\nDS900;LB1;W6 -30 -23 -23 -30;\nDF;DS900 2 1;LB1;\n\nB15 30 -47 7 1 0;C5 R0 1;C0 MX;C5MY;\nLA;B97 17 6 -24 -2 0;\nB5 9 7 20;\nDF;\nDS0;\nDF;\n\nC5;C900;\n  C0;\n\nE" 14 9 8 9 "LE4;\nW2 -6 -44 -44 -6;\nR9 13 42;\nP-48 5 -48 0 0 5;\nW2 -6 -44 -44 -6;\nR9 13 42;\nP-48 5 -48 0 0 5;\nLD;\nP20 27 20 0 0 27;\nLC2;\nB39 71 -39 34 -3 4;\nB39 71 39 -34 3 -4;\nLB1;\nB30 60 -94 14 1 0;\nLC2;\nB39 71 34 39 4 3;\nB39 71 39 34 3 4;\nLA;\nB194 34 12 -48 -2 0;\nB10 18 14 40 1 0;\nE\n"  -- random 49
    ∷ on_line 8 23 (refused_in 0 "DS3 4 6;\r\nDF;\r\n16\n;\n   DD8;LND;\r\nW1 0 -1 -7 4527;C3 ;\nDS57;L0001 ;\n   R 128 -6 9;R1 0 -3 ü;\n  D F;\n\nC57T0 -10447MY;L0;\n E " 2 89)  -- random 50
    ∷ on_line 14 56 (refused_in 0 " L ABCD. ~;xyz\r\n=R \0\u{7f}5GR\"65#09615xyz;\n\n  W@2oo  -2\t*/9^214.\r\nK0 Y#440\n+1=\u{b};DS'L@4+16777215_1.';\n\nL\u{b}ABCD;\nC +7@M @X\u{1b}\"\u{7f};\n91-;_C3 TL/{000`oo\n0  \r\n;\n\noo~W~FO0000000000000000000000000000001'#0000000000V0 0 -16777215;\n_C3 TL/{000`oo\n0  \r\n;\nC\t3M\u{7f}Y{;D\nF;xyz[D\0\"\u{1b}SS3\u{b}002L1oo_;#+\tLooQ7\u{7f}\u{7f};\r\na\n+DxyzF\u{b}oooo;\n`^_D[ Soo{\00000000001a0000000000000000000000000000001K1; \n_D +,F;DS77;\r\nLA;\nR1 1 0;\nDF;C77T16777215 0;\nE ^\u{b}" 6 201)  -- random 51
    ∷ refused_in 0 "\0^L  A\"oo\t;\n\"B1FS/1 \0A-4=-7513+0Y2\t;\r\n17;DS^H  16777215oo~a1_1:+;\n\nxyz  L +Q7\u{1b}/;(\n\nDF\n\n9E-\0;\r\n-DF)a;\r\naDxyzF  \"~;20;/L+Q7#a;D\"Sa`\"9=E 00100 0000000001;\nD~F;E\u{b}" 18 0  -- random 52
    ∷ accepted_in 4096 "[LQ7 ;E" 0 0 0 "E\n"  -- random 53
    ∷ on_line 8 23 (refused_in 4096 "DS5 2 1;DF;\r\nDS0 3 2;\nLB1;\n\nW4 -48 24 24 -48;\n\nDF;\nC5 T-43 92 MY;C5R-1 0;C999;\nC5;\nC0;\nE" 12 73)  -- random 54
    ∷ accepted_in 2 "\nDS\u{b}16777215\u{1b}16777215H1//oo;[L\00001~;_[^C7MY;#B1@T\"1U0X\u{b}{0L#0_-17a;{= D`F, a;\nD{S16777215 oo02 1_;   ,D+^\tF/:;#\"(-;()\n;;-;)  ;^L, +0a  ;a76\n;oo_=DSHT0a16777215\n16777215;L \"_9Z:_;~/D'  ooF;E" 0 0 1 "E\n"  -- random 55
    ∷ in_calls (758 ∷ 4 ∷ 17 ∷ 35 ∷ 54 ∷ 66 ∷ 99 ∷ 114 ∷ 133 ∷ 148 ∷ 164 ∷ 218 ∷ 251 ∷ 269 ∷ 290 ∷ 306 ∷ 322 ∷ 369 ∷ 388 ∷ 410 ∷ 429 ∷ 462 ∷ 476 ∷ []) (on_line 56 9 (refused_in 4096 "DS1;C2MX;\nDF;DS2;C3T1 0;\nDF;\n  DS3;C4T1 0;\nC5;DF;\nDS4;C5MX;DF;DS5;C6R0 1;LQ;R1 5 0;\n\nLCM;\n\nDF;DS6;\nC7T1 0;DF;\nDS7;C8R0 1;\n  DF;\r\nDS8;C9MX;\n\nDF;DS9;\nC10MX;DF;DS10;\n\nC11T1 0;LQ;\nR1 10 0;\r\nLQ;R1 10 0;LA;LCM;DF;\n\nDS11;\nLB;C12T1 0;LQ;R1 11 0;\n\nDF;\r\nDS12;\n\nC13MX;\n\nDF;DS13;\n\nC14T1 0;DF;\r\nDS14;\n  C15;\n\nDF;\n\nDS15;C16;\n  DF;DS16;\nC17MX;LA;LQ;R1 16 0;\r\nLQ;R1 16 0;\r\nLB;DF;DS17;\nC18R0 1;DF;\n  DS18;C19T1 0;\nC21;DF;\nDS19;C20MX;\r\nDF;\n\nDS20;\nC21MX;\r\nDF;\nDS21;LQ;R1 21 0;LB;\r\nC22MX;DF;DS22;C23MX;\n\nDF;DS23;C1R1 1;\n\nLB;\n\nC24T1 0;\nC24;\n  LQ;R1 23 0;\n\nDF;DS24;\nC25;\r\nDF;\n  DS25;\n\nC26T1 0;\nDF;DS26;C27MX;\n  DF;DS27;\n\nC28R0 1;DF;\nDS28;LB;C29T1 0;\n  LQ;R1 28 0;DF;\nDS29;C30R0 1;DF;\r\nDS30;C31T1 0;\nC1;DF;\nDS31;\r\nC32R0 1;\r\nDF;DS32;LQ;R1 32 0;\nLA;C33MX;DF;DS33;\n  C34MX;DF;DS34;DF;C1;\nE" 11 492))  -- random 58
    ∷ refused_in 0 "\0E" 2 1  -- random 59
    ∷ refused_in 4096 "L0;DS16777215;LND;P0 0 -6 65 19236 2 0 8388608 6;W1 -9 8388608 7080 3 50 8388608 19157 -000 -341 298; B6 546 211 -4 0 -1;(-;Eaa\n());LCM;DF;(aE);LND;48-DY;L0;DS0;L9Z;B1 8 8388607 -16777215 1 3;B1 1 -2 0 0 -1;DF;DS1;DF ;W 366 8 0 -0 -173;E" 2 48  -- random 61
    ∷ refused_in 0 "xyzDD5 ;\n  D{S114 1 16777215;\n\n;L0001#;\n\t_@DF;\r\n LZZZZ;\n\u{b}~E" 18 0  -- random 62
    ∷ rounded_in 4096 "DS1 3 2;DF;\nC1 MX R-1 0R0 -7R0 -7;DS0 3 2;\n  LB1;\n\nDF;DS1;\nC3R0 -7 R-1 0T-37 -88MY;C3R-1 0;\nDF;\r\nDS1;C0R0 -7;LC2;C0R-1 0 R0 1;\r\nDF;C1R-1 0;\r\nC0 T-30 -41MY MY T-75 -70;DS5;LD;W3 34 48 48 34;\n\nW7 18 11 11 18;\r\nDF;\nDS1;C0;LB1;\n  P-29 -7 -29 0 0 -7;\nC0 MX;DF;DS0 1 1;\n\nLB1;W2 -23 38 38 -23;\nDF;DD16777215;\nC1;DS1;\nLB1;\n\nW1 -13 27 27 -13;\r\nC2R-1 0;DF;C0 R-1 0;\n  DD0;\nDS0 1 1;\n  (x;\n  );LC2;\nR1 -5 -31;LB1;W8 -10 45 45 -10;\nW7 34 -29 -29 34;\nLE4;\n  DF;C0 R-1 0R0 -7;\n\nDS5 5 3;\n\nLE4;\n  C0;\n\nC3 MXR0 -7;B34 37 -6 -20 -2 0;\nC2 R0 1R-1 0;\n\nDF;\r\nC0;\nE" 10 11 5 3 "LB1;\nW2 -23 38 38 -23;\nP-29 -7 -29 0 0 -7;\nW2 23 38 -38 -23;\nW2 23 -38 -38 23;\nLC2;\nR1 31 -5;\nLB1;\nW8 -45 -10 10 45;\nW7 29 34 -34 -29;\nLC2;\nR1 -5 -31;\nLB1;\nW8 -10 45 45 -10;\nW7 34 -29 -29 34;\nE\n"  -- random 63
    ∷ accepted_in 65536 "E" 0 0 0 "E\n"  -- random 64
    ∷ accepted_in 4096 "\u{1b}/L`Q7\0#+;82DF aDF999\u{19}9999999;\r\nooE" 0 0 0 "E\n"  -- random 66
    ∷ on_line 4 3 (refused_in 2 "L9Z;LCM; DS114 1 100[\t;L0:;\r\nLABCD;\n  LA ;\n@R16777216 -4100E-00000000000000000000000000000016777215;C2@ .R#50 0MX#MYMX;\nW400 16777215=RQ0_5 16777215,/;\r\n DF ;BR\u{1b}100000000 32 -007,^0000000000000000000000000000003606;C114MX  \"{R-1 0;\r\nC\u{7f}:114,MX;E " 3 45)  -- random 68
    ∷ on_line 29 11 (refused_in 65536 "DS1 3 2;LE4;\r\n\n  P24 -45 24 0 0 -45;LB1;\r\nB30 12 3 5 1 1;DF;\nDS1;\n\n\nC16777214R0 -7 R0 1;\n\n\n  C16777214MYR-1 0 R-1 0R-1 0;LD;\r\nB13 91 -29 -14;\r\n\n\nDF;\r\n\nDS16777214 5 3;LD;W4 -24 -7 -7 -24;\n\n9u C1;\n\n;B36 77 -29 -24 0 1;\n\n\n  W7 -13 -5 -5 -13;DF;\n\n\nC1 T63 -81 T-74 98 R0 -7 R0 -7;\n\nC16777214;C999;\n  C16777214;\n\nDS0 1 1;\r\n(x;\n\n  );\n\n\nDF;\n\nLE4;P10 -23 10 0 0 -23;\n  \n\nE" 12 287)  -- random 69
    ∷ in_calls (639 ∷ 323 ∷ 306 ∷ 17 ∷ 295 ∷ 52 ∷ 397 ∷ 523 ∷ 174 ∷ 576 ∷ 540 ∷ 339 ∷ 596 ∷ 630 ∷ 280 ∷ 467 ∷ 356 ∷ 130 ∷ 30 ∷ 618 ∷ []) (on_line 25 8 (refused_in 65536 "DS28;C29;\nDF;DS5;C6;DF;DS20;\n\nC21R0 1;\nC25;\r\nDF;DS7;C8T1 0;\n  DF;\r\nDS1;LQ;R1 1 0;C2MX;\nLCM;\n\nDF;\n\nDS29;C30MX;\nDF;DS19;LQ;\nR1 19 0;C20T1 0;\n  LB;DF;\n\nDS27;\nC28MX;DF;\r\nDS10;\n  C11T1 0;LA;\r\nLQ;\n  R1 10 0;\n  DF;\n  DS22;C22;\r\nC23R0 1;DF;DS77;\nLA;\r\nR1 1 0;DF;\nC77T0 16777215;\n  DS16;\n  C17MX;\r\nDF;DS6;C7;DF;\nDS4;C5MX;\r\nDF;\nDS3;\n\nC4T1 0;DF;\nDS13;C14MX;\n\nDF;\nDS18;C19;\n  DF;\nDS2;\nC3;\nDF;DS23;C24;DF;DS8;\n\nC9T1 0;LQ;\r\nR1 8 0;LB;DF;DS24;C25T1 0;\nDF;\n\nDS25;\n\nC26T1 0;\n  DF;DS17;C18;DF;DS26;\nC27MX;\nDF;\n\nDS30;\n\nC31;\r\nDF;\n  DS31;DF;DS9;C10MX;DF;\n\nDS12;\nC13;\n\nDF;\n\nDS11;\r\nLQ;R1 11 0;\n  LA;\nC12R0 1;\r\nDF;\nDS14;\nC15R0 1;\n  DF;\nDS21;\r\nC22;DF;DS15;C16;\n\nDF;C3;E" 13 215))  -- random 70
    ∷ refused_in 0 " ; R2/OK0 423  ~ ;\n  L NP;\n#\u{b}D\0[aS7:\u{b}[1L:16777215;L~0;\n\nDF;W1=01984 -384;\nE/+" 8 3  -- random 71
    ∷ on_line 2 9 (refused_in 65536 "\r\nL\0,0001;C/@16777215 'aR`-50  -0@/R0^0000000001=*_MX;_^[C1MYM \t\u{b}YR,1\t-0a{;\nxyz@E\t" 12 10)  -- random 72
    ∷ []

pub hold-7 : Each Holds rows-7
unfolding all_hold rows-7
hold-7 = each rows-7 tt

pub rows-8 : List Row
rows-8 =
    in_calls (581 ∷ 535 ∷ 239 ∷ 124 ∷ 339 ∷ 96 ∷ 42 ∷ 149 ∷ 376 ∷ 82 ∷ 546 ∷ 468 ∷ 326 ∷ 196 ∷ 282 ∷ 5 ∷ 164 ∷ 228 ∷ 422 ∷ 254 ∷ 400 ∷ 212 ∷ 482 ∷ 498 ∷ 452 ∷ 572 ∷ 184 ∷ 310 ∷ []) (refused_in 65536 "DS15;C16R0 1;DF;DS28;C29;DF;DS6;LQ;R1 6 0;C7R0 1;LB;LB;LQ;R1 6 0;DF;DS9;LQ;R1 9 0;C10;LB;DF;DS5;C6R0 1;LCM;LQ;R1 5 0;DF;DS3;C4MX;LQ;R1 3 0;LB;DF;DS7;C8T1 0;DF;DS16;C17T1 0;C16;DF;DS26;C27;DF;DS13;C14T1 0;DF;DS21;C22R0 1;DF;DS17;C18;DF;DS2;C3R0 1;DF;DS19;C20R0 1;DF;DS29;C30;DF;DS14;C15MX;DF;DS30;C31MX;DF;DS27;C32;C28;DF;DS12;C13MX;DF;DS4;C5;DF;DS31;C32MX;DF;DS8;LQ;R1 8 0;LA;C9;LA;LQ;R1 8 0;DF;DS20;C21MX;DF;DS33;DF;DS18;C19T1 0;DF;DS24;LA;LQ;R1 24 0;C25T1 0;DF;DS11;C12MX;DF;DS22;C23R0 1;DF;DS23;C24T1 0;DF;DS32;C32;C33MX;C34;DF;DS1;C2;DF;DS10;C11;DF;DS25;LQ;R1 25 0;LA;C26MX;DF;C1;E" 13 514)  -- random 73
    ∷ refused_in 0 "#L*CM;\nD_S114;\r\nLNP;\n  \u{b}RaJ1 0 -4;DF;\n  D S5 1 +.1a  ;\r\nL+Q7\u{b};L9Z;B13478 127,A 9261 0;\n\n\"\u{7f}#;\n\nDF;R138 0 5;R\u{1b}8 7801 0;\r\nC 114T-0 -8276;\n\u{1b}D S7  _7O3;^ L`, NP;\n\nDF;L NM;W0000000000000000000000000000001 6286`202 ;(DF;\0aaaEa);D S0;\n L=  ND;\nR~\t4285 -235 0000000000 ;C114  MX; R1\"\u{7f}-3588V-13575;\n\n^\u{7f}{C:7R.0=-1;\n/\u{1b}\u{b}LABCD;\n   DF; D'SG 1 16777215 00000000016777215;\n\u{7f}L NM;\n  D{  *F ;DS16777215 2 1;\nLNM;\n  CQoo,5M\u{7f}_Y;\nR48\u{b}33 -00000000017;P0057  D58 52 45 -35 47 4 45;\r\nC1T/'59 58; B 17 11\"-19 52I0 -00000000000000000000000000000017;\n\n\r\nD`\u{7f}F;@#  E" 18 0  -- random 75
    ∷ accepted_in 4096 "DS2;LABCD;DF;L 0; E" 0 0 0 "E\n"  -- random 76
    ∷ rounded_in 4096 "DD1;DD0;\nDS5 5 3;C2 MY;LD;\n\nP15 -10 15 0 0 -10;DF;DS5 1 1;\nC3;\n\nLD;\n  B54 61 -11 -11 3 -4;P9 46 9 0 0 46;DF;DS4 3 2;DF;\n  E" 0 0 1 2 "E\n"  -- random 79
    ∷ refused_in 0 "DS1;C2T1 0;DF;DS2;C3R0 1;DF;DS3;C4MX;DF;DS4;C5T1 0;LQ;R1 4 0;LB;LB;LQ;R1 4 0;DF;DS5;LQ;R1 5 0;C6R0 1;C6;LA;DF;DS6;C7MX;DF;DS7;C8R0 1;DF;DS8;C9;DF;DS9;C10T1 0;DF;DS10;LQ;R1 10 0;C11T1 0;LB;LB;LQ;R1 10 0;DF;DS11;LCM;C12R0 1;LQ;R1 11 0;DF;DS12;C13MX;DF;DS13;C14;DF;DS14;C15T1 0;DF;DS15;C16;DF;DS16;C17MX;C18;DF;DS17;C18;DF;DS18;C19R0 1;DF;DS19;C20MX;DF;DS20;LA;C21;LB;LQ;R1 20 0;LQ;R1 20 0;DF;DS21;C22T1 0;DF;DS22;C23T1 0;DF;DS23;C24T1 0;DF;DS24;LCM;LQ;R1 24 0;C25T1 0;DF;DS25;C26R0 1;DF;DS26;LB;LQ;R1 26 0;C27T1 0;DF;DS27;C28R0 1;LQ;R1 27 0;LCM;DF;DS28;C29MX;DF;DS29;C30MX;DF;DS30;DF;C2;E" 18 0  -- random 80
    ∷ in_calls (68 ∷ []) (on_line 2 18 (refused_in 4096 "0000000000000000000171 0162*138`xyzxyz;\r\nL\u{b}``A:;~;DS77;LA;R1 1 0;DF;C77T16777215 0;:E\r\n" 16 58))  -- random 81
    ∷ refused_in 2 "ZZZZ;\n\nDF;\nLA;\naE" 2 0  -- random 82
    ∷ on_line 15 20 (refused_in 65536 "DS1;C2MX;DF;DS2;C3T1 0;DF;\r\nDS3;\nC4R0 1;DF;\n  DS4;C5MX;\r\nDF;DS5;C6R0 1;\r\nDF;DS6;C7R0 1;\n  DF;\nDS7;\nC8T1 0;DF;\nDS8;C9MX;\nDF;\r\nDS9;\nLQ;R1 9 0;LA;\r\nLCM;LQ;R1 9 0;\n  C10R0 1;DF;DS10;DS77;\r\nC77;DF;\n\nC77;LB;\n\nC11;\nLQ;\r\nR1 10 0;DF;DS11;\nC12;DF;DS12;LB;\n  C13;\nLQ;\n\nR1 12 0;\r\nDF;DS13;C14;DF;DS14;\n  LCM;\nLQ;R1 14 0;\n\nC15;\r\nDF;DS15;\nC16MX;DF;\n  DS16;\r\nC17;DF;\nDS17;C18MX;\r\nDF;\n\nDS18;\nC19;LQ;R1 18 0;LB;DF;DS19;C20R0 1;DF;\n  DS20;\r\nC21T1 0;\n\nDF;\n  DS21;\nC22R0 1;\nDF;\n\nDS22;\nC23MX;DF;DS23;\nLA;LQ;R1 23 0;\n\nLB;\nLQ;\nR1 23 0;\nC24T1 0;DF;\r\nDS24;\n\nC25;\nDF;\n  DS25;\r\nC26MX;\n  DF;DS26;\nC27;\n\nDF;\n  DS27;C28R0 1;C31;LQ;R1 27 0;LB;DF;\n  DS28;C29R0 1;DF;DS29;C30T1 0;\nDF;DS30;LQ;\nR1 30 0;\nLA;C31MX;DF;\nDS31;C32T1 0;\nDF;\n\nDS32;\nLQ;\n\nR1 32 0;LB;\n  C33MX;DF;DS33;DF;E" 2 179)  -- random 83
    ∷ refused_in 2 "DS2;C3R0 1;DF;DS4;C5MX;DF;DS6;LB;C7R0 1;LQ;R1 6 0;DS77;LA;R1 0 9;DF;C77R0 1T-16777215 0;DF;DS1;LB;LQ;R1 1 0;C2MX;C2;DF;DS8;LCM;C9;LQ;R1 8 0;DF;DS5;C6;DF;DS3;LB;C4MX;LQ;R1 3 0;DF;DS7;C8T1 0;LQ;R1 7 0;LCM;DF;C2;C2;E" 2 51  -- random 84
    ∷ rounded_in 4096 "DS1 2 1;LC2;\n\nP31 13 31 0 0 13;B32 45 -12 -12;\n  DF;DS8;\nLB1;B47 6 -47 35;C2MX R0 1;P20 -32 20 0 0 -32;\nC5 MXT25 -16;\r\nDF;DD16777215;\n\nDS2 2 1;\n  C1MY;\n\nLB1;\n  B77 90 -13 -42;\n\nC1MXR0 1 MXMX;\r\nDF;\n  C2;\n  DS8 1 1;\n\n(x;);\nC5;DF;DD5;\nDS2;\nC1;LE4;R7 -16 -35;\n  DF;\n\nC2 R0 1;\nC1R0 1;C1 R0 1;DS5;C1 MY;LA;P-33 -1 -33 0 0 -1;LD;LD;\nW1 -12 -1 -1 -12;W9 -1 -4 -4 -1;\nDF;\r\nDS5;LC2;\r\nW6 25 -33 -33 25;R3 -47 33;\r\nP-18 47 -18 0 0 47;DF;DS1 5 3;DF;DS5 3 2;\nLA;\n  B42 89 -40 -18;LA;B16 31 40 12 1 1;W5 17 50 50 17;\r\nDF;C2;\nDS5;\nC1 MXMY;C999;DF;\n\nDS5 2 1;\nLB1;\n\nP4 20 4 0 0 20;C1 R-1 0;R5 21 -32;\r\nC2R-1 0;\n  DF;\n\nLE4;R1 -29 -31;C5;\n  C1;C2;C5;E" 21 20 7 5 "LC2;\nP62 -26 62 0 0 -26;\nB64 90 -24 24 1 0;\nLB1;\nB154 180 -26 -84 1 0;\nLC2;\nP-26 -62 0 -62 -26 0;\nB64 90 24 24 0 -1;\nP-26 62 0 62 -26 0;\nB64 90 24 -24 0 1;\nLE4;\nR7 35 -16;\nLC2;\nP-26 62 0 62 -26 0;\nB64 90 24 -24 0 1;\nP-26 62 0 62 -26 0;\nB64 90 24 -24 0 1;\nLE4;\nR7 -16 -35;\nR1 -29 -31;\nLB1;\nP8 40 8 0 0 40;\nR10 42 -64;\nLE4;\nR7 16 35;\nR7 -16 -35;\nLB1;\nP8 40 8 0 0 40;\nR10 42 -64;\nLE4;\nR7 16 35;\nE\n"  -- random 85
    ∷ refused_in 2 "DS1;LQ;R1 1 0;C6;LB;C2MX;DF;DS3;C8;C8;C4R0 1;DF;DS6;C7MX;DF;DS4;LB;C5T1 0;C5;LQ;R1 4 0;DF;DS8;DF;DS5;C6T1 0;DF;DS7;C8R0 1;DF;DS2;C3;DF;C1;C3;E" 18 0  -- random 87
    ∷ on_line 5 7 (refused_in 65536 "=L@^CM\";a\r\n\r\nDxyzD100^;C\r\nN9,,,Ma\0xyzXa;=,aD@/S5\"_; L0:;\u{7f}L/{\"ABCD;{\tL Q7@;R\u{1b}0000000000000000000000000000001\r\n00[0;DS77;LA;R1 0 9;DF;C77R0 1T-16777215 0;_B000000000000000000000000000000304 2883`000000000000000000000000000000479AO0\r\n#-1\"0\";\nC0;  +[D@F[;xyzCD5  #\t;_D\0{Dxyz8 {\"; @*E" 2 115)  -- random 88
    ∷ refused_in 4096 "DF;E" 2 1  -- random 89
    ∷ on_line 43 2 (refused_in 65536 "DS1;\n\nC2;\n  DF;\r\nDS2;C3R0 1;\nDF;\nDS3;\r\nC4T1 0;DF;DS4;LB;\n  LQ;R1 4 0;\nLCM;\n\nC5MX;\nLQ;R1 4 0;\nDF;DS5;\nC6;\r\nDF;DS6;C7MX;\r\nDF;\n\nDS7;LA;\n\nC8R0 1;\nLQ;\r\nR1 7 0;\nDF;\n  DS8;\nC9;\n  DF;DS9;\n  LQ;\nR1 9 0;\r\nC10MX;\nLA;\nDF;DS10;\r\nC11MX;DF;\nDS11;LQ;R1 11 0;\n\nC12T1 0;LA;\nDF;DS12;\nC13MX;DF;\r\nDS13;\r\nC14T1 0;DF;DS14;\nC15T1 0;DF;DS15;\r\nC16;\r\nDS77;LA;\nR1 0 9;DF;C77R0 1T-16777215 0;\nDF;DS16;C17T1 0;DF;\nDS17;\n  C18R0 1;\n\nDF;DS18;C19;DF;DS19;C20R0 1;DF;\r\nDS20;\nC21MX;DF;DS21;\n\nC22R0 1;\r\nDF;DS22;\n  C23;DF;DS23;C24T1 0;DF;\nDS24;\n\nC25MX;DF;\nDS25;\nLCM;LQ;\nR1 25 0;\n\nLQ;\nR1 25 0;\n\nLA;C26;DF;DS26;\nC27T1 0;\nDF;DS27;C28;\nDF;\nDS28;\n  C29R0 1;DF;\nDS29;DF;\nE" 2 325)  -- random 90
    ∷ on_line 5 2 (refused_in 65536 "DS5 100 1;\n\nL ABCD;\nP-55 -7 -4 54 -34 -19 -3 51;\nDS77;C77;DF;C77;W41 31 -3 10 30;R46 -18 16;D F;\n  Dr5 ;\n  LQ7;\r\nDF;\n\nLNP;E" 2 50)  -- random 93
    ∷ refused_in 0 "DS3;C4R0 1;\n  DF;DS5;C6;\n  DF;DS1;\n  LQ;R1 1 0;LQ;\n\nR1 1 0;C1R1 1;C2;LCM;LA;\n\nDF;\nDS7;C7;\n\nC8MX;\n  DF;DS4;C5R0 1;C9;DF;DS8;\n  DF;\nDS2;\n  C3R0 1;DF;DS6;C7R0 1;DF;\nE" 18 0  -- random 94
    ∷ refused_in 0 "LNM;\n E" 18 0  -- random 95
    ∷ refused_in 0 ";*2EaEDF--;LND;W5 12135 0 -2W-11654 -109 0\"16777214 -00000000000000000000000000000018389 0 -0; ( a-E E \0-E);L ABCD,;\n  xyz(;\n\n-\0\n( ;\n  C999;-));\nD S2~\"~; L  :ND;\n[DF ;DS:3 16777215 1;\n+L#0;aW1 00xyz :0;\n  L NM;C2R16777215 0 MYooooT0^0ooR0xyz-50 ,[;C+Z 2M YR[2 0MXT0 0; L CM;[D*_F;\n  W13507 -4 18444,^=-5 0oo3621 -081;\nB301 1 -62 -7 0F-1\u{b};\nL9Z;\n\nDS57 7 3 ;L NP;\r\nC:@  2MX;\n  (E\0 \0);B180 00000000000000000000000000000093,168 -162 ;\r\n@  DF;E" 18 0  -- random 97
    ∷ on_line 2 170 (refused_in 0 "LND;L NP ;C0T:0 0;\r\nD S4; L ZZZZ ; P-2 -418.-00000000000000000000000000000016257 -424 -2 -00000000000000000000000000000018858;xyzDF;C1R1 1;DD5; C4;[\u{1b}C4MY T-0I-140[T-8 -12428;BZ\u{b}`1 1 39N~0; R0 0 8;DS114 7 3;LND;xyz ~LA; +LNM;D F;E" 7 189)  -- random 98
    ∷ []

pub hold-8 : Each Holds rows-8
unfolding all_hold rows-8
hold-8 = each rows-8 tt
