-- The vectors of tests/base.tsv, made into rows by tools/vectors.py: answers that were worked out apart from the definitions.
-- A trailing comment is the vector's name. They stand in batches, so that a row that does not compute is found.
-- Assumes nothing.
use mathlib.Core.List.{List, [], ◌∷◌}
use Rattle.definition.proofs.Rows.{Row, accepted_in, rounded_in, refused_in, on_line, in_calls, Holds, Each, all_hold, each}

pub rows-1 : List Row
rows-1 =
    refused_in 4096 " " 2 1  -- 2
    ∷ accepted_in 4096 "; E" 0 0 0 "E\n"  -- 2
    ∷ accepted_in 4096 " ; E " 0 0 0 "E\n"  -- 2
    ∷ refused_in 4096 "E\u{80}" 2 1  -- 2
    ∷ refused_in 4096 "(\u{80});E" 2 1  -- 2
    ∷ accepted_in 4096 "(;);E" 0 0 0 "E\n"  -- 2
    ∷ refused_in 4096 "(()" 2 3  -- 2
    ∷ refused_in 4096 "()E" 2 2  -- 2
    ∷ refused_in 4096 "() ()" 2 3  -- 2
    ∷ accepted_in 4096 "1);E" 0 0 0 "E\n"  -- 2
    ∷ refused_in 4096 "-1;E" 2 0  -- 2
    ∷ accepted_in 4096 "LA;B1 2 3 4 -5 6;E" 1 0 0 "LA;\nB1 2 3 4 -5 6;\nE\n"  -- 2
    ∷ refused_in 4096 "LA;B1 2 3;E" 2 9  -- 2
    ∷ refused_in 4096 "LA;B1 2 3 - 4;E" 2 11  -- 2
    ∷ refused_in 4096 "LA;R1 0 0 1;E" 2 10  -- 2
    ∷ refused_in 4096 "LA;R1 0 0 X;E" 2 10  -- 2
    ∷ refused_in 4096 "LA;W1 2;E" 2 7  -- 2
    ∷ accepted_in 4096 "LABCD;E" 0 0 0 "E\n"  -- 2
    ∷ refused_in 4096 "LA B;E" 2 3  -- 2
    ∷ refused_in 4096 "L-;E" 2 1  -- 2
    ∷ []

pub hold-1 : Each Holds rows-1
unfolding all_hold rows-1
hold-1 = each rows-1 tt

pub rows-2 : List Row
rows-2 =
    refused_in 4096 "D F;E" 2 2  -- 2
    ∷ accepted_in 4096 "DSX1;DF;E" 0 0 0 "E\n"  -- 2
    ∷ refused_in 4096 "DS1X;DF;E" 2 4  -- 2
    ∷ refused_in 4096 "DS;DF;E" 2 2  -- 2
    ∷ accepted_in 4096 "DS1; DF;E" 0 0 0 "E\n"  -- 2
    ∷ accepted_in 4096 "D aD X0;E" 0 0 0 "E\n"  -- 2
    ∷ refused_in 4096 "DD;E" 2 2  -- 2
    ∷ refused_in 4096 "DD-0;E" 2 2  -- 2
    ∷ refused_in 4096 "DD0 1;E" 2 4  -- 2
    ∷ refused_in 4096 "C-1;E" 2 1  -- 2
    ∷ refused_in 4096 "C1T5;E" 2 4  -- 2
    ∷ refused_in 4096 "C1R;E" 2 3  -- 2
    ∷ refused_in 4096 "C1T1 2 3;E" 2 7  -- 2
    ∷ accepted_in 4096 "DS1;DF;C1TMX1XX2MxX MYR0 1R-1 0T-1 0;E" 0 1 0 "E\n"  -- 2
    ∷ accepted_in 4096 "LA;R1 0016777215 0;E" 1 0 0 "LA;\nR1 16777215 0;\nE\n"  -- 3
    ∷ accepted_in 4096 "LA;R1 0 0;E" 1 0 0 "LA;\nR1 0 0;\nE\n"  -- 3
    ∷ accepted_in 4096 "LA;R1 00 0;E" 1 0 0 "LA;\nR1 0 0;\nE\n"  -- 3
    ∷ refused_in 4096 "LA;R1 99999999 0;E" 3 6  -- 3
    ∷ refused_in 4096 "LA;R1 -99999999 0;E" 3 6  -- 3
    ∷ refused_in 4096 "LA;R1  X-99999999 0;E" 3 8  -- 3
    ∷ []

pub hold-2 : Each Holds rows-2
unfolding all_hold rows-2
hold-2 = each rows-2 tt

pub rows-3 : List Row
rows-3 =
    accepted_in 4096 "LA;R1 -00 0;E" 1 0 0 "LA;\nR1 0 0;\nE\n"  -- 3
    ∷ accepted_in 4096 "LA;R1 0 0016777215;E" 1 0 0 "LA;\nR1 0 16777215;\nE\n"  -- 3
    ∷ refused_in 4096 "LA;R1 0  X-16777216;E" 3 10  -- 3
    ∷ refused_in 4096 "LA;R1 0  X-0016777216;E" 3 10  -- 3
    ∷ refused_in 4096 "LA;R1 0 -99999999;E" 3 8  -- 3
    ∷ refused_in 4096 "LA;R1 0  X-1677721600000000000000000000000000000000000000000000000000;E" 3 10  -- 3
    ∷ accepted_in 4096 "LA;R1 0 -16777215;E" 1 0 0 "LA;\nR1 0 -16777215;\nE\n"  -- 3
    ∷ accepted_in 4096 "LA;R1 0 -0;E" 1 0 0 "LA;\nR1 0 0;\nE\n"  -- 3
    ∷ accepted_in 4096 "LA;W1 0 0 5 0016777215;E" 1 0 0 "LA;\nW1 0 0 5 16777215;\nE\n"  -- 3
    ∷ refused_in 4096 "LA;W1 0 0 5  X-16777216;E" 3 14  -- 3
    ∷ refused_in 4096 "LA;W1 0 0 5 99999999;E" 3 12  -- 3
    ∷ refused_in 4096 "LA;W1 0 0 5 -99999999;E" 3 12  -- 3
    ∷ refused_in 4096 "LA;W1 0 0 5 1677721600000000000000000000000000000000000000000000000000;E" 3 12  -- 3
    ∷ accepted_in 4096 "LA;W1 0 0 5 -0016777215;E" 1 0 0 "LA;\nW1 0 0 5 -16777215;\nE\n"  -- 3
    ∷ accepted_in 4096 "LA;W1 0 0 5 -0;E" 1 0 0 "LA;\nW1 0 0 5 0;\nE\n"  -- 3
    ∷ accepted_in 4096 "LA;W1 0 0 5 -00;E" 1 0 0 "LA;\nW1 0 0 5 0;\nE\n"  -- 3
    ∷ accepted_in 4096 "LA;P0 0 1 1 0016777215 2;E" 1 0 0 "LA;\nP0 0 1 1 16777215 2;\nE\n"  -- 3
    ∷ refused_in 4096 "LA;P0 0 1 1 16777216 2;E" 3 12  -- 3
    ∷ refused_in 4096 "LA;P0 0 1 1 -16777216 2;E" 3 12  -- 3
    ∷ refused_in 4096 "LA;P0 0 1 1 99999999 2;E" 3 12  -- 3
    ∷ []

pub hold-3 : Each Holds rows-3
unfolding all_hold rows-3
hold-3 = each rows-3 tt

pub rows-4 : List Row
rows-4 =
    refused_in 4096 "LA;P0 0 1 1 1677721600000000000000000000000000000000000000000000000000 2;E" 3 12  -- 3
    ∷ accepted_in 4096 "LA;P0 0 1 1 -16777215 2;E" 1 0 0 "LA;\nP0 0 1 1 -16777215 2;\nE\n"  -- 3
    ∷ accepted_in 4096 "LA;B1 1 0016777215 1;E" 1 0 0 "LA;\nB1 1 16777215 1 1 0;\nE\n"  -- 3
    ∷ refused_in 4096 "LA;B1 1 -16777216 1;E" 3 8  -- 3
    ∷ refused_in 4096 "LA;B1 1  X-0016777216 1;E" 3 10  -- 3
    ∷ refused_in 4096 "LA;B1 1 99999999 1;E" 3 8  -- 3
    ∷ refused_in 4096 "LA;B1 1 -99999999 1;E" 3 8  -- 3
    ∷ refused_in 4096 "LA;B1 1  X-1677721600000000000000000000000000000000000000000000000000 1;E" 3 10  -- 3
    ∷ accepted_in 4096 "LA;B1 1 -0016777215 1;E" 1 0 0 "LA;\nB1 1 -16777215 1 1 0;\nE\n"  -- 3
    ∷ accepted_in 4096 "LA;B1 1 -0 1;E" 1 0 0 "LA;\nB1 1 0 1 1 0;\nE\n"  -- 3
    ∷ accepted_in 4096 "DD16777215;E" 0 0 0 "E\n"  -- 3
    ∷ refused_in 4096 "DD16777216;E" 3 2  -- 3
    ∷ refused_in 4096 "DD99999999;E" 3 2  -- 3
    ∷ refused_in 4096 "DD1677721600000000000000000000000000000000000000000000000000;E" 3 2  -- 3
    ∷ accepted_in 4096 "DS0016777215;DF;E" 0 0 0 "E\n"  -- 3
    ∷ accepted_in 4096 "DS0;DF;E" 0 0 0 "E\n"  -- 3
    ∷ refused_in 4096 "DS16777216;DF;E" 3 2  -- 3
    ∷ refused_in 4096 "DS1677721600000000000000000000000000000000000000000000000000;DF;E" 3 2  -- 3
    ∷ accepted_in 4096 "DS1;C16777215;DF;E" 0 0 0 "E\n"  -- 3
    ∷ refused_in 4096 "DS1;C1677721600000000000000000000000000000000000000000000000000;DF;E" 3 5  -- 3
    ∷ []

pub hold-4 : Each Holds rows-4
unfolding all_hold rows-4
hold-4 = each rows-4 tt

pub rows-5 : List Row
rows-5 =
    accepted_in 4096 "DS1;C2T16777215 0;DF;E" 0 0 0 "E\n"  -- 3
    ∷ refused_in 4096 "DS1;C2T X-99999999 0;DF;E" 3 9  -- 3
    ∷ accepted_in 4096 "DS1;C2T0 0016777215;DF;E" 0 0 0 "E\n"  -- 3
    ∷ refused_in 4096 "DS1;C2T0 0016777216;DF;E" 3 9  -- 3
    ∷ refused_in 4096 "DS1;C2T0 -1677721600000000000000000000000000000000000000000000000000;DF;E" 3 9  -- 3
    ∷ refused_in 4096 "DS1;C2T0  X-1677721600000000000000000000000000000000000000000000000000;DF;E" 3 11  -- 3
    ∷ accepted_in 4096 "DS1;C2T0 -0;DF;E" 0 0 0 "E\n"  -- 3
    ∷ accepted_in 4096 "LA;B1 1 0 0 1 00;E" 1 0 0 "LA;\nB1 1 0 0 1 0;\nE\n"  -- 3
    ∷ refused_in 4096 "LA;B1 1 0 0 1 16777216;E" 3 14  -- 3
    ∷ refused_in 4096 "LA;B1 1 0 0 1 -16777216;E" 3 14  -- 3
    ∷ refused_in 4096 "LA;B1 1 0 0 1 -0016777216;E" 3 14  -- 3
    ∷ refused_in 4096 "LA;B1 1 0 0 1 99999999;E" 3 14  -- 3
    ∷ refused_in 4096 "LA;B1 1 0 0 1 -99999999;E" 3 14  -- 3
    ∷ refused_in 4096 "LA;B1 1 0 0 1  X-1677721600000000000000000000000000000000000000000000000000;E" 3 16  -- 3
    ∷ accepted_in 4096 "LA;B1 1 0 0 1 -00;E" 1 0 0 "LA;\nB1 1 0 0 1 0;\nE\n"  -- 3
    ∷ accepted_in 4096 "DS1;C2R1 16777215;DF;E" 0 0 0 "E\n"  -- 3
    ∷ accepted_in 4096 "DS1;C2R1 00;DF;E" 0 0 0 "E\n"  -- 3
    ∷ refused_in 4096 "DS1;C2R1  X-0016777216;DF;E" 3 11  -- 3
    ∷ refused_in 4096 "DS1;C2R1 99999999;DF;E" 3 9  -- 3
    ∷ refused_in 4096 "DS1;C2R1 -99999999;DF;E" 3 9  -- 3
    ∷ []

pub hold-5 : Each Holds rows-5
unfolding all_hold rows-5
hold-5 = each rows-5 tt

pub rows-6 : List Row
rows-6 =
    accepted_in 4096 "DS1;C2T1 1MXR1 16777215;DF;E" 0 0 0 "E\n"  -- 3
    ∷ refused_in 4096 "DS1;C2T1 1MXR1 16777216;DF;E" 3 15  -- 3
    ∷ refused_in 4096 "DS1;C2T1 1MXR1 -0016777216;DF;E" 3 15  -- 3
    ∷ refused_in 4096 "DS1;C2T1 1MXR1  X-0016777216;DF;E" 3 17  -- 3
    ∷ accepted_in 4096 "DS1;C2T1 1MXR1 -0016777215;DF;E" 0 0 0 "E\n"  -- 3
    ∷ accepted_in 4096 "DS1;C2T1 1MXR1 -00;DF;E" 0 0 0 "E\n"  -- 3
    ∷ refused_in 4096 "LA;W16777216 0 0;E" 3 4  -- 3
    ∷ accepted_in 4096 "LA;B16777215 1 0 0;E" 1 0 0 "LA;\nB16777215 1 0 0 1 0;\nE\n"  -- 3
    ∷ accepted_in 4096 "DS1 16777215 1;DF;E" 0 0 0 "E\n"  -- 3
    ∷ refused_in 4096 "DS1 16777216 1;DF;E" 3 4  -- 3
    ∷ accepted_in 4096 "(99999999999);E" 0 0 0 "E\n"  -- 3 no number
    ∷ accepted_in 4096 "L9999;E" 0 0 0 "E\n"  -- 3 no number
    ∷ refused_in 4096 "DS1;LA;R1 16777216 0;DF;E" 3 10  -- 3 undrawn
    ∷ refused_in 4096 "DS1 1 0;DF;E" 4 0  -- 4
    ∷ refused_in 4096 "; D S1 00 0;DF;E" 4 2  -- 4
    ∷ rounded_in 4096 "DS1 1 2;LA;R1 1 0;DF;E" 0 0 0 2 "E\n"  -- once 5
    ∷ rounded_in 4096 "DS1 1 2;LA;R2 0 X-1;DF;E" 0 0 0 1 "E\n"  -- once 5
    ∷ accepted_in 4096 "DS1 1 2;DF;LA;R1 1 1;E" 1 0 0 "LA;\nR1 1 1;\nE\n"  -- 5 outside
    ∷ refused_in 4096 "DS1 16777215 1;LA;R1 -2 1;DF;E" 6 21  -- 6
    ∷ accepted_in 4096 "LA;W1 0 0;E" 1 0 0 "LA;\nW1 0 0;\nE\n"  -- 7
    ∷ []

pub hold-6 : Each Holds rows-6
unfolding all_hold rows-6
hold-6 = each rows-6 tt

pub rows-7 : List Row
rows-7 =
    accepted_in 4096 "LA;B1 1 0 0 0 -1;E" 1 0 0 "LA;\nB1 1 0 0 0 -1;\nE\n"  -- 7
    ∷ accepted_in 4096 "DS1;C1T0 0;DF;E" 0 0 0 "E\n"  -- 7
    ∷ accepted_in 4096 "DS1;C1R0 -1;DF;E" 0 0 0 "E\n"  -- 7
    ∷ refused_in 4096 "C1R0 0;E" 7 0  -- 7
    ∷ refused_in 4096 "W1 0 0;E" 8 0  -- 8
    ∷ refused_in 4096 "DS1;LA;R1 0 0;DF;C1;R1 0 0;E" 8 20  -- 8
    ∷ refused_in 4096 "DS1;LA;DF;DS2;R1 0 0;DF;E" 8 14  -- 8
    ∷ accepted_in 4096 "LA;DD0;R1 0 0;E" 1 0 0 "LA;\nR1 0 0;\nE\n"  -- 8
    ∷ accepted_in 4096 "DS1;C2MXMXMXMXMXMXMXMXMXMXMXMXMXMXMXMXMXMXMXMXMXMXMXMXMXMXMXMXMXMXMXMX;DF;E" 0 0 0 "E\n"  -- 9
    ∷ refused_in 4096 "DS1;C2MY MY MY MY MY MY MY MY MY MY MY MY MY MY MY MY MY MY MY MY MY MY MY MY MY MY MY MY MY MY MY MY MY ;DF;E" 9 4  -- 9
    ∷ accepted_in 4096 "DS1;C2T1 1T1 1T1 1T1 1T1 1T1 1T1 1T1 1T1 1T1 1T1 1T1 1T1 1T1 1T1 1T1 1T1 1T1 1T1 1T1 1T1 1T1 1T1 1T1 1T1 1T1 1T1 1T1 1T1 1T1 1T1 1T1 1;DF;E" 0 0 0 "E\n"  -- 9
    ∷ refused_in 4096 "DS1;C2R1 0R1 0R1 0R1 0R1 0R1 0R1 0R1 0R1 0R1 0R1 0R1 0R1 0R1 0R1 0R1 0R1 0R1 0R1 0R1 0R1 0R1 0R1 0R1 0R1 0R1 0R1 0R1 0R1 0R1 0R1 0R1 0R1 0;DF;E" 9 4  -- 9
    ∷ refused_in 4096 "DS1;DF;C1R-1 16777215;E" 11 7  -- 11
    ∷ refused_in 4096 "DS1;DF;C1R1 1R1 1;E" 11 7  -- 11 pair makes right angle
    ∷ refused_in 4096 "C1;E" 12 0  -- 12
    ∷ refused_in 4096 "C1;DS1;DF;E" 12 0  -- 12 too early
    ∷ refused_in 4096 "DS1;DF;DD1;C1;E" 12 11  -- 12 deleted
    ∷ in_calls (10 ∷ []) (refused_in 4096 "DS1;C2;DF;C1;E" 12 4)  -- 12 inner
    ∷ accepted_in 4096 "DS1;C2;DF;DS2;DF;C1;E" 0 2 0 "E\n"  -- 12 defined between
    ∷ accepted_in 4096 "DS16777215;DF;C016777215;E" 0 1 0 "E\n"  -- 12 number
    ∷ []

pub hold-7 : Each Holds rows-7
unfolding all_hold rows-7
hold-7 = each rows-7 tt

pub rows-8 : List Row
rows-8 =
    in_calls (20 ∷ 4 ∷ []) (refused_in 4096 "DS1;C2;DF;DS2;C1;DF;C1;E" 13 14)  -- 13 ring
    ∷ in_calls (20 ∷ 14 ∷ []) (refused_in 4096 "DS1;C2;DF;DS2;C1;DF;C2;E" 13 4)  -- 13 ring
    ∷ accepted_in 4096 "DS1;DF;DS2;C1;C1;DF;C2;C2;C1;E" 0 7 0 "E\n"  -- 13 twice is no ring
    ∷ in_calls (17 ∷ []) (refused_in 4096 "DS1;DF;DS1;C1;DF;C1;E" 13 11)  -- 13 old self
    ∷ accepted_in 4096 "DS1;C2;DF;DS2;C3;DF;DS3;C4;DF;DS4;C5;DF;DS5;C6;DF;DS6;C7;DF;DS7;C8;DF;DS8;C9;DF;DS9;C10;DF;DS10;C11;DF;DS11;C12;DF;DS12;C13;DF;DS13;C14;DF;DS14;C15;DF;DS15;C16;DF;DS16;C17;DF;DS17;C18;DF;DS18;C19;DF;DS19;C20;DF;DS20;C21;DF;DS21;C22;DF;DS22;C23;DF;DS23;C24;DF;DS24;C25;DF;DS25;C26;DF;DS26;C27;DF;DS27;C28;DF;DS28;C29;DF;DS29;C30;DF;DS30;C31;DF;DS31;C32;DF;DS32;C33;DF;DS33;DF;C2;E" 0 32 0 "E\n"  -- 14 from 2
    ∷ in_calls (18 ∷ []) (refused_in 4096 "DS1;LA;R1 0 -1;DF;C1T0 -16777215;E" 20 7)  -- 16 y
    ∷ accepted_in 4096 "DS1;LA;R1 5 0;DF;DS2;C1T16777215 0;DF;C2T-16777215 0;E" 1 2 0 "LA;\nR1 5 0;\nE\n"  -- 16 levels
    ∷ in_calls (21 ∷ []) (refused_in 4096 "DS1;LA;W1 0 0 0 1;DF;C1T0 16777215;E" 20 7)  -- 16 second point
    ∷ refused_in 4096 "DS16777216 0 16777216;DF;E" 3 2  -- in command
    ∷ refused_in 4096 "LA;R1 -16777216 16777216;E" 3 6  -- in command
    ∷ refused_in 4096 "C16777216R0 0;E" 3 1  -- in command
    ∷ refused_in 4096 "DS1 3 2;R0 1 2;DF;E" 7 8  -- in command
    ∷ refused_in 4096 "DS1 3 1;LA;R16777215 16777215 16777215;DF;E" 6 12  -- in command
    ∷ refused_in 4096 "B1 1 0 0 0 0;E" 7 0  -- in command
    ∷ refused_in 4096 "R1 0 16777216;(" 2 15  -- in command
    ∷ refused_in 4096 "LA;R1 0 16777216;R0 0 0;E" 3 8  -- in command
    ∷ refused_in 4096 "DS1;LA;R1 1 0;DF;C9;C1T16777215 0;E" 12 17  -- in command
    ∷ refused_in 1 "E,\0," 18 0  -- random 0
    ∷ on_line 5 52 (refused_in 4096 " L A\r\n:\u{7f};\tDS16777215;L 0001;^C0000000002MXT151 0T1 345T-4V=-0;\u{b}W3732 -12082\"-0 -00221 -0 9 -000000000000000000000000000000447;~\n\tR1  J2\u{7f}-8;C9\u{1b}+;R18845 -246 7724;DF; D S5 1 16777215;\u{7f}:L\n.ND;D F;:[aC16777215MX;B8388608.1 8#0; *C5R-1{0;D S 0000000000000000000000000000004;DF;C4 ;DS3`100 1;LCM;49DF) \n ;C16777215@' R0 -1R16777215~D1 T,56 -17;(9\0(\0));R+1000000000000000000000000000000 -16 -3 ;a/B  ,\u{7f}44 13@00000000000000000000000000000014\r\n[6\u{b};D\u{b}+'F; P~_80 -209xyz0 -4043 -57 4_^oo0B-3408 -9000\u{7f}2 ;CT4MYT 1 ~.-8706T*5 0;D `S_@1 ;L0 ;C16777215R-0 16777215 ;(E\n);  B82 24 4a\u{b}9 0 1_;W\u{1b}~12496 8388608[423Hoo  -2 1938 0 0\u{7f}:\n; P-218^{-181 9156 -9 0oo 0 0 -11768 -4 -339\r\n;DF;Ea " 3 348)  -- random 1
    ∷ on_line 3 9 (refused_in 2 "a# DooS\tE 000'16777215  1\u{1b};LNP+\u{1b}@;R1_0`@  -0+\u{1b},;LQ7;\n=/DaF^\u{1b}=;DxyzDPY8 ;./+D   ooS009V4\"B6;@LND,\n#;[P-48H33554431*-00000000066V-324 -12^-30;ooB\t246a.\n312L-360:-24 0000000000000000000000000000001000 000 +;/L+/\r\nABCDxyzoo;`\u{7f}aCO0xyzT+=@0330  F318T= -312,-120~,+Ta==-348\u{7f}Z324#;+B{12 192Z -294E-276W0000000000000000000000000000001\u{b}0000000000/; xyz*DF;L/ND`.;D SC57xyz/;LA@*{;/\"xyz; \nR:\u{7f}001NR\t00435\r\n000000000000000000000000000000204,; R1\u{1b}'\n-2K_0;DF.; *Pa-307 -122 -291\r\n00115^08388608#0 ; R  1.000H252  ~_;C\n00\"RB0S~-16777215:;\"[E " 3 105)  -- random 2
    ∷ []

pub hold-8 : Each Holds rows-8
unfolding all_hold rows-8
hold-8 = each rows-8 tt

pub rows-9 : List Row
rows-9 =
    accepted_in 40 "L+A=@\u{7f};E" 0 0 0 "E\n"  -- random 3
    ∷ accepted_in 4096 "oo:_L=`9Zxyzoo_;';DxyzS\u{1b}R004\"16777215=0000000001*;\u{b}Da.F`;D`@ooS.  0000000000000000000000000000001:100'1\t@;  L+ ooA;B\u{7f}38U4={28/-0043B`_-1000\u{1b}-0  ;L'^CM;\u{7f}DF  ;DSD@5:1.100[;L,a ZZZZ^:\r\n;=~'CH01:@RKB\0-0S-1 TY=1500,03000\tR0FD`-1;BQ800[1200K-3200:0000000000000000000000000000005600L-2\0000 ;*`.CS03;:\u{1b}D  Fxyz;\u{b}RX10617R19172,[R000+;#E" 1 0 0 "L9Z;\nR10617 19172 0;\nE\n"  -- random 4
    ∷ refused_in 0 "LABCD;{D:S7 01:2 ;.LND;C0000000002;[\u{7f}^P-106V22 33554430H24 -6 -68 16777215 -20J33554430\n`Q-16777216; D Fxyz\n;oo \tC`  3T000 -12075MX;R16777214 S:-3755 0;B10072 4432`0L-000 -9 5 ;R8 -5226 410;\0P-016222 -3 14526{C-480 99999999 4 -6 -6868xyz0 -18999;\u{1b}DS9W1NO@1\u{b};+LNDoo_+;LZZZZ;C~7R[^/0000000001_-1MX;C16777215 R-3 2MXMY;xyzC7\u{7f}MYMYMXT33554431 41;R11659 0 004454;D/\u{7f}F;E " 3 47  -- random 5
    ∷ in_calls (290 ∷ []) (on_line 2 107 (refused_in 0 "D\nD\u{1b}\u{1b}Z16777215#;DS114#=I16777215{1;LND ; (;a\0-9DF); D_F;DD8;DSBS,2 X\u{7f}1 2;LZZZZ;P -8 56_ C-76 102 12 -114[\u{b}#;C 16777215;D'F;Loo`\u{1b}A ;Doo\u{b}S57_.Z4*/  6; D F\t\u{7f}; R6066\n38 259;DS114; L0;B0000000000000000000000000000001 71 76 474S-000 1; R1*-286 -223;L.`A; LND;LNM;@DF\r\n_xyz;C57\r\nMX\noo; D'S7;DF; \r\nC02T+{H14151'0;,D aS2;\r\n#LA;\"{R1C-3 -351 ;76a(;C#W\"9 T8520\u{b}8099MX;:  DF;*@E" 12 108))  -- random 6
    ∷ accepted_in 4096 "LABCD; {W242 -295 18255;\0E\r\n" 1 0 0 "LABCD;\nW242 -295 18255;\nE\n"  -- random 7
    ∷ refused_in 1 "DD8;xyz=DS 000000000000000000000000000000114 #; L0`;DF;@\u{b}#L0001;\n_80;D'*D16777215*;LABCD;_DS0 1 00000000016777215@;DF;\n\u{7f}DS,M0\t\u{7f}16777215 1;D F# #;LNP;aLNM;E" 18 0  -- random 8
    ∷ accepted_in 40 "E " 0 0 0 "E\n"  -- random 9
    ∷ refused_in 1 "#DS000000000114 1 2;LZZZZ; P-78 88 86 50 102 90 116 -26;P-102\0\t96 00100 94 14\n6; \u{1b}\u{b}LNP;P-62 48 24Za16*0098 0064;(\n \nEDF-\n-aa);DF; LA,;\r\nDS 16777215 16777215R1;LZZZZ= \t;DF;W242 -353 0*\u{b}{0 -300=K*0 8388608 0 19355_/U-7720 0;DS0;LQ7*{;C16777215T\u{b}5395 -157 ; 17()-(DFa;~DF`\u{1b}\t;  \nE\n" 18 0  -- random 10
    ∷ refused_in 2 "LQ7`;;DD8a\t;56; B\0`1Z.'2 0 377 ; DS4+16777215 1; LA;B1 [H1.0 0;P-0 0 0 0 0 0 0 -000 {;;\u{7f} DF*;\u{7f}C4MX;B=6 8463 6447 7239 0 -2\u{b};L\r\nQ7/*;B105 6711 00aX\u{7f}-2359;W1^,5 -0000000004oo/;C4;DSA07;33;L0001;\u{1b}W 262 0 11426 0 7 -4 -0 09 -4 -00163 5482; B8V321_3 4\u{7f}-0 1;C4T-9 50/; ;:* DF;96aE9);E" 18 0  -- random 11
    ∷ accepted_in 4096 " L CM;R12957 1 4;D\u{1b}^:D0;ooB1@469 -4 -8388608 0`8;E" 2 0 0 "LCM;\nR12957 1 4;\nB1 469 -4 -8388608 0 8;\nE\n"  -- random 12
    ∷ refused_in 4096 "L0001;DS 7 1 1\u{7f};LND\t;:P-000\u{1b}-9918 401=15473..M8 0;LQ7; R_13034 0 0;D F;31999999999999; B0 1 390 180;R479==-0000000000000000000000000000008WH-5;E" 7 87  -- random 13
    ∷ accepted_in 4096 "DS0 ; L=Q7 ; ;\u{1b}DF;DS0000000000000000000000000000007;\0oo_L\u{b}0 ; R264 302 -18347;B2 239*0 -6218;C0T 8388608 -00000000000000000000000000000017434R 00{X0000000001\tR1 0;W15212 0 -256;.( -EDF;9((a(a ))));DF;LQ7 ;DS3~3 7;\"/\tLA;DF;DS7 1Y@\u{7f}16777215;L\nZZZZ;;B16777215 16777215 0 0 -8 9:;D\u{b}F; W1ooV-00000000000000000000000000000076 -16777215\n.2 5; C3oo\u{b}#M Y.R1\r\nL`000\r\n T8 0MY\r\n\0;DS9 16777215 16777215; L0;C3 ; R 0016777215 0 -0;L9Z;B16777215^\0[16777215 0 0;B16777215 00000000000000000000000000000016777215 0\ta\00 0 17;D\t\u{7f}F; D S 3\r\n7 3;LQ7 ;B72 51 -132 -9G0 -1;B138 42\"156\u{7f}-114;639-99999999999\n;DF ;L ABCD;R1 0 25;C7R-16777215 0 ; DS9 16777215 1;D F~; ^\nE`" 3 2 3 "LQ7;\nW1 -76 -16777215 2 5;\nLABCD;\nR1 0 25;\nLZZZZ;\nB1 1 0 0 8 -9;\nE\n"  -- random 14
    ∷ refused_in 1 "LABCD ;DS9 1 2;L0001;L9Z;;DF;DD3;R2 367 -88;E" 18 0  -- random 15
    ∷ refused_in 0 "\n{DS 114_;DF;E" 18 0  -- random 16
    ∷ refused_in 1 "LQ7;\u{7f}LNP;[= B 7 13955 0 0;DS7:DN16777215 1 ;\"L9Z; DF;DxyzS57 001 16777215;DF;E" 18 0  -- random 17
    ∷ refused_in 0 "DS0000000004 1+^100;^\u{1b};,12EDFaDF;\u{7f}aooL9Z{ \u{1b};DF;E" 18 0  -- random 18
    ∷ on_line 2 40 (refused_in 4096 "\r\n#DD0;LQ7{\0=;\u{1b}LNM;W260\"oo,14297 0K  0 7;R0*-9 -17050;'\t.E" 7 41)  -- random 19
    ∷ on_line 2 64 (refused_in 4096 "*; L{{'ND;C16777215M Y;ooC16777215T-7 -7 ;,9199999999999\n )-;' `B636oo5 15782 -000 -0 1[;DS16777215 7 3\0;L0001;`C7T-177 1000000000000000000000000000000T-45 81;C57xyzMXR2 0 M X.MX;CM.0000000003T174 66TH90 -168=@\u{1b};B9 72 -99T135 ; L  ABCD ;DF;\"(-;DFDF\n());= \u{1b}D^`*SU2Q1 1[;L0;B9354F'0 273 -195 -5*0 ;R'389 0/-8243;D_ooF;(Ea;(\0E));,:B14903U  W2 0,I-5843;D@ S+0 1 16777215;LNP;LNM:+; :~;W16777215+W0 0 _\";W\"J16777215 0 -7 0 0\n';LZZZZ;DF ; E  [  " 3 120)  -- random 20
    ∷ refused_in 0 "E" 18 0  -- random 21
    ∷ accepted_in 4096 "=:/DS0000000009 16777215 16777215 ;LZZZZ#,/;B16777215\016777215\u{7f}000 0000000000000000000000000000000 ;ooaLA;=~DF ;E " 0 0 0 "E\n"  -- random 22
    ∷ []

pub hold-9 : Each Holds rows-9
unfolding all_hold rows-9
hold-9 = each rows-9 tt

pub rows-10 : List Row
rows-10 =
    accepted_in 4096 "LCM; E " 0 0 0 "E\n"  -- random 23
    ∷ accepted_in 4096 "LNM;B1 1 343 0 0 -1 ; R 16777215 -13743 287;E" 2 0 0 "LNM;\nB1 1 343 0 0 -1;\nR16777215 -13743 287;\nE\n"  -- random 24
    ∷ accepted_in 40 "*DS,\u{b}\u{1b}57 50 2;xyz{\r\nLNP;C7MXR0 -1;\"^'C57.oo\u{7f}T*-62 -000000000116MX\u{1b}`;DF\t;1899999999999EDF; LNP ;\u{b}\0E#\n" 0 0 0 "E\n"  -- random 25
    ∷ refused_in 4096 "L#ND=;DS3 100F1; 7;DF;ooB3 7148 -191 0;`C  3;B 0 19693 -135 0 0\u{7f}  1;R11867 0 0.;;DSV`C9_3\"7; L9Z; B49 9 238 -336~xyz0 1\u{1b}a;`aD/F{;DS4 1\"16777215; ;L A';DF;DS7 100 1 ;L0001;a\r\naB51 11 -167773 -59\u{1b}006 6;B\n0000000000/'167772 25 19/G\00 -0000000001000 ;CU3T`\n=-46 -0000000006R1 -0000000001;LA ;~(E\nE);D*F ;D_/S'oo9^2 1;L0;L{~9Z;DF;0 -DF\n;=\u{1b}C2MXMXT-16777215\r\n0021ooMYoo; E" 7 45  -- random 27
    ∷ refused_in 2 "DDI0000000003;\u{1b}@;{L\nND;/@+B[@228\u{1b} @6 .-11833xyz0\u{1b}-1000 0[;R001+0V3';\" E\u{1b}\u{b}\u{7f}" 18 0  -- random 28
    ∷ accepted_in 4096 "\naLaABCD`/;xyzE" 0 0 0 "E\n"  -- random 29
    ∷ accepted_in 4096 "DD 100 ;E" 0 0 0 "E\n"  -- random 30
    ∷ accepted_in 4096 "E\"" 0 0 0 "E\n"  -- random 31
    ∷ refused_in 40 " DS57 1 100;\t\t_L0;{(-\0((\n\n9(;9))));;DF\";87999999999999999999999999999999999; L9Z;{C57 T/12776 D-8;88 9-aE;C057MX;C57T0 -16323\u{b}; DS_S=57 100 1 \u{7f};LCM;P\n:27 44 -59 54 -007 42 55C48 -47 16; ;(E aDFDF)@#+;\r\nDF;DS\07 50 2 ;`L9Z; P94ZF\0-72 42@-52 -26 56 86N~:16 102 86 ;DF;C57T-8 294 ;C 7M.XR 0 50';L 0 ;E\0" 18 0  -- random 32
    ∷ on_line 6 81 (refused_in 4096 "~DS0000000002`#;L\t.A;W~\0_9139\u{1b}T=0L-0 ;LCM ;(\n\0()\n(-)) ;R14855 7 -0;{LQ7,a;{\"xyzDF;D D0;DS57 ;L9Z;B1 7381 -8\r\nF*-000000000369 1VQ0_; =DF;,@\"DS\r\n009 50 2 ;LZZZZ ;,DF;L 0; L0001;DD3; DSoo57 ;:\u{7f}\nL 0;LNM\u{b};B191'1 8388608 -3259 ;  \"52E99999999999-(;DF; C57M^.YR -50 0T0 426;R 1`16777216 0;E" 3 271)  -- random 33
    ∷ accepted_in 2 " 25(DFDF;+\nL9Z;E" 0 0 0 "E\n"  -- random 34
    ∷ accepted_in 40 "DS0;`L 0;49()- ;D+F'\n,;L\u{7f}ZZZZ*;/;DS9 000000000100 1xyz;();DF;R433 -14367 -2+;E" 1 0 0 "LZZZZ;\nR433 -14367 -2;\nE\n"  -- random 35
    ∷ accepted_in 4096 "DS4@16777215 16777215;L\"0001;BW16777215N16777215*000 0 -17 0000000000;DF;E" 0 0 0 "E\n"  -- random 36
    ∷ refused_in 2 "L0001;D S114 16777215 16777215;LZZZZ ;(\0;DF(Ea)) ;DF;R3 -23 7952;LA; L0;C114MY;C 114MX; B487 36 0 3 -4 7;E" 18 0  -- random 37
    ∷ accepted_in 4096 "DS5;LCM;DF;E" 0 0 0 "E\n"  -- random 38
    ∷ refused_in 0 "^= L0,;C0MYMY\n aMYM_{Y;\t W005270 7  _ -10787 -476oo7209V334 342 -13448 -367'-429 0;xyz /C3T-42'0MY;C16777215T-000 -253TXoo-5a-0;@.DS16777215;LA ;D  #F[;\u{b}@R^xyz1 -131 327 ;DS 1 3 7;LABCD ;\"  '(\0(9-)) ;DF;\n/D D1;B  1 1 -08 0; E" 12 7  -- random 39
    ∷ refused_in 0 "DS+4 \";LQ7'a;\0Ca[\09;C  \057 . T=0xyz_S0000000000\u{7f}`;*C 1T^Z-01488P -0000000007..;\r\nDF@;L/9Z  \n;._D. SHE004 1\00100_#\u{b};@(9DF\na;);\u{7f}L\t0*\n';,59DF\na)9-;((\n; \0)); D F{;\u{1b} C`VW4T.S0000000000 0*,@TP-4\0-3@a_;E" 18 0  -- random 40
    ∷ accepted_in 2 "L9Z;DD100;();DS7 1 100;L0; (\0);B4800 1100 -4100 2700 -1 0;R3200 5700 -2700;38(DF99999999999999999999999;R4200 3400 -2500;DF; (  E()\nDFDFa\0);DS114 50 2;LZZZZ;L0001;R 4 72 102; W 50 -56 54 -2 -58;D F; E" 0 0 0 "E\n"  -- random 41
    ∷ on_line 4 118 (refused_in 4096 "[L\nQ7 ;D\u{7f}S\u{b} '0\u{1b};L0001\n,#;\nC*7M~\u{7f}~X\u{b}`;P-00000000000000000000000000000016858+0{-229\u{7f}0F-4oo-0000000000000000000000000000009B-387*0=0\tGZ-2;CW\u{7f}0@T\u{b} -100000000C#-5464~`\u{1b}M`Yxyz M*Y~*\u{b}T\r\n~0000000000000000000000000000005^-8671.;*.=;8699999999999\n(\na;DF~_;oo[\u{7f}W\u{1b}312 5 459axyz#;\"R`,/8388608 ~5\nN=0000000000;@a^D D+3;[CA002 ;:@L/{ABCDa\";^:\u{1b}D#`\0SM57Qoo1oo100;\t,ooL@A\u{1b} ;D{F \n ;ooE{" 3 143)  -- random 42
    ∷ accepted_in 4096 "@\r\n\u{7f}DS3 ;LCM{/;(DF);=#D @F.a*;Lxyz  oo0;^E" 0 0 0 "E\n"  -- random 43
    ∷ []

pub hold-10 : Each Holds rows-10
unfolding all_hold rows-10
hold-10 = each rows-10 tt

pub rows-11 : List Row
rows-11 =
    accepted_in 4096 "LCM; DS114;();L0;;P-0 9725 -325 0 -5 2574 -9 28 ;((aEa(\n)));W103 16777214 -7;DF;R 17128 202 -23;R6 390 7735;(\n-\n\0);P -5 0 0 10089 -15896 -438 0 1 ;LND ; DD16777215;L0;DS 4 ;LNP; 91\n\n ;D F ;E" 3 0 0 "LCM;\nR17128 202 -23;\nR6 390 7735;\nP-5 0 0 10089 -15896 -438 0 1;\nE\n"  -- random 44
    ∷ refused_in 4096 "L0 ;C57MY;D.S2 016777215^16777215_xyz;L/ 9Z;W1 -0 0;( );LNP;DF[*+;xyz:DD100;W*Dxyz0000000000000000000000000000005650 9252 225 6075 157 ;LCM;L{\t9Z; E " 12 4  -- random 45
    ∷ accepted_in 4096 "L\u{b}ZZZZ~*;E" 0 0 0 "E\n"  -- random 46
    ∷ refused_in 4096 " LNM; L@ooA\0^;\0DS 114;L ZZZZ\u{7f};C57 ;B0a33554431N 18851 -7870;R363T148 -9;B1 1^xyz-4 -0 0 16777215\n_;B0000000001 1 18461:G^0;\u{1b}DF;(E9\0;-\n-\0DFDF);P388=-303 -000/[-18705 0 255 -1 379; C114T-323 -0000000000000000000000000000006507 ;R467~0000000000000000000000000000005Y8388608:_;C114M XT E99999999 337;E " 3 38  -- random 47
    ∷ on_line 4 53 (refused_in 4096 "DSoo16777215;DF\0;xyzDD8;DSV*L5;LCM;10(E99999999999;B3740 1 000/~*00343S-16777215 16777215\r\n\u{1b} ;\nD F;27(99999999999a99999999999\n;L NP;\u{1b}L0;DS1J\016777215 1;39DF)E-aE;Dxyz#*F ;B9 438 33554431 341:\u{b}; D_S0 100 1;L@:'0;a(\0DFDF);  ;(DF-\n9(9DF\nDFDF ));DF ;(-); C_00;P-4747 0 484K-4234 0 232'-12654 125xyz\"H4U\u{7f}F74;10;;E" 3 178)  -- random 48
    ∷ refused_in 40 "LND; W313 11934 -378 -18296 -000;DS7 3 7 ;LA;36\n9\n; DF;LABCD;B1 16777215 -6883 10213; W 305 0 3026 -16777215 -13304;W15072 -448 0 9 0; DD1;DS1;L 0;DF;D S 0;LND;B1 1 477 -158;R431 0 0; D F;E " 18 0  -- random 49
    ∷ refused_in 4096 "LNM;B016695 214 -218 6; DS 9~1 2;R16L16777216~^16777215;\u{1b}L CM;B16777216 106 G84 46 2 -000; C002\0`R001D0;D\":~F; C9aMYM`  Y: T-6*-004376'~T19397 -15108 ;DS114 007#3;LZZZZ;B_129 0 -3~141 0 -1000~#,; ;L 0~:\u{7f};R168 33554431 111[;W2396745 -90D-2396746 -96 -93;DF . ; oo=D S16777215`16777215: 16777215;oo( ;\n \n9\0aDFDFDF);D F; R16777214UA100000000,~3;C16777215'\"\tT0 -405 T-3 18889 T`-468 -2#^\r\nRO  1 _0;Wxyz0000000000000000000000000000003 4 0:C0 15835 0 17522;\"#L NP^;C16777215RD0000000000\u{7f}-0016777215MX;C114T-355Q\nA12001#MYR1aW\"1;=\r\nE" 3 37  -- random 50
    ∷ on_line 5 30 (refused_in 40 "_D\u{1b}\tD[8;#D S114G50[E2;_\"Lxyz #A\u{1b}\u{1b}; Da  F[{a;a:L'\u{b}/CM@\t.;^D  xyzS0;/L\u{b}NP_;a\u{7f}Cxyz114=M_/\tY\0\r\nR50XM\u{7f}0:;\"/\u{7f}B1 1:-12A0\tK\r\n-1000U0000000000;D*\u{1b}\0F\u{1b}; DD#16777215xyz;\n =D\"~S 000Pa003.7\u{b};L/ABCD;B420@322  35*`-238a\04 -8.;\",B:,259R98F=-00350{00000000035\n\t';\tB000000000378/301,-077 XS39146835 -17TV0\u{1b}\0;D \t+F ; \0ooL*\00001;\u{1b}a~E" 3 271)  -- random 52
    ∷ refused_in 2 "DD3;LNP;(  E (9));B5 1 -4 -6 ;(DF((9a( ))));W454 8388608 -3 9267 -2766 4 0 0 0 368 7;DS2;LZZZZ;R9481 152 -2;R183 -12342 -98;((a-\nE-));DF; C2;R1 0 0;D S1 100 1; LNM;R4 -43 41; P-53 -57 -6 -49 -26 16; B 50 13 -4 28 -000 17;C 2MXT-10 11T-58 48;B14 2 -21 -35 ;DF;E" 18 0  -- random 53
    ∷ accepted_in 4096 "E." 0 0 0 "E\n"  -- random 54
    ∷ refused_in 0 "LND;L*ND;~_\0LABCD;DS114~{\t50 0000000000000000000000000000002;\0`;D#F;E\txyz" 18 0  -- random 55
    ∷ on_line 3 73 (refused_in 4096 "\r\nC0 T18779 -0@; \t*(((\0DF; ;)));\n :LZZZZ,;LA+;DS9\t16777215 001;LNP+;DF oo ;D S,~3 100 1;L A/.;#B0 37 -28 100000000 0000000001 0 ;DF;\n\0DD16777215 ;a\r\nDS0 a1\"2;  ooDF;E" 3 105)  -- random 56
    ∷ refused_in 1 "*=^D`S57;`DF~_~;'LZZZZ ;DS 005; ;DF;\u{1b}E" 18 0  -- random 57
    ∷ accepted_in 4096 " .\tDS\002\n2`1a;/DF:;D\r\n  S^V16777215HM_050\n2\";*\t+L[ooND;#oooo( -\n99);a#\".;/\txyzB^00112#0038~CE-76a#U-052\0-2~0;\u{7f}D\tF \t\u{b};'##DS##0000000000000000000000000000003[=;+@L 0001\u{b}';\0  \u{1b}R{=6\r\n-0000000000000000000000000000009\t-011142';^W15607BIa00000000000000000000000000000010187JLxyz255`~4166\t0=_+;\t\"CV_E2\r\n` RC0xyz`  -1T0*-420;DooF*__;L: CM;R185 -374G-9.a;*#D\u{1b}/Sxyz0_100\n1`;ooL\nZZZZ ;#{RT058~\n39[00000000017;DF ;.D D@ooD8\u{1b};@R00000000010.V-8022T16777215;E+:" 2 0 0 "LCM;\nR185 -374 -9;\nR10 -8022 16777215;\nE\n"  -- random 58
    ∷ accepted_in 4096 "LQ7;DS 114 16777215 1;LNM;R1 0 0;LABCD; (\nDF\0\0 DFE);(aE\0(;((DF))));P 0 0 0 0 0 0 -0 0;DF;R1 0 -14258;E" 1 0 0 "LQ7;\nR1 0 -14258;\nE\n"  -- random 59
    ∷ refused_in 0 "LZZZZ; P -1 -8388608 -227 155 -10723 -16061;LQ7;E " 18 0  -- random 60
    ∷ accepted_in 4096 "E*" 0 0 0 "E\n"  -- random 61
    ∷ accepted_in 4096 " =D,  S\0N1F1 100\u{1b};@xyzL\n0001\txyz;\0CW16777215_ooM*Y^M{\u{b}\r\nY\r\n#;'xyzC2, ;C9[/ T*,.3500:H 1900 TD 1900\n01500+T 5500E-2100;=+D@F@@; Exyz\n#" 0 0 0 "E\n"  -- random 62
    ∷ accepted_in 40 "D+S7C*1 16777215;\u{1b}LA+`;B16777215 016777215 0 -0,`4 0000000003;C9T0 0\nTC0J0M/\u{b}:Y;DF;DS#7 4 6\u{b}+^;*L0001;oo#\tDF[\u{1b},;D _S0;\u{b} DF;E " 0 0 1 "E\n"  -- random 63
    ∷ accepted_in 4096 "E#._" 0 0 0 "E\n"  -- random 64
    ∷ []

pub hold-11 : Each Holds rows-11
unfolding all_hold rows-11
hold-11 = each rows-11 tt

pub rows-12 : List Row
rows-12 =
    refused_in 0 "LNM;DD16777215;DD8 ;(\0--DF\na\0;;-a);(\na(aE\n)  (\n\n));DS 3;84a-9E;L0;(E(DF-));B5 12161 4 -0 16777215 16777215 ;DF;LQ7;(a);E" 18 0  -- random 65
    ∷ accepted_in 4096 "E\noo\n" 0 0 0 "E\n"  -- random 66
    ∷ accepted_in 40 ":L\na:NM' ;= 'RX8NDI11911  3381; ~D_DI03a;.#R*000000000000000000000000000000438\0-9#-252=;~E`" 2 0 0 "LNM;\nR8 11911 3381;\nR438 -9 -252;\nE\n"  -- random 68
    ∷ refused_in 0 "L A;`E*," 18 0  -- random 69
    ∷ on_line 3 16 (refused_in 4096 "DSRQ16777215,oo1O0100;32DF( \n-; DF;DS\u{7f}3; L=NM ; R4136=14776 00403;C16777215a`R-0Exyz1 R0 1a\"\u{1b}MY.oo\u{b};{D`F\n;LA;D S3;L 9Z;R100000000 -315 -408;+'=69- )\n;C001T-318 -16777215;DF;#^E " 3 120)  -- random 70
    ∷ refused_in 1 "D#'Sxyz#Z03;D@F;94--99999999999;L ~=CM;B000 0# -8 0 0Y-1[*\n;R285 1 -2;C_3MXMYT311 \u{1b}H-316MY#;Exyz" 7 39  -- random 71
    ∷ accepted_in 4096 "LABCD ;E" 0 0 0 "E\n"  -- random 72
    ∷ refused_in 2 "+aL'oo\0ABCD;B4224 8D432 -4134 ;R14712 8388608 -100000000;L\0 NMxyz;W  8388608 -0058 0xyz-4 0 -13213 -4 0 -8388608 4760 0;R_1`6 8 ;R 495 12675\u{1b}/-7 ,  ;B10673 14247 0000000000000000000000000000000 58{{;DS9 50 2; L0001 ;R 82 -116 -00000000060;Dooxyz`F;B.00000000010536 312+-482 009;C9;E" 3 46  -- random 73
    ∷ on_line 3 11 (refused_in 4096 "L=NM;\r\nDa\r\n_D8;L.CM;\"B0 1 -202\"-19469;C0{MX#\tT7 12598 T-10980 -16026MY\u{7f},;'LNP; DS0000000000;L0\";W1 8 -11879 16777215S\u{7f}-17848;D\u{1b}\u{1b}:F;B1 237~-16777215 -3aN\u{b}-16777215 -16777215; R5841\u{7f}-5 0;+_DS00000000057_; ~\r\nL0001=;DF`;E" 7 21)  -- random 74
    ∷ on_line 2 5 (refused_in 4096 "D S57 7 3;\u{1b}LABCD;52DFDF99999999999E\n;C9T16777215 -16777215'MXaT 132M-171; LND ;DF;/\nD@\r\nS5A100H1;L,0001;xyzLZZZZ[:\r\n; P55 167772 50 8 -16777215QG -11,;C57.,T_-13 52MY ;B16777215 32\n42 22 -1000 0;40  99999999999;DF\n; \nLoo ABCD;.\u{b}D  \u{7f}~SUooU4;L0 ;W388 -451,+B0XH^-0000000006 -10308;.DF+*@;`DS:0000000009 100 \t01;(9 \0-a\0);L0[;85DF-E(99999999999-;\0\tC3 \u{7f}+;P16777215 40 -46 -100000000 -49T.16777215; C7T0019A28\0*\u{7f};DF;C 57\"R0a-50/\u{7f}T\"V:-6=O[-6   ~TF5 0;R 3 0 16777215 ;B498 5239TM\n5363 19114; E" 6 40)  -- random 75
    ∷ refused_in 1 "Lxyz#ZZZZ; B1 16400Q-0000000005+0;DS*7xyz50 2;L\u{b}ZZZZ;L_ABCD;DF:;(; DF-);139999999999999999999999a (-;R227 -273 -7{\n;C7M XT-2 253\0\u{1b}\nMXR W0000000000 16777215;D\tSS03\t 16777215 1\r\n=#;L\u{b}A;^D  F;~P0 16777214 2 160 3A483 0 -8140 -6154 10682;LCM;P-494 -4 0 0000000000000000000000000000008388608 -1 -17885;C7\u{b}`MX;E= +" 18 0  -- random 76
    ∷ refused_in 1 "LZZZZ ;\"C1 Mxyz YT^8\u{1b}U-3`;\r\nC  \u{1b}9; E" 12 8  -- random 77
    ∷ refused_in 0 "DS9;L\r\nNP\0xyz\u{7f};W1 -6 4556_-411\u{b}M14946: ;(\0DF9EEDF99DFDF DF);P-7 -0000000009 7 0\"193 268 12378 5 356 -8388608;D\u{1b}F ;:\u{1b}\"LNP;L@,9Z\u{7f};[  \tC0000000009~{T:-6290 0R0 -1R0 -50;DS3 ;LAoo, ;\n.P -10969 11210 -0014403 -0 ~223J-243;D  F;DD8;D a\0S1;L9Z@*;C3T 15585 0aM YR -1 0R0 2; C 003;B5 15337 3 391;B2033*@1 0 16777215;W1 -0000000000000000000000000000005 6;DF;DS3;LCM;L9Z;L0;DF;DS57 1 16777215\r\n#;D F;C1;R0000000007800 -12507^*/1;DS9 50 2; \t~LA ;C3;DF;E" 18 0  -- random 78
    ∷ accepted_in 4096 "DS7 7 3;LABCD ;(DF \0-);P-171 33 135 30 -51 171;DF;41))-99999999999;LQ7;B1 18265 -450 -3408;D S 7;LND;R9 -19800 -9;(\099(9\n9)) ;W1 0 -4667 -000 -7;DF;DS2 ; LZZZZ;LND ;DF;DS7; L0001;C2;R7439 7 0 ;LND;B1 11160 0 0 -17 0;LND;DF;E" 1 0 2 "LQ7;\nB1 18265 -450 -3408 1 0;\nE\n"  -- random 79
    ∷ refused_in 1 "DD100 ;[,#DS57;DF ;LNP;'C 57;B1 1E-7879 0 -1 0;( \na-()) ;E" 18 0  -- random 80
    ∷ accepted_in 2 "E_'" 0 0 0 "E\n"  -- random 81
    ∷ refused_in 1 "L 9Z;D S57;LQ7;B436 14376 -1205 -000 -0 2; (\n (aDFE)a);();(\nDF ());(9a() DF-\0;\0DF);DF;C57;DS7; L0;C 57T0 -12076MY;DF;LA;((a\n\n\0)) ;C7T -0 0MXMY;E" 18 0  -- random 82
    ∷ on_line 2 4 (refused_in 1 "L\0\r\nND;C:3 R16777215 1;DS7; oo~LQ7;@L9Z;D\u{b}F ;R{a001#0 5;DS0;/ ^L{@NP ;DF;RL*8 208 -46 ;+\tC\t7;E" 11 7)  -- random 83
    ∷ in_calls (82 ∷ []) (on_line 2 43 (refused_in 40 "LQ7;(\n\0DFDF);L ABCD; R2 1 8388607;DS1;(-());L9Z;B833 109 8 -5;DF; DS7 4 6 ;LNP;DF;C1MY MXT-16777214 12610R -0 1;E" 20 48))  -- random 84
    ∷ refused_in 1 " DST2;L0001;B14952R008408 0#G -1 ;^^[L 0; W7,585=\r\n10619 256 -18165 124 0;~aDF^@  ;;E " 18 0  -- random 85
    ∷ []

pub hold-12 : Each Holds rows-12
unfolding all_hold rows-12
hold-12 = each rows-12 tt

pub rows-13 : List Row
rows-13 =
    refused_in 1 "L CM{/\t;(E a-( \0(DF9\n9))) ;  (;\n\0)  '_;E" 18 0  -- random 86
    ∷ refused_in 1 "L0;L NM;`^B6X1 -0309`0;();D\u{1b}S57;D F;P-15184\u{7f}352#4L-0016028 -8388608 -486\u{7f};R1 0[0;C57 MYT8388608UIU2 M X; DS3 1 16777215;D F;C57MYMXMX;/=DS0:1 1\txyz[;D,Foo\0 ;E" 18 0  -- random 87
    ∷ accepted_in 4096 "xyzL\u{1b}0001  =;DD16777215;E" 0 0 0 "E\n"  -- random 88
    ∷ refused_in 1 "50)DF( )); E\u{7f}\u{1b}\u{b}" 18 0  -- random 89
    ∷ refused_in 0 "\u{1b}L0001;/\u{b}E" 18 0  -- random 90
    ∷ accepted_in 4096 "L NP;B459'6177 0 0 1 0;E" 1 0 0 "LNP;\nB459 6177 0 0 1 0;\nE\n"  -- random 92
    ∷ accepted_in 4096 "DSY@a9~\u{1b}\u{1b};\"DF;:~DS57'\"=00000000016777215\"BX1.\u{b}; 6299999999999DF) 99999999999);L_#\t0001@\r\n;=L \r\nNM.;`  C^Q\n03R-16777215 Q{0\nR0000000000F-1\t^T\u{1b}0X+_0;\r\nCFE9;  RO{1A-0  ^\u{1b}0='; :D{\"F ;L~Q7_# ;\"R/  1 0a-0 oo;@'{E\t" 1 0 0 "LQ7;\nR1 0 0;\nE\n"  -- random 93
    ∷ accepted_in 4096 " L A; P0 -433 -16777215 -03*@_-09J=-9115 -4 -5177M00000000022 00350oo;{DS05;{[LZZZZ\n;()\";C\t.N0000000001MY ;D F;_DD1@,; DSG7;D\r\nF;=B16777215 12449 -259 -0~.;DS57U\"  1 16777215;LND  *;LNP;\u{7f}R16777215a0 0`*'; (aDF ;E E\nDF) ;( ;E(DF))/;W16777215 0 0 -000 0:0000000000000000000000000000000 0;D     F;P12062\u{b}P 5 -268 -4271 0 -13441  ;189;C7T-000^1MY\u{1b}T -6W-239oo\t;RQ\"/1895 0 -389  ; DS1 3_7;87;LA;DF;E~" 4 1 0 "LA;\nP0 -433 -16777215 -3 -9 -9115 -4 -5177 22 350;\nB16777215 12449 -259 0 1 0;\nP12062 5 -268 -4271 0 -13441;\nR1895 0 -389;\nE\n"  -- random 94
    ∷ accepted_in 2 "(\n  DF\n-);(--) ; E" 0 0 0 "E\n"  -- random 95
    ∷ refused_in 2 "#@L0+oo;DD16777215#\r\n;DS 1 16777215,1;\u{b}LZZZZ;DF; B0000000001~3:  6 -19440;E @\t" 18 0  -- random 96
    ∷ refused_in 40 "L 0001#;D  S9;DF;`*D  S 1;[xyzxyzL_=`Q7;\"DF;\"W015625_283 0 -2302+-424 -000\"-302N=L-0@-0F-9 -0;LND;L,ZZZZ ;DSBF57#1 2;D  F#;\n  aB1\r\nY8 -0 -0{0 4\0^#;L0001;DS\u{1b},1 01*K100;`\u{1b}LND ;\u{1b}DF;LNP:;D/S16777215;\u{1b}\0L.NP;\u{1b}D\u{b}F;E^/" 18 0  -- random 97
    ∷ accepted_in 40 "L0;Ea" 0 0 0 "E\n"  -- random 99
    ∷ refused_in 1 " D SI 3;DF\u{7f};E" 18 0  -- random 100
    ∷ refused_in 1 " L ND;B1 1 -0450@a2;R4  -3431 -09;#E\"" 18 0  -- random 101
    ∷ refused_in 1 "L\n9Z;DS3 ;ooxyzL_9Z;`B1 1+-78 -218;(DF EE);D F:;Lxyz_+ABCD;\u{7f}C[3T-8 -244 T+J17768 -19566\n;DS7LU+16777215 16777215{;{.#L\r\n\"0001~;B16777215 16777215 -0\u{7f}0 -6 7 ; D F;DS=M4 50 2;\n  LNP;[/,DF;E_" 18 0  -- random 102
    ∷ accepted_in 40 "=L   0_\r\n[;+[DD003;\u{7f}`L\0ZZZZ;D~Sa2\u{1b}S50oo=2;`\u{7f}DF;L\"/0001 ; +[DS\u{7f}4 100G1+;LooNM;/DF,';L@Q7_;  D['S+114:+S001\r\n100:  `;//*LNPxyz;  R,4000'{600+`\u{b}1200;\tCJ2`M\u{7f}X/M XM,X^\0\u{7f};D\0F\r\n;E" 0 0 0 "E\n"  -- random 103
    ∷ refused_in 2 "L9Z;C0000000000000000000000000000007M#XT -3 -4xyz;CS[S0+T -4930 8388608R-0 -2\n^;C1M=\n\r\nYMX\0;'#.;\r\nDS0000000003;LCM;R=@\"7 -3 0;DF;E" 12 4  -- random 104
    ∷ refused_in 1 "E\u{7f}" 18 0  -- random 105
    ∷ refused_in 1 "DS7 16777215 1;L0 ;(\0\0--DF-9\na());;DF;L CM;LABCD;C7T0 0; DS0;65 \n)99999999999);LZZZZ; C7R0 -1MYMY; (  DF(DF\0EDF;)\0); DF;D S1 1 100 ;LA; DF;C0MYMX;E" 18 0  -- random 108
    ∷ accepted_in 4096 "D S2 16777215 16777215;LABCD;(9 (\n));B16777215 16777215 0 -000 -2 0 ;R16777215 0 0;(\0DF()DF; \099\n); ;DF;L0001;B14232 1 -6 -2 -1 -0 ;R30 0 -8;DS16777215 50 2;L0;C2; R 48 34 104;C2R0 1R0 -1 T106 50T106 14;DF;LNP ; L0; B1 3 4 -5 ; DD1;E " 3 0 0 "L0001;\nB14232 1 -6 -2 -1 0;\nR30 0 -8;\nL0;\nB1 3 4 -5 1 0;\nE\n"  -- random 109
    ∷ []

pub hold-13 : Each Holds rows-13
unfolding all_hold rows-13
hold-13 = each rows-13 tt

pub rows-14 : List Row
rows-14 =
    on_line 4 62 (refused_in 1 "DS{\na2\r\n; L=ZZZZoo/ ;;'R384 9 -36;\u{b}':L ABCD;DF;D'S5oo#.;L0;B\u{b}1 1 145 7352:{\r\n;9999999999999((99999999999 9;[C2MX\u{b}.:;W0000000002 454 216 9 100000000;~'C2;'DF;DS5 001 2;\nLoo0;D F\u{1b}~;E\u{b}[\u{1b}" 3 138)  -- random 110
    ∷ refused_in 4096 "L9Z; C1 R0^:1; DS 0000000002 4 6;\u{7f}ooL ZZZZxyz;W90@25165822 -228 -36\r\n100000000;\t\r\nW16777215 360L-120 252  4194303\r\n;C0T#*'16777215 54;P-234 -6 78 0306+*-84 306;{*C0T -4194304 000000000192  ;DF;D\"S[,+2a\u{7f};DooxyzF~;DS1;(E9 \n) ;L+ZZZZ;R187 676 8388608;\"\0 R358 -006 16945\0;DF;C1T0 0R-1 0;D/ S16777215;L0;L0001;P-16718,=0 11896 -4 -5 434;DF;C9;Boo=/2 018792 6 7195;\u{1b}C1;E{" 3 50  -- random 111
    ∷ refused_in 1 "L0; C:57 ;LNM;(a;a\0(;));DS1;L{xyzQ7+\u{b}\0;B11 2[-100000000 -4:\u{b}1 0;@ .C57T*`10878 -105 ;DF:^ ;RC12628 0\u{b}0 ;DSa114;LA;LCM+;R 00249 -403S{+1a/;B1 14181 -9373 0 0 -00000000000000000000000000000017\u{7f};DF;@(E\n;EE\n\n) ;B1 1=-6 100000000 ;D\r\n`S4;/_() ;(;DF(\n9E-)) ;L0001 ;/_46 E99999999999 ();(\0-); (\n) ;D\r\nF;D@S7 16777215E1;(;(DFE-\nDF;;9 ));L0001@;DF;E" 3 45  -- random 112
    ∷ refused_in 2 " D_SZ0000000000;*D F;LQ7 ;oo\nxyzD^@D 3@;DS4 3 7;LND ;;W0147S-343 168 00336 245\u{b}~ ;DF;DS07 2 1{;_\0LND;B47`00000000000000000000000000000038 18 34 -1 0;B31 47 -45 025 6 -2;DF;B287 341 5132 -207;\" P-15110\nTA0 16777214 3554 1 -4 -336'A\u{7f}0XC=-5 -4;DS57;L CM;(EDF;\nE\0;- ;E);B8388607 1Y0{479 -17 0;D#F;LNM;DS/U\"57 50 2;LQ7a;DF;RC1 -10\u{1b}0 ;E" 18 0  -- random 113
    ∷ refused_in 0 "~L+\u{1b}ZZZZ;DS7 100 1; L0; (DF) ; =DF;;B13432a14980 -9807K-32.'H3 2; P\"D-165 0018797^0 18231 -17552 0;B1 0410 0 4647 -1 0; P-17518 83X\0-9 4 -296 0\"\t\u{1b};+\0B362\01 0 16777215 -1 0; RZxyz`1 19102*~'0';E " 18 0  -- random 114
    ∷ refused_in 4096 "L ABCD\t;C 16777215MY\u{b};\"E" 12 8  -- random 115
    ∷ refused_in 1 "~DS0000000009,3 7; ;LND:{~; LNP;R252 -161+203;DF+;LABCD; E" 18 0  -- random 116
    ∷ refused_in 1 "E[" 18 0  -- random 117
    ∷ refused_in 40 ";\u{1b}DD8;DS9;LND; DF\u{b}\t\t; L_ZZZZ; DS2;LA ;L ND_;\t=W1I-15266 0L-228 -5702R-0 107;R0476 0 0;~+C[9M.Y;C9T-0017826 -5056;DF;C 2MX;3299999999999E99 DF;DS0;L0 ;B1 00316xyz\n+-19091 -2 -1`0 ;C2[\"+M\nX;D`\0^F;DS`4;  D F; LZZZZ;13)DF99999999999-); DS0;L0;(9\0\0 -(\0));xyzaR9534~-392 0; (DF9\n--E \nDF\n); P0 -0000000000000000000000000000004  0000000000000000000000000000000K-0 -15325ON419 -3749_WG-8388608;B18731 5 3965 -5712S'K-0 -1;,_/DF;E" 18 0  -- random 118
    ∷ on_line 7 83 (refused_in 40 ",:.D S7 0000000000000000000000000000003 7;\u{1b}xyzL A;R420=\r\n329V=182;C3T-210 350\r\n\r\nMY\t\0 ;( DFE((\n;(DF9)))):';B126 224 406 91\u{1b};C7 T-406 133;~D\t`@F\"#;  xyzDS\t9 3O0000000007;LND;;DF^ /; DS9^;D{F; LNM; =~D_S114' _;LABCD;C007MX ;C9T8033 302 ;D F.;DS0 ;DF ; D+S3;LZZZZ\"; LZZZZ ;R7 5A372;\r\n+.BW/\n1 9 -5\u{1b}2 3 -6;C007R-2 0#[_;LND;D.^:F ;C*TF0000000000000000000000000000003T0010307 -16777216 T0X-19162\r\nMXT-0 0 ;;D D5 ;/( ;a);E" 3 369)  -- random 119
    ∷ on_line 3 12 (refused_in 1 "xyz(  -\n)'+;{,  LND'.:;.\u{b}@D\u{b}S9+1^00000000016777215;[L+\u{1b}+0001^;_~:C\u{1b}I057T=  \00D0M*, X\"M\u{1b}\tX_;\0`\0B#016777215D16777215L0E0_0_1;:R\n16777215\u{1b}0I16777216@;:D ~Foo;.~/RS{=1K0T-8388608;oo\"\u{7f}D[:S{L57/1AE~100'^;LNPoo,;LooZZZZ=;C/9:\r\nMY=\nR@000  -1\r\n TE02200 500\u{1b}`TO-500R-3000 ;+(9\n\n);.=^B\u{7f}004900S5700_Y-3800\t-0000000005800^  E-16777215@=,16777215;`BZ3100C3200S  {300\n-4200Q\r\n~4+\"04;\u{1b}  D\t/:F    ;\t\nW\u{7f}7.Y05ooN=0D-7 0\u{1b}^0000000000000000000000000000007315/~-8;{D\tSK 7S\u{b}016777215\nE0016777215;\n47;[ ,L\nCM,;xyz\u{b}a(()E9((-\0DF)))';(;DFE\0DFDF); \u{7f}C~*9@;~CN\"D0000000009a;{ :DF*;:WB1'\u{1b}-0308 -14857a7 1\n\u{b}\0;\",[E/\"" 3 137)  -- random 120
    ∷ accepted_in 4096 "  L0;LQ7;W^7363 0\u{1b}123 5207D-11 -3427^JP-44;+ \tE" 1 0 0 "LQ7;\nW7363 0 123 5207 -11 -3427 -44;\nE\n"  -- random 122
    ∷ accepted_in 4096 "LNP ;();(DF  DF\0a;a) ;LxyzZZZZ;\t_ ;(-\nE9\0aEa-).\u{b};( ());W1 120 7.;B7522 51 -17198 312 ;B_`a1S1 422 0'0@U\u{b}1 ; D\tS 114 16777215 1;LND/;_L0001 ;D\u{1b}F;\t\nxyz()\" ;E" 3 0 0 "LZZZZ;\nW1 120 7;\nB7522 51 -17198 312 1 0;\nB1 1 422 0 0 1;\nE\n"  -- random 123
    ∷ accepted_in 4096 "D#\tooSA\u{7f}1\u{7f}~;DF;L@ .A ;D\u{1b}\n=S~xyz2 3 7';LND;B28 63 -371 -259 -1,^0 ; R315 189ZW182 ;89- );\0R49 98 -35;P35 385\"_\"343 119 -105 -91 350 -378;=a:D F;(-\0DF;E\0)^;DxyzS00000000000000000000000000000057 1 1;LQ7;@+~C0000000002T.-16677 2T-0 392;DooF;\t\0W1 -0 8388608 -8223 -000000000224 -9 3620 0 -2 3\0-12046;C2; DS2 3 7;L0;84-;@R329 308 -315;LCM; C1;B_/[147S\0*49 -385 0196;DF ; E" 5 1 1 "LA;\nW1 0 8388608 -8223 -224 -9 3620 0 -2 3 -12046;\nLND;\nB12 27 -159 -111 -1 0;\nR135 81 78;\nR21 42 -15;\nP15 165 147 51 -45 -39 150 -162;\nE\n"  -- random 124
    ∷ refused_in 0 "DS9 0000000000000000000000000000003 7;*D`\u{1b}F;E" 18 0  -- random 125
    ∷ accepted_in 4096 "[xyz\0DS4'1 1;;C 3M XR0 -50;DF;D:\tSC^@57;DF_;~L9Z[;xyzE" 0 0 0 "E\n"  -- random 127
    ∷ accepted_in 4096 " LNM;/.@E" 0 0 0 "E\n"  -- random 128
    ∷ refused_in 0 "L/0;\tDS57\u{b}7 3;L 9Z;BXB066\"ZV16777215 177 39;R84 -48 -16777215xyz`@;B150 99 -87 -171\t_0xyzQ -1;DF;{\n\u{7f}D\nD0;W210[220 396 -16777215 0\t~{;DS_0000000001 1M1;\0LA;(EDF\0DF ;\n );L0001;C9\"~R0 -2 RR-16777215\u{7f},+000 T 0 133;C0000000000000000000000000000000T367 6+T362 -2;[{@C1 M  X \0~R 0 1 ; D\u{7f}\0F;P301 0 -412 0XB\u{1b}-100000000.16468 -11'-0a-000P-17674 ;R`M8519 1629 0\0\"  ;~^@W17046 -16973:\0-18931;DS2 100 01;L9Z;~xyzC1=;R22 -167773.R~-23[xyz;DF;\u{b}xyzxyzC2MX;DS3 1HN 1;\u{1b}:LA`\t;*_@R844 15240O5';R126 -2 0;DF;E" 6 28  -- random 129
    ∷ refused_in 0 "^@#D`S5oo{; L\u{b}NP\u{7f};#, DF; #^D.xyzDC000000000000000000000000000000100  \u{7f}\u{b};[[\u{1b}(\n9;DF  \nDF9\n9):\n ;+_xyzD~S\0\t57_;\0\u{7f}L{\u{b}ND{\t;C 005M'a=X\"[R/1R0;\r\nC 5;`C0000000000000000000000000000005,/\n;C/ V5[RU\ta-16777215SA{0;P13503^5914@\u{b}0  L^-0L-97C  0000000000 212\r\n\0A0;@DF,\u{7f}\t;aE=\"" 18 0  -- random 130
    ∷ in_calls (383 ∷ []) (on_line 4 277 (refused_in 40 "DS9 100 1;(\0\n(-)a\0Ea);LA[;DF; LA;R17003 -000L\n0_;D{S2;LND;C9\r\nMY;DF; {;B5 2 -324 -4;C2MXT@A 0 374MXMY ;RooF  1K-0161xyz\u{7f}I0 ;D S57Z3 7 ;La:ND;C9;;LCM ;@ C0 T210 329R.Z16777215 0000000000000000000000000000001MX;/_^B238 154 385J-385 -0 -1,+;DF;:,`DS1; L#=0:,;L ABCD;LCM;B1 1 0M@0a;D*F;D=S0000000000000000000000000000003 16777215 16777215;L0;P0 0 0 -000 -000 0\u{b}0 0G, 16777215 -000';D F;+C0000000000000000000000000000003 T18223 0T0 0;E" 16 338))  -- random 131
    ∷ []

pub hold-14 : Each Holds rows-14
unfolding all_hold rows-14
hold-14 = each rows-14 tt

pub rows-15 : List Row
rows-15 =
    refused_in 40 "DSR7 50 2 ;{  LNM;P-76 56 -78 26 -90Z4 ;DF;DD1;DooS5 0000000000000000000000000000003 07;L+NP;B,X'56 406 -126\u{7f}-98 -17 0;D\u{b}~=F  \0;LCM;Rxyz5585 -003 6764;\r\nCA5MYTIoo-235 9;R357 338 -18270;DS114;DF;E " 18 0  -- random 132
    ∷ accepted_in 2 "\t #DS+3F\n1'16777215\u{7f}; 30E\n;\n=`L9Z+;R~ L16777215T\"0 00000000016777215+oo^;*^`48  DF99999999999-;D\tF : ;xyzL\u{b}\nABCD~;  E" 0 0 0 "E\n"  -- random 133
    ∷ accepted_in 4096 "`.LQ7;aE" 0 0 0 "E\n"  -- random 134
    ∷ refused_in 40 "D\u{1b}+S1.~;L 9Z;B274\0*B5399+8464 -4 0 1;((a));LND ;D F;DS5;/LNP; R1 0 324xyza ;B4690 1 -1 9xyz*\u{7f};DF  /\0;LZZZZ;L A;(E -E);9599999999999Ea DFDF;P1 000 451 171 -9 8388608;/ \u{7f} ;R1 0 2 =`;\u{b} CL5 M\u{b}@\nYMX T8 0 ;DD5#@;B8867 6903 0 0;/_  E/" 18 0  -- random 135
    ∷ refused_in 2 "DS0\u{b}*100 1;L Q7; L_\u{1b}\u{7f}9Z;D=\u{1b}~F ;L9Z@_\u{1b};~R/JU267 0 -4674;\u{1b}\u{b}CT9T-1#\"-5 R-16777215 0000000000000000000000000000000R-1 -000;DS16777215; LNP;DF;C16777215M Y;/DSX#3;+oo(9)\0\u{1b}a; 97EDF;L 9Z;R275 0 0000000000_ \";D\u{b}\0F;+C0 ;C0 ;E" 12 57  -- random 136
    ∷ refused_in 1 "\u{7f}DS3;D `F ; L 0001;a.P0 -0 0=7 -437xyz@*1;DS57Ca100 1oo;L'CM;DF  ;DS2;D F;R16777214QV+00205  -11713 ;  /=B164 1/0 0 -0 2;++RH4304  -1757{oo-0;DS@S1 2 1;L 0;R16777215 -21 3;DFxyz\u{7f};[\"E" 6 157  -- random 137
    ∷ in_calls (257 ∷ []) (refused_in 40 "D,  SV =114oo;.LNM\u{b};*  C57_~'MX\"\"M\"\u{b}Y,@*MY\u{1b};=L\n@\tCM\u{7f} .;*CS1=T_0 000000000372: [;\u{b}oo  P\t  0A:N-000~QK000000000381a-12160 6xyz0000000002488\0\010338\r\n0;  RI1H\u{b}000000000000000000000000000000188^X-7:{=;  _D^_+F; 59aDF;\"L/xyz{CMa  ;P#=U-13312M53\r\n004\0/445G-9xyz4a;C114  ;'C~114\nRX0P1~;/D  D+^xyz5;E" 12 23)  -- random 138
    ∷ accepted_in 4096 "D@S{ 5;69;ooLA;\"P0 0~-294 1 64\t/636 6890 9;C3;D F;DS 5 100 1;L{NP;D F ;DS0000000000000000000000000000007[;\u{1b}=xyzL9Z;DF=.  ; 86;DS9 1 1`;'+ooL0 ;C5 ;LND; B15272 001 -3 000;D~\u{b}F;xyz\".LCM;_\u{7f}B1 1 -257 0 -1 0\r\n_;/.DS57;\"\r\nLA\u{7f}; R01C0 -08192;W15903O{P-7 -0010190 1265.-9 0 8;;D+F;D\nS 5 7 3; #/(;( (--);E)\09);L~`A;(;\n );DF; E" 1 0 2 "LCM;\nB1 1 -257 0 -1 0;\nE\n"  -- random 139
    ∷ refused_in 0 "\u{7f}@DS \t114; L  0001; W4520 -9 -5078 -7637 -16215;R{0000000001526 [\0493 -16777214*,;R2G5 -2;    +W1*-1959\u{b}0;R9.18861IW~5792`; D F;`@\r\nE\"\"xyz" 18 0  -- random 140
    ∷ refused_in 4096 "L '\u{7f}NP;C16777215;E,{" 12 7  -- random 141
    ∷ accepted_in 4096 "L^ZZZZ;R3422 -19904ooU-215;DD0000000000000000000000000000000;DS3 50 2;L0\u{7f};DF;P388Q_-230 -7 0\t-228 1424 ':;DS114;LA;DF;L9Z;  \tDS0 ;LND+;R1 013 8388608; \"\r\nD\r\nF; L Q7;\nR\u{1b}Y'16777215 0000000000`-6;.;\u{1b}D=D8;#~=7\nDFDF99999999999;R1 -0 -192;.E" 4 0 0 "LZZZZ;\nR3422 -19904 -215;\nP388 -230 -7 0 -228 1424;\nLQ7;\nR16777215 0 -6;\nR1 0 -192;\nE\n"  -- random 142
    ∷ refused_in 4096 ",L`\"ND;C3 \0\u{7f}M\t\u{b}'X{[.R50 0000000000000000000000000000000;D\u{7f}SD  0`;DF;L CM; R3304 6 258;WS\"6\t\u{b} -008821oo2 ; D\0S9;LA ;;P\"388 -13281 -8 0 5991 18129\u{1b}-136O  -475 ;R1+19044 0ooa;#'R4856 2 0; L 9Z/  :; DF;D S5;\0DF;*\tE`  " 12 7  -- random 143
    ∷ accepted_in 4096 "Ea" 0 0 0 "E\n"  -- random 144
    ∷ refused_in 40 "(EE\0- -);LA ;(;\0)/;DS000000000000000000000000000000114 1 2;xyzDF;L0;B320 1 -18784Y0O-0xyz-17\"`;DD 0\u{7f};\u{7f}xyz(\n\0a;\n) #;P -2 3592 499 486 -332 2100; E" 18 0  -- random 145
    ∷ accepted_in 4096 "LQ7;D\" S  L3;L0;DF;{DS4 1 2;DF\n;B1 J1 5 -395;DD0;B283 624 1 -426`#;\u{b}xyzDS7 7'@0000000000000000000000000000003,+; LCM ;LND;DF;R8388608C-3 -330;DaS9 16777215 16777215a\"\n;L\u{b}0001;DF;DS5;LND@+;L 0=;P0 2178 8388608 6 309 -479 0 16762/;DF;C~^+9MX;+=E " 3 1 0 "LQ7;\nB1 1 5 -395 1 0;\nB283 624 1 -426 1 0;\nR8388608 -3 -330;\nE\n"  -- random 146
    ∷ in_calls (208 ∷ []) (on_line 2 43 (refused_in 4096 "LNP;B1 1357NJ+-392 4017,[@;DS'2 50 002;L0001 ; DF; Da\r\nS5  1 16777215;L0;C2\u{b}T16777215 0;a/C2;C2; R16777215 0 -0\0  ;`/\0C\u{b}ooD2;DF:;\ta:RC\u{b}440 6 0;`ooaP -16 8388607+T8 -0000000000000000000000000000008744E-109 -1;C5M^X\r\nT0 -7879T-6089 -16777215R0 -1;DS4 2 1a;L#0;LCM;:DF; DS114 16777215 16777215;DF/;DD8;R[H77 0 -90; E_\t" 16 97))  -- random 147
    ∷ refused_in 0 "a#L*[NP;`@'26E;  P[A1Y000000000106[/-7989 -00851{@000M0\u{7f}[=489 319@^\u{1b};/+D\r\nD16777215\r\n^;\"@B@1='\u{b}02\u{7f}13437\n\00P-5QT-0000000004 oo;_,W,\u{7f}001[-5193\u{7f}:{-000\u{7f}143~8;;E~" 18 0  -- random 148
    ∷ accepted_in 4096 "E#" 0 0 0 "E\n"  -- random 149
    ∷ refused_in 4096 "= D\0S7~\t1@+H16777215;[38 99999999999;L0001;\"B16777215PC@16777215 0 oo-0 9 -7;.C2T0 0Rxyz0 -1 `+;D`F;L0001{;C 7:'MX\0R\u{1b}0 0000000000=R0 50R0@-1;E\u{1b} \n" 7 107  -- random 150
    ∷ refused_in 2 "LNP;Coo3T16605 -11221 T-1 -7;C2\u{b}\0\u{7f};\nLND;{E" 12 4  -- random 152
    ∷ []

pub hold-15 : Each Holds rows-15
unfolding all_hold rows-15
hold-15 = each rows-15 tt

pub rows-16 : List Row
rows-16 =
    accepted_in 4096 "DS3;LQ7 ; (E);D F;;DS 5 1 16777215;LNM;DF~;L+NP xyz ;W13788+/I-6 -28`xyz@;DS 2 7 3;DF\0a; D \"  S9 7 3;DF;R1 -16777215 1*\t;.E#" 2 0 0 "LNP;\nW13788 -6 -28;\nR1 -16777215 1;\nE\n"  -- random 153
    ∷ on_line 2 355 (refused_in 1 ";D#S2 1 1; L 0001\0;67)a;C1;\0L9Z;DF;LA;D/S7F16777215\r\n16777215@;[32; L9Z;a.\u{7f}C2MX;/L*oo@ABCD; R16777215 0 0;P-2^0000000000'-000_0000000000000000000000000000000 0 0/\u{7f}0:0016777215 -0 -0;D F;R03256 -16777214 -000000000140;LABCD;CL\"2MYM=XMYRNW0000000000000000000000000000001 -1; C.U0000000000000000000000000000002 M X\"\"=T3 -12@MYR0 16777215 [;^oo  DS5E@16777215 1;DF;D\u{1b}@\u{b}S4 4 6 ;L#\0ZZZZ[=,; C2T-330 -312^; B~W336 16777216 33554431ooXQ60;B4194304oo24 228 16777215K0 -1000 ;:\u{b}~DF;DS1Y: 3V_7;L ND; 92DF99999999999)9--;^+C5T-231/301T385 -217MY;.R5592406 245 -392[;409 --\n;';\nDF[*xyz;E=" 3 407)  -- random 154
    ∷ accepted_in 40 "\r\nD+D_1; Eoo~~" 0 0 0 "E\n"  -- random 155
    ∷ refused_in 1 "E^" 18 0  -- random 156
    ∷ refused_in 40 " 93)a99999999999aE;D S=J1 1 16777215;,L9Z;LABCD;'DF;DS9;DF; L9Z; C1T0 -2;D\r\nS114;@\taL~xyz\u{7f}A.;R4 310 320;*LQ7 ;\0#\0C\n\"1 T6370 0_aMXM+:aX\0T-6002 0;DF;(;);P0F.-17012 342 6 0`20 8388608 496 0\n\0-13768 ;+:LZZZZ;E" 18 0  -- random 157
    ∷ on_line 2 2 (refused_in 4096 "\u{b}~ L ,.NP_;=_Pa-261P002 0*-263\u{b}15890  ~-458';\n^C\"0000000000000000000000000000007=\n'M\"X ;72DF-)\n;^^`W'_1LM19419Z-3489  ;\t25-a ;PF0\u{7f}00000000000000000000000000000040\u{b}-08559 16490{0`0000000000000000000000000000005.;E" 12 47)  -- random 158
    ∷ refused_in 4096 "L+Q7;B272 8F0000000000000000000000000000007505 3266 0@\"[-2;C1RD 16777215LS  0MY;DS 4 50 2;0DFE\n99(;\u{7f}oo'L@+  0001{;BJ26 84/xyz64 -88 0\u{1b}2;DF.;B\u{1b}8245=\u{1b}*1 -007074 -216'1 0`,:;R[1 3299 11504+; E" 12 59  -- random 159
    ∷ accepted_in 4096 "+\nD\tS0000000003=;#\u{1b}=L`0001#oo;\0 D{=*F;=L=Q7;Da[=S0B1 100:;@LQ7@ \u{7f}; a   {; [\tLxyzNM.;+\u{1b}C\r\n/0000000000000000000000000000003\";   DF@ _;( -E-);/E" 0 0 0 "E\n"  -- random 160
    ∷ refused_in 1 "DD00100;DS2;+xyz(;-DF\0a( ()))@  [;L9Z ; DF@\t;L\n0;C2;'C2/xyz\"T2oo0;B18484 1\u{b}06 363 16777215~16777215;DS2 04 6;(E -DFDF);DF;DD5 ;Lxyz0001;[DS 1 1 16777215;LABCD;CA2 T0 0 *_;R16777215LG{0 0;  D F+{~;C 1;W12576 0 8 8 -16641 0 0;@E" 18 0  -- random 161
    ∷ refused_in 0 "L{NP;LND ;C9M XMXaT-199 0000000000000000000000000000000MX;\u{b} .Ea" 12 10  -- random 162
    ∷ refused_in 1 "L0001;\r\nR16458 0 -2;E" 18 0  -- random 165
    ∷ accepted_in 40 "L0;DS7 16777215 16777215;D/+*F; DS57 3 7 ;L[aCM ;@~+19E9999999999999999999999;P\u{b}{-14 -336 -000000000000000000000000000000252 84 -399 -273E399 -294+=;\n\u{b}^L^ND* \u{b};.`{W77+399 -371\" I-98W000000000000000000000000000000210=; LNM;D F;D S2 4H6;DF;(\0 DFDF;);{DS=Q4 3 7\n;LND;W\n84 35 420 175 -70;B. .84E308 -140\0-70 ; RU 154 -301 385; W147^287 329 70 119;B154 84 -126 -336 1000 0.;DF;aD S9 7 0000000000000000000000000000003;LA;P105 36L'12 144.P30 00000000012 -174 129 ; R48TI#-177 -180;\u{1b}#C57 MYT96 00000000000000000000000000000078R0 001#;D :F ; R14159 11196 1 ;DxyzS16777215 ;DF;+DS2 100 1 ;\u{b} /D\nF;B1 9 -6\0I0 1000G-0 ; DD5;#D#xyzxyzS5;DF;E " 2 0 1 "L0;\nR14159 11196 1;\nB1 9 -6 0 1000 0;\nE\n"  -- random 167
    ∷ refused_in 2 "\"\u{1b}L\r\n`ND;DSW114 ;  \u{7f}+DF;R/+01 -3 -66;E" 18 0  -- random 168
    ∷ accepted_in 4096 "`\u{1b}L@A;[\nDS2=16777215 0000000000000000000000000000001 ;DF;E " 0 0 0 "E\n"  -- random 169
    ∷ refused_in 0 "=D,\r\n,SQ57_\u{b}@;L#Q7\n\";R\n8388608Lxyz\"245\"225;C2R-1 0MY  ;+;69\n ;B 16777215  X~112 185\u{1b}\t -22;_@\u{1b}DF;\too`DS9;;\u{b}D F;E" 18 0  -- random 170
    ∷ refused_in 1 "LA;DSR4Z16777215:\u{1b}16777215;LNM;C#0;C16777215/\u{7f}.R 50 0T-0 -07;C 3T0 0000000000T16777215 1MY;DF;8E  (E ;DS0000000004oo;LNM;B9367 9563=1 -244 ;L Q7{\r\n,;C0^MX;\u{1b} ~DF ;E " 18 0  -- random 171
    ∷ refused_in 1 "L9Z ;W8 -17333 0 -16777215N:\"-1A1000000000000000000000000000000 -2891 420 13345 263 116 ;BI8\"0^397\u{7f}*-367oo^[0 0\n\u{1b} ;#@:P-115 -000000000000000000000000000000347 -0 -450 0000000000000000000000000000001397\t-8250=H\t372 0 13227 0oo;((Ea(\na\09 (99))));E" 3 32  -- random 172
    ∷ accepted_in 4096 "D\u{b}\"[S5xyz;L\t0001; CUR 0M XRxyzYD1 0R1 1;=B 396 4 -7 7;P-11096VK\n-19862\u{1b}-9219 -407*\u{1b}5017 00000000000000000000000000000011995; DF;DD16777215;DS114 _\u{1b};LNM; C5T7 0000000000000000000000000000000/; C5 MXMaYMY^M X;BS7 1 -271 -5 1 0;DF ;DS* 00\"`;C2T-3 000=MYT 0 0;DF; D\0\t\u{7f}S\r\n57;LCM;R227 -7 -9;\u{b} R16777215 6727 0; D^F_;L CM\0\u{7f};E " 0 0 0 "E\n"  -- random 173
    ∷ accepted_in 40 " ;DS0 1 1 ;LND;(\na9a;;DF );B1 11477 -16746 6;DF ; LNM; LABCD;DS7 16777215 1 ;LNP;16;L NP ;C0; DF;LABCD;E" 0 0 0 "E\n"  -- random 175
    ∷ accepted_in 2 "LZZZZ ;E" 0 0 0 "E\n"  -- random 176
    ∷ []

pub hold-16 : Each Holds rows-16
unfolding all_hold rows-16
hold-16 = each rows-16 tt

pub rows-17 : List Row
rows-17 =
    accepted_in 4096 "DS5 50 2;LNP;B 62 22 68 84 1000 0;L CM ;LA;LZZZZ;LNM;DF; LZZZZ;LNM ;B3 167 -9 219;D S0;LZZZZ;C5T6 -16993;C5T-8 16777215 MXR1 -000;R60 -0 10507;DF; DD 3;R397 0 -1155;27;E" 2 0 0 "LNM;\nB3 167 -9 219 1 0;\nR397 0 -1155;\nE\n"  -- random 177
    ∷ refused_in 2 "DS4;;LZZZZ ;DF;D\u{b}S0000000000000000000000000000002 7 3;L\"xyz[Q7;R9 -111`J.-111;B24 45 -180 30 17 0;R:33 153A -132 ;P\r\na-99 -33 72'105\n-81 132O72~-108 ;C 4 T=-12 -81MYToo120 147T75 -177;DF;~LA;CAF\t2;  oo[B0000000008M0000000000000000000000000000003\u{1b}  ^00 0=\r\n0 1;W1  /\t-5 15841 -197 488 0`2193;DxyzooS57; L#ND;D@F;\"C02; oo\r\nD S0000000000000000000000000000004 ;L  .'Q7 oo; L9Z;D F.\noo;DS0 ;\"LABCD\0\t;`;C\u{1b}4T-2 4;\n^\r\nR7 -6444O-13254;W468.-8P16795 0 -16777214 -5 4 55 -184E\"-18606  -122\u{b} ;B 18083 9ooRxyz-0 8388607;\u{b}_[DF;73;E" 18 0  -- random 178
    ∷ accepted_in 4096 "Eoo" 0 0 0 "E\n"  -- random 179
    ∷ accepted_in 40 " _[L NM';{'\"D  D/8\t;E" 0 0 0 "E\n"  -- random 181
    ∷ accepted_in 4096 "\r\n_`D S0; L 0001;(;); B*15580 8512 416 -16905 0 -1; B  1 1\r\n0D~@-0 -9K'oo5 ;\r\nRoo\0oo1Da`8450 8;+a;D^F;L Q7 ;D S5\u{b}\n;(9E);DF;67\n (\na;Ca[\r\n5 T-274 478; DS9;\u{1b}D F ;DDC/U1;(9;\n\n\nDF-((;9\n)));D  ~D0= ;DS'C3 ;L ND ;'oo`LA;DaFa\"~;E" 0 1 0 "E\n"  -- random 182
    ∷ accepted_in 4096 "; DS4 100 1;LA; ;B52 21 58 7 0 -1000;DF ;(E\0a());; LNP;C4;E" 1 1 0 "LA;\nB5200 2100 5800 700 0 -1000;\nE\n"  -- random 185
    ∷ accepted_in 4096 "\naD\"Sxyz3;  \r\n,LxyzNP\u{1b};B.^~00000000000000000000000000000060=H\u{7f}406`749Y 8388608D-0M-1 ;\0\u{7f}D:F\0,.;'L^ZZZZ ~\u{b};\n+{E" 0 0 0 "E\n"  -- random 186
    ∷ accepted_in 40 " La*ND; R 1 -16808 0{\r\n;E" 1 0 0 "LND;\nR1 -16808 0;\nE\n"  -- random 187
    ∷ refused_in 0 " 439999999999999999999999DF; D`_S/xyz{00000000057\u{7f};['Cxyz00M*xyzX#T`-1+000~=*MaY;_{LNM^+\";_C_Y0000000002a;\u{1b} \076;D/oo\tF{;E " 18 0  -- random 189
    ∷ accepted_in 4096 "LQ7 ;R1 42 -69;DD1;E" 1 0 0 "LQ7;\nR1 42 -69;\nE\n"  -- random 190
    ∷ accepted_in 2 "DD100;E" 0 0 0 "E\n"  -- random 191
    ∷ accepted_in 4096 "E+" 0 0 0 "E\n"  -- random 192
    ∷ refused_in 4096 "^^/L0001 ;CQ  0,T0oo_-2T-000 186;W 330 6440.0 0oo8;P-8388608 400+3 -612,;D*S0000000009 16777215 1=\r\n;\r\n\u{b}=L Q7;`. ;C3/; DF^;C9T0a\0oo95M\t~=X\t\r\n@; ;+xyzDD5;E" 7 51  -- random 193
    ∷ refused_in 1 "{\u{b}\r\nLQ7';`P`=-0000000007 -2*-224 0 -000 0000000000000000000000000000000F-420*-8791\u{7f};  \t/D\r\nS0 1\u{b}C\u{7f}02  \"_;=L\n._CM;C0+; ooC.MB002'\t=;.\r\nD_:F ,\u{b};.@DS0000000005\t\0  ;{@ooL\r\n0 \n;'()xyz;*L\nNP\u{7f};[BF1 5N0#-421:;@Doo` F\n\";{(DF)^*;,R 245G  0\u{b}-2`;@L*xyzABCD*;\r\nE" 18 0  -- random 194
    ∷ refused_in 0 " DS0000000000;R419'oo  8281 0; LNP;_R0000000000000000000000000000009 -1 0;B1953\u{b}L149'=/-11647 0 0 17 ;B2oo^0000000000000000000000000000007 -73 8 -16777215'0 ;'[C0#;{\0\0D\u{7f}xyz/F;LCM  +;\u{b}E" 8 14  -- random 195
    ∷ accepted_in 4096 "*:DS3Y4 6;#\u{1b}\"L==\n9Z;;( );\t:W288 -348 360K-120 -264 174 6;DF;LCM;oo;DS7;L#0;=W16777214 -457 -250 9 -3 17000\u{1b}-447; LNM ;L+0a;@\t\nL\u{1b}9Z;P6 -395 14653 -20:0 -3 -19729 6 ;DF;L A\u{1b}+;DS[oo\u{b}4;DF;\n\n\u{b}C3T0 -17197/; D~ooD0;D`S9;L A;D#\n_F;LND; D S4 1 16777215;DF;ooR67 0 -7197;12E\n9E;DS\t`5 1 1;L\u{7f}NP;{'B 200 331 -50G179 16777215Z  16777215\n\0;C4R0 16777215R2O0+=;D F*  ;E" 2 1 0 "L9Z;\nW192 -232 -16957 -80 -17373 116 -17193;\nLND;\nR67 0 -7197;\nE\n"  -- random 196
    ∷ refused_in 40 "*D'Soo5+;LABCD ;W13345^~@-14664 19880R-306\t G00141@+;\u{b}B75xyzU\u{1b}0000000000000000000000000000009312 -4#0^;LZZZZ;,DF*xyz_;==L\"ND\n  ;D \0S*0000000000000000000000000000001G,E1#2;; oo~L\r\nABCDa;ooD{\r\nF,{;^PT0000000000000000000000000000000 A\u{7f}0=15898/00000000000000000000000000000016986V-256 -1{-117X`Z-4\r\nP-12692`\0=00\u{b};=DSUJ\02T  1`2xyz;xyz\"\u{1b}L\u{7f}xyz'CM\u{b}\u{7f};P'_54xyz114@^-50a[82\n00000000000000000000000000000084\"54\u{1b}26{W120;=\nR=20 -00000000000000000000000000000046+Z\t00000000000000000000000000000032;\u{b};#R\tPM0000000004N\062\0-16777215.;BK84ooa\000000000080C-00000000000000000000000000000010{00000000088XY-0~00000000000000000000000000000017\n;[DFxyz:;:`WN0000000005#M-202\"-9917VC-9713~-8232'xyz  ;L\u{7f}//NM [oo;*{_E\r\n/" 18 0  -- random 197
    ∷ refused_in 0 " DSA'xyz4\n\"; DF;\n:DS07 1 100;.\nooLND;C4MX;B2600C3300 \t-003300 -500M'Y-0000000000000000000000000000001 0;P\u{7f}a\r\n5100 1400\0\r\n-3900 -3000 -400 1700;DF;:L0;aL 0001;;B2 1 -6 -7381 -1000 0=^\u{b};W#2\r\n151 -2 ; DS4\r\n1 000000000000000000000000000000100@a;L/ND;P-4000 -0000000000000000000000000000001200 1400`-1600 -3000 -5000 100 2100 5900 1000;DF=.;B00000000000000000000000000000081 1 12777 0 0:'2;C7 ;* C4 ;DS16777215.1 16777215;40a-a99999999999999999999999;L0001[\u{1b};W16777215 0 0; R16777215 0 00;(9\nDFa)@\u{7f}\u{b};C  `M4;DF ;D'S,4 1 16777215;L0001;PU0 -0 0 0:0V0 0 0a\"\0;DF; E" 18 0  -- random 198
    ∷ accepted_in 2 "(\09;;\0--E9);DS7;L\u{7f}Q7` ; RP^251 -18557 1_;DF;=#E" 0 0 0 "E\n"  -- random 199
    ∷ accepted_in 40 ";L 0001 ;DD5 ;R=.[34 -278 115;E" 1 0 0 "L0001;\nR34 -278 115;\nE\n"  -- random 200
    ∷ []

pub hold-17 : Each Holds rows-17
unfolding all_hold rows-17
hold-17 = each rows-17 tt

pub rows-18 : List Row
rows-18 =
    accepted_in 40 "LNM;RT\"1 9 11200/ ~;;(\0a9\0\n\nE \0aDFa);@ 'R6 4 11324;D D8;((DF\0)(\0));E" 2 0 0 "LNM;\nR1 9 11200;\nR6 4 11324;\nE\n"  -- random 201
    ∷ refused_in 1 "LA;R000000000000000000000000000000266L-8388608 -234_a;R1 1.M^-11455;LND;##[;;DS2 16777215 16777215;L0001;LZZZZ=;\u{1b}R16777215.0 0;P16777215 0.*W16777215*16777215 1 -16777215 0 -16777215;DF;C2;D#S114;LND ;R9 0 -6;W0 8310 -6@_; R9 5I-447;DF;43-DFa-99999999999;   \r\nLNP@[;DD0;D\"S9 3 7; *\0\t\t;L0001[__;W273 -5._-16777215;a*\0D F\";E=" 7 209  -- random 202
    ∷ refused_in 0 "D~=D8 ;L\u{7f}\r\n 0001;LCM;E" 18 0  -- random 203
    ∷ refused_in 1 "D+  S0H7O.*3;LQ7;  a/;C9;R00000000000000000000000000000087 7E108;CP{7T165 -108T-135 -75^T138 2396745T_~E-69 2396745;R000000000000000000000000000000156 7190235`-66;DF;[LA\r\n;( ());L0001'^=; DS 0000000001;L0001;C0;B410 35 -6xyz1MW-0000000001000 0'\0;@`\tDF;  DS3;LZZZZ[:;CB1M YT -5[-0R0 1MX;D=F;D,S16777215\u{b}4 6\u{b},;L A; /#B120 210\u{1b}WT336 108 -1 0;/aC0R\r\n0 -2MYR-3 2 T 306 222;B270 282 330 294;@{_W192 336 16777215 -348'\"90\t-354 -360 246 -156 00000000084 276+\0;  \u{b};DF;R340 -4 -7;DS0 ;+DF_ \";_E+*" 18 0  -- random 204
    ∷ accepted_in 40 "#L~ZZZZ/*\t;_R01a\u{1b}0\r\n0\0\r\n`;\ta\r\nE\u{7f}" 1 0 0 "LZZZZ;\nR1 0 0;\nE\n"  -- random 205
    ∷ accepted_in 4096 "DS 9;.LZZZZ; B8=  ^200 16777215 8388607;aDF;'`#;L [A;,R120 0 -190;_DS7 16777215 1;xyz^;D F;\0[aW 1 -9696 644;DS2 2 1;\u{7f}LA;B31 23 8388607 14.'; LCM;DF ;DD16777215' ;=DS\":4 2 1;L ZZZZ;DF;LA;DS5 16777215 1;L9Z; \n DF;E" 2 0 0 "LA;\nR120 0 -190;\nW1 -9696 644;\nE\n"  -- random 206
    ∷ accepted_in 2 "oo:LZZZZ;93() a;D,oo S9:*1 2[;\"DF;E" 0 0 0 "E\n"  -- random 207
    ∷ on_line 9 45 (refused_in 40 " LNM;@;\r\n\0DD~3;R291C-10715 -17753;\":{LNM;DS7;\u{1b}\t( ((9-)))[ ;L 9Z;L.\" CMoo;47\n;98(;(-(-\0;9\n(\0DF\0-))) ;`\u{b}xyzDF;C7MYR-3N2\noo T382 417_M@aX;LABCD';R1 0000000005 9590;LZZZZ;\r\nC3T:7 3#\t\r\nT4P-16225 ;57\nDF\nDF;:*DS9 1 0000000000000000000000000000002; Wxyz60 -98 -114;LNP\r\n; B18 00000000032\r\n16777216 33554431B-8 -7 ;DF;#[\nE " 8 241)  -- random 208
    ∷ accepted_in 4096 "\t\u{b};`^LCM;B\t94 1.237\t-9 ;+ =E" 1 0 0 "LCM;\nB94 1 237 -9 1 0;\nE\n"  -- random 209
    ∷ accepted_in 4096 "  D\tS@16777215,;[#*L+ 9Z ;/\r\n\u{1b}(9aDF);L,*\u{1b}ZZZZ^;\u{b}BM\u{1b}1#3889\tM364`oo-2428\n-2 0;P000X000.172~\00HP\n008Z-15689\t0000000000..\n0;\n~82;D=Fxyzoo`;{\0L\nNP@\"`;^Boo2440W\u{7f}1\u{7f}0000000000000000000000000000000Y-128\n\u{1b}W17Ja@0xyz/; _ C:16777215R50+P0~\r\nR0\u{b}\"-1^xyz[M\u{b}aY;\t _E" 3 1 0 "LNP;\nB2440 1 0 -128 17 0;\nLZZZZ;\nB1 3889 -2428 364 0 -2;\nP0 0 0 172 -15689 8 0 0;\nE\n"  -- random 210
    ∷ refused_in 0 "DD0 ;/DS57O2K1[\r\n;L{+,CM;LQ7;(9(9)) ; L..#ABCD;/,  L0;P10 53 -32xyz-52 18#[60\u{7f};D F;L 9Z ;D S5 07 3; LQ7;L0;[+\u{1b}D@:F;B9250 15742 -0336\u{7f}-7R-2 00;; DS114,7 3;LZZZZ oo.;`DF;E" 18 0  -- random 211
    ∷ accepted_in 4096 ":=,LZZZZ\r\n\u{7f};.B  ~#1xyz1Z-9+4+17P0;.\tD=Sa004#\r\n;L*#9Z xyz ;^PF008\n-00000000098T-0000000006^*113L-4_0+;,B462+79C000000000000000000000000000000390`-404 {;\t/[C=009[;B#\u{1b}9\t  380{ \u{1b}143*#0013635:U004S/.-0000000000000000000000000000009;',C1Mxyz+*Y\u{7f}aR=D16777215\u{b}00=   ;\t=D@\u{7f}\nF*;E#oo" 1 0 0 "LZZZZ;\nB1 1 -9 4 17 0;\nE\n"  -- random 212
    ∷ refused_in 40 "L0;#C MQ9\"T-6 -1100 RC0Dxyz-1T -3 -153\"';~B52D231 -8699 -6 6:7;E" 12 4  -- random 214
    ∷ in_calls (136 ∷ []) (refused_in 2 " DD3;DD5 ;D :S1 2 1; L*ABCD;,R'\u{7f}42 -38 14 ;C57MXMY;D@F;LCM;R 16777214\u{b}@0 -14174;\u{1b}P0,Q#-426 -3201~C -92 -1D@~123 0{-379 4 -005+ ;[xyzLNP;C\u{7f}Da1T14380 160;DS0;L\t#NP;L:xyzABCD;B9009 5xyz-6119 6\u{b}0J1000;L0001;R1 7*-5217; L9Z; DF;,_/;@[P-4 1~7a`H-498*=\r\n-17097\r\n-0000000009/.;\"#E\0" 12 43)  -- random 215
    ∷ on_line 2 11 (refused_in 4096 "@/DS4;W_1`0000000003 0^\n0 18434 0 100000000;\u{1b}LND;DF  ;L#  Q7;oo LND;L9Z;W17611 9 4 -1278 0\t0 -3501 -9B8:X-16777214 -4;C9`;BX\"U16055\r\n[0 0 0 -1000 0 ;W297 -3a8593{;DS@2 0 1_=*;LZZZZ^;'`P2394 33554431 5 -0 -0^423 -16777214 164xyz\u{7f}-12586 0\r\n;_ ~C 4  .;P0 -351 -017545 0O\0-259 0#-9 -6;DF@;D\u{7f}@S4V1 0;L0;^DF ;C\02*T-5R-15319 ;\u{7f}oo\tB1 0\u{7f}262 -5 0000000002 -0;C 9@  ;E" 3 34)  -- random 216
    ∷ accepted_in 4096 "( E(E\n-DFa));#L@\r\n`ABCD; R15133 -479 08388608xyz; E " 1 0 0 "LABCD;\nR15133 -479 8388608;\nE\n"  -- random 217
    ∷ refused_in 4096 "DD0;L0;\u{1b}{C2MXR_-2 0T3 0.\"[T-16777214\"\u{b}9;\tRM000000000000000000000000000000100000000 17882 -0;L\u{7f}NP  ;C2\r\nT.0,0 MYMYR0LT16777215;LABCD;DS1a100 1;C 57;ooL ZZZZ; R\r\n031 -100000000 -000000000000000000000000000000167773 ;LNM; W1000000000000000000000000000000 50 19=\u{7f}00000000000000000000000000000042/\r\nG43;((DF9(aa(Ea)))); DF;R1 3088 -1562;C9;();{R402 -5816 0  ;W17124*457 -007660 44 0\n+0 -224=\u{b};E" 3 43  -- random 218
    ∷ accepted_in 2 "DS4 1 1;L0 ;\n `; \u{b}B5654 0000000000000000000000000000001 0 -08197 1:\u{b}0;B001 462{0Q\"-4 0'xyzY3.,;DF;L9Z;DS0114;DF;D_oo\u{b}S5xyz16777215 1;LNP; R  1,0 0; C4 ;C4\n:T0 0;P0 0 0 -0/@0000000000 0;R@1 0 0oo;DF ;.L/0;~xyz:E" 0 0 0 "E\n"  -- random 219
    ∷ refused_in 40 "LND;DS9 ;DF;C9R0 -16777215;B1 37 5 -2;C 9MXMX;LCM;R 3 -11392 0;R2 -95 0;E " 18 0  -- random 221
    ∷ accepted_in 4096 " LA{;'E" 0 0 0 "E\n"  -- random 222
    ∷ []

pub hold-18 : Each Holds rows-18
unfolding all_hold rows-18
hold-18 = each rows-18 tt

pub rows-19 : List Row
rows-19 =
    accepted_in 4096 "LA;(-aDF 9;E- E); LND;((-DF\n9));P445 8388608 1190 -409 0 -2632 ;DD5;P4 -15041 5 -431 -5 3 -8756 141 10568 7;E" 2 0 0 "LND;\nP445 8388608 1190 -409 0 -2632;\nP4 -15041 5 -431 -5 3 -8756 141 10568 7;\nE\n"  -- random 223
    ∷ accepted_in 4096 "\tL 0001 ;L 9Z,;26 \n99999999999a\n);D.S16777215 16777215 16777215;LND;\u{b}DF;D+\u{1b}S5 1 2;LCM;B40 20+-84 102;\0L NM;B112_@J92=66Z-84 0 -1;DF;B2127 16.0V10637 1+-0;DS16777215 50 2;L9Z;  LCM;C5;[  \tP\r\n14 -96 84 -92 -24oo-92;D`\"F;C16777215T10045{^.-0019830 TK\tY-189 -8021T13708 0R-0_50', ;P17113^=-16777215 5 5 -2406 0;D S7 4 6\";L\t\u{b}A;DF;xyz \tE" 5 2 1 "L9Z;\nB2127 16 0 10637 1 0;\nLCM;\nB20 10 27800 23522 0 1;\nLNM;\nB56 46 27893 23597 1 0;\nLCM;\nP30251 23914 30151 25664 30151 22964;\nL9Z;\nP17113 -16777215 5 5 -2406 0;\nE\n"  -- random 224
    ∷ refused_in 2 "L ND  ;C9T0 -386M~YT0,\r\n0;R19404 -8055 -0000000004419;E" 12 7  -- random 225
    ∷ accepted_in 4096 "DaS4SWP0000000001S0016777215;xyzL9Z;#D F'/; D~.~S,'{57S\"3\u{b}:a7;,L^++CM\0;=DF\"+#;a\t,;`D#  S114;'#\0L[NP_',;\"BX0000000000000000000000000000001oo221.169 -9*;R^14T\0S-439 16777215xyz;B1\u{1b}1D01/-11959,7*K\r\n-9/;\u{7f}`xyzD\n\tF\n;\tL\u{b}ND\";[`\u{7f}L{ABCD[\r\n ;CC\u{1b}57 ^T-17583=-116[;D +\"S'4a4  6[  *;L  @ZZZZ@\0;\n\0B 00000000036,132:-300@54xyz0  /V-1;L0001\u{b}; ~\"';{\"D  F;ooE,\u{7f}{" 0 1 1 "E\n"  -- random 227
    ∷ refused_in 4096 "`L.  NP\u{7f}[;DS=3__7{3{+;L'NM';.,;D@~F;,.P33554431\0=0050U0{D\u{1b}475O1Y0;_D.S3M16777215A\n016777215; \n L_NM\u{7f}#;xyzxyz C@=2a; +xyzBC16777215E0016777215 0 0@;77);D\0F\0\0;#C3.\0;Cxyz3\u{1b}Moo[Y[\u{7f}MX T{0\t -236  ;@*E/" 3 39  -- random 228
    ∷ accepted_in 4096 "D \r\nD100;L0001;E " 0 0 0 "E\n"  -- random 229
    ∷ refused_in 0 " L\"CM\u{7f}*;C3R 0\"\"1\"{\0R:0 0\u{1b}'R1_O0:MX; DSI\u{7f},003 2 1;L9Z;DF\u{1b}\t  ;DS16777215 1 100;/@LND;.#C:C3\0M Y{T-4000 2100MX;R1500 -4800 -02200 ;DF; LNP; R.1\u{b}\u{7f}-000000000207 9417; DS4 7 3; Lxyz9Z;C3T105 66\nR1\t\u{b}~0T{84\t  -48;R114@102,{\u{7f}-27 ;P180 7190235 84 -51 -102 144\u{1b};W126 -51 000000000000000000000000000000177;B U141.\nF24 -156[.108 0000000000000000000000000000000 -1\n;DF;B3@0000000000000000000000000000008193 5 8 L\u{7f}-1=0;R8F5 0;/xyz\";B259 1NP404 -171\u{b};'C4TT0{16777214;E " 7 8  -- random 230
    ∷ accepted_in 4096 "LNP;B8388608 42 -9 3;P8388608 -3 -486 -3 0 468;(;-\nE\0  );();DS114 100 1;LNP;24-9;();(\0\n9( 9(DF))());DF;E" 2 0 0 "LNP;\nB8388608 42 -9 3 1 0;\nP8388608 -3 -486 -3 0 468;\nE\n"  -- random 231
    ∷ accepted_in 2 "L CM;E" 0 0 0 "E\n"  -- random 232
    ∷ accepted_in 40 " DS0;+;D #F ;LNM;[{:C0R0 FO-1MY;E:_\u{b}" 0 1 0 "E\n"  -- random 233
    ∷ accepted_in 40 "L9Z;DS57P16777215'16777215`\";LZZZZ;D\t~ F;\"LNM.\u{b};   'DS2 1\0  1oo{ ;LNP ;DF; D`__DC,8;E" 0 0 0 "E\n"  -- random 234
    ∷ accepted_in 4096 "+LQ7;oo  \0E" 0 0 0 "E\n"  -- random 235
    ∷ refused_in 40 "/{DS\"16777215 3 7;L0001  _;C 002{{M XMY,#THB-273 {I-350TP{:39146835,266~~;L0; DF;71;L0001;E  \t" 3 59  -- random 236
    ∷ accepted_in 4096 "LND\0*;DS5;xyz=LNP;R 1 5 -0000000000000000000000000000009;B6'19868 406 221;R17275 -6605 -6645;;\r\n(\0\n);\u{1b}DF ;40E-;DSD1;,L0001; LABCD;C5 TWR-14636 0^ ;LCMxyz;\0*DF ; DS114 16777215 16777215;L 0001 ;L9Z;42E;B16777215 16777215 0 0 0H-2;LNP;^R16777215 0 -000;DF;\u{1b}#ooP-10649 0 8 9016 -219 -8366 10869 16777215 -4 434;=aB377 8 0 1171;R16899 -41 0;E " 3 0 0 "LND;\nP-10649 0 8 9016 -219 -8366 10869 16777215 -4 434;\nB377 8 0 1171 1 0;\nR16899 -41 0;\nE\n"  -- random 237
    ∷ refused_in 1 "D D{  16777215\u{b};; LA;Ca7^T475 8 #R -50 0000000000000000000000000000000 ;DD3;DSN57W0 0*;C7;LND ;DF;*xyzBE1 1\u{7f}@82^OH-003355\u{b}0N00000000000000000000000000000017;E" 4 76  -- random 238
    ∷ refused_in 0 " L0 ; DS57~2 1;=DF;xyzLZZZZ;E" 18 0  -- random 240
    ∷ refused_in 1 "/LQ7 ';WX0000000004#\n-00000000016716\u{b}-011501\"\"3=G0 ;@ \u{7f}()\r\n.;\r\n~\tR008388607_\n-0 Q-0 ;E*" 18 0  -- random 241
    ∷ refused_in 1 "DS0000000002N.W3 7;L 9Z`;D F;DS5;L0 ;DF;xyz[ L`NP;DS[[Q57oo{;#;L*NM~\t;B.^337 137*:-000 -15577 0 -1000;LQ7\0~;= \u{b}DF;LNP/;E" 18 0  -- random 242
    ∷ accepted_in 4096 "+/DS057 16777215 1; L`\"\tND;R1 0000000000000000000000000000000 0\r\nxyz;,`DF;LA ;R8388608Yoo204 -000;D=S7 1 16777215oo{; ;L0# ; BQ16777215 16777215\u{1b}  -0O~0;C16777215; (DF(-\0\0\n;));R16777215 -0 0\u{1b};D,\0[F;B6 4 -491 -418 ;L0001xyz*;E" 2 0 0 "LA;\nR8388608 204 0;\nB6 4 -491 -418 1 0;\nE\n"  -- random 243
    ∷ refused_in 40 "L 9Z;C`3{MY ;DS 0\"0000000001 1;DF;E" 12 5  -- random 244
    ∷ []

pub hold-19 : Each Holds rows-19
unfolding all_hold rows-19
hold-19 = each rows-19 tt

pub rows-20 : List Row
rows-20 =
    accepted_in 4096 "L0001 ;DS4;\u{b}~LNP;W204P-3227\u{1b}6P/ -3 -8 -3Q167 1 X-16953G^9W2254a;89(-;86;_D F;DD001 ;xyz(EE;\nE)#@;(-\09; );W12466 -9836 0 -9273 7525 -0xyz_00000000000000000000000000000013329\"-4 0 -14496 3824;B008388608xyz1 0 -10173 000 -1;DSQ57 7 3; (9 );DF+\r\n^;xyzDS5;,D\r\n[ooF;aDS Z57 1 1 ;L\u{1b}\u{7f}.0 ; ;    \"C5 M\r\nY  T -0 0MX;DF ;D\t+S114; L0;C5/ aMXT0 -7T0000000000\t9 ;/RE15309 3 T#8 ; R005 8\016592 ;B6703 1 -0000000000000000000000000000002 -11604E-1000 0;R1 -1618 0 ;D'=\nF;DS4;LND;W507\t-0000000002 0 0 -4502;DF;DS,I4 3 7; (a) ;LCM ;Da/F;P  2 0 0\0\0  -71 0[77\u{7f}*1TC0;E_~a" 3 0 2 "L0001;\nW12466 -9836 0 -9273 7525 0 13329 -4 0 -14496 3824;\nB8388608 1 0 -10173 0 -1;\nP2 0 0 -71 0 77 1 0;\nE\n"  -- random 245
    ∷ refused_in 0 ":\"L0;R0000000001 0 -3466 ;( \0Ea);DD100;D D0;xyz\t*LNP ;WO8' 0 9/13482 -147 ;(DF(9E()));DS7`U2 1;LQ7;();L0;66)9)9;\0D\u{7f}{\r\nF ;(9a);DD 16777215;a.DS5 ;DF+.; E" 18 0  -- random 246
    ∷ refused_in 40 "_\u{b}@L0001 ;L NP^#\r\n;{#D S3=  xyz4T6\r\n;DxyzF;@,+C3T00000000013955,{0MX;DS,9 3 7;L\"NM[;;/^B182 294\n301 252 -5Gxyzxyz4^;Loo^\u{1b}Q7;DF;P\u{b}-7 -19526 9 -9O\" 0B0 0 -8 -0J0;B305 76 82 0;E" 18 0  -- random 247
    ∷ on_line 2 26 (refused_in 4096 "D SE\u{1b}4;  \"DF;DS4;LND;D_F;(EE)[;  \nL\u{7f}CM;29(;DSMP57 4 6;LNP;B1000000000000000000000000000000,264 210 4194303\t-000 -1;`DF;E" 3 59)  -- random 248
    ∷ refused_in 0 "DS 57 3 7;L0;DF;DS16777215 ;DF ;LNM;DS9 7 3;LQ7; DF;B18509 461 3208 97; C 57T-11 0T-1 8; B1 1 1 -8;DS2 16777215 1;L0001;C16777215R0 -50 T0 -000T-000 0;C 9 MYMY ;DF;DS16777215;LCM;DF;DS114 50 2;L9Z;C57MXR0 1T-98 -68;R 62 -54 46;L0;D F;E" 18 0  -- random 249
    ∷ accepted_in 4096 "LNM;oo+E" 0 0 0 "E\n"  -- random 250
    ∷ refused_in 1 "+;D\" \u{7f}S000000000114;DF;~[6499999999999 --Ea;xyzE" 18 0  -- random 251
    ∷ accepted_in 4096 "D@S 4 000000000000000000000000000000100 1;L~NP;( -9a-)\u{1b};D:@F;E" 0 0 0 "E\n"  -- random 252
    ∷ accepted_in 4096 "L Q7 ;\" DS0\n1\n@~100;DF;C0_\" T\0335L382R1 0T\u{1b}`R19553 6;C+0MYT-205\0-4734 ; E" 0 2 0 "E\n"  -- random 253
    ∷ refused_in 2 "D\u{1b}S7 ; L^ABCDa\t;R93 -7 -6;LaQ7;oo =C1:M,xyzXT.99999999/-1\0@TM*  0 -426aT 152 0';DF;LNM ;DS 00000000016777215 1 100;\nLoo\r\nABCD;R4#-900`-016777216;B5900 3300 -2300 4500/5 -8@/+;B00200 3700 -3500 -0000000003300 -1 0 ;B1700\r\n\u{b}\u{b}100000000 0000000000000000000000000000002800 3700\";.W001500 -3900W2300 0000000000000000000000000000003000 002000 1677721500`2500 3800 -1100@:-3400 1600;DF\"=;E[[*" 3 46  -- random 254
    ∷ on_line 5 12 (refused_in 1 "';\0D S/01;L 0001 ;C16777215 T1691 11957;DFa_;,'DS3a1 16777215\u{7f}@;^LND;CB57\u{1b} xyz;B\u{1b}xyzJ16777215 16777215 0M`N0 -1000 000;R\u{b}16777215#@S0 0 ; DF;+oo\r\nL\0/9Z;\u{b}57;@a~Boo1 8388608 0 8882;/L 0\u{7f}` ;C3R/-1 0;W9 0 3 0@-211\t11375Q`  -1 9 4`*-6\u{7f}0=\n;C`3' :;R0000000001010/F 11019\n-9661=;D SVZK9 16777215I16777215.;LA;C1~~M`\0,Y;\nR/16777215 100000000/0+#;={R00000000000000000000000000000016777215 0` -0 _;L NP;B+#,16777215 16777215+.0 0#; DF;E " 3 323)  -- random 255
    ∷ refused_in 2 " L :ND\";#DS0000000000000000000000000000004#:\n;\"=;\t\r\n@L0#;   WI016777215 -000{0:; :,; B0415U\r\nJ463O~Z-8P0000000000000000000000000000002\"_+;@[#B1=,xyz1C0000000000000000000000000000000 5E\n0 001\u{b};D \"F\n\0\0;/:;/D[^S1oo0016777215 1#oo;\u{1b}L0001^[;.D\0F[;'B,*\r\n4 12217,0000000000000000000000000000000K0a_;,.DSZ=\"7_16777215 1;=\0L\r\nA ;D\u{7f}Fxyz@^; ~\r\nD\n:ooS\r\nB114 0000000000000000000000000000001\t2;[DF#;@\u{1b}Ea\n" 18 0  -- random 256
    ∷ accepted_in 4096 "(;E;9); L 9Z;((E DF;\n\0DFa-));(;;);E" 0 0 0 "E\n"  -- random 257
    ∷ accepted_in 4096 ";D D8@_\0;:`LABCD;E" 0 0 0 "E\n"  -- random 258
    ∷ refused_in 2 "DS7;DF;L9Z;DD5;LZZZZ;B9 1 -24 -8611;L0001;E" 18 0  -- random 259
    ∷ refused_in 1 "  L,ooxyz9Z;DS57:16777215 1;LND\t;L`+\u{7f}0001;R16777215 0 16777215;DF;E" 6 43  -- random 260
    ∷ accepted_in 4096 "L 0 ;W395 2 0 -34 -11381 ;R1 6611 -0 ;P 158 6748 16777214 191 0 -103 -265 6 0 256 ;(9;);DS4 ;L NP;R6 89 -18490 ;B9 1 0 -7 0 1 ;D F; C4MXMYMXT3415 8388608;C4R0 -2T120 423T-90 -5501;C4T-6 0; DS114;L0001;R 206 16777214 0;R19314 0 -19571;DF;E" 9 3 0 "L0;\nW395 2 0 -34 -11381;\nR1 6611 0;\nP158 6748 16777214 191 0 -103 -265 6 0 256;\nLNP;\nR6 3504 8407098;\nB9 1 3415 8388615 0 -1;\nR6 -18460 -5167;\nB9 1 23 -5078 1 0;\nR6 83 -18490;\nB9 1 -6 -7 0 1;\nE\n"  -- random 261
    ∷ accepted_in 4096 "DS57;'LQ7; \";D\r\nF;E" 0 0 0 "E\n"  -- random 262
    ∷ refused_in 1 "DS3 1 1;L ZZZZ ; 3\n \n;B87 1 0 7 0 2 ;DF ; DS1;LNP; 63-\n99999999999(\n;;LNM; C3 T-9545 -7152R-50 0T4962 12331M X;W8388608 -7 117 4 0;DF;E" 18 0  -- random 263
    ∷ accepted_in 4096 "LA;*D S0 4RE 0000000006[\n\r\n;LQ7;DF;D_S3 1 100;L\tABCD ;PK[4600 -6000^S\0-2400 -2100 -4600 6000;(;DF\0-);DF;C3M\u{7f}{X/{;DS2 2 1 ;L0001; B58 2 -37=-52 0 2*,[;R6_-53 52;DF;~BF1/1 00 -007554{I\n-17 0;  LNM;();#*B1 1 -11237 0 0T 17oo;oo E" 3 1 0 "LABCD;\nP-46 -60 24 -21 46 60;\nLA;\nB1 1 0 -7554 -17 0;\nLNM;\nB1 1 -11237 0 0 17;\nE\n"  -- random 264
    ∷ []

pub hold-20 : Each Holds rows-20
unfolding all_hold rows-20
hold-20 = each rows-20 tt

pub rows-21 : List Row
rows-21 =
    on_line 2 19 (refused_in 4096 "DS 57;DF;DS0 02 1; LQ7+;43(E(99999999999DF;\t+,C16777215 M [=YT3 -3;DF;LZZZZ;[*DS5 1 100a;L9Z;D^F ; B1\013054 -2 4985,;.(9\n);C\u{1b}0\0\u{b}  ;C5M~XT0 16777216TE-317 -7T 0D9379; E,\"*" 3 139)  -- random 265
    ∷ accepted_in 4096 "DS114;DF\u{b}'\u{7f};DS0016777215';LA;DF;E" 0 0 0 "E\n"  -- random 266
    ∷ refused_in 0 "DS009;'LND`;C0@;B406^^Y273 0 11520;ooDF;LCM; DS16777215 100 1~\r\n;DFa  \u{7f};D'\u{b}\r\nS2 ; .`L/\r\n9Z; ooW012432 10935= 2 -463 472;LNM_;DFa;D SCI4 100 1 ;@DF'+\r\n;E" 18 0  -- random 267
    ∷ refused_in 0 "L9Z ; DS 7 1 16777215;L9Z;\0oo\n( );` R16777215 0 0;D{ooF\u{b};B466=1 13523 488 0 1000 ;'P448 -19497 18 -2~P\0-2ooYZ-4280 -000000000000000000000000000000185 0;B 12838\ta8 2 0F002 1~;P3 -1902 15868 6 -434:0 384\u{7f}10239;C 0000000007MY;C^7aMX\u{7f}\n\u{b}MY\u{b}{\u{7f}MX=[R\r\nT\"2 0 ; E" 18 0  -- random 268
    ∷ refused_in 40 "D*\u{1b} S57 1~100;LCM;,( 9E(a;-)a); \t\"R4700 -2600 100000000;xyz\nLA ;B16777215 100 -3700 500 7QJ-7;B5100 5{@xyz4000{0 0 17a  ;[DFxyz;L[xyzoo0;xyzW4{T-16456\r\n=\t89 8388608H_R383;R14230[I=0 -9257 ;oo[R 9 -8362Y4923\r\n  xyz;28;E " 3 46  -- random 269
    ∷ refused_in 4096 "D\u{b}\0ooS_16777215 100 1;  L{`ABCD;BQ28 47~100000000 027 17 0;C\u{1b}aF0=ooT-010\u{7f}37\u{1b} :;DF\";DS3 2X1;\u{1b}LA;\r\n.B 42 0 -44 -27\0@; C16777215R-50 -0 M~X\0.TX-37 -58xyz*\r\n;P56 11 11 -37 34=-5 -32 -10; C~16777215R0 1 T-31 -18T18 27;B24 18 34/-30;D.F;  DS07 16777215,00000000000000000000000000000016777215;aL=  \u{7f}0;DF;\u{b}L\0Q7;Eoo" 3 40  -- random 270
    ∷ refused_in 0 "*\0LZZZZ ;E" 18 0  -- random 271
    ∷ refused_in 0 "D oo#S0 50 2; (-EDF\0-a\0) {{;\r\nLNP; LNP;=D_=F; [E" 18 0  -- random 272
    ∷ accepted_in 4096 "DS5 50 2;DF+;L NP;E" 0 0 0 "E\n"  -- random 273
    ∷ refused_in 1 "L ND ;(-E E\na9a);LNM;13; B1 1 0 16777214 0 -1;(\0-DFEaDFDF\0(DF;));DD16777215;(DF;E9--DFEDF\0);E" 18 0  -- random 274
    ∷ accepted_in 2 " DS 4 50 2 ;L9Z;CJ@0  T\0B\u{7f}-335545 00000000040;\",R46L-100 064;DF;:##E[ *" 0 0 0 "E\n"  -- random 275
    ∷ accepted_in 4096 " L9Z;L0001 ;DS 7; LND ; ;L0001;P0 -35 0 -14225 -7 8; (E-a9 DF) ;(;-( )); DF ; DS7 1 100;DF;DS 1 7 3 ;L9Z;(-E9(\0a;-;));C7;W159 -81 159 144 -99;DF ;DD5;B1 188 0 0 9 4; E" 1 0 1 "L0001;\nB1 188 0 0 9 4;\nE\n"  -- random 276
    ∷ on_line 2 72 (refused_in 0 "LNP;DS5;L0;P[15927I2 -288 -5 1:495Q00000000000000000000000000000011579 -3 ;@_R\"1277 -8388608 4;CM,3T\0*0 14846 ; C0 R0T1M~X\r\nMXMX;R150 0{0357  ;DF; C5R-1Z-000+\u{1b}T2 -28; D#S5;\"`LA;DF;L 0;D{S 7 1 1 ;B1 014312 -4270R Z215 1 0;L9Z+;B@+Z1.01 0\u{7f}-41 -0000000001xyz~ 0;xyzC 5T 0 -6988\tT-278 -3220MY\0;DFxyz{;#@:C7T0/. 413a\u{1b}MX\";/#*(;(-a\0));B3051 1 0 0; DD8;B6 1^00000000017376 1Z2 -4;DS3CEJ00000000000000000000000000000050 2,xyz.;L~0001;C7[;C5^T20 38\n  /RQ0000000000000000000000000000000 01  T~16777215 0016777215;D Fa;\n@[E" 8 195)  -- random 277
    ∷ accepted_in 40 "DD16777215{;E" 0 0 0 "E\n"  -- random 278
    ∷ refused_in 1 "Doo:Soo57N16777215\"''0000000000000000000000000000001\u{7f};LA /;^:.B.1 1/0000000000000000000000000000000 000S16777215#'U-16777215\" ;\nW.1_G-000N0000000000000000000000000000000L0^.0@000R0S-0@\u{b}#0  a\u{b}0 0 \u{1b}\";\n=\0D\u{b}~F.a;  E`," 18 0  -- random 279
    ∷ refused_in 1 "17((a(;DS3 1 16777215 ;L ND\u{b}:{;L9Z;R16777215 0 16777215^\0;B0 16777215 16777215G: 0#@\0;D F;C~3R-0 0R`1 -1T0 0;`xyz\u{7f}22 - \n;D^:S4;DF; E" 7 58  -- random 280
    ∷ refused_in 0 "DD5~_/;LND\u{7f}; E" 18 0  -- random 281
    ∷ accepted_in 4096 "D S001\0;D F\n@;  ooD.SD,J57;#xyzL9Z{a;\n\u{7f}D` xyzF ;\r\nLZZZZ^@;+ CK1~#R=0000000000 -1T\" 16171K\u{7f}J-7390/R0/-002*{R0@@-2oo*#;L\t:~9Z/;DS\n000000000114_{16777215xyz16777215;,L['{NM ;L,ND.^ ;~\t@DF:;E^" 0 1 0 "E\n"  -- random 283
    ∷ accepted_in 4096 "a:\"LNP; DS2 2 1;/3099999999999a(;L{{\u{7f}ND;DF;DS3 16777215 1\u{1b}~;L0;D F;R 16777214 0 -14445;(((99);DF))\u{1b}a';D:\r\n S2 4 6^\r\n;{L=ND ;B 174 330{-138 216 5 9;*R252 84 276;R138 -288\" *282;D F;R 0082\n 3469 0_;\0  xyzB19417Z10806 -5730~0 0 1000;DS01 1 1~\u{7f}+;DF\t;E" 3 0 1 "LNP;\nR16777214 0 -14445;\nR82 3469 0;\nB19417 10806 -5730 0 0 1000;\nE\n"  -- random 284
    ∷ accepted_in 4096 "D\r\n\r\nS3;52;(;;a9\nDF\n;)\";L9Z;B1 1 0\n0 17a0,\0;DF;  LABCD ;DS114 1S1;L A;95;C3T\t.2 0^,; C3@;*(\0 E\n E(-;DF\n()));W _120 -9 -7 6824 11292 6 0;\n[=D+ F; DS02;;L,0 ; C3#;L'ND;oo\0D\u{b}\"F;\0L ABCD;R9 -6240 0;B 6 480 -33 -97[,:17:0;CNB00114`xyz;(;E9DF);E" 5 3 0 "LABCD;\nR9 -6240 0;\nB6 480 -33 -97 17 0;\nL9Z;\nB1 1 2 0 17 0;\nB1 1 0 0 17 0;\nLA;\nW120 -9 -7 6824 11292 6 0;\nE\n"  -- random 285
    ∷ []

pub hold-21 : Each Holds rows-21
unfolding all_hold rows-21
hold-21 = each rows-21 tt

pub rows-22 : List Row
rows-22 =
    accepted_in 4096 "L+0 ;DS16777215;LA;(;EDF9\n(DFa));W'453 0 269 5\0aW4348;P0Y  07 90 0,PK227B0 0000000000000000000000000000000 8388607 2 017619;DF;C 16777215; W5'238 -6878 160 0;;DS4 4 6; LND;P -300 204X-12 -72 -30 -264;DF;DS00114:16777215 16777215 a\u{1b};L ZZZZ ;\tB+16777215\t16777215 -0 16777215 00000000017 0; D.F; E" 3 1 0 "LA;\nW453 0 269 5 4348;\nP0 7 90 0 227 0 0 8388607 2 17619;\nL0;\nW5 238 -6878 160 0;\nE\n"  -- random 286
    ∷ refused_in 1 "LZZZZ@oo;R224UNB4733^D_1;C0 M X;E." 12 25  -- random 288
    ∷ on_line 3 3 (refused_in 4096 "L'`0\t;B1 15949X1 -000 1 0\u{b};\u{1b}* Dxyz:S*16777215;L0;DF.;LA@;DS16777215 4 6; ; L9Z ;C9;DF;\u{7f}D\r\nS5';DF~;DD1;LA\r\n#;C16777215MX#;:E" 12 108)  -- random 289
    ∷ refused_in 0 "_L9Z.;R{1,I\"0{_-2; \"*E'.+" 18 0  -- random 290
    ∷ refused_in 0 "DS5 16777215 1;LA;( \0-((-)));((a\0\nE9));DF;LNM ;L0001; E " 18 0  -- random 292
    ∷ refused_in 40 "\u{7f}LA; C 1T11452xyz -4357T\"14366K-132;LooaaCM_; \u{1b}E" 12 5  -- random 293
    ∷ accepted_in 2 "D\nS3 1 100; \r\n/L0001;\0R3400 -5800@\03000; R/D1300_0800H1700;C16777215M YT-0000000000000000000000000000004200 500MX R.\r\n~0 1:`;~DF+=@;LABCD==*;:~D S9HH00000000000000000000000000000050 2oo;*LNM;DF;,E" 0 0 0 "E\n"  -- random 295
    ∷ refused_in 0 "L ZZZZ;E@" 18 0  -- random 296
    ∷ accepted_in 4096 "DS7;L0\u{1b}:;R001oo/\u{b}199 -38;(a ; \n\0);D+/F;\r\nL 0001;53--;.+C7 ;W11016{/\u{b}92 -341@0*  ~152 -1\"13341;`R6881`PK0 -219 \"';C0000000000000000000000000000007R0 1~\0MXT 0 -178;xyzDS3 4 6;~LND;#C7;C7\u{b}:'R16777215 0M\0XMYT.240 -198;\0;B186 96 -324 -168;L0001;D/\"F ; DS 7;\",L{_0001;;W231 0 0\u{b}[;C+ *3;B26 1 -3 -8525 -000 _=1;R2 0 16777214; D F;D S16777215A1\r\n100; 72\n- \n; L0001'# ;B2800\"4800 -4400 -2800 0 -0000000001;R2000 -900 1500;DF; DD3#.;(DFE E);LABCD;R238 -4 -8;E" 5 2 1 "L0;\nR1 199 -38;\nL0001;\nW11016 92 -341 0 152 -1 13341;\nR6881 0 -219;\nL0;\nR1 -38 21;\nLABCD;\nR238 -4 -8;\nE\n"  -- random 297
    ∷ in_calls (175 ∷ []) (on_line 2 81 (refused_in 40 "LZZZZ; W6386 250 -5  6 -06460;R45 0 1107;DS7=.@16777215 1\r\n; LCM;W1 0 0 000 0;/R0000000000000000000000000000001 0 0'  ;P0 -0'\u{b}G0 0 -000 -0;C16777215R -001 0\r\n;_R 1 0 -0; DaaF;C7MX~\u{7f}T,,8388608 8069T0+~-416 a;(EDF9-\nDFE;E\0) ;(9-(DF));R\r\n488 3585 5523 ;E+" 12 139))  -- random 298
    ∷ on_line 2 19 (refused_in 2 "LZZZZ^\u{1b}\r\n;DS0 7 3;LNM;B138 16777215O72 -63;\r\n;[B99 000000000000000000000000000000180 66 -0042V17 0;[B123 135Q21 -141~7`3\u{1b}; C\u{b}W3;DF@;B/M#311 8J0 -296 0000000000000000000000000000000 -17;`~:E" 6 27)  -- random 299
    ∷ []

pub hold-22 : Each Holds rows-22
unfolding all_hold rows-22
hold-22 = each rows-22 tt
