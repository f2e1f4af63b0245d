-- Texts on both sides of every limit that computes. Depth 32 and 33 and the laws of each limit stand in the definition's own proofs/Limits.antt; a
-- million calls or shapes are too long to compute, and what one more does to such a drawing is shown by its proofs/CountLimits.antt.
-- Assumes nothing.
use mathlib.Core.Path.{◌≡◌}
use mathlib.Core.List.{List, [], ◌∷◌, ◌++◌}
use Prim.Native.Nat.{ℕ, zero, suc}
use Prim.Native.String.{String}
use native.Mathlib.Omega.{arith}
use lib.Dec.{lit≤}
use lib.IntN.{pos}
use lib.ListN.{length}
use Rattle.definition.specs.Words.{bytes_of}
use Rattle.definition.specs.declared.Rule.TheVariants.{TextTooLong}
use Rattle.definition.specs.Rules.{refuse}
use Rattle.definition.specs.Flat.{decimal}
use Rattle.definition.specs.Answer.{rejected, Answers, too_long}
use Rattle.definition.specs.Listing.{Lists, over}
use Rattle.definition.proofs.Rows.{Row, lent, in_calls, accepting, refusing, accepted, refused_at, accepted_in, refused_in, Holds, Each, all_hold, each}

-- n times a text, before another
unfoldable pub times : ℕ → String → List ℕ → List ℕ
unfolding bytes_of
times zero s rest = rest
times (suc n) s rest = bytes_of s ++ times n s rest

-- the symbols n, n - 1 .. 1, each with an empty body; 512 of them take 512 * 6 bytes and 9 + 2 * 90 + 3 * 413 for their numbers: 4,500
symbols : ℕ → List ℕ → List ℕ
unfolding bytes_of decimal
symbols zero rest = rest
symbols (suc n) rest = bytes_of "DS" ++ (decimal (pos (suc n)) ++ (bytes_of ";DF;" ++ symbols n rest))

unfoldable pub text : String → ℕ → String → String → List ℕ
unfolding bytes_of
text before n s behind = bytes_of before ++ times n s (bytes_of behind)

-- 3, 6, 16 and 20: on both sides, of both signs, on both axes; sizes are no points
pub ranges : List Row
ranges =
    accepted "LA;R16777215 -16777215 16777215;E" 1 0 0 "LA;\nR16777215 -16777215 16777215;\nE\n"
    ∷ refused_at "LA;R16777216 0 0;E" 3 4
    ∷ refused_at "LA;R1 0 -16777216;E" 3 8
    ∷ refused_at "C16777216;E" 3 1
    ∷ refused_at "C16777215;E" 12 0
    ∷ refused_at "LA;B1 1 0 0 0 16777216;E" 3 14
    ∷ refused_at "C1R16777216 0;E" 3 3
    ∷ accepted "DS1 5 1;LA;R3355443 3355443 -3355443;DF;E" 0 0 0 "E\n"
    ∷ refused_at "DS1 5 1;LA;R3355444 0 0;DF;E" 6 12
    ∷ refused_at "DS1 5 1;LA;R1 0 -3355444;DF;E" 6 16
    ∷ refused_at "DS1 5 1;C1T0 3355444;DF;E" 6 13
    ∷ accepted "DS1;LA;R16777215 1 -1;DF;C1T16777214 -16777214;E" 1 1 0 "LA;\nR16777215 16777215 -16777215;\nE\n"
    ∷ in_calls (18 ∷ []) (refused_at "DS1;LA;R1 -1 0;DF;C1T-16777215 0;E" 16 7)
    ∷ in_calls (17 ∷ []) (refused_at "DS1;LA;R1 0 1;DF;C1T0 16777215;E" 20 7)
    ∷ []

pub ranges_hold : Each Holds ranges
unfolding all_hold ranges
ranges_hold = each ranges tt

-- 9: 1,024 points of one shape, not of all; 32 transformations of any kind, drawn or not. 8 comes before it, 12 after
pub many-points : List Row
unfolding bytes_of text times
many-points =
    accepting 4114 (text "LA;W1" 1024 " 0 0" ";W1 0 0;E") 2 0 0 (text "LA;\nW1" 1024 " 0 0" ";\nW1 0 0;\nE\n")
    ∷ refusing 4114 (text "LA;W1" 1025 " 0 0" ";E") 9 3
    ∷ refusing 4114 (text "LA;P0 0" 1024 " 0 0" ";E") 9 3
    ∷ refusing 4114 (text "W1" 1025 " 0 0" ";E") 8 0
    ∷ []

pub many-points_hold : Each Holds many-points
unfolding all_hold many-points text times
many-points_hold = each many-points tt

pub many-turns : List Row
unfolding bytes_of text times
many-turns =
    accepting 2 (text "DS1;DF;C1" 32 "MX" ";E") 0 1 0 (bytes_of "E\n")
    ∷ refusing 2 (text "DS1;DF;C1" 33 "MX" ";E") 9 7
    ∷ accepting 2 (text "DS1;DF;C1MX" 10 "T1 1R0 1MY" "R1 0;E") 0 1 0 (bytes_of "E\n")
    ∷ refusing 2 (text "DS1;DF;C1" 11 "T1 1R0 1MY" ";E") 9 7
    ∷ refusing 2 (text "DS1;C1" 33 "MX" ";DF;E") 9 4
    ∷ refusing 2 (text "C1" 33 "MX" ";E") 9 0
    ∷ []

pub many-turns_hold : Each Holds many-turns
unfolding all_hold many-turns text times
many-turns_hold = each many-turns tt

-- 10: 512 live definitions, one replaced, and one entered in a place that DD freed; one more, where DD freed none; and 12 before it in the
-- order of drawing
pub many-symbols : List Row
unfolding bytes_of symbols
many-symbols =
    accepting 2 (symbols 512 (bytes_of "DS512;DF;DD512;DS0;DF;E")) 0 0 1 (bytes_of "E\n")
    ∷ refusing 2 (symbols 512 (bytes_of "DD513;DS0;DF;C513;E")) 10 4506
    ∷ refusing 2 (symbols 512 (bytes_of "C513;DS0;DF;E")) 12 4500
    -- RULES 12, request 10: 25 directly after it, at the same DS
    ∷ lent 2 (refusing 2 (symbols 512 (bytes_of "DS0;LA;DF;E")) 10 4500)
    ∷ lent 2 (refusing 2 (symbols 512 (bytes_of "DD512;DS0;LA;DF;E")) 25 4506)
    ∷ []

pub many-symbols_hold : Each Holds many-symbols
unfolding all_hold many-symbols symbols
many-symbols_hold = each many-symbols tt

-- 18: the room just large enough, and one byte short
pub rooms : List Row
rooms =
    accepted_in 2 "E" 0 0 0 "E\n"
    ∷ refused_in 1 "E" 18 0
    ∷ accepted_in 26 "DS 7 50 2; L CM; B 4 2 1 0; DF; C 7 MX T 100 0; E" 1 1 0 "LCM;\nB100 50 75 0 -1 0;\nE\n"
    ∷ refused_in 25 "DS 7 50 2; L CM; B 4 2 1 0; DF; C 7 MX T 100 0; E" 18 0
    ∷ []

pub rooms_hold : Each Holds rooms
unfolding all_hold rooms
rooms_hold = each rooms tt

-- 1: whatever the bytes of a longer text are, and for the list program those of one over 32,768
pub text_too_long_lem : (t : List ℕ) (words room : ℕ) → length t ≡ 16777217 → Answers t words room (rejected (refuse TextTooLong 0) [])
text_too_long_lem t words room h = too_long (omega (arith, h))

pub list_too_long : Lists (times 32769 ";" []) (bytes_of "refused\t1\t0\t1\t1\n")
unfolding all_hold times
list_too_long = over (lit≤ tt)
