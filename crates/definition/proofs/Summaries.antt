-- The table of texts, symbol numbers and what is told of each (RULES 19, request 3). The answers were worked out elsewhere, by the second reader or by hand.
-- Assumes nothing.
use mathlib.Core.Path.{◌≡◌}
use mathlib.Core.Bool.{Bool, ◌&&◌}
use mathlib.Core.List.{List, [], ◌∷◌, ◌++◌}
use Prim.Native.Nat.{ℕ}
use Prim.Native.String.{String}
use lib.Dec.{T}
use lib.ListN.{length}
use Rattle.grammar.proofs.Tests.{and_left, and_right}
use Rattle.definition.specs.declared.Summary.{Summary}
use Rattle.definition.specs.Words.{same, bytes_of}
use Rattle.definition.specs.Summary.{Summarises}
use Rattle.definition.specs.Computed.{quick_summary}
use Rattle.definition.proofs.Rows.{small, small_bytes, same-eq, every, by_test, Each, all_hold}
use Rattle.definition.proofs.Quick.{quick_summary_right}

pub record Asked : Type 0 where  -- a text, the words lent, a symbol number, and all that is told
  pub text : List ℕ
  pub words : ℕ
  pub symbol : ℕ
  pub said : List ℕ

-- a text of which all is told: what drawing the symbol gives, layers drawn, first of them, height, own shapes, calls and layers; and one that is refused
abbrev pub tells : String → ℕ → ℕ → ℕ → ℕ → ℕ → ℕ → ℕ → ℕ → Asked
tells t n g d f h s c l = record { text = bytes_of t; words = length (bytes_of t); symbol = n; said = 0 ∷ 0 ∷ 0 ∷ 0 ∷ g ∷ d ∷ f ∷ h ∷ s ∷ c ∷ l ∷ [] }

abbrev pub refuses_with : ℕ → List ℕ → ℕ → ℕ → ℕ → ℕ → Asked
refuses_with w t k p line column = record { text = t; words = w; symbol = 1; said = k ∷ p ∷ line ∷ column ∷ 0 ∷ 0 ∷ 0 ∷ 0 ∷ 0 ∷ 0 ∷ 0 ∷ [] }

abbrev pub refuses : String → ℕ → ℕ → ℕ → ℕ → Asked
refuses t k p line column = refuses_with (length (bytes_of t)) (bytes_of t) k p line column

abbrev pub said_in : Summary → List ℕ
said_in r =
    r.number ∷ r.place ∷ r.line ∷ r.column ∷ r.gives ∷ r.drawn ∷ r.first ∷ r.height ∷ r.shapes ∷ r.calls ∷ r.layers ∷ []

pub record AsSaid (a : Asked) : Type 0 where
  pub summary : Summary
  pub summarises : Summarises a.text a.words a.symbol summary
  pub says : said_in summary ≡ a.said

told : Asked → Bool
told a = small a.text && same (said_in (quick_summary a.text a.words a.symbol)) a.said

told-right : (a : Asked) → T (told a) → AsSaid a
unfolding told
told-right a t = record {
  summary = quick_summary a.text a.words a.symbol;
  summarises = quick_summary_right a.text a.words a.symbol (small_bytes _ (and_left (small a.text) _ t));
  says = same-eq _ _ (and_right (small a.text) _ t);
}

unfoldable pub all_told : List Asked → Bool
unfolding told all_hold
all_told rows = every told rows

-- each row of a list that passes the test is as promised
pub each_told : (rows : List Asked) → T (all_told rows) → Each AsSaid rows
unfolding all_told
each_told rows t = by_test told AsSaid told-right rows t

-- 66 names, each of two letters and a semicolon before the L: A0 to A9, B0 to B9 and so on
many_names : String
many_names = "LA0;LA1;LA2;LA3;LA4;LA5;LA6;LA7;LA8;LA9;LB0;LB1;LB2;LB3;LB4;LB5;LB6;LB7;LB8;LB9;LC0;LC1;LC2;LC3;LC4;LC5;LC6;LC7;LC8;LC9;LD0;LD1;LD2;LD3;LD4;LD5;LD6;LD7;LD8;LD9;LE0;LE1;LE2;LE3;LE4;LE5;LE6;LE7;LE8;LE9;LF0;LF1;LF2;LF3;LF4;LF5;LF6;LF7;LF8;LF9;LG0;LG1;LG2;LG3;"

pub asked : List Asked
asked =
    -- nothing is drawn: calls outside are not looked at, nor angles
    tells "DS1;DF;C2;E" 1 0 0 0 1 0 0 0
    ∷ tells "DS1;LA;R1 0 0;DF;C1R1 1;E" 1 0 1 1090519040 1 1 0 1
    ∷ tells "DS1;C2R1 1;DF;DS2;DF;E" 1 0 0 0 2 0 1 0
    -- 12, 13 and 14, with layers and height 0; the first in drawing order
    ∷ tells "DS1;C1;DF;C1;E" 1 13 0 0 0 0 1 0
    ∷ tells "DS1;C9;C1;DF;E" 1 12 0 0 0 0 2 0
    ∷ tells "DS1;C1;C9;DF;E" 1 13 0 0 0 0 2 0
    ∷ tells "DS1;C2;C2;C3;DF;DS2;DF;DS3;C9;DF;E" 1 12 0 0 0 0 3 0
    ∷ tells "E" 1 12 0 0 0 0 0 0
    ∷ tells "DS1;LA;R1 0 0;DF;DD0;E" 1 12 0 0 0 0 0 0
    -- the table left at the end: redefined, callee removed, entered again
    ∷ tells "DS1;LA;R1 0 0;R1 0 0;C2;DF;DS1;LB;W1 0 0;DF;E" 1 0 1 1107296256 1 1 0 1
    ∷ tells "DS1;LA;R1 0 0;C2;DF;DS2;DF;DD2;E" 1 12 0 0 0 1 1 1
    ∷ tells "DS1;C2;DF;DS2;DF;DD2;DS2;LQ;R1 0 0;DF;E" 1 0 1 1358954496 2 0 1 0
    -- own calls as written; an L command without shapes draws nothing; layers are distinct
    ∷ tells "DS1;C2;C2;C2T1 1;DF;DS2;LA;R1 0 0;R1 0 0;DF;E" 1 0 1 1090519040 2 0 3 0
    ∷ tells "DS1;(LB;R1 0 0;);9R1 0 0;;;LA;DF;E" 1 0 0 0 1 0 0 0
    ∷ tells "DS1;LA;LB;R1 0 0;LC;DF;E" 1 0 1 1107296256 1 1 0 1
    ∷ tells "DS1;LA;R1 0 0;LB;R1 0 0;LA;R1 0 0;C2;DF;DS2;LB;R1 0 0;DF;E" 1 0 2 1090519040 2 3 1 2
    -- the first to appear in the text, not the first drawn: in a later place, and outside of definitions
    ∷ tells "DS1;LB;R1 0 0;DF;DS2;LA;R1 0 0;C1;DF;E" 2 0 2 1107296256 2 1 1 1
    ∷ tells "LA;DS1;LB;R1 0 0;LA;R1 0 0;DF;E" 1 0 2 1090519040 1 2 0 2
    ∷ tells "DS1;LABCD;R1 0 0;LABC;R1 0 0;LAB;R1 0 0;LA;R1 0 0;DF;E" 1 0 4 1094861636 1 4 0 4
    -- the tallest callee, wherever it stands
    ∷ tells "DS1;C2;DF;DS2;C3;DF;DS3;DF;DS4;C3;C1;C3;DF;E" 4 0 0 0 4 0 3 0
    -- refusals, in their order: 2 before 3 to 9, these in text order, and 10 and 25 last
    ∷ refuses "()E" 2 2 1 3
    ∷ refuses "DS1;DF;\nDS2 0 1;DF;E" 4 8 2 1
    ∷ refuses "DS1;\n\nR1 0 0;DF;E" 8 6 3 1
    ∷ refuses_with 2 (bytes_of "DS1;C2;DF;E") 25 0 1 1
    ∷ refuses_with 0 (bytes_of "DS1;C2;DF;R0 0 0;E") 7 10 1 11
    -- 19: the 64th name is good and the 65th is not, at its L command, also in a definition, and again the same name is none; with 3 to 9 in text order
    ∷ record { text = bytes_of many_names ++ bytes_of "LA0;DS1;LG3;R1 0 0;DF;E"; words = 400; symbol = 1; said = 0 ∷ 0 ∷ 0 ∷ 0 ∷ 0 ∷ 1 ∷ 1194524672 ∷ 1 ∷ 1 ∷ 0 ∷ 1 ∷ [] }
    ∷ refuses_with 400 (bytes_of many_names ++ bytes_of "LG4;E") 19 256 1 257
    ∷ refuses_with 400 (bytes_of many_names ++ bytes_of "LA0;DS1;LB0;LG4;DF;E") 19 268 1 269
    ∷ refuses_with 400 (bytes_of many_names ++ bytes_of "R0 0 0;LG4;E") 7 256 1 257
    ∷ refuses_with 400 (bytes_of many_names ++ bytes_of "LG4;R0 0 0;E") 19 256 1 257
    ∷ refuses_with 0 (bytes_of many_names ++ bytes_of "DS1;C1;DF;LG4;E") 19 266 1 267
    ∷ []

pub summaries : Each AsSaid asked
unfolding all_told asked many_names
summaries = each_told asked tt
