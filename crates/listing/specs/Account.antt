-- How the listing comes from the flat file byte by byte, of any bytes whatever: a running account, not to be believed. proofs/Agrees.antt shows that
-- for the answer and the flat file of a text it is the definition's `listing`.
-- Assumes nothing.
use Rattle.std.specs.Prelude.{Bool, true, false, Option, Some, None, unwrap_or, List, [], ◌∷◌, ◌++◌, ℕ, eqb, ltb, pos, length, take, if◌then◌else◌}
use Rattle.definition.specs.Words.{bytes_of}
use Rattle.definition.specs.Flat.{decimal}
use Rattle.definition.specs.Listing.{fields}
use Rattle.definition.specs.declared.Answer.{Answer}
use Rattle.pen.specs.Names.{name_of}
use Rattle.lines.specs.Followed.{fresh, line_after, numeral, numeral_after, blank, lead_after, span, span_after}
use Rattle.lines.specs.declared.Axis.{Axis}
use Rattle.lines.specs.declared.Axis.TheVariants.{X, Y}
use Rattle.lines.specs.declared.Line.{Line}
use Rattle.lines.specs.declared.Numeral.{Numeral}
use Rattle.lines.specs.declared.Lead.{Lead}
use Rattle.lines.specs.declared.Span.{Span}
use Rattle.lines.specs.declared.Window.{Window}

-- ---- the lines of all shapes

abbrev pub quiet : ℕ → Bool  -- lines that are not listed: L and E
quiet c = if eqb c 76 then true else eqb c 69

-- what is written of a shape before its numbers: `shape`, its count, layer, kind letter
unfoldable pub heading : (count layer letter : ℕ) → List ℕ
heading n l c = bytes_of "shape" ++ (9 ∷ decimal (pos n) ++ (9 ∷ name_of l ++ (9 ∷ c ∷ 9 ∷ [])))

abbrev pub wrote_at : Option ℕ → Line → ℕ → List ℕ  -- after the line's letter, or at it
wrote_at None s b = if quiet b then [] else heading s.count s.layer b
wrote_at (Some c) s b = if quiet c then [] else if eqb b 59 then 10 ∷ [] else b ∷ []

unfoldable pub wrote : Line → ℕ → List ℕ  -- what is written at a byte
wrote s b = if eqb b 10 then [] else wrote_at s.letter s b

unfoldable pub printed : Line → List ℕ → List ℕ
printed s [] = []
printed s (b ∷ l) = wrote s b ++ printed (line_after s b) l

-- ---- the window: what the spans along the rest of the flat file come to

unfoldable pub spanned : Axis → Line → Numeral → Lead → Option Span → List ℕ → Option Span
spanned axis s n h w [] = w
spanned axis s n h w (b ∷ l) = spanned axis (line_after s b) (numeral_after n b) (lead_after h n b) (span_after axis w s.letter h n b) l

abbrev pub window_along : List ℕ → Window
window_along f = record { xs = spanned X (fresh 1 0) (numeral 0 false 0) blank None f; ys = spanned Y (fresh 1 0) (numeral 0 false 0) blank None f }

-- ---- the listing

unfoldable pub total_line : (shapes calls redefinitions : ℕ) → List ℕ
total_line s c r = bytes_of "total" ++ fields (decimal (pos s) ∷ decimal (pos c) ∷ decimal (pos r) ∷ [])

abbrev pub sides : Span → Span → List ℕ
sides xs ys = fields (decimal xs.low ∷ decimal ys.low ∷ decimal xs.high ∷ decimal ys.high ∷ [])

abbrev pub sides_of : Option Span → Option Span → List ℕ  -- an x without a y has the y 0
sides_of None ys = fields (bytes_of "none" ∷ [])
sides_of (Some xs) ys = sides xs (unwrap_or ys (span (pos 0) (pos 0)))

unfoldable pub window_of : Window → List ℕ
window_of w = bytes_of "window" ++ sides_of w.xs w.ys

unfoldable pub tabbed : List ℕ → List ℕ  -- numbers, each after a tab
tabbed [] = []
tabbed (n ∷ ns) = (9 ∷ decimal (pos n)) ++ tabbed ns

-- number, place, line, column, and the places of as many calls as are told to be open
unfoldable pub refused_line : Answer → List ℕ
refused_line a = bytes_of "refused" ++ (tabbed (a.number ∷ a.place ∷ a.line ∷ a.column ∷ take a.opened a.chain) ++ (10 ∷ []))

-- what follows the warnings
abbrev pub ending : Answer → Window → List ℕ
ending a w = total_line a.shapes a.calls a.redefinitions ++ window_of w

-- what is printed of an answer, warnings and the bytes of a flat file; nothing where there are more of these than a flat file can have
unfoldable pub account : Answer → (warnings : List ℕ) → List ℕ → List ℕ
account a w f =
    if ltb 16777216 (length f) then []
    else if eqb a.number 0 then printed (fresh 1 0) f ++ (w ++ ending a (window_along f))
    else refused_line a
