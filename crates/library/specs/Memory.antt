-- What the lent memory means: a body is a run of words, a row tells where it stands, and the live rows are the table of crates/definition. These are
-- functions of the memory, so a contract speaks of the table itself. A running account, not to be believed: that the words of every command of a
-- sound text come back as its steps is proved (proofs/Decoded.antt).
-- Assumes nothing.
use Rattle.std.specs.Prelude.{List, [], ◌∷◌, ℕ, zero, suc, ◌+◌, ◌-◌, ◌*◌, ◌/◌, ◌%◌, eqb, ℤ, pos, nat_abs, length, take, drop, get_or, if◌then◌else◌}
use Rattle.definition.specs.Limits.{most_definitions, most_bytes}
use Rattle.definition.specs.Words.{Placed, at, Point, point}
use Rattle.definition.specs.Commands.{Kind, box, flash, wire, polygon, Shape, shape_of, Turn, translate, mirror_x, mirror_y, rotate}
use Rattle.definition.specs.Flat.{letter_of}
use Rattle.definition.specs.Table.{Step, shape, instance, setting, Definition, Table}
use Rattle.names.specs.Names.{name_of}
use Rattle.moves.specs.Moves.{size_count, direction_count}

-- no run is longer: a text has at most so many bytes, and no command has more words than bytes
abbrev pub most_words : ℕ
most_words = most_bytes

-- so many words of a run, from a place on
unfoldable pub words_at : List ℤ → ℕ → ℕ → List ℤ
words_at b i zero = []
words_at b i (suc n) = get_or b i (pos 0) ∷ words_at b (i + 1) n

-- ---- words as steps

unfoldable pub pairs : List ℤ → List (Point ℤ)
pairs [] = []
pairs (x ∷ []) = []
pairs (x ∷ y ∷ zs) = point x y ∷ pairs zs

-- sizes in front, directions at the end, points between
abbrev pub shape_in : Kind → List ℤ → Shape ℤ
shape_in k vs =
    let s = size_count k in
    let d = 2 * direction_count k in
    shape_of k (take s vs) (pairs (take (length vs - d - s) (drop s vs))) (pairs (drop (length vs - d) vs))

abbrev pub kind_in : ℕ → Kind
kind_in k = if eqb k (letter_of box) then box else if eqb k (letter_of flash) then flash else if eqb k (letter_of wire) then wire else polygon

-- X and Y for a mirror; T takes two numbers, and so does R
unfoldable pub turns_in : List ℤ → List (Turn ℤ)
turns_in [] = []
turns_in (w ∷ []) = (if eqb (nat_abs w) 88 then mirror_x else mirror_y) ∷ []
turns_in (w ∷ x ∷ []) = (if eqb (nat_abs w) 88 then mirror_x else mirror_y) ∷ turns_in (x ∷ [])
turns_in (w ∷ x ∷ y ∷ ws) =
    let short = turns_in (x ∷ y ∷ ws) in
    let long = turns_in ws in
    if eqb (nat_abs w) 88 then mirror_x ∷ short
    else if eqb (nat_abs w) 89 then mirror_y ∷ short
    else if eqb (nat_abs w) 84 then translate (point x y) ∷ long else rotate (point x y) ∷ long

-- the letters of a call and of an L command; a shape's are its kind's
abbrev pub call_letter : ℕ
call_letter = 67

abbrev pub layer_letter : ℕ
layer_letter = 76

unfoldable pub step_in : ℕ → List ℕ → List ℤ → Step
step_in k l vs =
    if eqb k layer_letter then setting (name_of (nat_abs (get_or vs 0 (pos 0))))
    else if eqb k call_letter then instance (nat_abs (get_or vs 0 (pos 0))) (turns_in (drop 1 vs))
    else shape l (shape_in (kind_in k) vs)

-- the layer that stands after a step
abbrev pub layer_after : Step → List ℕ → List ℕ
layer_after (setting l) before = l
layer_after (shape l k) before = before
layer_after (instance n ts) before = before

-- a command is its kind and how many values it has, in one word, its place, and its values
unfoldable pub steps_of : (fuel : ℕ) → List ℕ → List ℤ → List (Placed Step)
steps_of zero l ws = []
steps_of (suc f) l [] = []
steps_of (suc f) l (h ∷ []) = []
steps_of (suc f) l (h ∷ p ∷ ws) =
    let n = nat_abs h / 256 in
    let s = step_in (nat_abs h % 256) l (take n ws) in
    at (nat_abs p) s ∷ steps_of f (layer_after s l) (drop n ws)

abbrev pub steps_in : List ℤ → ℕ → ℕ → List (Placed Step)
steps_in b from n = steps_of n [] (words_at b from n)

-- ---- rows

-- the most live definitions that there can be (RULES 12, refusal 10), and the numbers of their rows
abbrev pub most : ℕ
most = most_definitions

abbrev pub row_numbers : ℕ
row_numbers = 2560

-- a row has five numbers, one after another: its symbol, its DS's place, where its body stands, how many words are stored of it, and how many the
-- definition needs, which are more where an L command took the place of another (crates/definition, specs/Lean.antt)
abbrev pub symbol_at : List ℕ → ℕ → ℕ
symbol_at rows i = get_or rows (5 * i) 0

abbrev pub place_at : List ℕ → ℕ → ℕ
place_at rows i = get_or rows (5 * i + 1) 0

abbrev pub start_at : List ℕ → ℕ → ℕ
start_at rows i = get_or rows (5 * i + 2) 0

abbrev pub length_at : List ℕ → ℕ → ℕ
length_at rows i = get_or rows (5 * i + 3) 0

abbrev pub needed_at : List ℕ → ℕ → ℕ
needed_at rows i = get_or rows (5 * i + 4) 0

abbrev pub body_at : List ℕ → List ℤ → ℕ → List (Placed Step)
body_at rows b i = steps_in b (start_at rows i) (length_at rows i)

abbrev pub definition_at : List ℕ → List ℤ → ℕ → Definition
definition_at rows b i = record { symbol = symbol_at rows i; place = place_at rows i; body = body_at rows b i }

unfoldable pub table_from : List ℕ → List ℤ → ℕ → ℕ → Table
table_from rows b i zero = []
table_from rows b i (suc n) = definition_at rows b i ∷ table_from rows b (i + 1) n

-- the table that so many live rows hold
abbrev pub table_of : List ℕ → List ℤ → ℕ → Table
table_of rows b live = table_from rows b 0 live

-- a number of each of the first rows, added up
unfoldable pub sum_of : (ℕ → ℕ) → ℕ → ℕ
sum_of f zero = 0
sum_of f (suc n) = f n + sum_of f n

-- how many words are stored of the bodies of the rows, and how many their definitions need
abbrev pub words_held : List ℕ → ℕ → ℕ
words_held rows n = sum_of (length_at rows) n

abbrev pub needed_in : List ℕ → ℕ → ℕ
needed_in rows n = sum_of (needed_at rows) n
