-- What is known of a flat file after each of its bytes, of any bytes whatever: a running account, not to be believed. proofs/Agrees.antt of listing,
-- above, shows that along the flat file of a text it gives the definition's lines and window.
-- Assumes nothing.
use Rattle.std.specs.Prelude.{Bool, true, false, Option, Some, None, ℕ, ◌+◌, ◌-◌, ◌*◌, ◌/◌, ◌%◌, ◌≤◌, eqb, ltb, ℤ, pos, neg_ℤ, ◌+ℤ◌, ◌-ℤ◌, ◌*ℤ◌, if◌then◌else◌}
use Rattle.std.specs.Int.{int_min, int_max}
use Rattle.definition.specs.Limits.{largest}
use Rattle.names.specs.Names.{byte_unit, first_unit, longer}
use Rattle.lines.specs.declared.Axis.{Axis}
use Rattle.lines.specs.declared.Axis.TheVariants.{X, Y}
use Rattle.lines.specs.declared.Line.{Line}
use Rattle.lines.specs.declared.Numeral.{Numeral}
use Rattle.lines.specs.declared.Span.{Span}
use Rattle.lines.specs.declared.Lead.{Lead}
use Rattle.lines.specs.declared.Seen.{Seen}

-- ---- the line that is being read

abbrev pub line : (count layer unit : ℕ) → (letter : Option ℕ) → Line
line n l u c = record { count = n; layer = l; unit = u; letter = c }

abbrev pub fresh : (count layer : ℕ) → Line  -- at a line's start
fresh n l = line n l 0 None

abbrev pub letter_at : ℕ → Option ℕ  -- a byte 0 is no letter
letter_at b = if eqb b 0 then None else Some b

unfoldable pub opened : Line → ℕ → Line  -- with its letter
opened s b =
    if eqb b 76 then line s.count 0 first_unit (letter_at b)
    else if eqb b 69 then line s.count s.layer s.unit (letter_at b)
    else line (s.count + 1) s.layer s.unit (letter_at b)

unfoldable pub named : Line → ℕ → Line  -- with a letter of a layer's name, which is packed
named s b = if eqb b 59 then s else line s.count (longer s.layer s.unit b) (s.unit / byte_unit) s.letter

abbrev pub within : Option ℕ → Line → ℕ → Line  -- the letter's line, or before it
within None s b = opened s b
within (Some c) s b = if eqb c 76 then named s b else s

unfoldable pub line_after : Line → ℕ → Line
line_after s b = if eqb b 10 then fresh s.count s.layer else within s.letter s b

-- what the code keeps so that nothing wraps: a count within the bytes read, and a name within 32 bits
pub record Fits (s : Line) : Type 0 where
  pub few : s.count ≤ 4294967296
  pub name : s.layer + 256 * s.unit ≤ 4294967296

-- ---- the number that is being read

abbrev pub numeral : (index : ℕ) (negative : Bool) (value : ℕ) → Numeral
numeral i n v = record { index = i; negative = n; value = v }

abbrev pub pushed : ℕ → ℕ → ℕ  -- with one digit more; values are held where they pass the largest
pushed v b = if ltb b 48 then v else if ltb 57 b then v else if ltb largest v then v else 10 * v + (b - 48)

abbrev pub ends : ℕ → Bool  -- a number ends at a space and at a semicolon
ends b = if eqb b 32 then true else eqb b 59

unfoldable pub numeral_after : Numeral → ℕ → Numeral
numeral_after n b =
    if eqb b 10 then numeral 0 false 0
    else if eqb b 45 then numeral n.index true n.value
    else if ends b then numeral (n.index + 1) false 0
    else numeral n.index n.negative (pushed n.value b)

abbrev pub value_of : Numeral → ℤ
value_of n = if n.negative then neg_ℤ (pos n.value) else pos n.value

-- ---- the window: the lowest and the highest of numbers, if there are some

abbrev pub span : (low high : ℤ) → Span
span l h = record { low = l; high = h }

unfoldable pub widened : Option Span → Span → Span  -- with a stretch more
widened None m = m
widened (Some s) m = span (int_min s.low m.low) (int_max s.high m.high)

unfoldable pub stretched : Option Span → (middle reach : ℤ) → Span  -- what lies about a number, in half units
stretched s m r = widened s (span (pos 2 *ℤ m -ℤ r) (pos 2 *ℤ m +ℤ r))

-- which number of a line of this letter is an x of a point, or a y, or neither: sizes stand before the points
abbrev pub alternate : ℕ → Axis
alternate i = if eqb (i % 2) 0 then X else Y

abbrev pub after_size : ℕ → Option Axis
after_size i = if eqb i 0 then None else Some (alternate (i + 1))

unfoldable pub axis_of : (letter index : ℕ) → Option Axis
axis_of c i =
    if eqb c 80 then Some (alternate i)
    else if eqb c 82 then after_size i
    else if eqb c 87 then after_size i
    else None

abbrev pub is_axis : Option Axis → Axis → Bool
is_axis None axis = false
is_axis (Some X) X = true
is_axis (Some X) Y = false
is_axis (Some Y) X = false
is_axis (Some Y) Y = true

-- the first numbers of a line
abbrev pub lead : (first second : ℕ) → (x y : Numeral) → (dx : ℕ) → Lead
lead a b x y d = record { first = a; second = b; x = x; y = y; dx = d }

abbrev pub blank : Lead
blank = lead 0 0 (numeral 0 false 0) (numeral 0 false 0) 0

unfoldable pub kept : Lead → Numeral → Lead
kept h n =
    if eqb n.index 0 then lead n.value h.second h.x h.y h.dx
    else if eqb n.index 1 then lead h.first n.value h.x h.y h.dx
    else if eqb n.index 2 then lead h.first h.second n h.y h.dx
    else if eqb n.index 3 then lead h.first h.second h.x n h.dx
    else if eqb n.index 4 then lead h.first h.second h.x h.y n.value
    else h

unfoldable pub lead_after : Lead → Numeral → ℕ → Lead
lead_after h n b = if eqb b 10 then blank else if ends b then kept h n else h

-- how far a flash or a wire reaches beyond each doubled point, and a polygon; and a box along an axis, told at the y of its direction
abbrev pub reach_by : (letter first : ℕ) → ℤ
reach_by c a = if eqb c 80 then pos 0 else pos a

abbrev pub along_by : Axis → (x y : ℕ) → ℕ
along_by X x y = x
along_by Y x y = y

abbrev pub box_reach_by : Axis → (first second dx dy : ℕ) → ℤ
box_reach_by axis a b dx dy = if eqb dy 0 then pos (along_by axis a b) else if eqb dx 0 then pos (along_by axis b a) else pos (a + b)

abbrev pub centre_of : Axis → Lead → ℤ
centre_of X h = value_of h.x
centre_of Y h = value_of h.y

unfoldable pub box_taken : Axis → Lead → Option Span → Numeral → Option Span
box_taken axis h s n = if eqb n.index 5 then Some (stretched s (centre_of axis h) (box_reach_by axis h.first h.second h.dx n.value)) else s

unfoldable pub taken : Axis → (letter : ℕ) → Lead → Option Span → Numeral → Option Span  -- a number that ends
taken axis c h s n =
    if eqb c 66 then box_taken axis h s n
    else if is_axis (axis_of c n.index) axis then Some (stretched s (value_of n) (reach_by c h.first))
    else s

unfoldable pub span_after : Axis → Option Span → (letter : Option ℕ) → Lead → Numeral → ℕ → Option Span
span_after axis s None h n b = s
span_after axis s (Some c) h n b = if ends b then taken axis c h s n else s

-- ---- all of it

abbrev pub unread : Seen
unread = record { line = fresh 1 0; number = numeral 0 false 0; lead = blank; window = record { xs = None; ys = None } }

unfoldable pub seen_after : Seen → ℕ → Seen
seen_after s b = record {
  line = line_after s.line b;
  number = numeral_after s.number b;
  lead = lead_after s.lead s.number b;
  window = record {
    xs = span_after X s.window.xs s.line.letter s.lead s.number b;
    ys = span_after Y s.window.ys s.line.letter s.lead s.number b;
  };
}
