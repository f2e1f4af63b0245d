-- The rules for one command as its code goes by them: which numbers are distances, which may not be 0, what a whole command must have, and the lowest of
-- refusals 3 to 9 that a number and that a whole command meets. A running account, not to be believed: the refusals stand in crates/definition, and
-- crates/reading shows that on a text of the grammar the two come to the same. All is over ℕ: a number is its distance from zero.
-- Assumes nothing.
use Rattle.std.specs.Prelude.{Bool, not, ◌&&◌, ◌||◌, ℕ, ◌-◌, ◌*◌, ◌/◌, ◌%◌, ltb, eqb, if◌then◌else◌}
use Rattle.definition.specs.Limits.{largest, most_points, most_turns}
use Rattle.definition.specs.Standing.{nearest}
use Rattle.definition.specs.declared.Rule.{Rule}
use Rattle.definition.specs.declared.Rule.TheVariants.{NumberTooLarge, ZeroFactor, ScaledTooLarge, DegenerateCommand, NoLayer, TooManyParts}
use Rattle.pieces.specs.Pieces.{letter_s}
use Rattle.rules.specs.declared.AtScale.{AtScale}
use Rattle.rules.specs.Written.{one}
use Rattle.rules.specs.Letters.{letter_b, letter_c, letter_d, letter_p, letter_r, letter_t, letter_w, least_points, no_refusal}

-- a command with the first letter l is a shape
unfoldable pub shapely : ℕ → Bool
shapely l = eqb l letter_b || (eqb l letter_p || (eqb l letter_r || eqb l letter_w))

-- number i of a command, behind the letter w, is a distance: not so symbol numbers, a and b, and the directions of boxes and of R
unfoldable pub distance : ℕ → ℕ → ℕ → Bool
distance l w i = if eqb l letter_b then ltb i 4 else if eqb l letter_c then eqb w letter_t else shapely l

-- number i at the scale a, b; and 1 where it was rounded
abbrev pub scaled_by : ℕ → ℕ → ℕ → ℕ → ℕ → ℕ → ℕ
scaled_by a b l w i n = if distance l w i then nearest (a * n) b else n

abbrev pub rounded_by : ℕ → ℕ → ℕ → ℕ → ℕ → ℕ → ℕ
rounded_by a b l w i n = one (distance l w i && not (eqb (a * n % b) 0))

abbrev pub scaled_to : (value rounded : ℕ) → AtScale
scaled_to v k = record { value = v; rounded = k }

-- number i may not be 0: a length, a width, a diameter, or the second of a direction whose first is 0, which z says
unfoldable pub vital : ℕ → ℕ → ℕ → Bool → Bool
vital l w i z =
    if eqb l letter_b then ltb i 2 || (eqb i 5 && z)
    else if eqb l letter_c then eqb w letter_r && (eqb (i % 2) 0 && z)
    else eqb i 0 && (eqb l letter_r || eqb l letter_w)

-- how many points n numbers are
unfoldable pub points_of : ℕ → ℕ → ℕ
points_of l n = if eqb l letter_p then n / 2 else if eqb l letter_w then (n - 1) / 2 else 0

-- of a whole command, with the last letter w, n numbers, t transformations, the scale a, b and the layer y: a or b is 0 (4), polygon under 3 points
-- (7), shape with no layer set (8), over 1,024 points or 32 transformations (9)
unfoldable pub scaleless : ℕ → ℕ → ℕ → ℕ → Bool
scaleless l w a b = eqb l letter_d && (eqb w letter_s && (eqb a 0 || eqb b 0))

unfoldable pub few : ℕ → ℕ → Bool
few l n = eqb l letter_p && ltb (n / 2) least_points

unfoldable pub bare : ℕ → ℕ → Bool
bare l y = shapely l && eqb y 0

unfoldable pub many : ℕ → ℕ → ℕ → Bool
many l n t = if eqb l letter_c then ltb most_turns t else ltb most_points (points_of l n)

-- the lowest refusal that a number meets: number i, of size n and v after scaling, after the letter w and, as z says, a number that is 0
abbrev pub empty_no : ℕ → ℕ → ℕ → Bool → ℕ → ℕ
empty_no l w i z v = if eqb v 0 && vital l w i z then 7 else no_refusal

unfoldable pub number_refusal : ℕ → ℕ → ℕ → Bool → ℕ → ℕ → ℕ
number_refusal l w i z n v =
    if ltb largest n then 3
    else if ltb largest v then 6
    else empty_no l w i z v

-- the lowest that a whole command meets
unfoldable pub whole_refusal : ℕ → ℕ → ℕ → ℕ → ℕ → ℕ → ℕ → ℕ
whole_refusal l w n t a b y =
    if scaleless l w a b then 4
    else if few l n then 7
    else if bare l y then 8
    else if many l n t then 9
    else no_refusal

-- the rule of the lowest refusal that a command meets
unfoldable pub rule_of : ℕ → Rule
rule_of n =
    if eqb n 3 then NumberTooLarge
    else if eqb n 4 then ZeroFactor
    else if eqb n 6 then ScaledTooLarge
    else if eqb n 7 then DegenerateCommand
    else if eqb n 8 then NoLayer
    else TooManyParts
