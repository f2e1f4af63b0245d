-- The commands of a text, each with its place, read off the roles that the grammar gives the text's characters. Each is read by looking ahead
-- from its first letter, so no parser stands beside the grammar.
use Rattle.std.specs.Prelude.{Bool, false, ◌||◌, List, [], ◌∷◌, ℕ, ◌+◌, ◌-◌, ◌*◌, ℤ, pos, neg_ℤ, get_or, drop, if◌then◌else◌}
use Rattle.grammar.specs.Notation.{Class, has, 'B', 'C', 'D', 'L', 'P', 'R', 'S', 'T', 'W', 'X'}
use Rattle.grammar.specs.Notation.{Role, Role-discrete, Letter, dec, head, second, turn, axis, sign, lead, later, name, stop}
use Rattle.definition.specs.Words.{Placed, at, Point, point}

abbrev pub Number : Type 0  -- 7.1.2, Numbers: a number of the text. Its place is its minus sign's, or else its first digit's (RULES 4)
Number = Placed ℤ

-- 7.1.1, the table of commands: a shape has sizes (a box length and width, a flash its diameter, a wire its width), then points (a centre, or the
-- points of a path), then, a box only, a direction. N is Number where it is written, and ℤ where it is scaled or drawn
pub data Kind : Type 0 where
  box flash wire polygon : Kind

pub record Shape (N : Type 0) : Type 0 where
  pub kind : Kind
  pub sizes : List N
  pub points : List (Point N)
  pub directions : List (Point N)

abbrev pub shape_of : {N : Type 0} → Kind → List N → List (Point N) → List (Point N) → Shape N
shape_of k s p d = record { kind = k; sizes = s; points = p; directions = d }

pub data Turn (N : Type 0) : Type 0 where  -- 7.1.2.3, the primitive transformations: T, M X, M Y, R
  translate : Point N → Turn N
  mirror_x : Turn N
  mirror_y : Turn N
  rotate : Point N → Turn N

pub data Command : Type 0 where
  draw : Shape Number → Command
  layer : List ℕ → Command
  call : (symbol : Number) → List (Turn Number) → Command
  start : (symbol a b : Number) → Command
  finish : Command
  delete : (symbol : Number) → Command
  nothing : Command  -- a comment, a user extension, and E

-- the letter has this role; it is this character
infix 40 ◌plays◌
abbrev pub ◌plays◌ : Letter → Role → Bool
l plays ρ = dec (Role-discrete l.role ρ)

infix 40 ◌is◌
abbrev pub ◌is◌ : Letter → Class → Bool
l is c = has c l.byte

unfoldable pub worth : ℕ → List Letter → ℕ  -- the number that begins with digits worth v: what its later digits make of it
worth v [] = v
worth v (l ∷ m) = let more = worth (10 * v + (l.byte - 48)) m in if l plays later then more else v

-- the numbers from place n on, up to the next transformation's letter or the command's semicolon; `minus`: a minus sign stands before place n
unfoldable pub numbers : ℕ → Bool → List Letter → List Number
numbers n minus [] = []
numbers n minus (l ∷ m) =
    let rest = numbers (n + 1) (l plays sign) m in
    let v = pos (worth (l.byte - 48) m) in
    let number : Number = if minus then at (n - 1) (neg_ℤ v) else at n v in
    if l plays turn || l plays stop then [] else if l plays lead then number ∷ rest else rest

abbrev pub nth : ℕ → List Number → ℤ → ℕ → Number  -- number i of a command or transformation at place n; one that is left out is worth z
nth n ns z i = get_or ns i (at n z)

unfoldable pub paired : List Number → List (Point Number)  -- two numbers make a point
paired [] = []
paired (x ∷ []) = []
paired (x ∷ y ∷ ns) = point x y ∷ paired ns

unfoldable pub next : Role → List Letter → Letter  -- the first letter of this role in the command, or else its semicolon
next ρ [] = record { byte = 59; role = stop }
next ρ (l ∷ m) = let rest = next ρ m in if l plays ρ || l plays stop then l else rest

unfoldable pub named : List Letter → List ℕ  -- a layer's name: the letters of that role up to the semicolon
named [] = []
named (l ∷ m) = let rest = named m in if l plays stop then [] else if l plays name then l.byte ∷ rest else rest

unfoldable pub turn_at : ℕ → Letter → List Letter → Turn Number  -- the transformation that the letter l at place n begins, before the letters m
turn_at n l m =
    let nr : ℕ → Number = nth n (numbers (n + 1) false m) (pos 0) in
    if l is 'T' then translate (point (nr 0) (nr 1))
    else if l is 'R' then rotate (point (nr 0) (nr 1))
    else if next axis m is 'X' then mirror_x else mirror_y

unfoldable pub turns : ℕ → List Letter → List (Turn Number)  -- the transformations of a call, from place n on, in written order
turns n [] = []
turns n (l ∷ m) =
    let rest = turns (n + 1) m in
    if l plays stop then [] else if l plays turn then turn_at n l m ∷ rest else rest

-- the command that the letter l at place n begins, before the letters m. A box's direction defaults to (1, 0), and a and b to 1 (7.1.1)
unfoldable pub command_at : ℕ → Letter → List Letter → Command
command_at n l m =
    let ns = numbers (n + 1) false m in
    let nr : ℕ → Number = nth n ns (pos 0) in
    let nr₁ : ℕ → Number = nth n ns (pos 1) in
    if l is 'P' then draw (shape_of polygon [] (paired ns) [])
    else if l is 'B' then draw (shape_of box (nr 0 ∷ nr 1 ∷ []) (point (nr 2) (nr 3) ∷ []) (point (nr₁ 4) (nr 5) ∷ []))
    else if l is 'R' then draw (shape_of flash (nr 0 ∷ []) (point (nr 1) (nr 2) ∷ []) [])
    else if l is 'W' then draw (shape_of wire (nr 0 ∷ []) (paired (drop 1 ns)) [])
    else if l is 'L' then layer (named m)
    else if l is 'C' then call (nr 0) (turns (n + 1) m)
    else if l is 'D' then (if next second m is 'S' then start (nr 0) (nr₁ 1) (nr₁ 2) else if next second m is 'D' then delete (nr 0) else finish)
    else nothing

unfoldable pub commands : ℕ → List Letter → List (Placed Command)  -- the commands from place n on, in text order
commands n [] = []
commands n (l ∷ m) =
    let rest = commands (n + 1) m in
    if l plays head then at n (command_at n l m) ∷ rest else rest
