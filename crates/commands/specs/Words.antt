-- A command as words: its kind and how many words follow its place, its place, and then its numbers after scaling, with what is left out filled in.
-- A running account, not to be believed: a proof shows that on a sound text these are the numbers of the command that crates/definition reads.
-- Assumes nothing.
use Rattle.std.specs.Prelude.{◌≡◌, Bool, true, false, List, [], ◌∷◌, ◌++◌, ℕ, zero, suc, ◌+◌, ◌-◌, ◌*◌, ◌/◌, ◌≤◌, ◌<◌, ltb, eqb, ℤ, pos, neg_ℤ, length, if◌then◌else◌, None, Option, Some}
use Rattle.std.proofs.lemmas.List.Edits.{sets}
use Rattle.grammar.specs.Notation.{lead}
use Rattle.grammar.specs.Steps.{inside, number}
use Rattle.pieces.specs.Pieces.{letter_s, farthest, stream, behind, inside_after, begun, numeral_of, Fit}
use Rattle.pieces.specs.declared.Spot.{Spot}
use Rattle.pieces.specs.declared.Begun.{Begun}
use Rattle.pieces.specs.declared.Piece.{Piece}
use Rattle.pieces.specs.declared.Piece.TheVariants.{First, Second, Number, Word, Stop}
use Rattle.rules.specs.Letters.{letter_b, letter_c, letter_d, letter_l, letter_m, byte_unit, first_unit}
use Rattle.rules.specs.Written.{Written, written, written_at, letters, last_letter, packed_by, one, inside_behind}
use Rattle.rules.specs.Rules.{scaled_by}
use Rattle.commands.specs.declared.Line.{Line}
use Rattle.commands.specs.declared.Decoded.{Decoded}

-- the largest number that a word holds
abbrev pub widest : ℕ
widest = 2147483647

-- a word holds what it can; nothing that refusals 1 to 9 let pass is cut
unfoldable pub held : ℕ → ℕ
held n = if ltb widest n then widest else n

abbrev pub signed : Bool → ℕ → ℤ
signed σ n = if σ then neg_ℤ (pos n) else pos n

unfoldable pub word : Bool → ℕ → ℤ
word σ n = signed σ (held n)

-- number i, behind the letter w, of a command with the first letter l: scaled if it is a distance
abbrev pub value_of : ℕ → ℕ → ℕ → ℕ → ℕ → Bool → ℕ → ℤ
value_of a b l w i σ n = word σ (scaled_by a b l w i n)

-- a letter x is a word in a call only: T, R, X or Y; for M its axis stands
unfoldable pub letter_words : ℕ → ℕ → List ℤ
letter_words l x = if eqb l letter_c then (if eqb x letter_m then [] else word false x ∷ []) else []

unfoldable pub body_of : ℕ → ℕ → ℕ → ℕ → ℕ → List Piece → List ℤ
body_of a b l w i [] = []
body_of a b l w i (First p x ∷ xs) = body_of a b l w i xs
body_of a b l w i (Second x ∷ xs) = letter_words l x ++ body_of a b l x i xs
body_of a b l w i (Number p σ n ∷ xs) = value_of a b l w i σ n ∷ body_of a b l w (i + 1) xs
body_of a b l w i (Word x ∷ xs) = letter_words l x ++ body_of a b l x i xs
body_of a b l w i (Stop ∷ xs) = body_of a b l w i xs

-- a layer's name; a box's direction and a definition's scale where they are left out
unfoldable pub closing : ℕ → ℕ → ℕ → ℕ → List ℤ
closing l w n name =
    if eqb l letter_l then word false name ∷ []
    else if eqb l letter_b then (if eqb n 4 then word false 1 ∷ word false 0 ∷ [] else [])
    else if eqb l letter_d then (if eqb w letter_s then (if eqb n 1 then word false 1 ∷ word false 1 ∷ [] else []) else [])
    else []

-- how many numbers
unfoldable pub tally : List Piece → ℕ
tally [] = 0
tally (First p x ∷ xs) = tally xs
tally (Second x ∷ xs) = tally xs
tally (Number p σ n ∷ xs) = 1 + tally xs
tally (Word x ∷ xs) = tally xs
tally (Stop ∷ xs) = tally xs

-- the kind is the first letter, and of a D command the second
abbrev pub kind_by : ℕ → ℕ → ℕ
kind_by l w = if eqb l letter_d then w else l

abbrev pub framed : ℕ → ℕ → List ℤ → List ℤ
framed k p body = word false (k + byte_unit * held (length body)) ∷ word false p ∷ body

unfoldable pub words_of : ℕ → ℕ → Written → List ℤ
words_of a b c =
    let w = last_letter c in
    framed (kind_by c.letter w) c.place
    (body_of a b c.letter 0 0 c.items ++ closing c.letter w (tally c.items) (packed_by first_unit (letters c.items)))

-- no word is written as far out as this
abbrev pub outmost : ℕ
outmost = farthest + 16

-- what a function leaves that writes the words vs at a place of a run; words past the run's end are dropped
pub record Writes (l : List ℤ) (at : ℕ) (vs : List ℤ) (r : ℕ) (l' : List ℤ) : Type 0 where
  pub next : r ≡ at + length vs
  pub laid : l' ≡ sets l at vs

-- the same, of one that keeps a line
abbrev pub line_number : Line → Line
line_number c = record { at = c.at + 1; word = c.word; count = c.count + 1; unit = c.unit; name = c.name }

abbrev pub line_letter : ℕ → Line → ℕ → Line
line_letter l c x = record {
  at = c.at + length (letter_words l x);
  word = x;
  count = c.count;
  unit = c.unit / byte_unit;
  name = c.name + x * c.unit;
}

pub record Lined (l : List ℤ) (at : ℕ) (vs : List ℤ) (c r : Line) (l' : List ℤ) : Type 0 where
  pub line : r ≡ c
  pub laid : l' ≡ sets l at vs

abbrev pub closed : ℕ → Line → List ℤ
closed l c = closing l c.word c.count c.name

-- the two words in front are written last
pub record Closed (ws : List ℤ) (l p : ℕ) (c : Line) (to : Spot) (r : Decoded) (ws' : List ℤ) : Type 0 where
  pub is : r ≡ record { kind = kind_by l c.word; place = p; end = c.at + length (closed l c); to = to }
  pub laid : ws' ≡ sets (sets ws c.at (closed l c)) 0 (word false (kind_by l c.word + byte_unit * held (c.at + length (closed l c) - 2)) ∷ word false p ∷ [])

-- the command c: its kind, its place, how many words it has, the words themselves from the run's start on, and where the next begins, which is known
-- from the place alone where a semicolon ends c; i says whether a definition is open behind its first letter
pub record Tells (a b : ℕ) (c : Written) (i : Bool) (ws : List ℤ) (k p n : ℕ) (to : Spot) (ws' : List ℤ) : Type 0 where
  pub kind : k ≡ kind_by c.letter (last_letter c)
  pub place : p ≡ c.place
  pub count : n ≡ length (words_of a b c)
  pub laid : ws' ≡ sets ws 0 (words_of a b c)
  pub ends : c.stopped ≡ true → to ≡ behind (inside_behind i c.items) to.at

-- whether a definition is open at the first letter that comes
unfoldable pub inside_first : Bool → List Piece → Bool
inside_first i [] = i
inside_first i (First p b ∷ xs) = i
inside_first i (Second b ∷ xs) = inside_first (inside_after (Second b) i) xs
inside_first i (Number p σ n ∷ xs) = inside_first i xs
inside_first i (Word b ∷ xs) = inside_first i xs
inside_first i (Stop ∷ xs) = inside_first i xs

-- how many pieces come before the first letter
unfoldable pub preceding : List Piece → ℕ
preceding [] = 0
preceding (First p b ∷ xs) = 0
preceding (Second b ∷ xs) = suc (preceding xs)
preceding (Number p σ n ∷ xs) = suc (preceding xs)
preceding (Word b ∷ xs) = suc (preceding xs)
preceding (Stop ∷ xs) = suc (preceding xs)

-- where a reader stands after the letters that begin the next n pieces, and after the n pieces
unfoldable pub letters_on : List ℕ → ℕ → Spot → Spot
letters_on t zero s = s
letters_on t (suc n) s = letters_on t n (begun t s).to

abbrev pub piece_end : List ℕ → Begun → Spot
unfolding number
piece_end t m = if eqb m.mark (number lead) then (numeral_of t m).to else m.to

unfoldable pub pieces_on : List ℕ → ℕ → Spot → Spot
pieces_on t zero s = s
pieces_on t (suc n) s = pieces_on t n (piece_end t (begun t s))

-- the contract of `read_command`: from s on, the first command
pub record DecodedOne (t : List ℕ) (s : Spot) (a b : ℕ) (c : Written) (ws : List ℤ) (k p n : ℕ) (to : Spot) (ws' : List ℤ) : Type 0 where
  pub is : written (stream t s) ≡ c ∷ written (stream t to)
  pub exact : to ≡ pieces_on t (length c.items + one c.stopped) (letters_on t (preceding (stream t s) + 1) s)
  pub tells : Tells a b c (inside_first (inside s.state) (stream t s)) ws k p n to ws'
  pub fit : Fit t to
  pub ahead : s.at < to.at

abbrev pub ReadsCommand : List ℕ → Spot → ℕ → ℕ → List ℤ → Option Decoded → List ℤ → Type 0
ReadsCommand t s a b ws (Some d) ws' = (c : Written) × DecodedOne t s a b c ws d.kind d.place d.end d.to ws'
ReadsCommand t s a b ws None ws' = (written (stream t s) ≡ []) × (ws' ≡ ws)

-- the same, behind its first letter
pub record DecodedItems (t : List ℕ) (s : Spot) (a b : ℕ) (c : Written) (ws : List ℤ) (k p n : ℕ) (to : Spot) (ws' : List ℤ) : Type 0 where
  pub is : written (stream t s) ≡ written (stream t to)
  pub exact : to ≡ pieces_on t (length c.items + one c.stopped) s
  pub tells : Tells a b c (inside s.state) ws k p n to ws'
  pub fit : Fit t to
  pub ahead : s.at ≤ to.at

abbrev pub ReadsItems : List ℕ → Spot → ℕ → ℕ → ℕ → ℕ → List ℤ → Decoded → List ℤ → Type 0
ReadsItems t s p l a b ws d ws' = DecodedItems t s a b (written_at p l (stream t s)) ws d.kind d.place d.end d.to ws'
