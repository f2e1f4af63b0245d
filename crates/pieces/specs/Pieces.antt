-- The pieces of a marked text: first letters, second letters of D commands, numbers, further letters, and semicolons behind commands. They stand
-- between bytes and commands, so that nothing above names a state. A running account, not to be believed: it is read off the marking that
-- crates/definition reads its commands off, and crates/reading proves that the two come to the same.
-- Assumes nothing.
use Rattle.std.specs.Prelude.{◌≡◌, Bool, true, false, List, [], ◌∷◌, ◌⊎◌, ℕ, ◌+◌, ◌-◌, ◌*◌, ◌/◌, ◌%◌, ◌≤◌, ◌<◌, ltb, leb, eqb, length, drop, if◌then◌else◌}
use Rattle.grammar.specs.Notation.{Role, Letter, skip, head, second, turn, axis, sign, lead, later, name, stop}
use Rattle.grammar.specs.Tables.{state_count, role_unit, stuck, deep, inside_state, outside_state}
use Rattle.grammar.specs.Steps.{kind_of, entry_of, mode_after, marked, inside, number}
use Rattle.grammar.proofs.Numerals.{Numeral}
use Rattle.definition.specs.Limits as limits
use Rattle.definition.specs.Commands.{worth}
use Rattle.pieces.specs.declared.Spot.{Spot}
use Rattle.pieces.specs.declared.Piece.{Piece}
use Rattle.pieces.specs.declared.Piece.TheVariants.{First, Second, Number, Word, Stop}
use Rattle.pieces.specs.declared.Begun.{Begun}
use Rattle.pieces.specs.declared.Numeral.{Numeral as Counted}

-- RULES 4: every number lies within this of zero
abbrev pub largest : ℕ
largest = limits.largest

-- refusal 3 meets every number beyond the largest, so they are not told apart: each has this size
abbrev pub too_large : ℕ
too_large = largest + 1

unfoldable pub capped : ℕ → ℕ
capped n = if ltb n too_large then n else too_large

-- a slice is shorter than this, and sums of two places are far from where a usize wraps
abbrev pub farthest : ℕ
farthest = 9223372036854775808

-- the two letters by which a definition starts and finishes
abbrev pub letter_s : ℕ
letter_s = 83

abbrev pub letter_f : ℕ
letter_f = 70

abbrev pub digit_of : ℕ → ℕ
digit_of b = b - 48

-- the place of a number that begins behind a letter of this role at place n: the letter's own if it is a sign
abbrev pub place_after : Role → ℕ → ℕ
place_after sign n = n
place_after skip n = n + 1
place_after head n = n + 1
place_after second n = n + 1
place_after turn n = n + 1
place_after axis n = n + 1
place_after lead n = n + 1
place_after later n = n + 1
place_after name n = n + 1
place_after stop n = n + 1

-- the piece that a letter begins, by its role, before the pieces that follow: the byte b at place n; a number that begins here has place p and size v
abbrev pub with_piece : Role → ℕ → ℕ → ℕ → ℕ → List Piece → List Piece
with_piece head n p b v xs = First n b ∷ xs
with_piece second n p b v xs = Second b ∷ xs
with_piece lead n p b v xs = Number p (ltb p n) (capped v) ∷ xs
with_piece turn n p b v xs = Word b ∷ xs
with_piece axis n p b v xs = Word b ∷ xs
with_piece name n p b v xs = Word b ∷ xs
with_piece stop n p b v xs = Stop ∷ xs
with_piece skip n p b v xs = xs
with_piece sign n p b v xs = xs
with_piece later n p b v xs = xs

-- the pieces from place n on; a number that begins right here has place p
unfoldable pub pieces : ℕ → ℕ → List Letter → List Piece
pieces n p [] = []
pieces n p (l ∷ m) = with_piece l.role n p l.byte (worth (digit_of l.byte) m) (pieces (n + 1) (place_after l.role n) m)

-- the letters that the recogniser of the text t has before it at place i, in state q with d open comments; and the pieces from a spot on
abbrev pub left : List ℕ → ℕ → ℕ → ℕ → List Letter
left t q d i = marked q d (drop i t)

abbrev pub stream : List ℕ → Spot → List Piece
stream t s = pieces s.at s.at (left t s.state 0 s.at)

abbrev pub spot : ℕ → ℕ → Spot
spot i q = record { at = i; state = q }

abbrev pub start : Spot
start = spot 0 0

-- the spot behind a command's semicolon that ends at place n, within a definition or not: known from that alone, so that a body can be read again
abbrev pub behind : Bool → ℕ → Spot
behind i n = spot n (if i then inside_state else outside_state)

-- whether a definition is open behind a piece: only the S of a DS leads in, and only the F of a DF out
abbrev pub inside_after : Piece → Bool → Bool
inside_after (Second b) i = if eqb b letter_s then true else if eqb b letter_f then false else i
inside_after (First p b) i = i
inside_after (Number p σ n) i = i
inside_after (Word b) i = i
inside_after Stop i = i

-- a spot at which a reader of t can stand
pub record Fit (t : List ℕ) (s : Spot) : Type 0 where
  pub within : s.at ≤ length t
  pub state : s.state < state_count

-- what a piece holds is a byte, or a number that is capped
abbrev pub Small : Piece → Type 0
Small (First p b) = b < 256
Small (Second b) = b < 256
Small (Number p σ n) = n ≤ too_large
Small (Word b) = b < 256
Small Stop = 0 ≤ 0

-- from s on, x is the next piece, and behind it stands to
pub record Step (t : List ℕ) (s : Spot) (x : Piece) (to : Spot) : Type 0 where
  pub is : stream t s ≡ x ∷ stream t to
  pub small : Small x
  pub ahead : s.at < to.at
  pub fit : Fit t to
  pub crosses : inside to.state ≡ inside_after x (inside s.state)
  pub stops : x ≡ Stop → to ≡ behind (inside s.state) to.at

-- a byte is a digit
unfoldable pub digital : ℕ → Bool
digital b = if ltb b 48 then false else leb b 57

-- by the number m of a role: the place of a number that begins behind its letter at i
unfoldable pub place_beyond : ℕ → ℕ → ℕ
unfolding number
place_beyond m i = if eqb m (number sign) then i else i + 1

-- what the functions give, byte by byte, so that they leave nothing open: no piece, where the last byte was read or where the text leaves the grammar
abbrev pub ended : ℕ → ℕ → Begun
unfolding number
ended i q = record { mark = number skip; byte = 0; at = i; place = i; to = spot i q }

-- the end of a comment, of which d are open at place i before the bytes
unfoldable pub closed_at : ℕ → ℕ → ℕ → List ℕ → ℕ
closed_at q d i [] = i
closed_at q d i (b ∷ l) =
    let further = closed_at q (mode_after q d b).depth (i + 1) l in
    if eqb (mode_after q d b).state stuck then i + length (b ∷ l) else if eqb (mode_after q d b).depth 0 then i + 1 else further

-- the letter that begins the next piece, from state q and place i on; a number that begins right here has place p
unfoldable pub begun_by : ℕ → ℕ → ℕ → List ℕ → Begun
unfolding number
begun_by q i p [] = ended i q
begun_by q i p (b ∷ l) =
    let e = entry_of q (kind_of b) in
    let s = e % role_unit in
    let further = begun_by s (i + 1) (place_beyond (e / role_unit) i) l in
    if ltb s deep then (if ltb (e / role_unit) (number lead) then further else record { mark = e / role_unit; byte = b; at = i; place = p; to = spot (i + 1) s })
    else if eqb s stuck then ended i q
    else record { mark = e / role_unit; byte = b; at = i; place = i; to = spot (closed_at (s - deep) 1 (i + 1) l) (s - deep) }

abbrev pub begun : List ℕ → Spot → Begun
begun t s = begun_by s.state s.at s.at (drop s.at t)

-- the rest of a number whose digits up to place i are worth v
unfoldable pub numeral_by : ℕ → ℕ → ℕ → List ℕ → Counted
numeral_by q i v [] = record { size = v; to = spot i q }
numeral_by q i v (b ∷ l) =
    let further = numeral_by q (i + 1) (capped (10 * v + digit_of b)) l in if digital b then further else record { size = v; to = spot i q }

abbrev pub numeral_of : List ℕ → Begun → Counted
numeral_of t m = numeral_by m.to.state m.to.at (digit_of m.byte) (drop m.to.at t)

-- m is the first digit of the next piece from s on, a number: its size is that of the digits from here on
pub record Led (t : List ℕ) (s : Spot) (m : Begun) : Type 0 where
  pub is :
      stream t s
      ≡ Number m.place (ltb m.place m.at) (capped (worth (digit_of m.byte) (left t m.to.state 0 m.to.at))) ∷ stream t m.to
  pub small : m.byte < 256
  pub ahead : s.at < m.to.at
  pub fit : Fit t m.to
  pub same : inside m.to.state ≡ inside s.state
  pub numeral : Numeral m.to.state

-- the contract of `next_mark`: which letter it finds, and that from s on this begins the next piece, or there is none
pub record Begins (t : List ℕ) (s : Spot) (m : Begun) : Type 0 where
  pub exact : m ≡ begun t s
  pub none : m.mark ≡ number skip → stream t s ≡ []
  pub some : (m.mark ≡ number skip → ⊥) → number lead ≤ m.mark
  pub led : m.mark ≡ number lead → Led t s m
  pub stop : m.mark ≡ number stop → Step t s Stop m.to
  pub first : m.mark ≡ number head → Step t s (First m.at m.byte) m.to
  pub letter : number head < m.mark → Step t s (Second m.byte) m.to ⊎ Step t s (Word m.byte) m.to

-- a comment of which the parenthesis before place i has been read ends before place r; the state q is the one behind it
pub record Closes (t : List ℕ) (q i r : ℕ) : Type 0 where
  pub exact : r ≡ closed_at q 1 i (drop i t)
  pub ahead : i ≤ r
  pub within : r ≤ length t
  pub on : pieces i i (left t q 1 i) ≡ pieces r r (left t q 0 r)
