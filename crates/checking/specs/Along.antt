-- The account as the code goes along, piece by piece, with what it keeps of the command that it is in. Not to be believed: crates/reading shows, in
-- proofs/Meaning.antt, that it comes to what specs/Account.antt says of whole commands.
-- Assumes nothing.
use Rattle.std.specs.Prelude.{Bool, true, false, List, [], ◌∷◌, ℕ, ◌+◌, ◌*◌, ◌/◌, ◌≤◌, ltb, eqb, if◌then◌else◌, Err, Ok, Result}
use Rattle.definition.specs.declared.Refusal.{Refusal}
use Rattle.pieces.specs.Pieces.{too_large}
use Rattle.pieces.specs.declared.Piece.{Piece}
use Rattle.pieces.specs.declared.Piece.TheVariants.{First, Second, Number, Word, Stop}
use Rattle.rules.specs.Letters.{no_refusal, byte_unit, first_unit}
use Rattle.rules.specs.Written.{turning, one}
use Rattle.rules.specs.Rules.{scaled_by, rounded_by, number_refusal, whole_refusal}
use Rattle.checking.specs.Account.{layer_of, refusal, scope_by}
use Rattle.checking.specs.declared.Scope.{Scope}
use Rattle.checking.specs.declared.Doing.{Doing}

-- the lower of refusal k and the one before, n, and its place: 7 is placed at the command, others here
abbrev pub lower : ℕ → ℕ → ℕ
lower k n = if ltb k n then k else n

abbrev pub blamed : ℕ → ℕ → ℕ → ℕ → ℕ → ℕ
blamed k n here place at = if ltb k n then (if eqb k 7 then place else here) else at

-- number k is kept when it comes
abbrev pub kept : ℕ → ℕ → ℕ → ℕ → ℕ
kept i k n old = if eqb i k then n else old

-- a command of which nothing but its first letter is known; one begins, or none is there, after k rounded numbers
unfoldable pub fresh : Bool → ℕ → ℕ → ℕ → Doing
fresh z p l k = record {
  busy = z;
  place = p;
  letter = l;
  word = 0;
  count = 0;
  zero = false;
  turns = 0;
  unit = first_unit;
  a = 1;
  b = 1;
  name = 0;
  no = no_refusal;
  at = 0;
  rounded = k;
}

abbrev pub begun : ℕ → ℕ → ℕ → Doing
begun p l k = fresh true p l k

abbrev pub idle : ℕ → Doing
idle k = fresh false 0 0 k

-- with a number at place p of size n; with a letter w
unfoldable pub counted : Scope → Doing → ℕ → ℕ → Doing
counted s c p n =
    let k = number_refusal c.letter c.word c.count c.zero n (scaled_by s.a s.b c.letter c.word c.count n) in
    record {
      busy = c.busy;
      place = c.place;
      letter = c.letter;
      word = c.word;
      count = c.count + 1;
      zero = eqb n 0;
      turns = c.turns;
      unit = c.unit;
      a = kept c.count 1 n c.a;
      b = kept c.count 2 n c.b;
      name = c.name;
      no = lower k c.no;
      at = blamed k c.no p c.place c.at;
      rounded = c.rounded + rounded_by s.a s.b c.letter c.word c.count n;
    }

unfoldable pub worded : Doing → ℕ → Doing
worded c w = record {
  busy = c.busy;
  place = c.place;
  letter = c.letter;
  word = w;
  count = c.count;
  zero = c.zero;
  turns = c.turns + one (turning w);
  unit = c.unit / byte_unit;
  a = c.a;
  b = c.b;
  name = c.name + w * c.unit;
  no = c.no;
  at = c.at;
  rounded = c.rounded;
}

-- at the end of a command: what stands then, or the refusal
abbrev pub after_doing : Scope → Doing → Scope
after_doing s c = scope_by s c.letter c.word c.a c.b c.name

unfoldable pub finished : Scope → Doing → Result Scope Refusal
finished s c =
    let k = whole_refusal c.letter c.word c.count c.turns c.a c.b (layer_of s) in
    if c.busy then
    (if ltb k c.no then Err (refusal k c.place)
    else if ltb c.no no_refusal then Err (refusal c.no c.at)
    else Ok (after_doing s c))
    else Ok s

abbrev pub onward : (Scope → Result ℕ Refusal) → Result Scope Refusal → Result ℕ Refusal
onward f (Ok s) = f s
onward f (Err r) = Err r

-- the first fault of the pieces that are left
unfoldable pub runs : List Piece → Scope → Doing → Result ℕ Refusal
runs [] s c = onward (λ t. Ok c.rounded) (finished s c)
runs (First p b ∷ xs) s c = onward (λ t. runs xs t (begun p b c.rounded)) (finished s c)
runs (Second b ∷ xs) s c = runs xs s (worded c b)
runs (Number p σ n ∷ xs) s c = runs xs s (counted s c p n)
runs (Word b ∷ xs) s c = runs xs s (worded c b)
runs (Stop ∷ xs) s c = onward (λ t. runs xs t (idle c.rounded)) (finished s c)

-- what the code needs so that nothing wraps: a scale that can be divided by, and counts within the bytes read
pub record Fair (s : Scope) : Type 0 where
  pub a : s.a ≤ too_large
  pub b : 1 ≤ s.b

pub record Sane (n : ℕ) (c : Doing) : Type 0 where
  pub count : c.count ≤ n
  pub rounded : c.rounded ≤ n
  pub turns : c.turns ≤ n
  pub a : c.a ≤ too_large
  pub name : c.name + byte_unit * c.unit ≤ byte_unit * first_unit
