-- The notation of section 7.1.1: characters, expressions, and the texts that an expression stands for. It stands before the productions, which are
-- written in it. Each character of an expression also has a role, by which commands and numbers are found later; a role shuts no text out.
use Rattle.std.specs.Prelude.{◌≡◌, Bool, true, false, not, ◌&&◌, List, [], ◌∷◌, ◌++◌, ℕ, T, leb, eqb}

pub data Class : Type 0 where  -- 7.1.1: the sets of characters that the rules name, and the single characters that they quote
  Digit Upper Blank User Comment : Class
  '-' lpar rpar semicolon : Class
  'B' 'C' 'D' 'E' 'F' 'L' 'M' 'P' 'R' 'S' 'T' 'W' 'X' 'Y' : Class
  deriving Discrete as Class-discrete

abbrev pub ascii : ℕ → Bool  -- RULES 2: an ASCII byte is 0 to 127, and bytes from 128 up fit nowhere
ascii a = leb a 127

abbrev pub digit : ℕ → Bool
digit a = leb 48 a && leb a 57

abbrev pub upper : ℕ → Bool
upper a = leb 65 a && leb a 90

-- byte a is a character of the class. A blank is any ASCII byte except digits, upper-case letters, `-`, `(`, `)` and `;` (RULES 2); user text has
-- any but `;`, and a comment any but `(` and `)` (7.1.1)
unfoldable pub has : Class → ℕ → Bool
has Digit a = digit a
has Upper a = upper a
has Blank a = ascii a && not (digit a) && not (upper a) && not (eqb a 45) && not (eqb a 40) && not (eqb a 41) && not (eqb a 59)
has User a = ascii a && not (eqb a 59)
has Comment a = ascii a && not (eqb a 40) && not (eqb a 41)
has '-' a = eqb a 45
has lpar a = eqb a 40
has rpar a = eqb a 41
has semicolon a = eqb a 59
has 'B' a = eqb a 66
has 'C' a = eqb a 67
has 'D' a = eqb a 68
has 'E' a = eqb a 69
has 'F' a = eqb a 70
has 'L' a = eqb a 76
has 'M' a = eqb a 77
has 'P' a = eqb a 80
has 'R' a = eqb a 82
has 'S' a = eqb a 83
has 'T' a = eqb a 84
has 'W' a = eqb a 87
has 'X' a = eqb a 88
has 'Y' a = eqb a 89

-- what a character is in a text: nothing (a blank, a separator, a comment's or user text's), the first letter of a command, the second letter of
-- a D command, the letter of a transformation, its axis, the sign of a number, a number's first digit, a later one, a character of a layer's name,
-- and the semicolon behind a command
pub data Role : Type 0 where
  skip head second turn axis sign lead later name stop : Role
  deriving Discrete as Role-discrete

pub record Letter : Type 0 where  -- a character in its role
  pub byte : ℕ
  pub role : Role

unfoldable pub dec : {A : Type 0} → Dec A → Bool
dec (yes p) = true
dec (no p) = false

unfoldable pub is : Role → Class → Letter → Bool  -- the letter has this role, and its byte is of this class
unfolding dec has
is ρ c l = dec (Role-discrete ρ l.role) && has c l.byte

-- 7.1.1, the notation: a character, one expression after another, `|` for or, `{ }` for any number of times including zero, `[ ]` for zero or one;
-- and commentText, the one rule that names itself
infixr 60 ◌▹◌
infixr 50 ◌∣◌
pub data Expression : Type 0 where
  one : Role → Class → Expression
  ◌▹◌ ◌∣◌ : Expression → Expression → Expression
  many option : Expression → Expression
  comment_text : Expression
  deriving Discrete as Expression-discrete

abbrev pub comment_rule : Expression  -- commentText = { commentChar } | commentText "(" commentText ")" commentText.
comment_rule = many (one skip Comment) ∣ comment_text ▹ one skip lpar ▹ comment_text ▹ one skip rpar ▹ comment_text

pub data Match : Expression → List Letter → Type 0 where  -- the letters w are a text that the expression stands for
  char : {ρ : Role} {c : Class} {a : Letter} → T (is ρ c a) → Match (one ρ c) (a ∷ [])
  both : {r s : Expression} {w : List Letter} (u v : List Letter) → Match r u → Match s v → w ≡ u ++ v → Match (r ▹ s) w
  left : {r s : Expression} {w : List Letter} → Match r w → Match (r ∣ s) w
  right : {r s : Expression} {w : List Letter} → Match s w → Match (r ∣ s) w
  none : {r : Expression} → Match (many r) []
  more : {r : Expression} {w : List Letter} (u v : List Letter) → Match r u → Match (many r) v → w ≡ u ++ v → Match (many r) w
  absent : {r : Expression} → Match (option r) []
  present : {r : Expression} {w : List Letter} → Match r w → Match (option r) w
  text : {w : List Letter} → Match comment_rule w → Match comment_text w
