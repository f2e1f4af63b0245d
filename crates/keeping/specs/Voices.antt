-- What the words of a command say of it: one case for each kind of command. A running account, not to be believed: crates/passing proves
-- (proofs/Voices.antt) that the words of every command of a sound text speak so of the definition's command. They are exact, the two in front too, since
-- they are kept.
-- Assumes nothing.
use Rattle.std.specs.Prelude.{◌≡◌, Bool, true, false, List, [], ◌∷◌, map, ℕ, ◌+◌, ◌*◌, ◌≤◌, ℤ, pos, nat_abs, length}
use Rattle.definition.specs.Words.{Placed}
use Rattle.definition.specs.Commands.{Number, Shape, Turn, Kind, Command, draw, layer, call, start, finish, delete, nothing}
use Rattle.definition.specs.Standing.{Standing, after, scaled_shape, scaled_turn}
use Rattle.definition.specs.Flat.{letter_of}
use Rattle.turns.specs.Words.{turns_words}
use Rattle.names.specs.Names.{name_of, packed}
use Rattle.moves.specs.Moves.{most_values, Shaped}
use Rattle.pieces.specs.Pieces.{letter_s, letter_f, too_large}
use Rattle.rules.specs.Letters.{letter_c, letter_d, letter_l}
use Rattle.rules.specs.Written.{Written, last_letter, inside_behind}
use Rattle.commands.specs.Words.{words_of, kind_by}

-- no letter that drawing knows
pub record Silent (letter : ℕ) : Type 0 where
  pub no_shape : (k : Kind) → letter ≡ letter_of k → ⊥
  pub no_call : letter ≡ letter_c → ⊥
  pub no_layer_lem : letter ≡ letter_l → ⊥
  pub no_start : letter ≡ letter_s → ⊥
  pub no_finish : letter ≡ letter_f → ⊥
  pub no_delete : letter ≡ letter_d → ⊥

-- the command c of the account, whose kind is the letter and whose numbers are the values, says a command of the definition where σ stands
pub data Voice (σ : Standing) (c : Written) (letter : ℕ) (values : List ℤ) : Command → Type 0 where
  a_shape : {k : Shape Number} → Shaped letter values (scaled_shape σ k) → Voice σ c letter values (draw k)
  a_call : {n : Number} {ts : List (Turn Number)} → letter ≡ letter_c → values ≡ n.what ∷ turns_words (map (scaled_turn σ) ts) → length ts ≤ 32
      → Voice σ c letter values (call n ts)
  a_layer : {l : List ℕ} → letter ≡ letter_l → values ≡ pos (packed l) ∷ [] → name_of (packed l) ≡ l → Voice σ c letter values (layer l)
  a_start : {n a b : Number} → letter ≡ letter_s → values ≡ n.what ∷ a.what ∷ b.what ∷ [] → σ.inside ≡ false → nat_abs a.what ≤ too_large → 1 ≤ nat_abs b.what
      → c.stopped ≡ true → ((i : Bool) → inside_behind i c.items ≡ true) → Voice σ c letter values (start n a b)
  a_finish : letter ≡ letter_f → σ.inside ≡ true → Voice σ c letter values finish
  a_delete : {n : Number} → letter ≡ letter_d → values ≡ n.what ∷ [] → σ.inside ≡ false → Voice σ c letter values (delete n)
  a_nothing : Silent letter → Voice σ c letter values nothing

-- the symbol of a call has no sign, so that its word is its number (crate laws, proofs/Commands/Made.antt)
unfoldable pub Unsigned : Command → Type 0
Unsigned (call n ts) = n.what ≡ pos (nat_abs n.what)
Unsigned (draw k) = Unit {0}
Unsigned (layer l) = Unit {0}
Unsigned (start n a b) = Unit {0}
Unsigned finish = Unit {0}
Unsigned (delete n) = Unit {0}
Unsigned nothing = Unit {0}

-- a command with its place: its words are its kind and how many values it has, in one word, its place, and its values
pub record Voiced (σ : Standing) (c : Written) (d : Placed Command) : Type 0 where
  pub values : List ℤ
  pub words : words_of σ.a σ.b c ≡ pos (kind_by c.letter (last_letter c) + 256 * length values) ∷ pos c.place ∷ values
  pub few : length values ≤ most_values
  pub place : c.place ≡ d.place
  pub unsigned : Unsigned d.what
  pub voice : Voice σ c (kind_by c.letter (last_letter c)) values d.what

-- commands of the account, one by one, from where σ stands
pub data Told : Standing → List Written → List (Placed Command) → Type 0 where
  none_told : {σ : Standing} → Told σ [] []
  one_told : {σ : Standing} {c : Written} {d : Placed Command} {cs : List Written} {ds : List (Placed Command)} → Voiced σ c d → Told (after d.what σ) cs ds
      → Told σ (c ∷ cs) (d ∷ ds)
