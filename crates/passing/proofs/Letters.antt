-- Which command it is, told from the letter of its kind: the tests of the pass, one by one.
-- Assumes nothing.
use mathlib.Core.Path.{◌≡◌, refl, sym, ap, ◌∙◌}
use mathlib.Core.Bool.{Bool, true}
use mathlib.Core.List.{List, [], ◌∷◌}
use Prim.Native.Nat.{ℕ, ◌≤◌}
use native.Mathlib.Omega.{arith}
use lib.IntN.{ℤ, pos, nat_abs}
use Rattle.definition.specs.Commands.{Number, Kind, box, flash, wire, polygon, Command, layer, start, delete}
use Rattle.definition.specs.Standing.{Standing, scaled_shape}
use Rattle.definition.specs.Flat.{letter_of}
use Rattle.names.specs.Names.{name_of, packed}
use Rattle.pieces.specs.Pieces.{letter_s, too_large}
use Rattle.rules.specs.Letters.{letter_d, letter_l}
use Rattle.rules.specs.Written.{Written, inside_behind}
use Rattle.keeping.specs.Voices.{Voice, a_shape, a_call, a_layer, a_start, a_finish, a_delete, a_nothing}

-- no shape has the letter of another command
record Drawable (n : ℕ) : Type 0 where
  no_layer_lem : n ≡ letter_l → ⊥
  no_start : n ≡ letter_s → ⊥
  no_delete : n ≡ letter_d → ⊥

drawable : (x : Kind) → Drawable (letter_of x)
unfolding letter_of
drawable box = record { no_layer_lem = λ e. omega (arith, e); no_start = λ e. omega (arith, e); no_delete = λ e. omega (arith, e) }
drawable flash = record { no_layer_lem = λ e. omega (arith, e); no_start = λ e. omega (arith, e); no_delete = λ e. omega (arith, e) }
drawable wire = record { no_layer_lem = λ e. omega (arith, e); no_start = λ e. omega (arith, e); no_delete = λ e. omega (arith, e) }
drawable polygon = record { no_layer_lem = λ e. omega (arith, e); no_start = λ e. omega (arith, e); no_delete = λ e. omega (arith, e) }

-- what the account and the words of a DS say
pub record Starts (c : Written) (vs : List ℤ) (d : Command) : Type 0 where
  pub n : Number
  pub a : Number
  pub b : Number
  pub is : d ≡ start n a b
  pub values_are : vs ≡ n.what ∷ a.what ∷ b.what ∷ []
  pub most_a : nat_abs a.what ≤ too_large
  pub some_b : 1 ≤ nat_abs b.what
  pub ended : c.stopped ≡ true
  pub leads_in : (i : Bool) → inside_behind i c.items ≡ true

module _ {σ : Standing} {c : Written} {l : ℕ} {vs : List ℤ} where
  pub is_layer : {d : Command} → Voice σ c l vs d → l ≡ letter_l → (v : ℕ) × (d ≡ layer (name_of v)) × (vs ≡ pos v ∷ [])
  is_layer (a_layer {l = m} f w n) e = (packed m, ap layer (sym n), w)
  is_layer (a_shape {k} s) e = absurd ((drawable (scaled_shape σ k).kind).no_layer_lem (sym s.letter_is ∙ e))
  is_layer (a_call f v n) e = absurd (omega (arith, e, f))
  is_layer (a_start f v o m s t i) e = absurd (omega (arith, e, f))
  is_layer (a_finish f o) e = absurd (omega (arith, e, f))
  is_layer (a_delete f v o) e = absurd (omega (arith, e, f))
  is_layer (a_nothing s) e = absurd (s.no_layer_lem e)

  pub is_delete : {d : Command} → Voice σ c l vs d → l ≡ letter_d → (n : Number) × (d ≡ delete n) × (vs ≡ n.what ∷ [])
  is_delete (a_delete {n} f v o) e = (n, refl, v)
  is_delete (a_shape {k} s) e = absurd ((drawable (scaled_shape σ k).kind).no_delete (sym s.letter_is ∙ e))
  is_delete (a_call f v n) e = absurd (omega (arith, e, f))
  is_delete (a_layer f w n) e = absurd (omega (arith, e, f))
  is_delete (a_start f v o m s t i) e = absurd (omega (arith, e, f))
  is_delete (a_finish f o) e = absurd (omega (arith, e, f))
  is_delete (a_nothing s) e = absurd (s.no_delete e)

  pub is_start : {d : Command} → Voice σ c l vs d → l ≡ letter_s → Starts c vs d
  is_start (a_start {n} {a} {b} f v o m s t i) e = record { n = n; a = a; b = b; is = refl; values_are = v; most_a = m; some_b = s; ended = t; leads_in = i }
  is_start (a_shape {k} s) e = absurd ((drawable (scaled_shape σ k).kind).no_start (sym s.letter_is ∙ e))
  is_start (a_call f v n) e = absurd (omega (arith, e, f))
  is_start (a_layer f w n) e = absurd (omega (arith, e, f))
  is_start (a_finish f o) e = absurd (omega (arith, e, f))
  is_start (a_delete f v o) e = absurd (omega (arith, e, f))
  is_start (a_nothing s) e = absurd (s.no_start e)
