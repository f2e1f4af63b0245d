-- A command outside of definitions that is no L, DS or DD: a call or a shape is output, and its words say its step; all else does nothing.
-- Assumes nothing.
use mathlib.Core.Path.{◌≡◌, refl, sym, ap, ◌∙◌}
use mathlib.Core.Bool.{Bool, true, false, ◌||◌}
use mathlib.Core.List.{List, ◌∷◌, ◌++◌, map}
use Prim.Native.Nat.{ℕ, ◌+◌, ◌≤◌}
use native.Mathlib.Omega.{arith}
use lib.Dec.{eqb}
use lib.IntN.{ℤ, nat_abs}
use lib.ListN.{length, drop, length-map}
use Rattle.definition.specs.Words.{Placed, at}
use Rattle.definition.specs.Commands.{Kind, box, flash, wire, polygon, Command}
use Rattle.definition.specs.Standing.{Standing, after, scaled_shape, scaled_turn}
use Rattle.definition.specs.Flat.{letter_of}
use Rattle.definition.specs.Table.{Step, shape, instance}
use Rattle.definition.specs.Drawing.{step_of, output, deed_of, deeds}
use Rattle.moves.specs.Moves.{most_values}
use Rattle.pieces.specs.Pieces.{letter_s}
use Rattle.rules.specs.Letters.{letter_c, letter_d, letter_l}
use Rattle.rules.specs.Written.{Written}
use Rattle.rules.specs.Rules.{shapely}
use Rattle.keeping.specs.Voices.{Voice, a_shape, a_call, a_layer, a_start, a_finish, a_delete, a_nothing}
use Rattle.keeping.specs.Growth.{steps}
use Rattle.keeping.proofs.Spoken.{silent_no}
use Rattle.engine.specs.Outer.{Says, a_shape, a_call}
use Rattle.passing.specs.Passed.{outputs}

-- such a command is output as this step
pub record Output (σ : Standing) (l : ℕ) (vs : List ℤ) (d : Command) (p : ℕ) (ds : List (Placed Command)) : Type 0 where
  pub step : Step
  pub deed : deeds σ (at p d ∷ ds) ≡ output (at p step) ∷ deeds σ ds
  pub stays : after d σ ≡ σ
  pub said : (words rest : List ℤ) (n : ℕ) → drop 2 words ≡ vs ++ rest → n ≡ 2 + length vs → length vs ≤ most_values → most_values + 2 ≤ length words → Says words l n σ.layer_set step

-- or it does nothing
pub record Idle (σ : Standing) (d : Command) (p : ℕ) (ds : List (Placed Command)) : Type 0 where
  pub deed : deeds σ (at p d ∷ ds) ≡ deeds σ ds
  pub stays : after d σ ≡ σ

false-true : ◌≡◌ {A = Bool} false true → ⊥
false-true z = let y : ◌≡◌ {A = ℕ} 0 1 = cc in omega arith

-- what is output is a step, so what is silent is not output
output-steps : (l : ℕ) → outputs l ≡ true → steps l ≡ true
output-steps l e = go (eqb l letter_l)
  where
    go : (x : Bool) → (x || (eqb l letter_c || shapely l)) ≡ true
    go true = refl
    go false = e

kind-outputs : (k : Kind) → outputs (letter_of k) ≡ true
unfolding shapely letter_of
kind-outputs box = refl
kind-outputs flash = refl
kind-outputs wire = refl
kind-outputs polygon = refl

module _ {σ : Standing} {c : Written} {l : ℕ} {vs : List ℤ} (outer : σ.inside ≡ false) (p : ℕ) (ds : List (Placed Command)) where
  pub is_output : {d : Command} → Voice σ c l vs d → outputs l ≡ true → (l ≡ letter_l → ⊥) → (l ≡ letter_d → ⊥) → (l ≡ letter_s → ⊥) → Output σ l vs d p ds
  unfolding deeds deed_of step_of after
  is_output (a_shape {k} s) e f g h = record {
    step = shape σ.layer_set (scaled_shape σ k);
    deed = rw outer;
    stays = refl;
    said = λ words rest n are ends few long. a_shape (record {
      shape = scaled_shape σ k;
      values = vs;
      rest = rest;
      are = are;
      ends = ends;
      few = few;
      shaped = s;
      within = omega (arith, ends, few, long);
    });
  }
  is_output (a_call {n} {ts} q v m) e f g h = record {
    step = instance (nat_abs n.what) (map (scaled_turn σ) ts);
    deed = rw outer;
    stays = refl;
    said = λ words rest i are ends few long. a_call q (record {
      symbol = n.what;
      turns = map (scaled_turn σ) ts;
      rest = rest;
      are = are ∙ ap (λ (x : List ℤ). x ++ rest) v;
      ends = let z = ap length v in omega (arith, ends, z);
      few = let z = length-map ts (scaled_turn σ) in omega (arith, m, z);
    });
  }
  is_output (a_nothing s) e f g h = absurd (silent_no l s (output-steps l e))
  is_output (a_layer q w n) e f g h = absurd (f q)
  is_output (a_delete q v i) e f g h = absurd (g q)
  is_output (a_start q v i m s k j) e f g h = absurd (h q)
  is_output (a_finish q i) e f g h = absurd (false-true (sym outer ∙ i))

  pub is_idle : {d : Command} → Voice σ c l vs d → outputs l ≡ false → (l ≡ letter_l → ⊥) → (l ≡ letter_d → ⊥) → (l ≡ letter_s → ⊥) → Idle σ d p ds
  unfolding deeds deed_of after
  is_idle (a_nothing s) e f g h = record { deed = refl; stays = refl }
  is_idle (a_shape {k} s) e f g h = absurd (false-true (sym e ∙ (ap outputs s.letter_is ∙ kind-outputs (scaled_shape σ k).kind)))
  is_idle (a_call q v m) e f g h = absurd (false-true (sym e ∙ ap outputs q))
  is_idle (a_layer q w n) e f g h = absurd (f q)
  is_idle (a_delete q v i) e f g h = absurd (g q)
  is_idle (a_start q v i m s k j) e f g h = absurd (h q)
  is_idle (a_finish q i) e f g h = absurd (false-true (sym outer ∙ i))
