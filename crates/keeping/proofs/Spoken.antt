-- The next command within a definition, told from the letter of its kind: a step of the body, whose words are those that hold it, the DF, or nothing.
-- Assumes nothing.
use Rattle.std.specs.Prelude.{if◌then◌else◌}
use mathlib.Core.Path.{◌≡◌, refl, sym, ap, ap₂, ◌∙◌, subst}
use mathlib.Core.Bool.{Bool, true, false, ◌||◌}
use mathlib.Core.List.{List, [], ◌∷◌, ◌++◌, map}
use Prim.Native.Nat.{ℕ, ◌+◌, ◌*◌, ◌≤◌}
use native.Mathlib.Omega.{arith}
use borrow.Author.Tests.{eqb-true}
use lib.Dec.{eqb}
use lib.IntN.{ℤ, pos, nat_abs}
use lib.ListN.{length}
use Rattle.definition.specs.Words.{Placed, at}
use Rattle.definition.specs.Commands.{Kind, box, flash, wire, polygon, Command, finish, nothing}
use Rattle.definition.specs.Standing.{Standing, outside, after, scaled_shape, scaled_turn}
use Rattle.definition.specs.Table.{Step, shape, instance, setting}
use Rattle.definition.specs.Flat.{letter_of}
use Rattle.definition.specs.Drawing.{Deed, step_of, retained, deed_of, deeds}
use Rattle.laws.proofs.FlatFile.Said.{length-map}
use Rattle.laws.proofs.Lists.Joined.{retained_out}
use Rattle.pieces.specs.Pieces.{letter_f}
use Rattle.rules.specs.Letters.{letter_c, letter_l}
use Rattle.rules.specs.Rules.{shapely}
use Rattle.rules.specs.Written.{Written, last_letter}
use Rattle.commands.specs.Words.{words_of, kind_by}
use Rattle.turns.specs.Words.{turns_words}
use Rattle.moves.specs.Moves.{most_values}
use Rattle.library.specs.Memory.{layer_after}
use Rattle.library.specs.Sound.{letter_of_step, values_of, step_words, Fair}
use Rattle.library.specs.Storing.{is_layer}
use Rattle.keeping.specs.Voices.{Silent, Voice, a_shape, a_call, a_layer, a_start, a_finish, a_delete, a_nothing, Unsigned, Voiced, Told, none_told, one_told}
use Rattle.keeping.specs.Growth.{steps}

-- the definition stays open, with its scale and the layer that was set outside of it
pub record Stays (σ σ' : Standing) : Type 0 where
  pub opened : σ'.inside ≡ true
  pub same_a : σ'.a ≡ σ.a
  pub same_b : σ'.b ≡ σ.b
  pub same_outside : σ'.layer_outside ≡ σ.layer_outside

-- a command that is a step
pub record OneStep (σ : Standing) (l : ℕ) (vs : List ℤ) (d : Command) : Type 0 where
  pub step : Step
  pub are : step_of σ d ≡ step ∷ []
  pub letter_is : l ≡ letter_of_step step
  pub values_are : vs ≡ values_of step
  pub fair : Fair σ.layer_set step
  pub layer_is : eqb l letter_l ≡ is_layer step
  pub layer_then : (after d σ).layer_set ≡ layer_after step σ.layer_set
  pub stays : Stays σ (after d σ)
  pub idle : (p : ℕ) (cs : List (Placed Command)) → deed_of σ p d cs ≡ []

no_layer_lem : (k : Kind) → eqb (letter_of k) letter_l ≡ false
unfolding letter_of
no_layer_lem box = refl
no_layer_lem flash = refl
no_layer_lem wire = refl
no_layer_lem polygon = refl

no_finish : (k : Kind) → letter_of k ≡ letter_f → ⊥
unfolding letter_of
no_finish box e = omega (arith, e)
no_finish flash e = omega (arith, e)
no_finish wire e = omega (arith, e)
no_finish polygon e = omega (arith, e)

a_step : (k : Kind) → steps (letter_of k) ≡ true
unfolding letter_of shapely
a_step box = refl
a_step flash = refl
a_step wire = refl
a_step polygon = refl

some_kind : (l : ℕ) → shapely l ≡ true → (x : Kind) × (l ≡ letter_of x)
unfolding shapely letter_of
some_kind l e = go (eqb l 66) (eqb l 80) (eqb l 82) (eqb l 87) refl refl refl refl e
  where
    go : (b p r w : Bool) → eqb l 66 ≡ b → eqb l 80 ≡ p → eqb l 82 ≡ r → eqb l 87 ≡ w → (b || (p || (r || w))) ≡ true → (x : Kind) × (l ≡ letter_of x)
    go true p r w f g h i e = (box, eqb-true l 66 f)
    go false true r w f g h i e = (polygon, eqb-true l 80 g)
    go false false true w f g h i e = (flash, eqb-true l 82 h)
    go false false false true f g h i e = (wire, eqb-true l 87 i)
    go false false false false f g h i e = absurd (let y : ◌≡◌ {A = ℕ} 0 1 = cc in omega arith)

-- what is silent is no step
pub silent_no : (l : ℕ) → Silent l → steps l ≡ true → ⊥
silent_no l s e = go (eqb l letter_l) (eqb l letter_c) (shapely l) refl refl refl e
  where
    go : (x y z : Bool) → eqb l letter_l ≡ x → eqb l letter_c ≡ y → shapely l ≡ z → (x || (y || z)) ≡ true → ⊥
    go true y z f g h e = s.no_layer_lem (eqb-true l letter_l f)
    go false true z f g h e = s.no_call (eqb-true l letter_c g)
    go false false true f g h e = let k = some_kind l h in s.no_shape k.0 k.1
    go false false false f g h e = let y : ◌≡◌ {A = ℕ} 0 1 = cc in omega arith

clash : {b : Bool} → b ≡ true → b ≡ false → ⊥
clash e f = let z : ◌≡◌ {A = Bool} true false = sym e ∙ f in let y : ◌≡◌ {A = ℕ} 0 1 = cc in omega arith

module _ {σ : Standing} {c : Written} {l : ℕ} {vs : List ℤ} (opened : σ.inside ≡ true) where
  pub one_step : {d : Command} → Voice σ c l vs d → Unsigned d → steps l ≡ true → (l ≡ letter_f → ⊥) → OneStep σ l vs d
  unfolding step_of letter_of_step values_of Fair is_layer after deed_of Unsigned
  one_step (a_shape {k} s) u e f = record {
    step = shape σ.layer_set (scaled_shape σ k);
    are = refl;
    letter_is = s.letter_is;
    values_are = s.values_are;
    fair = (refl, s.sizes, s.directions);
    layer_is = ap (λ (n : ℕ). eqb n letter_l) s.letter_is ∙ no_layer_lem (scaled_shape σ k).kind;
    layer_then = refl;
    stays = record { opened = opened; same_a = refl; same_b = refl; same_outside = refl };
    idle = λ p cs. rw opened;
  }
  one_step (a_call {n} {ts} g v h) u e f = record {
    step = instance (nat_abs n.what) (map (scaled_turn σ) ts);
    are = refl;
    letter_is = g;
    values_are = v ∙ ap (λ (z : ℤ). z ∷ turns_words (map (scaled_turn σ) ts)) u;
    fair = omega (arith, h, length-map (scaled_turn σ) ts);
    layer_is = ap (λ (n : ℕ). eqb n letter_l) g;
    layer_then = refl;
    stays = record { opened = opened; same_a = refl; same_b = refl; same_outside = refl };
    idle = λ p cs. rw opened;
  }
  one_step (a_layer {l = k} g v h) u e f = record {
    step = setting k;
    are = refl;
    letter_is = g;
    values_are = v;
    fair = h;
    layer_is = ap (λ (n : ℕ). eqb n letter_l) g;
    layer_then = refl;
    stays = record { opened = opened; same_a = refl; same_b = refl; same_outside = refl };
    idle = λ p cs. refl;
  }
  one_step (a_start g v i b s t j) u e f = absurd (clash opened i)
  one_step (a_delete g v i) u e f = absurd (clash opened i)
  one_step (a_finish g i) u e f = absurd (f g)
  one_step (a_nothing s) u e f = absurd (silent_no l s e)

  pub is_finish : {d : Command} → Voice σ c l vs d → l ≡ letter_f → d ≡ finish
  is_finish (a_finish f o) e = refl
  is_finish (a_shape {k} s) e = absurd (no_finish (scaled_shape σ k).kind (sym s.letter_is ∙ e))
  is_finish (a_call f v n) e = absurd (omega (arith, e, f))
  is_finish (a_layer f w n) e = absurd (omega (arith, e, f))
  is_finish (a_start f v o m s t i) e = absurd (omega (arith, e, f))
  is_finish (a_delete f v o) e = absurd (omega (arith, e, f))
  is_finish (a_nothing s) e = absurd (s.no_finish e)

  pub is_nothing : {d : Command} → Voice σ c l vs d → steps l ≡ false → (l ≡ letter_f → ⊥) → d ≡ nothing
  is_nothing (a_nothing s) e f = refl
  is_nothing (a_shape {k} s) e f = absurd (clash (ap steps s.letter_is ∙ a_step (scaled_shape σ k).kind) e)
  is_nothing (a_call g v n) e f = absurd (clash (ap steps g) e)
  is_nothing (a_layer g w n) e f = absurd (clash (ap steps g) e)
  is_nothing (a_finish g o) e f = absurd (f g)
  is_nothing (a_start g v i b s t j) e f = absurd (clash opened i)
  is_nothing (a_delete g v i) e f = absurd (clash opened i)

-- ---- the first command that is told

pub record First (σ : Standing) (c : Written) (cs : List Written) (ds : List (Placed Command)) : Type 0 where
  pub command : Placed Command
  pub rest : List (Placed Command)
  pub are : ds ≡ command ∷ rest
  pub voiced : Voiced σ c command
  pub told : Told (after command.what σ) cs rest

pub first-told : {σ : Standing} {c : Written} {cs : List Written} {ds : List (Placed Command)} → Told σ (c ∷ cs) ds → First σ c cs ds
first-told (one_told {d = d} {ds = ds} v r) = record { command = d; rest = ds; are = refl; voiced = v; told = r }

pub none_told_of : {σ : Standing} {ds : List (Placed Command)} → Told σ [] ds → ds ≡ []
none_told_of none_told = refl

-- a step: its words, and what is retained
module _ {σ : Standing} {c : Written} {d : Placed Command} (v : Voiced σ c d) (o : OneStep σ (kind_by c.letter (last_letter c)) v.values d.what) where
  abbrev pub placed : Placed Step
  placed = at d.place o.step

  pub words_are : words_of σ.a σ.b c ≡ step_words placed
  words_are =
      v.words
      ∙ ap₂ {C = List ℤ} (λ (k : ℕ) (p : ℕ). pos (k + 256 * length v.values) ∷ pos p ∷ v.values) o.letter_is v.place
      ∙ ap (λ (vs : List ℤ). pos (letter_of_step o.step + 256 * length vs) ∷ pos d.place ∷ vs) o.values_are

  pub few-values : length (values_of o.step) ≤ most_values
  few-values = subst (λ (vs : List ℤ). length vs ≤ most_values) o.values_are v.few

  pub retains_it : σ.inside ≡ true → (ds : List (Placed Command)) → retained σ (d ∷ ds) ≡ placed ∷ retained (after d.what σ) ds
  unfolding retained
  retains_it e ds =
      ap (λ (i : Bool). if i then map (at d.place) (step_of σ d.what) ++ retained (after d.what σ) ds else []) e
      ∙ ap (λ (x : List Step). map (at d.place) x ++ retained (after d.what σ) ds) o.are

  pub deeds_on : (ds : List (Placed Command)) → deeds σ (d ∷ ds) ≡ deeds (after d.what σ) ds
  unfolding deeds
  deeds_on ds = ap (λ (x : List Deed). x ++ deeds (after d.what σ) ds) (o.idle d.place ds)

-- nothing, and the DF
module _ (σ : Standing) (p : ℕ) (ds : List (Placed Command)) (e : σ.inside ≡ true) where
  pub retains_none : retained σ (at p nothing ∷ ds) ≡ retained σ ds
  unfolding retained step_of after
  retains_none = rw e

  pub deeds_none : deeds σ (at p nothing ∷ ds) ≡ deeds σ ds
  unfolding deeds deed_of after
  deeds_none = refl

  pub retains_end : retained σ (at p finish ∷ ds) ≡ []
  unfolding retained step_of after
  retains_end = rw (e, retained_out (outside σ.layer_outside) ds refl)

  pub deeds_end : deeds σ (at p finish ∷ ds) ≡ deeds (outside σ.layer_outside) ds
  unfolding deeds deed_of after
  deeds_end = refl
