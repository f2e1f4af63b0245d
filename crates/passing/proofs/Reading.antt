-- One command read into words: what it says, and what is told behind it. The loops of the drawing go by it.
-- Assumes nothing.
use Rattle.std.specs.Prelude.{Option, Some, None}
use mathlib.Core.Path.{◌≡◌, refl, sym, ap, ap₂, ◌∙◌, subst}
use mathlib.Core.Bool.{Bool, true}
use mathlib.Core.List.{List, [], ◌∷◌, ◌++◌}
use Prim.Native.Nat.{ℕ, ◌+◌, ◌*◌, ◌≤◌}
use native.Mathlib.Omega.{arith}
use lib.IntN.{ℤ, pos}
use lib.ListN.{length, drop, get_or}
use lib.Seq.{sets, sets-eq, length-sets, get_or-drop}
use Rattle.grammar.specs.Steps.{inside}
use Rattle.definition.specs.Words.{Placed}
use Rattle.definition.specs.Commands.{Command, layer}
use Rattle.definition.specs.Standing.{Standing, after}
use Rattle.names.specs.Names.{name_of}
use Rattle.pieces.specs.Pieces.{stream, behind}
use Rattle.pieces.specs.declared.Spot.{Spot}
use Rattle.rules.specs.Letters.{letter_l}
use Rattle.rules.specs.Written.{Written, written, last_letter, inside_behind}
use Rattle.commands.specs.declared.Decoded.{Decoded}
use Rattle.commands.specs.Words.{words_of, kind_by, inside_first, DecodedOne, ReadsCommand}
use Rattle.keeping.specs.Voices.{Voice, Voiced, Told, none_told, one_told}
use Rattle.moves.specs.Moves.{most_values}
use Rattle.passing.proofs.Letters.{is_layer}

-- the command that was read, as told: its kind k, its place p, its words up to n in the run, and the next spot
pub record Met (t : List ℕ) (σ : Standing) (ds : List (Placed Command)) (k p n : ℕ) (to : Spot) (words : List ℤ) : Type 0 where
  pub account : Written
  pub command : Command
  pub rest : List (Placed Command)
  pub are : ds ≡ record { place = p; what = command } ∷ rest
  pub values : List ℤ
  pub voice : Voice σ account k values command
  pub behind_it : List ℤ
  pub laid : drop 2 words ≡ values ++ behind_it
  pub ends : n ≡ 2 + length values
  pub few : length values ≤ most_values
  pub told : Told (after command σ) (written (stream t to)) rest
  pub known : account.stopped ≡ true → (b : Bool) → ((i : Bool) → inside_behind i account.items ≡ b) → to ≡ behind b to.at

-- what is told of a first command
record First (σ : Standing) (c : Written) (cs : List Written) (ds : List (Placed Command)) : Type 0 where
  command : Placed Command
  rest : List (Placed Command)
  are : ds ≡ command ∷ rest
  voiced : Voiced σ c command
  told : Told (after command.what σ) cs rest

first-told : {σ : Standing} {c : Written} {cs : List Written} {ds : List (Placed Command)} → Told σ (c ∷ cs) ds → First σ c cs ds
first-told (one_told {d = d} {ds = ds} v r) = record { command = d; rest = ds; are = refl; voiced = v; told = r }

over_words : (ws vs : List ℤ) (x y : ℤ) → length vs + 2 ≤ length ws → drop 2 (sets ws 0 (x ∷ y ∷ vs)) ≡ vs ++ drop (2 + length vs) ws
over_words ws vs x y h =
    let e : 0 + length (x ∷ y ∷ vs) ≡ 2 + length vs = omega arith in
    ap (drop 2) (sets-eq (x ∷ y ∷ vs) ws 0 (omega arith) ∙ ap (λ (k : ℕ). (x ∷ y ∷ vs) ++ drop k ws) e)

pub meets : {t : List ℕ} {spot : Spot} {σ : Standing} {ds : List (Placed Command)} {a b : ℕ} {c : Written} {ws : List ℤ} {k p n : ℕ} {to : Spot} {ws' : List ℤ}
    → Told σ (written (stream t spot)) ds → σ.a ≡ a → σ.b ≡ b → most_values + 2 ≤ length ws → DecodedOne t spot a b c ws k p n to ws' → Met t σ ds k p n to ws'
meets {t} {spot} {σ} {ds} {a} {b} {c} {ws} {k} {p} {n} {to} {ws'} told ea eb h r =
    let f = first-told (subst (λ (cs : List Written). Told σ cs ds) r.is told) in
    let v = f.voiced in
    let x : ℕ = kind_by c.letter (last_letter c) + 256 * length v.values in
    let w : words_of a b c ≡ pos x ∷ pos c.place ∷ v.values = ap₂ {C = List ℤ} (λ (i j : ℕ). words_of i j c) (sym ea) (sym eb) ∙ v.words in
    let few = v.few in
    record {
      account = c;
      command = f.command.what;
      rest = f.rest;
      are = f.are ∙ ap (λ (q : ℕ). record { place = q; what = f.command.what } ∷ f.rest) (sym (r.tells.place ∙ v.place));
      values = v.values;
      voice = subst (λ (i : ℕ). Voice σ c i v.values f.command.what) (sym r.tells.kind) v.voice;
      behind_it = drop (2 + length v.values) ws;
      laid = ap (drop 2) (r.tells.laid ∙ ap (sets ws 0) w) ∙ over_words ws v.values (pos x) (pos c.place) (omega arith);
      ends = let e = r.tells.count ∙ ap length w in omega (arith, e);
      few = few;
      told = f.told;
      known = λ s i q. r.tells.ends s ∙ ap (λ (j : Bool). behind j to.at) (q (inside_first (inside spot.state) (stream t spot)));
    }

-- what `read_command` answers
pub read_one : {t : List ℕ} {spot : Spot} {a b : ℕ} {ws ws' : List ℤ} {r : Option Decoded} → ReadsCommand t spot a b ws r ws' → {d : Decoded} → r ≡ Some d
    → (c : Written) × DecodedOne t spot a b c ws d.kind d.place d.end d.to ws'
read_one {t} {spot} {a} {b} {ws} {ws'} x e = subst (λ (r : Option Decoded). ReadsCommand t spot a b ws r ws') e x

pub read_none : (t : List ℕ) (spot : Spot) (a b : ℕ) (ws : List ℤ) (r : Option Decoded) (ws' : List ℤ) → ReadsCommand t spot a b ws r ws' → r ≡ None → written (stream t spot) ≡ []
read_none t spot a b ws r ws' x e = (subst (λ (r : Option Decoded). ReadsCommand t spot a b ws r ws') e x).0

-- the run is as long as before
pub run_kept : {t : List ℕ} {spot : Spot} {a b : ℕ} {c : Written} {ws : List ℤ} {k p n : ℕ} {to : Spot} {ws' : List ℤ} → DecodedOne t spot a b c ws k p n to ws' → length ws' ≡ length ws
run_kept {a = a} {b = b} {c = c} {ws = ws} r = ap length r.tells.laid ∙ length-sets ws 0 (words_of a b c)

-- the third word, where there is one, is the first of its numbers
module _ {t : List ℕ} {σ : Standing} {ds : List (Placed Command)} {k p n : ℕ} {to : Spot} {words : List ℤ} (m : Met t σ ds k p n to words) where
  pub third_word : {x : ℤ} {vs : List ℤ} → m.values ≡ x ∷ vs → get_or words 2 (pos 0) ≡ x
  third_word e = sym (get_or-drop 2 words 0 (pos 0)) ∙ ap (λ (l : List ℤ). get_or l 0 (pos 0)) (m.laid ∙ ap (λ (l : List ℤ). l ++ m.behind_it) e)

  -- a layer's packed name
  pub met_layer : k ≡ letter_l → (v : ℕ) × (m.command ≡ layer (name_of v)) × (get_or words 2 (pos 0) ≡ pos v)
  met_layer e = let i = is_layer m.voice e in (i.0, i.1, third_word i.2)

-- where nothing is read, nothing is told
pub none_met : (t : List ℕ) (spot : Spot) {σ : Standing} {ds : List (Placed Command)} → Told σ (written (stream t spot)) ds → written (stream t spot) ≡ [] → ds ≡ []
none_met t spot {σ} {ds} told e = go (subst (λ (cs : List Written). Told σ cs ds) e told)
  where
    go : {ds : List (Placed Command)} → Told σ [] ds → ds ≡ []
    go none_told = refl
