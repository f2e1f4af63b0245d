-- The words of every command of a sound text speak of the definition's command: from crates/reading's law that they are exact.
-- Assumes nothing.
use mathlib.Core.Path.{◌≡◌, refl, sym, ap, ap₂, ◌∙◌, subst}
use mathlib.Core.Bool.{Bool}
use mathlib.Core.List.{List, [], ◌∷◌, map, flat_map}
use mathlib.Core.Option.{none}
use Prim.Native.Nat.{ℕ, ◌+◌, ◌*◌, ◌≤◌}
use native.Mathlib.Omega.{arith}
use borrow.Author.Tests.{eqb-false, ltb-false}
use lib.IntN.{ℤ, pos, nat_abs}
use lib.ListN.{length}
use Rattle.grammar.specs.Notation.{Letter}
use Rattle.grammar.specs.Viable.{Marked}
use Rattle.definition.specs.Words.{Placed, any}
use Rattle.definition.specs.Commands.{Turn, translate, mirror_x, mirror_y, rotate, Kind, box, flash, wire, polygon, Number, Command, draw, layer, call, start, finish, delete, nothing, commands}
use Rattle.definition.specs.Standing.{Standing, outside, scaled_shape, scaled_turn}
use Rattle.definition.specs.Faults.{first_fault, numbers_of, parts_of, zero_scale, has_too_many, zero?}
use Rattle.definition.specs.Flat.{letter_of}
use Rattle.laws.proofs.Lists.Range.{All}
use Rattle.laws.proofs.FlatFile.Said.{or_first, or_second}
use Rattle.laws.proofs.Commands.Course.{Natural, natural}
use Rattle.laws.proofs.Commands.Made.{Made, all_made}
use Rattle.laws.proofs.Commands.Ordered.{Ordered, Allowed, after-inside, ordered}
use Rattle.turns.specs.Words.{turn_words, turns_words}
use Rattle.names.specs.Names.{packed}
use Rattle.pen.proofs.Names.{a_name, name_back}
use Rattle.pieces.specs.Pieces.{letter_s, letter_f, stream}
use Rattle.pieces.specs.Pieces.{start as text_start}
use Rattle.pieces.specs.declared.Piece.{Piece}
use Rattle.pieces.proofs.Spots.{start-pieces}
use Rattle.rules.specs.Letters.{letter_c, letter_d, letter_l}
use Rattle.rules.specs.Written.{Written, written, letters, last_of, last_letter, inside_behind}
use Rattle.commands.specs.Words.{signed, words_of, kind_by}
use Rattle.checking.specs.declared.Scope.{Scope}
use Rattle.reading.proofs.Says.{tells, Says, Idle}
use Rattle.reading.proofs.Says.{a_polygon, a_box, a_turned_box, a_flash, a_wire, a_scaled-start, a_deletion}
use Rattle.reading.proofs.Says.{a_layer as says-layer, a_call as says-call, a_start as says-start, a_finish as says-finish, a_nothing as says_nothing}
use Rattle.reading.proofs.Facing.{faces}
use Rattle.reading.proofs.Agree.{Fits, Faultless, near-most, not_zero}
use Rattle.reading.proofs.Exact.{turn_values, values_of, exact_words, kind-exact, few-values, AllExact, none_left, one_exact, all_exact}
use Rattle.keeping.specs.Voices.{Silent, Voice, a_shape, a_call, a_layer, a_start, a_finish, a_delete, a_nothing, Unsigned, Voiced, Told, none_told, one_told}
use Rattle.moves.specs.Moves.{size_count, direction_count}

-- the transformations of a call are kept in the words that crates/turns reads
turns-kept : (ts : List (Turn ℤ)) → flat_map turn_values ts ≡ turns_words ts
unfolding flat_map turn_values turns_words turn_words
turns-kept [] = refl
turns-kept (translate p ∷ ts) = ap (λ (l : List ℤ). pos 84 ∷ p.x ∷ p.y ∷ l) (turns-kept ts)
turns-kept (mirror_x ∷ ts) = ap (λ (l : List ℤ). pos 88 ∷ l) (turns-kept ts)
turns-kept (mirror_y ∷ ts) = ap (λ (l : List ℤ). pos 89 ∷ l) (turns-kept ts)
turns-kept (rotate d ∷ ts) = ap (λ (l : List ℤ). pos 82 ∷ d.x ∷ d.y ∷ l) (turns-kept ts)

silent : (b : ℕ) → Idle b → Silent b
unfolding letter_of
silent b i = record {
  no_shape = go;
  no_call = eqb-false b letter_c i.not_C;
  no_layer_lem = eqb-false b letter_l i.not_L;
  no_start = eqb-false b letter_s i.not_S;
  no_finish = eqb-false b letter_f i.not_F;
  no_delete = eqb-false b letter_d i.not_D;
}
  where
    go : (k : Kind) → b ≡ letter_of k → ⊥
    go box e = eqb-false b 66 i.not_B (unfold letter_of in e)
    go flash e = eqb-false b 82 i.not_R (unfold letter_of in e)
    go wire e = eqb-false b 87 i.not_W (unfold letter_of in e)
    go polygon e = eqb-false b 80 i.not_P (unfold letter_of in e)

natural_unsigned : {n : Number} → Natural n → n.what ≡ pos (nat_abs n.what)
natural_unsigned (natural p v) = refl

-- a call's symbol has no sign
unsigned_of : (d : Command) → Made d → Unsigned d
unfolding Made Unsigned
unsigned_of (call n ts) w = natural_unsigned w
unsigned_of (draw k) w = tt
unsigned_of (layer l) w = tt
unsigned_of (start n a b) w = tt
unsigned_of finish w = tt
unsigned_of (delete n) w = tt
unsigned_of nothing w = tt

abbrev Speaks : Standing → Written → Command → Type 0
Speaks σ c d = Voice σ c (kind_by c.letter (last_letter c)) (values_of σ d) d

voice_of : (σ : Standing) {c : Written} {d : Placed Command} → Says c d → Faultless σ d → Allowed σ.inside d.what → Speaks σ c d.what
unfolding letters last_of values_of scaled_shape size_count direction_count letter_of Allowed inside_behind numbers_of parts_of zero_scale any All has_too_many packed
voice_of σ (a_polygon g h) f o = a_shape (record { letter_is = refl; values_are = refl; sizes = refl; directions = refl })
voice_of σ (a_box x y z w) f o = a_shape (record { letter_is = refl; values_are = refl; sizes = refl; directions = refl })
voice_of σ (a_turned_box x y z w u v) f o = a_shape (record { letter_is = refl; values_are = refl; sizes = refl; directions = refl })
voice_of σ (a_flash x y z) f o = a_shape (record { letter_is = refl; values_are = refl; sizes = refl; directions = refl })
voice_of σ (a_wire x g h) f o = a_shape (record { letter_is = refl; values_are = refl; sizes = refl; directions = refl })
voice_of σ (says-layer {l = l} h n) f o = a_layer refl refl (name_back l (a_name l n.short n.chars))
voice_of σ (says-call {a = a} {ts = ts} x g) f o =
    a_call refl (ap (λ (vs : List ℤ). a.what ∷ vs) (turns-kept (map (scaled_turn σ) ts))) (ltb-false 32 (length ts) f.not_many)
voice_of σ (says-start (tells i α v)) f o = a_start refl refl o (omega arith) (omega arith) refl (λ j. refl)
voice_of σ (a_scaled-start {b = b} {c = c} (tells i α v) (tells j τ w) (tells k υ x)) f o =
    a_start refl refl o (let h = near-most (signed τ w) f.near.1.0 in omega arith) (not_zero (nat_abs (signed υ x)) (or_first _ _ (or_second (zero? (signed τ w)) _ f.scale))) refl (λ j. refl)
voice_of σ says-finish f o = a_finish refl o
voice_of σ (a_deletion (tells i α v)) f o = a_delete refl refl o
voice_of σ (says_nothing {b = b} i) f o = a_nothing (subst Silent (sym (rw i.not_D refl)) (silent b i))

module _ (s : Scope) (σ : Standing) {c : Written} {d : Placed Command} (x : Says c d) (g : Fits s σ) (f : Faultless σ d) (e : words_of s.a s.b c ≡ exact_words σ c.letter d) (o : Allowed σ.inside d.what) (w : Made d.what) where
  -- the two words in front: its kind and how many values it has, and its place
  exact : exact_words σ c.letter d ≡ pos (kind_by c.letter (last_letter c) + 256 * length (values_of σ d.what)) ∷ pos c.place ∷ values_of σ d.what
  exact =
      ap₂ {C = List ℤ} (λ (k p : ℕ). pos (k + 256 * length (values_of σ d.what)) ∷ pos p ∷ values_of σ d.what) (sym (kind-exact x)) (sym (faces x).place)

  voiced : Voiced σ c d
  voiced = record {
    values = values_of σ d.what;
    words = ap₂ {C = List ℤ} (λ (a b : ℕ). words_of a b c) (sym g.scale.same_a) (sym g.scale.same_b) ∙ e ∙ exact;
    few = few-values σ x f.not_many;
    place = (faces x).place;
    unsigned = unsigned_of d.what w;
    voice = voice_of σ x f o;
  }

abbrev AllMade : List (Placed Command) → Type 0
AllMade ds = All (λ (d : Placed Command). Made d.what) ds

told_from : {s : Scope} {σ : Standing} {cs : List Written} {ds : List (Placed Command)} → AllExact s σ cs ds → Ordered σ.inside ds → AllMade ds → Told σ cs ds
unfolding Ordered All
told_from none_left o w = none_told
told_from (one_exact {s = s} {σ = σ} {d = d} {ds = ds} x g f e r) o w =
    one_told (voiced s σ x g f e o.0 w.0) (told_from r (subst (λ (i : Bool). Ordered i ds) (sym (after-inside d.what σ)) o.1) w.1)

-- a text that refusals 1 to 9 let pass is told from its start to its end
pub told_text : {t : List ℕ} {m : List Letter} → Marked t m → length t ≤ 16777216 → first_fault (commands 0 m) ≡ none → Told (outside []) (written (stream t text_start)) (commands 0 m)
told_text {m = m} k h e =
    subst (λ (xs : List Piece). Told (outside []) (written xs) (commands 0 m)) (sym (start-pieces k)) (told_from (all_exact k h e) (ordered k 0) (all_made k.rule))
