-- One shape drawn: the refusals 16, 20 and 17, or its lines.
-- Assumes nothing.
use Rattle.std.specs.Prelude.{Result, Ok, Err}
use mathlib.Core.Path.{◌≡◌, refl, sym, ap, ◌∙◌, subst}
use mathlib.Core.Bool.{true, false}
use mathlib.Core.List.{List, [], ◌∷◌, ◌++◌, append-nil}
use Prim.Native.Nat.{ℕ, ◌+◌, ◌-◌, ◌*◌, ◌≤◌}
use native.Mathlib.Omega.{arith}
use lib.IntN.{ℤ}
use lib.ListN.{length, take, drop}
use lib.Seq.{sets}
use Rattle.definition.specs.Commands.{Shape, Turn}
use Rattle.definition.specs.Turns.{moved}
use Rattle.definition.specs.Drawing.{Chain, Event, drew, refused, drawn_shape, Drawn}
use Rattle.definition.specs.Counts.{stopped, counted, go_on, ending, shapes_of}
use Rattle.definition.specs.Flat.{numbers_of_shape, line, spaced, said, lines}
use Rattle.definition.specs.Rules.{refuse}
use Rattle.definition.specs.declared.Rule.{Rule}
use Rattle.definition.specs.declared.Rule.TheVariants.{XOutOfRange, YOutOfRange}
use Rattle.definition.specs.declared.Refusal.{Refusal}
use Rattle.turns.specs.Nets.{Carries}
use Rattle.turns.specs.declared.Net.{Net}
use Rattle.turns.specs.declared.Beyond.{Beyond}
use Rattle.pen.specs.Names.{name_of}
use Rattle.pen.specs.Lines.{layer_line}
use Rattle.pen.proofs.Lines.{Handed, shape-said, layer-line-length}
use Rattle.digits.specs.Writes.{Writes}
use Rattle.moves.proofs.Shapes.{placed-moved, part_placed}
use Rattle.moves.specs.Moves.{most_values, ShapedAt, Judges, MovesShape}
use Rattle.counts.specs.declared.Counts.{Counts}
use Rattle.counts.specs.Counting.{tally, CountsShape}
use Rattle.counts.proofs.ByValue.{shape-goes, shape-stops, shape-more}
use Rattle.shapes.specs.declared.Pen.{Pen}
use Rattle.shapes.specs.declared.Ink.{Ink}
use Rattle.shapes.specs.Painting.{going_by, until, inked, Reached, Answered, Painted}
use Rattle.shapes.proofs.Painting.{refusal}

module _ {words : List ℤ} {letter end : ℕ} (h : ShapedAt words letter end) (chain : Chain) (ts : List (Turn ℤ)) (net : Net) (carries : Carries ts net) (p : ℕ) (layer : ℕ) where
  abbrev k : Shape ℤ
  k = h.shape

  abbrev refusing : Rule → Refusal
  refusing rule = refuse rule p

  abbrev event : Event
  event = drawn_shape chain ts p (name_of layer) k

  abbrev shown : Drawn
  shown = record { place = p; chain = chain; net = ts; layer_of = name_of layer; itself = moved ts k }

  module _ {numbers : List ℤ} {far : Beyond} {numbers' : List ℤ} (m : MovesShape net k numbers far numbers') where
    judges : Judges (moved ts k).points far
    judges = subst (λ (x : Shape ℤ). Judges x.points far) (placed-moved ts net carries k) m.test

    is_far_x : far.x ≡ true → event ≡ refused (refusing XOutOfRange) chain
    unfolding drawn_shape
    is_far_x x = rw (sym judges.xs ∙ x)

    is_far_y : far.x ≡ false → far.y ≡ true → event ≡ refused (refusing YOutOfRange) chain
    unfolding drawn_shape
    is_far_y x y = rw (sym judges.xs ∙ x, sym judges.ys ∙ y)

    is_near : far.x ≡ false → far.y ≡ false → event ≡ drew shown
    unfolding drawn_shape
    is_near x y = rw (sym judges.xs ∙ x, sym judges.ys ∙ y)

    module _ (ink : Ink) (room : List ℕ) where
      shape-refused : (e : Event) (rule : Rule) → event ≡ e → counted (tally ink.counts) e ≡ stopped (refusing rule) chain → Painted ink (event ∷ []) room chain (Err (refusing rule)) room
      shape-refused e rule is h = subst (λ (x : Event). Painted ink (x ∷ []) room chain (Err (refusing rule)) room) (sym is) (refusal ink e [] room (refusing rule) chain h)

      pub shape_far_x : far.x ≡ true → Painted ink (event ∷ []) room chain (Err (refusing XOutOfRange)) room
      shape_far_x x = shape-refused (refused (refusing XOutOfRange) chain) XOutOfRange (is_far_x x) (unfold counted in refl)

      pub shape_far_y : far.x ≡ false → far.y ≡ true → Painted ink (event ∷ []) room chain (Err (refusing YOutOfRange)) room
      shape_far_y x y = shape-refused (refused (refusing YOutOfRange) chain) YOutOfRange (is_far_y x y) (unfold counted in refl)

      pub shape-many : far.x ≡ false → far.y ≡ false → {a : Result Counts Rule} → CountsShape ink.counts a → (rule : Rule) → a ≡ Err rule
          → Painted ink (event ∷ []) room chain (Err (refusing rule)) room
      shape-many x y count rule q = shape-refused (drew shown) rule (is_near x y) (shape-stops ink.counts count rule q shown)

    -- the numbers that are written
    pub part_is : end ≤ length numbers → take (end - 2) (drop 2 numbers') ≡ numbers_of_shape (moved ts k)
    part_is l = part_placed h net m l ∙ ap (λ (x : Shape ℤ). numbers_of_shape x) (placed-moved ts net carries k)

    module _ (ink : Ink) (near-x : far.x ≡ false) (near-y : far.y ≡ false) {a : Result Counts Rule} (count : CountsShape ink.counts a) (more : Counts) (q : a ≡ Ok more) (reach : Reached ink)
        {room₀ room₁ room₂ : List ℕ} {next last : ℕ} {ns : List ℤ}
        (are : ns ≡ numbers_of_shape (moved ts k)) (w₁ : Writes room₀ room₁ ink.pen.at next (layer_line (name_of ink.pen.layer) (name_of layer)))
        (w₂ : Writes room₁ room₂ next last (line letter (spaced ns))) (short : last ≤ next + 21 * length ns + 3) (size : length ns ≤ most_values) where
      abbrev pen' : Pen
      pen' = record { at = last; layer = layer }

      handed : Handed shown layer letter ns
      unfolding moved
      handed = record { layer_is = refl; letter_is = h.shaped.letter_is; numbers_are = are }

      both-written : Writes room₀ room₂ ink.pen.at last (said (name_of ink.pen.layer) shown)
      both-written = shape-said ink.pen.layer handed w₁ w₂

      reached : Reached (inked more pen')
      reached =
          let n = layer-line-length ink.pen.layer layer in
          let (few, is) = shape-more ink.counts count more q in
          subst (λ (x : Counts). Reached (inked x pen')) (sym is)
          record {
            calls_most = reach.calls_most;
            shapes_most = omega (arith, few);
            place_most = omega (arith, w₁.ends, n, short, size, reach.place_most);
          }

      said_so : lines (name_of ink.pen.layer) (shown ∷ []) ≡ said (name_of ink.pen.layer) shown
      unfolding lines
      said_so = append-nil (said (name_of ink.pen.layer) shown)

      drew-painted : Painted ink (drew shown ∷ []) room₀ chain (Ok (inked more pen')) room₂
      unfolding Answered ending go_on shapes_of until going_by lines
      drew-painted = record {
        answer = record {
          ends = rw (shape-goes ink.counts count more q shown);
          next = both-written.ends ∙ ap (λ (l : List ℕ). ink.pen.at + length l) (sym said_so);
          on = λ ds. ap (λ (l : List ℕ). l ++ lines (name_of layer) ds) (sym said_so);
          reached = reached;
        };
        laid = both-written.laid ∙ (ap (sets room₀ ink.pen.at) (sym said_so) ∙ rw (shape-goes ink.counts count more q shown));
      }

      pub shape-near : Painted ink (event ∷ []) room₀ chain (Ok (inked more pen')) room₂
      shape-near = subst (λ (x : Event). Painted ink (x ∷ []) room₀ chain (Ok (inked more pen')) room₂) (sym (is_near near-x near-y)) drew-painted
