-- Two accepted texts, each parted at its E, together: their joined text is accepted within the limits, and only then. Joining states it for the texts.
-- Assumes nothing.
use mathlib.Core.Path.{◌≡◌, refl, sym, ap, ◌∙◌, subst}
use mathlib.Core.List.{List, [], ◌∷◌, ◌++◌, map, map-map, map-append}
use Prim.Native.Nat.{ℕ, ◌≤◌}
use native.Mathlib.Omega.{arith}
use lib.IntN.{ℤ}
use lib.ListN.{length}
use Rattle.grammar.specs.Notation.{Letter}
use Rattle.grammar.proofs.Markings.{one_marking}
use Rattle.definition.specs.Limits.{most_bytes}
use Rattle.definition.specs.Words.{Placed}
use Rattle.definition.specs.Commands.{Command, Shape, commands}
use Rattle.definition.specs.Drawing.{Event}
use Rattle.definition.specs.Counts.{Counts, counts, finished, ending, shapes_of}
use Rattle.definition.specs.Flat.{flat}
use Rattle.definition.specs.Held.{words_needed}
use Rattle.definition.specs.Answer.{drawing_of}
use Rattle.laws.proofs.FlatFile.Reread.{plain, flat-plain}
use Rattle.laws.proofs.Story.Held.{held-finished}
use Rattle.laws.proofs.Commands.WordsWithin.{words_within}
use Rattle.laws.proofs.Rules.FaultRules.{no_first-fault}
use Rattle.laws.proofs.Rules.Outcomes.{Accepting, acceptance, end_of, flat_length}
use Rattle.joining.specs.Joined.{joined, second_start, further_on, added, WithinLimits, Enough, as_for_each, as_long, Joins}
use Rattle.joining.proofs.Sums.{finishes_both, limits_of_both}
use Rattle.joining.proofs.Parted.{Parted, letters, marked-both, none_broken, rounded-both, afterwards, drawing_both, start_is, afterwards_finishes, shapes-both, words_both}

module _ {first second : List ℕ} {words₁ words₂ : ℕ} {cs₁ cs₂ : List (Placed Command)} {c₁ c₂ : Counts} {es₁ es₂ : List Event}
    (p : Parted first words₁ cs₁ c₁ es₁) (q : Parted second words₂ cs₂ c₂ es₂) where
  abbrev pub drawing : List Event
  drawing = drawing_of (commands 0 (letters p q))

  draws-both : shapes_of drawing ≡ shapes_of es₁ ++ map (further_on (second_start first)) (shapes_of es₂)
  draws-both =
      ap shapes_of (drawing_both p q)
      ∙ (shapes-both p q ∙ ap (λ (n : ℕ). shapes_of es₁ ++ map (further_on n) (shapes_of es₂)) (start_is p q))

  plain-both : map plain (shapes_of drawing) ≡ map plain (shapes_of es₁ ++ shapes_of es₂)
  plain-both =
      ap (map plain) draws-both
      ∙ (map-append plain (shapes_of es₁) (map (further_on (second_start first)) (shapes_of es₂))
      ∙ (ap (λ (x : List (List ℕ × Shape ℤ)). map plain (shapes_of es₁) ++ x) (map-map plain (further_on (second_start first)) (shapes_of es₂))
      ∙ sym (map-append plain (shapes_of es₁) (shapes_of es₂))))

  flat-both : flat (shapes_of drawing) ≡ flat (shapes_of es₁ ++ shapes_of es₂)
  unfolding flat
  flat-both = ap (λ (x : List ℕ). x ++ (69 ∷ 10 ∷ [])) (flat-plain [] (shapes_of drawing) (shapes_of es₁ ++ shapes_of es₂) plain-both)

  needs-both : (words : ℕ) → words_needed es₁ ≤ words → words_needed es₂ ≤ words → words_needed drawing ≤ words
  needs-both words g h = omega (arith, ap words_needed (drawing_both p q), words_both p q)

  pub accepted-both : (words room : ℕ) → WithinLimits first second c₁ c₂ (shapes_of es₁) (shapes_of es₂) → words_needed es₁ ≤ words → words_needed es₂ ≤ words
      → length (flat (shapes_of es₁ ++ shapes_of es₂)) ≤ room → Accepting (joined first second) words room (commands 0 (letters p q)) (added c₁ c₂) drawing
  accepted-both words room w g h fits = record {
    roles = letters p q;
    passed = record { within = w.text_length; marked = marked-both p q; unbroken = (no_first-fault (marked-both p q)).0 (none_broken p q) };
    are_commands = refl;
    is_drawing = refl;
    finishes =
        (held-finished words (counts 0 0 0) drawing (added c₁ c₂)).1
        (ap (ending (counts 0 0 0)) (drawing_both p q) ∙ finishes_both es₁ (afterwards p q) c₁ c₂ p.finishes (afterwards_finishes p q) w.calls w.shapes, needs-both words g h);
    room_fits = subst (λ (x : List ℕ). length x ≤ room) (sym flat-both) fits;
    limit_fits = subst (λ (x : List ℕ). length x ≤ most_bytes) (sym flat-both) w.flat_length_lem;
  }

  pub joins_so : (words room : ℕ) → Accepting (joined first second) words room (commands 0 (letters p q)) (added c₁ c₂) drawing → Joins first second words room cs₁ cs₂ c₁ c₂ es₁ es₂
  joins_so words room a = record {
    its_commands = commands 0 (letters p q);
    its_events = drawing;
    answers = acceptance.1 a;
    draws = draws-both;
    same_shapes = plain-both;
    flat_file_lem = flat-both;
    rounds = rounded-both p q;
  }

  -- a text has one marking, so nothing else can come of the joined one
  pub only_so : {words room : ℕ} {cs : List (Placed Command)} {c : Counts} {es : List Event} → Accepting (joined first second) words room cs c es
      → WithinLimits first second c₁ c₂ (shapes_of es₁) (shapes_of es₂) × (words_needed es₁ ≤ words) × (words_needed es₂ ≤ words) × (length (flat (shapes_of es₁ ++ shapes_of es₂)) ≤ room)
  only_so {words} {room} {cs} {c} {es} a =
      let same : a.roles ≡ letters p q = one_marking a.passed.marked (marked-both p q) in
      let held = (held-finished words (counts 0 0 0) drawing c).0 (subst (λ (x : List Letter). end_of words x ≡ finished c) same a.finishes) in
      let ends : ending (counts 0 0 0) (es₁ ++ afterwards p q) ≡ finished c = ap (ending (counts 0 0 0)) (sym (drawing_both p q)) ∙ held.0 in
      let few = limits_of_both es₁ (afterwards p q) c₁ c₂ p.finishes (afterwards_finishes p q) ends in
      let flat-is : flat_length a.roles ≡ length (flat (shapes_of es₁ ++ shapes_of es₂)) = ap flat_length same ∙ ap length flat-both in
      let needs = ap words_needed (drawing_both p q) ∙ words_both p q in (
        record { calls = few.1; shapes = few.2; text_length = a.passed.within; flat_length_lem = subst (λ (n : ℕ). n ≤ most_bytes) flat-is a.limit_fits },
        omega (arith, needs, held.1),
        omega (arith, needs, held.1),
        subst (λ (n : ℕ). n ≤ room) flat-is a.room_fits,
      )

  -- as many words as each of the two was lent, or as many as the joined text has bytes, are as many as each needs
  pub enough_for_both : {words : ℕ} → Enough first second words₁ words₂ words → (words_needed es₁ ≤ words) × (words_needed es₂ ≤ words)
  enough_for_both (as_for_each g h) = (omega (arith, p.needs, g), omega (arith, q.needs, h))
  enough_for_both (as_long g) =
      let within = words_within (marked-both p q) in
      let needs = ap words_needed (drawing_both p q) ∙ words_both p q in
      (omega (arith, within, needs, g), omega (arith, within, needs, g))
