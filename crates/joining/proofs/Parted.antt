-- Two accepted texts, each parted at its E, and what comes of the letters that they make together: they are marked, they break no rule, and their drawing is that of the
-- first, the removal, and that of the second. Joining states what follows for the texts.
-- Assumes nothing.
use mathlib.Core.Path.{◌≡◌, refl, sym, ap, ap₂, ◌∙◌, subst}
use mathlib.Core.Bool.{true}
use mathlib.Core.List.{List, [], ◌∷◌, ◌++◌, map}
use mathlib.Core.Option.{Option, none}
use Prim.Native.Nat.{ℕ, suc, ◌+◌, ◌≤◌, max}
use native.Mathlib.Omega.{arith}
use lib.ListN.{length}
use Rattle.grammar.specs.Notation.{Letter, head, 'E'}
use Rattle.grammar.specs.Viable.{bytes, Marked}
use Rattle.definition.specs.declared.Refusal.{Refusal}
use Rattle.definition.specs.Words.{Placed, at, first, none?}
use Rattle.definition.specs.Commands.{Command, ◌is◌, commands}
use Rattle.definition.specs.Standing.{outside}
use Rattle.definition.specs.Faults.{all_faults, first_fault}
use Rattle.definition.specs.Rounded.{rounded}
use Rattle.definition.specs.Drawing.{Drawn, Event, removed}
use Rattle.definition.specs.Counts.{Counts, counts, finished, counted, go_on, ending, shapes_of}
use Rattle.definition.specs.Held.{words_after, words_needed}
use Rattle.definition.specs.Answer.{accepted, drawing_of, Answers}
use Rattle.laws.proofs.Lists.Range.{All}
use Rattle.laws.proofs.Lists.Joined.{shapes_of-++}
use Rattle.laws.proofs.Story.Held.{needed-++, held-finished}
use Rattle.laws.proofs.Commands.Ordered.{two_bits}
use Rattle.laws.proofs.Rules.FaultRules.{no_first-fault}
use Rattle.laws.proofs.Rules.Outcomes.{Accepting, acceptance}
use Rattle.joining.specs.Joined.{before_e, joined}
use Rattle.joining.proofs.Relocated.{relocate_drawn, relocate_event, relocate_end, ending_relocated, shapes_relocated, needed_relocated}
use Rattle.joining.proofs.Seams.{NotE, Ending, ending_of, faults-before_end}
use Rattle.joining.proofs.Appended.{removal, before_is, marked_appended, faults_appended, drawing_appended, left_by_first, rounded_appended}

-- ---- an accepted text, cut at its E

pub record Parted (t : List ℕ) (words : ℕ) (cs : List (Placed Command)) (c : Counts) (es : List Event) : Type 0 where
  pub before : List Letter
  pub last : Letter
  pub blanks : List Letter
  pub marked : Marked t (before ++ last ∷ blanks)
  pub role : last.role ≡ head
  pub byte : (last is 'E') ≡ true
  pub no_letter_E : All NotE blanks
  pub are_commands : cs ≡ commands 0 (before ++ last ∷ blanks)
  pub is_drawing : es ≡ drawing_of (commands 0 (before ++ last ∷ blanks))
  pub faultless : all_faults (outside []) (commands 0 (before ++ last ∷ blanks)) ≡ []
  pub finishes : ending (counts 0 0 0) es ≡ finished c
  pub needs : words_needed es ≤ words

none_first : (rs : List Refusal) → first rs ≡ none → rs ≡ []
unfolding first
none_first [] e = refl
none_first (r ∷ rs) e = absurd (two_bits (ap (λ (o : Option Refusal). none? o) e) refl)

pub parted : {t : List ℕ} {words room : ℕ} {cs : List (Placed Command)} {c : Counts} {es : List Event} → Answers t words room (accepted cs c es) → Parted t words cs c es
unfolding first_fault
parted {t} {words} {room} {cs} {c} {es} a = record {
  before = x.before;
  last = x.last;
  blanks = x.blanks;
  marked = subst (Marked t) x.splits y.passed.marked;
  role = x.role;
  byte = x.byte;
  no_letter_E = x.no_letter_E;
  are_commands = y.are_commands ∙ ap (commands 0) x.splits;
  is_drawing = drawing;
  faultless =
      ap (λ (m : List Letter). all_faults (outside []) (commands 0 m)) (sym x.splits)
      ∙ none_first (all_faults (outside []) (commands 0 y.roles)) ((no_first-fault y.passed.marked).1 y.passed.unbroken);
  finishes = ap (ending (counts 0 0 0)) y.is_drawing ∙ held.0;
  needs = subst (λ (z : List Event). words_needed z ≤ words) (sym y.is_drawing) held.1;
}
  where
    y : Accepting t words room cs c es
    y = acceptance.0 a

    x : Ending y.roles
    x = ending_of y.passed.marked.rule

    drawing : es ≡ drawing_of (commands 0 (x.before ++ x.last ∷ x.blanks))
    drawing = y.is_drawing ∙ ap (λ (m : List Letter). drawing_of (commands 0 m)) x.splits

    held : (ending (counts 0 0 0) (drawing_of (commands 0 y.roles)) ≡ finished c) × (words_needed (drawing_of (commands 0 y.roles)) ≤ words)
    held = (held-finished words (counts 0 0 0) (drawing_of (commands 0 y.roles)) c).0 y.finishes

bytes-length : (m : List Letter) → length (bytes m) ≡ length m
bytes-length [] = refl
bytes-length (l ∷ m) = ap (λ (n : ℕ). suc n) (bytes-length m)

-- ---- two of them

module _ {t₁ t₂ : List ℕ} {words₁ words₂ : ℕ} {cs₁ cs₂ : List (Placed Command)} {c₁ c₂ : Counts} {es₁ es₂ : List Event}
    (p : Parted t₁ words₁ cs₁ c₁ es₁) (q : Parted t₂ words₂ cs₂ c₂ es₂) where
  abbrev theirs : List Letter  -- the second's letters
  theirs = q.before ++ q.last ∷ q.blanks

  abbrev pub letters : List Letter
  letters = p.before ++ (removal ++ theirs)

  pub marked-both : Marked (joined t₁ t₂) letters
  marked-both = marked_appended p.before p.last p.blanks p.marked p.role p.byte p.no_letter_E q.marked

  pub none_broken : first_fault (commands 0 letters) ≡ none
  unfolding first_fault first
  none_broken =
      ap first
      (faults_appended p.before p.last p.blanks p.marked p.role p.byte p.no_letter_E theirs q.faultless
      (sym (faults-before_end p.before p.last p.blanks p.marked p.role p.byte 0 (outside [])) ∙ p.faultless))

  pub rounded-both : rounded (commands 0 letters) ≡ rounded cs₁ + rounded cs₂
  rounded-both =
      rounded_appended p.before p.last p.blanks p.marked p.role p.byte p.no_letter_E theirs
      ∙ ap₂ {C = ℕ} (λ (x y : List (Placed Command)). rounded x + rounded y) (sym p.are_commands) (sym q.are_commands)

  -- what the second does, from its first byte on
  abbrev pub start : ℕ
  start = length p.before + 4

  abbrev pub afterwards : List Event
  afterwards =
      removed (at (length p.before) 0) (left_by_first p.before p.last p.blanks p.marked p.role p.byte p.no_letter_E theirs q.faultless)
      ∷ map (relocate_event (λ n. start + n)) es₂

  pub drawing_both : drawing_of (commands 0 letters) ≡ es₁ ++ afterwards
  drawing_both =
      drawing_appended p.before p.last p.blanks p.marked p.role p.byte p.no_letter_E theirs q.faultless
      ∙ ap₂ {C = List Event}
      (λ (x y : List Event). x ++ (removed (at (length p.before) 0) (left_by_first p.before p.last p.blanks p.marked p.role p.byte p.no_letter_E theirs q.faultless) ∷ map (relocate_event (λ n. start + n)) y))
      (sym p.is_drawing) (sym q.is_drawing)

  pub start_is : start ≡ length (before_e t₁) + 4
  start_is =
      let same = before_is p.before p.last p.blanks p.marked p.role p.byte p.no_letter_E in
      ap (λ (n : ℕ). n + 4) (sym (bytes-length p.before) ∙ ap length (sym same))

  -- it finishes with the second's counts, draws the second's shapes and needs the second's words
  pub afterwards_finishes : ending (counts 0 0 0) afterwards ≡ finished c₂
  unfolding ending counted go_on relocate_end
  afterwards_finishes = ending_relocated (λ n. start + n) (counts 0 0 0) es₂ ∙ ap (relocate_end (λ n. start + n)) q.finishes

  pub shapes-both : shapes_of (es₁ ++ afterwards) ≡ shapes_of es₁ ++ map (relocate_drawn (λ n. start + n)) (shapes_of es₂)
  unfolding shapes_of
  shapes-both = shapes_of-++ es₁ afterwards ∙ ap (λ (x : List Drawn). shapes_of es₁ ++ x) (shapes_relocated (λ n. start + n) es₂)

  pub words_both : words_needed (es₁ ++ afterwards) ≡ max (words_needed es₁) (words_needed es₂)
  unfolding words_needed words_after
  words_both = omega (arith, needed-++ es₁ afterwards, needed_relocated (λ n. start + n) es₂)
