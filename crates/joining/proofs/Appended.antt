-- The letters of a joined text: those of the first before its E, those of `DD0;`, and those of the second. What its commands are, that they break no rule, and what it draws:
-- all that the first draws, then the removal of every definition, then all that the second draws, with its places moved on.
-- Assumes nothing.
use mathlib.Core.Path.{◌≡◌, refl, sym, ap, ap₂, ◌∙◌, subst}
use mathlib.Core.Bool.{Bool, true, false, ◌||◌}
use mathlib.Core.List.{List, [], ◌∷◌, ◌++◌, map, flat_map}
use Prim.Native.Nat.{ℕ, ◌+◌}
use native.Mathlib.Omega.{arith}
use borrow.Author.Tests.{le-ltb, eqb-true}
use lib.Dec.{eqb}
use lib.IntN.{pos}
use lib.ListN.{length}
use Rattle.grammar.specs.Notation.{Letter, Match, dec, has, head, second, lead, stop, 'E'}
use Rattle.grammar.specs.Notation.{is as matches}
use Rattle.grammar.specs.Notation.{char, both, left, right, none, more, present}
use Rattle.grammar.specs.Tables.{letter}
use Rattle.grammar.specs.Viable.{bytes, Marked, Grammatical}
use Rattle.definition.specs.declared.Refusal.{Refusal}
use Rattle.definition.specs.Words.{Placed, at, any, those, bytes_of}
use Rattle.definition.specs.Commands.{Command, delete, nothing, ◌is◌, worth, numbers, next, command_at, commands}
use Rattle.definition.specs.Standing.{Standing, outside, after}
use Rattle.definition.specs.Faults.{beyond, parts_of, distances, numbers_of, at_numbers, zero_scale, degenerate, layerless, has_too_many, faults, all_faults}
use Rattle.definition.specs.Rounded.{ragged, rounded_from, rounded}
use Rattle.definition.specs.Table.{Table, forget}
use Rattle.definition.specs.Drawing.{Deed, remove, deed_of, deeds, Event, removed, happens, table_after, story}
use Rattle.definition.specs.Answer.{drawing_of}
use Rattle.laws.proofs.FlatFile.Again.{bytes-++}
use Rattle.laws.proofs.Lists.Range.{All}
use Rattle.laws.proofs.Lists.Joined.{standing, table_then, all_faults-++, deeds-++, story-++}
use Rattle.laws.proofs.Commands.Ordered.{standing-inside}
use Rattle.joining.specs.Joined.{before_e, joined}
use Rattle.joining.proofs.Places.{shifted, shift_refusal, commands_shift, all_faults_shift, rounded_shift}
use Rattle.joining.proofs.Relocated.{relocate_deed, relocate_event, deeds_shift, story_relocated}
use Rattle.joining.proofs.Seams.{items, NotE, ending_of, before_end, file_joined, commands_seam, commands-before_end, outside-before_end, standing-before_end, deeds-before_end}
use Rattle.joining.proofs.Layers.{layer-stands, faultless_under, deeds_under, rounded_under}
use Rattle.joining.proofs.Sums.{rounded-++}

-- ---- DD0;

abbrev pub removal : List Letter
removal = letter 68 head ∷ letter 68 second ∷ letter 48 lead ∷ letter 59 stop ∷ []

pub removal_items : Match items removal
unfolding matches dec has
removal_items =
    more removal [] (both [] removal none (both deletion semicolon (present (right (left deleted))) ended refl) refl) none refl
  where
    deletion : List Letter
    deletion = letter 68 head ∷ letter 68 second ∷ letter 48 lead ∷ []

    semicolon : List Letter
    semicolon = letter 59 stop ∷ []

    number : List Letter
    number = letter 48 lead ∷ []

    deleted : Match Rattle.grammar.specs.Productions.def_delete_command deletion
    deleted =
        both (letter 68 head ∷ []) (letter 68 second ∷ number) (char tt)
        (both [] (letter 68 second ∷ number) none (both (letter 68 second ∷ []) number (char tt) (both [] number none (both number [] (char tt) none refl) refl) refl) refl) refl

    ended : Match Rattle.grammar.specs.Productions.semi semicolon
    ended = both [] semicolon none (both semicolon [] (char tt) none refl) refl

abbrev deletion : ℕ → Placed Command  -- the command that it is, from place n on
deletion n = at n (delete (at (n + 1 + 1) (pos 0)))

removal_commands : (n : ℕ) → commands n removal ≡ deletion n ∷ []
unfolding commands command_at numbers worth next dec has
removal_commands n = refl

removal_faults : (s : Standing) (n : ℕ) → faults s (deletion n) ≡ []
unfolding faults at_numbers those numbers_of distances parts_of flat_map zero_scale degenerate layerless has_too_many any beyond
removal_faults s n = refl

none_rounded : (s : Standing) (n : ℕ) → length (ragged s (deletion n).what) ≡ 0
unfolding ragged distances parts_of flat_map those
none_rounded s n = refl

-- it leaves no definition
none_left : (t : Table) → forget 0 t ≡ []
unfolding forget those
none_left [] = refl
none_left (d ∷ t) = rw (le-ltb d.symbol 0 (omega arith)) (none_left t)

-- ---- the bytes before the E

any_E : (u : List ℕ) (w : List ℕ) → any (λ (c : ℕ). eqb c 69) (u ++ 69 ∷ w) ≡ true
unfolding any
any_E [] w = refl
any_E (b ∷ u) w = rw (any_E u w) (go (eqb b 69))
  where
    go : (x : Bool) → (x || true) ≡ true
    go true = refl
    go false = refl

no_E : (w : List Letter) → All NotE w → any (λ (c : ℕ). eqb c 69) (bytes w) ≡ false
unfolding any All has
no_E [] h = refl
no_E (l ∷ w) h = rw h.0 (no_E w h.1)

cut_at_E : (u : List ℕ) (w : List Letter) → All NotE w → before_e (u ++ 69 ∷ bytes w) ≡ u
unfolding before_e
cut_at_E [] w h = rw (no_E w h)
cut_at_E (b ∷ u) w h = rw (any_E u (bytes w)) (ap (λ (x : List ℕ). b ∷ x) (cut_at_E u w h))

-- ---- the joined text

module _ {t : List ℕ} (u : List Letter) (l : Letter) (w : List Letter) (k : Marked t (u ++ l ∷ w)) (r : l.role ≡ head) (b : (l is 'E') ≡ true) (blank : All NotE w) where
  pub before_is : before_e t ≡ bytes u
  unfolding has
  before_is =
      ap before_e (sym k.reads ∙ (bytes-++ u (l ∷ w) ∙ ap (λ (x : ℕ). bytes u ++ x ∷ bytes w) (eqb-true l.byte 69 b)))
      ∙ cut_at_E (bytes u) w blank

  abbrev pub start : ℕ  -- where the second begins
  start = length u + 4

  pub marked_appended : {t₂ : List ℕ} {m : List Letter} → Marked t₂ m → Marked (joined t t₂) (u ++ (removal ++ m))
  unfolding joined bytes_of
  marked_appended {t₂} {m} n = record {
    reads = bytes-++ u (removal ++ m) ∙ ap₂ {C = List ℕ} (λ (x y : List ℕ). x ++ (68 ∷ 68 ∷ 48 ∷ 59 ∷ y)) (sym before_is) n.reads;
    rule = file_joined (before_end u l w k r b) (file_joined removal_items n.rule);
  }

  module _ (m : List Letter) where
    abbrev own : List (Placed Command)
    own = commands 0 u

    abbrev theirs : List (Placed Command)
    theirs = commands 0 m

    abbrev standing-layer : List ℕ  -- the layer that still stands when the second begins
    standing-layer = (standing (outside []) own).layer_set

    stands : standing (outside []) own ≡ outside standing-layer
    stands = standing-before_end u l w k r b 0 []

    pub commands_appended : commands 0 (u ++ (removal ++ m)) ≡ own ++ (deletion (length u) ∷ map (shifted start) theirs)
    commands_appended =
        commands_seam 0 (removal ++ m) (before_end u l w k r b)
        ∙ ap (λ (x : List (Placed Command)). own ++ x)
        (ap (λ (p : ℕ). commands p (removal ++ m)) (omega arith)
        ∙ (commands_seam (length u) m removal_items
        ∙ ap₂ {C = List (Placed Command)} (λ (x y : List (Placed Command)). x ++ y) (removal_commands (length u))
        (ap (λ (p : ℕ). commands p m) (omega arith) ∙ commands_shift start 0 m)))

    module _ (faultless : all_faults (outside []) theirs ≡ []) where
      pub faults_appended : all_faults (outside []) own ≡ [] → all_faults (outside []) (commands 0 (u ++ (removal ++ m))) ≡ []
      unfolding all_faults after
      faults_appended e =
          ap (all_faults (outside [])) commands_appended
          ∙ (all_faults-++ (outside []) own (deletion (length u) ∷ map (shifted start) theirs)
          ∙ ap₂ {C = List Refusal} (λ (x : List Refusal) (s : Standing). x ++ (faults s (deletion (length u)) ++ all_faults s (map (shifted start) theirs))) e stands
          ∙ ap₂ {C = List Refusal} (λ (x y : List Refusal). x ++ y) (removal_faults (outside standing-layer) (length u))
          (all_faults_shift start (outside standing-layer) theirs ∙ ap (map (shift_refusal start)) (faultless_under (layer-stands standing-layer) theirs faultless)))

      deeds_appended : deeds (outside []) (commands 0 (u ++ (removal ++ m)))
          ≡ deeds (outside []) own ++ (remove (at (length u) 0) ∷ map (relocate_deed (λ p. start + p)) (deeds (outside []) theirs))
      unfolding deeds deed_of after
      deeds_appended =
          ap (deeds (outside [])) commands_appended
          ∙ (deeds-++ (outside []) own (deletion (length u) ∷ map (shifted start) theirs) (standing-inside (outside []) own ∙ outside-before_end u l w k r b 0)
          ∙ ap (λ (x : List Deed). deeds (outside []) own ++ (remove (at (length u) 0) ∷ x))
          (ap (λ (s : Standing). deeds s (map (shifted start) theirs)) stands
          ∙ (deeds_shift start (outside standing-layer) theirs
          ∙ ap (map (relocate_deed (λ p. start + p))) (sym (deeds_under (layer-stands standing-layer) theirs faultless)))))

      abbrev pub left_by_first : Table  -- the definitions that the first leaves
      left_by_first = table_then [] (deeds (outside []) own)

      pub drawing_appended : drawing_of (commands 0 (u ++ (removal ++ m)))
          ≡ drawing_of (commands 0 (u ++ l ∷ w)) ++ (removed (at (length u) 0) left_by_first ∷ map (relocate_event (λ p. start + p)) (drawing_of theirs))
      unfolding story happens table_after
      drawing_appended =
          ap (story []) deeds_appended
          ∙ (story-++ [] (deeds (outside []) own) (remove (at (length u) 0) ∷ map (relocate_deed (λ p. start + p)) (deeds (outside []) theirs))
          ∙ ap₂ {C = List Event} (λ (x : List Event) (y : Table). x ++ (removed (at (length u) 0) left_by_first ∷ story y (map (relocate_deed (λ p. start + p)) (deeds (outside []) theirs))))
          (ap (story []) (sym (deeds-before_end u l w k r b 0 []))) (none_left left_by_first)
          ∙ ap (λ (x : List Event). drawing_of (commands 0 (u ++ l ∷ w)) ++ (removed (at (length u) 0) left_by_first ∷ x)) (story_relocated (λ p. start + p) [] (deeds (outside []) theirs)))

    rounded-first : rounded (commands 0 (u ++ l ∷ w)) ≡ rounded_from (outside []) own
    unfolding rounded rounded_from ragged distances parts_of flat_map those
    rounded-first =
        ap (rounded_from (outside [])) (commands-before_end u l w k r b 0)
        ∙ (rounded-++ (outside []) own (at (0 + length u) nothing ∷ []) ∙ omega arith)

    pub rounded_appended : rounded (commands 0 (u ++ (removal ++ m))) ≡ rounded (commands 0 (u ++ l ∷ w)) + rounded theirs
    unfolding rounded rounded_from after
    rounded_appended =
        ap (rounded_from (outside [])) commands_appended
        ∙ (rounded-++ (outside []) own (deletion (length u) ∷ map (shifted start) theirs)
        ∙ ap₂ {C = ℕ} (λ (x y : ℕ). x + y) (sym rounded-first)
        (ap₂ {C = ℕ} (λ (x y : ℕ). x + y) (none_rounded (standing (outside []) own) (length u))
        (ap (λ (s : Standing). rounded_from s (map (shifted start) theirs)) stands
        ∙ (rounded_shift start (outside standing-layer) theirs ∙ sym (rounded_under (layer-stands standing-layer) theirs)))
        ∙ omega arith))

-- the bytes before the last letter E are those before the text's End command
pub cut_is : {t : List ℕ} {m : List Letter} (k : Marked t m) → before_e t ≡ bytes (ending_of k.rule).before
cut_is {t} k =
    let x = ending_of k.rule in
    before_is x.before x.last x.blanks (subst (Marked t) x.splits k) x.role x.byte x.no_letter_E

-- two texts of the grammar joined are one, so a third can follow
pub joined_in_grammar : {t t₂ : List ℕ} → Grammatical t → Grammatical t₂ → Grammatical (joined t t₂)
joined_in_grammar {t} (m, k) (n, h) =
    let x = ending_of k.rule in
    (x.before ++ (removal ++ n), marked_appended x.before x.last x.blanks (subst (Marked t) x.splits k) x.role x.byte x.no_letter_E h)
