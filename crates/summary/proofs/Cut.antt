-- No text needs more words than it has bytes, so a run may be cut to the most words that any text needs: keeping the table ends the same.
-- Assumes nothing.
use Rattle.std.specs.Prelude.{if◌then◌else◌}
use mathlib.Core.Path.{◌≡◌, refl, sym, ap, ◌∙◌}
use mathlib.Core.Bool.{Bool, true, false}
use mathlib.Core.List.{List, [], ◌∷◌, ◌++◌, map}
use Prim.Native.Nat.{ℕ, ◌-◌, ◌≤◌}
use native.Mathlib.Omega.{arith}
use borrow.Author.Tests.{ltb-false}
use lib.Dec.{ltb}
use lib.ListN.{length}
use Rattle.definition.specs.declared.Summary.{Summary}
use Rattle.definition.specs.Words.{those}
use Rattle.definition.specs.Commands.{commands}
use Rattle.definition.specs.Standing.{outside}
use Rattle.definition.specs.Table.{Table, enter, forget}
use Rattle.definition.specs.Drawing.{Deed, output, define, remove, deeds, happens, table_after, story}
use Rattle.definition.specs.Counts.{End, counts, ending}
use Rattle.definition.specs.Held.{held_to}
use Rattle.definition.specs.Summary.{kept?, table_deeds, layer_names, summary_in}
use Rattle.laws.proofs.Lists.Range.{All, all-++}
use Rattle.laws.proofs.Story.WordsHeld.{Holds, held_all}
use Rattle.laws.proofs.Commands.WordsWithin.{text-holds}
use Rattle.keeping.specs.Keeping.{most_words}
use Rattle.passing.specs.Passed.{Passed, lent_of}
use Rattle.summary.specs.Summed.{kept_of, end_of, table_left, TellsText}

later_all : {A : Type 0} (P : A → Type 0) (a b : List A) → All P (a ++ b) → All P b
unfolding All
later_all P [] b h = h
later_all P (x ∷ a) b h = later_all P a b h.1

first_all : {A : Type 0} (P : A → Type 0) (a b : List A) → All P (a ++ b) → All P a
unfolding All
first_all P [] b h = tt
first_all P (x ∷ a) b h = (h.0, first_all P a b h.1)

-- what keeps the table happens in the story, too
kept_all : (k : ℕ) (t : Table) (ds : List Deed) → All (Holds k) (story t ds) → All (Holds k) (story t (kept_of ds))
unfolding story those kept? table_after
kept_all k t [] h = h
kept_all k t (output s ∷ ds) h = kept_all k t ds (later_all (Holds k) (happens t (output s)) (story t ds) h)
kept_all k t (define d ∷ ds) h =
    all-++ (Holds k) (happens t (define d)) (story (enter d t) (kept_of ds)) (first_all (Holds k) (happens t (define d)) (story (enter d t) ds) h)
    (kept_all k (enter d t) ds (later_all (Holds k) (happens t (define d)) (story (enter d t) ds) h))
kept_all k t (remove n ∷ ds) h =
    all-++ (Holds k) (happens t (remove n)) (story (forget n.what t) (kept_of ds)) (first_all (Holds k) (happens t (remove n)) (story (forget n.what t) ds) h)
    (kept_all k (forget n.what t) ds (later_all (Holds k) (happens t (remove n)) (story (forget n.what t) ds) h))

module _ {t : List ℕ} (p : Passed t) where
  enough : (words : ℕ) → length t ≤ words → map (held_to words) (story [] (table_deeds (commands 0 p.letters))) ≡ story [] (table_deeds (commands 0 p.letters))
  unfolding table_deeds
  enough words h =
      held_all (length t) words (story [] (kept_of (deeds (outside []) (commands 0 p.letters)))) h
      (kept_all (length t) [] (deeds (outside []) (commands 0 p.letters)) (text-holds p.marked))

  end_cut : (n : ℕ) → end_of (lent_of n) p.letters ≡ end_of n p.letters
  end_cut n = go (ltb n most_words) refl
    where
      go : (b : Bool) → ltb n most_words ≡ b → end_of (if b then n else most_words) p.letters ≡ end_of n p.letters
      go true e = refl
      go false e =
          let h = ltb-false n most_words e in
          let s = p.short in
          ap (ending (counts 0 0 0)) (enough most_words s ∙ sym (enough n (omega (arith, s, h))))

-- so many words of n, the first k, are lent
pub tells-lent : (n : ℕ) {r k : ℕ} → r ≡ lent_of n → k ≡ r - 0 → {t : List ℕ} (names : List ℕ) {count : ℕ} (symbol : ℕ) {x : Summary} → TellsText t k names count symbol x → TellsText t n names count symbol x
tells-lent n {r} {k} e q {t} names symbol h p noted =
    let same : k ≡ lent_of n = omega (arith, e, q) in
    h p noted ∙ ap (λ (x : End). summary_in t x (layer_names (commands 0 p.letters)) (table_left p.letters) symbol) (ap (λ (w : ℕ). end_of w p.letters) same ∙ end_cut p n)
