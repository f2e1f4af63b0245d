-- What the loop of `keep_text` keeps: where the pass stands (crates/passing, proofs/Stands.antt), that the column is the one made afresh from the bodies, and
-- that the table and the ending of the whole text are those of what is left.
-- Assumes nothing.
use Rattle.std.specs.Prelude.{Option, None, Result, Ok, Err}
use mathlib.Core.Path.{◌≡◌, refl, sym, ap, ap₂, ◌∙◌, subst}
use mathlib.Core.Bool.{Bool, true, false}
use mathlib.Core.List.{List, [], ◌∷◌, ◌++◌, map}
use Prim.Native.Nat.{ℕ, ◌+◌, ◌-◌, ◌^◌, ◌≤◌, ◌<◌}
use native.Mathlib.Omega.{arith}
use borrow.Author.Tests.{lt-ltb, le-ltb, eqb-true, eqb-false}
use lib.Dec.{eqb}
use lib.IntN.{ℤ, pos, nat_abs}
use lib.ListN.{length, get_or}
use Rattle.grammar.specs.Notation.{Letter}
use Rattle.grammar.proofs.Markings.{marking_is}
use Rattle.definition.specs.Limits.{most_definitions}
use Rattle.definition.specs.Words.{Placed, at, those}
use Rattle.definition.specs.declared.Rule.{Rule}
use Rattle.definition.specs.declared.Rule.TheVariants.{TooManyDefinitions, TooFewWords}
use Rattle.definition.specs.Rules.{refuse}
use Rattle.definition.specs.Commands.{Number, commands}
use Rattle.definition.specs.Standing.{outside}
use Rattle.definition.specs.Table.{Step, Definition, Table, enter, forget}
use Rattle.definition.specs.Drawing.{Deed, output, define, remove, deeds, Event, entered, refused, happens, table_after, story}
use Rattle.definition.specs.Counts.{End, finished, stopped, counted, go_on, ending}
use Rattle.definition.specs.Counts.{Counts as Tally}
use Rattle.definition.specs.Held.{words_in, held_to}
use Rattle.definition.specs.Summary.{kept?, table_then, table_deeds}
use Rattle.laws.proofs.Story.HeldStory.{held-define, held-remove, held-story}
use Rattle.pieces.specs.Pieces.{letter_s, too_large, Fit}
use Rattle.pieces.specs.Pieces.{start as text_start}
use Rattle.pieces.specs.declared.Spot.{Spot}
use Rattle.rules.specs.Letters.{letter_d, letter_l}
use Rattle.rules.specs.Written.{Written}
use Rattle.commands.specs.declared.Decoded.{Decoded}
use Rattle.commands.specs.Words.{DecodedOne, ReadsCommand}
use Rattle.counts.specs.declared.Counts.{Counts}
use Rattle.counts.specs.Counting.{tally, zero_counts}
use Rattle.moves.specs.Moves.{most_values}
use Rattle.library.specs.Memory.{row_numbers, needed_in, most}
use Rattle.library.specs.Sound.{Stocked}
use Rattle.library.specs.Rows.{Sorted}
use Rattle.library.specs.Holds.{Holds}
use Rattle.keeping.specs.Keeping.{most_words, Begins, Defines, DefinesAt}
use Rattle.keeping.specs.declared.Start.{Start}
use Rattle.keeping.specs.declared.Stock.{Stock}
use Rattle.keeping.specs.declared.Taken.{Taken}
use Rattle.passing.specs.Passed.{Passed, outputs, start_in, Deletes}
use Rattle.passing.proofs.Letters.{is_layer, is_delete}
use Rattle.passing.proofs.Reading.{Met, run_kept, read_none, third_word, none_met}
use Rattle.passing.proofs.Outer.{is_output, is_idle}
use Rattle.passing.proofs.Stands.{Stands, nothing_kept, to_do, at_start, deletable, met, deeds_are, past_layer, layer-left, past_delete, delete-left, past_other, open_there, made, define-left, past_define, start-within, may_define, comes, takes}
use Rattle.columns.specs.declared.Own.{Own}
use Rattle.columns.specs.Columns.{More, Enters, Afresh}
use Rattle.columns.specs.Columns.{Stands as StandsIn}
use Rattle.columns.proofs.Moved.{entered-more, entered-stands, afresh-entered, afresh-cut, afresh_none}
use Rattle.summary.specs.Summed.{kept_of, end_of, table_left, KeepsAll, KeepsText}

-- ---- what keeps the table

kept_none : kept_of [] ≡ []
unfolding those
kept_none = refl

kept-output : (s : Placed Step) (ds : List Deed) → kept_of (output s ∷ ds) ≡ kept_of ds
unfolding those kept?
kept-output s ds = refl

kept-remove : (n : Placed ℕ) (ds : List Deed) → kept_of (remove n ∷ ds) ≡ remove n ∷ kept_of ds
unfolding those kept?
kept-remove n ds = refl

kept-define : (d : Definition) (ds : List Deed) → kept_of (define d ∷ ds) ≡ define d ∷ kept_of ds
unfolding those kept?
kept-define d ds = refl

abbrev end_from : (words : ℕ) → Tally → Table → List Deed → End
end_from w c t ds = ending c (map (held_to w) (story t ds))

module _ (w : ℕ) (c : Tally) (t : Table) where
  end_none : end_from w c t [] ≡ finished c
  unfolding story ending
  end_none = refl

  end_remove : (n : Placed ℕ) (ds : List Deed) → end_from w c t (remove n ∷ ds) ≡ end_from w c (forget n.what t) ds
  unfolding table_after happens ending counted go_on
  end_remove n ds = ap (ending c) (held-story w t (remove n) ds ∙ ap (λ (es : List Event). es ++ map (held_to w) (story (forget n.what t) ds)) (held-remove w t n))

  module _ (d : Definition) (ds : List Deed) where
    starts_with : {e : Event} → map (held_to w) (happens t (define d)) ≡ e ∷ [] → map (held_to w) (story t (define d ∷ ds)) ≡ e ∷ map (held_to w) (story (enter d t) ds)
    unfolding table_after
    starts_with h = held-story w t (define d) ds ∙ ap (λ (es : List Event). es ++ map (held_to w) (story (enter d t) ds)) h

    end_overfull : most_definitions < length (enter d t) → end_from w c t (define d ∷ ds) ≡ stopped (refuse TooManyDefinitions d.place) []
    unfolding ending counted go_on
    end_overfull h = ap (ending c) (starts_with {e = refused (refuse TooManyDefinitions d.place) []} (held-define w t d ∙ rw (lt-ltb most_definitions (length (enter d t)) h) refl))

    module _ (few : length (enter d t) ≤ most_definitions) where
      end_short : w < words_in (enter d t) → end_from w c t (define d ∷ ds) ≡ stopped (refuse TooFewWords d.place) []
      unfolding ending counted go_on
      end_short h =
          ap (ending c) (starts_with {e = refused (refuse TooFewWords d.place) []} (held-define w t d ∙ rw (le-ltb most_definitions (length (enter d t)) few, lt-ltb w (words_in (enter d t)) h) refl))

      end_define : {c' : Tally} → words_in (enter d t) ≤ w → counted c (entered d t) ≡ finished c' → end_from w c t (define d ∷ ds) ≡ end_from w c' (enter d t) ds
      unfolding ending go_on
      end_define {c'} h e =
          ap (ending c) (starts_with {e = entered d t} (held-define w t d ∙ rw (le-ltb most_definitions (length (enter d t)) few, le-ltb w (words_in (enter d t)) h) refl))
          ∙ ap (λ (x : End). go_on x (λ c''. end_from w c'' (enter d t) ds)) e

then_none : (t : Table) → table_then t [] ≡ t
unfolding table_then
then_none t = refl

then_remove : (t : Table) (n : Placed ℕ) (ds : List Deed) → table_then t (remove n ∷ ds) ≡ table_then (forget n.what t) ds
unfolding table_then table_after
then_remove t n ds = refl

then_define : (t : Table) (d : Definition) (ds : List Deed) → table_then t (define d ∷ ds) ≡ table_then (enter d t) ds
unfolding table_then table_after
then_define t d ds = refl

-- ---- between two commands

pub record Along (t : List ℕ) (w : ℕ) (words₀ : List ℤ) (names : List ℕ) (count : ℕ) (rows : List ℕ) (b words : List ℤ) (column : List Own) (spot : Spot) (stock : Stock)
    (counts : Counts) : Type 0 where
  pub passed : Passed t
  pub stands : Stands t rows b stock spot
  pub fit : Fit t spot
  pub bodies_kept : length b ≡ w
  pub words_kept : length words ≡ length words₀
  pub few : counts.redefinitions ≤ spot.at
  pub afresh : Afresh rows b stock.live names count column
  pub table-left : table_then stands.table (kept_of (to_do stands)) ≡ table_left passed.letters
  pub end_left : end_from w (tally counts) stands.table (kept_of (to_do stands)) ≡ end_of w passed.letters

pub along_begin : {t : List ℕ} (rows : List ℕ) (b words : List ℤ) (names : List ℕ) (count : ℕ) {column : List Own} → Passed t → length rows ≡ row_numbers → length b ≤ most_words
    → length column ≡ most → {c : Counts} → c ≡ zero_counts
    → Along t (length b) words names count rows b words column text_start nothing_kept c
unfolding table_deeds
along_begin {t} rows b words names count p s h sized {c} e = record {
  passed = p;
  stands = at_start p rows b s h;
  fit = record { within = omega arith; state = omega arith };
  bodies_kept = refl;
  words_kept = refl;
  few = let z = ap (λ (x : Counts). x.redefinitions) e in omega (arith, z);
  afresh = afresh_none rows b names count sized;
  table-left = refl;
  end_left = ap (λ (x : Counts). end_from (length b) (tally x) [] (kept_of (deeds (outside []) (commands 0 p.letters)))) e;
}

module _ {t : List ℕ} {w : ℕ} {words₀ : List ℤ} {names : List ℕ} {count : ℕ} {rows : List ℕ} {b words : List ℤ} {column : List Own} {spot : Spot} {stock : Stock} {counts : Counts}
    (u : Along t w words₀ names count rows b words column spot stock counts) where
  abbrev s : Stands t rows b stock spot
  s = u.stands

  pub few-redefined : counts.redefinitions ≤ length t
  few-redefined = omega (arith, u.few, u.fit.within)

  pub may_delete : Sorted rows stock.live × (stock.needed ≡ needed_in rows stock.live) × (stock.needed < 2 ^ 64)
  may_delete = deletable s

  -- whatever letters a text that passed is read as, they are these
  told_of : (P : List Letter → Type 0) → P u.passed.letters → (p : Passed t) → P p.letters
  told_of P h p = subst P (marking_is u.passed.marked ∙ sym (marking_is p.marked)) h

  -- no command is left
  pub along_out : (r : Option Decoded) (words' : List ℤ) → ReadsCommand t spot 1 1 words r words' → r ≡ None → KeepsText t w names count (Ok stock.live) rows b column
  unfolding KeepsText deeds
  along_out r words' x e =
      let none : to_do s ≡ [] = ap (deeds s.standing) (none_met t spot s.told (read_none t spot 1 1 words r words' x e)) in
      let over : kept_of (to_do s) ≡ [] = ap kept_of none ∙ kept_none in
      let left : s.table ≡ table_left u.passed.letters = sym (ap (table_then s.table) over ∙ then_none s.table) ∙ u.table-left in
      told_of (λ (m : List Letter). KeepsAll w m names count stock.live rows b column) (record {
        totals = tally counts;
        ends = sym u.end_left ∙ (ap (end_from w (tally counts) s.table) over ∙ end_none w (tally counts) s.table);
        held = record {
          holds = subst (Holds rows b stock.live) left s.kept.holds;
          sorted = s.kept.sorted;
          stocked = s.kept.stocked;
          short = s.kept.short;
          afresh = u.afresh;
        };
      })

  module _ {account : Written} {kind place n : ℕ} {to : Spot} {words' : List ℤ} (big : most_values + 2 ≤ length words₀) (r : DecodedOne t spot 1 1 account words kind place n to words') where
    pub words_then : most_values + 2 ≤ length words'
    words_then = let e = run_kept r in omega (arith, big, e, u.words_kept)

    abbrev m : Met t s.standing s.commands kind place n to words'
    m = met s (omega (arith, big, u.words_kept)) r

    abbrev Next : List ℕ → List ℤ → List Own → Spot → Stock → Counts → Type 0
    Next rows' b' column' to' stock' counts' = Along t w words₀ names count rows' b' words' column' to' stock' counts'

    -- a command that leaves the table alone
    passes_by : (s' : Stands t rows b stock to) → s'.table ≡ s.table → kept_of (to_do s) ≡ kept_of (to_do s') → Next rows b column to stock counts
    passes_by s' e f = record {
      passed = u.passed;
      stands = s';
      fit = r.fit;
      bodies_kept = u.bodies_kept;
      words_kept = run_kept r ∙ u.words_kept;
      few = omega (arith, u.few, r.ahead);
      afresh = u.afresh;
      table-left = ap₂ {C = Table} table_then e (sym f) ∙ u.table-left;
      end_left = ap₂ {C = End} (end_from w (tally counts)) e (sym f) ∙ u.end_left;
    }

    pub along_other : (kind ≡ letter_d → ⊥) → (kind ≡ letter_s → ⊥) → Next rows b column to stock counts
    along_other no_d no_s = by_layer (eqb kind letter_l) refl
      where
        by_output : (kind ≡ letter_l → ⊥) → (x : Bool) → outputs kind ≡ x → Next rows b column to stock counts
        by_output no_l true e =
            let o = is_output s.closed place m.rest m.voice e no_l no_d no_s in
            let f : to_do s ≡ output (at place o.step) ∷ deeds s.standing m.rest = deeds_are s m refl ∙ o.deed in
            passes_by (past_other s m o.stays) refl (ap kept_of f ∙ kept-output (at place o.step) (deeds s.standing m.rest))
        by_output no_l false e =
            let i = is_idle s.closed place m.rest m.voice e no_l no_d no_s in
            passes_by (past_other s m i.stays) refl (ap kept_of (deeds_are s m refl ∙ i.deed))

        by_layer : (x : Bool) → eqb kind letter_l ≡ x → Next rows b column to stock counts
        by_layer true e =
            let i = is_layer m.voice (eqb-true kind letter_l e) in
            passes_by (past_layer s m i.0 i.1) refl (ap kept_of (layer-left s m i.0 i.1))
        by_layer false e = by_output (eqb-false kind letter_l e) (outputs kind) refl

    -- ---- a deletion

    pub along_deleted : kind ≡ letter_d → {symbol : ℕ} {left : Stock} → symbol ≡ nat_abs (get_or words' 2 (pos 0)) → Deletes rows stock symbol left
        → Next rows b column to left counts
    along_deleted e {symbol} {left} q f =
        let i = is_delete m.voice e in
        let gone : Number = i.0 in
        let fewer : Deletes rows stock (nat_abs gone.what) left = subst (λ (x : ℕ). Deletes rows stock x left) (q ∙ ap nat_abs (third_word m i.2)) f in
        let d = at place (nat_abs gone.what) in
        let ds = deeds s.standing m.rest in
        let l : kept_of (to_do s) ≡ remove d ∷ kept_of ds = ap kept_of (delete-left s m gone i.1) ∙ kept-remove d ds in
        record {
          passed = u.passed;
          stands = past_delete s m gone i.1 fewer;
          fit = r.fit;
          bodies_kept = u.bodies_kept;
          words_kept = run_kept r ∙ u.words_kept;
          few = omega (arith, u.few, r.ahead);
          afresh = afresh-cut fewer.forgets.parted.within u.afresh;
          table-left = sym (ap (table_then s.table) l ∙ then_remove s.table d (kept_of ds)) ∙ u.table-left;
          end_left = sym (ap (end_from w (tally counts) s.table) l ∙ end_remove w (tally counts) s.table d (kept_of ds)) ∙ u.end_left;
        }

    -- ---- a definition

    module _ (e : kind ≡ letter_s) (start : Start) (q : start ≡ start_in words' place) where
      pub along-starts : (start.a ≤ too_large) × (1 ≤ start.b)
      along-starts = start-within s m e start q

      pub along_begins : Begins t rows b stock to start
      along_begins = may_define s m e start q

      module _ {rows' : List ℕ} {b' : List ℤ} {d : Result Taken Rule} (defines : DefinesAt t rows b stock to start counts d rows' b') where
        pub size_then : length b' ≡ w
        size_then = defines.size ∙ u.bodies_kept

        abbrev new : Definition
        new = made s m e

        abbrev later : List Deed
        later = deeds (open_there s m e) m.rest

        kept-left : kept_of (to_do s) ≡ define new ∷ kept_of later
        kept-left = ap kept_of (define-left s m e) ∙ kept-define new later

        same-symbol : start.symbol ≡ new.symbol
        same-symbol = ap (λ (y : Start). y.symbol) q

        module _ {taken : Taken} (f : d ≡ Ok taken) where
          pub along_on : length t - taken.to.at < length t - spot.at
          along_on = let k = takes s m e start q defines f in omega (arith, k.ahead, k.fit.within, r.ahead)

          -- what `enter` of crate columns asks
          pub may_enter : (More stock.live taken.stock.live × Sorted rows' taken.stock.live × StandsIn rows' taken.stock.live start.symbol) × (Stocked rows' b' taken.stock.live × (length b' ≤ most_words))
          may_enter =
              let k = (takes s m e start q defines f).kept in
              ((entered-more new s.kept.holds k.holds, k.sorted, entered-stands new s.kept.holds k.holds same-symbol), (k.stocked, k.short))

          pub along_defined : {column' : List Own} → Enters b' rows' stock.live taken.stock.live start.symbol names count column column'
              → Next rows' b' column' taken.to taken.stock taken.counts
          along_defined x =
              let k = takes s m e start q defines f in
              let z = k.kept.enough in
              let same : kept_of (deeds (outside (open_there s m e).layer_outside) k.passes.rest) ≡ kept_of later = ap kept_of (sym k.passes.left) in
              record {
                passed = u.passed;
                stands = past_define s m e k;
                fit = k.fit;
                bodies_kept = size_then;
                words_kept = run_kept r ∙ u.words_kept;
                few = omega (arith, u.few, k.redefined, k.ahead, r.ahead);
                afresh = afresh-entered new s.kept.holds k.kept.holds same-symbol k.kept.sorted u.afresh x;
                table-left =
                    ap (table_then (enter new s.table)) same
                    ∙ (sym (ap (table_then s.table) kept-left ∙ then_define s.table new (kept_of later)) ∙ u.table-left);
                end_left =
                    ap (end_from w (tally taken.counts) (enter new s.table)) same
                    ∙ (sym (ap (end_from w (tally counts) s.table) kept-left
                    ∙ end_define w (tally counts) s.table new (kept_of later) k.few (let y = size_then in omega (arith, y, z)) k.counts_so)
                    ∙ u.end_left);
              }

        -- it is one too many, or more words are needed than were lent
        ends-so : (rule : Rule) → d ≡ Err rule → end_from w (tally counts) s.table (define new ∷ kept_of later) ≡ stopped (refuse rule place) []
        unfolding Defines
        ends-so TooManyDefinitions f = end_overfull w (tally counts) s.table new (kept_of later) (comes s m e start q defines f)
        ends-so TooFewWords f =
            let k = comes s m e start q defines f in
            let z = k.1 in
            end_short w (tally counts) s.table new (kept_of later) k.0 (let y = size_then in omega (arith, y, z))
        ends-so _ f = absurd (comes s m e start q defines f)

        pub along_refused : {rule : Rule} → d ≡ Err rule → KeepsText t w names count (Err (refuse rule place)) rows' b' column
        unfolding KeepsText
        along_refused {rule} f =
            told_of (λ (m : List Letter). end_of w m ≡ stopped (refuse rule place) [])
            (sym u.end_left ∙ (ap (end_from w (tally counts) s.table) kept-left ∙ ends-so rule f))
