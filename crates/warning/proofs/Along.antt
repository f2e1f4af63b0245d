-- What the loop of `warn_text` keeps: where the pass stands (crates/passing, proofs/Stands.antt), what is left to warn of, what the last search found, and how
-- far the lines can reach.
-- Assumes nothing.
use Rattle.std.specs.Prelude.{Option, Some, None, Result, Ok, Err, if◌then◌else◌}
use mathlib.Core.Path.{◌≡◌, refl, sym, ap, ap₂, ◌∙◌, subst}
use mathlib.Core.Bool.{Bool, true, false}
use mathlib.Core.List.{List, [], ◌∷◌, ◌++◌, flat_map, append-nil}
use Prim.Native.Nat.{ℕ, ◌+◌, ◌-◌, ◌*◌, ◌^◌, ◌≤◌, ◌<◌}
use native.Mathlib.Omega.{arith}
use borrow.Author.Tests.{lt-ltb, le-ltb, eqb-true, eqb-false}
use lib.Dec.{eqb}
use lib.IntN.{ℤ, pos, nat_abs}
use lib.ListN.{length, get_or}
use Rattle.definition.specs.declared.Rule.{Rule}
use Rattle.definition.specs.declared.Rule.TheVariants.{TooManyDefinitions, TooFewWords}
use Rattle.definition.specs.Limits.{most_definitions}
use Rattle.definition.specs.Words.{Placed, at, first, none?}
use Rattle.definition.specs.Commands.{Number, Command, delete, commands}
use Rattle.definition.specs.Standing.{outside, after}
use Rattle.definition.specs.Table.{Step, Definition, Table, find, enter, forget}
use Rattle.definition.specs.Drawing.{Deed, output, define, remove, deeds, entered, table_after}
use Rattle.definition.specs.Counts.{finished, counted}
use Rattle.definition.specs.Held.{words_in}
use Rattle.definition.specs.Warnings.{redefined, dangling_calls, dangling_at, warnings_at, warning_line}
use Rattle.pieces.specs.Pieces.{letter_s, too_large, Fit}
use Rattle.pieces.specs.Pieces.{start as text_start}
use Rattle.pieces.specs.declared.Spot.{Spot}
use Rattle.rules.specs.Letters.{letter_d, letter_l}
use Rattle.rules.specs.Written.{Written}
use Rattle.commands.specs.declared.Decoded.{Decoded}
use Rattle.commands.specs.Words.{DecodedOne, ReadsCommand}
use Rattle.counts.specs.declared.Counts.{Counts}
use Rattle.counts.specs.Counting.{tally, zero_counts}
use Rattle.moves.specs.Moves.{most_values}
use Rattle.digits.specs.Writes.{Writes}
use Rattle.digits.proofs.Writing.{WrittenSoFar, begun, goes_on, over, same_bytes}
use Rattle.library.specs.Memory.{row_numbers, needed_in}
use Rattle.library.specs.Sound.{Stocked}
use Rattle.library.specs.Rows.{Sorted}
use Rattle.library.proofs.Holding.{held-table}
use Rattle.keeping.specs.Keeping.{most_words, Kept, Begins, Defines, DefinesAt}
use Rattle.keeping.specs.declared.Start.{Start}
use Rattle.keeping.specs.declared.Stock.{Stock}
use Rattle.keeping.specs.declared.Taken.{Taken}
use Rattle.passing.specs.Passed.{Passed, outputs, start_in, Deletes}
use Rattle.passing.proofs.Letters.{is_layer, is_delete}
use Rattle.passing.proofs.Reading.{Met, run_kept, read_none, third_word, none_met}
use Rattle.passing.proofs.Outer.{is_output, is_idle}
use Rattle.passing.proofs.Stands.{Stands, nothing_kept, to_do, at_start, deletable, met, deeds_are, past_layer, layer-left, past_delete, delete-left, past_other, open_there, made, define-left, past_define, start-within, may_define, comes, takes}
use Rattle.dangling.specs.Searched.{Searched}
use Rattle.warning.specs.Warned.{warned_at, stops_at, warned_from, warned_of, redefined_line, dangling_line, SearchedLast, Warns}
use Rattle.warning.proofs.LeanCalls.{lean-dangling}
use Rattle.warning.proofs.Agrees.{warned-first, one_warned}
use Rattle.warning.proofs.Dear.{dear, dear_within}

-- ---- what is warned of a deed

stopped-left : (w : ℕ) (t : Table) (d : Deed) (ds : List Deed) → stops_at w t d ≡ true → warned_from w t (d ∷ ds) ≡ []
unfolding warned_from
stopped-left w t d ds e = rw e

nothing_left : (w : ℕ) (t : Table) → warned_from w t [] ≡ []
unfolding warned_from
nothing_left w t = refl

output-left : (w : ℕ) (t : Table) (s : Placed Step) (ds : List Deed) → warned_from w t (output s ∷ ds) ≡ warned_from w t ds
unfolding warned_from stops_at warned_at table_after
output-left w t s ds = refl

dear_output : (s : Placed Step) (ds : List Deed) → dear (output s ∷ ds) ≡ dear ds
unfolding dear
dear_output s ds = omega arith

dear_remove : (n : Placed ℕ) (ds : List Deed) → dear (remove n ∷ ds) ≡ 60 + dear ds
unfolding dear
dear_remove n ds = refl

dear_define : (d : Definition) (ds : List Deed) → dear (define d ∷ ds) ≡ 60 + dear ds
unfolding dear
dear_define d ds = refl

remove-left : (w : ℕ) (t : Table) (n : Placed ℕ) (ds : List Deed) → warned_from w t (remove n ∷ ds) ≡ warned_at t (remove n) ++ warned_from w (forget n.what t) ds
unfolding table_after stops_at
remove-left w t n ds = warned-first w t (remove n) ds refl

enter-left : (w : ℕ) (t : Table) (d : Definition) (ds : List Deed) → length (enter d t) ≤ most_definitions → words_in (enter d t) ≤ w
    → warned_from w t (define d ∷ ds) ≡ warned_at t (define d) ++ warned_from w (enter d t) ds
unfolding table_after stops_at
enter-left w t d ds h g = warned-first w t (define d) ds (rw (le-ltb most_definitions (length (enter d t)) h, le-ltb w (words_in (enter d t)) g))

-- refusal 10, and refusal 25
overfull_left : (w : ℕ) (t : Table) (d : Definition) (ds : List Deed) → most_definitions < length (enter d t) → warned_from w t (define d ∷ ds) ≡ []
unfolding stops_at
overfull_left w t d ds h = stopped-left w t (define d) ds (rw (lt-ltb most_definitions (length (enter d t)) h))

short-left : (w : ℕ) (t : Table) (d : Definition) (ds : List Deed) → length (enter d t) ≤ most_definitions → w < words_in (enter d t) → warned_from w t (define d ∷ ds) ≡ []
unfolding stops_at
short-left w t d ds h g = stopped-left w t (define d) ds (rw (le-ltb most_definitions (length (enter d t)) h, lt-ltb w (words_in (enter d t)) g))

-- what a search found is what is due after the DD
dangling-due : (rows : List ℕ) (b : List ℤ) (stock : Stock) (t : Table) (n : Placed ℕ) (r : Option ℕ) → Kept rows b stock (forget n.what t) → Searched rows b stock.live r
    → dangling_line r ≡ warned_at t (remove n)
unfolding warned_at warnings_at
dangling-due rows b stock t n r k s =
    ap (flat_map warning_line)
    (s ∙ ap (λ (x : List (Placed Step)). dangling_at (first x)) (ap dangling_calls (held-table k.holds) ∙ lean-dangling (forget n.what t)))

-- a definition is a redefinition where it was counted as one
finished-same : {c d : _} → finished c ≡ finished d → c ≡ d
finished-same e = cc

redefined-due : (c c' : Counts) (d : Definition) (t : Table) → counted (tally c) (entered d t) ≡ finished (tally c')
    → redefined_line d.symbol c.redefinitions c'.redefinitions ≡ warned_at t (define d)
unfolding warned_at warnings_at counted flat_map
redefined-due c c' d t e = go (none? (find d.symbol t)) (ap (λ (x : _). x.redefinitions) (finished-same e))
  where
    go : (x : Bool) → (if x then c.redefinitions else c.redefinitions + 1) ≡ c'.redefinitions
        → redefined_line d.symbol c.redefinitions c'.redefinitions ≡ flat_map warning_line (if x then [] else redefined d.symbol ∷ [])
    go true e = rw (le-ltb c.redefinitions c'.redefinitions (omega (arith, e)))
    go false e = rw (lt-ltb c.redefinitions c'.redefinitions (omega (arith, e))) (sym (append-nil (warning_line (redefined d.symbol))))

-- ---- between two commands

pub record Along (t : List ℕ) (w : ℕ) (words₀ : List ℤ) (old : List ℕ) (from : ℕ) (rows : List ℕ) (b words : List ℤ) (out : List ℕ) (spot : Spot) (stock : Stock) (counts : Counts)
    (searched : Option (Option ℕ)) (at : ℕ) : Type 0 where
  pub passed : Passed t
  pub stands : Stands t rows b stock spot
  pub fit : Fit t spot
  pub bodies_kept : length b ≡ w
  pub words_kept : length words ≡ length words₀
  pub few : counts.redefinitions ≤ spot.at
  pub last : SearchedLast rows b stock.live searched
  pub going : WrittenSoFar old out from at (warned_of w passed) (warned_from w stands.table (to_do stands))
  pub near : at + dear (to_do stands) ≤ from + dear (deeds (outside []) (commands 0 passed.letters))

pub along_begin : {t : List ℕ} (rows : List ℕ) (b words : List ℤ) (out : List ℕ) (from : ℕ) → Passed t → length rows ≡ row_numbers → length b ≤ most_words → {c : Counts} → c ≡ zero_counts
    → Along t (length b) words out from rows b words out text_start nothing_kept c None from
along_begin {t} rows b words out from p s h e = record {
  passed = p;
  stands = at_start p rows b s h;
  fit = record { within = omega arith; state = omega arith };
  bodies_kept = refl;
  words_kept = refl;
  few = let z = ap (λ (x : Counts). x.redefinitions) e in omega (arith, z);
  last = tt;
  going = begun out from _;
  near = omega arith;
}

module _ {t : List ℕ} {w : ℕ} {words₀ : List ℤ} {old : List ℕ} {from : ℕ} {rows : List ℕ} {b words : List ℤ} {out : List ℕ} {spot : Spot} {stock : Stock} {counts : Counts}
    {searched : Option (Option ℕ)} {at' : ℕ} (u : Along t w words₀ old from rows b words out spot stock counts searched at') where
  abbrev Next : List ℕ → List ℤ → List ℤ → List ℕ → Spot → Stock → Counts → Option (Option ℕ) → ℕ → Type 0
  Next rows' b' words' out' to stock' counts' searched' next = Along t w words₀ old from rows' b' words' out' to stock' counts' searched' next

  abbrev s : Stands t rows b stock spot
  s = u.stands

  pub out_there : length out ≡ length old
  out_there = u.going.writes.kept

  pub reached : at' ≤ from + 15 * length t
  reached = let h = dear_within u.passed.marked in let g = u.near in omega (arith, h, g)

  pub reached_far : from ≤ 2 ^ 57 → at' ≤ 2 ^ 58
  reached_far h = let g = reached in let f = u.passed.short in omega (arith, h, g, f)

  pub few-redefined : counts.redefinitions ≤ length t
  few-redefined = omega (arith, u.few, u.fit.within)

  pub may_delete : Sorted rows stock.live × (stock.needed ≡ needed_in rows stock.live) × (stock.needed < 2 ^ 64)
  may_delete = deletable s

  -- nothing is left to warn of
  along-over : warned_from w s.table (to_do s) ≡ [] → Warns t w old out from at'
  along-over e = record { writes = λ p. same_bytes (one_warned w u.passed p) (over u.going e); near = reached }

  pub along_out : (r : Option Decoded) (words' : List ℤ) → ReadsCommand t spot 1 1 words r words' → r ≡ None → Warns t w old out from at'
  unfolding deeds
  along_out r words' x e =
      along-over (ap (λ (cs : List (Placed Command)). warned_from w s.table (deeds s.standing cs)) (none_met t spot s.told (read_none t spot 1 1 words r words' x e)) ∙ nothing_left w s.table)

  module _ {account : Written} {kind place n : ℕ} {to : Spot} {words' : List ℤ} (big : most_values + 2 ≤ length words₀) (r : DecodedOne t spot 1 1 account words kind place n to words') where
    pub words_then : most_values + 2 ≤ length words'
    words_then = let e = run_kept r in omega (arith, big, e, u.words_kept)

    abbrev m : Met t s.standing s.commands kind place n to words'
    m = met s (omega (arith, big, u.words_kept)) r

    -- a command that does nothing to be warned of
    passes_by : (s' : Stands t rows b stock to) → s'.table ≡ s.table → warned_from w s.table (to_do s) ≡ warned_from w s.table (to_do s') → dear (to_do s) ≡ dear (to_do s')
        → Next rows b words' out to stock counts searched at'
    passes_by s' e f g = record {
      passed = u.passed;
      stands = s';
      fit = r.fit;
      bodies_kept = u.bodies_kept;
      words_kept = run_kept r ∙ u.words_kept;
      few = omega (arith, u.few, r.ahead);
      last = u.last;
      going = subst (λ (l : List ℕ). WrittenSoFar old out from at' (warned_of w u.passed) l) (f ∙ ap (λ (x : Table). warned_from w x (to_do s')) (sym e)) u.going;
      near = let h = u.near in omega (arith, h, g);
    }

    left-same : (s' : Stands t rows b stock to) → s'.table ≡ s.table → to_do s ≡ to_do s' → Next rows b words' out to stock counts searched at'
    left-same s' e f = passes_by s' e (ap (warned_from w s.table) f) (ap dear f)

    pub along_other : (kind ≡ letter_d → ⊥) → (kind ≡ letter_s → ⊥) → Next rows b words' out to stock counts searched at'
    along_other no_d no_s = by_layer (eqb kind letter_l) refl
      where
        by_output : (kind ≡ letter_l → ⊥) → (x : Bool) → outputs kind ≡ x → Next rows b words' out to stock counts searched at'
        by_output no_l true e =
            let o = is_output s.closed place m.rest m.voice e no_l no_d no_s in
            let f : to_do s ≡ output (at place o.step) ∷ deeds s.standing m.rest = deeds_are s m refl ∙ o.deed in
            passes_by (past_other s m o.stays) refl
            (ap (warned_from w s.table) f ∙ output-left w s.table (at place o.step) (deeds s.standing m.rest))
            (ap dear f ∙ dear_output (at place o.step) (deeds s.standing m.rest))
        by_output no_l false e =
            let i = is_idle s.closed place m.rest m.voice e no_l no_d no_s in
            left-same (past_other s m i.stays) refl (deeds_are s m refl ∙ i.deed)

        by_layer : (x : Bool) → eqb kind letter_l ≡ x → Next rows b words' out to stock counts searched at'
        by_layer true e =
            let i = is_layer m.voice (eqb-true kind letter_l e) in
            left-same (past_layer s m i.0 i.1) refl (layer-left s m i.0 i.1)
        by_layer false e = by_output (eqb-false kind letter_l e) (outputs kind) refl

    -- ---- a deletion

    module _ (e : kind ≡ letter_d) {symbol : ℕ} {left : Stock} (q : symbol ≡ nat_abs (get_or words' 2 (pos 0))) (f : Deletes rows stock symbol left) where
      abbrev gone : Number
      gone = (is_delete m.voice e).0

      is_gone : m.command ≡ delete gone
      is_gone = (is_delete m.voice e).1

      fewer : Deletes rows stock (nat_abs gone.what) left
      fewer = subst (λ (x : ℕ). Deletes rows stock x left) (q ∙ ap nat_abs (third_word m (is_delete m.voice e).2)) f

      abbrev after_it : Stands t rows b left to
      after_it = past_delete s m gone is_gone fewer

      pub may_search : Sorted rows left.live × Stocked rows b left.live × (length b ≤ most_words)
      may_search = let k = after_it.kept in (k.sorted, k.stocked, k.short)

      pub along_deleted : {found' : Option ℕ} {out' : List ℕ} {next : ℕ} → Searched rows b left.live found'
          → Writes out out' at' next (dangling_line found') × (next ≤ at' + 60) → Next rows b words' out' to left counts (Some found') next
      along_deleted {found'} k (x, far) =
          let d = at place (nat_abs gone.what) in
          let ds = deeds s.standing m.rest in
          let l : to_do s ≡ remove d ∷ ds = delete-left s m gone is_gone in
          record {
            passed = u.passed;
            stands = after_it;
            fit = r.fit;
            bodies_kept = u.bodies_kept;
            words_kept = run_kept r ∙ u.words_kept;
            few = omega (arith, u.few, r.ahead);
            last = k;
            going =
                goes_on (dangling_line found') u.going
                (ap (warned_from w s.table) l ∙ (remove-left w s.table d ds
                ∙ ap (λ (y : List ℕ). y ++ warned_from w (forget (nat_abs gone.what) s.table) ds) (sym (dangling-due rows b left s.table d found' after_it.kept k))))
                x;
            near = let h = u.near in let g = ap dear l ∙ dear_remove d ds in omega (arith, h, g, far);
          }

    -- ---- a definition

    module _ (e : kind ≡ letter_s) (start : Start) (q : start ≡ start_in words' place) where
      pub along-starts : (start.a ≤ too_large) × (1 ≤ start.b)
      along-starts = start-within s m e start q

      pub along_begins : Begins t rows b stock to start
      along_begins = may_define s m e start q

      module _ {rows' : List ℕ} {b' : List ℤ} {d : Result Taken Rule} (defines : DefinesAt t rows b stock to start counts d rows' b') where
        pub size_then : length b' ≡ w
        size_then = defines.size ∙ u.bodies_kept

        abbrev new : Definition
        new = made s m e

        abbrev later : List Deed
        later = deeds (open_there s m e) m.rest

        pub along_on : {taken : Taken} → d ≡ Ok taken → (length t - taken.to.at < length t - spot.at)
        along_on f = let k = takes s m e start q defines f in omega (arith, k.ahead, k.fit.within, r.ahead)

        pub along_defined : {taken : Taken} {out' : List ℕ} {next : ℕ} → d ≡ Ok taken
            → Writes out out' at' next (redefined_line start.symbol counts.redefinitions taken.counts.redefinitions) × (next ≤ at' + 48)
            → Next rows' b' words' out' taken.to taken.stock taken.counts None next
        along_defined {taken} f (x, far) =
            let k = takes s m e start q defines f in
            let same : start.symbol ≡ new.symbol = ap (λ (y : Start). y.symbol) q in
            let z = k.kept.enough in
            record {
              passed = u.passed;
              stands = past_define s m e k;
              fit = k.fit;
              bodies_kept = size_then;
              words_kept = run_kept r ∙ u.words_kept;
              few = omega (arith, u.few, k.redefined, k.ahead, r.ahead);
              last = tt;
              going =
                  goes_on (redefined_line start.symbol counts.redefinitions taken.counts.redefinitions) u.going
                  (ap (warned_from w s.table) (define-left s m e)
                  ∙ (enter-left w s.table new later k.few (let y = size_then in omega (arith, y, z))
                  ∙ ap₂ {C = List ℕ} (λ (y v : List ℕ). y ++ v)
                  (sym (ap (λ (y : ℕ). redefined_line y counts.redefinitions taken.counts.redefinitions) same ∙ redefined-due counts taken.counts new s.table k.counts_so))
                  (ap (warned_from w (enter new s.table)) k.passes.left)))
                  x;
              near =
                  let h = u.near in
                  let g = ap dear (define-left s m e) ∙ dear_define new later in
                  let v = ap dear k.passes.left in
                  omega (arith, h, g, v, far);
            }

        -- it is one too many, or more words are needed than were lent
        none-left : (rule : Rule) → d ≡ Err rule → warned_from w s.table (define new ∷ later) ≡ []
        unfolding Defines
        none-left TooManyDefinitions f = overfull_left w s.table new later (comes s m e start q defines f)
        none-left TooFewWords f =
            let k = comes s m e start q defines f in
            let z = k.1 in
            short-left w s.table new later k.0 (let y = size_then in omega (arith, y, z))
        none-left _ f = absurd (comes s m e start q defines f)

        pub along_refused : {rule : Rule} → d ≡ Err rule → Warns t w old out from at'
        along_refused {rule} f = along-over (ap (warned_from w s.table) (define-left s m e) ∙ none-left rule f)

-- ---- a search that is not made again

pub same_found : (rows : List ℕ) (b : List ℤ) {found : Option ℕ} {before live : ℕ} {searched : Option (Option ℕ)} → SearchedLast rows b before searched → searched ≡ Some found → live ≡ before
    → Searched rows b live found
same_found rows b {found} {before} k f e = subst (λ (n : ℕ). Searched rows b n found) (sym e) (subst (SearchedLast rows b before) f k)
