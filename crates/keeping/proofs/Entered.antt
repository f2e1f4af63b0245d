-- A definition begun, filled and entered: the memory holds the table that it is entered in, the words counted are those that the live definitions need,
-- and a redefinition is counted (refusals 10 and 25 otherwise).
-- Assumes nothing.
use Rattle.std.specs.Prelude.{if◌then◌else◌, Option as Maybe, Some, None, Result, Ok, Err}
use mathlib.Core.Path.{◌≡◌, refl, sym, ap, ◌∙◌, subst}
use mathlib.Core.Bool.{Bool, true, false}
use mathlib.Core.List.{List, [], ◌∷◌}
use mathlib.Core.Option.{Option, none, some, map}
use Prim.Native.Nat.{ℕ, suc, ◌+◌, ◌-◌, ◌*◌, ◌≤◌, ◌<◌}
use native.Mathlib.Omega.{arith}
use borrow.Author.Tests.{eqb-false, ne_eqb}
use lib.Dec.{eqb, ltb}
use lib.IntN.{ℤ}
use lib.ListN.{length}
use Rattle.definition.specs.declared.Rule.{Rule}
use Rattle.definition.specs.declared.Rule.TheVariants.{TooManyDefinitions, TooFewWords}
use Rattle.definition.specs.Limits.{most_bytes, most_definitions}
use Rattle.definition.specs.Words.{none?}
use Rattle.definition.specs.Table.{Definition, Table, find, enter}
use Rattle.definition.specs.Held.{words_in}
use Rattle.definition.specs.Lean.{lean_definition}
use Rattle.definition.specs.Drawing.{retained, entered}
use Rattle.definition.specs.Counts.{finished, counted}
use Rattle.laws.proofs.Story.Lean.{lean-find}
use Rattle.pieces.specs.declared.Spot.{Spot}
use Rattle.counts.specs.declared.Counts.{Counts}
use Rattle.counts.specs.Counting.{tally, CountsRedefinition}
use Rattle.library.specs.declared.Begun.{Begun}
use Rattle.library.specs.declared.Begun.TheVariants.{Replaced, Added}
use Rattle.library.specs.Memory.{table_of, symbol_at, needed_at, needed_in, most_words}
use Rattle.library.specs.Rows.{bare, before, Entry}
use Rattle.library.specs.Rows.{Begins as BeginsRow}
use Rattle.library.specs.Storing.{layer_now}
use Rattle.library.specs.Holds.{Holds}
use Rattle.library.proofs.Entering.{begun, begun-empty, needed-over, needed_in_lem}
use Rattle.library.proofs.Holding.{held-table, held-needed, holds-over, holds_in}
use Rattle.keeping.specs.declared.Start.{Start}
use Rattle.keeping.specs.declared.Stock.{Stock}
use Rattle.keeping.specs.declared.Taken.{Taken}
use Rattle.keeping.specs.declared.Whole.{Whole}
use Rattle.keeping.specs.Growth.{with_body, Adds, Within, Ready, KeepsWhole, TooFew, KeepsBodyBy, KeepsBody}
use Rattle.keeping.specs.Keeping.{Kept, Open, definition_of, Begins, Defines, DefinesAt, Filling, FillsBy, FillsAt}
use Rattle.keeping.proofs.Growing.{enter-more, enter_long}

-- ---- the body of a row that was entered

module _ {t : List ℕ} {rows : List ℕ} {b : List ℤ} {stock : Stock} {row : ℕ} {from : Spot} {start : Start} (g : Filling t rows b stock row from start) where
  open_within : (h : Open t from start.a start.b) → Within t from start.a start.b rows b row h.standing h.commands
  unfolding layer_now
  open_within h = record {
    told = h.told;
    opened = h.opened;
    same_a = h.same_a;
    same_b = h.same_b;
    layer_now_lem = ap (layer_now []) g.empty ∙ sym h.no_layer_lem;
  }

  pub filling_ready : Ready t from start.a start.b rows b stock.live row stock.used false
  filling_ready = record {
    growing = g.growing;
    standing = g.opens.standing;
    commands = g.opens.commands;
    within = open_within g.opens;
    few_needed = omega (arith, g.free);
    text_short = g.text_short;
    run_short = g.run_short;
  }

  -- the row stands for a definition of this number
  by_symbol : (P : ℕ → Type 0) → P start.symbol → P (symbol_at rows row)
  by_symbol P x = subst P (sym g.symbol_is) x

  module _ {r : Maybe Whole} {rows' : List ℕ} {b' : List ℤ} (k : KeepsBody t from start.a start.b rows b stock.live row r rows' b') where
    as_whole : {body : Whole} → r ≡ Some body → KeepsWhole t from start.a start.b rows b stock.live row body.used body.to rows' b'
    unfolding KeepsBodyBy
    as_whole e = subst (λ (x : Maybe Whole). KeepsBodyBy t from start.a start.b rows b stock.live row x rows' b') e k.by

    as_lacking : r ≡ None → TooFew t from start.a start.b rows b stock.live row
    unfolding KeepsBodyBy
    as_lacking e = subst (λ (x : Maybe Whole). KeepsBodyBy t from start.a start.b rows b stock.live row x rows' b') e k.by

    pub fills_lacking : r ≡ None → {counts : Counts} → FillsAt t rows b stock from start counts (Err TooFewWords) rows' b'
    unfolding FillsBy
    fills_lacking e = record {
      size = k.size;
      fills = λ h table holds needs.
          subst (λ (n : ℕ). length b' < words_in (enter (with_body n start.place (retained h.standing h.commands)) table)) g.symbol_is
          (subst (λ (n : ℕ). n < words_in (enter (with_body (symbol_at rows row) start.place (retained h.standing h.commands)) table)) (sym k.size)
          ((as_lacking e).needs_more h.standing h.commands (open_within h) start.place table
          (by_symbol (λ n. Holds rows b stock.live (enter (bare n start.place) table)) holds)));
    }

    module _ {body : Whole} (e : r ≡ Some body) (more : ℕ) (more_is : more ≡ needed_at rows' row) where
      abbrev whole : KeepsWhole t from start.a start.b rows b stock.live row body.used body.to rows' b'
      whole = as_whole e

      pub sum_fits : stock.needed + more ≤ 5 * most_words
      sum_fits = omega (arith, g.few_needed, whole.few_needed, more_is)

      module _ (h : Open t from start.a start.b) (table : Table) (holds : Holds rows b stock.live (enter (bare start.symbol start.place) table))
          (needs : stock.needed ≡ words_in (enter (bare start.symbol start.place) table)) where
        abbrev d : Definition
        d = definition_of h start.symbol start.place

        added : Adds rows b stock.live row (retained h.standing h.commands) rows' b' body.used whole.layered
        added = whole.adds h.standing h.commands (open_within h)

        -- the words counted
        sum_is : stock.needed + more ≡ words_in (enter d table)
        sum_is =
            let m = enter-more start.symbol start.place [] (retained h.standing h.commands) table in
            omega (arith, m, needs, more_is, added.needs, g.free)

        held : Holds rows' b' stock.live (enter d table)
        held =
            subst (λ (n : ℕ). Holds rows' b' stock.live (enter (with_body n start.place (retained h.standing h.commands)) table)) g.symbol_is
            (added.holds start.place [] table (by_symbol (λ n. Holds rows b stock.live (enter (bare n start.place) table)) holds))

        kept_so : stock.needed + more ≤ length b' → Kept rows' b' (record { live = stock.live; used = body.used; needed = stock.needed + more }) (enter d table)
        kept_so m = record {
          holds = held;
          stocked = added.growing.stocked;
          laid = added.growing.laid;
          sorted = added.growing.sorted;
          fits = added.growing.fits;
          needs = sum_is;
          enough = omega (arith, m, sum_is);
          short = omega (arith, k.size, g.run_short);
        }

      pub fills-short : length b' < stock.needed + more → {counts : Counts} → FillsAt t rows b stock from start counts (Err TooFewWords) rows' b'
      unfolding FillsBy
      fills-short l = record { size = k.size; fills = λ h table holds needs. omega (arith, l, sum_is h table holds needs) }

      pub fills-taken : stock.needed + more ≤ length b' → {counts : Counts}
          → FillsAt t rows b stock from start counts (Ok record { stock = record { live = stock.live; used = body.used; needed = stock.needed + more }; counts = counts; to = body.to }) rows' b'
      unfolding FillsBy
      fills-taken l = record {
        size = k.size;
        fills = λ h table holds needs. record {
          kept = kept_so h table holds needs l;
          same_counts = refl;
          passes = whole.passes h.standing h.commands (open_within h);
          fit = whole.fit;
          ahead = whole.ahead;
        };
      }

-- ---- what is counted

pub record Recounts (counts after_it : Counts) (d : Definition) (table : Table) : Type 0 where
  pub ends : counted (tally counts) (entered d table) ≡ finished (tally after_it)
  pub calls_same : after_it.calls ≡ counts.calls
  pub shapes-same : after_it.shapes ≡ counts.shapes
  pub at_most_one : after_it.redefinitions ≤ counts.redefinitions + 1

module _ {rows : List ℕ} {b : List ℤ} {live : ℕ} {table : Table} (h : Holds rows b live table) (n : ℕ) where
  find-held : find n (table_of rows b live) ≡ map lean_definition (find n table)
  find-held = ap (find n) (held-table h) ∙ lean-find n table

  found_none : find n (table_of rows b live) ≡ none → find n table ≡ none
  found_none e = go (find n table) (sym find-held ∙ e)
    where
      go : (o : Option Definition) → map lean_definition o ≡ none → o ≡ none
      go none f = refl
      go (some d) f = absurd (let z : ◌≡◌ {A = ℕ} 0 1 = cc in omega arith)

  found_some : (find n (table_of rows b live) ≡ none → ⊥) → none? (find n table) ≡ false
  found_some f = go (find n table) refl
    where
      go : (o : Option Definition) → find n table ≡ o → none? o ≡ false
      go none e = absurd (f (find-held ∙ ap (map lean_definition) e))
      go (some d) e = refl

-- the first of its number counts as nothing
first-counts : (c : Counts) (d : Definition) (table : Table) → find d.symbol table ≡ none → Recounts c c d table
unfolding counted
first-counts c d table e = record { ends = rw e; calls_same = refl; shapes-same = refl; at_most_one = omega arith }

again-counts : (c more : Counts) (d : Definition) (table : Table) → CountsRedefinition c more → none? (find d.symbol table) ≡ false → Recounts c more d table
again-counts c more d table one e = record {
  ends = one.ends d table e;
  calls_same = ap (λ (x : Counts). x.calls) one.is;
  shapes-same = ap (λ (x : Counts). x.shapes) one.is;
  at_most_one = let n : more.redefinitions ≡ c.redefinitions + 1 = ap (λ (x : Counts). x.redefinitions) one.is in omega (arith, n);
}

-- one more, where none of its number is there
one_more : (d : Definition) (t : Table) → find d.symbol t ≡ none → length (enter d t) ≡ length t + 1
unfolding enter find
one_more d [] e = refl
one_more d (x ∷ t) e = go (eqb x.symbol d.symbol) (ltb d.symbol x.symbol) refl e (one_more d t)
  where
    other : eqb x.symbol d.symbol ≡ false → eqb d.symbol x.symbol ≡ false
    other q = ne_eqb d.symbol x.symbol (λ z. eqb-false x.symbol d.symbol q (sym z))

    go : (b c : Bool) → eqb x.symbol d.symbol ≡ b → (if b then some x else find d.symbol t) ≡ none
        → (find d.symbol t ≡ none → length (enter d t) ≡ length t + 1)
        → length (if c then d ∷ x ∷ t else if eqb d.symbol x.symbol then d ∷ t else x ∷ enter d t) ≡ suc (length t) + 1
    go true c q f g = absurd (let z : ◌≡◌ {A = ℕ} 0 1 = cc in omega arith)
    go false true q f g = omega arith
    go false false q f g = rw (other q) (let i = g f in omega arith)

-- ---- from the row to the definition

module _ {t : List ℕ} (rows : List ℕ) (b : List ℤ) {from : Spot} {start : Start} {counts after_it : Counts} (h : Open t from start.a start.b) (table : Table) where
  by_fill : (r : Result Taken Rule) → FillsBy t rows b from start after_it h table r → Recounts counts after_it (definition_of h start.symbol start.place) table
      → length (enter (bare start.symbol start.place) table) ≤ most_definitions → Defines t rows b from start counts h table r
  unfolding FillsBy Defines
  by_fill (Ok taken) f n l = record {
    kept = f.kept;
    few = omega (arith, f.kept.holds.many, f.kept.sorted.few);
    counts_so = n.ends ∙ ap (λ (x : Counts). finished (tally x)) (sym f.same_counts);
    same_calls = ap (λ (x : Counts). x.calls) f.same_counts ∙ n.calls_same;
    same_shapes = ap (λ (x : Counts). x.shapes) f.same_counts ∙ n.shapes-same;
    redefined = let e : taken.counts.redefinitions ≡ after_it.redefinitions = ap (λ (x : Counts). x.redefinitions) f.same_counts in omega (arith, e, n.at_most_one);
    passes = f.passes;
    fit = f.fit;
    ahead = f.ahead;
  }
  by_fill (Err TooFewWords) f n l = (let e = enter_long start.symbol start.place (retained h.standing h.commands) [] table in omega (arith, e, l), f)
  by_fill (Err _) f n l = absurd f

-- the stock after the row was entered
abbrev pub stock_over : Stock → ℕ → Stock
stock_over stock freed = record { live = stock.live; used = stock.used; needed = stock.needed - freed }

abbrev pub stock_in : Stock → Stock
stock_in stock = record { live = stock.live + 1; used = stock.used; needed = stock.needed }

module _ {t : List ℕ} {rows : List ℕ} {b : List ℤ} {stock : Stock} {from : Spot} {start : Start} (g : Begins t rows b stock from start) (text_short : length t ≤ most_bytes)
    (r : Maybe Begun) (rows' : List ℕ) (k : BeginsRow rows stock.live start.symbol start.place r rows') where
  -- instead of one of its number
  module _ {i freed : ℕ} (e : r ≡ Some (Replaced i freed)) where
    over : Entry rows stock.live start.symbol start.place rows' stock.live i (λ j. j) × (freed ≡ needed_at rows i) × (symbol_at rows i ≡ start.symbol) × ((b : List ℤ) → find start.symbol (table_of rows b stock.live) ≡ none → ⊥)
    unfolding BeginsRow
    over = subst (λ (x : Maybe Begun). BeginsRow rows stock.live start.symbol start.place x rows') e k

    sums : (table : Table) → Kept rows b stock table → needed_in rows' stock.live + freed ≡ stock.needed
    sums table h = omega (arith, needed-over rows stock.live start.symbol start.place rows' i over.0, over.1, held-needed h.holds, h.needs)

    pub freed_within : freed ≤ stock.needed
    freed_within = omega (arith, sums g.table g.kept)

    pub filling_over : Filling t rows' b (stock_over stock freed) i from start
    filling_over = record {
      opens = g.opens;
      growing = begun over.0 b stock.used g.kept.stocked g.kept.laid g.kept.fits;
      empty = begun-empty over.0 b;
      free = over.0.free;
      symbol_is = over.0.symbol_is;
      few_needed = omega (arith, g.kept.needs, g.kept.enough, g.kept.short);
      text_short = text_short;
      run_short = g.kept.short;
    }

    pub defines-over : {counts more : Counts} → CountsRedefinition counts more → {d : Result Taken Rule} {rows'' : List ℕ} {b'' : List ℤ} → FillsAt t rows' b (stock_over stock freed) from start more d rows'' b''
        → DefinesAt t rows b stock from start counts d rows'' b''
    defines-over {counts} {more} one {d} {rows''} {b''} f = record {
      size = f.size;
      defines = λ h table kept.
          let held = holds-over b over.0 over.2 kept.holds in
          by_fill rows'' b'' h table d (f.fills h table held (omega (arith, sums table kept, held-needed held)))
          (again-counts counts more (definition_of h start.symbol start.place) table one (found_some kept.holds start.symbol (over.3 b)))
          (omega (arith, held.many, over.0.sorted.few));
    }

  -- beside the others
  module _ {i : ℕ} (e : r ≡ Some (Added i)) where
    beside : Entry rows stock.live start.symbol start.place rows' (stock.live + 1) i (before i) × ((b : List ℤ) → find start.symbol (table_of rows b stock.live) ≡ none)
    unfolding BeginsRow
    beside = subst (λ (x : Maybe Begun). BeginsRow rows stock.live start.symbol start.place x rows') e k

    pub filling_in : Filling t rows' b (stock_in stock) i from start
    filling_in = record {
      opens = g.opens;
      growing = begun beside.0 b stock.used g.kept.stocked g.kept.laid g.kept.fits;
      empty = begun-empty beside.0 b;
      free = beside.0.free;
      symbol_is = beside.0.symbol_is;
      few_needed = omega (arith, g.kept.needs, g.kept.enough, g.kept.short);
      text_short = text_short;
      run_short = g.kept.short;
    }

    pub defines_in : {counts : Counts} {d : Result Taken Rule} {rows'' : List ℕ} {b'' : List ℤ} → FillsAt t rows' b (stock_in stock) from start counts d rows'' b'' → DefinesAt t rows b stock from start counts d rows'' b''
    defines_in {counts} {d} {rows''} {b''} f = record {
      size = f.size;
      defines = λ h table kept.
          let held = holds_in b beside.0 kept.holds in
          by_fill rows'' b'' h table d
          (f.fills h table held (omega (arith, needed_in_lem rows stock.live start.symbol start.place rows' i beside.0, held-needed held, held-needed kept.holds, kept.needs)))
          (first-counts counts (definition_of h start.symbol start.place) table (found_none kept.holds start.symbol (beside.1 b)))
          (omega (arith, held.many, beside.0.sorted.few));
    }

  -- 512 others are live
  pub defines_full : r ≡ None → {counts : Counts} → DefinesAt t rows b stock from start counts (Err TooManyDefinitions) rows' b
  unfolding BeginsRow Defines
  defines_full e =
      let f = subst (λ (x : Maybe Begun). BeginsRow rows stock.live start.symbol start.place x rows') e k in
      record {
        size = refl;
        defines = λ h table kept.
            let m = one_more (definition_of h start.symbol start.place) table (found_none kept.holds start.symbol (f.2 b)) in
            omega (arith, m, kept.holds.many, f.1);
      }
