-- Where a pass over a text stands between two commands, outside of definitions: what is told from here on, and the table that the memory holds. And what each
-- kind of command makes of it: which deed it does, and what is left to do. Every pass goes by these laws, whether it draws or not.
-- Assumes nothing.
use Rattle.std.specs.Prelude.{Result, Ok}
use mathlib.Core.Path.{◌≡◌, refl, sym, ap, ◌∙◌, subst}
use mathlib.Core.Bool.{true, false}
use mathlib.Core.List.{List, [], ◌∷◌, ◌++◌}
use Prim.Native.Nat.{ℕ, ◌+◌, ◌^◌, ◌≤◌, ◌<◌}
use native.Mathlib.Omega.{arith}
use lib.IntN.{ℤ, pos, nat_abs}
use lib.ListN.{length, drop, get_or}
use lib.Seq.{get_or-drop}
use Rattle.definition.specs.declared.Rule.{Rule}
use Rattle.definition.specs.Words.{Placed, at}
use Rattle.definition.specs.Commands.{Number, Command, layer, start, delete, commands}
use Rattle.definition.specs.Standing.{Standing, outside, after}
use Rattle.definition.specs.Table.{Definition, Table, enter, forget}
use Rattle.definition.specs.Drawing.{retained, Deed, define, remove, deed_of, deeds}
use Rattle.definition.specs.Held.{words_in}
use Rattle.laws.proofs.Story.WordSums.{words_forget-less}
use Rattle.names.specs.Names.{name_of}
use Rattle.pieces.specs.Pieces.{stream, letter_s, too_large}
use Rattle.pieces.specs.Pieces.{start as text_start}
use Rattle.pieces.specs.declared.Spot.{Spot}
use Rattle.rules.specs.Written.{Written, written}
use Rattle.commands.specs.Words.{DecodedOne}
use Rattle.counts.specs.declared.Counts.{Counts}
use Rattle.moves.specs.Moves.{most_values}
use Rattle.library.specs.Memory.{needed_in, row_numbers}
use Rattle.library.specs.Rows.{Sorted}
use Rattle.library.proofs.Forgetting.{laid_fewer, stocked_fewer}
use Rattle.library.proofs.Holding.{held-needed, holds_none, holds_fewer}
use Rattle.keeping.specs.Voices.{Told}
use Rattle.keeping.specs.Keeping.{most_words, Kept, Open, definition_of, Begins, Takes, Defines, DefinesAt}
use Rattle.keeping.specs.declared.Start.{Start}
use Rattle.keeping.specs.declared.Stock.{Stock}
use Rattle.keeping.specs.declared.Taken.{Taken}
use Rattle.passing.specs.Passed.{Passed, start_in, Deletes}
use Rattle.passing.proofs.Voices.{told_text}
use Rattle.passing.proofs.Letters.{is_start}
use Rattle.passing.proofs.Reading.{Met, meets}

-- ---- the memory

pub kept_none : (rows : List ℕ) (b : List ℤ) → length rows ≡ row_numbers → length b ≤ most_words → Kept rows b (record { live = 0; used = 0; needed = 0 }) []
unfolding words_in
kept_none rows b e h = record {
  holds = holds_none rows b;
  stocked = record { few = omega arith; within = λ i l. absurd (omega (arith, l)); sound = λ i l. absurd (omega (arith, l)) };
  laid = record { few = omega arith; sized = e; within = λ i l. absurd (omega (arith, l)); apart = λ i j l. absurd (omega (arith, l)) };
  sorted = record { few = omega arith; rising = λ i j l k. absurd (omega (arith, k)) };
  fits = omega arith;
  needs = refl;
  enough = omega arith;
  short = h;
}

module _ {rows : List ℕ} {b : List ℤ} {stock : Stock} {t : Table} (k : Kept rows b stock t) where
  -- what `delete` asks
  pub needed_now : stock.needed ≡ needed_in rows stock.live
  needed_now = k.needs ∙ sym (held-needed k.holds)

  pub kept_fewer : {n : ℕ} {r : Stock} → Deletes rows stock n r → Kept rows b r (forget n t)
  kept_fewer {n} {r} d =
      let fewer = holds_fewer d.forgets.parted b k.holds in
      let left = d.forgets.parted.within in
      record {
        holds = fewer;
        stocked = stocked_fewer k.stocked left;
        laid = laid_fewer k.laid left (omega (arith, d.same_used));
        sorted = d.forgets.sorted;
        fits = omega (arith, k.fits, d.same_used);
        needs = d.needs ∙ held-needed fewer;
        enough = omega (arith, k.enough, words_forget-less n t);
        short = k.short;
      }

-- ---- between two commands

pub record Stands (t : List ℕ) (rows : List ℕ) (b : List ℤ) (stock : Stock) (spot : Spot) : Type 0 where
  pub standing : Standing
  pub commands : List (Placed Command)
  pub told : Told standing (written (stream t spot)) commands
  pub closed : standing.inside ≡ false
  pub same_a : standing.a ≡ 1
  pub same_b : standing.b ≡ 1
  pub table : Table
  pub kept : Kept rows b stock table

abbrev pub nothing_kept : Stock
nothing_kept = record { live = 0; used = 0; needed = 0 }

-- what is left to do
abbrev pub to_do : {t rows : List ℕ} {b : List ℤ} {stock : Stock} {spot : Spot} → Stands t rows b stock spot → List Deed
to_do s = deeds s.standing s.commands

abbrev pub at_start : {t : List ℕ} (p : Passed t) (rows : List ℕ) (b : List ℤ) → length rows ≡ row_numbers → length b ≤ most_words → Stands t rows b nothing_kept text_start
at_start p rows b e h = record {
  standing = outside [];
  commands = commands 0 p.letters;
  told = told_text p.marked p.short p.clear;
  closed = refl;
  same_a = refl;
  same_b = refl;
  table = [];
  kept = kept_none rows b e h;
}

-- what an L command leaves as it is, and that a DD leaves all
pub after-layer : (l : List ℕ) (σ : Standing) → ((after (layer l) σ).inside ≡ σ.inside) × ((after (layer l) σ).a ≡ σ.a) × ((after (layer l) σ).b ≡ σ.b)
unfolding after
after-layer l σ = (refl, refl, refl)

pub after-delete : (i : Number) (σ : Standing) → after (delete i) σ ≡ σ
unfolding after
after-delete i σ = refl

module _ {t rows : List ℕ} {b : List ℤ} {stock : Stock} {spot : Spot} (s : Stands t rows b stock spot) where
  abbrev σ : Standing
  σ = s.standing

  -- what `delete` asks of the memory
  pub deletable : Sorted rows stock.live × (stock.needed ≡ needed_in rows stock.live) × (stock.needed < 2 ^ 64)
  deletable = let k = s.kept in (k.sorted, needed_now k, omega (arith, k.needs, k.enough, k.short))

  -- the command that was read
  pub met : {account : Written} {kind place n : ℕ} {to : Spot} {words words' : List ℤ} → most_values + 2 ≤ length words → DecodedOne t spot 1 1 account words kind place n to words'
      → Met t σ s.commands kind place n to words'
  met long r = meets s.told s.same_a s.same_b long r

  module _ {k p n : ℕ} {to : Spot} {words : List ℤ} (m : Met t σ s.commands k p n to words) where
    pub deeds_are : {d : Command} → m.command ≡ d → to_do s ≡ deeds σ (at p d ∷ m.rest)
    deeds_are e = ap (deeds σ) (m.are ∙ ap (λ (x : Command). at p x ∷ m.rest) e)

    pub told_then : {d : Command} → m.command ≡ d → Told (after d σ) (written (stream t to)) m.rest
    told_then e = subst (λ (d : Command). Told (after d σ) (written (stream t to)) m.rest) e m.told

    pub told_on : after m.command σ ≡ σ → Told σ (written (stream t to)) m.rest
    told_on e = subst (λ (x : Standing). Told x (written (stream t to)) m.rest) e m.told

    -- ---- a layer is set

    abbrev pub past_layer : (v : ℕ) → m.command ≡ layer (name_of v) → Stands t rows b stock to
    past_layer v e = record {
      standing = after (layer (name_of v)) σ;
      commands = m.rest;
      told = told_then e;
      closed = (after-layer (name_of v) σ).0 ∙ s.closed;
      same_a = (after-layer (name_of v) σ).1 ∙ s.same_a;
      same_b = (after-layer (name_of v) σ).2 ∙ s.same_b;
      table = s.table;
      kept = s.kept;
    }

    pub layer-left : (v : ℕ) (e : m.command ≡ layer (name_of v)) → to_do s ≡ to_do (past_layer v e)
    unfolding deeds deed_of
    layer-left v e = deeds_are e

    -- ---- entries of this number or more are removed

    abbrev pub past_delete : (i : Number) → m.command ≡ delete i → {stock' : Stock} → Deletes rows stock (nat_abs i.what) stock' → Stands t rows b stock' to
    past_delete i e q = record {
      standing = σ;
      commands = m.rest;
      told = told_on (ap (λ (d : Command). after d σ) e ∙ after-delete i σ);
      closed = s.closed;
      same_a = s.same_a;
      same_b = s.same_b;
      table = forget (nat_abs i.what) s.table;
      kept = kept_fewer s.kept q;
    }

    pub delete-left : (i : Number) → m.command ≡ delete i → to_do s ≡ remove (at p (nat_abs i.what)) ∷ deeds σ m.rest
    unfolding after deeds deed_of
    delete-left i e = deeds_are e

    -- ---- a command that changes nothing of this

    abbrev pub past_other : after m.command σ ≡ σ → Stands t rows b stock to
    past_other e = record {
      standing = σ;
      commands = m.rest;
      told = told_on e;
      closed = s.closed;
      same_a = s.same_a;
      same_b = s.same_b;
      table = s.table;
      kept = s.kept;
    }

    -- ---- a definition

    module _ (e : k ≡ letter_s) where
      -- what its words say
      values_in : let i = is_start m.voice e in (drop 2 words ≡ i.n.what ∷ i.a.what ∷ i.b.what ∷ m.behind_it)
      values_in = let i = is_start m.voice e in m.laid ∙ ap (λ (vs : List ℤ). vs ++ m.behind_it) i.values_are

      word_in : (j : ℕ) → get_or words (2 + j) (pos 0) ≡ (let i = is_start m.voice e in get_or (i.n.what ∷ i.a.what ∷ i.b.what ∷ m.behind_it) j (pos 0))
      word_in j = sym (get_or-drop 2 words j (pos 0)) ∙ ap (λ (vs : List ℤ). get_or vs j (pos 0)) values_in

      abbrev pub begins : Start
      begins = start_in words p

      symbol_in : begins.symbol ≡ nat_abs (is_start m.voice e).n.what
      symbol_in = ap nat_abs (word_in 0)

      a_in : nat_abs (is_start m.voice e).a.what ≡ begins.a
      a_in = sym (ap nat_abs (word_in 1))

      b_in : nat_abs (is_start m.voice e).b.what ≡ begins.b
      b_in = sym (ap nat_abs (word_in 2))

      most_in : (begins.a ≤ too_large) × (1 ≤ begins.b)
      most_in = let i = is_start m.voice e in (omega (arith, i.most_a, a_in), omega (arith, i.some_b, b_in))

      -- what stands after it
      abbrev pub open_there : Standing
      open_there = let i = is_start m.voice e in after (start i.n i.a i.b) σ

      pub stands_open : (open_there.inside ≡ true) × (open_there.a ≡ begins.a) × (open_there.b ≡ begins.b) × (open_there.layer_set ≡ [])
      unfolding after
      stands_open = (refl, a_in, b_in, refl)

      abbrev pub text-opens : Open t to begins.a begins.b
      text-opens = record {
        standing = open_there;
        commands = m.rest;
        told = told_then (is_start m.voice e).is;
        opened = stands_open.0;
        same_a = stands_open.1;
        same_b = stands_open.2;
        no_layer_lem = stands_open.3;
      }

      abbrev pub made : Definition
      made = definition_of text-opens begins.symbol p

      pub define-left : to_do s ≡ define made ∷ deeds open_there m.rest
      unfolding deeds deed_of
      define-left =
          let i = is_start m.voice e in
          deeds_are i.is
          ∙ ap (λ (x : ℕ). define (record { symbol = x; place = p; body = retained open_there m.rest }) ∷ deeds open_there m.rest) (sym symbol_in)

      abbrev pub past_define : {rows' : List ℕ} {b' : List ℤ} {stock' : Stock} {c c' : Counts} {to' : Spot}
          → Takes t rows' b' to begins c text-opens s.table stock' c' to' → Stands t rows' b' stock' to'
      past_define x = record {
        standing = outside open_there.layer_outside;
        commands = x.passes.rest;
        told = x.passes.told;
        closed = refl;
        same_a = refl;
        same_b = refl;
        table = enter made s.table;
        kept = x.kept;
      }

      -- ---- what `define` asks, and what comes of it

      module _ (start : Start) (q : start ≡ start_in words p) where
        pub start-within : (start.a ≤ too_large) × (1 ≤ start.b)
        start-within = subst (λ (x : Start). (x.a ≤ too_large) × (1 ≤ x.b)) (sym q) most_in

        pub may_define : Begins t rows b stock to start
        may_define = subst (λ (x : Start). Begins t rows b stock to x) (sym q) (record { table = s.table; kept = s.kept; opens = text-opens })

        module _ {rows' : List ℕ} {b' : List ℤ} {c : Counts} {d : Result Taken Rule} (defines : DefinesAt t rows b stock to start c d rows' b') where
          pub comes : {x : Result Taken Rule} → d ≡ x → Defines t rows' b' to begins c text-opens s.table x
          comes f =
              subst (Defines t rows' b' to begins c text-opens s.table) f
              ((subst (λ (x : Start). DefinesAt t rows b stock to x c d rows' b') q defines).defines text-opens s.table s.kept)

          pub takes : {taken : Taken} → d ≡ Ok taken → Takes t rows' b' to begins c text-opens s.table taken.stock taken.counts taken.to
          unfolding Defines
          takes f = comes f
