-- A text drawn command by command, outside its definitions: what is left from here is what was to be drawn at its start, held to the words lent.
-- Assumes nothing.
use Rattle.std.specs.Prelude.{Result, Ok, Err}
use mathlib.Core.Path.{◌≡◌, refl, sym, ap, ◌∙◌, subst}
use mathlib.Core.Bool.{true, false}
use mathlib.Core.List.{List, [], ◌∷◌, ◌++◌, map}
use Prim.Native.Nat.{ℕ, ◌+◌, ◌≤◌, ◌<◌}
use native.Mathlib.Omega.{arith}
use borrow.Author.Tests.{lt-ltb, le-ltb}
use lib.IntN.{ℤ, nat_abs}
use lib.ListN.{length}
use Rattle.definition.specs.declared.Rule.{Rule}
use Rattle.definition.specs.declared.Rule.TheVariants.{TooManyDefinitions, TooFewWords}
use Rattle.definition.specs.declared.Refusal.{Refusal}
use Rattle.definition.specs.Limits.{most_definitions}
use Rattle.definition.specs.Words.{Placed, at}
use Rattle.definition.specs.Rules.{refuse}
use Rattle.definition.specs.Commands.{Number, Command, layer, delete}
use Rattle.definition.specs.Standing.{Standing, after}
use Rattle.definition.specs.Table.{Step, Definition, Table, enter}
use Rattle.definition.specs.Drawing.{Deed, output, define, remove, deeds, Chain, Event, entered, removed, refused, happens, table_after, story}
use Rattle.definition.specs.Counts.{counted, shapes_of}
use Rattle.definition.specs.Held.{words_in, held_to}
use Rattle.laws.proofs.Story.HeldStory.{held-output, held-remove, held-define, held-story}
use Rattle.laws.proofs.Story.Lean.{alike_output}
use Rattle.names.specs.Names.{name_of}
use Rattle.pen.proofs.Names.{no_name}
use Rattle.pieces.specs.Pieces.{stream, letter_s}
use Rattle.pieces.specs.Pieces.{start as text_start}
use Rattle.pieces.specs.declared.Spot.{Spot}
use Rattle.rules.specs.Letters.{letter_d, letter_l}
use Rattle.rules.specs.Written.{written}
use Rattle.counts.specs.declared.Counts.{Counts}
use Rattle.moves.specs.Moves.{most_values}
use Rattle.chain.specs.Chain.{chain_in}
use Rattle.shapes.specs.declared.Ink.{Ink}
use Rattle.shapes.specs.Painting.{inked, Painted}
use Rattle.shapes.proofs.Painting.{PaintedSoFar, begun, so_far, goes_on, skips, stops, over, quiet, refusal}
use Rattle.shapes.proofs.Alike.{alike_painted}
use Rattle.library.specs.Memory.{row_numbers}
use Rattle.library.proofs.Holding.{held-table}
use Rattle.keeping.specs.Keeping.{most_words, Takes, Defines}
use Rattle.keeping.specs.declared.Stock.{Stock}
use Rattle.engine.specs.Outer.{Says, OuterDraws}
use Rattle.passing.specs.Passed.{Passed, to_draw, dry, outputs, Deletes}
use Rattle.passing.proofs.Reading.{Met, none_met}
use Rattle.passing.proofs.Stands.{Stands, nothing_kept, to_do, at_start, deeds_are, past_layer, layer-left, past_delete, delete-left, past_other, begins, open_there, text-opens, made, define-left, past_define}
use Rattle.passing.proofs.Outer.{is_output, is_idle}
use Rattle.passing.proofs.Redefinitions.{painted_same}

-- ---- between two commands: where the pass stands, the packed layer, the ink and the room as they are

pub record Onward (t : List ℕ) (w : ℕ) (all : List Event) (room₀ : List ℕ) (rows : List ℕ) (b : List ℤ) (stock : Stock) (spot : Spot) (layer : ℕ) (ink : Ink) (room : List ℕ) : Type 0 where
  pub stands : Stands t rows b stock spot
  pub layer_is : name_of layer ≡ stands.standing.layer_set
  pub going : PaintedSoFar (map (held_to w) all) dry room₀ (map (held_to w) (story stands.table (to_do stands))) ink room

pub start-text : {t : List ℕ} (p : Passed t) (w : ℕ) (room rows : List ℕ) (b : List ℤ) → length rows ≡ row_numbers → length b ≤ most_words
    → Onward t w (to_draw p) room rows b nothing_kept text_start 0 dry room
start-text p w room rows b e h = record {
  stands = at_start p rows b e h;
  layer_is = no_name 0 refl;
  going = begun (map (held_to w) (to_draw p)) dry room (record { calls_most = omega arith; shapes_most = omega arith; place_most = omega arith });
}

-- ---- what a definition comes to

module _ (w : ℕ) (t : Table) (d : Definition) where
  abbrev held : List Event
  held = map (held_to w) (happens t (define d))

  defined_is : length (enter d t) ≤ most_definitions → words_in (enter d t) ≤ w → held ≡ entered d t ∷ []
  defined_is h g = held-define w t d ∙ rw (le-ltb most_definitions (length (enter d t)) h, le-ltb w (words_in (enter d t)) g)

  overfull_is : most_definitions < length (enter d t) → held ≡ refused (refuse TooManyDefinitions d.place) [] ∷ []
  overfull_is h = held-define w t d ∙ rw (lt-ltb most_definitions (length (enter d t)) h)

  short_is : length (enter d t) ≤ most_definitions → w < words_in (enter d t) → held ≡ refused (refuse TooFewWords d.place) [] ∷ []
  short_is h g = held-define w t d ∙ rw (le-ltb most_definitions (length (enter d t)) h, lt-ltb w (words_in (enter d t)) g)

module _ {t : List ℕ} {w : ℕ} {all : List Event} {room₀ rows : List ℕ} {b : List ℤ} {stock : Stock} {spot : Spot} {l : ℕ} {ink : Ink} {room : List ℕ}
    (g : Onward t w all room₀ rows b stock spot l ink room) where
  abbrev σ : Standing
  σ = g.stands.standing

  abbrev Next : List ℕ → List ℤ → Stock → Spot → ℕ → Ink → List ℕ → Type 0
  Next rows' b' stock' to l' ink' room' = Onward t w all room₀ rows' b' stock' to l' ink' room'

  abbrev After : Table → List Deed → Ink → List ℕ → Type 0
  After table ds ink' room' = PaintedSoFar (map (held_to w) all) dry room₀ (map (held_to w) (story table ds)) ink' room'

  -- no command is left
  pub text_out : written (stream t spot) ≡ [] → {chain : Chain} → Painted dry (map (held_to w) all) room₀ chain (Ok ink) room
  unfolding deeds story
  text_out e = over g.going (ap (λ (ds : List (Placed Command)). map (held_to w) (story g.stands.table (deeds σ ds))) (none_met t spot g.stands.told e))

  -- a command does nothing
  passes_by : (ds : List Deed) → to_do g.stands ≡ ds → After g.stands.table ds ink room
  passes_by ds e = skips g.going _ (ap (λ (x : List Deed). map (held_to w) (story g.stands.table x)) e)

  module _ (d : Deed) (ds : List Deed) (e : to_do g.stands ≡ d ∷ ds) where
    left_is : map (held_to w) (story g.stands.table (to_do g.stands)) ≡ map (held_to w) (happens g.stands.table d) ++ map (held_to w) (story (table_after g.stands.table d) ds)
    left_is = ap (λ (x : List Deed). map (held_to w) (story g.stands.table x)) e ∙ held-story w g.stands.table d ds

    -- it does a deed, which happens
    does : {chain : Chain} {ink' : Ink} {room' : List ℕ} → Painted ink (map (held_to w) (happens g.stands.table d)) room chain (Ok ink') room' → After (table_after g.stands.table d) ds ink' room'
    does x = goes_on g.going _ _ left_is x

    -- or is refused
    ends : {chain : Chain} {why : Refusal} {room' : List ℕ} → Painted ink (map (held_to w) (happens g.stands.table d)) room chain (Err why) room'
        → Painted dry (map (held_to w) all) room₀ chain (Err why) room'
    ends x = stops g.going _ _ left_is x

  module _ {k p n : ℕ} {to : Spot} {words : List ℤ} (m : Met t σ g.stands.commands k p n to words) where
    -- ---- a layer is set

    pub text-layer : (v : ℕ) → m.command ≡ layer (name_of v) → Next rows b stock to v ink room
    unfolding after
    text-layer v e = record {
      stands = past_layer g.stands m v e;
      layer_is = refl;
      going = passes_by (to_do (past_layer g.stands m v e)) (layer-left g.stands m v e);
    }

    -- ---- entries of this number or more are removed

    pub text-delete : (i : Number) → m.command ≡ delete i → {stock' : Stock} → Deletes rows stock (nat_abs i.what) stock' → Next rows b stock' to l ink room
    unfolding table_after happens counted shapes_of
    text-delete i e q = record {
      stands = past_delete g.stands m i e q;
      layer_is = g.layer_is;
      going =
          let x = at p (nat_abs i.what) in
          does (remove x) (deeds σ m.rest) (delete-left g.stands m i e)
          (subst (λ (es : List Event). Painted ink es room [] (Ok ink) room) (sym (held-remove w g.stands.table x))
          (quiet ink ink.counts (removed x g.stands.table) room refl refl (so_far g.going)));
    }

    -- ---- a definition

    module _ (e : k ≡ letter_s) where
      abbrev new : Definition
      new = made g.stands m e

      abbrev Taken : List ℕ → List ℤ → Stock → Counts → Spot → Type 0
      Taken rows' b' stock' c' to' = Takes t rows' b' to (begins g.stands m e) ink.counts (text-opens g.stands m e) g.stands.table stock' c' to'

      pub text_defined : {rows' : List ℕ} {b' : List ℤ} {stock' : Stock} {c' : Counts} {to' : Spot} → length b' ≡ w → Taken rows' b' stock' c' to'
          → Next rows' b' stock' to' l (inked c' ink.pen) room
      unfolding after table_after shapes_of
      text_defined {c' = c'} size x =
          let r = so_far g.going in
          record {
            stands = past_define g.stands m e x;
            layer_is = g.layer_is;
            going =
                subst (λ (ds : List Deed). After (enter new g.stands.table) ds (inked c' ink.pen) room) x.passes.left
                (does (define new) (deeds (open_there g.stands m e) m.rest) (define-left g.stands m e)
                (subst (λ (es : List Event). Painted ink es room [] (Ok (inked c' ink.pen)) room)
                (sym (defined_is w g.stands.table new x.few (let h = x.kept.enough in omega (arith, size, h))))
                (quiet ink c' (entered new g.stands.table) room x.counts_so refl
                (record { calls_most = omega (arith, r.calls_most, x.same_calls); shapes_most = omega (arith, r.shapes_most, x.same_shapes); place_most = omega (arith, r.place_most, x.same_shapes) }))));
          }

      -- refused outside of every call
      text-refused : (why : Refusal) → map (held_to w) (happens g.stands.table (define new)) ≡ refused why [] ∷ [] → Painted dry (map (held_to w) all) room₀ [] (Err why) room
      unfolding counted
      text-refused why is =
          ends (define new) (deeds (open_there g.stands m e) m.rest) (define-left g.stands m e)
          (subst (λ (es : List Event). Painted ink es room [] (Err why) room) (sym is) (refusal ink _ [] room _ [] refl))

      pub text-unkept : (rows' : List ℕ) (b' : List ℤ) → length b' ≡ w → (rule : Rule)
          → Defines t rows' b' to (begins g.stands m e) ink.counts (text-opens g.stands m e) g.stands.table (Err rule)
          → Painted dry (map (held_to w) all) room₀ [] (Err (refuse rule p)) room
      unfolding Defines
      text-unkept rows' b' size TooManyDefinitions h = text-refused _ (overfull_is w g.stands.table new h)
      text-unkept rows' b' size TooFewWords h = text-refused _ (short_is w g.stands.table new h.0 (let j = h.1 in omega (arith, size, j)))
      text-unkept rows' b' size _ h = absurd h

    -- ---- any other command

    module _ (no_l : k ≡ letter_l → ⊥) (no_d : k ≡ letter_d → ⊥) (no_s : k ≡ letter_s → ⊥) where
      pub text-idle : outputs k ≡ false → Next rows b stock to l ink room
      text-idle e =
          let i = is_idle g.stands.closed p m.rest m.voice e no_l no_d no_s in
          record {
            stands = past_other g.stands m i.stays;
            layer_is = g.layer_is;
            going = passes_by (deeds σ m.rest) (deeds_are g.stands m refl ∙ i.deed);
          }

      module _ (e : outputs k ≡ true) (long : most_values + 2 ≤ length words) where
        abbrev shown : Step
        shown = (is_output g.stands.closed p m.rest m.voice e no_l no_d no_s).step

        pub text_says : Says words k n (name_of l) shown
        text_says =
            subst (λ (x : List ℕ). Says words k n x shown) (sym g.layer_is)
            ((is_output g.stands.closed p m.rest m.voice e no_l no_d no_s).said words m.behind_it n m.laid m.ends m.few long)

        module _ (drawing' : List ℕ) {r : Result Ink Refusal} {room' : List ℕ} (x : OuterDraws rows b stock.live words k p n l ink room drawing' r room') where
          -- drawn from the lean table, it is drawn as from the whole
          text_painted : Painted ink (happens g.stands.table (output (at p shown))) room (chain_in drawing') r room'
          text_painted =
              alike_painted (alike_output g.stands.table (at p shown)) ink
              (subst (λ (y : Table). Painted ink (happens y (output (at p shown))) room (chain_in drawing') r room') (held-table g.stands.kept.holds) (x shown text_says))

          held_painted : Painted ink (map (held_to w) (happens g.stands.table (output (at p shown)))) room (chain_in drawing') r room'
          held_painted = subst (λ (es : List Event). Painted ink es room (chain_in drawing') r room') (sym (held-output w g.stands.table (at p shown))) text_painted

          deed_shown : to_do g.stands ≡ output (at p shown) ∷ deeds σ m.rest
          deed_shown = deeds_are g.stands m refl ∙ (is_output g.stands.closed p m.rest m.voice e no_l no_d no_s).deed

          pub text_same : {ink' : Ink} → r ≡ Ok ink' → ink'.counts.redefinitions ≡ ink.counts.redefinitions
          text_same q = painted_same g.stands.table (at p shown) text_painted q

          pub text-drawn : {ink' : Ink} → r ≡ Ok ink' → Next rows b stock to l ink' room'
          unfolding table_after
          text-drawn {ink'} q = record {
            stands = past_other g.stands m (is_output g.stands.closed p m.rest m.voice e no_l no_d no_s).stays;
            layer_is = g.layer_is;
            going =
                does (output (at p shown)) (deeds σ m.rest) deed_shown
                (subst (λ (y : Result Ink Refusal). Painted ink (map (held_to w) (happens g.stands.table (output (at p shown)))) room (chain_in drawing') y room') q held_painted);
          }

          pub text-stopped : {why : Refusal} → r ≡ Err why → Painted dry (map (held_to w) all) room₀ (chain_in drawing') (Err why) room'
          text-stopped {why} q =
              ends (output (at p shown)) (deeds σ m.rest) deed_shown
              (subst (λ (y : Result Ink Refusal). Painted ink (map (held_to w) (happens g.stands.table (output (at p shown)))) room (chain_in drawing') y room') q held_painted)
