-- A text drawn command by command up to its next call, outside its definitions: what is left from here is what was to be drawn at its start, held to the words and to
-- the records lent. Where a pass stands is crate passing's (proofs/Stands.antt).
-- Assumes nothing.
use mathlib.Core.Path.{◌≡◌, refl, sym, ap, ◌∙◌, subst}
use mathlib.Core.Bool.{true, false}
use mathlib.Core.List.{List, [], ◌∷◌, ◌++◌, map, map-append}
use Prim.Native.Nat.{ℕ, ◌+◌, ◌-◌, ◌≤◌, ◌<◌}
use native.Mathlib.Omega.{arith}
use borrow.Author.Tests.{lt-ltb, le-ltb}
use lib.Dec.{T}
use lib.Signed.{non_neg}
use lib.IntN.{ℤ, pos, nat_abs}
use lib.ListN.{length, get_or}
use mir.Syntax.{w32}
use mir.Val.{Fits, SFits, to_z, of_z}
use mir.Facts.{to_z-of_z}
use Rattle.definition.specs.Limits.{most_definitions}
use Rattle.definition.specs.Words.{Placed, at}
use Rattle.definition.specs.declared.Rule.TheVariants.{TooManyDefinitions, TooFewWords}
use Rattle.definition.specs.Rules.{refuse}
use Rattle.definition.specs.Commands.{Command, layer}
use Rattle.definition.specs.Standing.{Standing, after}
use Rattle.definition.specs.Table.{Step, Definition, Table, enter}
use Rattle.definition.specs.Drawing.{Deed, output, define, remove, deeds, Chain, Event, entered, removed, refused, happens, table_after, story}
use Rattle.definition.specs.Counts.{counted, shapes_of}
use Rattle.definition.specs.Held.{words_in, held_to}
use Rattle.definition.specs.Records.{stacked_to}
use Rattle.definition.specs.declared.Refusal.{Refusal}
use Rattle.laws.proofs.Story.HeldStory.{held-output, held-remove, held-define, held-story}
use Rattle.laws.proofs.Story.Lean.{Alike, alike_output}
use Rattle.reasons.specs.Parts.{StopsIn}
use Rattle.reasons.proofs.Parts.{stops-part, stops_alike, stops-both}
use Rattle.names.specs.Names.{name_of}
use Rattle.pieces.specs.Pieces.{stream, letter_s, too_large}
use Rattle.pieces.specs.declared.Spot.{Spot}
use Rattle.rules.specs.Letters.{letter_d, letter_l}
use Rattle.rules.specs.Written.{Written, written}
use Rattle.commands.specs.Words.{DecodedOne}
use Rattle.counts.specs.Counting.{tally}
use Rattle.moves.specs.Moves.{most_values}
use Rattle.shapes.specs.declared.Ink.{Ink}
use Rattle.shapes.specs.Painting.{inked, Goes, Answered, Painted}
use Rattle.shapes.proofs.Painting.{PaintedSoFar, so_far, goes_on, skips, stops, over, quiet, refusal}
use Rattle.shapes.proofs.Alike.{alike_painted}
use Rattle.library.proofs.Holding.{held-table}
use Rattle.keeping.specs.Keeping.{Begins, Defines, DefinesAt}
use Rattle.keeping.specs.declared.Start.{Start}
use Rattle.keeping.specs.declared.Stock.{Stock}
use Rattle.engine.specs.Outer.{Says}
use Rattle.engine.proofs.Heads.{natural_fits}
use Rattle.passing.specs.Passed.{outputs, start_in, Deletes}
use Rattle.passing.proofs.Letters.{is_delete}
use Rattle.passing.proofs.Reading.{Met, none_met, third_word, met_layer}
use Rattle.passing.proofs.Stands.{to_do, met, deeds_are, past_layer, layer-left, past_delete, delete-left, past_other, begins, open_there, text-opens, made, define-left, past_define, start-within, may_define, comes, takes}
use Rattle.passing.proofs.Outer.{is_output, is_idle}
use Rattle.opening.specs.declared.Call.{Call}
use Rattle.between.specs.declared.Stand.{Stand}
use Rattle.between.specs.Texts.{held_story, held_deed, Origin, Paused, shown_by, OuterOpens, OuterCase, OuterBy, OuterComes, TextCase, TextBy}
use Rattle.between.proofs.Redefined.{alike_stacked, shown_same}
use Rattle.std.specs.Prelude.{Err, Ok, Result}
use Rattle.keeping.specs.declared.Taken.{Taken}
use Rattle.definition.specs.declared.Rule.{Rule}
use Rattle.between.specs.declared.Text.{Text}
use Rattle.between.specs.declared.Outer.{Outer}
use Rattle.between.specs.declared.Text.TheVariants.{Over, Calls}
use Rattle.between.specs.declared.Outer.TheVariants.{Shown, Opens}

abbrev pub stand_at : Spot → ℕ → Stock → Stand
stand_at spot l stock = record { spot = spot; layer = l; stock = stock }

-- ---- what a deed comes to

module _ (n w : ℕ) (t : Table) where
  held_more : (d : Deed) (ds : List Deed) → held_story n w t (d ∷ ds) ≡ held_deed n w t d ++ held_story n w (table_after t d) ds
  held_more d ds = ap (map (stacked_to n)) (held-story w t d ds) ∙ map-append (stacked_to n) (map (held_to w) (happens t d)) (map (held_to w) (story (table_after t d) ds))

  removed_is : (x : Placed ℕ) → held_deed n w t (remove x) ≡ removed x t ∷ []
  unfolding happens stacked_to
  removed_is x = ap (map (stacked_to n)) (held-remove w t x)

  output_is : (s : Placed Step) → held_deed n w t (output s) ≡ map (stacked_to n) (happens t (output s))
  output_is s = ap (map (stacked_to n)) (held-output w t s)

  module _ (d : Definition) where
    defined_is : length (enter d t) ≤ most_definitions → words_in (enter d t) ≤ w → held_deed n w t (define d) ≡ entered d t ∷ []
    unfolding stacked_to
    defined_is h g =
        let e : map (held_to w) (happens t (define d)) ≡ entered d t ∷ [] = held-define w t d ∙ rw (le-ltb most_definitions (length (enter d t)) h, le-ltb w (words_in (enter d t)) g) in
        ap (map (stacked_to n)) e

    overfull_is : most_definitions < length (enter d t) → held_deed n w t (define d) ≡ refused (refuse TooManyDefinitions d.place) [] ∷ []
    unfolding stacked_to
    overfull_is h =
        let e : map (held_to w) (happens t (define d)) ≡ refused (refuse TooManyDefinitions d.place) [] ∷ [] = held-define w t d ∙ rw (lt-ltb most_definitions (length (enter d t)) h) in
        ap (map (stacked_to n)) e

    short_is : length (enter d t) ≤ most_definitions → w < words_in (enter d t) → held_deed n w t (define d) ≡ refused (refuse TooFewWords d.place) [] ∷ []
    unfolding stacked_to
    short_is h g =
        let e : map (held_to w) (happens t (define d)) ≡ refused (refuse TooFewWords d.place) [] ∷ [] =
        held-define w t d ∙ rw (le-ltb most_definitions (length (enter d t)) h, lt-ltb w (words_in (enter d t)) g) in
        ap (map (stacked_to n)) e

module _ {t : List ℕ} {w n : ℕ} {all : List Event} {from : Origin} {rows : List ℕ} {b : List ℤ} {stand : Stand} {ink : Ink} {room : List ℕ}
    (g : Paused t w n all from rows b stand ink room) where
  abbrev σ : Standing
  σ = g.stands.standing

  abbrev table : Table
  table = g.stands.table

  abbrev Next : List ℕ → List ℤ → Stock → Spot → ℕ → Ink → List ℕ → Type 0
  Next rows' b' stock' to l' ink' room' = Paused t w n all from rows' b' (stand_at to l' stock') ink' room'

  abbrev After : Table → List Deed → Ink → List ℕ → Type 0
  After u ds ink' room' = PaintedSoFar all from.ink from.room (held_story n w u ds) ink' room'

  -- no command is left
  pub text_out : written (stream t stand.spot) ≡ [] → TextBy t w n all from (Ok (Over ink)) rows b room
  unfolding deeds story TextCase
  text_out e = record { comes = over g.going (ap (λ (ds : List (Placed Command)). held_story n w table (deeds σ ds)) (none_met t stand.spot g.stands.told e)) }

  -- a command does nothing
  passes_by : (ds : List Deed) → to_do g.stands ≡ ds → After table ds ink room
  passes_by ds e = skips g.going _ (ap (held_story n w table) e)

  module _ (d : Deed) (ds : List Deed) (e : to_do g.stands ≡ d ∷ ds) where
    left_is : held_story n w table (to_do g.stands) ≡ held_deed n w table d ++ held_story n w (table_after table d) ds
    left_is = ap (held_story n w table) e ∙ held_more n w table d ds

    -- it does a deed, which happens
    does : {chain : Chain} {ink' : Ink} {room' : List ℕ} → Painted ink (held_deed n w table d) room chain (Ok ink') room' → After (table_after table d) ds ink' room'
    does x = goes_on g.going _ _ left_is x

    -- what stops it stops all
    stops_it : StopsIn (tally from.ink.counts) all (tally ink.counts) (held_deed n w table d)
    stops_it = stops-part _ _ g.going.done (held_deed n w table d) (held_story n w (table_after table d) ds) (ap (λ (es : List Event). g.going.done ++ es) (sym left_is) ∙ g.going.parts) went.ends
      where
        went : Goes from.ink g.going.done ink
        went = unfold Answered in g.going.drawn.answer

    -- or is refused
    ends : {chain : Chain} {why : Refusal} {room' : List ℕ} → Painted ink (held_deed n w table d) room chain (Err why) room' → Painted from.ink all from.room chain (Err why) room'
    ends x = stops g.going _ _ left_is x

  module _ {account : Written} {kind place e : ℕ} {to : Spot} {words words' : List ℤ} (big : most_values + 2 ≤ length words) (r : DecodedOne t stand.spot 1 1 account words kind place e to words') where
    pub it_met : Met t σ g.stands.commands kind place e to words'
    it_met = met g.stands big r

    -- ---- a layer is set

    pub layer_fits : kind ≡ letter_l → SFits w32 (get_or words' 2 (pos 0)) → let z = to_z w32 (of_z w32 (get_or words' 2 (pos 0))) in T (non_neg z) × Fits w32 (nat_abs z)
    layer_fits k h = let i = met_layer it_met k in natural_fits (get_or words' 2 (pos 0)) i.0 i.2 h

    pub text-layer : kind ≡ letter_l → SFits w32 (get_or words' 2 (pos 0)) → Next rows b stand.stock to (nat_abs (to_z w32 (of_z w32 (get_or words' 2 (pos 0))))) ink room
    unfolding after
    text-layer k h =
        let i = met_layer it_met k in
        let v = nat_abs (to_z w32 (of_z w32 (get_or words' 2 (pos 0)))) in
        let q : it_met.command ≡ layer (name_of v) = i.1 ∙ ap (λ (x : ℕ). layer (name_of x)) (sym (ap nat_abs (to_z-of_z h ∙ i.2))) in
        record {
          stands = past_layer g.stands it_met v q;
          layer_is = refl;
          going = passes_by (to_do (past_layer g.stands it_met v q)) (layer-left g.stands it_met v q);
          short = g.short;
          fit = r.fit;
          size = g.size;
          redefined = omega (arith, g.redefined, r.ahead);
        }

    -- ---- entries of this number or more are removed

    pub text-delete : kind ≡ letter_d → {symbol : ℕ} {stock' : Stock} → symbol ≡ nat_abs (get_or words' 2 (pos 0)) → Deletes rows stand.stock symbol stock'
        → Next rows b stock' to stand.layer ink room
    unfolding table_after counted shapes_of
    text-delete k {symbol} {stock'} q f =
        let i = is_delete it_met.voice k in
        let x = at place (nat_abs i.0.what) in
        let f' : Deletes rows stand.stock (nat_abs i.0.what) stock' = subst (λ (y : ℕ). Deletes rows stand.stock y stock') (q ∙ ap nat_abs (third_word it_met i.2)) f in
        record {
          stands = past_delete g.stands it_met i.0 i.1 f';
          layer_is = g.layer_is;
          going =
              does (remove x) (deeds σ it_met.rest) (delete-left g.stands it_met i.0 i.1)
              (subst (λ (es : List Event). Painted ink es room [] (Ok ink) room) (sym (removed_is n w table x))
              (quiet ink ink.counts (removed x table) room refl refl (so_far g.going)));
          short = g.short;
          fit = r.fit;
          size = g.size;
          redefined = omega (arith, g.redefined, r.ahead);
        }

    -- ---- a definition

    module _ (k : kind ≡ letter_s) (start : Start) (q : start ≡ start_in words' place) where
      pub text-starts : (start.a ≤ too_large) × (1 ≤ start.b)
      text-starts = start-within g.stands it_met k start q

      pub text_begins : Begins t rows b stand.stock to start
      text_begins = may_define g.stands it_met k start q

      abbrev new : Definition
      new = made g.stands it_met k

      module _ {rows' : List ℕ} {b' : List ℤ} {d : Result Taken Rule} (defines : DefinesAt t rows b stand.stock to start ink.counts d rows' b') where
        same_size : length b' ≡ w
        same_size = defines.size ∙ g.size

        pub text-ahead : {taken : Taken} → d ≡ Ok taken → length t - taken.to.at < length t - stand.spot.at
        text-ahead f = let x = takes g.stands it_met k start q defines f in omega (arith, x.ahead, x.fit.within, r.ahead)

        pub text-counts : {taken : Taken} → d ≡ Ok taken → ink.counts.calls ≤ (inked taken.counts ink.pen).counts.calls
        text-counts f = let x = takes g.stands it_met k start q defines f in omega (arith, x.same_calls)

        pub text_defined : {taken : Taken} → d ≡ Ok taken → Next rows' b' taken.stock taken.to stand.layer (inked taken.counts ink.pen) room
        unfolding after table_after shapes_of
        text_defined {taken} f =
            let x = takes g.stands it_met k start q defines f in
            let s = so_far g.going in
            record {
              stands = past_define g.stands it_met k x;
              layer_is = g.layer_is;
              going =
                  subst (λ (ds : List Deed). After (enter new table) ds (inked taken.counts ink.pen) room) x.passes.left
                  (does (define new) (deeds (open_there g.stands it_met k) it_met.rest) (define-left g.stands it_met k)
                  (subst (λ (es : List Event). Painted ink es room [] (Ok (inked taken.counts ink.pen)) room)
                  (sym (defined_is n w table new x.few (let h = x.kept.enough in let z = same_size in omega (arith, z, h))))
                  (quiet ink taken.counts (entered new table) room x.counts_so refl
                  (record { calls_most = omega (arith, s.calls_most, x.same_calls); shapes_most = omega (arith, s.shapes_most, x.same_shapes); place_most = omega (arith, s.place_most, x.same_shapes) }))));
              short = g.short;
              fit = x.fit;
              size = same_size;
              redefined = omega (arith, g.redefined, x.redefined, x.ahead, r.ahead);
            }

        -- refused outside of every call
        text-refused : (why : Refusal) → held_deed n w table (define new) ≡ refused why [] ∷ [] → Painted from.ink all from.room [] (Err why) room
        unfolding counted
        text-refused why is =
            ends (define new) (deeds (open_there g.stands it_met k) it_met.rest) (define-left g.stands it_met k)
            (subst (λ (es : List Event). Painted ink es room [] (Err why) room) (sym is) (refusal ink _ [] room _ [] refl))

        unkept : (rule : Rule) → Defines t rows' b' to (begins g.stands it_met k) ink.counts (text-opens g.stands it_met k) table (Err rule) → Painted from.ink all from.room [] (Err (refuse rule place)) room
        unfolding Defines
        unkept TooManyDefinitions h = text-refused _ (overfull_is n w table new h)
        unkept TooFewWords h = text-refused _ (short_is n w table new h.0 (let z = same_size in let j = h.1 in omega (arith, z, j)))
        unkept _ h = absurd h

        barred_by : {rule : Rule} → d ≡ Err rule → TextBy t w n all from (Err (refuse rule place)) rows' b' room
        unfolding TextCase
        barred_by {rule} f = record { comes = unkept rule (comes g.stands it_met k start q defines f) }

        pub text-barred : {rule : Rule} {r : Result Text Refusal} → d ≡ Err rule → r ≡ Err (refuse rule place) → TextBy t w n all from r rows' b' room
        text-barred f is = subst (λ (y : Result Text Refusal). TextBy t w n all from y rows' b' room) (sym is) (barred_by f)

    -- ---- any other command

    module _ (no_l : kind ≡ letter_l → ⊥) (no_d : kind ≡ letter_d → ⊥) (no_s : kind ≡ letter_s → ⊥) where
      pub text-idle : outputs kind ≡ false → Next rows b stand.stock to stand.layer ink room
      text-idle k =
          let i = is_idle g.stands.closed place it_met.rest it_met.voice k no_l no_d no_s in
          record {
            stands = past_other g.stands it_met i.stays;
            layer_is = g.layer_is;
            going = passes_by (deeds σ it_met.rest) (deeds_are g.stands it_met refl ∙ i.deed);
            short = g.short;
            fit = r.fit;
            size = g.size;
            redefined = omega (arith, g.redefined, r.ahead);
          }

      module _ (k : outputs kind ≡ true) (long : most_values + 2 ≤ length words') where
        abbrev shown : Step
        shown = (is_output g.stands.closed place it_met.rest it_met.voice k no_l no_d no_s).step

        pub text_says : Says words' kind e (name_of stand.layer) shown
        text_says =
            subst (λ (x : List ℕ). Says words' kind e x shown) (sym g.layer_is)
            ((is_output g.stands.closed place it_met.rest it_met.voice k no_l no_d no_s).said words' it_met.behind_it e it_met.laid it_met.ends it_met.few long)

        deed_shown : to_do g.stands ≡ output (at place shown) ∷ deeds σ it_met.rest
        deed_shown = deeds_are g.stands it_met refl ∙ (is_output g.stands.closed place it_met.rest it_met.voice k no_l no_d no_s).deed

        abbrev its_events : List Event
        its_events = shown_by n rows b stand.stock.live place shown

        -- drawn from the lean table, it is drawn as from the whole
        shown_painted : {chain : Chain} {y : Result Ink Refusal} {room' : List ℕ} → Painted ink its_events room chain y room' → Painted ink (map (stacked_to n) (happens table (output (at place shown)))) room chain y room'
        shown_painted {chain} {y} {room'} x =
            alike_painted (alike_stacked n (alike_output table (at place shown))) ink
            (subst (λ (u : Table). Painted ink (map (stacked_to n) (happens u (output (at place shown)))) room chain y room') (held-table g.stands.kept.holds) x)

        deed_painted : {chain : Chain} {y : Result Ink Refusal} {room' : List ℕ} → Painted ink its_events room chain y room' → Painted ink (held_deed n w table (output (at place shown))) room chain y room'
        deed_painted {chain} {y} {room'} x = subst (λ (es : List Event). Painted ink es room chain y room') (sym (output_is n w table (at place shown))) (shown_painted x)

        text-goes : {chain : Chain} {ink' : Ink} {room' : List ℕ} → Painted ink its_events room chain (Ok ink') room' → Next rows b stand.stock to stand.layer ink' room'
        unfolding table_after
        text-goes x = record {
          stands = past_other g.stands it_met (is_output g.stands.closed place it_met.rest it_met.voice k no_l no_d no_s).stays;
          layer_is = g.layer_is;
          going = does (output (at place shown)) (deeds σ it_met.rest) deed_shown (deed_painted x);
          short = g.short;
          fit = r.fit;
          size = g.size;
          redefined = omega (arith, g.redefined, r.ahead, shown_same n table (at place shown) (shown_painted x));
        }

        text-halts : {chain : Chain} {why : Refusal} {room' : List ℕ} → Painted ink its_events room chain (Err why) room' → Painted from.ink all from.room chain (Err why) room'
        text-halts x = ends (output (at place shown)) (deeds σ it_met.rest) deed_shown (deed_painted x)

        lean_alike : Alike its_events (held_deed n w table (output (at place shown)))
        lean_alike =
            subst (λ (es : List Event). Alike its_events es) (sym (output_is n w table (at place shown)))
            (subst (λ (u : Table). Alike (map (stacked_to n) (happens u (output (at place shown)))) (map (stacked_to n) (happens table (output (at place shown))))) (sym (held-table g.stands.kept.holds))
            (alike_stacked n (alike_output table (at place shown))))

        text-stops : StopsIn (tally from.ink.counts) all (tally ink.counts) its_events
        text-stops = stops-both (stops_it (output (at place shown)) (deeds σ it_met.rest) deed_shown) (stops_alike lean_alike (tally ink.counts))

        module _ {o : Result Outer Refusal} {room' : List ℕ} (x : OuterComes n rows stand.stock.live words' kind place e stand.layer ink room o room') where
          outer_by : {y : Result Outer Refusal} → o ≡ y → OuterBy n rows stand.stock.live place shown ink room y room'
          outer_by q = subst (λ (y : Result Outer Refusal). OuterBy n rows stand.stock.live place shown ink room y room') q (x shown text_says)

          pub text_shown : {ink' : Ink} → o ≡ Ok (Shown ink') → Next rows b stand.stock to stand.layer ink' room'
          unfolding OuterCase
          text_shown q = text-goes ((outer_by q).comes b)

          text-ended : {why : Refusal} → o ≡ Err why → TextBy t w n all from (Err why) rows b room'
          unfolding OuterCase TextCase
          text-ended q = record { comes = text-halts ((outer_by q).comes b) }

          pub text-stopped : {r : Result Text Refusal} {why : Refusal} → o ≡ Err why → r ≡ Err why → TextBy t w n all from r rows b room'
          text-stopped q is = subst (λ (y : Result Text Refusal). TextBy t w n all from y rows b room') (sym is) (text-ended q)

          pub text-calls : {call : Call} {row : ℕ} {ink' : Ink} → o ≡ Ok (Opens call row ink') → TextBy t w n all from (Ok (Calls (stand_at to stand.layer stand.stock) call row ink')) rows b room'
          unfolding OuterCase TextCase
          text-calls {call} {row} {ink'} q =
              let y : OuterOpens n rows stand.stock.live place shown ink room call row ink' room' = (outer_by q).comes in
              record {
                comes = record {
                  events = its_events;
                  ink_there = ink;
                  room_there = room;
                  led = y.led;
                  opens = y.opens b;
                  sorted = g.stands.kept.sorted;
                  stocked = g.stands.kept.stocked;
                  short = g.stands.kept.short;
                  sized = g.stands.kept.laid.sized;
                  resumes = λ p. text-goes p;
                  halts = λ p. text-halts p;
                  stops_in = text-stops;
                };
              }
