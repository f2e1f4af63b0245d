-- A command outside of definitions that draws, held to the records lent: a call is refused or opened where none is open, and a shape is drawn where nothing is moved.
-- Assumes nothing.
use mathlib.Core.Path.{◌≡◌, refl, sym, ap, ap₂, ◌∙◌, subst}
use mathlib.Core.List.{List, [], ◌∷◌, append-nil}
use Prim.Native.Nat.{ℕ}
use native.Mathlib.Omega.{arith}
use lib.IntN.{ℤ, nat_abs}
use Rattle.definition.specs.Commands.{Shape, Turn}
use Rattle.definition.specs.Table.{shape, instance}
use Rattle.definition.specs.Drawing.{Chain, Event, drawn_shape, drawn_step, happens}
use Rattle.definition.specs.Records.{stacked_to}
use Rattle.definition.specs.declared.Refusal.{Refusal}
use Rattle.laws.proofs.Story.Axes.{by_axes}
use Rattle.names.specs.Names.{name_of}
use Rattle.turns.specs.declared.Net.{Net}
use Rattle.turns.specs.Nets.{Carries, Near}
use Rattle.turns.proofs.Nets.{near-more}
use Rattle.moves.specs.Moves.{ShapedAt}
use Rattle.shapes.specs.declared.Ink.{Ink}
use Rattle.shapes.specs.Painting.{inked, Reached, Painted, ShapeDraws}
use Rattle.shapes.proofs.Painting.{begun, skips}
use Rattle.library.specs.Memory.{call_letter, table_of}
use Rattle.chain.specs.Chain.{open_calls}
use Rattle.chain.proofs.Runs.{none_open}
use Rattle.opening.specs.declared.Call.{Call}
use Rattle.opening.specs.Calls.{CalledAt, ReadsCall}
use Rattle.engine.specs.Draws.{open_at}
use Rattle.engine.specs.Outer.{a_shape, a_call}
use Rattle.engine.proofs.Taking.{no_kind}
use Rattle.stretch.specs.Opening.{OpensWith}
use Rattle.stretch.specs.Bodies.{call_story, Led}
use Rattle.stretch.specs.Bodies.{Opens as OpensCall}
use Rattle.stretch.proofs.Calls.{call-stopped, call-led, call-counts, call-going}
use Rattle.stretch.proofs.Counting.{painted-grows}
use Rattle.between.specs.Texts.{shown_by, OuterCase, OuterComes, OuterGrows}
use Rattle.std.specs.Prelude.{Err, Ok, Result}
use Rattle.opening.specs.declared.Entered.{Entered}
use Rattle.between.specs.declared.Outer.{Outer}
use Rattle.between.specs.declared.Outer.TheVariants.{Shown, Opens}

shape-held : (n : ℕ) (chain : Chain) (net : List (Turn ℤ)) (p : ℕ) (l : List ℕ) (k : Shape ℤ) → stacked_to n (drawn_shape chain net p l k) ≡ drawn_shape chain net p l k
unfolding stacked_to
shape-held n chain net p l k = by_axes chain net p l k (λ (e : Event). stacked_to n e ≡ e) refl refl (λ e. refl)

shown_shape : (n : ℕ) (rows : List ℕ) (b : List ℤ) (live p : ℕ) (l : List ℕ) (k : Shape ℤ) → shown_by n rows b live p (shape l k) ≡ drawn_shape [] [] p l k ∷ []
unfolding happens drawn_step
shown_shape n rows b live p l k = ap (λ (e : Event). e ∷ []) (shape-held n [] [] p l k)

shown_call : (n : ℕ) (rows : List ℕ) (b : List ℤ) (live p m : ℕ) (ts : List (Turn ℤ)) → shown_by n rows b live p (instance m ts) ≡ call_story n (table_of rows b live) 32 [] [] p m ts
unfolding happens drawn_step
shown_call n rows b live p m ts = refl

-- a refusal counts nothing
refused-grows : (ink : Ink) (why : Refusal) → OuterGrows ink (Err why)
unfolding OuterGrows
refused-grows ink why = tt

pub stopped-grows : (ink : Ink) {r : Result Outer Refusal} {why : Refusal} → r ≡ Err why → OuterGrows ink r
stopped-grows ink {why = why} e = subst (OuterGrows ink) (sym e) (refused-grows ink why)

module _ {words : List ℤ} {kind end : ℕ} where
  no_shape : ShapedAt words kind end → kind ≡ call_letter → ⊥
  no_shape h e = (no_kind h.shape.kind).1 (sym h.shaped.letter_is ∙ e)

  module _ (n : ℕ) (rows : List ℕ) (live layer place : ℕ) {still : Net} (ink : Ink) (room : List ℕ) (fixed : Carries [] still) where
    module _ (e : kind ≡ call_letter) {call : Call} (reads : (h : CalledAt words end) → ReadsCall h.symbol h.turns still place call)
        (drawing : List ℕ) where
      abbrev chain : Chain
      chain = open_at drawing 32

      none : open_calls drawing 0 ≡ []
      none = none_open drawing

      -- what the call does is the call's story
      is_call : (h : CalledAt words end) (b : List ℤ)
          → shown_by n rows b live place (instance (nat_abs h.symbol) h.turns) ≡ call_story n (table_of rows b live) 32 chain [] call.place call.symbol h.turns
      is_call h b =
          let k = reads h in
          let t = table_of rows b live in
          shown_call n rows b live place (nat_abs h.symbol) h.turns
          ∙ ap₂ {C = List Event} (λ (p m : ℕ). call_story n t 32 [] [] p m h.turns) (sym k.at_place) (sym k.symbol)
          ∙ ap (λ (o : Chain). call_story n t 32 o [] call.place call.symbol h.turns) (sym none)

      module _ {o : Result Entered Refusal} (x : OpensWith n rows live (open_calls drawing 0) 32 call ink.counts o) where
        call_refused : {why : Refusal} → o ≡ Err why → OuterComes n rows live words kind place end layer ink room (Err why) room
        unfolding OuterCase
        call_refused q s (a_shape h) = absurd (no_shape h e)
        call_refused {why} q s (a_call z h) = record {
          comes = λ b.
              subst (λ (o : Chain). Painted ink (shown_by n rows b live place (instance (nat_abs h.symbol) h.turns)) room o (Err why) room) none
              (subst (λ (es : List Event). Painted ink es room chain (Err why) room) (sym (is_call h b))
              (call-stopped n rows live drawing 32 call ink x q b [] h.turns (reads h).askew room));
        }

        pub outer-refused : {r : Result Outer Refusal} {why : Refusal} → o ≡ Err why → r ≡ Err why → OuterComes n rows live words kind place end layer ink room r room
        outer-refused q is = subst (λ (y : Result Outer Refusal). OuterComes n rows live words kind place end layer ink room y room) (sym is) (call_refused q)

        pub outer-opens : Near 0 still → Reached ink → {entered : Entered} → o ≡ Ok entered
            → OuterComes n rows live words kind place end layer ink room (Ok (Opens call entered.row (inked entered.counts ink.pen))) room
        unfolding OuterCase
        outer-opens near reach q s (a_shape h) = absurd (no_shape h e)
        outer-opens near reach {entered} q s (a_call z h) =
            let it = instance (nat_abs h.symbol) h.turns in
            record {
              comes = record {
                led =
                    subst (λ (o : Chain). Led n live o 32 call entered.row) none
                    (call-led n rows live drawing 32 call ink x q (near-more (omega arith) ((reads h).near 0 near)));
                opens = λ b.
                    subst (λ (o : Chain). OpensCall n rows b live o 32 [] (shown_by n rows b live place it) [] ink room call entered.row (inked entered.counts ink.pen) room) none
                    (record {
                      own = h.turns;
                      carries = (reads h).carries [] fixed;
                      going =
                          call-going n rows live drawing 32 call ink x q reach b [] h.turns (reads h).askew []
                          (skips (begun _ ink room reach) _ (is_call h b ∙ sym (append-nil _)));
                    });
              };
            }

        pub opens-grows : {entered : Entered} → o ≡ Ok entered → OuterGrows ink (Ok (Opens call entered.row (inked entered.counts ink.pen)))
        unfolding OuterGrows
        opens-grows q = let k = call-counts n rows live drawing 32 call ink x q in omega (arith, k)

    module _ (e : kind ≡ call_letter → ⊥) {d : Result Ink Refusal} {room' : List ℕ} (x : ShapeDraws words kind end still layer place ink room d room') where
      shape-painted : {y : Result Ink Refusal} → d ≡ y → (h : ShapedAt words kind end) (b : List ℤ) → Painted ink (shown_by n rows b live place (shape (name_of layer) h.shape)) room [] y room'
      shape-painted {y} q h b =
          subst (λ (es : List Event). Painted ink es room [] y room') (sym (shown_shape n rows b live place (name_of layer) h.shape))
          (subst (λ (y : Result Ink Refusal). Painted ink (drawn_shape [] [] place (name_of layer) h.shape ∷ []) room [] y room') q (x h [] [] fixed))

      pub outer_shown : {ink' : Ink} → d ≡ Ok ink' → OuterComes n rows live words kind place end layer ink room (Ok (Shown ink')) room'
      unfolding OuterCase
      outer_shown q s (a_shape h) = record { comes = λ b. shape-painted q h b }
      outer_shown q s (a_call z h) = absurd (e z)

      shape_refused : {why : Refusal} → d ≡ Err why → OuterComes n rows live words kind place end layer ink room (Err why) room'
      unfolding OuterCase
      shape_refused q s (a_shape h) = record { comes = λ b. shape-painted q h b }
      shape_refused q s (a_call z h) = absurd (e z)

      pub outer-stopped : {r : Result Outer Refusal} {why : Refusal} → d ≡ Err why → r ≡ Err why → OuterComes n rows live words kind place end layer ink room r room'
      outer-stopped q is = subst (λ (y : Result Outer Refusal). OuterComes n rows live words kind place end layer ink room y room') (sym is) (shape_refused q)

      pub shown_grows : ShapedAt words kind end → {ink' : Ink} → d ≡ Ok ink' → OuterGrows ink (Ok (Shown ink'))
      unfolding OuterGrows
      shown_grows h q = painted-grows (shape-painted q h [])
