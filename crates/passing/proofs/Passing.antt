-- What the loop of `draw_text` keeps: however the text is marked, what is left from here is what was to be drawn (proofs/Onward.antt). The memory and the
-- runs are lent to callees, so what they ask for is kept beside it; and so is that no more definitions were replaced than bytes were read.
-- Assumes nothing.
use Rattle.std.specs.Prelude.{Option, None, Result, Ok, Err}
use mathlib.Core.Path.{◌≡◌, refl, sym, ap, ◌∙◌, subst}
use mathlib.Core.Bool.{true, false}
use mathlib.Core.List.{List, [], map}
use Prim.Native.Nat.{ℕ, ◌+◌, ◌-◌, ◌^◌, ◌≤◌, ◌<◌}
use native.Mathlib.Omega.{arith}
use lib.Dec.{T}
use lib.IntN.{ℤ, pos, nat_abs}
use lib.ListN.{length, get_or}
use lib.Signed.{non_neg}
use mir.Syntax.{w32}
use mir.Val.{Fits, SFits, to_z, of_z}
use mir.Facts.{to_z-of_z}
use Rattle.definition.specs.declared.Rule.{Rule}
use Rattle.definition.specs.declared.Refusal.{Refusal}
use Rattle.definition.specs.Limits.{deepest}
use Rattle.definition.specs.Rules.{refuse}
use Rattle.definition.specs.Commands.{layer}
use Rattle.definition.specs.Table.{Step}
use Rattle.definition.specs.Drawing.{Chain}
use Rattle.definition.specs.Held.{held_to}
use Rattle.names.specs.Names.{name_of}
use Rattle.pieces.specs.Pieces.{letter_s, too_large, Fit}
use Rattle.pieces.specs.Pieces.{start as text_start}
use Rattle.pieces.specs.declared.Spot.{Spot}
use Rattle.rules.specs.Letters.{letter_d, letter_l}
use Rattle.rules.specs.Written.{Written}
use Rattle.commands.specs.declared.Decoded.{Decoded}
use Rattle.commands.specs.Words.{DecodedOne, ReadsCommand}
use Rattle.counts.specs.declared.Counts.{Counts}
use Rattle.moves.specs.Moves.{most_values}
use Rattle.chain.specs.Chain.{run_length, chain_in}
use Rattle.shapes.specs.declared.Ink.{Ink}
use Rattle.shapes.specs.Painting.{inked, Painted}
use Rattle.shapes.proofs.Painting.{so_far, room-kept}
use Rattle.library.specs.Memory.{row_numbers, needed_in}
use Rattle.library.specs.Rows.{Sorted}
use Rattle.keeping.specs.Keeping.{most_words, Begins, Takes, DefinesAt}
use Rattle.keeping.specs.declared.Start.{Start}
use Rattle.keeping.specs.declared.Stock.{Stock}
use Rattle.keeping.specs.declared.Taken.{Taken}
use Rattle.engine.specs.Draws.{Ready}
use Rattle.engine.specs.Outer.{Says, OuterDraws}
use Rattle.passing.specs.Passed.{Passed, to_draw, dry, outputs, start_in, Deletes, TextDraws, RefusedOutside}
use Rattle.passing.proofs.Letters.{is_delete}
use Rattle.passing.proofs.Reading.{Met, run_kept, read_none, third_word, met_layer}
use Rattle.passing.proofs.Stands.{nothing_kept, deletable, met, text-opens, start-within, may_define, comes, takes}
use Rattle.passing.proofs.Onward.{Onward, start-text, text_out, text-layer, text-delete, text_defined, text-unkept, text-idle, text_says, text_same, text-drawn, text-stopped}

pub record Passing (t : List ℕ) (w : ℕ) (words₀ numbers₀ : List ℤ) (drawing₀ room₀ rows : List ℕ) (b words numbers : List ℤ) (drawing room : List ℕ) (spot : Spot) (layer : ℕ) (stock : Stock)
    (ink : Ink) : Type 0 where
  pub passed : Passed t
  pub onward : (p : Passed t) → Onward t w (to_draw p) room₀ rows b stock spot layer ink room
  pub fit : Fit t spot
  pub bodies_kept : length b ≡ w
  pub words_kept : length words ≡ length words₀
  pub numbers-kept : length numbers ≡ length numbers₀
  pub drawing_kept : length drawing ≡ length drawing₀
  pub redefined : ink.counts.redefinitions ≤ spot.at

pub passing_begin : {t : List ℕ} (rows : List ℕ) (b words numbers : List ℤ) (drawing room : List ℕ) → Passed t → length rows ≡ row_numbers → length b ≤ most_words → {c : Counts} → c ≡ dry.counts
    → Passing t (length b) words numbers drawing room rows b words numbers drawing room text_start 0 nothing_kept (inked c dry.pen)
passing_begin {t} rows b words numbers drawing room p s h e =
    subst (λ (c : Counts). Passing t (length b) words numbers drawing room rows b words numbers drawing room text_start 0 nothing_kept (inked c dry.pen)) (sym e) begin
  where
    begin : Passing t (length b) words numbers drawing room rows b words numbers drawing room text_start 0 nothing_kept dry
    begin = record {
      passed = p;
      onward = λ q. start-text q (length b) room rows b s h;
      fit = record { within = omega arith; state = omega arith };
      bodies_kept = refl;
      words_kept = refl;
      numbers-kept = refl;
      drawing_kept = refl;
      redefined = omega arith;
    }

-- a word that is not negative is a number of 32 bits without sign
natural_fits : (z : ℤ) (v : ℕ) → z ≡ pos v → SFits w32 z → T (non_neg (to_z w32 (of_z w32 z))) × Fits w32 (nat_abs (to_z w32 (of_z w32 z)))
natural_fits z v e h =
    subst (λ (y : ℤ). T (non_neg y) × Fits w32 (nat_abs y)) (sym (to_z-of_z h ∙ e)) (tt, record { fits = let q = subst (λ (y : ℤ). SFits w32 y) e h in omega (arith, q.sfits) })

module _ {t : List ℕ} {w : ℕ} {words₀ numbers₀ : List ℤ} {drawing₀ room₀ rows : List ℕ} {b words numbers : List ℤ} {drawing room : List ℕ} {spot : Spot} {l : ℕ} {stock : Stock} {ink : Ink}
    (u : Passing t w words₀ numbers₀ drawing₀ room₀ rows b words numbers drawing room spot l stock ink) where
  abbrev Next : List ℕ → List ℤ → List ℤ → List ℤ → List ℕ → List ℕ → Spot → ℕ → Stock → Ink → Type 0
  Next rows' b' ws ns drawing' room' to l' stock' ink' = Passing t w words₀ numbers₀ drawing₀ room₀ rows' b' ws ns drawing' room' to l' stock' ink'

  here : Onward t w (to_draw u.passed) room₀ rows b stock spot l ink room
  here = u.onward u.passed

  pub room_there : length room ≡ length room₀
  room_there = room-kept here.going

  pub few-redefined : ink.counts.redefinitions ≤ length t
  few-redefined = omega (arith, u.redefined, u.fit.within)

  -- what `delete` and `draw_outer` ask of the memory
  pub may_delete : Sorted rows stock.live × (stock.needed ≡ needed_in rows stock.live) × (stock.needed < 2 ^ 64)
  may_delete = deletable here.stands

  pub ready : most_values + 2 ≤ length numbers₀ → length drawing₀ ≡ run_length → Ready rows b stock.live numbers drawing deepest ink
  ready roomy levels =
      let k = here.stands.kept in
      record {
        sorted = k.sorted;
        stocked = k.stocked;
        short = k.short;
        roomy = omega (arith, roomy, u.numbers-kept);
        levels = u.drawing_kept ∙ levels;
        some_left = omega arith;
        reached = so_far here.going;
      }

  -- nothing is left
  pub passing_out : (r : Option Decoded) (words' : List ℤ) → ReadsCommand t spot 1 1 words r words' → r ≡ None → TextDraws t w room₀ drawing (Ok ink) room
  passing_out r words' x e p = text_out (u.onward p) (read_none t spot 1 1 words r words' x e)

  module _ {account : Written} {kind place n : ℕ} {to : Spot} {words' : List ℤ} (big : most_values + 2 ≤ length words₀) (r : DecodedOne t spot 1 1 account words kind place n to words') where
    pub words_then : most_values + 2 ≤ length words'
    words_then = let e = run_kept r in omega (arith, big, u.words_kept)

    met_by : {all : List _} (g : Onward t w all room₀ rows b stock spot l ink room) → Met t g.stands.standing g.stands.commands kind place n to words'
    met_by g = met g.stands (omega (arith, big, u.words_kept)) r

    -- a command that leaves the runs as they are
    on_with : {stock' : Stock} {l' : ℕ} → ((p : Passed t) → Onward t w (to_draw p) room₀ rows b stock' to l' ink room) → Next rows b words' numbers drawing room to l' stock' ink
    on_with f = record {
      passed = u.passed;
      onward = f;
      fit = r.fit;
      bodies_kept = u.bodies_kept;
      words_kept = run_kept r ∙ u.words_kept;
      numbers-kept = u.numbers-kept;
      drawing_kept = u.drawing_kept;
      redefined = omega (arith, u.redefined, r.ahead);
    }

    -- ---- a layer

    pub layer_fits : kind ≡ letter_l → SFits w32 (get_or words' 2 (pos 0)) → let z = to_z w32 (of_z w32 (get_or words' 2 (pos 0))) in T (non_neg z) × Fits w32 (nat_abs z)
    layer_fits e h = let i = met_layer (met_by here) e in natural_fits (get_or words' 2 (pos 0)) i.0 i.2 h

    pub passing_layer : kind ≡ letter_l → SFits w32 (get_or words' 2 (pos 0)) → Next rows b words' numbers drawing room to (nat_abs (to_z w32 (of_z w32 (get_or words' 2 (pos 0))))) stock ink
    passing_layer e h =
        on_with
        (λ p.
        let g = u.onward p in
        let i = met_layer (met_by g) e in
        text-layer g (met_by g) _ (i.1 ∙ ap (λ (x : ℕ). layer (name_of x)) (sym (ap nat_abs (to_z-of_z h ∙ i.2)))))

    -- ---- a deletion

    pub passing_delete : kind ≡ letter_d → {symbol : ℕ} {stock' : Stock} → symbol ≡ nat_abs (get_or words' 2 (pos 0)) → Deletes rows stock symbol stock'
        → Next rows b words' numbers drawing room to l stock' ink
    passing_delete e {symbol} {stock'} q f =
        on_with
        (λ p.
        let g = u.onward p in
        let i = is_delete (met_by g).voice e in
        text-delete g (met_by g) i.0 i.1 (subst (λ (x : ℕ). Deletes rows stock x stock') (q ∙ ap nat_abs (third_word (met_by g) i.2)) f))

    -- ---- a definition

    module _ (e : kind ≡ letter_s) (start : Start) (q : start ≡ start_in words' place) where
      pub passing_starts : (start.a ≤ too_large) × (1 ≤ start.b)
      passing_starts = start-within here.stands (met_by here) e start q

      pub passing_begins : Begins t rows b stock to start
      passing_begins = may_define here.stands (met_by here) e start q

      module _ {rows' : List ℕ} {b' : List ℤ} {d : Result Taken Rule} (defines : DefinesAt t rows b stock to start ink.counts d rows' b') where
        pub size_then : length b' ≡ w
        size_then = defines.size ∙ u.bodies_kept

        taken : (p : Passed t) {kept : Taken} → d ≡ Ok kept → let g = u.onward p in
            Takes t rows' b' to (start_in words' place) ink.counts (text-opens g.stands (met_by g) e) g.stands.table kept.stock kept.counts kept.to
        taken p f = let g = u.onward p in takes g.stands (met_by g) e start q defines f

        pub defined_on : {kept : Taken} → d ≡ Ok kept → (length t - kept.to.at < length t - spot.at)
        defined_on f = let k = taken u.passed f in omega (arith, k.ahead, k.fit.within, r.ahead)

        pub passing_defined : {kept : Taken} → d ≡ Ok kept → Next rows' b' words' numbers drawing room kept.to l kept.stock (inked kept.counts ink.pen)
        passing_defined f =
            let k = taken u.passed f in
            record {
              passed = u.passed;
              onward = λ p. let g = u.onward p in text_defined g (met_by g) e size_then (taken p f);
              fit = k.fit;
              bodies_kept = size_then;
              words_kept = run_kept r ∙ u.words_kept;
              numbers-kept = u.numbers-kept;
              drawing_kept = u.drawing_kept;
              redefined = omega (arith, u.redefined, k.redefined, k.ahead, r.ahead);
            }

        -- refused outside of every call, as the run tells it
        told_so : {rule : Rule} {r : Result Ink Refusal} {drawing' : List ℕ} → RefusedOutside rule place r drawing' → (p : Passed t)
            → Painted dry (map (held_to w) (to_draw p)) room₀ [] (Err (refuse rule place)) room
            → Painted dry (map (held_to w) (to_draw p)) room₀ (chain_in drawing') r room
        told_so {rule} {r} {drawing'} o p x =
            subst (λ (y : Result Ink Refusal). Painted dry (map (held_to w) (to_draw p)) room₀ (chain_in drawing') y room) (sym o.is)
            (subst (λ (chain : Chain). Painted dry (map (held_to w) (to_draw p)) room₀ chain (Err (refuse rule place)) room) (sym o.none_open) x)

        pub passing_unkept : {rule : Rule} {r : Result Ink Refusal} {drawing' : List ℕ} → RefusedOutside rule place r drawing' → d ≡ Err rule → TextDraws t w room₀ drawing' r room
        passing_unkept {rule} o f p =
            let g = u.onward p in
            told_so o p (text-unkept g (met_by g) e rows' b' size_then rule (comes g.stands (met_by g) e start q defines f))

    -- ---- any other command

    module _ (no_l : kind ≡ letter_l → ⊥) (no_d : kind ≡ letter_d → ⊥) (no_s : kind ≡ letter_s → ⊥) where
      pub passing_idle : outputs kind ≡ false → Next rows b words' numbers drawing room to l stock ink
      passing_idle e = on_with (λ p. let g = u.onward p in text-idle g (met_by g) no_l no_d no_s e)

      module _ (e : outputs kind ≡ true) where
        pub passing_says : (s : Step) × Says words' kind n (name_of l) s
        passing_says = (_, text_says here (met_by here) no_l no_d no_s e words_then)

        module _ (drawing' : List ℕ) {room' : List ℕ} {d : Result Ink Refusal} (draws : OuterDraws rows b stock.live words' kind place n l ink room drawing' d room') where
          pub passing_drawn : {ink' : Ink} {ns : List ℤ} → d ≡ Ok ink' → length ns ≡ length numbers → length drawing' ≡ length drawing
              → Next rows b words' ns drawing' room' to l stock ink'
          passing_drawn q kn kd = record {
            passed = u.passed;
            onward = λ p. let g = u.onward p in text-drawn g (met_by g) no_l no_d no_s e words_then drawing' draws q;
            fit = r.fit;
            bodies_kept = u.bodies_kept;
            words_kept = run_kept r ∙ u.words_kept;
            numbers-kept = kn ∙ u.numbers-kept;
            drawing_kept = kd ∙ u.drawing_kept;
            redefined = omega (arith, u.redefined, r.ahead, text_same here (met_by here) no_l no_d no_s e words_then drawing' draws q);
          }

          pub passing_stopped : {why : Refusal} → d ≡ Err why → TextDraws t w room₀ drawing' (Err why) room'
          passing_stopped q p = let g = u.onward p in text-stopped g (met_by g) no_l no_d no_s e words_then drawing' draws q
