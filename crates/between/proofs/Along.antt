-- What the loop of `draw_commands` keeps: whatever drawing the text stood in at the start of the stretch, it stands in it here.
-- Assumes nothing.
use mathlib.Core.Path.{◌≡◌, refl, sym, ◌∙◌, subst}
use mathlib.Core.List.{List}
use Prim.Native.Nat.{ℕ, ◌+◌, ◌^◌, ◌≤◌, ◌<◌}
use native.Mathlib.Omega.{arith}
use lib.IntN.{ℤ}
use lib.ListN.{length}
use Rattle.definition.specs.Drawing.{Event}
use Rattle.pieces.specs.declared.Spot.{Spot}
use Rattle.rules.specs.Written.{Written}
use Rattle.commands.specs.Words.{DecodedOne, ReadsCommand}
use Rattle.moves.specs.Moves.{most_values}
use Rattle.shapes.specs.declared.Ink.{Ink}
use Rattle.shapes.specs.Painting.{Reached}
use Rattle.shapes.proofs.Painting.{so_far, room-kept}
use Rattle.library.specs.Memory.{needed_in}
use Rattle.library.specs.Rows.{Sorted}
use Rattle.keeping.specs.declared.Stock.{Stock}
use Rattle.passing.proofs.Reading.{run_kept, read_none}
use Rattle.passing.proofs.Stands.{deletable}
use Rattle.between.specs.declared.Stand.{Stand}
use Rattle.opening.specs.declared.Call.{Call}
use Rattle.definition.specs.declared.Refusal.{Refusal}
use Rattle.between.specs.Texts.{Origin, Paused, Pausing, TextBy, TextComes, OuterGrows, TextGrows}
use Rattle.between.proofs.Onward.{stand_at, text_out}
use Rattle.std.specs.Prelude.{Err, None, Ok, Option, Result}
use Rattle.commands.specs.declared.Decoded.{Decoded}
use Rattle.between.specs.declared.Text.{Text}
use Rattle.between.specs.declared.Outer.{Outer}
use Rattle.between.specs.declared.Text.TheVariants.{Over, Calls}
use Rattle.between.specs.declared.Outer.TheVariants.{Shown, Opens}

pub record Along (t : List ℕ) (n : ℕ) (rows₀ : List ℕ) (b₀ words₀ : List ℤ) (room₀ : List ℕ) (stand₀ : Stand) (ink₀ : Ink)
    (rows : List ℕ) (b words : List ℤ) (room : List ℕ) (spot : Spot) (l : ℕ) (stock : Stock) (ink : Ink) : Type 0 where
  pub some : Pausing t n rows₀ b₀ stand₀ ink₀ room₀
  pub along : (w : ℕ) (all : List Event) (r : Origin) → Paused t w n all r rows₀ b₀ stand₀ ink₀ room₀ → Paused t w n all r rows b (stand_at spot l stock) ink room
  pub words_kept : length words ≡ length words₀
  pub grown : ink₀.counts.calls ≤ ink.counts.calls

-- a refusal counts nothing
pub stops-grows : (ink : Ink) (why : Refusal) → TextGrows ink (Err why)
unfolding TextGrows
stops-grows ink why = tt

pub stopped-grows : (ink : Ink) {r : Result Text Refusal} {why : Refusal} → r ≡ Err why → TextGrows ink r
stopped-grows ink {why = why} e = subst (TextGrows ink) (sym e) (stops-grows ink why)

pub begins_along : {t : List ℕ} {n : ℕ} {rows : List ℕ} {b : List ℤ} (words : List ℤ) {room : List ℕ} {spot : Spot} {l : ℕ} {stock : Stock} {ink : Ink}
    → Pausing t n rows b (stand_at spot l stock) ink room → Along t n rows b words room (stand_at spot l stock) ink rows b words room spot l stock ink
begins_along words p = record { some = p; along = λ w all r x. x; words_kept = refl; grown = omega arith }

module _ {t : List ℕ} {n : ℕ} {rows₀ : List ℕ} {b₀ words₀ : List ℤ} {room₀ : List ℕ} {stand₀ : Stand} {ink₀ : Ink}
    {rows : List ℕ} {b words : List ℤ} {room : List ℕ} {spot : Spot} {l : ℕ} {stock : Stock} {ink : Ink}
    (u : Along t n rows₀ b₀ words₀ room₀ stand₀ ink₀ rows b words room spot l stock ink) where
  -- of some drawing it stands here
  pub now-paused : Paused t u.some.w n u.some.all u.some.from rows b (stand_at spot l stock) ink room
  now-paused = u.along u.some.w u.some.all u.some.from u.some.paused

  pub room-same : length room ≡ length room₀
  room-same = room-kept now-paused.going ∙ sym (room-kept u.some.paused.going)

  pub bodies_same : length b ≡ length b₀
  bodies_same = now-paused.size ∙ sym u.some.paused.size

  pub few-redefined : ink.counts.redefinitions ≤ length t
  few-redefined = let p = now-paused in omega (arith, p.redefined, p.fit.within)

  pub reached-now : Reached ink
  reached-now = so_far now-paused.going

  pub may_delete : Sorted rows stock.live × (stock.needed ≡ needed_in rows stock.live) × (stock.needed < 2 ^ 64)
  may_delete = deletable now-paused.stands

  pub big_now : most_values + 2 ≤ length words₀ → most_values + 2 ≤ length words
  big_now h = omega (arith, h, u.words_kept)

  -- what comes of every drawing that stands here comes of those that stood at the start
  pub comes_so : {r : Result Text Refusal} {rows' : List ℕ} {b' : List ℤ} {room' : List ℕ}
      → ((w : ℕ) (all : List Event) (r₀ : Origin) → Paused t w n all r₀ rows b (stand_at spot l stock) ink room → TextBy t w n all r₀ r rows' b' room')
      → TextComes t n rows₀ b₀ stand₀ ink₀ room₀ r rows' b' room'
  comes_so f w all r₀ p = f w all r₀ (u.along w all r₀ p)

  pub goes-along : {words' : List ℤ} {rows' : List ℕ} {b' : List ℤ} {room' : List ℕ} {to : Spot} {l' : ℕ} {stock' : Stock} {ink' : Ink} → length words' ≡ length words → ink.counts.calls ≤ ink'.counts.calls
      → ((w : ℕ) (all : List Event) (r₀ : Origin) → Paused t w n all r₀ rows b (stand_at spot l stock) ink room → Paused t w n all r₀ rows' b' (stand_at to l' stock') ink' room')
      → Along t n rows₀ b₀ words₀ room₀ stand₀ ink₀ rows' b' words' room' to l' stock' ink'
  goes-along e k f = record { some = u.some; along = λ w all r₀ p. f w all r₀ (u.along w all r₀ p); words_kept = e ∙ u.words_kept; grown = omega (arith, k, u.grown) }

  -- nothing is left
  pub all_read : (r : Option Decoded) (words' : List ℤ) → ReadsCommand t spot 1 1 words r words' → r ≡ None → TextComes t n rows₀ b₀ stand₀ ink₀ room₀ (Ok (Over ink)) rows b room
  all_read r words' x e = comes_so (λ w all r₀ p. text_out p (read_none t spot 1 1 words r words' x e))

  pub long_now : {account : Written} {kind place e : ℕ} {to : Spot} {words' : List ℤ} → most_values + 2 ≤ length words₀ → DecodedOne t spot 1 1 account words kind place e to words'
      → most_values + 2 ≤ length words'
  long_now h r = let k = run_kept r in omega (arith, h, k, u.words_kept)

  pub over-grows : TextGrows ink₀ (Ok (Over ink))
  unfolding TextGrows
  over-grows = u.grown

  module _ {o : Result Outer Refusal} (k : OuterGrows ink o) where
    pub grows_shown : {ink' : Ink} → o ≡ Ok (Shown ink') → ink.counts.calls ≤ ink'.counts.calls
    unfolding OuterGrows
    grows_shown q = subst (OuterGrows ink) q k

    pub grows-calls : (stand : Stand) {call : Call} {row : ℕ} {ink' : Ink} → o ≡ Ok (Opens call row ink') → TextGrows ink₀ (Ok (Calls stand call row ink'))
    unfolding OuterGrows TextGrows
    grows-calls stand {call} {row} {ink'} q = let h : ink.counts.calls < ink'.counts.calls = subst (OuterGrows ink) q k in omega (arith, h, u.grown)
