-- The text goes on, while measuring and while writing: what its stretch came to makes the next state.
-- Assumes nothing.
use mathlib.Core.Path.{◌≡◌, refl, sym, ap, ◌∙◌, subst}
use mathlib.Core.Bool.{Bool, true}
use mathlib.Core.List.{List, []}
use Prim.Native.Nat.{ℕ, ◌+◌, ◌^◌, ◌≤◌, ◌<◌}
use native.Mathlib.Omega.{arith}
use lib.IntN.{ℤ}
use lib.ListN.{length}
use Rattle.definition.specs.declared.Refusal.{Refusal}
use Rattle.definition.specs.Answer.{failure}
use Rattle.definition.specs.Commands.{Turn, commands}
use Rattle.definition.specs.Standing.{outside}
use Rattle.definition.specs.Drawing.{Event, deeds}
use Rattle.definition.specs.Counts.{counts, stopped, ending}
use Rattle.reasons.proofs.Owned.{held-own, net_there}
use Rattle.turns.specs.Nets.{Carries}
use Rattle.turns.proofs.Nets.{nothing_carried}
use Rattle.shapes.specs.declared.Ink.{Ink}
use Rattle.shapes.specs.Painting.{Goes, Answered, Painted}
use Rattle.library.specs.Memory.{start_at, length_at, most}
use Rattle.chain.specs.Chain.{run_length, open_calls}
use Rattle.chain.proofs.Runs.{none_open}
use Rattle.passing.specs.Passed.{lent_of}
use Rattle.opening.specs.declared.Call.{Call}
use Rattle.stretch.specs.declared.Here.{Here}
use Rattle.between.specs.declared.Stand.{Stand}
use Rattle.between.specs.Texts.{Origin, Paused, Pausing, CallsOut, TextCase, TextBy, TextGrows}
use Rattle.machine.specs.declared.Frame.{Frame}
use Rattle.machine.specs.declared.Course.{Course}
use Rattle.machine.specs.declared.State.{State}
use Rattle.machine.specs.States.{started, no_here, Unwinds, Pushes, Writes, open_in, cut, onto, Passes}
use Rattle.machine.specs.Underway.{Host, origin_of, course_turns, all_of, NetThere, written_out, Fits, Phase, AtText, Arrives}
use Rattle.machine.proofs.Settling.{finished-goes}
use Rattle.machine.proofs.Stepping.{over_arrives, unwinds_arrive}
use Rattle.machine.proofs.Pushing.{text-pushed}
use Rattle.machine.proofs.Bodying.{halted}
use Rattle.std.specs.Prelude.{Err, Ok, Result}
use Rattle.between.specs.declared.Text.{Text}
use Rattle.between.specs.declared.Text.TheVariants.{Over, Calls}

module _ {t : List ℕ} {h : Host} {fs : List Frame} {c : Course} {rows : List ℕ} {b : List ℤ} {room : List ℕ} (x : AtText t h fs c rows b room) where
  pub text-stands : (length c.run ≡ run_length) × Pausing t c.records rows (cut b) c.stand c.ink (onto c.writing room)
  text-stands = (
    x.base.run_size,
    subst (λ (n : ℕ). Pausing t n rows (cut b) c.stand c.ink (onto c.writing room)) (sym x.base.records_is)
        (record { w = lent_of h.lent; all = all_of x.base.passed h; from = origin_of c.writing h; paused = x.paused }),
  )

  pub text-low : (length c.run ≡ run_length) × (c.level ≤ 32)
  text-low = (x.base.run_size, omega (arith, x.outside))

  abbrev all : List Event
  all = all_of x.base.passed h

  module _ {came : Result Text Refusal} {rows' : List ℕ} (b' : List ℤ) (room' : List ℕ) (s : Passes t rows b c room came rows' b' room') where
    comes_so : TextBy t (lent_of h.lent) h.records all (origin_of c.writing h) came rows' (cut b') (onto c.writing room')
    comes_so =
        subst (λ (n : ℕ). (w : ℕ) (es : List Event) (r₀ : Origin) → Paused t w n es r₀ rows (cut b) c.stand c.ink (onto c.writing room) → TextBy t w n es r₀ came rows' (cut b') (onto c.writing room'))
        x.base.records_is s.comes (lent_of h.lent) all (origin_of c.writing h) x.paused

    by_case : {y : Result Text Refusal} → came ≡ y → TextCase t (lent_of h.lent) h.records all (origin_of c.writing h) y rows' (cut b') (onto c.writing room')
    by_case {y} q = (subst (λ (z : Result Text Refusal). TextBy t (lent_of h.lent) h.records all (origin_of c.writing h) z rows' (cut b') (onto c.writing room')) q comes_so).comes

    -- a shape at which it stops outside of every call is moved by nothing
    outside-net : {why : Refusal} {from to : List ℕ} → Painted (started h.earlier) all from [] (Err why) to → NetThere x.base.passed h no_here.net
    unfolding Answered
    outside-net {why} y d stop =
        let e : ending (counts 0 h.earlier 0) all ≡ stopped why [] = y.answer in
        let own = held-own h.records (lent_of h.lent) [] (deeds (outside []) (commands 0 x.base.passed.letters)) in
        subst (λ (ts : List (Turn ℤ)). Carries ts no_here.net) (sym (net_there (counts 0 h.earlier 0) all {net = []} own e d stop)) nothing_carried

    pub text-stopped : {why : Refusal} → came ≡ Err why → {r : State} {b'' : List ℤ} → Unwinds (failure t why (open_in c)) c no_here b' r b'' → Arrives t h fs (course_turns c) r rows' b'' room'
    unfolding TextCase
    text-stopped {why} q u =
        let none : open_in c ≡ [] = ap (open_calls c.run) x.outside ∙ none_open c.run in
        unwinds_arrive b' x.base.size {here = no_here} (halted c.writing x.base.passed h room room' x.base.phase s.spares (by_case q) (outside-net (by_case q)) (ap (failure t why) none))
        (omega (arith, x.outside)) (λ i l. x.blank i (omega arith)) (s.same_words ∙ x.base.lent_is) u (omega arith)

    module _ {stand : Stand} {call : Call} {row : ℕ} {ink : Ink} (q : came ≡ Ok (Calls stand call row ink)) where
      calls_out : CallsOut t (lent_of h.lent) h.records all (origin_of c.writing h) rows' (cut b') stand call row ink (onto c.writing room')
      unfolding TextCase
      calls_out = by_case q

      pub text_may_call : (length c.run ≡ run_length) × (c.level < 32) × (row < most) × (start_at rows' row + length_at rows' row < 2 ^ 64)
      text_may_call =
          let y = calls_out in
          (x.base.run_size, omega (arith, x.outside), omega (arith, y.led.row_live, y.stocked.few), omega (arith, y.stocked.within row y.led.row_live, y.short))

      pub text-called : {on : Here} {r : State} → length room' ≡ length room → Pushes rows' c stand on call row ink r → Arrives t h fs (course_turns c) r rows' b' room'
      unfolding TextGrows
      text-called size pu =
          let more : c.ink.counts.calls < ink.counts.calls = subst (TextGrows c.ink) q s.grows in
          text-pushed b' room' x pu calls_out (calls_out.sized ∙ sym x.base.rows_size) s.same_words s.spares size more

    -- all is drawn
    pub text-drawn : {ink : Ink} → came ≡ Ok (Over ink) → Painted (started h.earlier) all (onto c.writing h.room) [] (Ok ink) (onto c.writing room')
    unfolding TextCase
    text-drawn q = by_case q

  -- while writing, the flat file stands in the room
  pub text-written : (c.writing ≡ true) → {came : Result Text Refusal} {rows' : List ℕ} (b' : List ℤ) (room' : List ℕ) (s : Passes t rows b c room came rows' b' room') {ink : Ink} → came ≡ Ok (Over ink)
      → {r : State} {b'' : List ℤ} {room'' : List ℕ} → Writes c ink b' room' r b'' room'' → Arrives t h fs (course_turns c) r rows' b'' room''
  text-written on {came} {rows'} b' room' s {ink} q {r} {b''} {room''} w =
      let p = x.base.passed in
      let y = subst (λ (o : Bool). Painted (started h.earlier) all (onto o h.room) [] (Ok ink) (onto o room')) on (text-drawn b' room' s q) in
      let f = subst (λ (o : Bool). Phase o all h room) on x.base.phase in
      let at_same = same_end f (finished-goes p h y) in
      over_arrives b' x.base.size
      (written_out p y (omega (arith, at_same, (fits_in f).0)) (omega (arith, at_same, (fits_in f).1)) w.laid x.base.rounded_is refl)
      x.blank (s.same_words ∙ x.base.lent_is) w.is w.words (omega arith)
    where
      fits_of : Phase true all h room → Fits all h
      fits_of f = unfold Phase in f

      fits_in : (f : Phase true all h room) → ((fits_of f).ink.pen.at + 2 ≤ length h.room) × ((fits_of f).ink.pen.at + 2 ≤ 16777216)
      fits_in f = ((fits_of f).in_room, (fits_of f).in_limit)

      same_end : (f : Phase true all h room) → {ink : Ink} → Goes (started h.earlier) all ink → ink.pen.at ≡ (fits_of f).ink.pen.at
      same_end f g = g.next ∙ sym (fits_of f).goes.next

  -- what the last line asks
  pub text_end : {came : Result Text Refusal} {rows' : List ℕ} (b' : List ℤ) (room' : List ℕ) (s : Passes t rows b c room came rows' b' room') {ink : Ink} → came ≡ Ok (Over ink) → ink.pen.at ≤ 2 ^ 60
  text_end b' room' s q =
      let g = finished-goes x.base.passed h (text-drawn b' room' s q) in
      omega (arith, g.reached.place_most, g.reached.shapes_most)
