-- The open body goes on: what its stretch came to makes the next state.
-- Assumes nothing.
use mathlib.Core.Path.{◌≡◌, refl, sym, ap, ◌∙◌, subst}
use mathlib.Core.Bool.{Bool, true, false}
use mathlib.Core.List.{List}
use Prim.Native.Nat.{ℕ, zero, suc, ◌+◌, ◌-◌, ◌*◌, ◌^◌, ◌≤◌, ◌<◌}
use native.Mathlib.Omega.{arith}
use lib.IntN.{ℤ}
use lib.ListN.{length}
use Rattle.definition.specs.declared.Answer.{Answer}
use Rattle.definition.specs.declared.Refusal.{Refusal}
use Rattle.definition.specs.Answer.{failure}
use Rattle.definition.specs.Counts.{stopped, ending}
use Rattle.definition.specs.Commands.{Turn}
use Rattle.definition.specs.Drawing.{Chain, Event}
use Rattle.laws.proofs.Story.Counting.{not_finished}
use Rattle.reasons.specs.Parts.{StopsIn}
use Rattle.reasons.proofs.Parts.{stops-part, stops-both}
use Rattle.reasons.proofs.Owned.{body_own, net_there}
use Rattle.turns.specs.declared.Net.{Net}
use Rattle.turns.specs.Nets.{Carries, Near}
use Rattle.counts.specs.Counting.{tally}
use Rattle.shapes.specs.declared.Ink.{Ink}
use Rattle.shapes.specs.Painting.{Goes, Answered, Painted}
use Rattle.shapes.proofs.Painting.{goes_on, stops, so_far}
use Rattle.library.specs.Memory.{table_of, start_at, length_at, most}
use Rattle.chain.specs.Chain.{run_length, open_calls}
use Rattle.passing.specs.Passed.{Passed}
use Rattle.opening.specs.declared.Call.{Call}
use Rattle.stretch.specs.declared.Here.{Here}
use Rattle.stretch.specs.Bodies.{rest_of, body_story, Led, CallsOn, BodyComes, Grows}
use Rattle.machine.specs.declared.Frame.{Frame}
use Rattle.machine.specs.declared.Course.{Course}
use Rattle.machine.specs.declared.State.{State}
use Rattle.machine.specs.States.{started, popping, Unwinds, Pushes, open_in, cut, onto, Spares, StandsIn, Stretches}
use Rattle.machine.specs.Underway.{Host, course_turns, all_of, NetThere, CameOut, stopped_there, Phase, InBody, Arrives}
use Rattle.machine.proofs.Stepping.{unwinds_arrive, pop_arrives}
use Rattle.machine.proofs.Pushing.{phase_on, body-pushed}
use Rattle.std.specs.Prelude.{Err, Ok, Result}
use Rattle.stretch.specs.declared.Body.{Body}
use Rattle.stretch.specs.declared.Body.TheVariants.{Ends, Calls}

-- a drawing that is stopped came out so: while writing it cannot be, since it is known to finish
pub halted : (writing : Bool) {t : List ℕ} (p : Passed t) (h : Host) {room₀ : List ℕ} (room room' : List ℕ) {chain : Chain} {why : Refusal} {a : Answer} {net : Net} → Phase writing (all_of p h) h room → Spares writing room room'
    → Painted (started h.earlier) (all_of p h) room₀ chain (Err why) (onto writing room') → NetThere p h net → a ≡ failure t why chain → CameOut t h a net room'
unfolding Phase Spares Answered
halted true p h room room' fits s x net e =
    absurd (not_finished (sym x.answer ∙ fits.goes.ends))
halted false p h room room' same s x net e = stopped_there p x.answer net e (s ∙ same)

module _ {t : List ℕ} {h : Host} {fs : List Frame} {c : Course} {here : Here} {rows : List ℕ} {b : List ℤ} {room : List ℕ} (x : InBody t h fs c here rows b room) where
  pub body-stands : StandsIn rows (cut b) c here
  body-stands = record {
    poised = record {
      sorted = x.calling.sorted;
      stocked = x.calling.stocked;
      short = x.calling.short;
      levels = x.base.run_size;
      some_left = omega arith;
      reached = so_far x.calling.going;
    };
    low = omega (arith, x.level_is, x.deep);
    near = subst (λ (m : ℕ). Near (m * 2 ^ 36) here.net) (sym x.level_is) x.near;
    rests = x.rests;
  }

  pub body-low : (length c.run ≡ run_length) × (c.level ≤ 32)
  body-low = (x.base.run_size, omega (arith, x.level_is, x.deep))

  pub body_some : 1 ≤ c.level
  body_some = omega (arith, x.level_is)

  abbrev mine : List Event
  mine = body_story h.records (table_of rows (cut b) c.stand.stock.live) (32 - suc x.k) (open_calls c.run (suc x.k)) x.outer (rest_of (cut b) here)

  -- a shape at which it stops has the net transformation of this body
  mine_net : {why : Refusal} {from to : List ℕ} → Painted c.ink mine from (open_calls c.run (suc x.k)) (Err why) to → NetThere x.base.passed h here.net
  unfolding Answered
  mine_net {why} y d s =
      let g = x.calling.going in
      let went : Goes x.calling.ink_there g.done c.ink = g.drawn.answer in
      let e : ending (tally c.ink.counts) mine ≡ stopped why (open_calls c.run (suc x.k)) = y.answer in
      let part : StopsIn (tally x.calling.ink_there.counts) x.calling.events (tally c.ink.counts) mine = stops-part _ _ g.done mine x.later g.parts went.ends in
      let own = body_own (32 - suc x.k) (table_of rows (cut b) c.stand.stock.live) (open_calls c.run (suc x.k)) x.outer h.records (rest_of (cut b) here) in
      subst (λ (ts : List (Turn ℤ)). Carries ts here.net) (sym (net_there (tally c.ink.counts) mine {net = x.outer} own e d ((stops-both x.calling.stops_in part).same_shape e d s))) x.carries

  module _ {body : Result Body Refusal} (room' : List ℕ) (s : Stretches rows (cut b) c here room body room') where
    -- at the level and with the records that are meant
    comes_so : BodyComes h.records rows (cut b) c.stand.stock.live (open_calls c.run (suc x.k)) (32 - suc x.k) here c.ink (onto c.writing room) body (onto c.writing room')
    comes_so =
        subst (λ (n : ℕ). BodyComes n rows (cut b) c.stand.stock.live (open_calls c.run (suc x.k)) (32 - suc x.k) here c.ink (onto c.writing room) body (onto c.writing room')) x.base.records_is
        (subst (λ (l : ℕ). BodyComes c.records rows (cut b) c.stand.stock.live (open_calls c.run l) (32 - l) here c.ink (onto c.writing room) body (onto c.writing room')) x.level_is s.comes)

    pub body-stopped : {why : Refusal} → body ≡ Err why → {r : State} {b' : List ℤ} → Unwinds (failure t why (open_in c)) c here b r b' → Arrives t h fs (course_turns c) r rows b' room'
    unfolding BodyComes
    body-stopped {why} q u =
        let y = subst (λ (z : Result Body Refusal). BodyComes h.records rows (cut b) c.stand.stock.live (open_calls c.run (suc x.k)) (32 - suc x.k) here c.ink (onto c.writing room) z (onto c.writing room')) q comes_so x.outer x.carries in
        let z = x.calling.halts (stops x.calling.going mine x.later refl y) in
        let same : open_calls c.run (suc x.k) ≡ open_in c = ap (open_calls c.run) (sym x.level_is) in
        unwinds_arrive b x.base.size {here = here} (halted c.writing x.base.passed h room room' x.base.phase s.spares z (mine_net y) (ap (failure t why) (sym same)))
        (omega (arith, x.held, x.level_is)) (λ i l. x.blank i (omega (arith, l, x.level_is))) x.base.lent_is u (omega arith)

    pub body_ended : {ink : Ink} → body ≡ Ok (Ends ink) → {r : State} → length room' ≡ length room → r ≡ popping c ink → Arrives t h fs (course_turns c) r rows b room'
    unfolding BodyComes Grows
    body_ended {ink} q {r} size e =
        let y = subst (λ (z : Result Body Refusal). BodyComes h.records rows (cut b) c.stand.stock.live (open_calls c.run (suc x.k)) (32 - suc x.k) here c.ink (onto c.writing room) z (onto c.writing room')) q comes_so x.outer x.carries in
        let more : c.ink.counts.calls ≤ ink.counts.calls = subst (Grows c.ink) q s.grows in
        let g = x.calling in
        pop_arrives {c = c}
        (record {
          passed = x.base.passed;
          rounded_is = x.base.rounded_is;
          records_is = x.base.records_is;
          earlier_is = x.base.earlier_is;
          size = x.base.size;
          lent_is = x.base.lent_is;
          run_size = x.base.run_size;
          rows_size = x.base.rows_size;
          room_size = size ∙ x.base.room_size;
          phase = phase_on c.writing _ _ _ _ s.spares x.base.phase;
        })
        x.level_is x.deep x.held x.blank x.callers
        (record {
          events = g.events;
          ink_there = g.ink_there;
          room_there = g.room_there;
          sorted = g.sorted;
          stocked = g.stocked;
          short = g.short;
          resumes = λ z. g.resumes z;
          halts = λ z. g.halts z;
          stops_in = g.stops_in;
          going = goes_on g.going mine x.later refl y;
        })
        e (omega (arith, more, x.level_is))

    module _ {on : Here} {call : Call} {row : ℕ} {ink : Ink} (q : body ≡ Ok (Calls on call row ink)) where
      calls_on : CallsOn h.records rows (cut b) c.stand.stock.live (open_calls c.run (suc x.k)) (32 - suc x.k) here c.ink (onto c.writing room) on call row ink (onto c.writing room')
      unfolding BodyComes
      calls_on = subst (λ (z : Result Body Refusal). BodyComes h.records rows (cut b) c.stand.stock.live (open_calls c.run (suc x.k)) (32 - suc x.k) here c.ink (onto c.writing room) z (onto c.writing room')) q comes_so

      pub body_may_call : (length c.run ≡ run_length) × (c.level < 32) × (row < most) × (start_at rows row + length_at rows row < 2 ^ 64)
      body_may_call =
          let led = calls_on.led in
          let z : suc x.k < 32 = some_level (32 - suc x.k) refl led in
          (x.base.run_size, omega (arith, z, x.level_is), omega (arith, led.row_live, x.calling.stocked.few), omega (arith, x.calling.stocked.within row led.row_live, x.calling.short))
        where
          some_level : (m : ℕ) → 32 - suc x.k ≡ m → Led h.records c.stand.stock.live (open_calls c.run (suc x.k)) (32 - suc x.k) call row → suc x.k < 32
          some_level zero e led = absurd (led.a_level e)
          some_level (suc m) e led = omega (arith, e)

      pub body-called : {r : State} → length room' ≡ length room → Pushes rows c c.stand on call row ink r → Arrives t h fs (course_turns c) r rows b room'
      unfolding Grows
      body-called size pu =
          let more : c.ink.counts.calls < ink.counts.calls = subst (Grows c.ink) q s.grows in
          body-pushed x pu room' calls_on s.spares size more
