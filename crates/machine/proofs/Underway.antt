-- The invariant of every loop over `turn`, whoever keeps the records: what a loop cites, and nothing else.
--     slot_held: the state's slot is one of the records. turnable: what `turn` asks. goes_on, falls: one exchange and one turn. comes-out, finishes: the state is over.
-- Assumes nothing.
use mathlib.Core.Path.{◌≡◌, sym, ◌∙◌, subst}
use mathlib.Core.Bool.{Bool, true, false}
use mathlib.Core.List.{List}
use Prim.Native.Nat.{ℕ, ◌<◌}
use native.Mathlib.Omega.{arith}
use lib.IntN.{ℤ}
use lib.ListN.{length, get_or, set, replicate, length-replicate, get_or-replicate}
use lib.Seq.{ext_get_or}
use Rattle.definition.specs.Records.{PromisedWith}
use Rattle.machine.specs.declared.Frame.{Frame}
use Rattle.machine.specs.declared.State.{State}
use Rattle.machine.specs.States.{no_frame}
use Rattle.machine.specs.Underway.{Host, lends, turns_left, Settled, Over, Means, MeansBy, UnderwayFor, Underway, Turnable, Turns}
use Rattle.machine.proofs.Settling.{settles}

module _ {t : List ℕ} {h : Host} {s : State} {fs : List Frame} {rows : List ℕ} {b : List ℤ} {room : List ℕ}
    (u : UnderwayFor t h s fs rows b room) where
  module _ (on : s.going ≡ true) where
    pub slot_held : s.slot < length fs
    unfolding MeansBy
    slot_held =
        let m : (s.slot < h.records) × Means s.kind t h (set fs s.slot s.put) s (get_or fs s.slot no_frame) rows b room =
        subst (λ (g : Bool). MeansBy g t h fs s rows b room) on u.means in
        subst (λ (n : ℕ). s.slot < n) (sym u.size) m.0

    module _ {old : Frame} (is_old : old ≡ get_or fs s.slot no_frame) where
      pub turnable : Turnable t s old rows b room
      turnable = record { h = h; fs = fs; going = on; is_old = is_old; underway = u }

      module _ {r : State} {rows' : List ℕ} {b' : List ℤ} {room' : List ℕ} (x : Turns t s old rows b room r rows' b' room') where
        pub goes_on : UnderwayFor t h r (set fs s.slot s.put) rows' b' room'
        goes_on = (x h fs on is_old u).underway

        pub falls : turns_left r < turns_left s
        falls = (x h fs on is_old u).less

-- a state that is over, whatever counts as drawn before
pub comes_out : {t : List ℕ} {h : Host} {s : State} {fs : List Frame} {rows : List ℕ} {b : List ℤ} {room : List ℕ} → UnderwayFor t h s fs rows b room → s.going ≡ false
    → Over t h fs s.answer s.here.net b room
unfolding MeansBy
comes_out {t} {h} {s} {fs} {rows} {b} {room} u off = subst (λ (g : Bool). MeansBy g t h fs s rows b room) off u.means

pub finishes : {t : List ℕ} {words : List ℤ} {room₀ : List ℕ} {fs₀ : List Frame} {s : State} {fs : List Frame} {rows : List ℕ} {b : List ℤ} {room : List ℕ}
    → Underway t (length words) room₀ (length fs₀) s fs rows b room → s.going ≡ false → PromisedWith no_frame t words room₀ fs₀ s.answer b room fs
finishes {t} {words} {room₀} {fs₀} {s} {fs} {rows} {b} {room} u off =
    let m : Over t (lends (length words) room₀ (length fs₀)) fs s.answer s.here.net b room = comes_out u off in
    let settled : Settled t (lends (length words) room₀ (length fs₀)) s.answer room = settles m.came_out in
    record {
      outcome = settled.outcome;
      answers = settled.answers;
      given = settled.given;
      kept = settled.kept;
      cleared = m.cleared;
      emptied =
          ext_get_or no_frame fs (replicate (length fs₀) no_frame) (u.size ∙ sym (length-replicate (length fs₀) no_frame))
          (λ i l. m.blank i (omega arith) ∙ sym (get_or-replicate (length fs₀) i no_frame no_frame (subst (λ (k : ℕ). i < k) u.size l)));
    }
