-- The invariant of a loop over `turn` that keeps the records in a local array, of which it uses the first so many: from the state where the loop begins, for every
-- entry for which that one is under way.
--     begins       where the loop begins.        slot-low, asks     what an exchange and `turn` ask.        goes_on, falls      one exchange and one turn.        ends     the state is over
--     begun, within        from what `begin` and `run` promise to what `run` asks and `flatten` promises
-- Assumes nothing.
use mathlib.Core.Path.{◌≡◌, refl, sym, ap, subst, ◌∙◌}
use mathlib.Core.Bool.{true, false}
use mathlib.Core.List.{List, [], ◌∷◌}
use Prim.Native.Nat.{ℕ, zero, suc, ◌≤◌, ◌<◌}
use native.Mathlib.Omega.{arith}
use lib.IntN.{ℤ}
use lib.ListN.{length, get_or, set, take, replicate, length-set, length-replicate}
use lib.Seq.{length-take-le, get_or-take, take-set-lt}
use Rattle.machine.specs.States.{no_frame}
use Rattle.machine.specs.Underway.{Host, lends, turns_left, UnderwayFor, Underway, Begins, Turnable, Turns}
use Rattle.machine.specs.declared.Frame.{Frame}
use Rattle.machine.specs.declared.State.{State}
use Rattle.machine.proofs.Underway.{slot_held, turnable, finishes}
use Rattle.machine.proofs.Underway.{goes_on as machine-goes-on}
use Rattle.machine.proofs.Underway.{falls as machine-falls}
use Rattle.local.specs.Within.{no_records, Begun, Ended, Runs, Within}

abbrev most : ℕ
most = 64

pub take-replicate : (n m : ℕ) (f : Frame) → n ≤ m → take n (replicate m f) ≡ replicate n f
take-replicate zero m f l = refl
take-replicate (suc n) zero f l = absurd (let z : ⊥ = omega (arith, l) in z)
take-replicate (suc n) (suc m) f l = ap (λ (fs : List Frame). f ∷ fs) (take-replicate n m f (omega (arith, l)))

pub record RunSoFar (t : List ℕ) (records : ℕ) (s₀ : State) (rows₀ : List ℕ) (b₀ : List ℤ) (room₀ : List ℕ) (frames : List Frame) (s : State) (rows : List ℕ) (b : List ℤ) (room : List ℕ) : Type 0 where
  pub few : records ≤ most
  pub full : length frames ≡ most
  pub words_size : length b ≡ length b₀
  pub room_size : length room ≡ length room₀
  pub once : Begun t s₀ records rows₀ b₀ room₀
  pub onward : (h : Host) → UnderwayFor t h s₀ (no_records records) rows₀ b₀ room₀ → UnderwayFor t h s (take records frames) rows b room

pub begins : {t : List ℕ} {records : ℕ} {s : State} {rows : List ℕ} {b : List ℤ} {room : List ℕ} {frames : List Frame} → Begun t s records rows b room → records ≤ most → frames ≡ replicate most no_frame
    → RunSoFar t records s rows b room frames s rows b room
begins {t} {records} {s} {rows} {b} {room} {frames} once few e = record {
  few = few;
  full = ap length e ∙ length-replicate most no_frame;
  words_size = refl;
  room_size = refl;
  once = once;
  onward = λ h u. subst (λ (fs : List Frame). UnderwayFor t h s fs rows b room) (sym (ap (take records) e ∙ take-replicate records most no_frame few)) u;
}

module _ {t : List ℕ} {records : ℕ} {s₀ : State} {rows₀ : List ℕ} {b₀ : List ℤ} {room₀ : List ℕ} {frames : List Frame} {s : State} {rows : List ℕ} {b : List ℤ} {room : List ℕ}
    (g : RunSoFar t records s₀ rows₀ b₀ room₀ frames s rows b room) where
  now-underway : UnderwayFor t g.once.h s (take records frames) rows b room
  now-underway = g.onward g.once.h g.once.underway

  module _ (on : s.going ≡ true) where
    slot_lent : s.slot < records
    slot_lent = omega (arith, slot_held now-underway on, length-take-le records frames (omega (arith, g.few, g.full)))

    pub slot_low : s.slot < most
    slot_low = omega (arith, slot_lent, g.few)

    module _ {old : Frame} (is_old : old ≡ get_or frames s.slot no_frame) where
      is_taken : old ≡ get_or (take records frames) s.slot no_frame
      is_taken = is_old ∙ sym (get_or-take records frames s.slot no_frame slot_lent)

      pub asks : Turnable t s old rows b room
      asks = turnable now-underway on is_taken

      module _ {r : State} {rows' : List ℕ} {b' : List ℤ} {room' : List ℕ} (so : Turns t s old rows b room r rows' b' room') where
        pub goes_on : length b' ≡ length b → length room' ≡ length room → RunSoFar t records s₀ rows₀ b₀ room₀ (set frames s.slot s.put) r rows' b' room'
        goes_on words_same room-same = record {
          few = g.few;
          full = length-set frames s.slot s.put ∙ g.full;
          words_size = words_same ∙ g.words_size;
          room_size = room-same ∙ g.room_size;
          once = g.once;
          onward = λ h u. subst (λ (fs : List Frame). UnderwayFor t h r fs rows' b' room') (sym (take-set-lt records frames s.slot s.put slot_lent))
              (machine-goes-on (g.onward h u) on is_taken so);
        }

        pub falls : turns_left r < turns_left s
        falls = machine-falls now-underway on is_taken so

  pub ends : s.going ≡ false → Runs t s₀ records rows₀ b₀ room₀ s b room
  ends off h u = record { left = take records frames; rows = rows; is_over = off; underway = g.onward h u }

module _ {t : List ℕ} {room : List ℕ} {records : ℕ} {s : State} {rows' : List ℕ} {b' : List ℤ} {room' : List ℕ} where
  first : {lent : ℕ} → Begins t lent room records s rows' b' room' → Underway t lent room records s (no_records records) rows' b' room'
  first c = c (no_records records) (length-replicate records no_frame)

  pub begun : {lent : ℕ} → Begins t lent room records s rows' b' room' → Begun t s records rows' b' room'
  begun {lent} c = record { h = lends lent room records; underway = first c }

  pub within : {words : List ℤ} {r : State} {b'' : List ℤ} {room'' : List ℕ} → Begins t (length words) room records s rows' b' room' → Runs t s records rows' b' room' r b'' room''
      → Within t words room records r.answer b'' room''
  within {words} {r} {b''} {room''} c runs =
      let e : Ended t (lends (length words) room records) r b'' room'' = runs (lends (length words) room records) (first c) in
      record {
        left = e.left;
        promised = finishes (subst (λ (n : ℕ). Underway t (length words) room n r e.left e.rows b'' room'') (sym (length-replicate records no_frame)) e.underway) e.is_over;
      }
