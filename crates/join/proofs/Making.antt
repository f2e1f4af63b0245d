-- From what the parts of `join` promise to what it promises: one law for each way through the code.
-- Assumes nothing.
use Rattle.std.specs.Prelude.{if◌then◌else◌, Err, Ok, Result}
use mathlib.Core.Path.{◌≡◌, refl, sym, ap, ap₂, ◌∙◌, subst}
use mathlib.Core.Bool.{Bool, true, false, ◌&&◌}
use mathlib.Core.Logic.{◌⊎◌, inl, inr}
use mathlib.Core.List.{List, ◌++◌}
use Prim.Native.Nat.{ℕ, ◌+◌, ◌≤◌, ◌<◌}
use native.Mathlib.Omega.{arith}
use borrow.Author.Tests.{le-leb, lt-leb}
use lib.Dec.{leb}
use lib.ListN.{length, take, length-append}
use lib.Seq.{length-take-le}
use Rattle.grammar.specs.Steps.{verdict_of}
use Rattle.grammar.specs.Viable.{Grammatical}
use Rattle.grammar.proofs.Verdicts.{Bytes}
use Rattle.grammar.proofs.Verdicts
use Rattle.definition.specs.Limits.{most_bytes}
use Rattle.definition.specs.Words.{bytes_of}
use Rattle.definition.specs.declared.Rule.TheVariants.{FlatFileTooLong}
use Rattle.joining.specs.Joined.{before_e, joined}
use Rattle.digits.specs.Writes.{Writes}
use Rattle.digits.proofs.Writing.{both, same_bytes, begins, measures}
use Rattle.join.specs.Made.{CutAt, about, fitted, LeavesAt, Joining, judged, room_after, Made}
use Rattle.join.specs.declared.NotJoined.{NotJoined}
use Rattle.join.specs.declared.Which.TheVariants.{Neither, First, Second}

-- ---- the three parts of a joined text

-- by whether it fits
abbrev by_test : ℕ → Bool → Result ℕ NotJoined
by_test n b = if b then Ok n else about Neither FlatFileTooLong 0

module _ {first : List ℕ} {end : ℕ} (cut : CutAt first end) (second : List ℕ) where
  pub three_parts : {r₀ r₁ r₂ r₃ : List ℕ} {i j k : ℕ} → Writes r₀ r₁ 0 i (take end first) → Writes r₁ r₂ i j (bytes_of "DD0;") → Writes r₂ r₃ j k second
      → Writes r₀ r₃ 0 k (joined first second)
  unfolding joined
  three_parts a b c =
      same_bytes (ap (λ (u : List ℕ). u ++ (bytes_of "DD0;" ++ second)) cut.before) (both a (both b c))

  joined_length : length (joined first second) ≡ end + 4 + length second
  unfolding joined bytes_of
  joined_length =
      omega (
        arith,
        length-append (before_e first) (bytes_of "DD0;" ++ second),
        length-append (bytes_of "DD0;") second,
        ap (λ (u : List ℕ). length u) cut.before,
        length-take-le end first cut.within,
      )

  -- ---- whether it fits

  abbrev bytes : ℕ
  bytes = length (joined first second)

  -- 18 leaves the room alone
  eighteen : {r : Result ℕ NotJoined} (room : List ℕ) → r ≡ about Neither FlatFileTooLong 0 → (leb bytes (length room) && leb bytes most_bytes) ≡ false
      → (r ≡ fitted bytes (length room)) × (room ≡ room_after r (joined first second) room)
  eighteen room is test = (is ∙ ap (by_test bytes) (sym test), ap (λ (x : Result ℕ NotJoined). room_after x (joined first second) room) (sym is))

  no_room : {r : Result ℕ NotJoined} (room : List ℕ) → r ≡ about Neither FlatFileTooLong 0 → length room < end + 4 + length second
      → (r ≡ fitted bytes (length room)) × (room ≡ room_after r (joined first second) room)
  no_room room is h =
      let k : length room < bytes = omega (arith, h, joined_length) in
      eighteen room is (ap (λ (b : Bool). b && leb bytes most_bytes) (lt-leb bytes (length room) k))

  beyond_limit : {r : Result ℕ NotJoined} (room : List ℕ) → r ≡ about Neither FlatFileTooLong 0 → most_bytes < end + 4 + length second
      → (r ≡ fitted bytes (length room)) × (room ≡ room_after r (joined first second) room)
  beyond_limit room is h =
      let k : most_bytes < bytes = omega (arith, h, joined_length) in
      eighteen room is (ap (λ (b : Bool). leb bytes (length room) && b) (lt-leb bytes most_bytes k) ∙ neither (leb bytes (length room)))
    where
      neither : (b : Bool) → (b && false) ≡ false
      neither true = refl
      neither false = refl

  pub too_large : {r : Result ℕ NotJoined} (room : List ℕ) → r ≡ about Neither FlatFileTooLong 0
      → (length room < end + 4 + length second) ⊎ ((end + 4 + length second ≤ length room) × (most_bytes < end + 4 + length second))
      → (r ≡ fitted bytes (length room)) × (room ≡ room_after r (joined first second) room)
  too_large room is (inl h) = no_room room is h
  too_large room is (inr h) = beyond_limit room is h.1

  pub fits : {room left : List ℕ} {n : ℕ} → end + 4 + length second ≤ length room → end + 4 + length second ≤ most_bytes → Writes room left 0 n (joined first second)
      → (Ok n ≡ fitted bytes (length room)) × (left ≡ room_after (Ok n) (joined first second) room)
  fits {room} {left} {n} h k w =
      let h' : bytes ≤ length room = omega (arith, h, joined_length) in
      let k' : bytes ≤ most_bytes = omega (arith, k, joined_length) in (
        ap Ok (measures w) ∙ ap₂ {C = Result ℕ NotJoined} (λ (a b : Bool). by_test bytes (a && b)) (sym (le-leb bytes (length room) h')) (sym (le-leb bytes most_bytes k')),
        begins w h',
      )

-- ---- 1 and 2 leave the room alone

pub left_alone : {first second room : List ℕ} {r r' : Result ℕ NotJoined} → r ≡ r' → Joining first second (length room) r' → room_after r' (joined first second) room ≡ room → Made first second room r room
left_alone {first} {second} {room} is j e = record {
  joining = subst (Joining first second (length room)) (sym is) j;
  kept = sym (ap (λ (x : Result ℕ NotJoined). room_after x (joined first second) room) is ∙ e);
}

module _ {first second room : List ℕ} (h : length first ≤ most_bytes) (k : length second ≤ most_bytes) where
  pub first-leaves : {e : NotJoined} {r : Result ℕ NotJoined} → Bytes second → LeavesAt first First e → r ≡ Err e → Made first second room r room
  first-leaves bytes (n, is, leaves) q = left_alone (q ∙ ap Err is) (judged (Err n) (verdict_of 0 0 0 second) h k leaves (Verdicts.judged second bytes)) refl

  pub second-leaves : {e : NotJoined} {r : Result ℕ NotJoined} → Grammatical first → LeavesAt second Second e → r ≡ Err e → Made first second room r room
  second-leaves one (n, is, leaves) q = left_alone (q ∙ ap Err is) (judged (Ok tt) (Err n) h k one leaves) refl

  pub both-sound : {r : Result ℕ NotJoined} {left : List ℕ} → Grammatical first → Grammatical second → r ≡ fitted (length (joined first second)) (length room)
      → left ≡ room_after r (joined first second) room → Made first second room r left
  both-sound one two is left_so = record {
    joining = subst (Joining first second (length room)) (sym is) (judged (Ok tt) (Ok tt) h k one two);
    kept = left_so;
  }
