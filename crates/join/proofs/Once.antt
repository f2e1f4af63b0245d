-- What `join` answers is settled, and so is every byte of the room; and two accepted texts are joined wherever the joined text fits.
-- Assumes nothing.
use Rattle.std.specs.Prelude.{if◌then◌else◌, Ok, Result}
use mathlib.Core.Path.{◌≡◌, refl, sym, ap, ap₂, ◌∙◌}
use mathlib.Core.Bool.{Bool, ◌&&◌}
use mathlib.Core.List.{List, ◌++◌}
use Prim.Native.Nat.{ℕ, ◌≤◌}
use native.Mathlib.Omega.{arith}
use borrow.Author.Tests.{le-leb}
use lib.ListN.{length, take, drop}
use lib.Seq.{take_at, drop_at}
use Rattle.grammar.specs.Viable.{Grammatical}
use Rattle.grammar.proofs.Unique.{one_verdict}
use Rattle.definition.specs.Limits.{most_bytes}
use Rattle.definition.specs.Words.{Placed}
use Rattle.definition.specs.declared.Rule.TheVariants.{FlatFileTooLong}
use Rattle.definition.specs.Commands.{Command}
use Rattle.definition.specs.Drawing.{Event}
use Rattle.definition.specs.Counts.{Counts}
use Rattle.definition.specs.Answer.{accepted, Answers}
use Rattle.laws.proofs.Rules.Outcomes.{acceptance}
use Rattle.joining.specs.Joined.{joined}
use Rattle.join.specs.Made.{about, fitted, by_verdicts, Joining, first_too_long, second_too_long, judged, room_after, Made}
use Rattle.join.specs.declared.NotJoined.{NotJoined}
use Rattle.join.specs.declared.Which.TheVariants.{Neither}

module _ (first second : List ℕ) (room : ℕ) where
  abbrev by_these : Result Unit ℕ → Result Unit ℕ → Result ℕ NotJoined
  by_these v w = by_verdicts v w (fitted (length (joined first second)) room)

  one_joining : (r r' : Result ℕ NotJoined) → Joining first second room r → Joining first second room r' → r ≡ r'
  one_joining r r' (first_too_long a) (first_too_long b) = refl
  one_joining r r' (first_too_long a) (second_too_long b c) = absurd (omega (arith, a, b))
  one_joining r r' (first_too_long a) (judged v w b c j k) = absurd (omega (arith, a, b))
  one_joining r r' (second_too_long a b) (first_too_long c) = absurd (omega (arith, a, c))
  one_joining r r' (second_too_long a b) (second_too_long c d) = refl
  one_joining r r' (second_too_long a b) (judged v w c d j k) = absurd (omega (arith, b, d))
  one_joining r r' (judged v w a b j k) (first_too_long c) = absurd (omega (arith, a, c))
  one_joining r r' (judged v w a b j k) (second_too_long c d) = absurd (omega (arith, b, d))
  one_joining r r' (judged v w a b j k) (judged v' w' c d j' k') = ap₂ {C = Result ℕ NotJoined} by_these (one_verdict first v v' j j') (one_verdict second w w' k k')

  -- two texts of the grammar within the limit, whose joined text fits, are joined
  sound-joined : (r : Result ℕ NotJoined) → Joining first second room r → length first ≤ most_bytes → length second ≤ most_bytes → Grammatical first → Grammatical second
      → length (joined first second) ≤ room → length (joined first second) ≤ most_bytes → r ≡ Ok (length (joined first second))
  sound-joined r j a b g h fits within =
      one_joining r (by_these (Ok tt) (Ok tt)) j (judged (Ok tt) (Ok tt) a b g h)
      ∙ ap₂ {C = Result ℕ NotJoined} (λ (x y : Bool). if x && y then Ok (length (joined first second)) else about Neither FlatFileTooLong 0)
      (le-leb (length (joined first second)) room fits) (le-leb (length (joined first second)) most_bytes within)

module _ {first second room left left' : List ℕ} {r r' : Result ℕ NotJoined} where
  pub made_once : Made first second room r left → Made first second room r' left' → (r ≡ r') × (left ≡ left')
  made_once a b =
      let same = one_joining first second (length room) r r' a.joining b.joining in
      (same, a.kept ∙ (ap (λ (x : Result ℕ NotJoined). room_after x (joined first second) room) same ∙ sym b.kept))

within_limit : {t : List ℕ} {words room : ℕ} {cs : List (Placed Command)} {c : Counts} {es : List Event} → Answers t words room (accepted cs c es) → length t ≤ most_bytes
within_limit a = (acceptance.0 a).passed.within

in_grammar : {t : List ℕ} {words room : ℕ} {cs : List (Placed Command)} {c : Counts} {es : List Event} → Answers t words room (accepted cs c es) → Grammatical t
in_grammar a = let k = acceptance.0 a in (k.roles, k.passed.marked)

-- what is left in the room where the answer is that a text was written
pub record Stands (text room : List ℕ) (r : Result ℕ NotJoined) (left : List ℕ) : Type 0 where
  pub answer : r ≡ Ok (length text)
  pub its_bytes : take (length text) left ≡ text
  pub rest : drop (length text) left ≡ drop (length text) room

-- two accepted texts, whose joined text fits the room and is no longer than a text may be: it stands in the room. What comes of it when it is read is said by crate joining
pub accepted-joined : {first second room left : List ℕ} {r : Result ℕ NotJoined} {words₁ words₂ room₁ room₂ : ℕ} {cs₁ cs₂ : List (Placed Command)} {c₁ c₂ : Counts} {es₁ es₂ : List Event}
    → Answers first words₁ room₁ (accepted cs₁ c₁ es₁) → Answers second words₂ room₂ (accepted cs₂ c₂ es₂) → Made first second room r left
    → length (joined first second) ≤ length room → length (joined first second) ≤ most_bytes → Stands (joined first second) room r left
accepted-joined {first} {second} {room} {left} {r} one two made fits within =
    let t : List ℕ = joined first second in
    let is = sound-joined first second (length room) r made.joining (within_limit one) (within_limit two) (in_grammar one) (in_grammar two) fits within in
    let stands : left ≡ t ++ drop (length t) room = made.kept ∙ ap (λ (x : Result ℕ NotJoined). room_after x t room) is in
    record {
      answer = is;
      its_bytes = ap (take (length t)) stands ∙ take_at t (drop (length t) room) (length t) refl;
      rest = ap (drop (length t)) stands ∙ drop_at t (drop (length t) room) (length t) refl;
    }
