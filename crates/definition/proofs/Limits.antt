-- The limits of RULES 14, each from both sides: what still passes, and what one more does. Laws and not rows, since a text that reaches most of
-- them is too long to compute; so a definition whose limit is one off is refused here, whatever its size. The numbers are written out, so that
-- specs/Limits.antt is held to them, too.
-- Assumes nothing.
use Rattle.std.specs.Prelude.{if◌then◌else◌}
use mathlib.Core.Path.{◌≡◌, refl, subst}
use mathlib.Core.Bool.{Bool, true, false, ◌&&◌}
use mathlib.Core.List.{List, [], ◌∷◌, ◌++◌}
use Prim.Native.Nat.{ℕ, zero, suc, ◌+◌, ◌≤◌, ◌<◌}
use native.Mathlib.Omega.{arith}
use lib.Dec.{leb}
use lib.IntN.{ℤ, pos, nat_abs}
use lib.ListN.{length}
use borrow.Author.Tests.{lt-ltb, le-ltb, le-leb, lt-leb}
use Rattle.grammar.specs.Steps.{verdict_of}
use Rattle.grammar.proofs.Verdicts.{Bytes}
use Rattle.definition.specs.Words.{Placed, any, those, bytes_of}
use Rattle.definition.specs.declared.Rule.TheVariants.{TextTooLong, TooManyDefinitions, TooManyCalls, TooManyShapes, FlatFileTooLong}
use Rattle.definition.specs.Rules.{refuse, order}
use Rattle.definition.specs.Commands.{Number, Shape, Turn, Command, draw, call}
use Rattle.definition.specs.Faults.{beyond, parts_of, has_too_many}
use Rattle.definition.specs.Table.{Definition, Table, enter}
use Rattle.definition.specs.Drawing.{Chain, Drawn, Event, called, drew, entered, refused, define, happens}
use Rattle.definition.specs.Counts.{Counts, counts, finished, stopped, counted, shapes_of}
use Rattle.definition.specs.Flat.{decimal, flat}
use Rattle.definition.specs.Position.{line_of, column_of, since_line_end}
use Rattle.definition.specs.Answer.{Outcome, accepted, rejected, fitted, Answers, too_long, not_cif, read}
use Rattle.definition.specs.Listing.{listing, Lists, over, within}
use Rattle.definition.specs.Computed.{verdict, answer_of}
use Rattle.definition.proofs.Held.{number_after}
use Rattle.definition.proofs.Right.{right}
use Rattle.definition.proofs.Rows.{Row, accepting, refusing, in_calls, Holds, Each, all_hold, each}

-- 3, 6, 16 and 20: 16,777,215
pub range_reached : (z : ℤ) → nat_abs z ≤ 16777215 → beyond z ≡ false
unfolding beyond
range_reached z h = le-ltb 16777215 (nat_abs z) h

pub range_passed : (z : ℤ) → 16777215 < nat_abs z → beyond z ≡ true
unfolding beyond
range_passed z h = lt-ltb 16777215 (nat_abs z) h

-- RULES 12, request 4: of one shape 16 comes before 20, and in the order of the rules 20 stands directly after it
pub directly_after-16 : number_after 16 order ≡ 20
unfolding number_after
directly_after-16 = refl

-- 9: 1,024 points and 32 transformations
pub points-reached : (k : Shape Number) → length k.points ≤ 1024 → has_too_many (draw k) ≡ false
unfolding has_too_many parts_of any
points-reached k h = rw (le-ltb 1024 (length k.points) h)

pub points-passed : (k : Shape Number) → 1024 < length k.points → has_too_many (draw k) ≡ true
unfolding has_too_many parts_of any
points-passed k h = rw (lt-ltb 1024 (length k.points) h)

pub turns-reached : (n : Number) (ts : List (Turn Number)) → length ts ≤ 32 → has_too_many (call n ts) ≡ false
unfolding has_too_many parts_of any
turns-reached n ts h = le-ltb 32 (length ts) h

pub turns-passed : (n : Number) (ts : List (Turn Number)) → 32 < length ts → has_too_many (call n ts) ≡ true
unfolding has_too_many parts_of any
turns-passed n ts h = lt-ltb 32 (length ts) h

-- 10: 512 live definitions
pub table-reached : (t : Table) (d : Definition) → length (enter d t) ≤ 512 → happens t (define d) ≡ entered d t ∷ []
unfolding happens
table-reached t d h = rw (le-ltb 512 (length (enter d t)) h)

pub table-passed : (t : Table) (d : Definition) → 512 < length (enter d t) → happens t (define d) ≡ refused (refuse TooManyDefinitions d.place) [] ∷ []
unfolding happens
table-passed t d h = rw (lt-ltb 512 (length (enter d t)) h)

-- 15 and 17: 1,048,576 calls and shapes, counted before this one
module _ (c : Counts) where
  pub calls-reached : (p : ℕ) (chain : Chain) (d : Definition) → c.calls < 1048576
      → counted c (called p chain d) ≡ finished (counts (c.calls + 1) c.shapes c.redefinitions)
  unfolding counted
  calls-reached p chain d h = rw (lt-ltb c.calls 1048576 h)

  pub calls-passed : (p : ℕ) (chain : Chain) (d : Definition) → 1048576 ≤ c.calls → counted c (called p chain d) ≡ stopped (refuse TooManyCalls p) chain
  unfolding counted
  calls-passed p chain d h = rw (le-ltb c.calls 1048576 h)

  pub shapes-reached : (d : Drawn) → c.shapes < 1048576 → counted c (drew d) ≡ finished (counts c.calls (c.shapes + 1) c.redefinitions)
  unfolding counted
  shapes-reached d h = rw (lt-ltb c.shapes 1048576 h)

  pub shapes-passed : (d : Drawn) → 1048576 ≤ c.shapes → counted c (drew d) ≡ stopped (refuse TooManyShapes d.place) d.chain
  unfolding counted
  shapes-passed d h = rw (le-ltb c.shapes 1048576 h)

-- 18: a flat file of 16,777,216 bytes, in a room that holds it
module _ (c : Counts) (cs : List (Placed Command)) (es : List Event) (room : ℕ) where
  pub file_reached : length (flat (shapes_of es)) ≤ room → length (flat (shapes_of es)) ≤ 16777216 → fitted (finished c) cs es room ≡ accepted cs c es
  unfolding fitted
  file_reached h g = rw (le-leb (length (flat (shapes_of es))) room h) (rw (le-leb (length (flat (shapes_of es))) 16777216 g))

  pub room-passed : room < length (flat (shapes_of es)) → fitted (finished c) cs es room ≡ rejected (refuse FlatFileTooLong 0) []
  unfolding fitted
  room-passed h = rw (lt-leb (length (flat (shapes_of es))) room h)

  pub file_passed : 16777216 < length (flat (shapes_of es)) → fitted (finished c) cs es room ≡ rejected (refuse FlatFileTooLong 0) []
  unfolding fitted
  file_passed h = rw (lt-leb (length (flat (shapes_of es))) 16777216 h) (neither (leb (length (flat (shapes_of es))) room))
    where
      neither : (b : Bool) → (if b && false then accepted cs c es else rejected (refuse FlatFileTooLong 0) []) ≡ rejected (refuse FlatFileTooLong 0) []
      neither true = refl
      neither false = refl

-- 1: a text of 16,777,216 bytes is still judged by the grammar, and a longer one has this refusal and no other
pub text-reached : (t : List ℕ) (words room : ℕ) → Bytes t → length t ≤ 16777216 → Answers t words room (verdict (verdict_of 0 0 0 t) t words room)
unfolding answer_of
text-reached t words room b h = subst (Answers t words room) judged_so (right t words room b)
  where
    judged_so : answer_of t words room ≡ verdict (verdict_of 0 0 0 t) t words room
    judged_so = rw (le-ltb 16777216 (length t) h)

pub text-passed : (t : List ℕ) (words room : ℕ) {o : Outcome} → 16777216 < length t → Answers t words room o → o ≡ rejected (refuse TextTooLong 0) []
text-passed t words room h (too_long g) = refl
text-passed t words room h (not_cif g x y) = absurd (omega (arith, h, g))
text-passed t words room h (read g m) = absurd (omega (arith, h, g))

-- RULES 12, request 4: 1 and 18 stand at place 0, which is line 1 and column 1 of every text, and so does 2 in an empty one
pub start_of_text : (t : List ℕ) → (line_of t 0 ≡ 1) × (column_of t 0 ≡ 1)
unfolding line_of column_of those since_line_end
start_of_text t = (refl, refl)

-- the list program takes 32,768 bytes
pub list_reached : (t : List ℕ) {o : Outcome} → length t ≤ 32768 → Answers t 32768 32768 o → Lists t (listing t o)
list_reached t h a = within h a

pub list_passed : (t : List ℕ) {p : List ℕ} → 32768 < length t → Lists t p → p ≡ listing t (rejected (refuse TextTooLong 0) [])
list_passed t h (over g) = refl
list_passed t h (within g a) = absurd (omega (arith, h, g))

-- 14: depth 33, by texts, which are short. The symbols n, n - 1 .. 1 each call the one below: 8 bytes and the digits of two numbers for a symbol
ladder : ℕ → List ℕ → List ℕ
unfolding bytes_of decimal
ladder zero rest = rest
ladder (suc n) rest = bytes_of "DS" ++ (decimal (pos (suc n)) ++ (bytes_of ";C" ++ (decimal (pos n) ++ (bytes_of ";DF;" ++ ladder n rest))))

-- its calls but the last, which are open there, in a ladder of 32; with the call of its first symbol they are 32
rungs : List ℕ
rungs =
    5 ∷ 17 ∷ 29 ∷ 41 ∷ 53 ∷ 65 ∷ 77 ∷ 89 ∷ 101 ∷ 113 ∷ 125 ∷ 137
    ∷ 149 ∷ 161 ∷ 173 ∷ 185 ∷ 197 ∷ 209 ∷ 221 ∷ 233 ∷ 245 ∷ 257 ∷ 269 ∷ 279 ∷ 289 ∷ 299 ∷ 309 ∷ 319 ∷ 329 ∷ 339 ∷ 349 ∷ []

-- a ladder of 32 ends at byte 365, and its last call, of symbol 0, stands at 359. At depth 33 the refusals 11, 12 and 13 come before 14
pub levels : List Row
unfolding bytes_of ladder rungs
levels =
    accepting 2 (ladder 31 (bytes_of "DS0;DF;C31;E")) 0 32 0 (bytes_of "E\n")
    ∷ in_calls (372 ∷ rungs) (refusing 2 (ladder 32 (bytes_of "DS0;DF;C32;E")) 14 359)
    ∷ in_calls (379 ∷ rungs) (refusing 2 (ladder 32 (bytes_of "DS1;C0R1 1;DF;C32;E")) 11 369)
    ∷ in_calls (365 ∷ rungs) (refusing 2 (ladder 32 (bytes_of "C32;E")) 12 359)
    ∷ in_calls (376 ∷ rungs) (refusing 2 (ladder 32 (bytes_of "DS1;C32;DF;C32;E")) 13 369)
    ∷ []

pub levels_hold : Each Holds levels
unfolding all_hold levels ladder rungs
levels_hold = each levels tt
