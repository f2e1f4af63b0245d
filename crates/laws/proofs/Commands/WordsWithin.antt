-- No command of a body needs more words than it has bytes: its letter and its semicolon stand for two of its words, and a letter between them for
-- each of the others. So with as many words lent as a text has bytes refusal 25 falls nowhere.
-- Assumes nothing.
use Rattle.std.specs.Prelude.{if◌then◌else◌}
use mathlib.Core.Path.{◌≡◌, refl, ap}
use mathlib.Core.Bool.{Bool, true, false, ◌||◌}
use mathlib.Core.List.{List, [], ◌∷◌, map}
use Prim.Native.Nat.{ℕ, suc, ◌+◌, ◌-◌, ◌*◌, ◌≤◌}
use native.Mathlib.Omega.{arith}
use borrow.Author.Tests.{eqb-true}
use lib.IntN.{pos, neg_ℤ}
use lib.ListN.{length, drop, length-append, length-map, length-drop}
use Rattle.grammar.specs.Notation.{Role, Letter, has, dec, Role-discrete, head, turn, axis, stop, sign, lead, second, 'B', 'C', 'D', 'E', 'L', 'P', 'R', 'S', 'T', 'W', 'X'}
use Rattle.grammar.specs.Tables.{letter}
use Rattle.grammar.specs.Viable.{Marked}
use Rattle.definition.specs.Words.{at, Point}
use Rattle.definition.specs.Commands.{Number, Turn, mirror_x, mirror_y, Shape, Command, nothing, worth, numbers, paired, next, turn_at, turns, command_at, commands, ◌plays◌, ◌is◌}
use Rattle.definition.specs.Standing.{Standing, outside, scaled_shape, scaled_turn}
use Rattle.definition.specs.Faults.{both}
use Rattle.definition.specs.Flat.{numbers_of_shape}
use Rattle.definition.specs.Drawing.{step_of, deeds, Event, story}
use Rattle.definition.specs.Held.{total, words_of_turn, words_of_step, words_of_body, held_to, words_needed}
use Rattle.laws.proofs.Lists.Range.{All, all_to}
use Rattle.laws.proofs.Commands.NumberPlaces.{either_by, as_long}
use Rattle.laws.proofs.Commands.Course.{apart, Space, Spaced, matched_spaced, box_brings, flash_brings, wire_brings, call_brings, layer_brings, translate_brings, rotate_brings}
use Rattle.laws.proofs.Commands.Ordered.{Stage, between, halfway, further, over, Orderly, done, passes, parts, ends, begins, begins_D, begins_E, starts, finishes, deletes, orderly, ordered, quiet-commands, stop-commands, second_commands, head_commands}
use Rattle.laws.proofs.Story.WordsHeld.{Takes, Take, done as none-taken, step as one-taken, Holds, take-holds, held_all, needed-within}

-- ---- one command

-- the letters before the semicolon
unfoldable pub reach : List Letter → ℕ
reach [] = 0
reach (l ∷ m) = let rest = reach m in if l plays stop then 0 else suc rest

apart-reach : (m : List Letter) → apart m ≤ reach m
unfolding apart reach
apart-reach [] = omega arith
apart-reach (l ∷ m) = go (l plays turn) (l plays stop) (apart-reach m)
  where
    go : (a b : Bool) → apart m ≤ reach m → (if a || b then 0 else suc (apart m)) ≤ (if b then 0 else suc (reach m))
    go true b h = omega arith
    go false true h = omega arith
    go false false h = omega arith

-- each number begins with a letter of its own
numbers_apart : (n : ℕ) (minus : Bool) (m : List Letter) → length (numbers n minus m) ≤ apart m
unfolding numbers apart
numbers_apart n minus [] = omega arith
numbers_apart n minus (l ∷ m) = go (l plays turn || l plays stop) (l plays lead) (numbers_apart (n + 1) (l plays sign) m)
  where
    number : Number
    number = let v = pos (worth (l.byte - 48) m) in if minus then at (n - 1) (neg_ℤ v) else at n v

    go : (a b : Bool) → length (numbers (n + 1) (l plays sign) m) ≤ apart m
        → length (if a then [] else if b then number ∷ numbers (n + 1) (l plays sign) m else numbers (n + 1) (l plays sign) m) ≤ (if a then 0 else suc (apart m))
    go true b h = omega arith
    go false true h = omega arith
    go false false h = omega arith

both-length : {A : Type 0} (ps : List (Point A)) → length (both ps) ≡ 2 * length ps
both-length [] = refl
both-length (p ∷ ps) = let h = both-length ps in omega arith

paired-length : (ns : List Number) → 2 * length (paired ns) ≤ length ns
unfolding paired
paired-length [] = omega arith
paired-length (x ∷ []) = omega arith
paired-length (x ∷ y ∷ ns) = let h = paired-length ns in omega arith

shape-numbers : (s : Standing) (k : Shape Number) → length (numbers_of_shape (scaled_shape s k)) ≡ length k.sizes + (2 * length k.points + 2 * length k.directions)
unfolding scaled_shape
shape-numbers s k = simp (length-append, both-length, length-map)

-- a transformation has a letter for each of its words, the next one's letter not among them
turn-apart : (s : Standing) (n : ℕ) (l : Letter) (m : List Letter) → (l plays turn) ≡ true → Space l m → words_of_turn (scaled_turn s (turn_at n l m)) ≤ suc (apart m)
unfolding turn_at scaled_turn words_of_turn
turn-apart s n l m e h =
    either_by P (l is 'T') _ _ (λ i. let k = h.least translate_brings e i in omega arith)
    (either_by P (l is 'R') _ _ (λ i. let k = h.least rotate_brings e i in omega arith) (either_by P (next axis m is 'X') mirror_x mirror_y (λ i. omega arith) (omega arith)))
  where
    P : Turn Number → Type 0
    P t = words_of_turn (scaled_turn s t) ≤ suc (apart m)

turns-reach : (s : Standing) (n : ℕ) (m : List Letter) → Spaced m → total words_of_turn (map (scaled_turn s) (turns n m)) + apart m ≤ reach m
unfolding turns apart reach Spaced
turns-reach s n [] h = omega arith
turns-reach s n (l ∷ m) h = go (l plays stop) (l plays turn) refl (turns-reach s (n + 1) m h.1)
  where
    go : (a b : Bool) → (l plays turn) ≡ b → total words_of_turn (map (scaled_turn s) (turns (n + 1) m)) + apart m ≤ reach m
        → total words_of_turn (map (scaled_turn s) (if a then [] else if b then turn_at n l m ∷ turns (n + 1) m else turns (n + 1) m)) + (if b || a then 0 else suc (apart m))
        ≤ (if a then 0 else suc (reach m))
    go true true e i = omega arith
    go true false e i = omega arith
    go false true e i = let k = turn-apart s n l m e h.0 in omega arith
    go false false e i = omega arith

-- a command has a letter for each of its words: the first, those before its semicolon, and that
pub command_takes : (n : ℕ) (l : Letter) (m : List Letter) → l.role ≡ head → Spaced (l ∷ m) → Takes (2 + reach m) (command_at n l m)
unfolding command_at step_of words_of_body words_of_step Spaced dec
command_takes n l m r h =
    let e : (l plays head) ≡ true = ap (λ (ρ : Role). dec (Role-discrete ρ head)) r in
    let ns = numbers (n + 1) false m in
    let few = numbers_apart (n + 1) false m in
    let near = apart-reach m in
    let P : Command → Type 0 = Takes (2 + reach m) in
    either_by P (l is 'P') _ _ (λ i s. rw shape-numbers (omega (arith, paired-length ns)))
    (either_by P (l is 'B') _ _ (λ i s. rw shape-numbers (omega (arith, h.0.least box_brings e i)))
    (either_by P (l is 'R') _ _ (λ i s. rw shape-numbers (omega (arith, h.0.least flash_brings e i)))
    (either_by P (l is 'W') _ _ (λ i s. rw shape-numbers (omega (arith, h.0.least wire_brings e i, paired-length (drop 1 ns), length-drop 1 ns)))
    (either_by P (l is 'L') _ _ (λ i s. omega (arith, h.0.least layer_brings e i))
    (either_by P (l is 'C') _ _ (λ i s. omega (arith, h.0.least call_brings e i, turns-reach s (n + 1) m h.1))
    (either_by P (l is 'D') _ _
    (λ i. either_by P (next second m is 'S') _ _ (λ j s. omega arith) (either_by P (next second m is 'D') _ _ (λ j s. omega arith) (λ s. omega arith)))
    (λ s. omega arith)))))))

-- ---- all commands of a text

-- what is still to come of the command that a stage stands in, with its semicolon
abbrev due : Stage → List Letter → ℕ
due between m = 0
due halfway m = suc (reach m)
due further m = suc (reach m)
due over m = 0

record Taken (g : Stage) (n : ℕ) (m : List Letter) : Type 0 where
  words : ℕ
  fit : words + due g m ≤ length m
  take : Take words (commands n m)

module _ {n : ℕ} {l : Letter} {m : List Letter} {g : Stage} (t : Taken g (n + 1) m) where
  -- a letter that begins no command
  on : {h : Stage} → commands n (l ∷ m) ≡ commands (n + 1) m → due h (l ∷ m) ≤ suc (due g m) → Taken h n (l ∷ m)
  on e k = record { words = t.words; fit = omega (arith, t.fit); take = rw e t.take }

  -- one that begins a command which takes no more words than it has letters
  begun : {j : ℕ} → l.role ≡ head → Takes j (command_at n l m) → j ≤ suc (due g m) → Taken between n (l ∷ m)
  begun {j} e f k = record { words = j + t.words; fit = omega (arith, t.fit); take = rw (head_commands n l m e) (one-taken f t.take) }

reach_on : (l : Letter) (m : List Letter) → reach (l ∷ m) ≤ suc (reach m)
unfolding reach
reach_on l m = either_by (λ (r : ℕ). r ≤ suc (reach m)) (l plays stop) 0 (suc (reach m)) (λ e. omega arith) (omega arith)

due_on : (g : Stage) (l : Letter) (m : List Letter) → due g (l ∷ m) ≤ suc (due g m)
due_on between l m = omega arith
due_on halfway l m = omega (arith, reach_on l m)
due_on further l m = omega (arith, reach_on l m)
due_on over l m = omega arith

reach-stop : (l : Letter) (m : List Letter) → l.role ≡ stop → reach (l ∷ m) ≡ 0
unfolding reach dec
reach-stop l m e = rw e

-- E is nothing that a definition retains
e_at : (n b : ℕ) (ρ : Role) (m : List Letter) → b ≡ 69 → command_at n (letter b ρ) m ≡ nothing
unfolding command_at has
e_at n b ρ m e = rw e

e_takes : (n : ℕ) (l : Letter) (m : List Letter) → (l is 'E') ≡ true → Takes 0 (command_at n l m)
unfolding has step_of words_of_body
e_takes n l m e s = rw (e_at n l.byte l.role m (eqb-true l.byte 69 e)) (omega arith)

taken : {g : Stage} {i : Bool} {m : List Letter} → Orderly g i m → (n : ℕ) → Spaced m → Taken g n m
unfolding Spaced
taken done n h = record { words = 0; fit = omega arith; take = unfold commands in none-taken }
taken (passes {g} {i} {l} {m} q o) n h = on (taken o (n + 1) h.1) (quiet-commands n l m q) (due_on g l m)
taken (parts {i} {l} {m} e o) n h = on (taken o (n + 1) h.1) (stop-commands n l m e) (omega arith)
taken (ends {i} {l} {m} e o) n h = on (taken o (n + 1) h.1) (stop-commands n l m e) (omega (arith, reach-stop l m e))
taken (begins {i} {l} {m} e d f o) n h = begun (taken o (n + 1) h.1) e (command_takes n l m e h) (omega arith)
taken (begins_D {i} {l} {m} e d o) n h = begun (taken o (n + 1) h.1) e (command_takes n l m e h) (omega arith)
taken (begins_E {l} {m} e f o) n h = begun (taken o (n + 1) h.1) e (e_takes n l m f) (omega arith)
taken (starts {l} {m} e s o) n h = on (taken o (n + 1) h.1) (second_commands n l m e) (due_on further l m)
taken (finishes {l} {m} e s o) n h = on (taken o (n + 1) h.1) (second_commands n l m e) (due_on further l m)
taken (deletes {l} {m} e s o) n h = on (taken o (n + 1) h.1) (second_commands n l m e) (due_on further l m)

-- ---- with as many words as the text has bytes

abbrev story_of : List Letter → List Event
story_of m = story [] (deeds (outside []) (commands 0 m))

module _ {t : List ℕ} {m : List Letter} (k : Marked t m) where
  -- wherever a definition is entered, the live bodies need at most as many words
  pub text-holds : All (Holds (length t)) (story_of m)
  text-holds =
      let w = taken (orderly k.rule) 0 (matched_spaced k.rule) in
      all_to (Holds w.words) (Holds (length t)) (λ e h. omega (arith, w.fit, as_long k)) (story_of m) (take-holds w.words (commands 0 m) w.take (ordered k 0))

  pub words_within : words_needed (story_of m) ≤ length t
  words_within = needed-within (length t) (story_of m) text-holds

  -- so refusal 25 falls nowhere
  pub held-within : (words : ℕ) → length t ≤ words → map (held_to words) (story_of m) ≡ story_of m
  held-within words h = held_all (length t) words (story_of m) h text-holds
