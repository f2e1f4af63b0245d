-- How an outcome comes about: every way to a refusal and to an acceptance, in the words of the table of RULES 12, and nothing else. Demands 1 and 2 go by
-- these cases.
-- Assumes nothing.
use Rattle.std.specs.Prelude.{if◌then◌else◌}
use mathlib.Core.Path.{◌≡◌, refl, sym, ap, ◌∙◌, subst}
use mathlib.Core.Bool.{Bool, true, false, ◌&&◌}
use mathlib.Core.List.{List, []}
use mathlib.Core.Logic.{◌⊎◌, inl, inr, ◌↔◌}
use mathlib.Core.Option.{Option, none, some}
use Prim.Native.Nat.{ℕ, ◌≤◌, ◌<◌}
use borrow.Author.Tests.{leb-true, leb-false, le-leb, lt-leb}
use lib.Dec.{leb}
use lib.ListN.{length}
use Rattle.grammar.specs.Notation.{Letter}
use Rattle.grammar.specs.Viable.{Marked, Grammatical, LongestViable}
use Rattle.definition.specs.declared.Refusal.{Refusal}
use Rattle.definition.specs.Limits.{most_bytes}
use Rattle.definition.specs.Words.{Placed}
use Rattle.definition.specs.declared.Rule.{Rule}
use Rattle.definition.specs.declared.Rule.TheVariants.{TextTooLong, NotInGrammar, FlatFileTooLong}
use Rattle.definition.specs.Rules.{refuse}
use Rattle.definition.specs.Commands.{Command, commands}
use Rattle.definition.specs.Faults.{first_fault}
use Rattle.definition.specs.Standing.{outside}
use Rattle.definition.specs.Drawing.{Chain, Event, deeds}
use Rattle.definition.specs.Counts.{Counts, counts, End, finished, stopped, ending, shapes_of}
use Rattle.definition.specs.Flat.{flat}
use Rattle.definition.specs.Answer.{Outcome, accepted, rejected, drawing_of, held_drawing, fitted, drawn, outcome_of, Answers, too_long, not_cif, read}
use Rattle.laws.proofs.Rules.Order.{one_rule}
use Rattle.laws.proofs.Rules.FaultRules.{Unbroken, FirstBreak, fault-rule, first-fault, no_first-fault}
use Rattle.laws.proofs.Rules.DrawingRules.{drawing_rule}

-- refusals 1 to 9 let the text t pass, whose characters have the roles m
pub record Passed (t : List ℕ) (m : List Letter) : Type 0 where
  pub within : length t ≤ most_bytes
  pub marked : Marked t m
  pub unbroken : Unbroken (commands 0 m)

-- how the drawing of a text ends with so many words lent, and the length of its flat file
abbrev pub end_of : (words : ℕ) → List Letter → End
end_of words m = ending (counts 0 0 0) (held_drawing words (commands 0 m))

abbrev pub flat_length : List Letter → ℕ
flat_length m = length (flat (shapes_of (drawing_of (commands 0 m))))

-- RULES 12, refusal 18: flat file longer than the room or than 16,777,216
abbrev pub TooLong : (flat_file_lem room : ℕ) → Type 0
TooLong n room = (room < n) ⊎ (most_bytes < n)

-- the ways to a refusal, in the order of RULES 12: 1; then 2; then 3 to 9; then 10 to 17, 20 and 25; then 18
pub data Way (t : List ℕ) (words room : ℕ) : Rule → (place : ℕ) → Chain → Type 0 where
  by_length : most_bytes < length t → Way t words room TextTooLong 0 []
  by_grammar : {n : ℕ} → length t ≤ most_bytes → (Grammatical t → ⊥) → LongestViable t n → Way t words room NotInGrammar n []
  by_command : {m : List Letter} {r : Rule} {p : ℕ} → length t ≤ most_bytes → Marked t m → FirstBreak (commands 0 m) r p → Way t words room r p []
  by_drawing : {m : List Letter} {r : Rule} {p : ℕ} {chain : Chain} → Passed t m → end_of words m ≡ stopped (refuse r p) chain → Way t words room r p chain
  by_flat_file : {m : List Letter} {c : Counts} → Passed t m → end_of words m ≡ finished c → TooLong (flat_length m) room → Way t words room FlatFileTooLong 0 []

-- the way to a refusal, by its rule
abbrev pub Refusing : List ℕ → (words room : ℕ) → Refusal → Chain → Type 0
Refusing t words room r chain = (rule : Rule) × (r ≡ refuse rule r.place) × Way t words room rule r.place chain

-- the way to an acceptance: the drawing of the text's commands finishes with these counts, and its flat file fits
pub record Accepting (t : List ℕ) (words room : ℕ) (cs : List (Placed Command)) (c : Counts) (es : List Event) : Type 0 where
  pub roles : List Letter
  pub passed : Passed t roles
  pub are_commands : cs ≡ commands 0 roles
  pub is_drawing : es ≡ drawing_of (commands 0 roles)
  pub finishes : end_of words roles ≡ finished c
  pub room_fits : flat_length roles ≤ room
  pub limit_fits : flat_length roles ≤ most_bytes

abbrev Explained : List ℕ → (words room : ℕ) → Outcome → Type 0
Explained t words room (rejected r chain) = Refusing t words room r chain
Explained t words room (accepted cs c es) = Accepting t words room cs c es

-- ---- every outcome has such a way

module _ {t : List ℕ} (m : List Letter) (words room : ℕ) (h : length t ≤ most_bytes) (k : Marked t m) where
  by_fit : Passed t m → (c : Counts) → end_of words m ≡ finished c → (a b : Bool) → leb (flat_length m) room ≡ a → leb (flat_length m) most_bytes ≡ b
      → Explained t words room (if a && b then accepted (commands 0 m) c (drawing_of (commands 0 m)) else rejected (refuse FlatFileTooLong 0) [])
  by_fit p c e true true f g =
      record { roles = m; passed = p; are_commands = refl; is_drawing = refl; finishes = e; room_fits = leb-true (flat_length m) room f; limit_fits = leb-true (flat_length m) most_bytes g }
  by_fit p c e true false f g = (FlatFileTooLong, refl, by_flat_file p e (inr (leb-false (flat_length m) most_bytes g)))
  by_fit p c e false b f g = (FlatFileTooLong, refl, by_flat_file p e (inl (leb-false (flat_length m) room f)))

  by_end : Passed t m → (x : End) → end_of words m ≡ x → Explained t words room (fitted x (commands 0 m) (drawing_of (commands 0 m)) room)
  unfolding fitted
  by_end p (stopped r chain) e =
      let (rule, h) = drawing_rule words [] (deeds (outside []) (commands 0 m)) r chain e in
      (rule, h, by_drawing p (e ∙ ap (λ (x : Refusal). stopped x chain) h))
  by_end p (finished c) e = by_fit p c e (leb (flat_length m) room) (leb (flat_length m) most_bytes) refl refl

  by_fault : (f : Option Refusal) → first_fault (commands 0 m) ≡ f → Explained t words room (drawn f (commands 0 m) words room)
  unfolding drawn
  by_fault (some r) e = let (rule, i, f) = fault-rule k e in (rule, i, by_command h k f)
  by_fault none e = by_end (record { within = h; marked = k; unbroken = (no_first-fault k).0 e }) (end_of words m) refl

  read_explained : Explained t words room (outcome_of m words room)
  unfolding outcome_of
  read_explained = by_fault (first_fault (commands 0 m)) refl

explained : {t : List ℕ} {words room : ℕ} {o : Outcome} → Answers t words room o → Explained t words room o
explained (too_long h) = (TextTooLong, refl, by_length h)
explained (not_cif h g l) = (NotInGrammar, refl, by_grammar h g l)
explained {t} {words} {room} (read {m} h k) = read_explained m words room h k

-- ---- and each of these ways leads there

read-drawn : {t : List ℕ} (m : List Letter) (words room : ℕ) (x : End) → Passed t m → end_of words m ≡ x → Answers t words room (fitted x (commands 0 m) (drawing_of (commands 0 m)) room)
unfolding outcome_of drawn
read-drawn {t} m words room x p e =
    subst (Answers t words room)
    (ap (λ (y : Option Refusal). drawn y (commands 0 m) words room) ((no_first-fault p.marked).1 p.unbroken) ∙ ap (λ (y : End). fitted y (commands 0 m) (drawing_of (commands 0 m)) room) e)
    (read p.within p.marked)

too_long_test : (n room : ℕ) → TooLong n room → (leb n room && leb n most_bytes) ≡ false
too_long_test n room (inl h) = rw (lt-leb n room h)
too_long_test n room (inr h) = go (leb n room)
  where
    go : (b : Bool) → (b && leb n most_bytes) ≡ false
    go true = lt-leb n most_bytes h
    go false = refl

refuses_so : {t : List ℕ} {words room : ℕ} {r : Rule} {p : ℕ} {chain : Chain} → Way t words room r p chain → Answers t words room (rejected (refuse r p) chain)
unfolding outcome_of drawn fitted
refuses_so (by_length h) = too_long h
refuses_so (by_grammar h g l) = not_cif h g l
refuses_so {t} {words} {room} (by_command {m} h k b) = subst (Answers t words room) (ap (λ (y : Option Refusal). drawn y (commands 0 m) words room) ((first-fault k).1 b)) (read h k)
refuses_so {t} {words} {room} (by_drawing {m} {r} {p} {chain} q e) = read-drawn m words room (stopped (refuse r p) chain) q e
refuses_so {t} {words} {room} (by_flat_file {m} {c} q e l) =
    subst (λ (b : Bool). Answers t words room (if b then accepted (commands 0 m) c (drawing_of (commands 0 m)) else rejected (refuse FlatFileTooLong 0) [])) (too_long_test (flat_length m) room l) (read-drawn m words room (finished c) q e)

accepts_so : {t : List ℕ} {words room : ℕ} {cs : List (Placed Command)} {c : Counts} {es : List Event} → Accepting t words room cs c es → Answers t words room (accepted cs c es)
unfolding fitted
accepts_so {t} {words} {room} {cs} {c} a =
    let m = a.roles in
    let fits : (leb (flat_length m) room && leb (flat_length m) most_bytes) ≡ true = rw (le-leb (flat_length m) room a.room_fits, le-leb (flat_length m) most_bytes a.limit_fits) in
    subst (λ (y : List Event). Answers t words room (accepted cs c y)) (sym a.is_drawing)
    (subst (λ (y : List (Placed Command)). Answers t words room (accepted y c (drawing_of (commands 0 m)))) (sym a.are_commands)
    (subst (λ (b : Bool). Answers t words room (if b then accepted (commands 0 m) c (drawing_of (commands 0 m)) else rejected (refuse FlatFileTooLong 0) [])) fits (read-drawn m words room (finished c) a.passed a.finishes)))

-- every refusal is by a rule
pub refusal-rule : {t : List ℕ} {words room : ℕ} {r : Refusal} {chain : Chain} → Answers t words room (rejected r chain) → Refusing t words room r chain
refusal-rule a = explained a

pub refusal : {t : List ℕ} {words room : ℕ} (r : Rule) (p : ℕ) (chain : Chain) → Answers t words room (rejected (refuse r p) chain) ↔ Way t words room r p chain
refusal {t} {words} {room} r p chain = (
  λ a. let (q, e, w) = refusal-rule a in subst (λ (x : Rule). Way t words room x p chain) (one_rule q r (sym e)) w,
  λ w. refuses_so w,
)

pub acceptance : {t : List ℕ} {words room : ℕ} {cs : List (Placed Command)} {c : Counts} {es : List Event} → Answers t words room (accepted cs c es) ↔ Accepting t words room cs c es
acceptance = (λ a. explained a, λ w. accepts_so w)
