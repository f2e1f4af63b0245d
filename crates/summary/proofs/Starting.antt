-- Refusals 1 to 9 and 19 of a text, in their order: 1; then 2; then of 3 to 9 and 19 the first in the text. And that a text which they let pass has the names gathered.
-- Assumes nothing.
use Rattle.std.specs.Prelude.{Result, Ok, Err}
use mathlib.Core.Path.{◌≡◌, refl, sym, ap, ◌∙◌, subst}
use mathlib.Core.Bool.{Bool, true, false}
use mathlib.Core.List.{List, [], ◌∷◌}
use mathlib.Core.Option.{Option, none, some}
use Prim.Native.Nat.{ℕ, ◌≤◌, ◌<◌}
use native.Mathlib.Omega.{arith}
use borrow.Author.Tests.{lt-ltb, le-ltb}
use lib.IntN.{ℤ}
use lib.ListN.{length}
use Rattle.grammar.specs.Notation.{Letter}
use Rattle.grammar.specs.Viable.{Grammatical, Marked, Judged}
use Rattle.definition.specs.declared.Refusal.{Refusal}
use Rattle.definition.specs.Limits.{most_bytes}
use Rattle.definition.specs.Words.{Placed, those, first}
use Rattle.definition.specs.declared.Rule.{Rule}
use Rattle.definition.specs.declared.Rule.TheVariants.{NumberTooLarge, ZeroFactor, ScaledTooLarge, DegenerateCommand, NoLayer, TooManyParts, TooManyLayers}
use Rattle.definition.specs.Rules.{number_of, refuse}
use Rattle.definition.specs.Commands.{Number, Command, commands}
use Rattle.definition.specs.Standing.{Standing, outside, after, scaled}
use Rattle.definition.specs.Faults.{beyond, distances, numbers_of, zero_scale, degenerate, layerless, has_too_many, at_numbers, at_command, faults, all_faults, first_fault}
use Rattle.definition.specs.Rounded.{rounded}
use Rattle.definition.specs.Summary.{too_many_from, sooner, first_fault_or_name, empty_summary, summary_from, summary_of, Summarises, too_long, not_cif, read}
use Rattle.laws.proofs.Lists.Range.{All, all-++}
use Rattle.laws.proofs.Commands.Sizes.{all_map}
use Rattle.reading.specs.Refusal.{fault_said, by_verdict}
use Rattle.passing.specs.Passed.{Passed}
use Rattle.reader.specs.Screened.{Screened, over, within}
use Rattle.marks.specs.declared.Names.{Names as Run}
use Rattle.marks.specs.Noted.{Gathers}
use Rattle.summary.specs.Summed.{Foremost, Starts}

-- ---- no refusal of a command has a number below 3

abbrev High : Refusal → Type 0
High r = 3 ≤ number_of r.rule

all_high : (n : ℕ) → 3 ≤ n → (zs : List Number) → All (λ (z : Number). 3 ≤ n) zs
unfolding All
all_high n h [] = tt
all_high n h (z ∷ zs) = (h, all_high n h zs)

high_numbers : (n : Rule) → 3 ≤ number_of n → (t : ℤ → Bool) (zs : List Number) → All High (at_numbers n t zs)
unfolding at_numbers
high_numbers n h t zs = all_map High (λ d. refuse n d.place) (those (λ d. t d.what) zs) (all_high (number_of n) h (those (λ d. t d.what) zs))

high_command : (n : Rule) → 3 ≤ number_of n → (b : Bool) (p : ℕ) → All High (at_command n b p)
unfolding All
high_command n h true p = (h, tt)
high_command n h false p = tt

high : (σ : Standing) (d : Placed Command) → All High (faults σ d)
unfolding faults
high σ d =
    all-++ High _ _ (high_numbers NumberTooLarge (omega arith) beyond (numbers_of d.what))
    (all-++ High _ _ (high_command ZeroFactor (omega arith) (zero_scale d.what) d.place)
    (all-++ High _ _ (high_numbers ScaledTooLarge (omega arith) (λ z. beyond (scaled σ z)) (distances d.what))
    (all-++ High _ _ (high_command DegenerateCommand (omega arith) (degenerate σ d.what) d.place)
    (all-++ High _ _ (high_command NoLayer (omega arith) (layerless σ d.what) d.place) (high_command TooManyParts (omega arith) (has_too_many d.what) d.place)))))

high_all : (σ : Standing) (cs : List (Placed Command)) → All High (all_faults σ cs)
unfolding all_faults All
high_all σ [] = tt
high_all σ (c ∷ cs) = all-++ High (faults σ c) (all_faults (after c.what σ) cs) (high σ c) (high_all (after c.what σ) cs)

high_first : (rs : List Refusal) {r : Refusal} → All High rs → first rs ≡ some r → High r
unfolding first All
high_first [] h e = absurd (let z : ◌≡◌ {A = ℕ} 0 1 = cc in omega arith)
high_first (q ∷ rs) {r} h e = let z : q ≡ r = cc in subst High z h.0

from_three : (cs : List (Placed Command)) {r : Refusal} → first_fault cs ≡ some r → High r
unfolding first_fault
from_three cs e = high_first (all_faults (outside []) cs) (high_all (outside []) cs) e

-- ---- the first in the text

pub foremost_none : {t : List ℕ} {n : Run} (before : Refusal) {g : Result Run ℕ} → ((m : List Letter) → Marked t m → Gathers (commands 0 m) g) → g ≡ Ok n → Foremost t before before
unfolding Gathers sooner
foremost_none before f e m k = ap (sooner (some before)) (subst (λ (g : Result Run ℕ). Gathers (commands 0 m) g) e (f m k)).1

module _ {t : List ℕ} {p : ℕ} (before : Refusal) {g : Result Run ℕ} (f : (m : List Letter) → Marked t m → Gathers (commands 0 m) g) (e : g ≡ Err p) where
  over_at : (m : List Letter) → Marked t m → too_many_from [] (commands 0 m) ≡ some (refuse TooManyLayers p)
  unfolding Gathers
  over_at m k = subst (λ (g : Result Run ℕ). Gathers (commands 0 m) g) e (f m k)

  pub foremost-name : p < before.place → Foremost t before (refuse TooManyLayers p)
  unfolding sooner
  foremost-name h m k = ap (sooner (some before)) (over_at m k) ∙ rw (lt-ltb p before.place h) refl

  pub foremost-before : before.place ≤ p → Foremost t before before
  unfolding sooner
  foremost-before h m k = ap (sooner (some before)) (over_at m k) ∙ rw (le-ltb p before.place h) refl

-- ---- 1 to 9 and 19

never : {k : ℕ} {why : Refusal} → Ok k ≡ Err why → ⊥
never e = cc

same-refusal : {a b : Refusal} → ◌≡◌ {A = Result ℕ Refusal} (Err a) (Err b) → a ≡ b
same-refusal e = cc

stopped_by : {t : List ℕ} {m : List Letter} {why : Refusal} → length t ≤ most_bytes → Marked t m → first_fault_or_name (commands 0 m) ≡ some why
    → (words symbol : ℕ) → Summarises t words symbol (empty_summary t why)
unfolding summary_of summary_from
stopped_by {t} {m} {why} h k e words symbol =
    subst (Summarises t words symbol) (ap (λ (f : Option Refusal). summary_from t f (commands 0 m) words symbol) e) (read {m = m} h k)

-- what is said against a text of the grammar
fault_of : {t : List ℕ} {why : Refusal} (g : Grammatical t) → by_verdict t (Ok tt) (Err why) → first_fault (commands 0 g.0) ≡ some why
fault_of {t} {why} g f = go (first_fault (commands 0 g.0)) (f g.0 g.1)
  where
    go : (o : Option Refusal) → Err why ≡ fault_said o (rounded (commands 0 g.0)) → o ≡ some why
    go none x = absurd (never (sym x))
    go (some r) x = ap some (sym (same-refusal x))

pub record OfCommands (t : List ℕ) (why : Refusal) : Type 0 where  -- one of 3 to 9
  pub short : length t ≤ most_bytes
  pub grammatical : Grammatical t
  pub is : first_fault (commands 0 grammatical.0) ≡ some why

module _ {t : List ℕ} {d : Result ℕ Refusal} {why : Refusal} (x : Screened t d) (e : d ≡ Err why) where
  pub by_number : 3 ≤ number_of why.rule → OfCommands t why
  by_number = go x e
    where
      judged : length t ≤ most_bytes → (v : Result Unit ℕ) → Judged t v → by_verdict t v (Err why) → 3 ≤ number_of why.rule → OfCommands t why
      judged s (Ok _) g f h = record { short = s; grammatical = g; is = fault_of g f }
      judged s (Err n) g f h = absurd (let z = ap (λ (r : Refusal). number_of r.rule) (same-refusal f) in omega (arith, z, h))

      go : {d : Result ℕ Refusal} → Screened t d → d ≡ Err why → 3 ≤ number_of why.rule → OfCommands t why
      go (over h) q k = absurd (let z = ap (λ (r : Refusal). number_of r.rule) (same-refusal q) in omega (arith, z, k))
      go (within h f) q k = judged h f.verdict f.judged (subst (by_verdict t f.verdict) q f.is) k

  pub before-commands : number_of why.rule < 3 → Starts t (Err why)
  unfolding Starts
  before-commands h = go x e
    where
      judged : length t ≤ most_bytes → (v : Result Unit ℕ) → Judged t v → by_verdict t v (Err why) → (words symbol : ℕ) → Summarises t words symbol (empty_summary t why)
      judged s (Ok _) g f words symbol = absurd (let z = from_three (commands 0 g.0) (fault_of g f) in omega (arith, z, h))
      judged s (Err n) g f words symbol = subst (λ (r : Refusal). Summarises t words symbol (empty_summary t r)) (sym (same-refusal f)) (not_cif s g.0 g.1)

      go : {d : Result ℕ Refusal} → Screened t d → d ≡ Err why → (words symbol : ℕ) → Summarises t words symbol (empty_summary t why)
      go (over s) q words symbol = subst (λ (r : Refusal). Summarises t words symbol (empty_summary t r)) (same-refusal q) (too_long s)
      go (within s f) q words symbol = judged s f.verdict f.judged (subst (by_verdict t f.verdict) q f.is) words symbol

pub by_commands : {t : List ℕ} {before r : Refusal} → OfCommands t before → Foremost t before r → Starts t (Err r)
unfolding Starts first_fault_or_name
by_commands o f = stopped_by o.short o.grammatical.1 (ap (λ (x : Option Refusal). sooner x (too_many_from [] (commands 0 o.grammatical.0))) o.is ∙ f o.grammatical.0 o.grammatical.1)

-- ---- a text that 3 to 9 let pass

pub passed : {t : List ℕ} (p : Passed t) (g : Result Run ℕ) {r : Result Run Refusal} → ((m : List Letter) → Marked t m → Gathers (commands 0 m) g)
    → ((n : Run) → g ≡ Ok n → r ≡ Ok n) → ((q : ℕ) → g ≡ Err q → r ≡ Err (refuse TooManyLayers q)) → Starts t r
unfolding Starts Gathers first_fault_or_name sooner
passed p (Ok n) f is refused = let x = f p.letters p.marked in rw (is n refl) (record { passed = p; noted = x.0; clear = x.1 })
passed p (Err q) f is refused =
    rw (refused q refl)
    (stopped_by p.short p.marked (ap (λ (x : Option Refusal). sooner x (too_many_from [] (commands 0 p.letters))) p.clear ∙ f p.letters p.marked))
