-- Warnings of any text: what refusals 1 to 9 say of it is whether it has some, and two accounts of them are one.
-- Assumes nothing.
use Rattle.std.specs.Prelude.{Result, Ok, Err}
use mathlib.Core.Path.{◌≡◌, refl, sym, ap, ◌∙◌, subst}
use mathlib.Core.List.{List, []}
use mathlib.Core.Option.{Option, none}
use Prim.Native.Nat.{ℕ, ◌+◌, ◌*◌, ◌≤◌}
use native.Mathlib.Omega.{arith}
use lib.ListN.{length}
use Rattle.grammar.specs.Viable.{Judged}
use Rattle.definition.specs.declared.Refusal.{Refusal}
use Rattle.definition.specs.Limits.{most_bytes}
use Rattle.definition.specs.Words.{Placed}
use Rattle.definition.specs.Commands.{Command, commands}
use Rattle.definition.specs.Rounded.{rounded}
use Rattle.definition.specs.Drawing.{Event}
use Rattle.definition.specs.Counts.{Counts}
use Rattle.definition.specs.Warnings.{warning_lines}
use Rattle.definition.specs.Answer.{accepted, Answers}
use Rattle.reading.specs.Refusal.{fault_said, by_verdict}
use Rattle.digits.proofs.Writing.{nothing}
use Rattle.passing.specs.Passed.{Passed}
use Rattle.reader.specs.Screened.{Screened, over, within}
use Rattle.reader.proofs.Promises.{passes}
use Rattle.warning.specs.Warned.{Warns, WarnedAny, of_passed, of_refused, WarnsAny}
use Rattle.warning.proofs.Agrees.{one_warned, accepted-passed, accepted-warned}

never_refused : {k : ℕ} {why : Refusal} → Ok k ≡ Err why → ⊥
never_refused e = cc

not_judged : {t : List ℕ} (why : Refusal) (v : Result Unit ℕ) → Judged t v → by_verdict t v (Err why) → Passed t → ⊥
not_judged why (Ok _) g e p =
    never_refused (sym (e p.letters p.marked ∙ ap (λ (f : Option Refusal). fault_said f (rounded (commands 0 p.letters))) p.clear))
not_judged why (Err i) g e p = g.0 (p.letters, p.marked)

not_passed : {t : List ℕ} {d : Result ℕ Refusal} {why : Refusal} → Screened t d → d ≡ Err why → Passed t → ⊥
not_passed (over h) e p = let s = p.short in omega (arith, h, s)
not_passed {t} {why = why} (within h f) e p = not_judged why f.verdict f.judged (subst (by_verdict t f.verdict) e f.is) p

pub screened_passed : {t : List ℕ} {d : Result ℕ Refusal} {k : ℕ} → Screened t d → d ≡ Ok k → Passed t
screened_passed s e = (passes s e).passed

pub none_warned : {t : List ℕ} {d : Result ℕ Refusal} {why : Refusal} (words : ℕ) (room : List ℕ) (from : ℕ) → Screened t d → d ≡ Err why → WarnsAny t words room room from from
none_warned words room from s e = record { bytes = []; warned = of_refused (not_passed s e); writes = nothing room from; near = omega arith }

pub all_warned : {t : List ℕ} {words : ℕ} {old new : List ℕ} {from r : ℕ} → Passed t → Warns t words old new from r → WarnsAny t words old new from r
all_warned p w = record { bytes = _; warned = of_passed p; writes = w.writes p; near = w.near }

-- ---- there is one account, and of an accepted text it is the definition's

pub one_any : {t : List ℕ} {words : ℕ} {a b : List ℕ} → WarnedAny t words a → WarnedAny t words b → a ≡ b
one_any {words = words} (of_passed p) (of_passed q) = one_warned words p q
one_any (of_passed p) (of_refused h) = absurd (h p)
one_any (of_refused h) (of_passed p) = absurd (h p)
one_any (of_refused h) (of_refused k) = refl

pub accepted_any : {t : List ℕ} {words room : ℕ} {cs : List (Placed Command)} {c : Counts} {es : List Event} → Answers t words room (accepted cs c es)
    → {w : List ℕ} → WarnedAny t words w → w ≡ warning_lines es
accepted_any k (of_passed p) = accepted-warned k p
accepted_any k (of_refused h) = absurd (h (accepted-passed k))

-- ---- how far they reach: what passes is no longer than a text may be

any_near : {t : List ℕ} {words r : ℕ} {bytes : List ℕ} (from : ℕ) → WarnedAny t words bytes → r ≡ from + length bytes → r ≤ from + 15 * length t → r ≤ from + 15 * most_bytes
any_near from (of_passed p) e h = let s = p.short in omega (arith, s, h)
any_near from (of_refused q) e h = omega (arith, e)

pub warned-near : {t : List ℕ} {words : ℕ} {old new : List ℕ} {from r : ℕ} → WarnsAny t words old new from r → r ≤ from + 15 * most_bytes
warned-near {from = from} w = any_near from w.warned w.writes.ends w.near
