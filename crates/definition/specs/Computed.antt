-- What is promised, as a function, over the reader's own account of the grammar. Not to be believed: proofs/Right.antt proves it.
-- The quick forms are over the packed table, for rows that are computed; proofs/Quick.antt proves that they are the same.
-- Assumes nothing.
use Rattle.std.specs.Prelude.{List, [], ℕ, ltb, length, if◌then◌else◌, Err, Ok, Result}
use Rattle.grammar.specs.Steps.{marked, verdict_of}
use Rattle.definition.specs.Quick.{quick_letters, quick_verdict}
use Rattle.definition.specs.Limits.{most_bytes}
use Rattle.definition.specs.declared.Rule.TheVariants.{TextTooLong, NotInGrammar}
use Rattle.definition.specs.Rules.{refuse}
use Rattle.definition.specs.declared.Summary.{Summary}
use Rattle.definition.specs.Answer.{Outcome, rejected, outcome_of}
use Rattle.definition.specs.Records.{outcome_with}
use Rattle.definition.specs.Summary.{empty_summary, summary_of}
use Rattle.definition.specs.Why.{Reason, refuses, reason_of}

unfoldable pub verdict : Result Unit ℕ → List ℕ → (words room : ℕ) → Outcome
verdict (Ok _) t words room = outcome_of (marked 0 0 t) words room
verdict (Err n) t words room = rejected (refuse NotInGrammar n) []

unfoldable pub quick_outcome : Result Unit ℕ → List ℕ → (words room : ℕ) → Outcome
quick_outcome (Ok _) t words room = outcome_of (quick_letters t) words room
quick_outcome (Err n) t words room = rejected (refuse NotInGrammar n) []

unfoldable pub answer_of : List ℕ → (words room : ℕ) → Outcome
answer_of t words room = if ltb most_bytes (length t) then rejected (refuse TextTooLong 0) [] else verdict (verdict_of 0 0 0 t) t words room

unfoldable pub quick_answer : List ℕ → (words room : ℕ) → Outcome
quick_answer t words room = if ltb most_bytes (length t) then rejected (refuse TextTooLong 0) [] else quick_outcome (quick_verdict t) t words room

-- where so many records are lent (RULES 8, request 7)
unfoldable pub verdict_with : Result Unit ℕ → List ℕ → (words records room : ℕ) → Outcome
verdict_with (Ok _) t words records room = outcome_with (quick_letters t) words records room
verdict_with (Err n) t words records room = rejected (refuse NotInGrammar n) []

unfoldable pub answer_with : List ℕ → (words records room : ℕ) → Outcome
answer_with t words records room = if ltb most_bytes (length t) then rejected (refuse TextTooLong 0) [] else verdict_with (quick_verdict t) t words records room

unfoldable pub summary_verdict : Result Unit ℕ → List ℕ → (words symbol : ℕ) → Summary
summary_verdict (Ok _) t words n = summary_of t (marked 0 0 t) words n
summary_verdict (Err k) t words n = empty_summary t (refuse NotInGrammar k)

unfoldable pub quick_summed : Result Unit ℕ → List ℕ → (words symbol : ℕ) → Summary
quick_summed (Ok _) t words n = summary_of t (quick_letters t) words n
quick_summed (Err k) t words n = empty_summary t (refuse NotInGrammar k)

unfoldable pub summary_for : List ℕ → (words symbol : ℕ) → Summary
summary_for t words n = if ltb most_bytes (length t) then empty_summary t (refuse TextTooLong 0) else summary_verdict (verdict_of 0 0 0 t) t words n

unfoldable pub quick_summary : List ℕ → (words symbol : ℕ) → Summary
quick_summary t words n = if ltb most_bytes (length t) then empty_summary t (refuse TextTooLong 0) else quick_summed (quick_verdict t) t words n

unfoldable pub reason_verdict : Result Unit ℕ → List ℕ → (words count : ℕ) → Reason
reason_verdict (Ok _) t words n = reason_of (quick_letters t) words n
reason_verdict (Err k) t words n = refuses (refuse NotInGrammar k) []

unfoldable pub reason_for : List ℕ → (words count : ℕ) → Reason
reason_for t words n = if ltb most_bytes (length t) then refuses (refuse TextTooLong 0) [] else reason_verdict (quick_verdict t) t words n
