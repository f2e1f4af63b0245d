-- What is told of a refusal by a number, whatever number that is. Of a rule's number it is the definition's `failure` (`failing_by` of proofs/Telling.antt).
use Rattle.std.specs.Prelude.{List, ℕ, length}
use Rattle.definition.specs.declared.Answer.{Answer}
use Rattle.definition.specs.declared.Refusal.{Refusal}
use Rattle.definition.specs.Rules.{number_of}
use Rattle.definition.specs.Drawing.{Chain}
use Rattle.definition.specs.Position.{line_of, column_of, chain_told}
use Rattle.answer.specs.declared.Told.{Told}

-- a rule is told by its number
abbrev pub told_of : Refusal → Told
told_of r = record { number = number_of r.rule; place = r.place }

unfoldable pub failing : List ℕ → Told → Chain → Answer  -- of a text
failing t r chain = record {
  number = r.number;
  place = r.place;
  length = 0;
  shapes = 0;
  calls = 0;
  redefinitions = 0;
  rounded = 0;
  line = line_of t r.place;
  column = column_of t r.place;
  opened = length chain;
  chain = chain_told chain;
}
