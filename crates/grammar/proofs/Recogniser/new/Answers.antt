-- `new` keeps the recogniser's ghost fields: its tables are those of specs/Tables.antt.
use borrow.Author.Rules.{rules}
use Rattle.grammar.specs.Tables.{kinds, table}
use Rattle.grammar.proofs.Recogniser.new.Goals as goal

pub invariant_of-result : goal.invariant_of-result
unfolding kinds table
invariant_of-result c = search rules
