-- `check_by` meets its contract: the marking that the code reads is the only one, what it keeps comes to the account, and the account to the definition.
use mathlib.Core.Path.{sym, ap, ◌∙◌}
use mathlib.Core.List.{List}
use Rattle.grammar.specs.Notation.{Letter}
use Rattle.grammar.proofs.Markings.{marking_is}
use Rattle.pieces.specs.Pieces.{stream, start}
use Rattle.checking.specs.Account.{at_start, fault_of}
use Rattle.reading.proofs.Meaning.{runs-first}
use Rattle.reading.proofs.Agree.{fault_is}
use Rattle.reading.proofs.check_by.Goals as goal

pub returns : goal.returns
returns c =
    let e = c.checked.ensures ∙ runs-first (stream c.args.text.now start) at_start in
    record { along = e; is = λ m k. e ∙ (ap (λ (l : List Letter). fault_of l) (sym (marking_is k)) ∙ fault_is k) }
