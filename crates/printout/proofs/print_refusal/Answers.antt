-- `print_refusal` meets its contract: the listing of refusal 1 is the account's, which is computed.
use Rattle.printout.proofs.Printing.{refusal-laid}
use Rattle.printout.proofs.print_refusal.Goals as goal

pub returns : goal.returns
returns c = refusal-laid _ c.requires c.refused_outside_by-answer.ensures c.list.ensures
