-- `print_text` meets its contract: a text that is too long is refused before it is read.
use Rattle.printout.proofs.Printing.{over-printed}
use Rattle.printout.proofs.print_text.Goals as goal

pub returns-then-text-gt-MOST : goal.returns-then-text-gt-MOST
returns-then-text-gt-MOST c = over-printed c.if-text-gt-MOST.true c.print_refusal.ensures
