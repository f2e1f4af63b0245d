-- `begin` meets its contract: a row put over one of its number, or between the others (proofs/Entering.antt).
use Rattle.std.proofs.Common.{arith}
use Rattle.library.proofs.Entering.{begins_over, begins_not, begins_in}
use Rattle.library.proofs.begin.Goals as goal

pub returns-then-symbol_at-symbol : goal.returns-then-symbol_at-symbol
returns-then-symbol_at-symbol c = begins_over _ _ _ _ _ c.requires.0 c.requires.1 c.seek-i.ensures c.if-i-live.true (cc) _ c.needed_at-freed.ensures c.put_row.ensures

pub returns-then-live-eq-MOST : goal.returns-then-live-eq-MOST
returns-then-live-eq-MOST c = begins_not _ _ _ _ _ c.requires.0 c.requires.1 c.seek-i.ensures (λ l e. grind arith) c.if-live-eq-MOST.true

pub returns : goal.returns
returns c = begins_in _ _ _ _ _ c.requires.0 c.requires.1 c.seek-i.ensures (λ l e. grind arith) (omega arith) _ c.shift.ensures c.put_row-2.ensures
