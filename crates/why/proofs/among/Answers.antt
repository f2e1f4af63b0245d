-- `among` meets its contract: no run for count 0 and for a count above all, or what the machine says (proofs/Telling.antt).
use mathlib.Core.Path.{refl}
use native.Mathlib.Omega.{arith}
use Rattle.why.proofs.Telling.{never_counted, run-begun, found_or_not}
use borrow.Author.Rules.{rules}
use Rattle.why.proofs.among.Goals as goal

pub returns-then-count-eq0 : goal.returns-then-count-eq0
returns-then-count-eq0 c = never_counted c.requires.0 c.requires.1 c.missing.ensures c.then-count-eq0.either

pub begin_at-s-requires : goal.begin_at-s-requires
begin_at-s-requires c = (search rules, omega arith)

pub run-over-requires : goal.run-over-requires
run-over-requires c = (run-begun (omega arith) c.begin_at-s.ensures, omega arith)

pub returns : goal.returns
returns c = found_or_not (omega arith) c.begin_at-s.ensures c.requires.0 c.if-count-eq0.false (omega (arith, c.if-count-gt-MOST_SHAPES.false)) refl c.run-over.ensures c.told.ensures
