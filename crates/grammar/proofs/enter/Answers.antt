-- `enter` meets its contract: its three ways out are the three cases of `entered`.
use borrow.Author.Tests.{lt-ltb, le-ltb, eq-eqb, ne_eqb}
use mathlib.Core.Path.{refl}
use Rattle.grammar.proofs.enter.Goals as goal

pub returns-then-to-lt-DEEP : goal.returns-then-to-lt-DEEP
returns-then-to-lt-DEEP c = (simp (lt-ltb _ _ c.if-to-lt-DEEP.true), refl)

pub returns-then-to-eq-STUCK : goal.returns-then-to-eq-STUCK
returns-then-to-eq-STUCK c = (simp (le-ltb _ _ c.if-to-lt-DEEP.false, eq-eqb _ _ c.if-to-eq-STUCK.true), refl)

pub returns : goal.returns
returns c = (simp (le-ltb _ _ c.if-to-lt-DEEP.false, ne_eqb _ _ c.if-to-eq-STUCK.false), refl)
