-- `nest` meets its contract: its four ways out are the four cases of `within`.
use borrow.Author.Tests.{eq-eqb, ne_eqb}
use mathlib.Core.Path.{refl}
use Rattle.grammar.proofs.nest.Goals as goal

pub returns-then-k-eq-LPAR_KIND : goal.returns-then-k-eq-LPAR_KIND
returns-then-k-eq-LPAR_KIND c = (simp (eq-eqb _ _ c.if-k-eq-LPAR_KIND.true), refl)

pub returns-then-k-eq-RPAR_KIND : goal.returns-then-k-eq-RPAR_KIND
returns-then-k-eq-RPAR_KIND c = (simp (ne_eqb _ _ c.if-k-eq-LPAR_KIND.false, eq-eqb _ _ c.if-k-eq-RPAR_KIND.true), refl)

pub returns-then-k-eq-FOREIGN_KIND : goal.returns-then-k-eq-FOREIGN_KIND
returns-then-k-eq-FOREIGN_KIND c = (simp (ne_eqb _ _ c.if-k-eq-LPAR_KIND.false, ne_eqb _ _ c.if-k-eq-RPAR_KIND.false, eq-eqb _ _ c.if-k-eq-FOREIGN_KIND.true), refl)

pub returns : goal.returns
returns c = (simp (ne_eqb _ _ c.if-k-eq-LPAR_KIND.false, ne_eqb _ _ c.if-k-eq-RPAR_KIND.false, ne_eqb _ _ c.if-k-eq-FOREIGN_KIND.false), refl)
