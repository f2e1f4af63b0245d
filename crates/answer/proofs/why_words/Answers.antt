-- `why_words` meets its contract: the words of its refusal and calls, and seven after them.
use mathlib.Core.Path.{ap, ◌∙◌}
use borrow.Author.Rules.{rules}
use Rattle.definition.specs.declared.Answer.{Answer}
use Rattle.answer.specs.Words.{answer_words}
use native.Mathlib.Omega.{arith}
use Rattle.answer.proofs.Signs.{signed_as, why_told}
use Rattle.answer.proofs.why_words.Goals as goal

pub returns : goal.returns
returns c =
    why_told c.args.why (c.words-said.ensures ∙ ap (λ (a : Answer). answer_words a) c.why_answer.ensures) (omega arith)
    (signed_as c.args.why.a (search rules) c.signed_word.ensures) (signed_as c.args.why.b (search rules) c.signed_word-2.ensures)
    (signed_as c.args.why.c (search rules) c.signed_word-3.ensures) (signed_as c.args.why.d (search rules) c.signed_word-4.ensures)
    (signed_as c.args.why.tx (search rules) c.signed_word-5.ensures) (signed_as c.args.why.ty (search rules) c.signed_word-6.ensures)
