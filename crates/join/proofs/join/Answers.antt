-- `join` meets its contract: 1 for the first and then for the second, and then the verdicts.
use Rattle.std.specs.Prelude.{Err}
use Rattle.std.proofs.lemmas.Result.{err_from_is_err_and}
use mathlib.Core.Path.{ap, refl, ◌∙◌}
use Rattle.join.specs.Made.{first_too_long, second_too_long}
use Rattle.join.proofs.Making.{left_alone, first-leaves, second-leaves, both-sound}
use Rattle.join.proofs.join.Goals as goal

pub returns-then-first-gt-MOST_BYTES : goal.returns-then-first-gt-MOST_BYTES
returns-then-first-gt-MOST_BYTES c = left_alone (ap Err c.refused.ensures) (first_too_long c.if-first-gt-MOST_BYTES.true) refl

pub returns-then-second-gt-MOST_BYTES : goal.returns-then-second-gt-MOST_BYTES
returns-then-second-gt-MOST_BYTES c = left_alone (ap Err c.refused-then-second-gt-MOST_BYTES.ensures) (second_too_long c.if-first-gt-MOST_BYTES.false c.if-second-gt-MOST_BYTES.true) refl

pub returns-in_err-judge : goal.returns-in_err-judge
returns-in_err-judge c =
    let p = err_from_is_err_and c.from_residual.result c.from_residual.ensures.1 in
    first-leaves c.if-first-gt-MOST_BYTES.false c.if-second-gt-MOST_BYTES.false (λ i. (c.type_inv.second i).fits) c.in_err-judge.ensures (p.1 ∙ ap Err p.2)

pub returns-in_err-judge-2 : goal.returns-in_err-judge-2
returns-in_err-judge-2 c =
    let p = err_from_is_err_and c.from_residual-in_err-judge-2.result c.from_residual-in_err-judge-2.ensures.1 in
    second-leaves c.if-first-gt-MOST_BYTES.false c.if-second-gt-MOST_BYTES.false c.in_ok-judge.ensures c.in_err-judge-2.ensures (p.1 ∙ ap Err p.2)

pub returns : goal.returns
returns c =
    both-sound c.if-first-gt-MOST_BYTES.false c.if-second-gt-MOST_BYTES.false c.in_ok-judge.ensures c.in_ok-judge-2.ensures c.join_sound.ensures.value c.join_sound.ensures.room_after
