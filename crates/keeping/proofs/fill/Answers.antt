-- `fill` meets its contract: what it answers is in proofs/Entered.antt.
use Rattle.std.proofs.Common.{◌≡◌, Err, arith}
use Rattle.definition.specs.declared.Rule.TheVariants.{TooFewWords}
use Rattle.keeping.proofs.Entered.{filling_ready, sum_fits, fills-short, fills_lacking, fills-taken}
use Rattle.keeping.proofs.fill.Goals as goal

pub keep_body-requires : goal.keep_body-requires
keep_body-requires c = record { fit = c.requires.fit; ready = filling_ready c.requires.filling }

pub overflow_add-needed : goal.overflow_add-needed
overflow_add-needed c = record { fits = omega (arith, sum_fits c.requires.filling c.keep_body.ensures c.in_ok-whole.ensures.ok_part _ c.needed_at.ensures) }

pub returns-then-bodies-needed : goal.returns-then-bodies-needed
returns-then-bodies-needed c = fills-short c.requires.filling c.keep_body.ensures c.in_ok-whole.ensures.ok_part _ c.needed_at.ensures c.if-bodies-needed.true

pub returns-in_err-whole : goal.returns-in_err-whole
returns-in_err-whole c =
    let e : c.from_residual.result ≡ Err TooFewWords = grind arith in
    rw e (fills_lacking c.requires.filling c.keep_body.ensures c.in_err-whole.ensures.ok_part)

pub returns : goal.returns
returns c = fills-taken c.requires.filling c.keep_body.ensures c.in_ok-whole.ensures.ok_part _ c.needed_at.ensures c.if-bodies-needed.false
