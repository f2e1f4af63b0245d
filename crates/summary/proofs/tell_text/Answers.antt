-- `tell_text` meets its contract.
use Rattle.summary.proofs.Telling.{may_ask, text-told, text-refused}
use Rattle.summary.proofs.tell_text.Goals as goal

pub keep_text-requires : goal.keep_text-requires
keep_text-requires c = record { passed = (c.requires.named_passed.0.passed, c.requires.named_passed.1, c.requires.named_passed.2); most_values_in_bounds = (c.requires.most_values_in_bounds, c.requires.named_passed.0.noted.few); column_len = c.requires.column_len }

pub tell-requires : goal.tell-requires
tell-requires c = may_ask _ _ _ _ _ _ _ c.keep_text.ensures c.in-Ok.is c.requires.named_passed.0

pub returns-in-Err : goal.returns-in-Err
returns-in-Err c = text-refused _ _ _ _ _ _ _ c.keep_text.ensures _ c.in-Err.is c.no_summary.ensures

pub returns-in-Ok : goal.returns-in-Ok
returns-in-Ok c = text-told _ _ _ _ _ _ _ c.keep_text.ensures c.in-Ok.is _ c.tell.ensures
