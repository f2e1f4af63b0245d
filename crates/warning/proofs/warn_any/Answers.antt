-- `warn_any` meets its contract: a text that refusals 1 to 9 meet has no warnings, and any other those that `warn` finds.
use Rattle.warning.proofs.Any.{screened_passed, none_warned, all_warned}
use Rattle.warning.proofs.warn_any.Goals as goal

pub warn-requires : goal.warn-requires
warn-requires c = (screened_passed c.first_fault.ensures c.in-Ok.is, c.requires)

pub returns-in-Err : goal.returns-in-Err
returns-in-Err c = none_warned _ _ _ c.first_fault.ensures c.in-Err.is

pub returns-in-Ok : goal.returns-in-Ok
returns-in-Ok c = all_warned (screened_passed c.first_fault.ensures c.in-Ok.is) c.warn.ensures
