-- `tell_reply` meets its contract.
use mathlib.Core.Path.{refl}
use Rattle.summary.proofs.Telling.{set_given, told-bars, told-stands}
use Rattle.summary.proofs.tell_reply.Goals as goal

pub first_name-first-requires : goal.first_name-first-requires
first_name-first-requires c = set_given c.requires c.in-Ok.is

pub returns-in-Err : goal.returns-in-Err
returns-in-Err c = λ count ns told ss n f o. told-bars o told f c.in-Err.is c.number_of.ensures refl refl

pub returns-in-Ok : goal.returns-in-Ok
returns-in-Ok c = λ count ns told ss n f o. told-stands o told f c.in-Ok.is refl refl (λ ls e. c.first_name-first.ensures count ns ls n e) refl
