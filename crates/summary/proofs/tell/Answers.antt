-- `tell` meets its contract: the row's own numbers, and what a call of the symbol gives.
use mathlib.Core.Path.{refl}
use native.Mathlib.Omega.{arith}
use Rattle.summary.proofs.Telling.{given_none, given-row, row_within, own_there, reply_there, none_there}
use Rattle.summary.proofs.tell.Goals as goal

pub find-requires : goal.find-requires
find-requires c = c.requires.held.sorted

pub tell_reply-requires : goal.tell_reply-requires
tell_reply-requires c = given_none c.requires.noted

pub bounds-column-row : goal.bounds-column-row
bounds-column-row c = let z = row_within c.requires.noted c.requires.held _ c.find.ensures c.in-Some.is in omega (arith, z, c.requires.held.sorted.few)

pub offset_bounds-column-row : goal.offset_bounds-column-row
offset_bounds-column-row c = let z = row_within c.requires.noted c.requires.held _ c.find.ensures c.in-Some.is in omega (arith, z, c.requires.held.sorted.few)

pub tell_reply-requires-in-Some : goal.tell_reply-requires-in-Some
tell_reply-requires-in-Some c = given-row _ c.requires.noted (reply_there c.requires.noted c.requires.held _ _ c.ask-reply.ensures.symbol_replies) (own_there c.requires.noted c.requires.held _ c.find.ensures c.in-Some.is refl)

pub returns-in-None : goal.returns-in-None
returns-in-None c = λ count ns t n h. none_there n h _ c.find.ensures c.in-None.is c.tell_reply.ensures

pub returns-in-Some : goal.returns-in-Some
returns-in-Some c = λ count ns t n h. c.tell_reply-in-Some.ensures count ns _ _ n (reply_there n h _ _ c.ask-reply.ensures.symbol_replies) (own_there n h _ c.find.ensures c.in-Some.is refl)
