-- `ask` meets its contract: nothing is known and nothing open at first, and the walk is the definition's (proofs/Replied.antt).
use mathlib.Core.Path.{refl}
use mathlib.Core.List.{[]}
use native.Mathlib.Omega.{arith}
use Rattle.heights.proofs.Kept.{ready-first, none_open, all_unknown}
use Rattle.heights.proofs.Replied.{is_told}
use Rattle.heights.proofs.ask.Goals as goal

pub reply_to-requires : goal.reply_to-requires
reply_to-requires c = (ready-first _ _ _ _ c.requires.0 c.requires.1 c.requires.2 refl (all_unknown 512) (omega arith), ([], none_open _ _ _ _ _ (all_unknown 512)))

pub returns : goal.returns
returns c = let e = c.reply_to.ensures.reply [] (none_open _ _ _ _ _ (all_unknown 512)) in record { symbol_replies = is_told _ _ _ _ _ e; value = e }
