-- `read_call` meets its contract: the list by crates/turns, the symbol by its size (proofs/CallWords.antt).
use native.Mathlib.Omega.{arith}
use Rattle.turns.proofs.Nets.{near-more}
use Rattle.opening.proofs.CallWords.{symbol_there, call_list, call-read}
use Rattle.opening.proofs.read_call.Goals as goal

pub list_net-list-requires : goal.list_net-list-requires
list_net-list-requires c = call_list c.requires.0

pub compose-net-requires : goal.compose-net-requires
compose-net-requires c = (near-more (omega arith) (c.list_net-list.ensures (call_list c.requires.0)).near, near-more (omega arith) c.requires.1)

pub size_at-requires : goal.size_at-requires
size_at-requires c = symbol_there c.requires.0

pub returns : goal.returns
returns c = λ h. call-read h (c.list_net-list.ensures (call_list h)) c.compose-net.ensures c.size_at.ensures
