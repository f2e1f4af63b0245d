-- Two outcomes that the contracts of this crate allow are one: the answer, every byte of the room, and where it is refused the chain that is told.
-- Assumes nothing.
use Rattle.std.specs.Prelude.{Result, Err}
use mathlib.Core.Path.{◌≡◌}
use mathlib.Core.List.{List}
use Prim.Native.Nat.{ℕ}
use lib.IntN.{ℤ}
use Rattle.definition.specs.Table.{Step}
use Rattle.definition.specs.Drawing.{Chain}
use Rattle.definition.specs.declared.Refusal.{Refusal}
use Rattle.turns.specs.declared.Net.{Net}
use Rattle.names.specs.Names.{name_of}
use Rattle.shapes.specs.declared.Ink.{Ink}
use Rattle.shapes.proofs.Sole.{painted_once, chain_once}
use Rattle.chain.specs.Chain.{chain_in}
use Rattle.opening.specs.declared.Call.{Call}
use Rattle.opening.proofs.Witnesses.{some_list, turned_by, turned_so, turned_still}
use Rattle.engine.specs.Draws.{Draws, CallDraws}
use Rattle.engine.specs.Outer.{Says, OuterDraws}

module _ (rows : List ℕ) (b : List ℤ) (live : ℕ) (drawing : List ℕ) (left : ℕ) (ink : Ink) {room : List ℕ} {r s : Result Ink Refusal} {told other : Chain} {room' room'' : List ℕ} where
  pub draws_once : (net : Net) (from end : ℕ) → Draws rows b live drawing net left from end ink room told r room'
      → Draws rows b live drawing net left from end ink room other s room'' → (r ≡ s) × (room' ≡ room'')
  draws_once net from end x y = let (ts, k) = some_list net in painted_once (x ts k) (y ts k)

  pub calls_once : (call : Call) → CallDraws rows b live drawing call left ink room told r room' → CallDraws rows b live drawing call left ink room other s room''
      → (r ≡ s) × (room' ≡ room'')
  calls_once call x y =
      let (outer, k) = some_list call.net in
      let ts = turned_by call.askew in
      let e = turned_so call.askew in
      let h = turned_still call.askew k in
      painted_once (x outer ts e h) (y outer ts e h)

module _ (rows : List ℕ) (b : List ℤ) (live : ℕ) {words : List ℤ} {kind end : ℕ} (layer place : ℕ) {step : Step} (says : Says words kind end (name_of layer) step)
    {ink : Ink} {room : List ℕ} (drawing' drawing'' : List ℕ) {room' room'' : List ℕ} where
  pub outer_once : {r s : Result Ink Refusal} → OuterDraws rows b live words kind place end layer ink room drawing' r room'
      → OuterDraws rows b live words kind place end layer ink room drawing'' s room'' → (r ≡ s) × (room' ≡ room'')
  outer_once x y = painted_once (x step says) (y step says)

  pub outer-chain_once : {why other : Refusal} → OuterDraws rows b live words kind place end layer ink room drawing' (Err why) room'
      → OuterDraws rows b live words kind place end layer ink room drawing'' (Err other) room'' → chain_in drawing' ≡ chain_in drawing''
  outer-chain_once x y = chain_once (x step says) (y step says)
