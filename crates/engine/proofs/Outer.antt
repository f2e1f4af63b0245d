-- A command outside of definitions that draws: a call where none is open, or a shape where nothing is moved. `draw_outer` goes by it.
-- Assumes nothing.
use Rattle.std.specs.Prelude.{Result}
use mathlib.Core.Path.{◌≡◌, sym, ◌∙◌, subst}
use mathlib.Core.List.{List, []}
use Prim.Native.Nat.{ℕ, ◌+◌, ◌≤◌}
use native.Mathlib.Omega.{arith}
use lib.IntN.{ℤ, nat_abs}
use Rattle.definition.specs.Words.{at}
use Rattle.definition.specs.Table.{Step, shape}
use Rattle.definition.specs.Drawing.{Chain, output, drawn_step, drawn_call, happens}
use Rattle.definition.specs.declared.Refusal.{Refusal}
use Rattle.turns.specs.declared.Net.{Net}
use Rattle.turns.specs.Nets.{Carries}
use Rattle.names.specs.Names.{name_of}
use Rattle.moves.specs.Moves.{most_values, ShapedAt}
use Rattle.shapes.specs.declared.Ink.{Ink}
use Rattle.shapes.specs.Painting.{Painted, ShapeDraws}
use Rattle.library.specs.Memory.{call_letter, table_of}
use Rattle.chain.specs.Chain.{open_calls, chain_in, Stopped}
use Rattle.chain.proofs.Runs.{none_open}
use Rattle.opening.specs.declared.Call.{Call}
use Rattle.opening.specs.Calls.{CalledAt, ReadsCall}
use Rattle.engine.specs.Draws.{Ready, CallDraws}
use Rattle.engine.specs.Outer.{Says, a_shape, a_call, OuterDraws}
use Rattle.engine.proofs.Taking.{no_kind}

-- what is ready for the outermost call is so with fewer levels left
pub ready_at : {rows : List ℕ} {b : List ℤ} {live : ℕ} {numbers : List ℤ} {drawing : List ℕ} {outermost : ℕ} {ink : Ink} → Ready rows b live numbers drawing outermost ink
    → {left : ℕ} → left ≤ 32 → Ready rows b live numbers drawing left ink
ready_at r h = record { sorted = r.sorted; stocked = r.stocked; short = r.short; roomy = r.roomy; levels = r.levels; some_left = h; reached = r.reached }

module _ {words : List ℤ} {kind end : ℕ} where
  no_shape : ShapedAt words kind end → kind ≡ call_letter → ⊥
  no_shape h e = (no_kind h.shape.kind).1 (sym h.shaped.letter_is ∙ e)

  pub said-call : {l : List ℕ} {s : Step} → Says words kind end l s → kind ≡ call_letter → CalledAt words end
  said-call (a_shape h) e = absurd (no_shape h e)
  said-call (a_call q h) e = h

  pub said-shape : {l : List ℕ} {s : Step} → Says words kind end l s → (kind ≡ call_letter → ⊥) → ShapedAt words kind end
  said-shape (a_shape h) e = h
  said-shape (a_call q h) e = absurd (e q)

  pub shape-fits : ShapedAt words kind end → {n : ℕ} → most_values + 2 ≤ n → end ≤ n
  shape-fits h le = omega (arith, h.ends, h.few)

  module _ (rows : List ℕ) (b : List ℤ) (live layer place : ℕ) {still : Net} {ink : Ink} {room room' : List ℕ} {r : Result Ink Refusal} (fixed : Carries [] still) (drawing drawing' : List ℕ) where
    pub call-painted : kind ≡ call_letter → {call : Call} → ((h : CalledAt words end) → ReadsCall h.symbol h.turns still place call)
        → CallDraws rows b live drawing call 32 ink room (chain_in drawing') r room' → OuterDraws rows b live words kind place end layer ink room drawing' r room'
    unfolding happens drawn_step open_calls
    call-painted e reads drawn s (a_shape h) = absurd (no_shape h e)
    call-painted e {call} reads drawn s (a_call q h) =
        let k = reads h in
        let t = table_of rows b live in
        subst (λ (p : ℕ). Painted ink (drawn_call 32 t [] [] p (nat_abs h.symbol) h.turns) room (chain_in drawing') r room') k.at_place
        (subst (λ (n : ℕ). Painted ink (drawn_call 32 t [] [] call.place n h.turns) room (chain_in drawing') r room') k.symbol
        (drawn [] h.turns k.askew (k.carries [] fixed)))

    pub shape-painted : (kind ≡ call_letter → ⊥) → Stopped 0 drawing drawing' → ShapeDraws words kind end still layer place ink room r room'
        → OuterDraws rows b live words kind place end layer ink room drawing' r room'
    unfolding happens drawn_step
    shape-painted e stop drawn s (a_shape h) =
        subst (λ (o : Chain). Painted ink (happens (table_of rows b live) (output (at place (shape (name_of layer) h.shape)))) room o r room') (sym (stop.chain_is ∙ none_open drawing))
        (drawn h [] [] fixed)
    shape-painted e stop drawn s (a_call q h) = absurd (e q)
