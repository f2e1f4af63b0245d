-- Records and states as they are made: a body comes back from its record, and a refusal unwinds or is over.
-- Assumes nothing.
use mathlib.Core.Path.{◌≡◌, refl, ap, ◌∙◌, subst}
use mathlib.Core.Bool.{Bool, true, false}
use mathlib.Core.List.{List}
use Prim.Native.Nat.{ℕ, ◌/◌, ◌%◌, ◌≤◌}
use native.Mathlib.Omega.{arith}
use borrow.Author.Tests.{eq-eqb, ne_eqb}
use lib.Dec.{eqb}
use lib.IntN.{ℤ, pos}
use lib.ListN.{length, replicate}
use Rattle.definition.specs.declared.Answer.{Answer}
use Rattle.definition.specs.declared.Refusal.{Refusal}
use Rattle.definition.specs.Answer.{failure}
use Rattle.turns.specs.declared.Net.{Net}
use Rattle.chain.specs.Chain.{chain_in, Stopped}
use Rattle.opening.specs.declared.Call.{Call}
use Rattle.stretch.specs.declared.Here.{Here}
use Rattle.machine.specs.declared.Frame.{Frame}
use Rattle.machine.specs.declared.Course.{Course}
use Rattle.machine.specs.declared.State.{State}
use Rattle.machine.specs.States.{bit_of, turn_of, net_of, frame_of, here_of, over_at, unwinding, Unwinds, open_in}

pub bit_most : (b : Bool) (n : ℕ) → bit_of b n ≤ n
bit_most true n = omega arith
bit_most false n = omega arith

net-back : (s x y : Bool) (dx dy : ℤ) → net_of (turn_of (record { swap = s; negx = x; negy = y; tx = dx; ty = dy })) dx dy ≡ record { swap = s; negx = x; negy = y; tx = dx; ty = dy }
net-back true true true dx dy = refl
net-back true true false dx dy = refl
net-back true false true dx dy = refl
net-back true false false dx dy = refl
net-back false true true dx dy = refl
net-back false true false dx dy = refl
net-back false false true dx dy = refl
net-back false false false dx dy = refl

-- a body comes back as it was put
pub here_back : (call : Call) (on : Here) → here_of (frame_of call on) ≡ on
here_back call on =
    let n = on.net in
    ap (λ (x : Net). record { at = on.at; end = on.end; layer = on.layer; net = x }) (net-back n.swap n.negx n.negy n.tx n.ty)

pub unwinds_over : {a : Answer} {c : Course} {here : Here} (b : List ℤ) {r : State} {b' : List ℤ} → c.level ≡ 0 → r ≡ over_at a here c.records → b' ≡ replicate (length b) (pos 0)
    → Unwinds a c here b r b'
unwinds_over {a} {c} b z e q = record { is = e ∙ rw (eq-eqb c.level 0 z); words = q ∙ rw (eq-eqb c.level 0 z) }

pub unwinds_on : {a : Answer} {c : Course} {here : Here} {b : List ℤ} {r : State} → (c.level ≡ 0 → ⊥) → r ≡ unwinding a c here → Unwinds a c here b r b
unwinds_on {a} {c} z e = record { is = e ∙ rw (ne_eqb c.level 0 z); words = rw (ne_eqb c.level 0 z) }

pub stopped_so : (t : List ℕ) (why : Refusal) {c : Course} {here : Here} {b : List ℤ} {r : State} {b' : List ℤ} {a : Answer} (run : List ℕ) → a ≡ failure t why (chain_in run) → Stopped c.level c.run run
    → Unwinds a c here b r b' → Unwinds (failure t why (open_in c)) c here b r b'
stopped_so t why {c} {here} {b} {r} {b'} run e s u = subst (λ (x : Answer). Unwinds x c here b r b') (e ∙ ap (failure t why) s.chain_is) u

pub frame-told : (call : Call) (on : Here) {turn : ℕ} {x y : ℤ} → turn ≡ turn_of on.net → x ≡ on.net.tx → y ≡ on.net.ty
    → record { place = call.place; symbol = call.symbol; at = on.at; end = on.end; layer = on.layer; turn = turn; tx = x; ty = y } ≡ frame_of call on
frame-told call on e p q = λ i. record { place = call.place; symbol = call.symbol; at = on.at; end = on.end; layer = on.layer; turn = e i; tx = p i; ty = q i }

pub here-told : (f : Frame) {s x y : Bool} {dx dy : ℤ} → s ≡ eqb (f.turn % 2) 1 → x ≡ eqb (f.turn / 2 % 2) 1 → y ≡ eqb (f.turn / 4 % 2) 1 → dx ≡ f.tx → dy ≡ f.ty
    → record { at = f.at; end = f.end; layer = f.layer; net = record { swap = s; negx = x; negy = y; tx = dx; ty = dy } } ≡ here_of f
here-told f e g q k l = λ i. record { at = f.at; end = f.end; layer = f.layer; net = record { swap = e i; negx = g i; negy = q i; tx = k i; ty = l i } }
