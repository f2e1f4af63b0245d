-- The short way over a byte: outside comments, one entry of the table says where the byte leads and which role it has.
-- Assumes nothing.
use mathlib.Core.Path.{◌≡◌}
use Prim.Native.Nat.{ℕ, ◌-◌, ◌/◌, ◌%◌, ◌≤◌, ◌<◌}
use borrow.Author.Tests.{lt-ltb, le-ltb, eq-eqb, ne_eqb}
use Rattle.grammar.specs.Tables.{deep, role_unit, stuck}
use Rattle.grammar.specs.Steps.{kind_of, entry_of, next_of, mode, mode_after, mark_of}

pub next_is : (q b e : ℕ) → e ≡ entry_of q (kind_of b) → e % role_unit ≡ next_of q (kind_of b)
unfolding next_of
next_is q b e ee = rw (ee)

pub mark_is : (q b e : ℕ) → e ≡ entry_of q (kind_of b) → e / role_unit ≡ mark_of q 0 b
unfolding mark_of
mark_is q b e ee = rw (ee)

-- an entry that leads to a state, one that leads nowhere, and one that begins a comment
pub plain_is : (q d b to : ℕ) → d ≡ 0 → to ≡ next_of q (kind_of b) → to < deep → mode to d ≡ mode_after q d b
unfolding mode_after
plain_is q d b to h e l = rw (eq-eqb d 0 h, ← e, lt-ltb to deep l, h)

pub stuck_is : (q b to : ℕ) → to ≡ next_of q (kind_of b) → to ≡ stuck → mode stuck 0 ≡ mode_after q 0 b
unfolding mode_after
stuck_is q b to e s = rw (← e, s)

pub deep_is : (q b to : ℕ) → to ≡ next_of q (kind_of b) → deep ≤ to → (to ≡ stuck → ⊥) → mode (to - deep) 1 ≡ mode_after q 0 b
unfolding mode_after
deep_is q b to e l n = rw (← e, le-ltb to deep l, ne_eqb to stuck n)
