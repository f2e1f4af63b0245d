-- A layer's name has room for its letters: with each, what is left falls by a byte's unit.
-- Assumes nothing.
use Prim.Native.Nat.{ℕ, ◌+◌, ◌*◌, ◌/◌, ◌≤◌, ◌<◌}
use native.Mathlib.Nat.{mul-le-mul_right}
use native.Mathlib.Omega.{arith}
use Rattle.names.specs.Names.{byte_unit, first_unit}

pub name-room : (w u n : ℕ) → w < 256 → n + byte_unit * u ≤ byte_unit * first_unit → n + w * u + byte_unit * (u / byte_unit) ≤ byte_unit * first_unit
name-room w u n h k = let m : w * u ≤ 255 * u = mul-le-mul_right u (omega arith) in omega arith
