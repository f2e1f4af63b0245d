-- The row found is the definition found.
-- Assumes nothing.
use mathlib.Core.Path.{◌≡◌, refl, sym, subst}
use mathlib.Core.List.{List}
use mathlib.Core.Option.{none, some}
use Prim.Native.Nat.{ℕ, zero, suc, ◌+◌, ◌≤◌, ◌<◌}
use native.Mathlib.Nat.{not-suc-le-zero}
use native.Mathlib.Omega.{arith}
use borrow.Author.Tests.{eq-eqb, ne_eqb}
use lib.IntN.{ℤ}
use Rattle.std.specs.Prelude.{Option, Some, None}
use Rattle.definition.specs.Table.{find}
use Rattle.library.specs.Memory.{symbol_at, definition_at, table_from, table_of}
use Rattle.library.specs.Rows.{Finds}

module _ (rows : List ℕ) (b : List ℤ) (n : ℕ) where
  pub none_from : (m j : ℕ) → ((k : ℕ) → j ≤ k → k < j + m → symbol_at rows k ≡ n → ⊥) → find n (table_from rows b j m) ≡ none
  unfolding find table_from
  none_from zero j h = refl
  none_from (suc m) j h = rw (ne_eqb (symbol_at rows j) n (h j (omega arith) (omega arith))) (none_from m (j + 1) (λ k l q. h k (omega arith) (omega arith)))

  pub some_from : (d m j i : ℕ) → i ≡ j + d → d < m → ((k : ℕ) → j ≤ k → k < i → symbol_at rows k ≡ n → ⊥) → symbol_at rows i ≡ n
      → find n (table_from rows b j m) ≡ some (definition_at rows b i)
  unfolding find table_from
  some_from d zero j i e l h q = absurd (not-suc-le-zero l)
  some_from zero (suc m) j i e l h q =
      let f : j ≡ i = omega arith in
      subst (λ (x : ℕ). find n (table_from rows b j (suc m)) ≡ some (definition_at rows b x)) f
      (unfold find table_from in rw (eq-eqb (symbol_at rows j) n (subst (λ (x : ℕ). symbol_at rows x ≡ n) (sym f) q)))
  some_from (suc d) (suc m) j i e l h q =
      rw (ne_eqb (symbol_at rows j) n (h j (omega arith) (omega arith)))
      (some_from d m (j + 1) i (omega arith) (omega arith) (λ k a c. h k (omega arith) c) q)

  pub not_found : (live : ℕ) (r : Option ℕ) → Finds rows live n r → r ≡ None → find n (table_of rows b live) ≡ none
  not_found live r h e =
      let f : (k : ℕ) → k < live → symbol_at rows k ≡ n → ⊥ = unfold Finds in subst (Finds rows live n) e h in
      none_from live 0 (λ k l q. f k (omega arith))

  pub found : (live : ℕ) (r : Option ℕ) (i : ℕ) → Finds rows live n r → r ≡ Some i → (i < live) × (find n (table_of rows b live) ≡ some (definition_at rows b i))
  found live r i h e =
      let f : (i < live) × (symbol_at rows i ≡ n) × ((k : ℕ) → k < i → symbol_at rows k ≡ n → ⊥) = unfold Finds in subst (Finds rows live n) e h in
      (f.0, some_from i live 0 i (omega arith) f.0 (λ k a c. f.2 k c) f.1)
