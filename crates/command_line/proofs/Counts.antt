-- Counts that rise.
use Rattle.std.proofs.Common.{◌≡◌, ◌⊎◌, inl, inr, ℕ, ◌-◌, ◌^◌, ◌<◌, ◌≤◌, List, arith}
use Rattle.std.proofs.lemmas.Bool.{cases_lt}
use Rattle.io_edge.specs.Faults.{Rose, NoneFalls}

higher : (top a b c : ℕ) → a ≤ b → b ≤ c → (b < c) ⊎ (b ≡ top) → (a < c) ⊎ (a ≡ top)
higher top a b c le le2 (inl lt) = inl (omega arith)
higher top a b c le le2 (inr is) = elim (cases_lt a b) [ inl lt ↦ inl (omega arith) | inr ge ↦ inr (omega arith) ]

-- a count that rose at the end rose over the whole
pub rose_later : (a b c : ℕ) → a ≤ b → b ≤ c → Rose b c → Rose a c
rose_later a b c le le2 rose = record { rise = higher (2 ^ 64 - 1) a b c le le2 rose.rise }

-- no count falls over two calls
pub none_falls_twice : (before mid now : List ℕ → ℕ) → NoneFalls before mid → NoneFalls mid now → NoneFalls before now
none_falls_twice before mid now first second = record { each = λ name. omega (arith, first.each name, second.each name) }
