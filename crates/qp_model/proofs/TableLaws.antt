-- Numbers of a design's tables.
use Rattle.std.proofs.Common.{inl, inr, ℕ, ◌^◌, ◌<◌, [], length, All, pos, unsigned_abs, arith}
use Rattle.std.proofs.lemmas.Bool.{cases_lt}
use Rattle.std.proofs.lemmas.List.{get_or_past}
use Rattle.mat_int.specs.Matrix.{Matrix, entry_of, row_of}
use Rattle.qp_model.specs.problem.Range.{IsNumerator}

-- a number of a table
pub entry_small : (m : Matrix) (i j : ℕ) → All (All IsNumerator) m.rows → i < length m.rows → unsigned_abs (entry_of m i j) < 2 ^ 31
entry_small m i j all h = elim (cases_lt j (length (row_of m i))) [
  | inl lt ↦ all i [] h j (pos 0) lt
  | inr le ↦ rw (get_or_past (row_of m i) j (pos 0) le) (omega arith)
]
