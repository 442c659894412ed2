use Rattle.std.proofs.Common.{List, ℕ, ◌≡◌, ◌<◌, ◌^◌, ◌≤◌, ◌↔◌, ℤ, pos, ◌+ℤ◌, ◌-ℤ◌, ◌≤ℤ◌, unsigned_abs, length, get_or, arith, rules, ap, sym, ◌∙◌, FitsSigned, IsTrue}
use Rattle.std.specs.Int.{w128}
use Rattle.std.proofs.lemmas.Int.{ints, to_z-of_z}
use lib.Signed.{le_z}
use Rattle.mat_int.specs.Row.{abs_sum}
use Rattle.mat_int.specs.Matrix.{entry_of}
use Rattle.integer_algebra.specs.Bounds.{absolute}
use Rattle.integer_algebra.specs.Matrices.{off_diagonal_sum}
use Rattle.integer_algebra.proofs.DominanceLaws.{others_and_own}
use Rattle.mat_int.proofs.Dots.{abs_sum_more_le}
use Rattle.mat_int.proofs.Indices.{row_size}
use Rattle.mat_int.proofs.matrix.Mat.is_dominant_row.Goals as goal

-- code tests the sum of the others against the row's own entry
told : (s a x o : ℤ) → o +ℤ a ≡ s → IsTrue (le_z (s -ℤ a) x) ↔ (o ≤ℤ x)
told s a x o e = (λ t. grind (arith, ints), λ t. grind (arith, ints))

-- and their difference fits
apart : (n : ℕ) (x : ℤ) → unsigned_abs x ≤ n → n < 2 ^ 127 → FitsSigned w128 (pos n -ℤ pos (unsigned_abs x))
apart n x h k = omega (arith, ints)

pub abs-requires : goal.abs-requires
abs-requires c =
    let own : FitsSigned w128 (get_or c.row-row.result.now c.args.i (pos 0)) = search rules in
    let small = abs_sum_more_le c.row-row.result.now c.args.i (omega (arith, c.row-row.ensures.len, c.requires.square, c.requires.inside)) in
    omega (arith, ints, small, c.in_ok-sum.ensures.0)

pub returns-clause-value : goal.returns-clause-value
returns-clause-value c =
    let m = c.args.self.now in
    let i = c.args.i in
    let row = c.row-row.result.now in
    let n = length m.rows in
    let len : length row ≡ n = c.row-row.ensures.len ∙ c.requires.square in
    let own : FitsSigned w128 (get_or row i (pos 0)) = search rules in
    let sum : FitsSigned w128 c.in_ok-sum.sum = search rules in
    let size : FitsSigned w128 c.abs.result = search rules in
    let small = abs_sum_more_le row i (omega (arith, len, c.requires.inside)) in
    let size_is = rw (to_z-of_z w128 _ own) at c.abs.ensures.value in
    let sum_is = c.in_ok-sum.ensures.1 in
    let rest : FitsSigned w128 (c.in_ok-sum.sum -ℤ c.abs.result) = rw (sum_is, size_is) (apart (abs_sum row) (get_or row i (pos 0)) (omega (arith, small)) c.in_ok-sum.ensures.0) in
    let here : get_or row i (pos 0) ≡ entry_of m i i = ap (λ (r : List ℤ). get_or r i (pos 0)) c.row-row.ensures.value in
    let whole = ap abs_sum c.row-row.ensures.value ∙ row_size n m i (ap length (sym c.row-row.ensures.value) ∙ len) in
    rw (to_z-of_z w128 _ sum, to_z-of_z w128 _ size, to_z-of_z w128 _ rest, to_z-of_z w128 _ own, here)
    (told c.in_ok-sum.sum c.abs.result (entry_of m i i) (off_diagonal_sum n (entry_of m) i)
    (ap (λ (z : ℤ). off_diagonal_sum n (entry_of m) i +ℤ z) (size_is ∙ ap absolute here) ∙ others_and_own n (entry_of m) i c.requires.inside ∙ sym (sum_is ∙ ap pos whole)))
