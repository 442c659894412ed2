-- Forms that agree number by number are missed by as much, and by gains that agree.
use Rattle.std.proofs.Common.{◌≡◌, ℕ, ◌+◌, ◌*◌, ◌^◌, ◌<◌, ℤ, pos, ◌-ℤ◌, ◌*ℤ◌, unsigned_abs, nat_lt, arith, ap, ◌∙◌}
use Rattle.integer_algebra.specs.Division.{ceil_div}
use Rattle.qp_model.specs.form.Form.{Form, HaveSameNumbers, farthest}
use Rattle.qp_model.specs.form.Columns.{columns, solve_matrix}
use Rattle.qp_model.proofs.SystemLaws.{matrix_same, column_is, image_is}
use Rattle.step_error.proofs.SameSums.{amount_over, greatest_over}
use Rattle.step_error.specs.Gains.{missed, missed_sum, missed_gradient, missed_squares, has_room}

module _ (h k : Form) (same : HaveSameNumbers h k) (f : ℕ) (x : ℕ → ℕ → ℤ) where
  missed_same : (i j : ℕ) → i < columns k → j < k.entries → missed h f x i j ≡ missed k f x i j
  missed_same i j l m = λ t. unsigned_abs (image_is h k same (x i) j m t -ℤ pos (2 ^ f) *ℤ column_is h k same i j l m t)

  sum_same : (state top j : ℕ) → j < k.entries → missed_sum h f x state top j ≡ missed_sum k f x state top j
  sum_same state top j m = λ t.
      state * amount_over h.states k.states (λ i. missed h f x i j) (λ i. missed k f x i j) same.states (λ i l. missed_same i j (omega (arith, l)) m) t
      + own t
      + top * amount_over h.rows k.rows (λ i. missed h f x (h.states + 1 + i) j) (λ i. missed k f x (k.states + 1 + i) j) same.rows (λ i l. row i l) t
    where
      own : missed h f x h.states j ≡ missed k f x k.states j
      own = (ap (λ i. missed h f x i j) same.states) ∙ missed_same k.states j (omega arith) m

      row : (i : ℕ) → i < k.rows → missed h f x (h.states + 1 + i) j ≡ missed k f x (k.states + 1 + i) j
      row i l = (ap (λ n. missed h f x (n + 1 + i) j) same.states) ∙ missed_same (k.states + 1 + i) j (omega (arith, l)) m

  pub gradient_same : (state top j : ℕ) → j < k.entries → missed_gradient h f x state top j ≡ missed_gradient k f x state top j
  gradient_same state top j m = λ t.
      ceil_div (sum_same state top j m t) (unsigned_abs (same.matrix_factor t) * same.hessian_scale t)
      + ceil_div (amount_over h.entries k.entries (λ l. farthest (h.numbers.hessian j l) (h.hessian_radius j l)) (λ l. farthest (k.numbers.hessian j l) (k.hessian_radius j l)) same.entries
      (λ l o s. farthest (same.hessian j l m o s) (same.hessian_radius j l m o s)) t) (same.hessian_scale t)

  pub squares_same : (state top : ℕ) (a b : ℕ → ℕ) → ((j : ℕ) → j < k.entries → a j ≡ b j) → missed_squares h f x state top a ≡ missed_squares k f x state top b
  squares_same state top a b e = amount_over h.entries k.entries _ _ same.entries (λ j l q. (gradient_same state top j l q + e j l q) ^ 2)

  pub room_same : (z : ℕ) → has_room h z ≡ has_room k z
  room_same z = λ t. nat_lt (greatest_over h.entries k.entries (λ j. unsigned_abs (solve_matrix h j j) * z) (λ j. unsigned_abs (solve_matrix k j j) * z) same.entries
      (λ j l. ap (λ n. unsigned_abs n * z) (matrix_same h k same j j l l)) t) (2 ^ 126 + 1)
