-- A run that the laws speak of, computed: three steps on u^2 - 4 u with the row u - 1 ≤ 0, over 4.
use Rattle.std.proofs.Common.{ℕ, zero, suc, ◌<◌, [], ◌∷◌, ℤ, pos, negsuc, ◌≤ℤ◌, arith, refl}
use Rattle.std.proofs.lemmas.Int.{ints}
use Rattle.std.specs.Int.Signed.{≤ℤ_refl}
use Rattle.integer_algebra.proofs.OrderLaws.{le_by}
use Rattle.integer_algebra.proofs.Quoting.{by_ring, quotes}
use Rattle.qp_model.specs.method.Dual.{Program, IsConditioned}
use Rattle.fast_machine.specs.Fast.{weight, weights, weighted, IsFastStep, IsFastRun}
use Rattle.fast_machine.proofs.FastRunLaws.{run_law}

abbrev example : Program
example = record {
  cost = record { entries = 1; hessian = λ i j. pos 2; slope = λ j. negsuc 3; base = pos 0 };
  cost_denominator = pos 1;
  rows = 1;
  matrix = λ i j. pos 1;
  offset = λ i. negsuc 0;
  row_denominator = pos 1;
  rho = pos 1;
  rho_denominator = pos 1;
}

-- by step, the last number for all later ones
abbrev by_step : (a b c e : ℤ) → ℕ → ℕ → ℤ
by_step a b c e zero i = a
by_step a b c e (suc zero) i = b
by_step a b c e (suc (suc zero)) i = c
by_step a b c e (suc (suc (suc k))) i = e

conditioned : IsConditioned example (λ i. pos 1) (λ i. pos 1) (pos 1)
conditioned = record {
  symmetric = λ i j l m. refl;
  cost_denominator = omega (arith, ints);
  row_denominator = omega (arith, ints);
  rho = omega (arith, ints);
  rho_denominator = omega (arith, ints);
  common_positive = omega (arith, ints);
  scale_positive = λ i l. omega (arith, ints);
  rest_nonneg = λ i l. omega (arith, ints);
  split = λ i l. refl;
  descent = λ d. le_by (≤ℤ_refl (pos 0)) (by_ring (d 0 ∷ []) (search quotes depth 60 fits 20000) refl);
  strong = λ d. le_by (≤ℤ_refl (pos 0)) (by_ring (d 0 ∷ []) (search quotes depth 60 fits 20000) refl);
}

-- plans, multipliers, the rows' values, and the errors of the gradients: only that of the third plan is rounded
abbrev plans : ℕ → ℕ → ℤ
plans = by_step (pos 8) (pos 6) (pos 5) (pos 0)

abbrev multipliers : ℕ → ℕ → ℤ
multipliers = by_step (pos 0) (pos 4) (pos 7) (pos 9)

abbrev values : ℕ → ℕ → ℤ
values = by_step (pos 8) (pos 6) (pos 4) (pos 0)

abbrev misses : ℕ → ℕ → ℤ
misses = by_step (pos 0) (pos 0) (pos 1) (pos 0)

runs : IsFastRun example (λ i. pos 1) (pos 16) (pos 4) 3 plans multipliers values misses (λ k i. pos 0)
runs = record { starts = λ i l. refl; steps = steps }
  where
    steps : (k : ℕ) → k < 3 →
        IsFastStep example (λ i. pos 1) (pos 16) (pos 4) (weight k) (weights k) (plans k) (weighted k (λ j. multipliers (suc j)))
        (multipliers k) (values k) (multipliers (suc k)) (misses k) (λ i. pos 0)
    steps zero l = record {
      gradient_error = λ j m. record { below = omega (arith, ints); above = omega (arith, ints) };
      row_error = λ i m. record { below = omega (arith, ints); above = omega (arith, ints) };
      moved = λ i m. refl;
    }
    steps (suc zero) l = record {
      gradient_error = λ j m. record { below = omega (arith, ints); above = omega (arith, ints) };
      row_error = λ i m. record { below = omega (arith, ints); above = omega (arith, ints) };
      moved = λ i m. refl;
    }
    steps (suc (suc zero)) l = record {
      gradient_error = λ j m. record { below = omega (arith, ints); above = omega (arith, ints) };
      row_error = λ i m. record { below = omega (arith, ints); above = omega (arith, ints) };
      moved = λ i m. refl;
    }
    steps (suc (suc (suc k))) l = absurd (omega arith)

-- its bound at the greatest multiplier and the plan 1: the whole numbers -4536 and -3087
pub bound : negsuc 4535 ≤ℤ negsuc 3086
bound = run_law example (λ i. pos 1) (λ i. pos 1) (pos 1) (pos 16) (pos 4) 3 conditioned
    plans multipliers values misses (λ k i. pos 0) runs
    (λ i. pos 16) (record { low = λ i l. omega (arith, ints); high = λ i l. omega (arith, ints) }) (λ j. pos 4) (λ i l. omega (arith, ints))
