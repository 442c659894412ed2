-- The weights of the machine's steps.
use Rattle.std.proofs.Common.{◌≡◌, ℕ, zero, suc, ◌+◌, ◌*◌, ◌/◌, ◌<◌, arith, refl, ◌∙◌, ap}
use Rattle.std.proofs.Math.Nat.{mul-div_cancel}
use Rattle.overflow_check.specs.FastMachine.{step_weight, all_weights, mean_divisor, WeightSumLaw}

-- by the weights one by one
abbrev summed : ℕ → ℕ
summed zero = 0
summed (suc k) = summed k + (k + 2)

twice_summed : (n : ℕ) → n * (n + 3) ≡ summed n * 2
twice_summed zero = refl
twice_summed (suc k) = omega (arith, twice_summed k)

as_summed : (n : ℕ) → all_weights n ≡ summed n
unfolding all_weights
as_summed n = ap (λ (m : ℕ). m / 2) (twice_summed n) ∙ mul-div_cancel (summed n) (let p : 0 < 2 = omega arith in p)

pub twice_weights : (n : ℕ) → 2 * all_weights n ≡ n * (n + 3)
twice_weights n = omega (arith, as_summed n, twice_summed n)

pub more_weights : (k : ℕ) → all_weights (suc k) ≡ all_weights k + step_weight k
more_weights k = omega (arith, as_summed k, as_summed (suc k))

pub divisor_twice : (k : ℕ) → mean_divisor k ≡ 2 * all_weights (suc k)
divisor_twice k = omega (arith, twice_weights (suc k))

pub weight_sum_law : WeightSumLaw
weight_sum_law = record { twice = twice_weights; more = more_weights; divisor = divisor_twice }
