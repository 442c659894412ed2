use Rattle.std.proofs.Common.{◌*◌, ◌^◌, ◌<◌, ◌≤◌, ℕ, rules, arith}
use Rattle.std.proofs.Math.Nat.{pow-le-pow_right}
use Rattle.std.proofs.lemmas.Nat.{one_shl}
use Rattle.qp_model.proofs.CornerFacts.{product_small}
use Rattle.qp_model.proofs.sizes.curvature_of.Goals as goal

pub returns-in_err-cost : goal.returns-in_err-cost
returns-in_err-cost c = search rules

pub returns-in_err-limits : goal.returns-in_err-limits
returns-in_err-limits c = search rules

pub returns-then-cost-limits : goal.returns-then-cost-limits
returns-then-cost-limits c = search rules

pub returns-else-cost-limits : goal.returns-else-cost-limits
returns-else-cost-limits c = search rules

pub overflow_shl-exponent : goal.overflow_shl-exponent
overflow_shl-exponent c = omega (arith, c.requires.exponent)

pub overflow_mul-limit_den : goal.overflow_mul-limit_den
overflow_mul-limit_den c = record { fits = omega (arith, product_small c.args.limit_den c.args.limit_den (2 ^ 20) (2 ^ 20) c.requires.limit_den c.requires.limit_den) }

-- a power of two times a square
power_square : (e l : ℕ) → e ≤ 40 → l ≤ 2 ^ 20 → 2 ^ e * (l * l) < 2 ^ 128
power_square e l h k =
    let some : 0 < 2 = omega arith in
    omega (arith, product_small (2 ^ e) (l * l) (2 ^ 40) (2 ^ 40) (pow-le-pow_right some h) (product_small l l (2 ^ 20) (2 ^ 20) k k))

pub overflow_mul-exponent : goal.overflow_mul-exponent
overflow_mul-exponent c = rw (one_shl c.args.exponent 128 (omega (arith, c.requires.exponent))) (record { fits = power_square c.args.exponent c.args.limit_den c.requires.exponent c.requires.limit_den })

pub overflow_mul-cost_row_den : goal.overflow_mul-cost_row_den
overflow_mul-cost_row_den c = record { fits = omega (arith, product_small c.args.cost_row_den c.args.cost_row_den (2 ^ 20) (2 ^ 20) c.requires.cost_row_den c.requires.cost_row_den) }

pub overflow_mul-weight_den : goal.overflow_mul-weight_den
overflow_mul-weight_den c = record {
  fits = omega (
    arith,
    product_small c.args.weight_den (c.args.cost_row_den * c.args.cost_row_den) (2 ^ 20) (2 ^ 40) c.requires.weight_den
        (product_small c.args.cost_row_den c.args.cost_row_den (2 ^ 20) (2 ^ 20) c.requires.cost_row_den c.requires.cost_row_den),
  );
}

pub overflow_add-cost : goal.overflow_add-cost
overflow_add-cost c = search rules

pub overflow_add-result : goal.overflow_add-result
overflow_add-result c = search rules
