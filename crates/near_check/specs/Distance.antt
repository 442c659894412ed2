-- How far a plan may be from another whose gradient is small, where it costs little more: input by input, by the input weights. Inputs and gradients are
-- over 2^20, and costs over 2^40.
use Rattle.std.specs.Prelude.{ℕ, ◌+◌, ◌*◌, ◌^◌, ◌<◌, ◌≤◌, ℤ, pos, ◌-ℤ◌, ◌*ℤ◌, ◌≤ℤ◌, ◌<ℤ◌}
use Rattle.integer_algebra.specs.Bounds.{IsWithin}
use Rattle.integer_algebra.specs.Division.{ceil_div}
use Rattle.integer_algebra.specs.Sizes.{amount}
use Rattle.qp_model.specs.problem.Design.{Design, entries}
use Rattle.qp_model.specs.problem.Sound.{IsSound}
use Rattle.qp_model.specs.problem.Cost.{cost_scale}
use Rattle.qp_model.specs.form.Condensed.{gradient_at}
use Rattle.qp_model.specs.form.Condensing.{condensed_of}
use Rattle.qp_model.specs.form.Quantities.{input_floor}
use Rattle.qp_model.specs.bounds.Certified.{CostsAtMost}

-- entry j of the gradient at the plan w over r is at most slope j / 2^20
abbrev pub HasSlopes : Design → (xi : ℕ → ℤ) → (r : ℤ) → (w : ℕ → ℤ) → (slope : ℕ → ℕ) → Type 0
HasSlopes d xi r w slope = (j : ℕ) → j < entries d →
    IsWithin (pos (slope j) *ℤ (pos (cost_scale d) *ℤ r)) (pos (2 ^ 20) *ℤ gradient_at d (condensed_of d) r xi w j)

-- what such a plan costs more than any at most
abbrev pub descent : Design → (slope : ℕ → ℕ) → ℕ
descent d slope = ceil_div (d.cost_denominator * amount (entries d) (λ j. slope j ^ 2)) (4 * input_floor d)

-- Input l of a plan that costs at most `more` more than it is nearer to that plan's than beta: what beta bends the cost up by is no less than what the
-- slope takes off along it, `more` and the descent.
pub record IsFar (d : Design) (slope : ℕ → ℕ) (more l beta : ℕ) : Type 0 where
  pub some : 1 ≤ beta
  pub costs : pos (d.cost_denominator * (slope l * beta + more + descent d slope)) ≤ℤ (d.input_weight l *ℤ pos (beta ^ 2))

-- so input l of the plan u over q is within beta / 2^20 of that of the plan w over r
abbrev pub DistanceLaw : Type 0
DistanceLaw = (d : Design) → IsSound d (input_floor d) → (xi : ℕ → ℤ) (q : ℤ) (u : ℕ → ℤ) (r : ℤ) (w : ℕ → ℤ) → pos 0 <ℤ q → pos 0 <ℤ r →
    (slope : ℕ → ℕ) (more : ℕ) → HasSlopes d xi r w slope → CostsAtMost d xi q u r w (pos more) →
    (l beta : ℕ) → 1 ≤ d.stages → l < d.inputs → IsFar d slope more l beta →
    IsWithin (pos beta *ℤ (q *ℤ r)) (pos (2 ^ 20) *ℤ (r *ℤ u l -ℤ q *ℤ w l))
