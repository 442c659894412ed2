-- More fraction bits never cost more, and a smaller plan costs no more.
use Rattle.std.proofs.Common.{◌≡◌, ℕ, ◌+◌, ◌*◌, ◌^◌, ◌≤◌, arith}
use Rattle.std.proofs.Math.Nat.{mul-le-mul, mul-le-mul_left, mul-le-mul_right, pow-le-pow_right, one-le-mul}
use Rattle.integer_algebra.specs.Division.{ceil_div}
use Rattle.integer_algebra.proofs.PowerLaws.{pow-two, pow_positive}
use Rattle.qp_model.specs.bounds.Errors.{ErrorSums, plan_bound, residual_error, radius_error, row_radii, errors_cost, epsilon}
use Rattle.step_error.specs.ErrorSums.{rounding_cost, radius_cost}
use Rattle.step_error.proofs.Ceilings.{ceil_rises, ceil_anti}

pub power_rises : (b m n : ℕ) → 1 ≤ b → m ≤ n → b ^ m ≤ b ^ n
power_rises b m n p h = pow-le-pow_right {n = b} p h

through : {a b c : ℕ} → a ≤ b → b ≤ c → a ≤ c
through {a} {b} {c} h k = omega (arith, h, k)

added : {a b x y : ℕ} → a ≤ x → b ≤ y → a + b ≤ x + y
added {a} {b} {x} {y} h k = omega (arith, h, k)

-- ---- with the plan's bound
pub residual_error_rises : (s : ErrorSums) (a b : ℕ) → a ≤ b → residual_error s a ≤ residual_error s b
residual_error_rises s a b h = close s.box_states (mul-le-mul_left s.plan_entries h)
  where
    close : {x y : ℕ} (b : ℕ) → x ≤ y → x + b + 3 ≤ y + b + 3
    close {x} {y} b h = omega (arith, h)

-- what the radii of the cost's numbers move the gradient by
pub moved_rises : (s : ErrorSums) (a b : ℕ) → a ≤ b →
    a * s.hessian_radius + s.state * s.linear_radius + s.constant_radius ≤ b * s.hessian_radius + s.state * s.linear_radius + s.constant_radius
moved_rises s a b h = close (s.state * s.linear_radius) s.constant_radius (mul-le-mul_right s.hessian_radius h)
  where
    close : {x y : ℕ} (b c : ℕ) → x ≤ y → x + b + c ≤ y + b + c
    close {x} {y} b c h = omega (arith, h)

pub radius_error_rises : (s : ErrorSums) (a b : ℕ) → a ≤ b → radius_error s a ≤ radius_error s b
radius_error_rises s a b h = close (ceil_div (s.top * s.column_radius) s.row_scale) (ceil_rises _ _ s.cost_scale (moved_rises s a b h))
  where
    close : {x y : ℕ} (c : ℕ) → x ≤ y → x + c ≤ y + c
    close {x} {y} c h = omega (arith, h)

pub row_radii_rises : (s : ErrorSums) (a b : ℕ) → a ≤ b → row_radii s a ≤ row_radii s b
row_radii_rises s a b h = close (s.state * s.state_radius) (mul-le-mul_right s.plan_radius h)
  where
    close : {x y : ℕ} (c : ℕ) → x ≤ y → x + c ≤ y + c
    close {x} {y} c h = omega (arith, h)

pub squares_rise : {a b : ℕ} → a ≤ b → a ^ 2 ≤ b ^ 2
squares_rise {a} {b} h = rw (pow-two a, pow-two b) (mul-le-mul h h)

-- ---- the two halves of the cost
pub rounding_cost_rises : (s : ErrorSums) (first more a b f : ℕ) → first ≤ more → a ≤ b → rounding_cost s first a f ≤ rounding_cost s more b f
rounding_cost_rises s first more a b f h k = added (ceil_rises _ _ (4 ^ f) (mul-le-mul_left (s.spread * 2 ^ 40) h))
    (ceil_rises _ _ (2 ^ (f + 1)) (mul-le-mul_left (2 ^ 40 * s.top_rows) (residual_error_rises s a b k)))

pub radius_cost_rises : (s : ErrorSums) (a b : ℕ) → a ≤ b → radius_cost s a ≤ radius_cost s b
radius_cost_rises s a b h = added (ceil_rises _ _ (2 ^ 40 * s.rho) (mul-le-mul_left (s.plan_entries * s.weight_scale) (squares_rise (radius_error_rises s a b h))))
    (ceil_rises _ _ s.row_scale (mul-le-mul_left s.top (row_radii_rises s a b h)))

pub halves : (s : ErrorSums) (first plan f : ℕ) → errors_cost s first plan f ≡ rounding_cost s first plan f + radius_cost s plan
halves s first plan f = close _ _ _ _
  where
    close : (a b c d : ℕ) → a + b + c + d ≡ a + b + (c + d)
    close a b c d = omega arith

pub errors_cost_rises : (s : ErrorSums) (first more a b f : ℕ) → first ≤ more → a ≤ b → errors_cost s first a f ≤ errors_cost s more b f
errors_cost_rises s first more a b f h k = rw (halves s first a f, halves s more b f) (added (rounding_cost_rises s first more a b f h k) (radius_cost_rises s a b k))

-- ---- with more fraction bits
pub plan_bound_falls : (s : ErrorSums) (f g : ℕ) → 1 ≤ s.rho → f ≤ g → plan_bound s g ≤ plan_bound s f
plan_bound_falls s f g p h =
    let two : 1 ≤ 2 = omega arith in
    let powers = mul-le-mul_right s.rho (power_rises 2 (f + 2) (g + 2) two (omega (arith, h))) in
    let some : 1 ≤ 2 ^ (f + 2) * s.rho = one-le-mul (pow_positive 2 (f + 2) two) p in
    close s.spread s.lead (ceil_div s.tail (2 ^ (g + 2) * s.rho)) (ceil_div s.tail (2 ^ (f + 2) * s.rho)) (ceil_anti s.tail (2 ^ (f + 2) * s.rho) (2 ^ (g + 2) * s.rho) some powers)
  where
    close : (k l x y : ℕ) → x ≤ y → k * (l + x) + 1 ≤ k * (l + y) + 1
    close k l x y h = one_more (mul-le-mul_left k (more l h))
      where
        more : {x y : ℕ} (l : ℕ) → x ≤ y → l + x ≤ l + y
        more {x} {y} l h = omega (arith, h)

        one_more : {x y : ℕ} → x ≤ y → x + 1 ≤ y + 1
        one_more {x} {y} h = omega (arith, h)

rounding_cost_falls : (s : ErrorSums) (first plan f g : ℕ) → f ≤ g → rounding_cost s first plan g ≤ rounding_cost s first plan f
rounding_cost_falls s first plan f g h =
    let two : 1 ≤ 2 = omega arith in
    let four : 1 ≤ 4 = omega arith in
    added (ceil_anti (s.spread * 2 ^ 40 * first) (4 ^ f) (4 ^ g) (pow_positive 4 f four) (power_rises 4 f g four h))
    (ceil_anti (2 ^ 40 * s.top_rows * residual_error s plan) (2 ^ (f + 1)) (2 ^ (g + 1)) (pow_positive 2 (f + 1) two) (power_rises 2 (f + 1) (g + 1) two (omega (arith, h))))

pub epsilon_falls : (s : ErrorSums) (f g : ℕ) → 1 ≤ s.rho → f ≤ g → epsilon s g ≤ epsilon s f
epsilon_falls s f g p h =
    let plan = plan_bound s f in
    let fewer : errors_cost s s.first plan g ≤ errors_cost s s.first plan f =
    rw (halves s s.first plan g, halves s s.first plan f) (added (rounding_cost_falls s s.first plan f g h) (same (radius_cost s plan))) in
    through (errors_cost_rises s s.first s.first (plan_bound s g) plan g (same s.first) (plan_bound_falls s f g p h)) fewer
  where
    same : (n : ℕ) → n ≤ n
    same n = omega arith
