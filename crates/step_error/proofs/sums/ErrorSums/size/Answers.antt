use Rattle.std.proofs.Common.{◌≡◌, ℕ, ◌+◌, ◌*◌, ◌^◌, ◌≤◌, arith, ◌∙◌, refl}
use Rattle.std.proofs.Math.Nat.{mul-le-mul}
use Rattle.integer_algebra.specs.Division.{ceil_div}
use Rattle.qp_model.specs.bounds.Errors.{plan_bound}
use Rattle.step_error.specs.ErrorSums.{sums_of, rounding_size, radius_size}
use Rattle.step_error.proofs.Ceilings.{quotient_is, ceil_anti}
use Rattle.step_error.proofs.SumFacts.{kept, within_of}
use Rattle.step_error.proofs.sums.ErrorSums.size.Goals as goal
use Rattle.step_error.proofs.sums.ErrorSums.size.Goals.{After-div_ceil}

pub overflow_mul-self : goal.overflow_mul-self
overflow_mul-self c = omega (arith, c.requires.room.rho)

pub div_ceil-requires : goal.div_ceil-requires
div_ceil-requires c = omega (arith, c.requires.room.rho_some)

push : (c : After-div_ceil) → c.div_ceil.result ≡ ceil_div c.args.self.now.tail (4 * c.args.self.now.rho)
push c = quotient_is _ _ _ c.args.self.now.tail (4 * c.args.self.now.rho) (omega (arith, c.requires.room.rho_some)) c.div_ceil.ensures refl refl

inner : (c : After-div_ceil) → c.args.self.now.lead + c.div_ceil.result ≤ 2 ^ 126 + 2 ^ 124
inner c =
    let e = c.args.self.now in
    omega (arith, push c, ceil_anti e.tail 4 (4 * e.rho) (omega arith) (omega (arith, c.requires.room.rho_some)), quarter e.tail c.requires.room.tail, c.requires.room.lead)
  where
    quarter : (n : ℕ) → n ≤ 2 ^ 126 → ceil_div n 4 ≤ 2 ^ 124
    quarter n h = omega (arith, h)

pub overflow_add-plan : goal.overflow_add-plan
overflow_add-plan c = omega (arith, inner c)

pub overflow_mul-plan : goal.overflow_mul-plan
overflow_mul-plan c = omega (arith, mul-le-mul c.requires.room.radii.spread_few (inner c))

pub overflow_add-plan-2 : goal.overflow_add-plan-2
overflow_add-plan-2 c = omega (arith, mul-le-mul c.requires.room.radii.spread_few (inner c))

plan : (c : After-div_ceil) → c.args.self.now.radii.spread * (c.args.self.now.lead + c.div_ceil.result) + 1 ≡ plan_bound (sums_of c.args.self.now) 0
plan c = (λ i. c.args.self.now.radii.spread * (c.args.self.now.lead + push c i) + 1)

pub returns-in_err-rounding_size : goal.returns-in_err-rounding_size
returns-in_err-rounding_size c =
    let a = c.args in
    rw c.from_residual.ensures (λ h. c.in_err-rounding_size.ensures (within_of
    (λ i. rounding_size a.squares a.plan_pull (sums_of a.self.now) (plan (goal.at.returns-in_err-rounding_size c).After-div_ceil i)) (first_of _ _ h)))
  where
    first_of : (a b : ℕ) → a + b ≤ 2 ^ 126 → a ≤ 2 ^ 126
    first_of a b h = omega (arith, h)

pub returns-in_err-radius_size : goal.returns-in_err-radius_size
returns-in_err-radius_size c =
    rw c.from_residual-in_err-radius_size.ensures (λ h. c.in_err-radius_size.ensures (within_of
    (λ i. radius_size (sums_of c.args.self.now) (plan (goal.at.returns-in_err-radius_size c).After-div_ceil i)) (second_of _ _ h)))
  where
    second_of : (a b : ℕ) → a + b ≤ 2 ^ 126 → b ≤ 2 ^ 126
    second_of a b h = omega (arith, h)

pub returns : goal.returns
returns c =
    let a = c.args in
    let e = plan (goal.at.returns c).After-div_ceil in
    kept c.limited_sum.result
    (λ i. (c.in_ok-rounding_size.ensures.1 ∙ (λ i. rounding_size a.squares a.plan_pull (sums_of a.self.now) (e i))) i +
    (c.in_ok-radius_size.ensures.1 ∙ (λ i. radius_size (sums_of a.self.now) (e i))) i) c.limited_sum.ensures
