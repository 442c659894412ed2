use Rattle.std.proofs.Common.{◌≡◌, ℕ, ◌+◌, ◌*◌, ◌^◌, ◌≤◌, Fits, arith, ap, ◌∙◌, sym, refl}
use Rattle.std.specs.Int.{w128}
use Rattle.integer_algebra.proofs.PowerLaws.{pow-two}
use Rattle.qp_model.specs.bounds.Errors.{radius_error, row_radii}
use Rattle.step_error.specs.ErrorSums.{sums_of, radius_cost}
use Rattle.step_error.proofs.Ceilings.{quotient_is, ceil_small}
use Rattle.step_error.proofs.SumFacts.{bounded, radii_at}
use Rattle.step_error.proofs.errors.radius_cost.Goals as goal

squared : {a b : ℕ} → a ≡ b → a * a ≡ b ^ 2
squared e = ap (λ n. n * n) e ∙ sym (pow-two _)

pub overflow_mul-gradient : goal.overflow_mul-gradient
overflow_mul-gradient c = omega (arith, (bounded c.args.e.now c.requires.sums).weights)

pub overflow_mul-gradient-2 : goal.overflow_mul-gradient-2
overflow_mul-gradient-2 c = close (squared c.radius_error-error.ensures) (radii_at c.args.e.now c.args.plan c.requires.sums c.requires.plan).squared
  where
    close : {a b : ℕ} → a ≡ b → b ≤ 2 ^ 126 → Fits w128 a
    close {a} {b} e h = omega (arith, e, h)

pub overflow_mul-gradient-3 : goal.overflow_mul-gradient-3
overflow_mul-gradient-3 c =
    close c.args.e.now.nu c.args.e.now.weight_den _ (λ i. c.args.e.now.nu * c.args.e.now.weight_den * squared c.radius_error-error.ensures i) (radii_at c.args.e.now c.args.plan c.requires.sums c.requires.plan).squares
  where
    close : {n : ℕ} (a b x : ℕ) → n ≡ a * b * x → b * a * x ≤ 2 ^ 126 → Fits w128 n
    close {n} a b x e h = omega (arith, e, h)

pub overflow_mul-rows : goal.overflow_mul-rows
overflow_mul-rows c = omega (arith, (radii_at c.args.e.now c.args.plan c.requires.sums c.requires.plan).rows_plan)

pub overflow_mul-rows-2 : goal.overflow_mul-rows-2
overflow_mul-rows-2 c = omega (arith, (radii_at c.args.e.now c.args.plan c.requires.sums c.requires.plan).rows_state)

pub overflow_add-rows : goal.overflow_add-rows
overflow_add-rows c = omega (arith, (radii_at c.args.e.now c.args.plan c.requires.sums c.requires.plan).rows_moved)

pub overflow_mul-rows-3 : goal.overflow_mul-rows-3
overflow_mul-rows-3 c = omega (arith, (radii_at c.args.e.now c.args.plan c.requires.sums c.requires.plan).rows)

pub overflow_mul-e : goal.overflow_mul-e
overflow_mul-e c = omega (arith, (bounded c.args.e.now c.requires.sums).weight)

pub div_ceil-requires : goal.div_ceil-requires
div_ceil-requires c = omega (arith, (bounded c.args.e.now c.requires.sums).some)

pub div_ceil-requires-2 : goal.div_ceil-requires-2
div_ceil-requires-2 c = (bounded c.args.e.now c.requires.sums).row_scale

value : (c : goal.After-div_ceil-2) → c.div_ceil.result + c.div_ceil-2.result ≡ radius_cost (sums_of c.args.e.now) c.args.plan
value c =
    let e = c.args.e.now in
    let b = bounded e c.requires.sums in
    let first = quotient_is _ _ _ (e.nu * e.weight_den * radius_error (sums_of e) c.args.plan ^ 2) (2 ^ 40 * e.rho) (omega (arith, b.some)) c.div_ceil.ensures
    (λ i. e.nu * e.weight_den * squared c.radius_error-error.ensures i) refl in
    let second = quotient_is _ _ _ (e.y_top * row_radii (sums_of e) c.args.plan) e.radii.row_scale b.row_scale c.div_ceil-2.ensures refl refl in
    (λ i. first i + second i)

pub overflow_add-result : goal.overflow_add-result
overflow_add-result c =
    let s = sums_of c.args.e.now in
    let b = bounded c.args.e.now c.requires.sums in
    let p = radii_at c.args.e.now c.args.plan c.requires.sums c.requires.plan in
    let some : 1 ≤ 2 ^ 40 * s.rho = omega (arith, b.some) in
    close s.plan_entries s.weight_scale (radius_error s c.args.plan ^ 2) (value c)
    (ceil_small (s.plan_entries * s.weight_scale * radius_error s c.args.plan ^ 2) (2 ^ 40 * s.rho) some)
    (ceil_small (s.top * row_radii s c.args.plan) s.row_scale b.row_scale) p.squares p.rows
  where
    close : {k a b y : ℕ} (n w q : ℕ) → k ≡ a + b → a ≤ n * w * q → b ≤ y → w * n * q ≤ 2 ^ 126 → y ≤ 2 ^ 126 → Fits w128 k
    close {k} {a} {b} {y} n w q e h o p g = omega (arith, e, h, o, p, g)

pub returns : goal.returns
returns c = value c
