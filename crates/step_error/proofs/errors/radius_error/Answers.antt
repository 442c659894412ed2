use Rattle.std.proofs.Common.{◌≡◌, ℕ, ◌+◌, ◌*◌, ◌^◌, ◌≤◌, Fits, arith, refl}
use Rattle.std.specs.Int.{w128}
use Rattle.qp_model.specs.bounds.Errors.{radius_error}
use Rattle.step_error.specs.ErrorSums.{sums_of}
use Rattle.step_error.proofs.Ceilings.{quotient_is, ceil_small}
use Rattle.step_error.proofs.SumFacts.{bounded, radii_at}
use Rattle.step_error.proofs.errors.radius_error.Goals as goal

pub overflow_mul-moved : goal.overflow_mul-moved
overflow_mul-moved c = omega (arith, (radii_at c.args.e.now c.args.plan c.requires.sums c.requires.plan).by_plan)

pub overflow_mul-moved-2 : goal.overflow_mul-moved-2
overflow_mul-moved-2 c = omega (arith, (radii_at c.args.e.now c.args.plan c.requires.sums c.requires.plan).by_state)

pub overflow_add-moved : goal.overflow_add-moved
overflow_add-moved c = omega (arith, (radii_at c.args.e.now c.args.plan c.requires.sums c.requires.plan).moved)

pub overflow_add-moved-2 : goal.overflow_add-moved-2
overflow_add-moved-2 c = omega (arith, (radii_at c.args.e.now c.args.plan c.requires.sums c.requires.plan).moved)

pub overflow_mul-columns : goal.overflow_mul-columns
overflow_mul-columns c = omega (arith, (radii_at c.args.e.now c.args.plan c.requires.sums c.requires.plan).columns)

pub div_ceil-requires : goal.div_ceil-requires
div_ceil-requires c = (bounded c.args.e.now c.requires.sums).cost_scale

pub div_ceil-requires-2 : goal.div_ceil-requires-2
div_ceil-requires-2 c = (bounded c.args.e.now c.requires.sums).row_scale

value : (c : goal.After-div_ceil-2) → c.div_ceil.result + c.div_ceil-2.result ≡ radius_error (sums_of c.args.e.now) c.args.plan
value c =
    let b = bounded c.args.e.now c.requires.sums in
    let cost = quotient_is _ _ _ _ _ b.cost_scale c.div_ceil.ensures refl refl in
    let row = quotient_is _ _ _ _ _ b.row_scale c.div_ceil-2.ensures refl refl in
    (λ i. cost i + row i)

pub overflow_add-result : goal.overflow_add-result
overflow_add-result c =
    let b = bounded c.args.e.now c.requires.sums in
    let s = sums_of c.args.e.now in
    let p = radii_at c.args.e.now c.args.plan c.requires.sums c.requires.plan in
    close (value c) (ceil_small (c.args.plan * s.hessian_radius + s.state * s.linear_radius + s.constant_radius) s.cost_scale b.cost_scale)
    (ceil_small (s.top * s.column_radius) s.row_scale b.row_scale) p.moved p.columns
  where
    close : {n a b x y : ℕ} → n ≡ a + b → a ≤ x → b ≤ y → x ≤ 2 ^ 126 → y ≤ 2 ^ 126 → Fits w128 n
    close {n} {a} {b} {x} {y} e h k o p = omega (arith, e, h, k, o, p)

pub returns : goal.returns
returns c = value c
