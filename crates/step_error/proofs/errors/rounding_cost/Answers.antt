use Rattle.std.proofs.Common.{◌≡◌, ℕ, ◌+◌, ◌*◌, ◌^◌, ◌≤◌, Fits, arith, ◌∙◌, refl}
use Rattle.std.specs.Int.{w128}
use Rattle.std.proofs.Math.Nat.{mul-le-mul_left}
use Rattle.integer_algebra.proofs.PowerLaws.{pow_positive}
use Rattle.qp_model.specs.bounds.Errors.{residual_error}
use Rattle.step_error.specs.ErrorSums.{sums_of, rounding_cost}
use Rattle.step_error.proofs.Ceilings.{quotient_is, ceil_small, positive_by}
use Rattle.step_error.proofs.SumFacts.{bounded, room_at, shifted, four_is}
use Rattle.step_error.proofs.errors.rounding_cost.Goals as goal

-- ---- the shifts
pub overflow_mul-f : goal.overflow_mul-f
overflow_mul-f c = omega (arith, c.requires.bits)

pub overflow_cast-f : goal.overflow_cast-f
overflow_cast-f c = omega (arith, c.requires.bits)

pub overflow_shl-f : goal.overflow_shl-f
overflow_shl-f c = omega (arith, c.requires.bits)

pub overflow_add-f : goal.overflow_add-f
overflow_add-f c = omega (arith, c.requires.bits)

pub overflow_cast-f-2 : goal.overflow_cast-f-2
overflow_cast-f-2 c = omega (arith, c.requires.bits)

pub overflow_shl-f-2 : goal.overflow_shl-f-2
overflow_shl-f-2 c = omega (arith, c.requires.bits)

pub div_ceil-requires : goal.div_ceil-requires
div_ceil-requires c = positive_by (shifted (2 * c.args.f) 96 (omega (arith, c.requires.bits)) (omega arith)) (pow_positive 2 (2 * c.args.f) (omega arith))

pub div_ceil-requires-2 : goal.div_ceil-requires-2
div_ceil-requires-2 c = positive_by (shifted (c.args.f + 1) 49 (omega (arith, c.requires.bits)) (omega arith)) (pow_positive 2 (c.args.f + 1) (omega arith))

-- ---- the products
pub residual_of-requires-clause-sums : goal.residual_of-requires-clause-sums
residual_of-requires-clause-sums c = c.requires.sums

pub residual_of-requires-clause-plan : goal.residual_of-requires-clause-plan
residual_of-requires-clause-plan c = c.requires.plan

pub overflow_mul-gradient : goal.overflow_mul-gradient
overflow_mul-gradient c = omega (arith, (bounded c.args.e.now c.requires.sums).spread_few)

pub overflow_mul-gradient-2 : goal.overflow_mul-gradient-2
overflow_mul-gradient-2 c = omega (arith, (room_at (sums_of c.args.e.now) c.args.first c.args.plan (bounded c.args.e.now c.requires.sums) c.requires.first c.requires.plan).gradient)

pub overflow_mul-rows : goal.overflow_mul-rows
overflow_mul-rows c = close c.args.e.now.y_rows (residual_error (sums_of c.args.e.now) c.args.plan) (omega arith) (room_at (sums_of c.args.e.now) c.args.first c.args.plan (bounded c.args.e.now c.requires.sums) c.requires.first c.requires.plan).rows
  where
    close : (t x : ℕ) → 1 ≤ x → 2 ^ 40 * t * x ≤ 2 ^ 126 → Fits w128 (1099511627776 * t)
    close t x h o = omega (arith, mul-le-mul_left t h, o)

pub overflow_mul-rows-2 : goal.overflow_mul-rows-2
overflow_mul-rows-2 c = close (λ i. 1099511627776 * c.args.e.now.y_rows * c.residual_of.ensures i) (room_at (sums_of c.args.e.now) c.args.first c.args.plan (bounded c.args.e.now c.requires.sums) c.requires.first c.requires.plan).rows
  where
    close : {a b : ℕ} → a ≡ b → b ≤ 2 ^ 126 → Fits w128 a
    close {a} {b} e h = omega (arith, e, h)

value : (c : goal.After-div_ceil-2) → c.div_ceil.result + c.div_ceil-2.result ≡ rounding_cost (sums_of c.args.e.now) c.args.first c.args.plan c.args.f
value c =
    let s = sums_of c.args.e.now in
    let squares = shifted (2 * c.args.f) 96 (omega (arith, c.requires.bits)) (omega arith) ∙ four_is c.args.f in
    let half = shifted (c.args.f + 1) 49 (omega (arith, c.requires.bits)) (omega arith) in
    let first = quotient_is _ _ _ (s.spread * 2 ^ 40 * c.args.first) (4 ^ c.args.f) (pow_positive 4 c.args.f (omega arith)) c.div_ceil.ensures refl squares in
    let second = quotient_is _ _ _ (2 ^ 40 * s.top_rows * residual_error s c.args.plan) (2 ^ (c.args.f + 1))
    (pow_positive 2 (c.args.f + 1) (omega arith)) c.div_ceil-2.ensures (λ i. 1099511627776 * s.top_rows * c.residual_of.ensures i) half in
    (λ i. first i + second i)

pub overflow_add-result : goal.overflow_add-result
overflow_add-result c =
    let s = sums_of c.args.e.now in
    let room = room_at (sums_of c.args.e.now) c.args.first c.args.plan (bounded c.args.e.now c.requires.sums) c.requires.first c.requires.plan in
    close (value c) (ceil_small (s.spread * 2 ^ 40 * c.args.first) (4 ^ c.args.f) (pow_positive 4 c.args.f (omega arith)))
    (ceil_small (2 ^ 40 * s.top_rows * residual_error s c.args.plan) (2 ^ (c.args.f + 1)) (pow_positive 2 (c.args.f + 1) (omega arith))) room.gradient room.rows
  where
    close : {n a b x y : ℕ} → n ≡ a + b → a ≤ x → b ≤ y → x ≤ 2 ^ 126 → y ≤ 2 ^ 126 → Fits w128 n
    close {n} {a} {b} {x} {y} e h k o p = omega (arith, e, h, k, o, p)

pub returns : goal.returns
returns c = value c
