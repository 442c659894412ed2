use Rattle.std.proofs.Common.{◌≡◌, ◌+◌, ◌*◌, ◌^◌, ◌≤◌, arith, sym, ◌∙◌}
use Rattle.std.proofs.Math.Nat.{mul-le-mul}
use Rattle.integer_algebra.proofs.PowerLaws.{pow-two}
use Rattle.step_error.specs.ErrorSums.{sums_of, rounding_size}
use Rattle.step_error.proofs.SumFacts.{kept, AreRoundingParts, rounding_parts, within_of}
use Rattle.step_error.proofs.sums.ErrorSums.rounding_size.Goals as goal
use Rattle.step_error.proofs.sums.ErrorSums.rounding_size.Goals.{Start, In_ok-limited_product}

parts : (c : Start) → rounding_size c.args.squares c.args.plan_pull (sums_of c.args.self.now) c.args.plan ≤ 2 ^ 126 →
    let e = c.args.self.now in AreRoundingParts (c.args.plan_pull + e.tail + c.args.squares) e.first e.y_rows (e.nu * c.args.plan) e.n_box
parts c = let e = c.args.self.now in
    rounding_parts e.radii.spread (c.args.plan_pull + e.tail + c.args.squares) e.first e.y_rows (e.nu * c.args.plan) e.n_box c.requires.room.radii.spread_some c.requires.room.rows_some

pub returns-in_err-residual : goal.returns-in_err-residual
returns-in_err-residual c = rw c.from_residual.ensures (λ h. c.in_err-residual.ensures (parts (goal.at.returns-in_err-residual c).Start h).plans)

pub overflow_add-residual : goal.overflow_add-residual
overflow_add-residual c = omega (arith, c.in_ok-residual.ensures.0, c.in_ok-residual.ensures.1, c.requires.room.states)

pub overflow_add-residual-2 : goal.overflow_add-residual-2
overflow_add-residual-2 c = omega (arith, c.in_ok-residual.ensures.0, c.in_ok-residual.ensures.1, c.requires.room.states)

pub returns-in_err-errors : goal.returns-in_err-errors
returns-in_err-errors c =
    let e = c.args.self.now in
    rw c.from_residual-in_err-errors.ensures (λ h. c.in_err-errors.ensures (within_of (λ i. e.y_rows * (c.in_ok-residual.ensures.1 i + e.n_box + 3))
    (parts (goal.at.returns-in_err-errors c).Start h).residuals))

pub overflow_add-errors : goal.overflow_add-errors
overflow_add-errors c = omega (arith, c.requires.room.first, c.in_ok-errors.ensures.0, c.in_ok-errors.ensures.1)

pub overflow_add-parts : goal.overflow_add-parts
overflow_add-parts c = omega (arith, c.requires.plan_pull, c.requires.room.tail)

pub overflow_add-parts-2 : goal.overflow_add-parts-2
overflow_add-parts-2 c = omega (arith, c.requires.plan_pull, c.requires.room.tail, c.requires.squares)

pub overflow_mul-spread : goal.overflow_mul-spread
overflow_mul-spread c = omega (arith, mul-le-mul c.requires.room.radii.spread_few c.requires.room.radii.spread_few)

pub returns-in_err-limited_product : goal.returns-in_err-limited_product
returns-in_err-limited_product c =
    let e = c.args.self.now in
    rw c.from_residual-in_err-limited_product.ensures (λ h. c.in_err-limited_product.ensures (within_of
    (λ i. 1099511627776 * (e.first + (c.in_ok-errors.ensures.1 ∙ (λ i. e.y_rows * (c.in_ok-residual.ensures.1 i + e.n_box + 3))) i))
    (parts (goal.at.returns-in_err-limited_product c).Start h).errors))

sum : (c : In_ok-limited_product) → c.args.plan_pull + c.args.self.now.tail + c.args.squares + c.in_ok-limited_product.field-0 ≡
    (let e = c.args.self.now in c.args.plan_pull + e.tail + c.args.squares + 2 ^ 40 * (e.first + e.y_rows * (e.nu * c.args.plan + e.n_box + 3)))
sum c = let e = c.args.self.now in
    (λ i. c.args.plan_pull + e.tail + c.args.squares +
    (c.in_ok-limited_product.ensures.1 ∙ (λ i. 1099511627776 * (e.first + (c.in_ok-errors.ensures.1 ∙ (λ i. e.y_rows * (c.in_ok-residual.ensures.1 i + e.n_box + 3))) i))) i)

pub returns-in_err-limited_sum : goal.returns-in_err-limited_sum
returns-in_err-limited_sum c =
    rw c.from_residual-in_err-limited_sum.ensures (λ h. c.in_err-limited_sum.ensures (within_of (sum (goal.at.returns-in_err-limited_sum c).In_ok-limited_product)
    (parts (goal.at.returns-in_err-limited_sum c).Start h).sum))

pub returns : goal.returns
returns c =
    kept c.limited_product-4.result
    (λ i. sym (pow-two c.args.self.now.radii.spread) i * (c.in_ok-limited_sum.ensures.1 ∙ sum (goal.at.returns c).In_ok-limited_product) i) c.limited_product-4.ensures
