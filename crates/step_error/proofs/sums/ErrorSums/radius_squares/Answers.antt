use Rattle.std.proofs.Common.{◌≡◌, ℕ, ◌+◌, ◌*◌, ◌^◌, ◌≤◌, arith, ap, sym, ◌∙◌, refl}
use Rattle.std.proofs.Math.Nat.{mul-le-mul, mul-le-mul_right, one-le-mul}
use Rattle.integer_algebra.specs.Division.{ceil_div}
use Rattle.integer_algebra.proofs.PowerLaws.{pow-two}
use Rattle.step_error.proofs.Ceilings.{quotient_is, ceil_small}
use Rattle.step_error.proofs.SumFacts.{kept}
use Rattle.step_error.proofs.sums.ErrorSums.radius_squares.Goals as goal

pub div_ceil-requires : goal.div_ceil-requires
div_ceil-requires c = c.requires.room.radii.cost_some

pub div_ceil-requires-2 : goal.div_ceil-requires-2
div_ceil-requires-2 c = c.requires.room.radii.row_some

pub overflow_add-error : goal.overflow_add-error
overflow_add-error c =
    let cost = quotient_is _ _ _ c.args.moved c.args.self.now.radii.cost_scale c.requires.room.radii.cost_some c.div_ceil.ensures refl refl in
    let row = quotient_is _ _ _ c.args.columns c.args.self.now.radii.row_scale c.requires.room.radii.row_some c.div_ceil-2.ensures refl refl in
    omega (
      arith,
      cost,
      row,
      ceil_small c.args.moved c.args.self.now.radii.cost_scale c.requires.room.radii.cost_some,
      ceil_small c.args.columns c.args.self.now.radii.row_scale c.requires.room.radii.row_some,
      c.requires.moved,
      c.requires.columns,
    )

pub overflow_mul-self : goal.overflow_mul-self
overflow_mul-self c = omega (arith, mul-le-mul c.requires.room.weight c.requires.room.entries)

pub returns-in_err-limited_product : goal.returns-in_err-limited_product
returns-in_err-limited_product c =
    let cost = quotient_is _ _ _ c.args.moved c.args.self.now.radii.cost_scale c.requires.room.radii.cost_some c.div_ceil.ensures refl refl in
    let row = quotient_is _ _ _ c.args.columns c.args.self.now.radii.row_scale c.requires.room.radii.row_some c.div_ceil-2.ensures refl refl in
    rw (c.from_residual.ensures, ← cost, ← row, pow-two) (λ h. c.in_err-limited_product.ensures (factor (one-le-mul c.requires.room.weight_some c.requires.room.entries_some) h))
  where
    factor : {a b : ℕ} → 1 ≤ a → a * b ≤ 2 ^ 126 → b ≤ 2 ^ 126
    factor {a} {b} h k = omega (arith, k, mul-le-mul_right b h)

pub returns : goal.returns
returns c =
    let cost = quotient_is _ _ _ c.args.moved c.args.self.now.radii.cost_scale c.requires.room.radii.cost_some c.div_ceil.ensures refl refl in
    let row = quotient_is _ _ _ c.args.columns c.args.self.now.radii.row_scale c.requires.room.radii.row_some c.div_ceil-2.ensures refl refl in
    let error : c.div_ceil.result + c.div_ceil-2.result ≡ ceil_div c.args.moved c.args.self.now.radii.cost_scale + ceil_div c.args.columns c.args.self.now.radii.row_scale =
    (λ i. cost i + row i) in
    let squared = c.in_ok-limited_product.ensures.1 ∙ ap (λ n. n * n) error ∙ sym (pow-two _) in
    kept c.limited_product-2.result (ap (λ n. c.args.self.now.weight_den * c.args.self.now.nu * n) squared) c.limited_product-2.ensures
