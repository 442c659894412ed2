use Rattle.std.proofs.Common.{◌≡◌, ◌^◌, arith, ap, ◌∙◌, refl}
use Rattle.integer_algebra.specs.Division.{ceil_div}
use Rattle.integer_algebra.proofs.PowerLaws.{pow_positive}
use Rattle.step_error.proofs.Ceilings.{quotient_is, ceil_small}
use Rattle.step_error.proofs.SumFacts.{shifted}
use Rattle.step_error.proofs.sums.state_bound.Goals as goal

quotient : (c : goal.After-div_ceil) → c.div_ceil.result ≡ ceil_div c.box_magnitude.result (2 ^ c.args.parts.now.grid)
quotient c = quotient_is _ _ _ c.box_magnitude.result (2 ^ c.args.parts.now.grid) (pow_positive 2 c.args.parts.now.grid (omega arith)) c.div_ceil.ensures refl
    (shifted c.args.parts.now.grid 24 c.requires.grid (omega arith))

pub returns-clause-value : goal.returns-clause-value
returns-clause-value c = quotient c ∙ ap (λ n. ceil_div n (2 ^ c.args.parts.now.grid)) c.box_magnitude.ensures.value

pub returns-clause-near : goal.returns-clause-near
returns-clause-near c = omega (arith, quotient c, ceil_small c.box_magnitude.result (2 ^ c.args.parts.now.grid) (pow_positive 2 c.args.parts.now.grid (omega arith)), c.box_magnitude.ensures.small)
