use Rattle.std.proofs.Common.{◌≡◌, ◌≤◌, ◌^◌, pos, ap, arith, ◌∙◌}
use Rattle.std.specs.Int.{w128}
use Rattle.std.proofs.lemmas.Int.{to_z_pos}
use Rattle.qp_model.specs.machine.Controller.{numbers}
use Rattle.qp_model.specs.machine.AbsoluteSums.{plan_magnitudes, greatest_of}
use Rattle.overflow_check.proofs.Sizes.{greatest_plan_le}
use Rattle.overflow_check.proofs.absolute_sums.plan_sum_for.Goals as goal

value : (c : goal.In_ok-greatest_numbers) → c.in_ok-greatest_numbers.field-0.plan ≡ greatest_of (plan_magnitudes (numbers c.args.parts.now))
value c = λ i. (c.in_ok-greatest_numbers.ensures.1 i).plan

small : (c : goal.In_ok-greatest_numbers) → c.in_ok-greatest_numbers.field-0.plan ≤ 2 ^ 126
small c = omega (arith, value c, c.in_ok-greatest_numbers.ensures.0, greatest_plan_le c.args.machine (numbers c.args.parts.now))

pub overflow_cast-result : goal.overflow_cast-result
overflow_cast-result c = omega (arith, small c)

pub returns : goal.returns
returns c = (c.in_ok-greatest_numbers.ensures.0, to_z_pos w128 _ (omega (arith, small c)) ∙ ap pos (value c))
