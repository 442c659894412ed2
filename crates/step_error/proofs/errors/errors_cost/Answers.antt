use Rattle.std.proofs.Common.{◌≡◌, ℕ, ◌+◌, ◌^◌, ◌≤◌, pos, arith, ap, sym, ◌∙◌}
use Rattle.std.specs.Int.{w128}
use Rattle.std.proofs.lemmas.Int.{to_z_pos}
use Rattle.qp_model.specs.bounds.Errors.{errors_cost}
use Rattle.step_error.specs.ErrorSums.{sums_of}
use Rattle.step_error.proofs.FallingLaws.{halves}
use Rattle.step_error.proofs.SumFacts.{bounded, room_at, within_of}
use Rattle.step_error.proofs.errors.errors_cost.Goals as goal

value : (c : goal.After-radius_cost) → c.rounding_cost.result + c.radius_cost.result ≡ errors_cost (sums_of c.args.e.now) c.args.first c.args.plan c.args.f
value c = (λ i. c.rounding_cost.ensures i + c.radius_cost.ensures i) ∙ sym (halves (sums_of c.args.e.now) c.args.first c.args.plan c.args.f)

small : (c : goal.After-radius_cost) → c.rounding_cost.result + c.radius_cost.result ≤ 2 ^ 126
small c = within_of (value c) ((room_at (sums_of c.args.e.now) c.args.first c.args.plan (bounded c.args.e.now c.requires.sums) c.requires.first c.requires.plan).cost c.args.f)

pub overflow_add-result : goal.overflow_add-result
overflow_add-result c = omega (arith, small c)

pub overflow_cast-result : goal.overflow_cast-result
overflow_cast-result c = omega (arith, small c)

pub returns : goal.returns
returns c = to_z_pos w128 _ (omega (arith, small c)) ∙ ap (λ (n : ℕ). pos n) (value c)
