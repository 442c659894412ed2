use Rattle.std.proofs.Common.{rules, ◌∙◌, arith}
use Rattle.std.specs.Int.{w128}
use Rattle.std.proofs.lemmas.Int.{to_z-of_z}
use Rattle.std.proofs.lemmas.Nat.{pow_pos}
use mir.Val.{SFits}
use Rattle.frac_scaled.proofs.Powers.{one_shifted}
use Rattle.controller_maker.proofs.Bounds.{ceil_of_pos}
use Rattle.fast_bounds.proofs.residuals.plan_reach.Goals as goal

pub returns : goal.returns
returns c =
    let s : SFits w128 c.in-Some.sum = search rules in
    let r : SFits w128 c.ceil_div.result = search rules in
    to_z-of_z w128 _ r ∙ c.ceil_div.ensures
    ∙ rw (to_z-of_z w128 _ s, one_shifted c.args.parts.now.f (omega (arith, c.requires.form.sized.rest.fraction_bits.1)), c.in-Some.ensures.1)
    (ceil_of_pos _ _ (pow_pos c.args.parts.now.f))

pub plan_sum_for-requires : goal.plan_sum_for-requires
plan_sum_for-requires c = c.requires.form.sized

pub overflow_shl-parts : goal.overflow_shl-parts
overflow_shl-parts c = omega (arith, c.requires.form.sized.rest.fraction_bits.1)
