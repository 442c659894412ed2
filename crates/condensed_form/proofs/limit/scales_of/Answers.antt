use Rattle.std.proofs.Common.{rules, FitsSigned, unsigned_abs, ap, ◌∙◌}
use Rattle.std.specs.Int.{w128}
use Rattle.std.proofs.lemmas.Int.{to_z-of_z}
use Rattle.qp_model.specs.problem.Parts.{design_of}
use Rattle.condensed_form.proofs.HeldLaws.{least_equal}
use Rattle.condensed_form.proofs.LimitFacts.{cost_row_by, lift_is}
use Rattle.condensed_form.proofs.limit.scales_of.Goals as goal

pub returns : goal.returns
returns c =
    let f0 : FitsSigned w128 c.args.c.now.weight_den = search rules in
    let f1 : FitsSigned w128 c.args.c.now.cost_row_den = search rules in
    let f2 : FitsSigned w128 c.args.c.now.limit_den = search rules in
    let f3 : FitsSigned w128 c.args.c.now.row_den = search rules in
    let f4 : FitsSigned w128 c.args.c.now.input_floor = search rules in
    let f5 : FitsSigned w128 c.args.c.now.hess_size = search rules in
    λ fine p f. record {
      weight_den = c.unsigned_abs.ensures.value ∙ ap unsigned_abs (to_z-of_z w128 _ f0 ∙ f.denominators.weight_den);
      cost_row_den = c.unsigned_abs-2.ensures.value ∙ ap unsigned_abs (to_z-of_z w128 _ f1 ∙ f.denominators.cost_row_den);
      limit_den = c.unsigned_abs-3.ensures.value ∙ ap unsigned_abs (to_z-of_z w128 _ f2 ∙ f.denominators.limit_den);
      lift = lift_is fine p f.design _ _ (c.unsigned_abs-4.ensures.value ∙ ap unsigned_abs (to_z-of_z w128 _ f3) ∙ f.same.rows_scale)
          (c.unsigned_abs-5.ensures.value ∙ ap unsigned_abs (to_z-of_z w128 _ f2 ∙ f.denominators.limit_den));
      input_floor = c.unsigned_abs-6.ensures.value ∙ ap unsigned_abs (to_z-of_z w128 _ f4) ∙ least_equal p _ f.design f.denominators.input_floor;
      cost_row = c.row_quantity.ensures ∙ cost_row_by fine (design_of p) _ _ _ f.class
          (c.unsigned_abs-7.ensures.value ∙ ap unsigned_abs (to_z-of_z w128 _ f5 ∙ f.sizes.cost_size)) (c.rows.ensures.count ∙ f.shapes.hess.rows);
    }
