use Rattle.std.proofs.Common.{length, rules, ◌∙◌, refl}
use Rattle.std.specs.Int.{w128}
use mir.Val.{SFits}
use Rattle.std.proofs.lemmas.Int.{to_z-of_z}
use Rattle.qp_model.proofs.SizeFacts.{numerator_entry, cost_widths}
use Rattle.qp_model.proofs.sizes.cost_width.Goals as goal

pub returns : goal.returns
returns c =
    let parts = c.args.parts.now in
    let f : SFits w128 parts.row_den = search rules in
    c.max.ensures ∙ rw (
      c.unsigned_abs.ensures.value,
      to_z-of_z w128 _ f,
      c.max-rows.ensures,
      c.greatest_width.ensures,
      c.greatest_width-2.ensures,
      cost_widths parts.stage_cost parts.states (length parts.stage_cost.rows),
      cost_widths parts.final_cost parts.states (length parts.final_cost.rows),
    ) refl

pub greatest_width-requires-clause-numerators : goal.greatest_width-requires-clause-numerators
greatest_width-requires-clause-numerators c = λ r j l k. numerator_entry c.args.parts.now.stage_cost c.requires.stage_cost.numbers r j l

pub greatest_width-requires-2-clause-numerators : goal.greatest_width-requires-2-clause-numerators
greatest_width-requires-2-clause-numerators c = λ r j l k. numerator_entry c.args.parts.now.final_cost c.requires.final_cost.numbers r j l
