use Rattle.std.proofs.Common.{length, rules, ◌∙◌, refl}
use Rattle.std.specs.Int.{w128}
use mir.Val.{SFits}
use Rattle.std.proofs.lemmas.Int.{to_z-of_z}
use Rattle.qp_model.proofs.SizeFacts.{numerator_entry, limit_widths, final_widths}
use Rattle.qp_model.proofs.sizes.limit_width.Goals as goal

pub returns : goal.returns
returns c =
    let parts = c.args.parts.now in
    let f : SFits w128 parts.limit_den = search rules in
    c.max-2.ensures ∙ rw (
      c.unsigned_abs.ensures.value,
      to_z-of_z w128 _ f,
      c.max.ensures,
      c.greatest_width-stage.ensures,
      c.greatest_width-last.ensures,
      limit_widths parts.stage_rows parts.states parts.inputs (length parts.stage_rows.rows),
      final_widths parts.final_rows parts.states parts.inputs (length parts.final_rows.rows),
    ) refl

pub greatest_width-stage-requires-clause-numerators : goal.greatest_width-stage-requires-clause-numerators
greatest_width-stage-requires-clause-numerators c = λ r j l k. numerator_entry c.args.parts.now.stage_rows c.requires.stage_rows.numbers r j l

pub greatest_width-last-requires-clause-numerators : goal.greatest_width-last-requires-clause-numerators
greatest_width-last-requires-clause-numerators c = λ r j l k. numerator_entry c.args.parts.now.final_rows c.requires.final_rows.numbers r j l
