use Rattle.std.proofs.Common.{rules, ◌≡◌, ◌∙◌, sym, string_bytes, FitsSigned}
use Rattle.std.specs.Int.{w128}
use Rattle.std.proofs.lemmas.Int.{to_z-of_z}
use Rattle.std.proofs.lemmas.Result.{IfOk-weaker}
use Rattle.number_text.specs.Lines.{text_of}
use Rattle.design_maker.specs.Texts.{cost_lines}
use Rattle.design_maker.proofs.Lines.{cost_formatted, cost_written}
use Rattle.design_maker.proofs.texts.cost_of.Goals as goal

pub returns : goal.returns
returns c =
    let d = c.args.drawn.now in
    let first_input : FitsSigned w128 d.first_input = search rules in
    let second_input : FitsSigned w128 d.second_input = search rules in
    let first_target : FitsSigned w128 d.first_target = search rules in
    let first_weight : FitsSigned w128 d.first_weight = search rules in
    let second_target : FitsSigned w128 d.second_target = search rules in
    let second_weight : FitsSigned w128 d.second_weight = search rules in
    IfOk-weaker c.format.result _ (λ text. string_bytes text ≡ text_of (cost_lines d))
    (λ text e. e ∙ rw (
      to_z-of_z w128 d.first_input first_input,
      to_z-of_z w128 d.second_input second_input,
      to_z-of_z w128 d.first_target first_target,
      to_z-of_z w128 d.first_weight first_weight,
      to_z-of_z w128 d.second_target second_target,
      to_z-of_z w128 d.second_weight second_weight,
    ) (cost_formatted d ∙ sym (cost_written d))) c.format.ensures.ok
