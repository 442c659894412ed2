use Rattle.std.proofs.Common.{rules, ◌≡◌, ◌∙◌, sym, string_bytes, FitsSigned}
use Rattle.std.specs.Int.{w128}
use Rattle.std.proofs.lemmas.Int.{to_z-of_z}
use Rattle.std.proofs.lemmas.Result.{IfOk-weaker}
use Rattle.number_text.specs.Lines.{text_of}
use Rattle.design_maker.specs.Texts.{plant_lines}
use Rattle.design_maker.proofs.Lines.{plant_written}
use Rattle.design_maker.proofs.texts.plant_of.Goals as goal

pub returns : goal.returns
returns c =
    let d = c.args.drawn.now in
    let a11 : FitsSigned w128 d.a11 = search rules in
    let a12 : FitsSigned w128 d.a12 = search rules in
    let a21 : FitsSigned w128 d.a21 = search rules in
    let a22 : FitsSigned w128 d.a22 = search rules in
    let written = rw (to_z-of_z w128 _ a11, to_z-of_z w128 _ a12, to_z-of_z w128 _ a21, to_z-of_z w128 _ a22) at c.format.ensures.ok in
    IfOk-weaker c.format.result _ (λ text. string_bytes text ≡ text_of (plant_lines d c.args.stages)) (λ text e. e ∙ sym (plant_written d c.args.stages)) written
