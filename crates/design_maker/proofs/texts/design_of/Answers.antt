use Rattle.std.proofs.Common.{◌≡◌, ◌∙◌, sym, string_bytes}
use Rattle.std.proofs.lemmas.Result.{IfOk-weaker}
use Rattle.number_text.specs.Lines.{text_of}
use Rattle.design_maker.specs.Texts.{design_lines}
use Rattle.design_maker.proofs.Lines.{design_written}
use Rattle.design_maker.proofs.texts.design_of.Goals as goal

pub returns : goal.returns
returns c =
    let d = c.args.drawn.now in
    IfOk-weaker c.format.result _ (λ text. string_bytes text ≡ text_of (design_lines d c.args.stages))
    (λ text e. e ∙ rw (c.in_ok-plant.ensures, c.in_ok-cost.ensures) (sym (design_written d c.args.stages))) c.format.ensures.ok
