use Rattle.std.proofs.Common.{◌++◌, ◌∙◌, ℕ, List, ap, refl, codes, decimal, string_bytes}
use Rattle.qp_model.specs.machine.Controller.{numbers}
use Rattle.c_language.specs.Syntax.{variable}
use Rattle.c_language.specs.Syntax.Family.{MultiplierHigh, MultiplierLow}
use Rattle.c_language.specs.Text.{kind_text}
use Rattle.c_program.specs.Of.{gain_variable, high_top, kind_for}
use Rattle.c_writer.specs.Terms.{high_line, low_line}
use Rattle.c_writer.specs.Measured.{kinds_in}
use Rattle.c_writer.proofs.InParts.{parts_read}
use Rattle.c_writer.proofs.plan.push_multiplier_parts.Goals as goal

pub returns : goal.returns
returns c =
    let n = numbers c.args.from.now.c.now in
    let i = c.args.i in
    let old = string_bytes c.args.text.now in
    let kind = c.high_kind-kind.result.now in
    let high = codes "L" ++ decimal i in
    let low = codes "j" ++ decimal i in
    parts_read (kinds_in c.args.from.now) (gain_variable n i) (variable MultiplierHigh i) (variable MultiplierLow i) kind old (string_bytes c.push_parts.new.text)
    (c.high_kind-kind.ensures ∙ ap (λ (top : ℕ). kind_text (kind_for (high_top top))) c.multiplier_top.ensures) refl
    (c.in_ok-push_parts.ensures ∙ ap (λ (whole : List ℕ). old ++ (high_line kind whole high ++ low_line whole high low)) c.gain_family-whole.ensures)
