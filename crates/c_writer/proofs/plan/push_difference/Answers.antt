use Rattle.std.proofs.Common.{◌++◌, ◌∙◌, ℕ, Bool, [], ◌∷◌, if◌then◌else◌, ap, sym, codes, string_bytes}
use Rattle.qp_model.specs.machine.Controller.{numbers}
use Rattle.c_language.specs.Syntax.{variable}
use Rattle.c_language.specs.Syntax.Family.{Multiplier, Difference}
use Rattle.c_language.specs.Syntax.Expression.{Minus, Value}
use Rattle.c_language.specs.Syntax.Statement.{Declare}
use Rattle.c_program.specs.Of.{kind_for, partner}
use Rattle.c_language.specs.Text.{kind_text, expression_text}
use Rattle.c_writer.specs.Terms.{block_text}
use Rattle.c_writer.specs.Measured.{kinds_in}
use Rattle.c_writer.proofs.Texts.{declared_line}
use Rattle.c_writer.proofs.plan.push_difference.Goals as goal

pub returns : goal.returns
returns c =
    let n = numbers c.args.from.now.c.now in
    let difference = λ (k : ℕ). Minus (Value (variable Multiplier c.args.i)) (Value (variable Multiplier k)) in
    let value = difference (partner n c.args.i) in
    declared_line (kinds_in c.args.from.now) (variable Difference c.args.i) value (codes "        ") c.kind_word.result.now (string_bytes c.args.text.now) (string_bytes c.push_declared.new.text)
    (string_bytes c.push_difference_value.new.text) (string_bytes c.push_end.new.text) (c.kind_word.ensures ∙ ap (λ (top : ℕ). kind_text (kind_for top)) c.multiplier_top.ensures)
    c.in_ok-push_declared.ensures
    (c.in_ok-push_difference_value.ensures ∙ ap (λ (k : ℕ). string_bytes c.push_declared.new.text ++ expression_text (difference k)) c.partner_at.ensures) c.in_ok-push_end.ensures ∙
    ap (λ (b : Bool). string_bytes c.args.text.now ++ block_text (kinds_in c.args.from.now) (codes "        ") (if b then Declare (variable Difference c.args.i) value ∷ [] else [])) (sym c.requires.first)
