use Rattle.std.proofs.Common.{ℕ, List, ◌++◌, ◌∙◌, pos, ap, codes, string_bytes}
use Rattle.c_language.specs.Syntax.{variable}
use Rattle.c_language.specs.Syntax.Family.{Sum}
use Rattle.c_language.specs.Syntax.Expression.{Constant}
use Rattle.c_program.specs.Of.{kind_for}
use Rattle.c_language.specs.Text.{kind_text}
use Rattle.c_writer.specs.Measured.{kinds_in}
use Rattle.c_writer.proofs.Texts.{zero_text, declared_line}
use Rattle.c_writer.proofs.start.push_start_sum.Goals as goal

pub returns : goal.returns
returns c =
    declared_line (kinds_in c.args.from.now) (variable Sum c.args.j) (Constant (pos 0)) (codes "    ") c.kind_word.result.now (string_bytes c.args.text.now) (string_bytes c.push_declared.new.text)
    (string_bytes c.push_str.new.self) (string_bytes c.push_end.new.text) (c.kind_word.ensures ∙ ap (λ (top : ℕ). kind_text (kind_for top)) c.sum_top.ensures) c.in_ok-push_declared.ensures
    (c.in_ok-push_str.ensures.bytes ∙ ap (λ (t : List ℕ). string_bytes c.push_declared.new.text ++ t) zero_text) c.in_ok-push_end.ensures
