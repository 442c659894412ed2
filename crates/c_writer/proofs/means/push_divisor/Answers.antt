use Rattle.std.proofs.Common.{◌≡◌, ◌++◌, ◌∙◌, ℕ, List, ap, string_bytes}
use Rattle.c_language.specs.Syntax.{variable}
use Rattle.c_language.specs.Syntax.Family.{Divisor}
use Rattle.c_program.specs.Of.{kind_for}
use Rattle.c_language.specs.Text.{kind_text}
use Rattle.c_writer.specs.Measured.{kinds_in}
use Rattle.c_writer.proofs.Texts.{divisor_text}
use Rattle.c_writer.proofs.means.push_divisor.Goals as goal

pub returns : goal.returns
returns c =
    let types = kinds_in c.args.from.now in
    let k : c.kind_word-kind.result.now ≡ kind_text (types (variable Divisor 0)) = c.kind_word-kind.ensures ∙ ap (λ (top : ℕ). kind_text (kind_for top)) c.divisor_top.ensures in
    c.in_ok-push_pieces.ensures ∙ ap (λ (t : List ℕ). string_bytes c.args.text.now ++ t) (rw k (divisor_text types))
