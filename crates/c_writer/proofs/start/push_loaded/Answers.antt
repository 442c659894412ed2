use Rattle.std.proofs.Common.{ℕ, List, ◌∙◌, ap, get_or, string_bytes, codes}
use Rattle.qp_model.specs.machine.Controller.{numbers}
use Rattle.c_language.specs.Syntax.{variable}
use Rattle.c_language.specs.Syntax.Family.{Loaded}
use Rattle.c_program.specs.Of.{kind_for, loaded_expression}
use Rattle.c_language.specs.Text.{kind_text}
use Rattle.c_writer.specs.Measured.{kinds_in}
use Rattle.c_writer.proofs.Texts.{declared_line}
use Rattle.c_writer.proofs.start.push_loaded.Goals as goal

pub returns : goal.returns
returns c =
    let n = numbers c.args.from.now.c.now in
    declared_line (kinds_in c.args.from.now) (variable Loaded c.args.k) (loaded_expression n c.args.k) (codes "    ") c.kind_word.result.now (string_bytes c.args.text.now) (string_bytes c.push_declared.new.text)
    (string_bytes c.push_load.new.text) (string_bytes c.push_end.new.text)
    (c.kind_word.ensures ∙ ap (λ (tops : List ℕ). kind_text (kind_for (get_or tops c.args.k 0))) c.args.from.now.state_tops) c.in_ok-push_declared.ensures c.in_ok-push_load.ensures c.in_ok-push_end.ensures
