use Rattle.std.proofs.Common.{◌++◌, ◌∙◌, ℕ, List, ap, sym, decimal, string_bytes}
use Rattle.qp_model.specs.machine.Controller.{numbers}
use Rattle.c_language.specs.Syntax.{variable}
use Rattle.c_language.specs.Text.{variable_text}
use Rattle.c_writer.specs.Terms.{lowered_text, row_base_family, factor_bits, row_rest}
use Rattle.c_writer.proofs.Texts.{two_more}
use Rattle.c_writer.proofs.InParts.{row_read}
use Rattle.c_writer.proofs.rows.push_row_part.Goals as goal

pub returns : goal.returns
returns c =
    let n = numbers c.args.from.now.c.now in
    let part = c.args.part in
    let i = c.args.i in
    let old = string_bytes c.args.text.now in
    let bits = factor_bits n part i in
    let v = variable (row_base_family part) i in
    two_more old (string_bytes c.push_lowered_value.new.text) (string_bytes c.push_rest.new.text) (lowered_text (variable_text v) bits) (row_rest n part i)
    (c.in_ok-push_lowered_value.ensures ∙ ap (λ (k : ℕ). old ++ lowered_text (c.row_base_letter.result.now ++ decimal i) k) c.factor_bits-bits.ensures.value ∙
    ap (λ (name : List ℕ). old ++ lowered_text name bits) (c.row_base_letter.ensures i))
    c.in_ok-push_rest.ensures ∙ ap (λ (t : List ℕ). old ++ t) (sym (row_read n part i))
