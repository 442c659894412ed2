use Rattle.std.proofs.Common.{◌++◌, ◌∙◌, ℕ, List, length, ap, sym, codes, string_bytes}
use Rattle.qp_model.specs.machine.Controller.{numbers}
use Rattle.c_language.specs.Syntax.{variable}
use Rattle.c_language.specs.Syntax.Expression.{Value}
use Rattle.c_language.specs.Text.{variable_text}
use Rattle.c_program.specs.Of.{multiplier_top, gain_of}
use Rattle.c_writer.specs.Terms.{entry_base_family, gain_factor, gains_text}
use Rattle.c_writer.proofs.Texts.{two_more, products_read}
use Rattle.c_writer.proofs.plan.push_entry_sum.Goals as goal

pub returns : goal.returns
returns c =
    let n = numbers c.args.from.now.c.now in
    let part = c.args.part in
    let j = c.args.j in
    let old = string_bytes c.args.text.now in
    let v = variable (entry_base_family part) j in
    two_more old (string_bytes c.push_value.new.text) (string_bytes c.push_gains.new.text) (codes "(int64_t)" ++ variable_text v) (gains_text n part j)
    (c.in_ok-push_value.ensures ∙ ap (λ (name : List ℕ). old ++ (codes "(int64_t)" ++ name)) (c.entry_base_letter.ensures j)) c.in_ok-push_gains.ensures ∙
    ap (λ (t : List ℕ). old ++ t) (sym (products_read (Value v) (gain_of n j) (multiplier_top n) (gain_factor n part) (length n.bounds)))
