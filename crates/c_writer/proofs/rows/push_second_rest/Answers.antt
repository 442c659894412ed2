use Rattle.std.proofs.Common.{◌++◌, ◌∙◌, ℕ, List, ap, sym, codes, string_bytes}
use Rattle.std.proofs.lemmas.Bool.{cond-true, cond-false}
use Rattle.qp_model.specs.machine.Controller.{numbers}
use Rattle.c_language.specs.Syntax.{variable}
use Rattle.c_language.specs.Text.{variable_text}
use Rattle.c_program.specs.Of.{partner}
use Rattle.c_writer.specs.Terms.{gradient_family}
use Rattle.c_writer.proofs.Texts.{two_more}
use Rattle.c_writer.proofs.rows.push_second_rest.Goals as goal

pub returns : goal.returns
returns c =
    let k = partner (numbers c.args.from.now.c.now) c.args.i in
    let f = gradient_family c.args.part in
    let t1 = string_bytes c.push_str.new.self in
    two_more (string_bytes c.args.text.now) t1 (string_bytes c.push_value.new.text) (codes " - ") (codes "(int64_t)" ++ variable_text (variable f k))
    c.in_ok-push_str.ensures.bytes
    (c.in_ok-push_value.ensures ∙ ap (λ (name : List ℕ). t1 ++ (codes "(int64_t)" ++ name)) (c.gradient_letter.ensures c.partner_at.result) ∙
    ap (λ (n : ℕ). t1 ++ (codes "(int64_t)" ++ variable_text (variable f n))) c.partner_at.ensures) ∙
    ap (λ (t : List ℕ). string_bytes c.args.text.now ++ t) (sym (cond-false _ _ _ c.requires.alone ∙ cond-true _ _ _ c.requires.second))
