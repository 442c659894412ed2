use Rattle.std.proofs.Common.{◌++◌, ◌∙◌, ℕ, List, ap, sym, codes, string_bytes}
use Rattle.std.proofs.lemmas.Bool.{cond-true}
use Rattle.c_language.specs.Syntax.{variable}
use Rattle.c_language.specs.Text.{variable_text}
use Rattle.c_writer.specs.Terms.{gradient_family}
use Rattle.c_writer.proofs.Texts.{two_more}
use Rattle.c_writer.proofs.rows.push_first_rest.Goals as goal

pub returns : goal.returns
returns c =
    let v = variable (gradient_family c.args.part) c.args.i in
    let t1 = string_bytes c.push_str.new.self in
    two_more (string_bytes c.args.text.now) t1 (string_bytes c.push_value.new.text) (codes " + ") (codes "(int64_t)" ++ variable_text v)
    c.in_ok-push_str.ensures.bytes (c.in_ok-push_value.ensures ∙ ap (λ (name : List ℕ). t1 ++ (codes "(int64_t)" ++ name)) (c.gradient_letter.ensures c.args.i)) ∙
    ap (λ (t : List ℕ). string_bytes c.args.text.now ++ t) (sym (cond-true _ _ _ c.requires))
