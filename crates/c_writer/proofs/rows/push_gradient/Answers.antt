use Rattle.std.proofs.Common.{◌++◌, ◌∙◌, ℕ, pos, List, length, ap, codes, string_bytes}
use Rattle.qp_model.specs.machine.Controller.{numbers}
use Rattle.c_language.specs.Syntax.{variable}
use Rattle.c_language.specs.Syntax.Expression.{Constant}
use Rattle.c_program.specs.Of.{entry_top}
use Rattle.c_writer.specs.Terms.{declared_text, gradient_family, entry_family, row_factor}
use Rattle.c_writer.specs.Measured.{sizes_in, kinds_in}
use Rattle.c_writer.proofs.Texts.{zero_text, sum_line}
use Rattle.c_writer.proofs.InParts.{gradient_wide}
use Rattle.c_writer.proofs.rows.push_gradient.Goals as goal

pub returns : goal.returns
returns c =
    let m = c.args.from.now in
    let n = numbers m.c.now in
    let part = c.args.part in
    let i = c.args.i in
    let t0 = string_bytes c.args.text.now in
    let t1 = string_bytes c.push_declared.new.text in
    sum_line (kinds_in m) (variable (gradient_family part) i) (Constant (pos 0)) (row_factor n part i) (entry_top n) (variable (entry_family part)) (length n.offsets)
    (codes "        ") (codes "int64_t") t0 t1 (string_bytes c.push_str.new.self) (string_bytes c.push_plan_row.new.text) (string_bytes c.push_end.new.text) (gradient_wide m.parted n (sizes_in m) part i)
    (c.in_ok-push_declared.ensures ∙ ap (λ (name : List ℕ). t0 ++ declared_text (codes "        ") (codes "int64_t") name) (c.gradient_letter.ensures i))
    (c.in_ok-push_str.ensures.bytes ∙ ap (λ (t : List ℕ). t1 ++ t) zero_text)
    c.in_ok-push_plan_row.ensures c.in_ok-push_end.ensures
