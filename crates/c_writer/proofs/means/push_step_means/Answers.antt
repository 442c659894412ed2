use Rattle.std.proofs.Common.{◌++◌, ◌∙◌, ◌∷◌, [], ap, sym, length, codes, string_bytes}
use Rattle.qp_model.specs.machine.Controller.{numbers}
use Rattle.overflow_check.specs.declared.machine.Machine.{Machine}
use Rattle.c_language.specs.Syntax.{groups}
use Rattle.c_language.specs.Needed.{left_in}
use Rattle.c_program.specs.Of.{is_needed}
use Rattle.c_program.specs.FastOf.{divisor_statement, scale_statements, mean_statements}
use Rattle.c_program.specs.ByMachine.{means_for}
use Rattle.c_writer.specs.Terms.{block_text}
use Rattle.c_writer.specs.Measured.{kinds_in}
use Rattle.c_writer.proofs.Texts.{needed_blocks}
use Rattle.c_writer.proofs.means.push_step_means.Goals as goal

pub returns : goal.returns
returns c =
    let n = numbers c.args.from.now.c.now in
    let types = kinds_in c.args.from.now in
    let old = string_bytes c.args.text.now in
    let more = needed_blocks types (codes "        ") (is_needed n) in
    let t2 = string_bytes c.push_scale.new.text in
    more ((divisor_statement ∷ []) ++ scale_statements n) (groups (mean_statements n) (length n.bounds)) old t2 (string_bytes c.push_means.new.text)
    (more (divisor_statement ∷ []) (scale_statements n) old (string_bytes c.push_divisor_where.new.text) t2 c.in_ok-push_divisor_where.ensures c.in_ok-push_scale.ensures) c.in_ok-push_means.ensures ∙
    ap (λ (m : Machine). old ++ block_text types (codes "        ") (left_in (is_needed n) (means_for m n))) (sym c.requires)
