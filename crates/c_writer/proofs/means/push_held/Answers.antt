use Rattle.std.proofs.Common.{◌++◌, ◌∙◌, ◌∷◌, [], ap, sym, length, codes, string_bytes}
use Rattle.qp_model.specs.machine.Controller.{numbers}
use Rattle.overflow_check.specs.declared.machine.Machine.{Machine}
use Rattle.c_language.specs.Syntax.{groups}
use Rattle.c_language.specs.Syntax.Family.{Own, Reached}
use Rattle.c_language.specs.Needed.{left_in}
use Rattle.c_program.specs.Of.{zero_statements, is_needed}
use Rattle.c_program.specs.FastOf.{first_weight, first_scale}
use Rattle.c_program.specs.ByMachine.{start_for}
use Rattle.c_writer.specs.Terms.{block_text}
use Rattle.c_writer.specs.Measured.{kinds_in}
use Rattle.c_writer.proofs.Texts.{needed_blocks}
use Rattle.c_writer.proofs.means.push_held.Goals as goal

pub returns : goal.returns
returns c =
    let n = numbers c.args.from.now.c.now in
    let types = kinds_in c.args.from.now in
    let more = needed_blocks types (codes "    ") (is_needed n) in
    let old = string_bytes c.args.text.now in
    let own = groups (zero_statements Own) (length n.bounds) in
    let reached = groups (zero_statements Reached) (length n.bounds) in
    let t2 = string_bytes c.push_zeros-2.new.text in
    let t3 = string_bytes c.push_first_weight.new.text in
    more (own ++ reached ++ (first_weight ∷ [])) (first_scale n) old t3 (string_bytes c.push_first_scale.new.text)
    (more (own ++ reached) (first_weight ∷ []) old t2 t3 (more own reached old (string_bytes c.push_zeros.new.text) t2 c.in_ok-push_zeros.ensures c.in_ok-push_zeros-2.ensures) c.in_ok-push_first_weight.ensures)
    c.in_ok-push_first_scale.ensures ∙
    ap (λ (m : Machine). old ++ block_text types (codes "    ") (left_in (is_needed n) (start_for m n))) (sym c.requires)
