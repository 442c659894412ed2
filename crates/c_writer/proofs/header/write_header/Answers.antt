use Rattle.std.proofs.Common.{◌≡◌, ◌++◌, ◌∙◌, ℕ, List, ap, sym, refl, string_bytes}
use Rattle.qp_model.specs.machine.Controller.{numbers}
use Rattle.std.proofs.lemmas.Bool.{cond_both}
use Rattle.c_program.specs.ByMachine.{program_for}
use Rattle.c_program.specs.InParts.{is_parted, parted_program}
use Rattle.c_language.specs.Text.{guard_lines, size_lines, function_lines, header_text}
use Rattle.c_writer.proofs.Texts.{lines_then}
use Rattle.c_writer.proofs.header.write_header.Goals as goal

pub returns : goal.returns
returns c = λ m.
    let n = numbers c.args.c.now in
    let name = c.args.name.now in
    let t0 = string_bytes c.new-text.result in
    let t1 = string_bytes c.push_guard.new.text in
    let t2 = string_bytes c.push_sizes.new.text in
    let a = guard_lines name in
    let b = size_lines name n in
    lines_then (a ++ b) (function_lines name (program_for m n)) t0 t2 (string_bytes c.push_functions.new.text)
    (lines_then a b t0 t1 t2 c.in_ok-push_guard.ensures c.in_ok-push_sizes.ensures) (c.in_ok-push_functions.ensures m) ∙
    ap (λ (t : List ℕ). t ++ header_text name n (program_for m n)) c.new-text.ensures.bytes ∙
    sym (cond_both (is_parted n) (parted_program m n) (program_for m n) (λ p. header_text name n p ≡ header_text name n (program_for m n)) (λ t. refl) (λ f. refl))
