use Rattle.std.proofs.Common.{◌++◌, ◌∷◌, [], codes, string_bytes}
use Rattle.qp_model.specs.machine.Controller.{numbers}
use Rattle.c_program.specs.Of.{program_of}
use Rattle.c_language.specs.Text.{shift_line, head_text}
use Rattle.c_writer.proofs.Texts.{lines_then, opened}
use Rattle.c_writer.proofs.writer.push_opening.Goals as goal

pub returns : goal.returns
returns c =
    let name = c.args.name.now in
    let head = head_text name (program_of (numbers c.args.c.now)) in
    let t1 = string_bytes c.push_shifts.new.text in
    let t2 = string_bytes c.push_str.new.self in
    lines_then ((codes "#include \"" ++ name ++ codes ".h\"") ∷ [] ∷ shift_line name ∷ [] ∷ []) (head ∷ codes "{" ∷ []) (string_bytes c.args.text.now) t1 t2
    c.in_ok-push_shifts.ensures (opened head t1 (string_bytes c.push_head.new.text) t2 c.in_ok-push_head.ensures c.in_ok-push_str.ensures.bytes)
