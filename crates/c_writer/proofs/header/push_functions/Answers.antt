use Rattle.std.proofs.Common.{◌++◌, ◌∷◌, [], codes, string_bytes}
use Rattle.qp_model.specs.machine.Controller.{numbers}
use Rattle.c_program.specs.ByMachine.{program_for}
use Rattle.c_language.specs.Text.{head_text, average_head_text}
use Rattle.c_writer.proofs.Texts.{lines_then, ended}
use Rattle.c_writer.proofs.header.push_functions.Goals as goal

pub returns : goal.returns
returns c = λ m.
    let p = program_for m (numbers c.args.c.now) in
    let name = c.args.name.now in
    let old = string_bytes c.args.text.now in
    let first = head_text name p in
    let second = average_head_text name p in
    let a = [] ∷ codes "#ifdef __cplusplus" ∷ codes "extern \"C\" {" ∷ codes "#endif" ∷ [] ∷ [] in
    let b = codes "/* From a state over 2^GRID: 0, and the numerators of the averaged plan, as solve prints them; or the first number, from 1, outside the box, and nothing is written. */" ∷ [] in
    let d = [] ∷ codes "/* From these sums: the averaged first inputs over 2^BITS, to the nearest, ties upward. */" ∷ [] in
    let e = [] ∷ codes "#ifdef __cplusplus" ∷ codes "}" ∷ codes "#endif" ∷ [] ∷ codes "#endif" ∷ [] in
    let t1 = string_bytes c.push_str.new.self in
    let t2 = string_bytes c.push_str-2.new.self in
    let t3 = string_bytes c.push_head.new.text in
    let t4 = string_bytes c.push_str-3.new.self in
    let t5 = string_bytes c.push_average_head.new.text in
    let t6 = string_bytes c.push_str-4.new.self in
    lines_then (a ++ b ++ (first ++ codes ";") ∷ d) ((second ++ codes ";") ∷ e) old t4 t6
    (lines_then (a ++ b) ((first ++ codes ";") ∷ d) old t2 t4 (lines_then a b old t1 t2 c.in_ok-push_str.ensures.bytes c.in_ok-push_str-2.ensures.bytes)
    (ended first d t2 t3 t4 c.in_ok-push_head.ensures c.in_ok-push_str-3.ensures.bytes)) (ended second e t4 t5 t6 (c.in_ok-push_average_head.ensures m) c.in_ok-push_str-4.ensures.bytes)
