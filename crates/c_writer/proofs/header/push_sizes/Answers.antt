use Rattle.std.proofs.Common.{◌++◌, ◌∷◌, [], codes, string_bytes}
use Rattle.qp_model.specs.machine.Controller.{numbers}
use Rattle.c_language.specs.Text.{size_line}
use Rattle.c_writer.proofs.Texts.{lines_then}
use Rattle.c_writer.proofs.header.push_sizes.Goals as goal

pub returns : goal.returns
returns c =
    let n = numbers c.args.c.now in
    let old = string_bytes c.args.text.now in
    let line = size_line c.args.name.now in
    let a = line (codes "_STATES") n.states ∷ [] in
    let b = line (codes "_INPUTS") n.inputs ∷ [] in
    let d = line (codes "_STAGES") n.stages ∷ [] in
    let e = line (codes "_STEPS") n.steps ∷ [] in
    let f = line (codes "_BITS") n.fraction_bits ∷ [] in
    let g = line (codes "_GRID") n.grid_bits ∷ [] in
    let t1 = string_bytes c.push_size.new.text in
    let t2 = string_bytes c.push_size-2.new.text in
    let t3 = string_bytes c.push_size-3.new.text in
    let t4 = string_bytes c.push_size-4.new.text in
    let t5 = string_bytes c.push_size-5.new.text in
    lines_then (a ++ b ++ d ++ e ++ f) g old t5 (string_bytes c.push_size-6.new.text)
    (lines_then (a ++ b ++ d ++ e) f old t4 t5
    (lines_then (a ++ b ++ d) e old t3 t4
    (lines_then (a ++ b) d old t2 t3 (lines_then a b old t1 t2 c.in_ok-push_size.ensures c.in_ok-push_size-2.ensures) c.in_ok-push_size-3.ensures) c.in_ok-push_size-4.ensures) c.in_ok-push_size-5.ensures)
    c.in_ok-push_size-6.ensures
