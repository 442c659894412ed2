use Rattle.std.proofs.Common.{◌++◌, ◌∙◌, List, length, ap, sym, codes, string_bytes}
use Rattle.qp_model.specs.machine.Controller.{numbers}
use Rattle.c_language.specs.Syntax.{Statement, groups}
use Rattle.c_language.proofs.LeftIn.{whole_groups}
use Rattle.c_program.specs.Of.{difference_statements, is_needed}
use Rattle.c_program.specs.ByMachine.{means_for, sum_for}
use Rattle.c_writer.specs.Terms.{block_text, gain_parts_in, entry_lines_in}
use Rattle.c_writer.specs.Measured.{kinds_in, row_lines_in}
use Rattle.c_writer.proofs.Texts.{needed_blocks}
use Rattle.c_writer.proofs.InParts.{sum_part}
use Rattle.c_writer.proofs.writer.push_step.Goals as goal

pub returns : goal.returns
returns c =
    let m = c.args.from.now in
    let n = numbers m.c.now in
    let types = kinds_in m in
    let i = codes "        " in
    let needed = is_needed n in
    let more = needed_blocks types i needed in
    let old = string_bytes c.args.text.now in
    let o = means_for m.machine n in
    let a = groups (difference_statements n) (length n.bounds) in
    let p = gain_parts_in m.parted n in
    let b = groups (entry_lines_in m.parted n) (length n.offsets) in
    let d = groups (sum_for m.machine) (length n.offsets) in
    let e = groups (row_lines_in m) (length n.bounds) in
    let t0 = string_bytes c.push_means_where.new.text in
    let t1 = string_bytes c.push_differences.new.text in
    let t2 = string_bytes c.push_gain_parts_where.new.text in
    let t3 = string_bytes c.push_entries.new.text in
    let t4 = string_bytes c.push_sums.new.text in
    let sums = c.in_ok-push_sums.ensures ∙ ap (λ (ss : List Statement). t3 ++ block_text types i ss) (sym (whole_groups needed (sum_for m.machine) (length n.offsets) (sum_part m.machine n))) in
    more (o ++ a ++ p ++ b ++ d) e old t4 (string_bytes c.push_rows.new.text)
    (more (o ++ a ++ p ++ b) d old t3 t4
    (more (o ++ a ++ p) b old t2 t3 (more (o ++ a) p old t1 t2 (more o a old t0 t1 c.in_ok-push_means_where.ensures c.in_ok-push_differences.ensures) c.in_ok-push_gain_parts_where.ensures)
    c.in_ok-push_entries.ensures) sums) c.in_ok-push_rows.ensures
