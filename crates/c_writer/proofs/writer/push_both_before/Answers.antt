use Rattle.std.proofs.Common.{◌++◌, ◌∙◌, ℕ, List, length, ap, sym, refl, codes, string_bytes}
use Rattle.qp_model.specs.machine.Controller.{numbers}
use Rattle.overflow_check.proofs.Sizes.{length-state_reach}
use Rattle.overflow_check.specs.FastController.{with_last_version}
use Rattle.c_language.specs.Syntax.{Statement, groups}
use Rattle.c_language.specs.Syntax.Family.{Multiplier, Sum}
use Rattle.c_language.specs.Needed.{left_in}
use Rattle.c_language.proofs.LeftIn.{whole_groups}
use Rattle.c_program.specs.Of.{loaded_statements, zero_statements, is_needed}
use Rattle.c_writer.specs.Terms.{block_text, entry_base_in, row_base_in}
use Rattle.c_writer.specs.Measured.{kinds_in}
use Rattle.c_writer.proofs.Texts.{needed_blocks}
use Rattle.c_writer.proofs.InParts.{entry_base_part}
use Rattle.c_writer.proofs.writer.push_both_before.Goals as goal

pub returns : goal.returns
returns c =
    let m = c.args.from.now in
    let n = numbers m.c.now in
    let types = kinds_in m in
    let i = codes "    " in
    let needed = is_needed n in
    let more = needed_blocks types i needed in
    let old = string_bytes c.args.text.now in
    let a = groups (loaded_statements n) n.states in
    let b = groups (entry_base_in m.parted n) (length n.offsets) in
    let d = groups (row_base_in m.parted n) (length n.bounds) in
    let e = groups (zero_statements Multiplier) (length n.bounds) in
    let f = groups (zero_statements Sum) (length n.offsets) in
    let t1 = string_bytes c.push_loads.new.text in
    let t2 = string_bytes c.push_entry_bases.new.text in
    let t3 = string_bytes c.push_row_bases.new.text in
    let t4 = string_bytes c.push_zeros.new.text in
    let text = λ (t : List ℕ) (ss : List Statement). t ++ block_text types i ss in
    let long = ap (λ (xs : List ℕ). length xs) m.state_tops ∙ length-state_reach (with_last_version n) m.sound.form.sized in
    let first = c.in_ok-push_loads.ensures ∙ ap (λ (k : ℕ). text old (left_in needed (groups (loaded_statements n) k))) long in
    let second = c.in_ok-push_entry_bases.ensures ∙ ap (text t1) (sym (whole_groups needed (entry_base_in m.parted n) (length n.offsets) (entry_base_part m.parted n))) in
    let last = c.in_ok-push_start_sums.ensures ∙ ap (text t4) (sym (whole_groups needed (zero_statements Sum) (length n.offsets) (λ j. refl))) in
    more (a ++ b ++ d ++ e) f old t4 (string_bytes c.push_start_sums.new.text)
    (more (a ++ b ++ d) e old t3 t4 (more (a ++ b) d old t2 t3 (more a b old t1 t2 first second) c.in_ok-push_row_bases.ensures) c.in_ok-push_zeros.ensures) last
