use Rattle.std.proofs.Common.{◌++◌, ◌∙◌, ℕ, List, ap, sym, decimal, codes, string_bytes}
use Rattle.qp_model.specs.machine.Controller.{numbers}
use Rattle.c_language.specs.Syntax.{Family, variable}
use Rattle.c_language.specs.Text.{variable_text}
use Rattle.c_writer.specs.Terms.{lowered_text, move_bits, weight_open, weight_end}
use Rattle.c_program.specs.ByMachine.{moved_family}
use Rattle.c_writer.proofs.Texts.{five_more, moved_read}
use Rattle.c_writer.proofs.rows.push_moved_value.Goals as goal

pub returns : goal.returns
returns c =
    let n = numbers c.args.from.now.c.now in
    let m = c.args.from.now.machine in
    let i = c.args.i in
    let k = move_bits c.args.from.now.parted n i in
    let old = string_bytes c.args.text.now in
    let t1 = string_bytes c.push_value.new.text in
    let t2 = string_bytes c.push_str.new.self in
    let t3 = string_bytes c.push_str-2.new.self in
    let t4 = string_bytes c.push_lowered_value.new.text in
    let value = λ (name : List ℕ). old ++ (codes "(int64_t)" ++ name) in
    five_more old t1 t2 t3 t4 (string_bytes c.push_str-3.new.self)
    (codes "(int64_t)" ++ variable_text (variable (moved_family m) i)) (codes " + ") (weight_open m) (lowered_text (codes "y" ++ decimal i) k) (weight_end m)
    (c.in_ok-push_value.ensures ∙ ap value (c.held_letter-letter.ensures i) ∙ ap (λ (f : Family). value (variable_text (variable f i))) c.moved_held.ensures)
    c.in_ok-push_str.ensures.bytes
    (c.in_ok-push_str-2.ensures.bytes ∙ ap (λ (t : List ℕ). t2 ++ t) c.weight_open.ensures)
    (c.in_ok-push_lowered_value.ensures ∙ ap (λ (k : ℕ). t3 ++ lowered_text (codes "y" ++ decimal i) k) c.move_bits_at.ensures.value)
    (c.in_ok-push_str-3.ensures.bytes ∙ ap (λ (t : List ℕ). t4 ++ t) c.weight_end.ensures) ∙
    ap (λ (t : List ℕ). old ++ t) (sym (moved_read m k i))
