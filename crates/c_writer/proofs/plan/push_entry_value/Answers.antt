use Rattle.std.proofs.Common.{◌≡◌, ◌++◌, ◌∙◌, ◌+◌, ℤ, pos, to_z, ap, arith, decimal, string_bytes}
use Rattle.std.specs.Int.{w128}
use Rattle.std.specs.Fmt.{signed_decimal}
use Rattle.std.proofs.lemmas.Int.{ints}
use Rattle.qp_model.specs.machine.Controller.{numbers}
use Rattle.c_language.specs.Text.{expression_text}
use Rattle.c_writer.specs.Terms.{entry_sum_in, shift_in}
use Rattle.c_writer.proofs.Texts.{entry_text}
use Rattle.c_writer.proofs.plan.push_entry_value.Goals as goal

pub returns : goal.returns
returns c =
    let m = c.args.from.now in
    let n = numbers m.c.now in
    let k = shift_in m.parted (n.fraction_bits + n.step_exponent) in
    let shift : to_z w128 c.entry_shift.result ≡ pos k = omega (arith, ints, c.entry_shift.ensures.value, c.entry_shift.ensures.small) in
    entry_text (expression_text (entry_sum_in m.parted n c.args.j)) (decimal k) (string_bytes c.args.text.now) (string_bytes c.push_str.new.self) (string_bytes c.push_entry_sum_where.new.text)
    (string_bytes c.push_str-2.new.self) (string_bytes c.push_number.new.text) (string_bytes c.push_str-3.new.self) c.in_ok-push_str.ensures.bytes c.in_ok-push_entry_sum_where.ensures
    c.in_ok-push_str-2.ensures.bytes (c.in_ok-push_number.ensures ∙ ap (λ (z : ℤ). string_bytes c.push_str-2.new.self ++ signed_decimal z) shift) c.in_ok-push_str-3.ensures.bytes
