use Rattle.std.proofs.Common.{◌≡◌, ◌++◌, ◌∙◌, ◌-◌, min, ℤ, pos, to_z, ap, arith, string_bytes}
use Rattle.std.specs.Int.{w128}
use Rattle.std.specs.Fmt.{signed_decimal}
use Rattle.std.proofs.lemmas.Int.{ints}
use Rattle.qp_model.specs.machine.Controller.{numbers}
use Rattle.c_writer.specs.declared.measured.Part.TheVariants.{High, Low}
use Rattle.c_writer.specs.Terms.{row_by}
use Rattle.c_writer.proofs.Texts.{parted_text}
use Rattle.c_writer.proofs.rows.push_parted_row.Goals as goal

pub returns : goal.returns
returns c =
    let n = numbers c.args.from.now.c.now in
    let i = c.args.i in
    let k = min (n.fraction_bits - 16) 63 in
    let shift : to_z w128 c.shift_of.result ≡ pos k = omega (arith, ints, c.shift_of.ensures.value, c.shift_of.ensures.small) in
    parted_text (row_by n High i) (row_by n Low i) k (string_bytes c.args.text.now) (string_bytes c.push_str.new.self) (string_bytes c.push_row_part.new.text) (string_bytes c.push_str-2.new.self)
    (string_bytes c.push_row_part-2.new.text) (string_bytes c.push_str-3.new.self) (string_bytes c.push_number.new.text) (string_bytes c.push_str-4.new.self)
    c.in_ok-push_str.ensures.bytes c.in_ok-push_row_part.ensures c.in_ok-push_str-2.ensures.bytes c.in_ok-push_row_part-2.ensures c.in_ok-push_str-3.ensures.bytes
    (c.in_ok-push_number.ensures ∙ ap (λ (z : ℤ). string_bytes c.push_str-3.new.self ++ signed_decimal z) shift) c.in_ok-push_str-4.ensures.bytes
