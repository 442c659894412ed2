use Rattle.std.proofs.Common.{◌≡◌, ◌∙◌, ℕ, ℤ, List, length, ap, arith}
use Rattle.qp_model.specs.machine.Controller.{numbers}
use Rattle.c_program.specs.Of.{shared_bits}
use Rattle.c_program.proofs.Lowering.{bits_le}
use Rattle.c_writer.proofs.shared.row_bits_at.Goals as goal

pub returns-clause-value : goal.returns-clause-value
returns-clause-value c =
    let n = numbers c.args.from.now.c.now in
    let long : length c.row.result.now ≡ length n.offsets =
    omega (arith, c.row.ensures.len, c.args.from.now.sound.form.sized.shaped.plan_rows.cols, c.args.from.now.sound.form.sized.shaped.offsets) in
    c.shared_bits.ensures ∙ ap (λ (k : ℕ). shared_bits c.row.result.now k n.fraction_bits) long ∙
    ap (λ (xs : List ℤ). shared_bits xs (length n.offsets) n.fraction_bits) c.row.ensures.value

pub returns-clause-few : goal.returns-clause-few
returns-clause-few c =
    let n = numbers c.args.from.now.c.now in
    omega (arith, c.shared_bits.ensures, bits_le c.row.result.now (length c.row.result.now) n.fraction_bits)
