use Rattle.std.proofs.Common.{◌≡◌, ◌+◌, ◌*◌, ◌^◌, ◌<◌, ◌≤◌, ◌∙◌, min, ℕ, ℤ, unsigned_abs, FitsSigned, ap, rules, arith, mod-eq_of_lt}
use Rattle.std.specs.Int.{w128}
use Rattle.std.proofs.lemmas.Int.{to_z-of_z}
use Rattle.std.proofs.lemmas.Nat.{mul-le}
use Rattle.std.proofs.Math.Pow.{pow_mono}
use Rattle.integer_algebra.specs.Division.{ceil_div}
use Rattle.qp_model.specs.machine.Controller.{numbers}
use Rattle.qp_model.specs.machine.AbsoluteSums.{row_absolute_sum, next_magnitude}
use Rattle.c_program.specs.Of.{kind_for}
use Rattle.c_language.specs.Text.{kind_text}
use Rattle.c_writer.specs.Terms.{move_bits}
use Rattle.c_writer.proofs.Lists.{kind_capped}
use Rattle.c_writer.proofs.Rooms.{fit_of}
use Rattle.c_writer.proofs.tops.row_kind.Goals as goal

pub overflow_add-next : goal.overflow_add-next
overflow_add-next c =
    let n = numbers c.args.from.now.c.now in
    let x : FitsSigned w128 c.args.from.now.c.now.clamp = search rules in
    let clamp : c.unsigned_abs.result ≡ unsigned_abs n.clamp = c.unsigned_abs.ensures.value ∙ ap (λ (z : ℤ). unsigned_abs z) (to_z-of_z w128 _ x) in
    rw (clamp, c.row_magnitude.ensures) (omega (arith, (fit_of n c.args.from.now.sound).next c.args.i c.requires.in_range))

pub returns : goal.returns
returns c =
    let m = c.args.from.now in
    let n = numbers m.c.now in
    let next = next_magnitude n c.args.i in
    let most = c.min.result in
    let power = 2 ^ c.move_bits_at.result in
    let x : FitsSigned w128 m.c.now.clamp = search rules in
    let clamp : c.unsigned_abs.result ≡ unsigned_abs n.clamp = c.unsigned_abs.ensures.value ∙ ap (λ (z : ℤ). unsigned_abs z) (to_z-of_z w128 _ x) in
    let row : c.row_magnitude.result ≡ ceil_div (row_absolute_sum n c.args.i) (2 ^ n.fraction_bits) = c.row_magnitude.ensures in
    let is : most ≡ min next (2 ^ 31) = c.min.ensures ∙ (λ k. min (clamp k + row k) (2 ^ 31)) in
    let few : power ≤ 2 ^ 48 = pow_mono {i = c.move_bits_at.result} {j = 48} c.move_bits_at.ensures.few in
    let small : most * power < 2 ^ 128 = omega (arith, mul-le most power (2 ^ 31) (2 ^ 48) (omega (arith, is)) few) in
    c.kind_word.ensures ∙ ap (λ (m : ℕ). kind_text (kind_for m)) (mod-eq_of_lt small) ∙ ap (λ (m : ℕ). kind_text (kind_for (m * power))) is ∙
    ap (λ (b : ℕ). kind_text (kind_for (min next (2 ^ 31) * 2 ^ b))) c.move_bits_at.ensures.value ∙ ap kind_text (kind_capped next (move_bits m.parted n c.args.i))
