use Rattle.std.proofs.Common.{◌≡◌, ◌<◌, ◌^◌, ℤ, pos, List, length, subst, sym, unsigned_abs, arith}
use Rattle.integer_algebra.specs.Sums.{at}
use Rattle.qp_model.specs.machine.Controller.{numbers}
use Rattle.c_writer.proofs.Each.{each_all}
use Rattle.c_writer.proofs.parts_test.is_row_short.Goals as goal

pub returns : goal.returns
returns c =
    let m = c.args.from.now in
    let n = numbers m.c.now in
    let row = c.row.result.now in
    let long : length row ≡ length n.offsets = omega (arith, c.row.ensures.len, m.sound.form.sized.shaped.plan_rows.cols, m.sound.form.sized.shaped.offsets) in (
      (λ t j l. subst (λ (xs : List ℤ). unsigned_abs (at xs j) < 2 ^ 37) c.row.ensures.value (c.are_short.ensures.0 t j (pos 0) (omega (arith, l, long)))),
      (λ all. c.are_short.ensures.1 (each_all (λ (x : ℤ). unsigned_abs x < 2 ^ 37) row (pos 0) (λ j l. subst (λ (xs : List ℤ). unsigned_abs (at xs j) < 2 ^ 37) (sym c.row.ensures.value) (all j (omega (arith, l, long)))))),
    )
