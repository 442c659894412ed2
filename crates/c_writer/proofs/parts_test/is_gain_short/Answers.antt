use Rattle.std.proofs.Common.{◌≡◌, ◌<◌, ◌*◌, ◌^◌, ◌∙◌, ℤ, pos, ◌*ℤ◌, ℕ, List, FitsSigned, subst, sym, ap, unsigned_abs, rules}
use Rattle.std.specs.Int.{w128}
use Rattle.std.proofs.lemmas.Int.{to_z-of_z}
use Rattle.integer_algebra.specs.Sums.{at}
use Rattle.mat_int.specs.Matrix.{row_of}
use Rattle.qp_model.specs.machine.Controller.{numbers}
use Rattle.qp_model.specs.machine.Machine.{lowering_of}
use Rattle.qp_model.proofs.AbsoluteLaws.{abs-shifted}
use Rattle.c_writer.proofs.parts_test.is_gain_short.Goals as goal

pub returns : goal.returns
returns c =
    let n = numbers c.args.from.now.c.now in
    let x = at (row_of n.dual_gains c.args.j) c.args.i in
    let k = lowering_of n c.args.i in
    let f : FitsSigned w128 (at c.row-row.result.now c.args.i) = search rules in
    let size : c.unsigned_abs.result ≡ unsigned_abs x =
    c.unsigned_abs.ensures.value ∙ ap (λ (z : ℤ). unsigned_abs z) (to_z-of_z w128 _ f ∙ ap (λ (xs : List ℤ). at xs c.args.i) c.row-row.ensures.value) in
    let same : c.unsigned_abs.result * 2 ^ c.lowering_at.result ≡ unsigned_abs (x *ℤ pos (2 ^ k)) =
    ap (λ (a : ℕ). a * 2 ^ c.lowering_at.result) size ∙ ap (λ (b : ℕ). unsigned_abs x * 2 ^ b) c.lowering_at.ensures.value ∙ sym (abs-shifted x k) in (
      (λ t. subst (λ (a : ℕ). a < 2 ^ 37) same (c.is_short.ensures.0 t)),
      (λ h. c.is_short.ensures.1 (subst (λ (a : ℕ). a < 2 ^ 37) (sym same) h)),
    )
