use Rattle.std.proofs.Common.{◌≡◌, ◌<◌, ◌*◌, ◌^◌, ℕ, unsigned_abs, FitsSigned, arith, rules, refl}
use Rattle.std.specs.Int.{w128}
use Rattle.std.proofs.lemmas.Int.{to_z-of_z}
use Rattle.integer_algebra.proofs.SizeLaws.{amount_more}
use Rattle.mat_int.specs.Matrix.{entry_of}
use Rattle.qp_model.specs.machine.Controller.{numbers}
use Rattle.qp_model.specs.machine.LoopSize.{coordinate_magnitude}
use Rattle.qp_model.proofs.TableLaws.{entry_small}
use Rattle.closed_loop.proofs.Reaches.{product_small}
use Rattle.closed_loop.proofs.size.state_absolute_sum.Goals as goal

pub overflow_mul-sum : goal.overflow_mul-sum
overflow_mul-sum c =
    let f : FitsSigned w128 c.at.result = search rules in
    let a : c.unsigned_abs.result < 2 ^ 31 =
    rw (c.unsigned_abs.ensures.value, to_z-of_z w128 _ f, c.at.ensures) (entry_small c.args.design.now.a c.args.i c.loop-j.j c.requires.design.a.numbers (omega (arith, c.requires.design.a.rows, c.requires.in_range))) in
    record { fits = omega (arith, product_small c.unsigned_abs.result c.coordinate_magnitude.result a c.coordinate_magnitude.ensures.small) }

pub overflow_add-sum : goal.overflow_add-sum
overflow_add-sum c =
    let f : FitsSigned w128 c.at.result = search rules in
    let a : c.unsigned_abs.result < 2 ^ 31 =
    rw (c.unsigned_abs.ensures.value, to_z-of_z w128 _ f, c.at.ensures) (entry_small c.args.design.now.a c.args.i c.loop-j.j c.requires.design.a.numbers (omega (arith, c.requires.design.a.rows, c.requires.in_range))) in
    record { fits = omega (arith, product_small c.unsigned_abs.result c.coordinate_magnitude.result a c.coordinate_magnitude.ensures.small, c.loop-j.invariant.small, c.requires.design.states) }

pub loop-j-preserved : goal.loop-j-preserved
loop-j-preserved c =
    let f : FitsSigned w128 c.at.result = search rules in
    let a : c.unsigned_abs.result < 2 ^ 31 =
    rw (c.unsigned_abs.ensures.value, to_z-of_z w128 _ f, c.at.ensures) (entry_small c.args.design.now.a c.args.i c.loop-j.j c.requires.design.a.numbers (omega (arith, c.requires.design.a.rows, c.requires.in_range))) in
    let term : ℕ → ℕ = λ j. unsigned_abs (entry_of c.args.design.now.a c.args.i j) * coordinate_magnitude (numbers c.args.c.now) j in
    let is : c.unsigned_abs.result * c.coordinate_magnitude.result ≡ term c.loop-j.j = rw (c.unsigned_abs.ensures.value, to_z-of_z w128 _ f, c.at.ensures, c.coordinate_magnitude.ensures.value) refl in
    record {
      end = c.loop-j.invariant.end;
      sum = rw (amount_more c.loop-j.j term, c.loop-j.invariant.sum, is) refl;
      small = omega (arith, product_small c.unsigned_abs.result c.coordinate_magnitude.result a c.coordinate_magnitude.ensures.small, c.loop-j.invariant.small);
    }
