use Rattle.std.proofs.Common.{◌+◌, rules, arith, FitsSigned}
use Rattle.std.specs.Int.{w128}
use Rattle.std.proofs.lemmas.Int.{to_z-of_z}
use Rattle.std.proofs.lemmas.Result.{err_from_is_err_and}
use Rattle.integer_algebra.specs.Sums.{at}
use Rattle.qp_model.specs.problem.Parts.{design_of}
use Rattle.qp_model.proofs.VersionLaws.{design_states_le}
use Rattle.stay_check.specs.FaceForms.{faces_of, face_of}
use Rattle.stay_check.proofs.CheckFacts.{of_face}
use Rattle.stay_check.proofs.check.test_face.Goals as goal

pub test_inputs-requires : goal.test_inputs-requires
test_inputs-requires c = record { design = c.requires.design; faces = c.requires.faces; face = c.requires.face }

pub returns-in_err-test_inputs-clause-right : goal.returns-in_err-test_inputs-clause-right
returns-in_err-test_inputs-clause-right c = rw (err_from_is_err_and c.from_residual.result c.from_residual.ensures.1).1 tt

pub returns-in_err-test_inputs-clause-fault : goal.returns-in_err-test_inputs-clause-fault
returns-in_err-test_inputs-clause-fault c =
    let e = err_from_is_err_and c.from_residual.result c.from_residual.ensures.1 in
    rw (e.1, e.2) (of_face (design_of c.args.parts.now) (at c.args.excess.now) (at c.args.low.now) (at c.args.high.now) (face_of (faces_of c.args.faces.now) c.args.e) (c.args.e + 1) _ c.in_err-test_inputs.ensures.fault)

pub is_on_side-requires : goal.is_on_side-requires
is_on_side-requires c = record { design = c.requires.design; face = c.requires.face }

pub overflow_cast-result : goal.overflow_cast-result
overflow_cast-result c = omega (arith, design_states_le c.args.parts.now c.requires.design, c.requires.face)

pub overflow_add-result : goal.overflow_add-result
overflow_add-result c = omega (arith, design_states_le c.args.parts.now c.requires.design, c.requires.face)

pub returns-then-is_on_side-clause-right : goal.returns-then-is_on_side-clause-right
returns-then-is_on_side-clause-right c =
    let a : FitsSigned w128 c.farthest_next-bound.result = search rules in
    record {
      inputs = c.in_ok-test_inputs.ensures.right;
      inside = rw (← c.farthest_next-bound.ensures) (rw (to_z-of_z w128 _ a) at (c.is_on_side.ensures.0 c.if-is_on_side.true));
    }

pub returns-else-is_on_side-clause-fault : goal.returns-else-is_on_side-clause-fault
returns-else-is_on_side-clause-fault c =
    let a : FitsSigned w128 c.farthest_next-bound.result = search rules in
    rw (to_z-of_z w128 _ a) (
      omega (arith, design_states_le c.args.parts.now c.requires.design, c.requires.face),
      record {
        inputs = c.in_ok-test_inputs.ensures.right;
        is = c.farthest_next-bound.ensures;
        beyond = λ h. (let yes = c.is_on_side.ensures.1 (rw (to_z-of_z w128 _ a) h) in let no = c.if-is_on_side.false in absurd cc);
      },
    )

pub returns-then-is_on_side-clause-fault : goal.returns-then-is_on_side-clause-fault
returns-then-is_on_side-clause-fault c = tt

pub returns-else-is_on_side-clause-right : goal.returns-else-is_on_side-clause-right
returns-else-is_on_side-clause-right c = tt
