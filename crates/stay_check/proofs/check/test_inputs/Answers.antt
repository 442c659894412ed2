use Rattle.std.proofs.Common.{◌≡◌, ◌≢◌, ◌∙◌, rules, arith, sym, FitsSigned, below_more}
use Rattle.std.specs.Int.{w128}
use Rattle.std.proofs.lemmas.Int.{to_z-of_z}
use Rattle.qp_model.specs.problem.Parts.{design_of}
use Rattle.qp_model.proofs.VersionLaws.{design_states_le}
use Rattle.stay_check.specs.FaceForms.{faces_of, face_of}
use Rattle.stay_check.proofs.CheckFacts.{unequal_fault}
use Rattle.stay_check.proofs.check.test_inputs.Goals as goal

pub returns-then-left-right-clause-fault : goal.returns-then-left-right-clause-fault
returns-then-left-right-clause-fault c =
    let d = design_of c.args.parts.now in
    let f = face_of (faces_of c.args.faces.now) c.args.e in
    let a : FitsSigned w128 c.of_rows-left.result = search rules in
    let b : FitsSigned w128 c.of_coordinate-right.result = search rules in
    let some : c.of_rows-left.result ≢ c.of_coordinate-right.result = search rules in
    rw (to_z-of_z w128 _ a, to_z-of_z w128 _ b)
    (unequal_fault d f c.args.e c.loop-l.l _ _ c.of_rows-left.result c.of_coordinate-right.result (omega (arith, design_states_le c.args.parts.now c.requires.design, c.requires.face)) (omega (arith, c.requires.design.inputs)) c.loop-l-test.true
    c.loop-l.invariant.equal c.of_rows-left.ensures.value c.of_coordinate-right.ensures.value some)

pub loop-l-preserved : goal.loop-l-preserved
loop-l-preserved c =
    let same : c.of_rows-left.result ≡ c.of_coordinate-right.result = search rules in
    record { end = c.loop-l.invariant.end; equal = below_more _ _ c.loop-l.invariant.equal (sym c.of_rows-left.ensures.value ∙ same ∙ c.of_coordinate-right.ensures.value) }

-- ---- the numbers that a fault tells
pub overflow_cast-result : goal.overflow_cast-result
overflow_cast-result c = record { fits = omega (arith, design_states_le c.args.parts.now c.requires.design, c.requires.face) }

pub overflow_add-result : goal.overflow_add-result
overflow_add-result c = record { fits = omega (arith, design_states_le c.args.parts.now c.requires.design, c.requires.face) }

pub overflow_cast-result-then-left-right : goal.overflow_cast-result-then-left-right
overflow_cast-result-then-left-right c = record { fits = omega (arith, c.requires.design.inputs, c.loop-l-test.true, c.loop-l.invariant.end) }

pub overflow_add-result-then-left-right : goal.overflow_add-result-then-left-right
overflow_add-result-then-left-right c = record { fits = omega (arith, c.requires.design.inputs, c.loop-l-test.true, c.loop-l.invariant.end) }
