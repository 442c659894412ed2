use Rattle.std.proofs.lemmas.Result.{IfOk-weaker}
use Rattle.integer_algebra.specs.Sums.{at}
use Rattle.qp_model.specs.problem.Parts.{design_of}
use Rattle.stay_check.specs.FaceForms.{faces_of}
use Rattle.stay_check.proofs.StayLaws.{stay_law}
use Rattle.stay_check.proofs.FaceFacts.{denominator_small}
use Rattle.stay_check.proofs.CheckFacts.{right_way, wrong_way}
use Rattle.stay_check.proofs.check.check_faces_under.Goals as goal

pub returns-clause-stays : goal.returns-clause-stays
returns-clause-stays c =
    let sound = rw c.parts.ensures.value at c.parts.ensures.sound in
    let found = rw c.parts.ensures.value at c.test_faces.ensures.right in
    IfOk-weaker c.test_faces.result _ _ (λ u s. stay_law (design_of c.args.design.now) (at c.args.excess.now) (at c.args.low.now) (at c.args.high.now) (faces_of c.args.faces.now)
    (denominator_small c.args.design.now.plant_den sound.plant_den).0 sound.stages.0 c.requires.faces s.1) found

pub returns-clause-right : goal.returns-clause-right
returns-clause-right c =
    right_way (design_of c.args.design.now) (at c.args.excess.now) (at c.args.low.now) (at c.args.high.now) (faces_of c.args.faces.now) c.test_faces.result (rw c.parts.ensures.value at c.test_faces.ensures.fault)

pub returns-clause-first : goal.returns-clause-first
returns-clause-first c =
    wrong_way (design_of c.args.design.now) (at c.args.excess.now) (at c.args.low.now) (at c.args.high.now) (faces_of c.args.faces.now) c.test_faces.result
    (rw c.parts.ensures.value at c.test_faces.ensures.right) (rw c.parts.ensures.value at c.test_faces.ensures.fault)
