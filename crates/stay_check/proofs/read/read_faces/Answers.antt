use Rattle.qp_model.specs.problem.Parts.{design_of}
use Rattle.stay_check.proofs.FacesTextFacts.{faces_told, faces_all_sized}
use Rattle.stay_check.proofs.read.read_faces.Goals as goal

pub returns-clause-found : goal.returns-clause-found
returns-clause-found c = rw (← c.parts.ensures.value) c.faces_in.ensures.found

pub returns-clause-sized : goal.returns-clause-sized
returns-clause-sized c = rw (← c.parts.ensures.value) (faces_all_sized c.args.bytes.now (design_of c.parts.result.now) c.faces_in.result c.faces_in.ensures.found)

pub returns-clause-right : goal.returns-clause-right
returns-clause-right c =
    rw (← c.parts.ensures.value) (faces_told c.args.bytes.now (design_of c.parts.result.now) c.faces_in.result c.faces_in.ensures.found c.faces_in.ensures.fault).0

pub returns-clause-first : goal.returns-clause-first
returns-clause-first c =
    rw (← c.parts.ensures.value) (faces_told c.args.bytes.now (design_of c.parts.result.now) c.faces_in.result c.faces_in.ensures.found c.faces_in.ensures.fault).1
