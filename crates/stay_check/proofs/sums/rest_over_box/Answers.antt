use Rattle.std.proofs.Common.{rules, refl, FitsSigned}
use Rattle.std.specs.Int.{w128}
use Rattle.std.proofs.lemmas.Int.{to_z-of_z}
use Rattle.qp_model.specs.problem.Parts.{design_of}
use Rattle.stay_check.specs.FaceForms.{faces_of, face_of}
use Rattle.stay_check.proofs.SumFacts.{rest_room, coordinate_at}
use Rattle.stay_check.proofs.sums.rest_over_box.Goals as goal

pub overflow_mul-state_rest : goal.overflow_mul-state_rest
overflow_mul-state_rest c =
    let d = design_of c.args.parts.now in
    let f = face_of (faces_of c.args.faces.now) c.args.e in
    let room = rest_room d f c.args.j c.requires.state c.requires.narrow in
    let r : FitsSigned w128 c.state_rest-state_rest.result = search rules in
    let l : FitsSigned w128 c.index.result.now = search rules in
    let low = coordinate_at c.args.parts.now.lo.items c.args.parts.now.states c.args.j c.index.result.now c.requires.design.lo.long c.requires.state c.index.ensures in
    rw (to_z-of_z w128 _ r, to_z-of_z w128 _ l, c.state_rest-state_rest.ensures, low) room.low

pub overflow_mul-state_rest-2 : goal.overflow_mul-state_rest-2
overflow_mul-state_rest-2 c =
    let d = design_of c.args.parts.now in
    let f = face_of (faces_of c.args.faces.now) c.args.e in
    let room = rest_room d f c.args.j c.requires.state c.requires.narrow in
    let r : FitsSigned w128 c.state_rest-state_rest.result = search rules in
    let l : FitsSigned w128 c.index.result.now = search rules in
    let low = coordinate_at c.args.parts.now.lo.items c.args.parts.now.states c.args.j c.index.result.now c.requires.design.lo.long c.requires.state c.index.ensures in
    let h : FitsSigned w128 c.index-2.result.now = search rules in
    let high = coordinate_at c.args.parts.now.hi.items c.args.parts.now.states c.args.j c.index-2.result.now c.requires.design.hi.long c.requires.state c.index-2.ensures in
    rw (to_z-of_z w128 _ r, to_z-of_z w128 _ h, c.state_rest-state_rest.ensures, high) room.high

pub returns : goal.returns
returns c =
    let d = design_of c.args.parts.now in
    let f = face_of (faces_of c.args.faces.now) c.args.e in
    let room = rest_room d f c.args.j c.requires.state c.requires.narrow in
    let r : FitsSigned w128 c.state_rest-state_rest.result = search rules in
    let l : FitsSigned w128 c.index.result.now = search rules in
    let low = coordinate_at c.args.parts.now.lo.items c.args.parts.now.states c.args.j c.index.result.now c.requires.design.lo.long c.requires.state c.index.ensures in
    let h : FitsSigned w128 c.index-2.result.now = search rules in
    let high = coordinate_at c.args.parts.now.hi.items c.args.parts.now.states c.args.j c.index-2.result.now c.requires.design.hi.long c.requires.state c.index-2.ensures in
    let m : FitsSigned w128 c.max.result = search rules in
    rw (to_z-of_z w128 _ m, c.max.ensures.value, to_z-of_z w128 _ r, to_z-of_z w128 _ l, to_z-of_z w128 _ h, c.state_rest-state_rest.ensures, low, high, to_z-of_z w128 _ room.low, to_z-of_z w128 _ room.high) refl
