use Rattle.std.proofs.Common.{◌<◌, arith, rules, refl, FitsSigned, add-one}
use Rattle.std.specs.Int.{w128}
use Rattle.std.proofs.lemmas.Int.{to_z-of_z}
use Rattle.integer_algebra.specs.Sums.{at}
use Rattle.integer_algebra.proofs.SizeLaws.{product_room, dot_room}
use Rattle.qp_model.specs.problem.Parts.{design_of}
use Rattle.closed_loop.proofs.Reaches.{inputs_room}
use Rattle.closed_loop.proofs.successor.input_sum.Goals as goal

pub overflow_mul-sum : goal.overflow_mul-sum
overflow_mul-sum g c =
    let d = design_of c.args.design.now in
    let a = g.M.ControlMachine.looping c.args.machine.now in
    let xi = c.args.state.now in
    let b : FitsSigned w128 c.at.result = search rules in
    let s : FitsSigned w128 c.first_input.result = search rules in
    let lt : c.loop-l.l < d.inputs = omega arith in
    rw (to_z-of_z w128 _ b, to_z-of_z w128 _ s, c.at.ensures, c.first_input.ensures xi c.requires.state)
    (product_room d.inputs (d.plant_b c.args.i) (at (a.plan xi)) c.loop-l.l lt
    (inputs_room d a xi c.args.i c.requires.matched c.requires.sound c.requires.inside c.requires.narrow c.requires.in_range))

pub overflow_add-sum : goal.overflow_add-sum
overflow_add-sum g c =
    let d = design_of c.args.design.now in
    let a = g.M.ControlMachine.looping c.args.machine.now in
    let xi = c.args.state.now in
    let b : FitsSigned w128 c.at.result = search rules in
    let s : FitsSigned w128 c.first_input.result = search rules in
    let lt : c.loop-l.l < d.inputs = omega arith in
    let room = inputs_room d a xi c.args.i c.requires.matched c.requires.sound c.requires.inside c.requires.narrow c.requires.in_range in
    rw (
      to_z-of_z w128 _ b,
      to_z-of_z w128 _ s,
      c.at.ensures,
      c.first_input.ensures xi c.requires.state,
      to_z-of_z w128 _ (product_room d.inputs (d.plant_b c.args.i) (at (a.plan xi)) c.loop-l.l lt room),
      c.loop-l.invariant.sum,
    )
    (dot_room d.inputs (d.plant_b c.args.i) (at (a.plan xi)) c.loop-l.l lt room)

pub loop-l-preserved : goal.loop-l-preserved
loop-l-preserved g c =
    let d = design_of c.args.design.now in
    let a = g.M.ControlMachine.looping c.args.machine.now in
    let xi = c.args.state.now in
    let b : FitsSigned w128 c.at.result = search rules in
    let s : FitsSigned w128 c.first_input.result = search rules in
    let lt : c.loop-l.l < d.inputs = omega arith in
    let room = inputs_room d a xi c.args.i c.requires.matched c.requires.sound c.requires.inside c.requires.narrow c.requires.in_range in
    let product = product_room d.inputs (d.plant_b c.args.i) (at (a.plan xi)) c.loop-l.l lt room in
    let sum = dot_room d.inputs (d.plant_b c.args.i) (at (a.plan xi)) c.loop-l.l lt room in
    record {
      end = c.loop-l.invariant.end;
      sum = rw (to_z-of_z w128 _ b, to_z-of_z w128 _ s, c.at.ensures, c.first_input.ensures xi c.requires.state, to_z-of_z w128 _ product, c.loop-l.invariant.sum, to_z-of_z w128 _ sum, add-one) refl;
    }
