use Rattle.std.proofs.Common.{rules, FitsSigned}
use Rattle.std.specs.Int.{w128}
use Rattle.std.proofs.lemmas.Int.{to_z-of_z}
use Rattle.closed_loop.proofs.Reaches.{scale_small}
use Rattle.closed_loop.proofs.size.grid_scale.Goals as goal

pub returns-clause-small : goal.returns-clause-small
returns-clause-small g c =
    let weight : FitsSigned w128 c.weight.result = search rules in
    let whole : FitsSigned w128 c.scaled.result = search rules in
    rw (to_z-of_z w128 _ whole, c.scaled.ensures, to_z-of_z w128 _ weight, c.weight.ensures.value) (rw (← c.parts-c.ensures.value) at (scale_small (g.M.ControlMachine.looping c.args.machine.now) c.weight.ensures.sound))

pub returns-clause-inside : goal.returns-clause-inside
returns-clause-inside g c = c.parts-c.ensures.inside
