use Rattle.std.proofs.Common.{rules, refl, FitsSigned, length, ◌∙◌}
use Rattle.std.specs.Int.{w128}
use Rattle.std.proofs.lemmas.Int.{to_z-of_z}
use Rattle.mat_int.proofs.Indices.{dot_is}
use Rattle.approx_inverse.proofs.start.rest_entry.Goals as goal

pub returns : goal.returns
returns c =
    let z : FitsSigned w128 c.in_ok-try_dot.field-0 = search rules in
    rw (← (c.in_ok-try_dot.ensures.1 ∙ dot_is (length c.args.x.now) c.args.row.now c.args.x.now c.requires.len refl))
    (rw (to_z-of_z w128 _ z, to_z-of_z w128 _ c.ranges.v) at c.less_aim.ensures)
