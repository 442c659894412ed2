use Rattle.std.proofs.Common.{rules, unsigned_abs, ap, FitsSigned, ◌∙◌}
use Rattle.std.specs.Int.{w128}
use Rattle.std.proofs.lemmas.Int.{to_z-of_z}
use Rattle.scaled_condense.proofs.RowSums.{row_sum_is, row_sum_fits}
use Rattle.scaled_condense.proofs.fine.row_radius.Goals as goal

pub unreachable-requires : goal.unreachable-requires
unreachable-requires c = c.in_default.ensures (row_sum_fits c.args.parts.now c.args.hess.now.mid c.args.hess.now.rad c.requires.hessian c.args.i c.requires.row)

pub returns : goal.returns
returns c =
    let f : FitsSigned w128 c.in-Some.sum = search rules in
    c.unsigned_abs.ensures.value ∙ ap unsigned_abs (to_z-of_z w128 _ f ∙ c.in-Some.ensures.1) ∙
    row_sum_is c.args.parts.now c.args.hess.now.mid c.args.hess.now.rad c.requires.hessian c.args.i c.requires.row
