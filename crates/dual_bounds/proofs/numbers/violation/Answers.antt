use Rattle.std.proofs.Common.{rules, ◌∙◌, ap, pos, ℕ, unsigned_abs, FitsSigned}
use Rattle.std.specs.Int.{w128}
use Rattle.std.proofs.lemmas.Int.{to_z-of_z}
use Rattle.dual_bounds.proofs.RowBounds.{greatest_row}
use Rattle.dual_bounds.proofs.numbers.violation.Goals as goal

pub returns : goal.returns
returns c =
    let f : FitsSigned w128 c.row_violation.result = search rules in
    to_z-of_z w128 _ f ∙ rw (to_z-of_z w128 _ c.ranges.r, to_z-of_z w128 _ c.ranges.eps) at c.row_violation.ensures
    ∙ ap (λ (n : ℕ). pos n) (greatest_row c.args.s (unsigned_abs c.args.r) c.args.k (unsigned_abs c.args.eps))
