use Rattle.std.proofs.Common.{◌+◌}
use Rattle.std.proofs.lemmas.Result.{err_from_is_err_and}
use Rattle.design_files.specs.Keys.{found}
use Rattle.qp_model.specs.problem.PartRules.{AreLimits}
use Rattle.qp_model.specs.problem.Rules.{shape, range}
use Rattle.design_files.specs.Numbers.{IsLists, lists_of}
use Rattle.design_files.proofs.PartLaws.{fails_range}
use Rattle.design_files.proofs.places.read_final_rows.Goals as goal

pub returns-in_err-in_range : goal.returns-in_err-in_range
returns-in_err-in_range c =
    let seen = found c.args.keys.now 15 in
    let e = err_from_is_err_and c.from_residual-in_err-in_range.result c.from_residual-in_err-in_range.ensures.1 in
    let known = c.in_ok-m.ensures in
    let failed = c.in_err-in_range.ensures.err in
    rw (e.1, e.2) (fails_range (shape 15 (IsLists 0 12 (c.args.n + 1) seen)) (range 15 (AreLimits (lists_of seen) c.args.others.now.rows)) _ known.0.0
    (failed.0, λ all. failed.1 (c.are_limits.ensures.1 (rw known.1.1.rows at all))))
