use Rattle.std.proofs.Common.{[], ◌∷◌, length}
use Rattle.std.proofs.lemmas.Result.{err_from_is_err_and}
use Rattle.design_files.specs.Keys.{found}
use Rattle.qp_model.specs.problem.PartRules.{AreHighs}
use Rattle.qp_model.specs.problem.Rules.{shape, range}
use Rattle.design_files.specs.Numbers.{IsIntegerList, list_of}
use Rattle.design_files.proofs.ReadLaws.{fails_before}
use Rattle.design_files.proofs.PartLaws.{fails_range}
use Rattle.design_files.proofs.places.read_high.Goals as goal

pub returns-in_err-high : goal.returns-in_err-high
returns-in_err-high c =
    let seen = found c.args.keys.now 18 in
    let low = c.args.low.now in
    let e = err_from_is_err_and c.from_residual.result c.from_residual.ensures.1 in
    rw (e.1, e.2) (fails_before (shape 18 (IsIntegerList (length low) seen) ∷ []) (range 18 (AreHighs (list_of seen) low (length low)) ∷ []) _ c.in_err-high.ensures)

pub returns-in_err-in_range : goal.returns-in_err-in_range
returns-in_err-in_range c =
    let seen = found c.args.keys.now 18 in
    let low = c.args.low.now in
    let e = err_from_is_err_and c.from_residual-in_err-in_range.result c.from_residual-in_err-in_range.ensures.1 in
    let known = c.in_ok-high.ensures in
    let failed = c.in_err-in_range.ensures.err in
    rw (e.1, e.2) (fails_range (shape 18 (IsIntegerList (length low) seen)) (range 18 (AreHighs (list_of seen) low (length low))) _ known.0.0
    (failed.0, λ all. failed.1 (c.are_highs.ensures.1 (rw c.deref.ensures.value (rw known.1 at all)))))

pub returns : goal.returns
returns c =
    let known = c.in_ok-high.ensures in
    let highs = (rw c.deref.ensures.value at c.are_highs.ensures.0 c.in_ok-in_range.ensures.ok) in
    ((known.0.0, (rw known.1 highs, tt)), (record { numbers = known.1; fits = record { long = rw known.1 at known.0.0; numbers = highs.numbers } }, highs.box))
