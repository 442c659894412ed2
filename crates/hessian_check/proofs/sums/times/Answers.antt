use Rattle.std.proofs.Common.{FitsSigned, rules}
use Rattle.std.specs.Int.{w128}
use Rattle.enclosure.proofs.RoomLaws.{same_pair}
use Rattle.hessian_check.proofs.RowSumLaws.{times_mid, times_nonneg, times_rad}
use Rattle.hessian_check.proofs.sums.times.Goals as goal

pub overflow_mul-result : goal.overflow_mul-result
overflow_mul-result c =
    let mid : FitsSigned w128 c.args.a.mid = search rules in
    let rad : FitsSigned w128 c.args.a.rad = search rules in
    (times_mid c.args.count c.args.a c.ranges.count.fits mid rad c.requires).0

pub overflow_mul-result-2 : goal.overflow_mul-result-2
overflow_mul-result-2 c =
    let mid : FitsSigned w128 c.args.a.mid = search rules in
    let rad : FitsSigned w128 c.args.a.rad = search rules in
    (times_rad c.args.count c.args.a c.ranges.count.fits mid rad c.requires).0

pub invariant_of-result : goal.invariant_of-result
invariant_of-result c =
    let mid : FitsSigned w128 c.args.a.mid = search rules in
    let rad : FitsSigned w128 c.args.a.rad = search rules in
    record { nonnegative = times_nonneg c.args.count c.args.a c.ranges.count.fits mid rad c.requires }

pub returns : goal.returns
returns c =
    let mid : FitsSigned w128 c.args.a.mid = search rules in
    let rad : FitsSigned w128 c.args.a.rad = search rules in
    same_pair (times_mid c.args.count c.args.a c.ranges.count.fits mid rad c.requires).1 (times_rad c.args.count c.args.a c.ranges.count.fits mid rad c.requires).1
