use Rattle.std.proofs.Common.{◌-◌, ◌^◌, ◌∙◌, ap, arith}
use Rattle.std.specs.Int.{w128}
use Rattle.std.proofs.lemmas.Int.{to_z-of_z}
use Rattle.std.proofs.lemmas.Nat.{pow_pos}
use Rattle.integer_algebra.specs.Division.{floor_of, round_of}
use Rattle.frac_scaled.proofs.Rounding.{half_up, floor_fits, half_up_fits, twice_pow}
use Rattle.frac_scaled.proofs.round_shift.Goals as goal

pub returns : goal.returns
returns c =
    let v = c.args.v in
    let e = 2 ^ (c.args.k - 1) in
    let half = floor_fits v e c.ranges.v in
    let quarter = floor_fits (floor_of v e) 2 half in
    let all = half_up_fits (floor_of v e) half in
    rw (to_z-of_z w128 v c.ranges.v, to_z-of_z w128 (floor_of v e) half, to_z-of_z w128 (floor_of (floor_of v e) 2) quarter, to_z-of_z w128 _ all)
    (half_up v e (pow_pos (c.args.k - 1)) ∙ ap (round_of v) (twice_pow c.args.k (omega arith)))
