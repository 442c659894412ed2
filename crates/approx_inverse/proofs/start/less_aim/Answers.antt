use Rattle.std.proofs.Common.{rules, arith, ◌^◌, ℤ, pos, ◌-ℤ◌, FitsSigned, ap}
use Rattle.std.specs.Int.{w128}
use Rattle.std.proofs.lemmas.Int.{to_z-of_z}
use Rattle.std.proofs.Math.IntN.{*ℤ_comm}
use Rattle.approx_inverse.proofs.StartLaws.{some_is}
use Rattle.approx_inverse.proofs.start.less_aim.Goals as goal

pub shift_left-requires : goal.shift_left-requires
shift_left-requires c = omega (arith, c.requires)

pub returns-in_err-shift_left : goal.returns-in_err-shift_left
returns-in_err-shift_left c = rw c.from_residual.ensures tt

pub returns : goal.returns
returns c =
    let s : FitsSigned w128 c.in_ok-shift_left.field-0 = search rules in
    some_is _ _ _ _ (rw (to_z-of_z w128 _ s, to_z-of_z w128 _ c.ranges.old, c.in_ok-shift_left.ensures.1, to_z-of_z w128 _ c.ranges.v) at c.checked_sub.ensures)
    (ap (λ (z : ℤ). c.args.old -ℤ z) (*ℤ_comm c.args.v (pos (2 ^ c.args.f))))
