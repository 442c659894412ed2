-- The choices and the bounds of lean controllers, tried on three small designs whose numbers were computed by another program.
use Rattle.std.proofs.Common.{◌≡◌, ◌^◌, ◌*◌, refl}
use Rattle.qp_model.specs.bounds.Choices.{lean_multiplier, lean_multiplier_size, lean_row_violation, step_count, undercut_bound}

-- ---- the worked design, with the target 16: the slack is 1/8 and the excess 9/32
wide_multiplier : lean_multiplier 8192 18432 1048576 ≡ 1
wide_multiplier = refl

wide_size : lean_multiplier_size 8192 18432 1048576 ≡ 2 ^ 82
wide_size = refl

wide_steps : step_count 1 1 16492674416640 ≡ 1
wide_steps = refl

wide_violation : lean_row_violation 1 1 1 311385128960 17592186044416 ≡ 11150808842240
wide_violation = refl

wide_undercut : undercut_bound 1 17592186044416 ≡ 17592186044416
wide_undercut = refl

-- ---- and with the target 1/10
narrow_multiplier : lean_multiplier 8192 18432 6553 ≡ 2
narrow_multiplier = refl

narrow_size : lean_multiplier_size 8192 18432 6553 ≡ 2 ^ 82 * 2
narrow_size = refl

narrow_steps : step_count 1 2 103079215104 ≡ 86
narrow_steps = refl

narrow_violation : lean_row_violation 1 2 86 6442582016 109951162777 ≡ 107726302604
narrow_violation = refl

narrow_undercut : undercut_bound 2 109951162777 ≡ 219902325554
narrow_undercut = refl

-- ---- an input whose best plan without limits breaks its row by 3.9, where the target is 16: half of the target enters the violation
loose_multiplier : lean_multiplier 655 1001921 1048576 ≡ 1
loose_multiplier = refl

loose_steps : step_count 0 1 16492674416640 ≡ 1
loose_steps = refl

loose_violation : lean_row_violation 0 1 1 584115552256 17592186044416 ≡ 10187662426112
loose_violation = refl

-- ---- a target that steps and errors would pass but for the least
least_violation : lean_row_violation 1 1 1 1 10 ≡ 10
least_violation = refl
