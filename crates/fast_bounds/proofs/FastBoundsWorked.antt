-- Bounds of controllers that were reckoned by hand.
use Rattle.std.proofs.Common.{◌≡◌, ◌+◌, ◌^◌, pos, [], ◌∷◌, refl}
use Rattle.qp_model.specs.bounds.Choices.{row_violation_bound, violation_bound, undercut_bound, lean_row_violation}
use Rattle.step_error.specs.CarriedErrors.{carry_of}
use Rattle.dual_bounds.specs.FastSteps.{quarter_steps}
use Rattle.fast_bounds.specs.FastMargin.{fast_margin_size}

-- ---- how often an error of the gradient counts
carries : carry_of 1 ∷ carry_of 3 ∷ carry_of 5 ∷ carry_of 17 ∷ carry_of 18 ∷ carry_of 50 ∷ [] ≡ 1 ∷ 2 ∷ 3 ∷ 7 ∷ 7 ∷ 18 ∷ []
carries = refl

-- ---- violations of rows with the step exponents 0 and 1
-- one step, R 1, the target 16
one_step : lean_row_violation 2 1 (quarter_steps 1) 314069483520 (2 ^ 44) ∷ lean_row_violation 3 1 (quarter_steps 1) 314069483520 (2 ^ 44) ∷ [] ≡ 10052639391744 ∷ 11152151019520 ∷ []
one_step = refl

-- three steps, R 1, the target 1
three_steps : lean_row_violation 2 1 (quarter_steps 3) 38805700608 (2 ^ 40) ∷ lean_row_violation 3 1 (quarter_steps 3) 38805700608 (2 ^ 40) ∷ [] ≡ 813494581476 ∷ 1057830498760 ∷ []
three_steps = refl

-- 18 steps, R 2, the target 1/10
eighteen_steps : lean_row_violation 2 2 (quarter_steps 18) 6444515328 109951162777 ∷ lean_row_violation 3 2 (quarter_steps 18) 6444515328 109951162777 ∷ [] ≡ 79856797582 ∷ 103126884942 ∷ []
eighteen_steps = refl

-- with no threshold: three steps, R 8
without_threshold : row_violation_bound 2 3 8 (quarter_steps 3) 438124412928 ∷ violation_bound 3 8 (quarter_steps 3) 438124412928 ∷ [] ≡ 5918827566422 ∷ 7873514904690 ∷ []
without_threshold = refl

undercut_without : undercut_bound 8 (violation_bound 3 8 (quarter_steps 3) 438124412928) ≡ 62988119237520
undercut_without = refl

-- ---- R of a margin, at the limit and above: a least slack of 1, and greatest costs of 2^42 and 1 more
sizes : fast_margin_size (record { units = pos 65536; cost = pos 4398046511104 }) ∷ fast_margin_size (record { units = pos 65536; cost = pos 4398046511105 }) ∷ []
    ≡ (2 ^ 126) ∷ (2 ^ 126 + 2 ^ 84) ∷ []
sizes = refl
