-- A worked loop that begins where limits bind: that of `settle_check`, from the whole box -40 .. 40, where a policy costs 12800 / 2^16 more than the best plan
-- without limits and the gap is 9665773568 / 2^40.
use Rattle.std.specs.Prelude.{◌≡◌, ℕ, ◌+◌, ◌*◌, ◌^◌, pos, negsuc}
use Rattle.qp_model.specs.form.Form.{exact_form}
use Rattle.qp_model.specs.bounds.Errors.{StepErrors}
use Rattle.settle_check.specs.Still.{Box}
use Rattle.settle_check.specs.Worked.{worked_plant, worked_controller, worked_box}
use Rattle.near_check.specs.Distance.{descent}
use Rattle.near_check.specs.Near.{first_slope}
use Rattle.near_check.specs.FarTube.{FirstTurns, far_tube}

abbrev pub worked_errors : StepErrors
worked_errors = record { plan = 1; gradient = λ j. 4 }

abbrev pub worked_slope : ℕ → ℕ
worked_slope = first_slope worked_plant (exact_form worked_plant) 1 11 worked_errors

-- 0.453
abbrev pub worked_turns : FirstTurns
worked_turns = record { outer = worked_box (negsuc 39) (pos 40); distance = λ l. 474750; count = 1 }

-- one turn from the whole box, and then where no multiplier moves: -31 .. 32
abbrev pub worked_tube : ℕ → Box
worked_tube =
    far_tube worked_plant worked_controller (worked_box (negsuc 30) (pos 32)) (worked_box (pos 0) (pos 0)) (worked_box (negsuc 39) (pos 40)) worked_turns

-- The distance is the least that is far enough: its square is no less than what is asked of it, and that of the number before it is. With it the loop lies
-- where no multiplier moves from turn 1 on, and within 2 from turn 5 on.
pub record WorkedFar : Type 0 where
  pub slope : worked_slope 0 ≡ 2048
  pub descent_is : descent worked_plant worked_slope ≡ 1048576
  pub more : 9665773568 + 2 ^ 24 * 12800 ≡ 224414138368
  pub asked : worked_slope 0 * 474750 + 224414138368 + descent worked_plant worked_slope + 87556 ≡ 474750 ^ 2
  pub asked_before : worked_slope 0 * 474749 + 224414138368 + descent worked_plant worked_slope ≡ 474749 ^ 2 + 859895
  pub turn_1 : ((worked_tube 1).low 0 ≡ negsuc 26) × ((worked_tube 1).high 0 ≡ pos 27)
  pub turn_2 : ((worked_tube 2).low 0 ≡ negsuc 13) × ((worked_tube 2).high 0 ≡ pos 14)
  pub turn_3 : ((worked_tube 3).low 0 ≡ negsuc 6) × ((worked_tube 3).high 0 ≡ pos 7)
  pub turn_4 : ((worked_tube 4).low 0 ≡ negsuc 3) × ((worked_tube 4).high 0 ≡ pos 4)
  pub turn_5 : ((worked_tube 5).low 0 ≡ negsuc 1) × ((worked_tube 5).high 0 ≡ pos 2)
