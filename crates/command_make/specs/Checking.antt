-- How what was made is checked, on the way.
use Rattle.std.specs.Prelude.{◌≡◌, ℕ, ◌^◌, ℤ, pos, ◌≤ℤ◌, Bool, List, length, Option}
use Rattle.integer_algebra.specs.Sums.{at}
use Rattle.mat_int.specs.Matrix.{Matrix, row_of}
use Rattle.qp_model.specs.problem.Design.{Design, rows}
use Rattle.qp_model.specs.problem.Parts.{design_of}
use Rattle.qp_model.specs.problem.Policy.{Plans}
use Rattle.qp_model.specs.declared.design_parts.DesignParts.{DesignParts}
use Rattle.stay_check.specs.FaceForms.{FaceNumbers}
use Rattle.stay_check.specs.Answers.{IsStayFault, Stays}
use Rattle.stay_check.specs.Staying.{KeepsInBox}
use Rattle.stay_check.specs.declared.fault.StayFault.{StayFault}
use Rattle.command_line.specs.declared.status.Status.{Status}
use Rattle.command_generate.specs.Engine.Targets.{targets_of}
use Rattle.command_generate.specs.Made.{AreTextsBy}
use Rattle.command_make.specs.Made.{IsMadeByPlans, IsTextBy}
use Rattle.command_make.specs.Excess.{AreStatedExcesses}
use Rattle.command_make.specs.Stay.{stay_status, KeepsLoopsOf}
use Rattle.command_make.specs.declared.texts.Priced.{Priced}

-- R and the errors of a step of what was made
pub record AreSmall (r errors : ℤ) : Type 0 where
  pub some : pos 1 ≤ℤ r
  pub narrow : r ≤ℤ pos (2 ^ 44)
  pub errors_low : pos 0 ≤ℤ errors
  pub errors_high : errors ≤ℤ pos (2 ^ 114)

-- ---- faces, where each row is exceeded by at most its number over 2^40 and the state is shifted within a range
-- they hold, so that a turn stays in the box
pub record IsKeptWith (d : Design) (excess : ℕ → ℤ) (faces : FaceNumbers) (range : Matrix) : Type 0 where
  pub stays : Stays d excess (at (row_of range 0)) (at (row_of range 1)) faces
  pub keeps : KeepsInBox d excess (at (row_of range 0)) (at (row_of range 1))

-- or they have a fault, which the status tells
pub record IsCaughtWith (d : Design) (excess : ℕ → ℤ) (faces : FaceNumbers) (range : Matrix) (s : Status) : Type 0 where
  pub fault : StayFault
  pub found : IsStayFault d excess (at (row_of range 0)) (at (row_of range 1)) faces fault
  pub is : s ≡ stay_status fault

-- ---- both texts of what was made so, with a number for each row: these are stated, and no others are, and faces that hold with them show that its loops stay
pub record IsPricedOf (p : DesignParts) (plans : Plans) (reference : Option Plans) (fast : Bool) (report_name : List ℕ) (x : Priced) : Type 0 where
  pub texts : AreTextsBy (IsTextBy fast) (λ c b. IsMadeByPlans p plans reference fast c b
      × ((faces : FaceNumbers) (range : Matrix) → IsKeptWith (design_of p) (at x.excess.items) faces range → KeepsLoopsOf p fast c b range))
      report_name x.texts.first.items x.texts.second.items
  pub long : length x.excess.items ≡ rows (design_of p)
  pub stated : AreStatedExcesses (design_of p) (targets_of p) plans reference fast x.excess.items
  pub one : (other : List ℤ) → AreStatedExcesses (design_of p) (targets_of p) plans reference fast other → other ≡ x.excess.items
