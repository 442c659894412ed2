-- What is shown of the corners is no more than they truly have, in either class.
use Rattle.std.proofs.Common.{ℕ, Bool, true, false}
use Rattle.qp_model.specs.problem.Design.{Design}
use Rattle.qp_model.specs.problem.Sound.{IsSound}
use Rattle.qp_model.specs.problem.Policy.{Plans, IsPolicyFor}
use Rattle.qp_model.specs.bounds.Margin.{BoundsCorners}
use Rattle.qp_model.specs.bounds.CornerClass.{has_fine_corners, shown_in, ShownLaw}
use Rattle.corner_margin.proofs.CornerLaws.{fine_corners_law}

of_class : (fine : Bool) (d : Design) (rho : ℕ) (p : Plans) → IsSound d rho → IsPolicyFor d p → BoundsCorners d p (shown_in fine d p)
of_class true d rho p h k = fine_corners_law d rho p h k
of_class false d rho p h k = record { slacks = λ units c i first last inside has. has; costs = λ most c first last has. has }

pub shown_law : ShownLaw
shown_law d rho p h k = of_class (has_fine_corners d p) d rho p h k
