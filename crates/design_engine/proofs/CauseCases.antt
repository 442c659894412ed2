-- What holds of each quantity that a test of the corners or of the form can name holds of all that it names.
use Rattle.std.proofs.Common.{◌≡◌, inl, inr, ◌↔◌, ℕ, Result, Err}
use Rattle.frac_scaled.specs.declared.fraction.Frac.{Frac}
use Rattle.qp_model.specs.problem.Design.{Design}
use Rattle.qp_model.specs.problem.Policy.{Plans}
use Rattle.qp_model.specs.declared.bounds.Margin.{Margin}
use Rattle.qp_model.specs.declared.quantity.Quantity.{Quantity}
use Rattle.qp_model.specs.declared.quantity.Quantity.TheVariants.{Prediction, CornerSlack, CornerCost, Multiplier, Hessian, Rows, Curvature, Error, Descent, Width, Turn, Excess, Stay, Settle}
use Rattle.condensed_form.specs.Fault.{IsFirstWideForm}
use Rattle.corner_margin.specs.Corners.{HasCornerRoom, IsFirstShort, IsFirstWideCorner}
use Rattle.corner_margin.specs.Refusing.{of_margin}
use Rattle.corner_margin.specs.declared.fault.MarginFault.{MarginFault}
use Rattle.corner_margin.specs.declared.fault.MarginFault.TheVariants.{Memory as margin_memory, TooWide as margin_wide, NoMargin as margin_none}
use Rattle.design_engine.specs.Tests.{IsRefusedFor}
use Rattle.qp_model.specs.declared.refusal.Refusal.{Refusal}
use Rattle.qp_model.specs.declared.refusal.Refusal.TheVariants.{NoMargin, TooWide}

-- ---- the quantities of the corners, and of the form
module _ (d : Design) (P : Quantity → Type 0) where
  pub wide_corner : (plans : Plans) → (IsFirstWideCorner d plans Prediction → P Prediction) → (IsFirstWideCorner d plans CornerSlack → P CornerSlack) →
      (IsFirstWideCorner d plans CornerCost → P CornerCost) → (quantity : Quantity) → IsFirstWideCorner d plans quantity → P quantity
  wide_corner plans prediction slack cost Prediction h = prediction h
  wide_corner plans prediction slack cost CornerSlack h = slack h
  wide_corner plans prediction slack cost CornerCost h = cost h
  wide_corner plans prediction slack cost Multiplier h = absurd h
  wide_corner plans prediction slack cost Hessian h = absurd h
  wide_corner plans prediction slack cost Rows h = absurd h
  wide_corner plans prediction slack cost Curvature h = absurd h
  wide_corner plans prediction slack cost Error h = absurd h
  wide_corner plans prediction slack cost Descent h = absurd h
  wide_corner plans prediction slack cost Width h = absurd h
  wide_corner plans prediction slack cost Turn h = absurd h
  wide_corner plans prediction slack cost Excess h = absurd h
  wide_corner plans prediction slack cost Stay h = absurd h
  wide_corner plans prediction slack cost Settle h = absurd h

  pub wide_form : (IsFirstWideForm d Prediction → P Prediction) → (IsFirstWideForm d Hessian → P Hessian) → (IsFirstWideForm d Rows → P Rows) →
      (quantity : Quantity) → IsFirstWideForm d quantity → P quantity
  wide_form prediction hessian rows Prediction h = prediction h
  wide_form prediction hessian rows Hessian h = hessian h
  wide_form prediction hessian rows Rows h = rows h
  wide_form prediction hessian rows CornerSlack h = absurd h
  wide_form prediction hessian rows CornerCost h = absurd h
  wide_form prediction hessian rows Multiplier h = absurd h
  wide_form prediction hessian rows Curvature h = absurd h
  wide_form prediction hessian rows Error h = absurd h
  wide_form prediction hessian rows Descent h = absurd h
  wide_form prediction hessian rows Width h = absurd h
  wide_form prediction hessian rows Turn h = absurd h
  wide_form prediction hessian rows Excess h = absurd h
  wide_form prediction hessian rows Stay h = absurd h
  wide_form prediction hessian rows Settle h = absurd h

-- ---- a refusal by the corners
pub margin_cases : (d : Design) (Cause : Refusal → Type 0) (plans : Plans) → ((quantity : Quantity) → IsFirstWideCorner d plans quantity → Cause (TooWide quantity)) →
    ((corner row : ℕ) (slack : Frac) → HasCornerRoom d plans × IsFirstShort d plans corner row slack → Cause (NoMargin corner row slack)) →
    (r : Result Margin MarginFault) (fault : MarginFault) → r ≡ Err fault → ((quantity : Quantity) → (r ≡ Err (margin_wide quantity)) ↔ IsFirstWideCorner d plans quantity) →
    ((corner row : ℕ) (slack : Frac) → r ≡ Err (margin_none corner row slack) → HasCornerRoom d plans × IsFirstShort d plans corner row slack) →
    (e : Refusal) → e ≡ of_margin fault → IsRefusedFor Cause e
margin_cases d Cause plans of_wide of_short r margin_memory is wide short e f = inl f
margin_cases d Cause plans of_wide of_short r (margin_wide quantity) is wide short e f = rw f (inr (of_wide quantity ((wide quantity).0 is)))
margin_cases d Cause plans of_wide of_short r (margin_none corner row slack) is wide short e f = rw f (inr (of_short corner row slack (short corner row slack is)))

-- a cause, by another
pub refused_map : (p q : Refusal → Type 0) → ((e : Refusal) → p e → q e) → (e : Refusal) → IsRefusedFor p e → IsRefusedFor q e
refused_map p q f e (inl memory) = inl memory
refused_map p q f e (inr h) = inr (f e h)
