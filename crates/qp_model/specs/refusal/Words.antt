-- The words that say a refusal.
use Rattle.std.specs.Prelude.{ℕ, List, [], ◌∷◌, codes}
use Rattle.std.specs.Fmt.{decimal, signed_decimal}
use Rattle.qp_model.specs.declared.quantity.Quantity.{Quantity}
use Rattle.qp_model.specs.declared.quantity.Quantity.TheVariants.{Prediction, CornerSlack, CornerCost, Multiplier, Hessian, Rows, Curvature as CurvatureSize, Error, Descent, Width, Turn, Excess, Stay, Settle}
use Rattle.qp_model.specs.declared.refusal.Refusal.{Refusal}
use Rattle.qp_model.specs.declared.refusal.Refusal.TheVariants.{Memory, NoMargin, Curvature, TooManySteps, TooFine, TooWide}

-- the name of a quantity
abbrev pub quantity_name : Quantity → List ℕ
quantity_name Prediction = codes "prediction"
quantity_name CornerSlack = codes "corner_slack"
quantity_name CornerCost = codes "corner_cost"
quantity_name Multiplier = codes "multiplier"
quantity_name Hessian = codes "hessian"
quantity_name Rows = codes "rows"
quantity_name CurvatureSize = codes "curvature"
quantity_name Error = codes "error"
quantity_name Descent = codes "descent"
quantity_name Width = codes "width"
quantity_name Turn = codes "turn"
quantity_name Excess = codes "excess"
quantity_name Stay = codes "stay"
quantity_name Settle = codes "settle"

-- the name of a refusal, and its numbers; a fraction is its numerator and then its denominator
abbrev pub refusal_words : Refusal → List (List ℕ)
refusal_words Memory = codes "memory" ∷ []
refusal_words (NoMargin corner row slack) = codes "no-margin" ∷ decimal corner ∷ decimal row ∷ signed_decimal slack.num ∷ signed_decimal slack.den ∷ []
refusal_words Curvature = codes "curvature" ∷ []
refusal_words (TooManySteps k) = codes "too-many-steps" ∷ signed_decimal k ∷ []
refusal_words (TooFine eps) = codes "too-fine" ∷ signed_decimal eps ∷ []
refusal_words (TooWide quantity) = codes "too-wide" ∷ quantity_name quantity ∷ []
