-- A list of tests, one after the other, each of which tells a refusal where it fails: so the first that fails tells it.
use Rattle.std.specs.Prelude.{◌≡◌, ◌⊎◌, ℕ, ◌^◌, ◌<◌, ◌≤◌, pos, ◌≤ℤ◌}
use Rattle.frac_scaled.specs.declared.fraction.Frac.{Frac}
use Rattle.qp_model.specs.form.Class.{prediction_quantity, hessian_quantity, rows_quantity, curvature_quantity}
use Rattle.qp_model.specs.problem.Design.{Design}
use Rattle.qp_model.specs.problem.Policy.{Plans}
use Rattle.qp_model.specs.bounds.CornerClass.{IsMargin, corner_prediction_quantity, corner_slack_quantity, corner_cost_quantity}
use Rattle.qp_model.specs.declared.bounds.Margin.{Margin}
use Rattle.qp_model.specs.declared.quantity.Quantity.{Quantity}
use Rattle.qp_model.specs.declared.quantity.Quantity.TheVariants.{Prediction, CornerSlack, CornerCost, Hessian, Rows, Curvature as curvature_named}
use Rattle.corner_margin.specs.Corners.{IsFirstShort}
use Rattle.hessian_check.specs.Steps.{IsExponentOf, HasNoStep}
use Rattle.qp_model.specs.declared.refusal.Refusal.{Refusal}
use Rattle.qp_model.specs.declared.refusal.Refusal.TheVariants.{NoMargin, Curvature, TooWide}

-- no test
abbrev pub Nothing : Refusal → Type 0
Nothing e = ⊥

-- a test, and more where it is passed
abbrev pub Next : (told : Refusal → Type 0) (test : Type 0) (more : Refusal → Type 0) → Refusal → Type 0
Next told test more e = told e ⊎ (test × more e)

-- a quantity that must not pass 2^126, and more
abbrev pub IsPast : Quantity → ℕ → Refusal → Type 0
IsPast quantity size e = (e ≡ TooWide quantity) × (2 ^ 126 < size)

abbrev pub Sized : Quantity → ℕ → (more : Refusal → Type 0) → Refusal → Type 0
Sized quantity size more = Next (IsPast quantity size) (size ≤ 2 ^ 126) more

-- a number that is looked for, and more with it where there is one
abbrev pub Finds : (A : Type 0) (told : Refusal → Type 0) (is : A → Type 0) (more : A → Refusal → Type 0) → Refusal → Type 0
Finds A told is more e = told e ⊎ ((a : A) × is a × more a e)

-- ---- a form, and then what is tested with the step exponent
abbrev pub IsFlat : Design → Refusal → Type 0
IsFlat d e = (e ≡ Curvature) × HasNoStep d

abbrev pub OfForm : Design → (after : ℕ → Refusal → Type 0) → Refusal → Type 0
OfForm d after = Sized Prediction (prediction_quantity d) (Sized Hessian (hessian_quantity d) (Sized Rows (rows_quantity d)
    (Sized curvature_named (curvature_quantity d) (Finds ℕ (IsFlat d) (IsExponentOf d) after))))

-- ---- the corners, and then what is tested with the margin
abbrev pub IsShort : Design → Plans → Refusal → Type 0
IsShort d plans e = (corner : ℕ) × (row : ℕ) × (slack : Frac) × (e ≡ NoMargin corner row slack) × IsFirstShort d plans corner row slack

abbrev pub IsWideMargin : Design → Plans → Margin → Type 0
IsWideMargin d plans m = IsMargin d plans m × (pos 1 ≤ℤ m.units)

abbrev pub OfCorners : Design → Plans → (after : Margin → Refusal → Type 0) → Refusal → Type 0
OfCorners d plans after = Sized Prediction (corner_prediction_quantity d plans) (Sized CornerSlack (corner_slack_quantity d plans)
    (Sized CornerCost (corner_cost_quantity d plans) (Finds Margin (IsShort d plans) (IsWideMargin d plans) after)))
