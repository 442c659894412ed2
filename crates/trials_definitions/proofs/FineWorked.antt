-- The condensed form in enclosures, tried on small designs, whose numbers were computed by another program.
use Rattle.std.proofs.Common.{◌≡◌, ℕ, ℤ, pos, negsuc, zero, suc, [], ◌∷◌, map, false, true, refl}
use Rattle.qp_model.specs.problem.Design.{Design, LimitRow}
use Rattle.frac_scaled.specs.Enclosures.{Enclosure}
use Rattle.qp_model.specs.form.FineForm.{fine_hessian, fine_linear, fine_constant, fine_by_plan, fine_by_state, fine_form, hessian_radius}
use Rattle.integer_algebra.specs.Sums.{none}
use Rattle.qp_model.specs.form.FineSizes.{is_fine, fine_reach, fine_prediction_size, fine_hessian_size, fine_rows_size, fine_curvature_size, exact_curvature_size}
use Rattle.qp_model.specs.form.CurvatureSize.{covering_exponent}
use Rattle.qp_model.specs.form.Class.{form_of, curvature_quantity}
use Rattle.qp_model.specs.bounds.Errors.{error_sums_of, epsilon}
use Rattle.trials_definitions.proofs.WorkedDesigns.{costing, asking, third, crossed}

abbrev pub around : ℤ → ℤ → Enclosure
around m r = record { mid = m; rad = r }

-- ---- the gradient: each entry of the Hessian, and by each state and alone
hessians : map (λ i. map (fine_hessian third i) (0 ∷ 1 ∷ [])) (0 ∷ 1 ∷ [])
    ≡ (around (pos 202717366039482) (pos 366) ∷ around (pos 21501560720884) (pos 238) ∷ [])
    ∷ (around (pos 21501560720884) (pos 238) ∷ around (pos 197179085247770) (pos 180) ∷ []) ∷ []
hessians = refl

linears : map (λ j. fine_linear third j 0) (0 ∷ 1 ∷ []) ≡ around (negsuc 75581243746285) (pos 548) ∷ around (negsuc 43003121441855) (pos 296) ∷ []
linears = refl

constants : map (fine_constant third) (0 ∷ 1 ∷ []) ≡ around (pos 196446077495700) (pos 1080) ∷ around (pos 109951162777500) (pos 372) ∷ []
constants = refl

-- ---- the rows: each stage's, and the final one
by_plan : map (λ i. fine_by_plan third i 0) (0 ∷ 1 ∷ 2 ∷ []) ≡ around (negsuc 3298534883327) (pos 0) ∷ around (negsuc 366503875924) (pos 1) ∷ around (negsuc 1710351420980) (pos 14) ∷ []
by_plan = refl

by_last_entry : map (λ i. fine_by_plan third i 1) (0 ∷ 2 ∷ []) ≡ around (pos 0) (pos 0) ∷ around (negsuc 2565527131474) (pos 7) ∷ []
by_last_entry = refl

by_state : map (λ i. fine_by_state third i 0) (0 ∷ 1 ∷ 2 ∷ []) ≡ around (pos 1099511627776) (pos 0) ∷ around (pos 733007751851) (pos 1) ∷ around (pos 3420702841969) (pos 14) ∷ []
by_state = refl

last_bound : (fine_form third).numbers.bound 2 ≡ pos 2199023255552
last_bound = refl

-- ---- the form
scale : (fine_form third).hessian_scale ≡ 54975581388800
scale = refl

radius : (fine_form third).constant_radius 0 ≡ 1080
radius = refl

widest : hessian_radius third ≡ 604
widest = refl

floor : (fine_form third).floor ≡ pos 659706976663184
floor = refl

-- ---- the quantities
reach : fine_reach third 2 ≡ 1099511627782
reach = refl

prediction : fine_prediction_size third ≡ 3298534883346
prediction = refl

hessian : fine_hessian_size third ≡ 67873931217184512154663835456
hessian = refl

rows : fine_rows_size third ≡ 1175075896678244261440817328
rows = refl

covering : covering_exponent third (fine_form third) ≡ 1
covering = refl

curvature : fine_curvature_size third ≡ 2028827651687440642
curvature = refl

exact_curvature : exact_curvature_size third ≡ 149461848
exact_curvature = refl

class : is_fine third ≡ false
class = refl

-- ---- two states and two inputs
hessian_across : fine_hessian crossed 1 2 ≡ around (pos 166148423753170) (pos 1210)
hessian_across = refl

hessian_second : fine_hessian crossed 3 3 ≡ around (pos 641381782869526) (pos 584)
hessian_second = refl

linear_across : fine_linear crossed 2 1 ≡ around (pos 129009364325922) (pos 1004)
linear_across = refl

constant_across : fine_constant crossed 1 ≡ around (pos 102621085259112) (pos 732)
constant_across = refl

row_across : fine_by_plan crossed 1 1 ≡ around (negsuc 3665038759253) (pos 2)
row_across = refl

row_inside : fine_by_plan crossed 1 3 ≡ around (pos 8796093022208) (pos 0)
row_inside = refl

state_across : fine_by_state crossed 1 1 ≡ around (negsuc 2565527131476) (pos 3)
state_across = refl

crossed_widest : hessian_radius crossed ≡ 8178
crossed_widest = refl

crossed_floor : (fine_form crossed).floor ≡ pos 439804651077688
crossed_floor = refl

crossed_curvature : fine_curvature_size crossed ≡ 13614437949588862459912
crossed_curvature = refl

-- ---- a design whose exact numbers are too long, where 1048576 is written over itself
abbrev long : Design
long = record third {
  plant_denominator = 1048576;
  plant_a = λ i j. pos 1048576;
  plant_b = λ i l. pos 1048576;
  cost_denominator = 1;
  row_denominator = 1;
  input_weight = λ l. pos 1;
  stage_cost = λ r. costing (λ j. pos 1) (pos 0) (pos 1);
  final_costs = 0;
  limit_denominator = 131072;
  stage_limits = 2;
  stage_limit = inputs_of;
  final_limit = λ r. asking (λ j. pos 131072) none (pos 32768);
}
  where
    inputs_of : ℕ → LimitRow
    inputs_of zero = asking none (λ l. pos 131072) (pos 131072)
    inputs_of (suc r) = asking none (λ l. negsuc 131071) (pos 131072)

long_curvature : exact_curvature_size long ≡ 239261039241284857122685270850462023680
long_curvature = refl

long_class : is_fine long ≡ true
long_class = refl

long_hessian : fine_hessian long 0 0 ≡ around (pos 6597069766656) (pos 0)
long_hessian = refl

long_hessian_size : fine_hessian_size long ≡ 1547425049113058530599901520
long_hessian_size = refl

long_rows_size : fine_rows_size long ≡ 26584559915807120781841569156882759680
long_rows_size = refl

long_fine_curvature : fine_curvature_size long ≡ 217606647531525092816191598
long_fine_curvature = refl

long_quantity : curvature_quantity long ≡ 217606647531525092816191598
long_quantity = refl

long_errors : epsilon (error_sums_of long (form_of long) 8) 14 ≡ 574834507776
long_errors = refl

third_quantity : curvature_quantity third ≡ 149461848
third_quantity = refl
