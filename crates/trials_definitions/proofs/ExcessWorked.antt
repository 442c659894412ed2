-- The excess of a policy, tried on one small design whose numbers were computed by another program: at the state 1 the plan -7/8 costs 50/64, and the
-- best without limits, -1/2, costs 32/64.
use Rattle.std.proofs.Common.{◌≡◌, ℤ, pos, negsuc, [], ◌∷◌, refl}
use Rattle.qp_model.specs.problem.Policy.{Plans}
use Rattle.qp_model.specs.form.Form.{exact_form}
use Rattle.qp_model.specs.bounds.Excess.{corner_excess, excess_of, excess_size}
use Rattle.qp_model.specs.form.FineForm.{fine_form}
use Rattle.trials_definitions.proofs.WorkedDesigns.{base, third, thirds}

-- the plan `first` over `over` at the state 0, `second` over `under` at the state 1
abbrev plans : (over first under second : ℤ) → Plans
plans over first under second = record {
  denominators = over ∷ under ∷ [];
  numerators = record { rows = (first ∷ []) ∷ (second ∷ []) ∷ []; cols = 1 };
}

abbrev policy : Plans
policy = plans (pos 1) (pos 0) (pos 8) (negsuc 6)

abbrev best : Plans
best = plans (pos 1) (pos 0) (pos 2) (negsuc 0)

excess : excess_of base (exact_form base) policy best ≡ 18432
excess = refl

first_corner : corner_excess base (exact_form base) policy best 1 ≡ pos 0
first_corner = refl

size : excess_size base (exact_form base) policy best ≡ 680020773533228910772224
size = refl

-- references that are worse than the best
reference_one : excess_of base (exact_form base) policy (plans (pos 1) (pos 0) (pos 1) (negsuc 0)) ≡ 51200
reference_one = refl

reference_near : excess_of base (exact_form base) policy (plans (pos 1) (pos 0) (pos 4) (negsuc 2)) ≡ 26624
reference_near = refl

reference_far : excess_of base (exact_form base) policy (plans (pos 1) (pos 5) (pos 1) (negsuc 6)) ≡ 5556224
reference_far = refl

-- ---- the same in enclosures, of the design whose form has radii
abbrev ninths : Plans
ninths = record {
  denominators = pos 5 ∷ pos 9 ∷ [];
  numerators = record { rows = (pos 0 ∷ pos 1 ∷ []) ∷ (pos 2 ∷ negsuc 0 ∷ []) ∷ []; cols = 2 };
}

fine_first : corner_excess third (fine_form third) thirds ninths 1 ≡ pos 246022
fine_first = refl

fine_excess : excess_of third (fine_form third) thirds ninths ≡ 246022
fine_excess = refl

fine_size : excess_size third (fine_form third) thirds ninths ≡ 4644057123632753522059281
fine_size = refl
