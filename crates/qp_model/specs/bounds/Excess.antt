-- The excess of a policy: how much more than the best the plans of its corners cost at most, as reference plans show it. Neither plan need be
-- feasible; what is best is over all plans, and so is a bound that no limit enters.
use Rattle.std.specs.Prelude.{ℕ, suc, ◌*◌, ◌^◌, ◌≤◌, max, ℤ, pos, negsuc, neg_ℤ, ◌+ℤ◌, ◌*ℤ◌, ◌≤ℤ◌, ◌<ℤ◌, unsigned_abs}
use Rattle.integer_algebra.specs.Sums.{total, square}
use Rattle.integer_algebra.specs.Division.{ceil_of}
use Rattle.frac_scaled.specs.Enclosures.{Enclosure, magnitude, divided, enclosed, sum_of, product_of}
use Rattle.mat_int.specs.Enclosures.{combined, combination_magnitude}
use Rattle.qp_model.specs.problem.Design.{Design, entries}
use Rattle.qp_model.specs.problem.Sound.{IsSound}
use Rattle.qp_model.specs.problem.Box.{corner}
use Rattle.qp_model.specs.problem.Cost.{cost, cost_scale}
use Rattle.qp_model.specs.form.Form.{Form, IsFormFor}
use Rattle.qp_model.specs.problem.Policy.{Plans, IsPolicyFor, corner_denominator, corner_plan}
use Rattle.qp_model.specs.form.Quantities.{greatest, input_floor}

-- at the state xi the plan u over q costs at most excess / 2^16 more than any plan, over whatever denominator and feasible or not
abbrev pub IsNearBest : Design → (xi : ℕ → ℤ) → (q : ℤ) → (u : ℕ → ℤ) → (excess : ℤ) → Type 0
IsNearBest d xi q u excess = (r : ℤ) (t : ℕ → ℤ) → pos 0 <ℤ r →
    (pos (2 ^ 16) *ℤ cost d q xi u *ℤ square r) ≤ℤ ((pos (2 ^ 16) *ℤ cost d r xi t +ℤ excess *ℤ pos (cost_scale d) *ℤ square r) *ℤ square q)

-- ---- the numbers of a form as enclosures
-- what a midpoint and its radius, both over the scale, stand for
abbrev pub brought : (scale : ℕ) → (mid : ℤ) → (radius : ℕ) → Enclosure
brought scale m r = divided (record { mid = pos (2 ^ 40) *ℤ m; rad = pos (2 ^ 40 * r) }) scale

abbrev pub hessian_at : Form → ℕ → ℕ → Enclosure
hessian_at h j i = brought h.hessian_scale (h.numbers.hessian j i) (h.hessian_radius j i)

abbrev pub linear_at : Form → ℕ → ℕ → Enclosure
linear_at h j i = brought h.hessian_scale (h.numbers.linear j i) (h.linear_radius j i)

abbrev pub constant_at : Form → ℕ → Enclosure
constant_at h j = brought h.hessian_scale (h.numbers.constant j) (h.constant_radius j)

-- ---- the gradient of the cost at the state xi and the plan u over q
-- entry j's parts of the plan and of the state
abbrev pub of_plan : Design → Form → (q : ℕ) → (u : ℕ → ℤ) → ℕ → Enclosure
of_plan d h q u j = combined (entries d) u (hessian_at h j) q

abbrev pub of_state : Design → Form → (xi : ℕ → ℤ) → ℕ → Enclosure
of_state d h xi j = combined d.states xi (linear_at h j) (2 ^ d.grid)

-- and entry j
abbrev pub gradient_enclosure : Design → Form → (xi : ℕ → ℤ) → (q : ℕ) → (u : ℕ → ℤ) → ℕ → Enclosure
gradient_enclosure d h xi q u j = sum_of (sum_of (of_plan d h q u j) (of_state d h xi j)) (constant_at h j)

-- ---- a plan u over q and a reference w over o, at the state xi
-- entry j of the step from the reference to the plan
abbrev pub step_enclosure : (q : ℕ) → (u : ℕ → ℤ) → (o : ℕ) → (w : ℕ → ℤ) → ℕ → Enclosure
step_enclosure q u o w j = sum_of (enclosed (u j) q) (enclosed (neg_ℤ (w j)) o)

-- what entry j adds to twice the difference of their costs
abbrev pub slope_enclosure : Design → Form → (xi : ℕ → ℤ) → (q : ℕ) → (u : ℕ → ℤ) → (o : ℕ) → (w : ℕ → ℤ) → ℕ → Enclosure
slope_enclosure d h xi q u o w j =
    product_of (sum_of (gradient_enclosure d h xi q u j) (gradient_enclosure d h xi o w j)) (step_enclosure q u o w j)

-- that difference at most, over 2^40
abbrev pub rise : Design → Form → (xi : ℕ → ℤ) → (q : ℕ) → (u : ℕ → ℤ) → (o : ℕ) → (w : ℕ → ℤ) → ℤ
rise d h xi q u o w = total (entries d) (λ j. (slope_enclosure d h xi q u o w j).mid +ℤ (slope_enclosure d h xi q u o w j).rad)

-- the absolute value of the gradient's entry j at most, over 2^24
abbrev pub steepness : Design → Form → (xi : ℕ → ℤ) → (q : ℕ) → (u : ℕ → ℤ) → ℕ → ℤ
steepness d h xi q u j = ceil_of (magnitude (gradient_enclosure d h xi q u j)) (2 ^ 16)

-- the squares of the gradient, over 2^48, times cost_denominator
abbrev pub pull : Design → Form → (xi : ℕ → ℤ) → (q : ℕ) → (u : ℕ → ℤ) → ℤ
pull d h xi q u = pos d.cost_denominator *ℤ total (entries d) (λ j. square (steepness d h xi q u j))

-- what the plan costs more than the reference, and that more than any plan, over 2^16
abbrev pub excess_at : Design → Form → (xi : ℕ → ℤ) → (q : ℕ) → (u : ℕ → ℤ) → (o : ℕ) → (w : ℕ → ℤ) → ℤ
excess_at d h xi q u o w = ceil_of (rise d h xi q u o w) (2 ^ 25) +ℤ ceil_of (pull d h xi o w) (2 ^ 34 * input_floor d)

-- ---- a policy and reference plans, one for each corner; a corner is counted from 1
abbrev pub corner_excess : Design → Form → (policy reference : Plans) → ℕ → ℤ
corner_excess d h p r c = excess_at d h (corner d c) (unsigned_abs (corner_denominator p c)) (corner_plan p c)
    (unsigned_abs (corner_denominator r c)) (corner_plan r c)

-- a number, or 0 where it is negative
abbrev pub at_least_none : ℤ → ℕ
at_least_none (pos n) = n
at_least_none (negsuc n) = 0

-- X: the greatest of all corners, and of 0, over 2^16
abbrev pub excess_of : Design → Form → (policy reference : Plans) → ℕ
excess_of d h p r = greatest (2 ^ d.states) (λ c. at_least_none (corner_excess d h p r (suc c)))

-- ---- `excess`: what the numbers above reach
-- an enclosure, and the operands of a sum and of a product
abbrev pub reach : Enclosure → ℕ
reach e = unsigned_abs (magnitude e)

abbrev pub sum_reach : Enclosure → Enclosure → ℕ
sum_reach a b = unsigned_abs (magnitude a +ℤ magnitude b)

abbrev pub product_reach : Enclosure → Enclosure → ℕ
product_reach a b = unsigned_abs (magnitude a *ℤ magnitude b)

-- the form's numbers of row j
abbrev pub number_size : Design → Form → ℕ → ℕ
number_size d h j =
    max (greatest (entries d) (λ i. reach (hessian_at h j i))) (max (greatest d.states (λ i. reach (linear_at h j i))) (reach (constant_at h j)))

-- the gradient's entry j
abbrev pub gradient_size : Design → Form → (xi : ℕ → ℤ) → (q : ℕ) → (u : ℕ → ℤ) → ℕ → ℕ
gradient_size d h xi q u j =
    max (max (unsigned_abs (combination_magnitude (entries d) u (hessian_at h j))) (unsigned_abs (combination_magnitude d.states xi (linear_at h j))))
    (max (sum_reach (of_plan d h q u j) (of_state d h xi j)) (sum_reach (sum_of (of_plan d h q u j) (of_state d h xi j)) (constant_at h j)))

-- and what it adds
abbrev pub slope_size : Design → Form → (xi : ℕ → ℤ) → (q : ℕ) → (u : ℕ → ℤ) → (o : ℕ) → (w : ℕ → ℤ) → ℕ → ℕ
slope_size d h xi q u o w j =
    max (max (gradient_size d h xi q u j) (gradient_size d h xi o w j))
    (max (sum_reach (gradient_enclosure d h xi q u j) (gradient_enclosure d h xi o w j))
    (max (sum_reach (enclosed (u j) q) (enclosed (neg_ℤ (w j)) o))
    (product_reach (sum_of (gradient_enclosure d h xi q u j) (gradient_enclosure d h xi o w j)) (step_enclosure q u o w j))))

-- all numbers of two plans
abbrev pub excess_size_at : Design → Form → (xi : ℕ → ℤ) → (q : ℕ) → (u : ℕ → ℤ) → (o : ℕ) → (w : ℕ → ℤ) → ℕ
excess_size_at d h xi q u o w =
    max (max (greatest (entries d) (slope_size d h xi q u o w)) (unsigned_abs (total (entries d) (λ j. magnitude (slope_enclosure d h xi q u o w j)))))
    (max (unsigned_abs (pull d h xi o w)) (unsigned_abs (excess_at d h xi q u o w)))

-- of all corners
abbrev pub excess_size : Design → Form → (policy reference : Plans) → ℕ
excess_size d h p r = max (greatest (entries d) (number_size d h)) (greatest (2 ^ d.states) (λ c.
    excess_size_at d h (corner d (suc c)) (unsigned_abs (corner_denominator p (suc c))) (corner_plan p (suc c))
    (unsigned_abs (corner_denominator r (suc c))) (corner_plan r (suc c))))

-- ---- the law
-- Each corner's plan of a policy costs at most the excess more than any plan, whatever the reference plans are.
abbrev pub ExcessLaw : Type 0
ExcessLaw = (d : Design) (h : Form) (p r : Plans) → IsSound d (input_floor d) → IsFormFor d h → IsPolicyFor d p → IsPolicyFor d r →
    (c : ℕ) → 1 ≤ c → c ≤ 2 ^ d.states → IsNearBest d (corner d c) (corner_denominator p c) (corner_plan p c) (pos (excess_of d h p r))
