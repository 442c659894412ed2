-- The excess of a policy, corner by corner.
use Rattle.std.proofs.Common.{◌≡◌, ℕ, suc, ◌+◌, ◌^◌, ◌<◌, ◌≤◌, max, ℤ, pos, negsuc, ◌≤ℤ◌, unsigned_abs, arith, sym, ◌∙◌}
use Rattle.std.specs.Int.{int_max}
use Rattle.std.proofs.lemmas.Int.{ints, clamps}
use Rattle.integer_algebra.specs.Sums.{at}
use Rattle.qp_model.specs.declared.design_parts.DesignParts.{DesignParts}
use Rattle.qp_model.specs.problem.Design.{Design, entries}
use Rattle.qp_model.specs.problem.Box.{corner}
use Rattle.qp_model.specs.problem.Parts.{design_of}
use Rattle.qp_model.specs.problem.Policy.{Plans}
use Rattle.qp_model.specs.form.Form.{Form}
use Rattle.qp_model.specs.form.Class.{form_of}
use Rattle.qp_model.specs.form.Quantities.{greatest}
use Rattle.qp_model.specs.bounds.Excess.{corner_excess, excess_at, excess_size_at, at_least_none, excess_of, excess_size, number_size}
use Rattle.qp_model.proofs.SizeFacts.{greatest_more, greatest_term}
use Rattle.condensed_form.specs.declared.condensed.Condensed.{Condensed}
use Rattle.condensed_form.specs.Form.{held, IsFormOf}
use Rattle.condensed_form.proofs.HeldLaws.{least_equal}
use Rattle.condensed_form.proofs.DenominatorFacts.{least_is}
use Rattle.plan_excess.specs.declared.corner.Corner.{Corner}
use Rattle.plan_excess.specs.Rows.{AreRowsNear}
use Rattle.plan_excess.specs.Slopes.{IsCornerOf, HasWeights, excess_by, excess_size_by, corner_size}
use Rattle.plan_excess.proofs.SameFacts.{excess_same, size_same, all_same, sizes_same, itself}

-- ---- a corner by its own numbers
module _ (d : Design) (h : Form) (p r : Plans) (c : ℕ) (k : Corner) (is : IsCornerOf d p r c k) (long : h.entries ≡ entries d) (wide : h.states ≡ d.states) where
  pub corner_is : excess_by d h k ≡ corner_excess d h p r (suc c)
  corner_is = excess_same d h h (itself h) long wide (at k.state.items) (corner d (suc c)) is.state.is (unsigned_abs k.over) (at k.plan.now) (unsigned_abs k.under) (at k.reference.now) ∙
      (λ t. excess_at d h (corner d (suc c)) (unsigned_abs (is.over_is t)) (λ j. is.plan_is j t) (unsigned_abs (is.under_is t)) (λ j. is.reference_is j t))

  pub corner_size_is : excess_size_by d h k ≡ corner_size d h p r c
  corner_size_is = size_same d h h (itself h) long wide (at k.state.items) (corner d (suc c)) is.state.is (unsigned_abs k.over) (at k.plan.now) (unsigned_abs k.under) (at k.reference.now) ∙
      (λ t. excess_size_at d h (corner d (suc c)) (unsigned_abs (is.over_is t)) (λ j. is.plan_is j t) (unsigned_abs (is.under_is t)) (λ j. is.reference_is j t))

-- ---- a form's weights
module _ (parts : DesignParts) (c : Condensed) (is : IsFormOf parts c) where
  pub weights_held : (k : Corner) → k.grid ≡ pos (2 ^ (design_of parts).grid) → HasWeights (design_of parts) k c.weight_den c.input_floor
  weights_held k grid = record { grid = grid; weights = is.denominators.weight_den; least = least_equal parts c.input_floor is.design is.denominators.input_floor }

  pub weight_some : pos 1 ≤ℤ c.weight_den
  weight_some = rw is.denominators.weight_den (some parts.cost_den is.design.cost_den.low)
    where
      some : (z : ℤ) → pos 1 ≤ℤ z → pos 1 ≤ℤ pos (unsigned_abs z)
      some z h = omega (arith, ints, h)

  pub floor_some : pos 1 ≤ℤ c.input_floor
  floor_some = (least_is parts is.design c.input_floor is.denominators.input_floor).low

  pub floor_short : c.input_floor ≤ℤ pos (2 ^ 31)
  floor_short = omega (arith, ints, (least_is parts is.design c.input_floor is.denominators.input_floor).high)

  -- ---- the whole
  pub excess_is : (p r : Plans) → excess_of (design_of parts) (held c) p r ≡ excess_of (design_of parts) (form_of (design_of parts)) p r
  excess_is p r = all_same (design_of parts) (held c) (form_of (design_of parts)) is.same (sym is.same.entries ∙ is.shapes.hess.rows) (sym is.same.states ∙ is.shapes.lin.cols) p r

  pub whole_size_is : (p r : Plans) → excess_size (design_of parts) (held c) p r ≡ excess_size (design_of parts) (form_of (design_of parts)) p r
  whole_size_is p r = sizes_same (design_of parts) (held c) (form_of (design_of parts)) is.same (sym is.same.entries ∙ is.shapes.hess.rows) (sym is.same.states ∙ is.shapes.lin.cols) p r

  -- each part of its quantity is within it
  pub numbers_within : (p r : Plans) → greatest (entries (design_of parts)) (number_size (design_of parts) (held c)) ≤ excess_size (design_of parts) (form_of (design_of parts)) p r
  numbers_within p r = left _ _ _ (whole_size_is p r)
    where
      left : (a b n : ℕ) → max a b ≡ n → a ≤ n
      left a b n h = omega (arith, h)

  pub corner_within : (p r : Plans) (number : ℕ) → number < 2 ^ (design_of parts).states →
      corner_size (design_of parts) (held c) p r number ≤ excess_size (design_of parts) (form_of (design_of parts)) p r
  corner_within p r number l = right _ _ _ _ (greatest_term number (2 ^ (design_of parts).states) (corner_size (design_of parts) (held c) p r) l) (whole_size_is p r)
    where
      right : (a b m n : ℕ) → m ≤ b → max a b ≡ n → m ≤ n
      right a b m n h k = omega (arith, h, k)

  -- and it is within the limit where they are
  pub whole_room : (p r : Plans) → AreRowsNear (design_of parts) (held c) (entries (design_of parts)) →
      greatest (2 ^ (design_of parts).states) (corner_size (design_of parts) (held c) p r) ≤ 2 ^ 126 → excess_size (design_of parts) (form_of (design_of parts)) p r ≤ 2 ^ 126
  whole_room p r h k = both _ _ _ (whole_size_is p r) h k
    where
      both : (a b n : ℕ) → max a b ≡ n → a ≤ 2 ^ 126 → b ≤ 2 ^ 126 → n ≤ 2 ^ 126
      both a b n e h k = omega (arith, e, h, k)

-- ---- the greatest so far
pub most_next : (n : ℕ) (f : ℕ → ℤ) (m z : ℤ) → m ≡ pos (greatest n (λ c. at_least_none (f c))) → z ≡ f n → int_max m z ≡ pos (greatest (n + 1) (λ c. at_least_none (f c)))
most_next n f m z h k = rw (greatest_more n (λ c. at_least_none (f c)), h, k) (greater (greatest n (λ c. at_least_none (f c))) (f n))
  where
    greater : (a : ℕ) (z : ℤ) → int_max (pos a) z ≡ pos (max a (at_least_none z))
    greater a (pos b) = omega (arith, ints, clamps)
    greater a (negsuc b) = omega (arith, ints, clamps)
