-- The errors of each step of a run.
use Rattle.std.proofs.Common.{◌≡◌, ℕ, ◌+◌, ◌*◌, ◌^◌, ◌<◌, ◌≤◌, ℤ, pos, ◌+ℤ◌, ◌-ℤ◌, ◌*ℤ◌, List, length, unsigned_abs, arith, ap, sym, ◌∙◌, refl}
use Rattle.integer_algebra.specs.Sums.{image, coimage, at}
use Rattle.integer_algebra.specs.Bounds.{IsWithin}
use Rattle.integer_algebra.proofs.VectorLaws.{image_same}
use Rattle.qp_model.specs.problem.Design.{Design, entries, rows}
use Rattle.qp_model.specs.problem.Sound.{IsSound}
use Rattle.qp_model.specs.problem.Box.{IsGridState}
use Rattle.qp_model.specs.problem.Cost.{cost_scale}
use Rattle.qp_model.specs.problem.Residual.{residual, residual_scale}
use Rattle.qp_model.specs.form.Condensed.{Condensed, IsCondensed, slope_at}
use Rattle.qp_model.specs.form.Condensing.{condensed_of}
use Rattle.qp_model.specs.machine.Controller.{Numbers, IsSized}
use Rattle.qp_model.specs.machine.Machine.{loaded, raised, plan_entry}
use Rattle.qp_model.specs.form.Quantities.{input_floor}
use Rattle.qp_model.specs.form.Form.{Form, IsFormFor}
use Rattle.qp_model.specs.bounds.Errors.{gradient_error, error_sums_of, plan_bound, radius_error, residual_error, stated_errors}
use Rattle.qp_model.specs.bounds.Built.{IsDerivedFrom}
use Rattle.step_error.specs.Laws.{slant}
use Rattle.step_error.specs.MachineLaws.{multipliers_at, raised_at, plan_at, used_residual, machine_scale, lifted_plan, row_radius, HasErrors}
use Rattle.step_error.proofs.Forms.{counted}
use Rattle.step_error.proofs.Gradients.{AreReached, length_is}
use Rattle.step_error.proofs.Slopes.{IsMiddle, middle_within, slant_within, within_same}
use Rattle.step_error.proofs.RowErrors as row_errors
use Rattle.step_error.proofs.Plans.{plan_small}
use Rattle.step_error.proofs.Magnitudes.{loaded_is, multipliers_box, reached}

-- ---- plans with the same entries
pub slant_same : (d : Design) (k : Condensed) (q : ℤ) (xi u v y : ℕ → ℤ) (j : ℕ) → ((i : ℕ) → i < entries d → u i ≡ v i) →
    slant d k q xi u y j ≡ slant d k q xi v y j
slant_same d k q xi u v y j h =
    ap (λ (z : ℤ). pos (residual_scale d) *ℤ (pos (4 ^ d.grid) *ℤ z +ℤ (pos (2 ^ d.grid) *ℤ q) *ℤ slope_at d k xi j) +ℤ
    pos (cost_scale d) *ℤ (pos (2 ^ d.grid) *ℤ coimage (rows d) k.by_plan y j))
    (image_same (entries d) k.hessian u v j h)

pub residual_same : (d : Design) (k : Condensed) → IsCondensed d k → (q : ℤ) (xi u v : ℕ → ℤ) (i : ℕ) → i < rows d → ((j : ℕ) → j < entries d → u j ≡ v j) →
    residual d q xi u i ≡ residual d q xi v i
residual_same d k condensed q xi u v i inside h =
    condensed.rows q xi u i inside
    ∙ ap (λ (z : ℤ). pos (2 ^ d.grid) *ℤ z +ℤ q *ℤ (image d.states k.by_state xi i -ℤ pos (2 ^ d.grid) *ℤ k.bound i)) (image_same (entries d) k.by_plan u v i h)
    ∙ sym (condensed.rows q xi v i inside)

-- ---- a step of a run
module _ (d : Design) (h : Form) (r : ℕ) (c : Numbers) (xi : List ℤ) (sound : IsSound d (input_floor d)) (condensed : IsCondensed d (condensed_of d))
    (form : IsFormFor d (counted d h)) (made : IsDerivedFrom d (counted d h) r c) (sized : IsSized c) (long : length xi ≡ d.states) (inside : IsGridState d (at xi)) (k : ℕ) where
  abbrev multipliers : List ℤ
  multipliers = raised c (multipliers_at c xi k)

  abbrev entry : ℕ → ℤ
  entry j = plan_entry c (loaded c xi) multipliers j

  pub reach : AreReached d r c (loaded c xi) multipliers
  reach = reached d (counted d h) r c xi made sized long inside k

  pub entry_is : (j : ℕ) → j < entries d → at (plan_at c xi k) j ≡ entry j
  entry_is j l = row_errors.plan_at c (loaded c xi) multipliers j
      (let e = length_is d h r c (loaded c xi) multipliers made sized.shaped reach in omega (arith, l, e, sized.shaped.offsets))

  lifted_is : (j : ℕ) → j < entries d → pos (2 ^ c.step_exponent) *ℤ entry j ≡ lifted_plan c xi k j
  lifted_is j l = ap (λ (z : ℤ). pos (2 ^ c.step_exponent) *ℤ z) (sym (entry_is j l))

  grid_le : c.grid_bits ≤ c.fraction_bits
  grid_le = sized.fraction_bits.0

  -- errors that bound the plan and the gradient that the systems have
  module _ (most : ℕ) (error : ℕ → ℕ) (small : (j : ℕ) → j < entries d → unsigned_abs (entry j) ≤ most * 2 ^ c.fraction_bits)
      (middle : IsMiddle d h c (loaded c xi) multipliers error) where
    plan_within : (j : ℕ) → j < entries d → unsigned_abs (at (plan_at c xi k) j) ≤ 2 ^ c.fraction_bits * most
    plan_within j l = rw (entry_is j l) (let b = small j l in omega (arith, b))

    gradient_within : (j : ℕ) → j < entries d →
        IsWithin (pos (cost_scale d) *ℤ pos (residual_scale d) *ℤ
        pos (2 ^ 40 * 2 ^ c.step_exponent * error j + 2 ^ (c.fraction_bits + c.step_exponent) * radius_error (error_sums_of d (counted d h) r) most))
        (pos (2 ^ 40) *ℤ slant d (condensed_of d) (machine_scale c) (at xi) (lifted_plan c xi k) (raised_at c xi k) j)
    gradient_within j l =
        within_same refl
        (ap (λ (z : ℤ). pos (2 ^ 40) *ℤ z)
        (slant_same d (condensed_of d) (machine_scale c) (at xi) (λ i. pos (2 ^ c.step_exponent) *ℤ entry i) (lifted_plan c xi k) (at multipliers) j lifted_is))
        (slant_within d h r c (loaded c xi) multipliers (at xi) most sound form made sized.shaped reach small error middle grid_le
        (loaded_is d (counted d h) r c xi made sized long inside) j l)

    residual_within : (i : ℕ) → i < rows d →
        IsWithin (pos (residual_scale d * (h.rows_scale * residual_error (error_sums_of d (counted d h) r) most + 2 * 2 ^ c.fraction_bits * row_radius d (counted d h) most i)))
        (pos (2 * h.rows_scale) *ℤ (pos (residual_scale d) *ℤ used_residual c xi k i -ℤ residual d (pos (2 ^ c.fraction_bits)) (at xi) (at (plan_at c xi k)) i))
    residual_within i l =
        within_same refl
        (ap (λ (z : ℤ). pos (2 * h.rows_scale) *ℤ (pos (residual_scale d) *ℤ used_residual c xi k i -ℤ z))
        (residual_same d (condensed_of d) condensed (pos (2 ^ c.fraction_bits)) (at xi) entry (at (plan_at c xi k)) i l (λ j m. sym (entry_is j m))))
        (row_errors.row_within d h r c (loaded c xi) multipliers (at xi) most form made sized.shaped reach.state_length condensed grid_le
        (loaded_is d (counted d h) r c xi made sized long inside) reach.state small i l)

    pub errors_within : HasErrors d (counted d h) r c xi k (record { plan = most; gradient = error })
    errors_within = record {
      multipliers = multipliers_box d (counted d h) r c xi made sized long inside k;
      plan = plan_within;
      gradient = gradient_within;
      residuals = residual_within;
    }

  -- the stated ones
  pub small : (j : ℕ) → j < entries d → unsigned_abs (entry j) ≤ plan_bound (error_sums_of d (counted d h) r) c.fraction_bits * 2 ^ c.fraction_bits
  small = plan_small d h r c (loaded c xi) multipliers form made sized.shaped reach sound condensed

  pub middle : IsMiddle d h c (loaded c xi) multipliers (gradient_error d (counted d h) r)
  middle = middle_within d h r c (loaded c xi) multipliers made sized.shaped reach form.matrix_factor form.hessian_some

  pub errors : HasErrors d (counted d h) r c xi k (stated_errors d (counted d h) r c.fraction_bits)
  errors = errors_within (plan_bound (error_sums_of d (counted d h) r) c.fraction_bits) (gradient_error d (counted d h) r) small middle
