-- A plan at any multipliers in 0 .. 2 r has the stated errors, and those that the gains leave.
use Rattle.std.proofs.Common.{◌≡◌, inl, inr, ℕ, ◌+◌, ◌-◌, ◌*◌, ◌^◌, ◌<◌, ◌≤◌, ℤ, pos, ◌-ℤ◌, ◌*ℤ◌, ◌≤ℤ◌, List, length, get_or, unsigned_abs, arith, ap, sym, subst, ◌∙◌, refl}
use Rattle.std.proofs.lemmas.Int.{ints}
use Rattle.std.proofs.lemmas.Bool.{cases_lt}
use Rattle.std.proofs.lemmas.List.{length-map, length-replicate, get_or-replicate, get_or_past}
use Rattle.integer_algebra.specs.Sums.{at}
use Rattle.integer_algebra.specs.Division.{floor_of}
use Rattle.integer_algebra.proofs.PowerLaws.{pow_positive}
use Rattle.qp_model.specs.method.Dual.{InBox}
use Rattle.qp_model.specs.problem.Design.{Design, entries, rows}
use Rattle.qp_model.specs.problem.Sound.{IsSound}
use Rattle.qp_model.specs.problem.Box.{IsGridState}
use Rattle.qp_model.specs.problem.Parts.{design_of}
use Rattle.qp_model.specs.problem.Residual.{residual_scale}
use Rattle.qp_model.specs.form.Condensed.{IsCondensed}
use Rattle.qp_model.specs.form.Condensing.{condensed_of}
use Rattle.qp_model.specs.form.Quantities.{input_floor}
use Rattle.qp_model.specs.form.Form.{Form, IsFormFor}
use Rattle.qp_model.specs.machine.Controller.{Numbers, IsShaped}
use Rattle.qp_model.specs.machine.Machine.{IsAdmissible, loaded, plan_entry, plan_of, row_sum}
use Rattle.qp_model.specs.machine.AbsoluteSums.{clamp_magnitudes, plan_magnitudes}
use Rattle.qp_model.specs.machine.Within.{AreWithin}
use Rattle.qp_model.specs.bounds.Errors.{gradient_error, error_sums_of, plan_bound, stated_errors}
use Rattle.qp_model.specs.bounds.RealErrors.{residual_gradient, real_gradient, real_plan, real_errors, has_residual_room}
use Rattle.qp_model.specs.bounds.Built.{IsDerivedFrom, HasSizesOf}
use Rattle.qp_model.proofs.CostLaws.{condensing}
use Rattle.qp_model.proofs.MagnitudeLaws.{plan_within, state_within}
use Rattle.qp_model.proofs.SoundLaws.{sound}
use Rattle.step_error.specs.MachineLaws.{machine_scale}
use Rattle.step_error.proofs.Forms.{counted, counted_is}
use Rattle.step_error.proofs.Gradients.{AreReached, length_is}
use Rattle.step_error.proofs.Slopes.{IsMiddle, middle_within, slant_within, within_same}
use Rattle.step_error.proofs.RowErrors as row_errors
use Rattle.step_error.proofs.Plans.{plan_small}
use Rattle.step_error.proofs.Magnitudes.{loaded_at, state_reach}
use Rattle.step_error.proofs.StepErrors.{slant_same, residual_same}
use Rattle.step_error.proofs.RealSteps.{chosen, lesser, greatest_at}
use Rattle.step_error.proofs.GainErrors.{real_middle}
use Rattle.fast_bounds.specs.FastDesign.{HasErrorsAt, PlanErrorsLaw}

-- the machine takes each grid state of the design's box
pub admissible : (d : Design) (c : Numbers) (xi : List ℤ) → HasSizesOf d c → length xi ≡ d.states → IsGridState d (at xi) → IsAdmissible c xi
admissible d c xi sizes long inside = record {
  long = long ∙ sym sizes.states;
  each = λ i l. (let m : i < d.states = omega (arith, l, sizes.states) in record {
    low = rw (sizes.low i m) (inside i m).0;
    high = rw (sizes.high i m) (inside i m).1;
  });
}

module _ (d : Design) (h : Form) (r : ℕ) (c : Numbers) (xi l : List ℤ) (sound : IsSound d (input_floor d)) (condensed : IsCondensed d (condensed_of d))
    (form : IsFormFor d (counted d h)) (made : IsDerivedFrom d (counted d h) r c) (shaped : IsShaped c) (bits : c.grid_bits ≤ c.fraction_bits)
    (long : length xi ≡ d.states) (inside : IsGridState d (at xi)) (count : length l ≡ c.rows) (box : InBox (rows d) (pos (2 * r) *ℤ machine_scale c) (at l)) where
  abbrev state : List ℤ
  state = loaded c xi

  abbrev entry : ℕ → ℤ
  entry j = plan_entry c state l j

  abbrev plan : ℕ → ℤ
  plan = at (plan_of c state l)

  loaded_is : (i : ℕ) → i < c.states → at state i ≡ at xi i *ℤ pos (2 ^ (c.fraction_bits - c.grid_bits))
  loaded_is i k = loaded_at c xi i (omega (arith, k, made.sizes.states, long))

  reach : AreReached d r c state l
  reach = record {
    state_length = length-map xi _ ∙ long ∙ sym made.sizes.states;
    multiplier_length = count;
    state = λ i k. rw (loaded_is i k, made.sizes.grid)
        (state_reach d c.fraction_bits (at xi) i (omega (arith, made.sizes.grid, bits)) inside (omega (arith, k, made.sizes.states)));
    multipliers = λ i k. (let w : i < rows d = omega (arith, k, made.sizes.rows) in
        size_of (at l i) (2 * r * 2 ^ (c.fraction_bits + c.step_exponent)) (box.low i w) (box.high i w));
  }
    where
      size_of : (z : ℤ) (n : ℕ) → pos 0 ≤ℤ z → z ≤ℤ pos n → unsigned_abs z ≤ n
      size_of z n h l = omega (arith, ints, h, l)

  entry_is : (j : ℕ) → j < entries d → plan j ≡ entry j
  entry_is j k = row_errors.plan_at c state l j (omega (arith, k, length_is d h r c state l made shaped reach, shaped.offsets))

  -- errors that bound the plan and the gradient that the systems have
  errors_within : (most : ℕ) (error : ℕ → ℕ) → ((j : ℕ) → j < entries d → unsigned_abs (entry j) ≤ most * 2 ^ c.fraction_bits) → IsMiddle d h c state l error →
      HasErrorsAt d (counted d h) r c xi l (record { plan = most; gradient = error })
  errors_within most error small middle = record {
    plan = λ j k. rw (entry_is j k) (omega (arith, small j k));
    gradient = λ j k. within_same refl
        (ap (λ (z : ℤ). pos (2 ^ 40) *ℤ z)
        (slant_same d (condensed_of d) (machine_scale c) (at xi) (λ i. pos (2 ^ c.step_exponent) *ℤ entry i) (λ i. pos (2 ^ c.step_exponent) *ℤ plan i) (at l) j
        (λ i m. ap (λ (z : ℤ). pos (2 ^ c.step_exponent) *ℤ z) (sym (entry_is i m)))))
        (slant_within d h r c state l (at xi) most sound form made shaped reach small error middle bits loaded_is j k);
    residuals = λ i k. within_same refl
        (ap (λ (z : ℤ). pos (2 * h.rows_scale) *ℤ (pos (residual_scale d) *ℤ floor_of (row_sum c state (plan_of c state l) i) (2 ^ c.fraction_bits) -ℤ z))
        (residual_same d (condensed_of d) condensed (pos (2 ^ c.fraction_bits)) (at xi) entry plan i k (λ j m. sym (entry_is j m))))
        (row_errors.row_within d h r c state l (at xi) most form made shaped reach.state_length condensed bits loaded_is reach.state small i k);
  }

  -- the stated ones
  small : (j : ℕ) → j < entries d → unsigned_abs (entry j) ≤ plan_bound (error_sums_of d (counted d h) r) c.fraction_bits * 2 ^ c.fraction_bits
  small = plan_small d h r c state l form made shaped reach sound condensed

  middle : IsMiddle d h c state l (gradient_error d (counted d h) r)
  middle = middle_within d h r c state l made shaped reach form.matrix_factor form.hessian_some

  stated : HasErrorsAt d (counted d h) r c xi l (stated_errors d (counted d h) r c.fraction_bits)
  stated = errors_within (plan_bound (error_sums_of d (counted d h) r) c.fraction_bits) (gradient_error d (counted d h) r) small middle

  -- those of the gains
  clamped_at : (k : ℕ) → unsigned_abs (at l k) ≤ get_or (clamp_magnitudes c) k 0
  clamped_at k = elim (cases_lt k (length l)) [
    | inl o ↦ rw (get_or-replicate (length c.bounds) k (unsigned_abs c.clamp) 0 (omega (arith, o, count, shaped.bounds)), made.clamp) (reach.multipliers k (omega (arith, o, count)))
    | inr o ↦ rw (get_or_past l k (pos 0) o) (omega arith)
  ]

  magnitudes : AreWithin (plan_of c state l) (plan_magnitudes c)
  magnitudes = plan_within c state l (state_within c xi shaped.low shaped.high (admissible d c xi made.sizes long inside))
      (record { long = count ∙ sym shaped.bounds ∙ sym (length-replicate (length c.bounds) (unsigned_abs c.clamp)); each = clamped_at })

  real_small : (j : ℕ) → j < entries d → unsigned_abs (entry j) ≤ real_plan d (counted d h) r c * 2 ^ c.fraction_bits
  real_small j k = lesser _ _ _ (2 ^ c.fraction_bits) (small j k)
      (greatest_at _ (2 ^ c.fraction_bits) (plan_magnitudes c) j (pow_positive 2 c.fraction_bits (omega arith)) (rw (entry_is j k) at (magnitudes.each j)))

  real : HasErrorsAt d (counted d h) r c xi l (real_errors d (counted d h) r c)
  real = errors_within (real_plan d (counted d h) r c) (real_gradient d (counted d h) r c) real_small
      (chosen d h c state l (has_residual_room d (counted d h) r) (residual_gradient d (counted d h) r c) (gradient_error d (counted d h) r)
      (real_middle d h r c state l made shaped reach form.matrix_factor sound.limit_denominator form.hessian_some) middle)

-- by a form with any counts, which are the design's
pub plan_errors : PlanErrorsLaw
plan_errors = record {
  stated = λ p h r c xi l run. subst (λ (g : Form). IsFormFor (design_of p) g → IsDerivedFrom (design_of p) g r c →
      HasErrorsAt (design_of p) g r c xi l (stated_errors (design_of p) g r c.fraction_bits)) (sym (counted_is (design_of p) h run.form.encloses))
      (λ form made. stated (design_of p) h r c xi l (sound p run.design) (condensing (design_of p) run.design.inputs.0) form made
      run.shaped run.bits run.long run.inside run.multiplier_count run.box) run.form run.made;
  real = λ p h r c xi l run. subst (λ (g : Form). IsFormFor (design_of p) g → IsDerivedFrom (design_of p) g r c →
      HasErrorsAt (design_of p) g r c xi l (real_errors (design_of p) g r c)) (sym (counted_is (design_of p) h run.form.encloses))
      (λ form made. real (design_of p) h r c xi l (sound p run.design) (condensing (design_of p) run.design.inputs.0) form made
      run.shaped run.bits run.long run.inside run.multiplier_count run.box) run.form run.made;
}
