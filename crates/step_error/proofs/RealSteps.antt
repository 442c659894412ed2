-- The errors of each step by the residuals of the gains.
use Rattle.std.proofs.Common.{◌≡◌, inl, inr, ℕ, ◌*◌, ◌^◌, ◌<◌, ◌≤◌, min, Bool, true, false, if◌then◌else◌, ℤ, List, length, get_or, unsigned_abs, arith, sym, subst}
use Rattle.std.proofs.lemmas.Bool.{cases_lt}
use Rattle.integer_algebra.specs.Sums.{at}
use Rattle.integer_algebra.specs.Division.{ceil_div}
use Rattle.integer_algebra.proofs.DivisionLaws.{le-mul-ceil_div}
use Rattle.integer_algebra.proofs.PowerLaws.{pow_positive}
use Rattle.qp_model.specs.problem.Design.{Design, entries}
use Rattle.qp_model.specs.problem.Sound.{IsSound}
use Rattle.qp_model.specs.problem.Box.{IsGridState}
use Rattle.qp_model.specs.form.Condensed.{IsCondensed}
use Rattle.qp_model.specs.form.Condensing.{condensed_of}
use Rattle.qp_model.specs.problem.Parts.{design_of}
use Rattle.qp_model.specs.form.Form.{Form, IsFormFor}
use Rattle.qp_model.specs.machine.Controller.{Numbers, IsSized}
use Rattle.qp_model.specs.machine.Machine.{loaded, raised, plan_entry}
use Rattle.qp_model.specs.machine.AbsoluteSums.{plan_magnitudes, greatest_of}
use Rattle.qp_model.specs.bounds.Built.{IsDerivedFrom}
use Rattle.qp_model.specs.form.Quantities.{input_floor}
use Rattle.qp_model.specs.bounds.Errors.{gradient_error}
use Rattle.qp_model.specs.bounds.RealErrors.{residual_gradient, real_gradient, real_plan, real_errors, real_cost, has_residual_room}
use Rattle.qp_model.proofs.CostLaws.{condensing}
use Rattle.qp_model.proofs.MagnitudeLaws.{plan_magnitude_law, get_or-le-greatest}
use Rattle.qp_model.proofs.SoundLaws.{sound}
use Rattle.step_error.specs.MachineLaws.{HasErrors, multipliers_at}
use Rattle.step_error.proofs.Forms.{counted, counted_is}
use Rattle.step_error.proofs.Magnitudes.{admissible}
use Rattle.step_error.proofs.MachineStepLaws.{machine_step}
use Rattle.step_error.proofs.MachineRuns.{machine_run}
use Rattle.step_error.proofs.Slopes.{IsMiddle}
use Rattle.step_error.proofs.StepErrors as step_errors
use Rattle.step_error.specs.RealLaws.{RealCarriedLaw, RealStepLaw, RealRunLaw}
use Rattle.step_error.proofs.GainErrors.{real_middle}

-- ---- choices
-- of two errors
pub chosen : (d : Design) (h : Form) (c : Numbers) (x l : List ℤ) (b : Bool) (e f : ℕ → ℕ) → IsMiddle d h c x l e → IsMiddle d h c x l f →
    IsMiddle d h c x l (λ j. if b then e j else f j)
chosen d h c x l true e f he hf = he
chosen d h c x l false e f he hf = hf

-- of two bounds
pub lesser : (t a b m : ℕ) → t ≤ a * m → t ≤ b * m → t ≤ min a b * m
lesser t a b m h k = elim (cases_lt a b) [
  | inl o ↦ (let e : min a b ≡ a = omega (arith, o) in rw e h)
  | inr o ↦ (let e : min a b ≡ b = omega (arith, o) in rw e k)
]

-- a number of a list, by the greatest
pub greatest_at : (t m : ℕ) (xs : List ℕ) (i : ℕ) → 0 < m → t ≤ get_or xs i 0 → t ≤ ceil_div (greatest_of xs) m * m
greatest_at t m xs i p h = omega (arith, h, get_or-le-greatest xs i, le-mul-ceil_div (greatest_of xs) m p)

-- ---- a step
module _ (d : Design) (h : Form) (r : ℕ) (c : Numbers) (xi : List ℤ) (sound : IsSound d (input_floor d)) (condensed : IsCondensed d (condensed_of d))
    (form : IsFormFor d (counted d h)) (made : IsDerivedFrom d (counted d h) r c) (sized : IsSized c) (long : length xi ≡ d.states) (inside : IsGridState d (at xi)) (k : ℕ) where
  abbrev state : List ℤ
  state = loaded c xi

  abbrev multipliers : List ℤ
  multipliers = raised c (multipliers_at c xi k)

  small : (j : ℕ) → j < entries d → unsigned_abs (plan_entry c state multipliers j) ≤ real_plan d (counted d h) r c * 2 ^ c.fraction_bits
  small j l = lesser _ _ _ (2 ^ c.fraction_bits) (step_errors.small d h r c xi sound condensed form made sized long inside k j l)
      (greatest_at _ (2 ^ c.fraction_bits) (plan_magnitudes c) j (pow_positive 2 c.fraction_bits (omega arith))
      (rw (step_errors.entry_is d h r c xi sound condensed form made sized long inside k j l) at
      ((plan_magnitude_law c xi sized (admissible d (counted d h) r c xi made sized long inside) k).each j)))

  middle : IsMiddle d h c state multipliers (real_gradient d (counted d h) r c)
  middle = chosen d h c state multipliers (has_residual_room d (counted d h) r) (residual_gradient d (counted d h) r c) (gradient_error d (counted d h) r)
      (real_middle d h r c state multipliers made sized.shaped (step_errors.reach d h r c xi sound condensed form made sized long inside k) form.matrix_factor sound.limit_denominator form.hessian_some)
      (step_errors.middle d h r c xi sound condensed form made sized long inside k)

  errors : HasErrors d (counted d h) r c xi k (real_errors d (counted d h) r c)
  errors = step_errors.errors_within d h r c xi sound condensed form made sized long inside k (real_plan d (counted d h) r c) (real_gradient d (counted d h) r c) small middle

-- by a form with any counts, which are the design's
errors_by : (d : Design) (h : Form) (r : ℕ) (c : Numbers) (xi : List ℤ) → IsSound d (input_floor d) → IsCondensed d (condensed_of d) →
    IsFormFor d h → IsDerivedFrom d h r c → IsSized c → length xi ≡ d.states → IsGridState d (at xi) → (k : ℕ) → HasErrors d h r c xi k (real_errors d h r c)
errors_by d h r c xi sound condensed form =
    subst (λ (g : Form). IsFormFor d g → IsDerivedFrom d g r c → IsSized c → length xi ≡ d.states → IsGridState d (at xi) → (k : ℕ) → HasErrors d g r c xi k (real_errors d g r c))
    (sym (counted_is d h form.encloses)) (errors d h r c xi sound condensed) form

-- ---- the laws
pub carried : RealCarriedLaw
carried p h r c xi run =
    errors_by (design_of p) h r c xi (sound p run.design) (condensing (design_of p) run.design.inputs.0) run.form run.made run.controller.form.sized run.long run.inside

pub step : RealStepLaw
step p h r c xi run k = machine_step p h r c xi run k (real_errors (design_of p) h r c) (real_cost (design_of p) h r c) (carried p h r c xi run k) (omega arith)

pub whole : RealRunLaw
whole p h r c xi run = machine_run p h r c xi run (real_errors (design_of p) h r c) (real_cost (design_of p) h r c) (λ k l. carried p h r c xi run k) (omega arith)
