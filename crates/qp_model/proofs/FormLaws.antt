-- The exact numbers of a design are a form of it.
use Rattle.std.proofs.Common.{◌≡◌, inl, ℕ, ◌*◌, ◌^◌, ◌≤◌, ℤ, pos, ◌-ℤ◌, ◌*ℤ◌, arith, refl}
use Rattle.std.proofs.lemmas.Int.{ints}
use Rattle.std.proofs.Math.Nat.{one-le-mul}
use Rattle.integer_algebra.specs.Bounds.{IsWithin}
use Rattle.integer_algebra.proofs.PowerLaws.{pow-two, pow_positive}
use Rattle.qp_model.specs.problem.Design.{Design}
use Rattle.qp_model.specs.problem.Parts.{design_of}
use Rattle.qp_model.specs.problem.Sound.{IsSound}
use Rattle.qp_model.specs.form.Quantities.{input_floor}
use Rattle.qp_model.specs.form.Condensing.{condensed_of}
use Rattle.qp_model.specs.form.Form.{hessian_scale, rows_scale, exact_form, HasNoRadii, EnclosesDesign, IsFormFor, ExactFormLaw}
use Rattle.qp_model.proofs.CostLaws.{condensing}
use Rattle.qp_model.proofs.SoundLaws.{sound}

-- a number is within no radius of itself
none_apart : (s : ℕ) (x : ℤ) → IsWithin (pos (s * 0)) (pos s *ℤ x -ℤ pos s *ℤ x)
none_apart s x = closed (s * 0) (pos s *ℤ x) (omega arith)
  where
    closed : (z : ℕ) (y : ℤ) → z ≡ 0 → IsWithin (pos z) (y -ℤ y)
    closed z y e = rw e (record { below = omega (arith, ints); above = omega (arith, ints) })

exact_encloses : (d : Design) → 1 ≤ d.inputs → EnclosesDesign d (exact_form d)
exact_encloses d h = record {
  entry_count = refl;
  state_count = refl;
  row_count = refl;
  symmetric = (condensing d h).symmetric;
  hessian = λ i j l m. none_apart (hessian_scale d) ((condensed_of d).hessian i j);
  linear = λ j i l m. none_apart (hessian_scale d) ((condensed_of d).linear j i);
  constant = λ j l. none_apart (hessian_scale d) ((condensed_of d).constant j);
  plan = λ i j l m. none_apart (rows_scale d) ((condensed_of d).by_plan i j);
  state = λ i j l m. none_apart (rows_scale d) ((condensed_of d).by_state i j);
  bound = λ i l. refl;
}

no_radii : (d : Design) → HasNoRadii (exact_form d)
no_radii d = record { hessian = λ i j l m. refl; linear = λ j i l m. refl; constant = λ j l. refl; plan = λ i j l m. refl; state = λ i j l m. refl }

pub exact_form_sound : (d : Design) (rho : ℕ) → IsSound d rho → IsFormFor d (exact_form d)
exact_form_sound d rho s =
    let a = d.plant_denominator ^ d.stages in
    let some : 1 ≤ a = pow_positive d.plant_denominator d.stages s.plant_denominator in
    record {
      encloses = exact_encloses d s.inputs;
      hessian_some = one-le-mul s.cost_denominator (rw pow-two (one-le-mul (one-le-mul s.row_denominator some) (one-le-mul s.row_denominator some)));
      rows_some = one-le-mul s.limit_denominator some;
      matrix_factor = refl;
      row_factor = turn d.cost_denominator d.row_denominator d.limit_denominator a;
      class = inl (no_radii d, refl);
    }
  where
    turn : (w r l a : ℕ) → pos (w * r ^ 2 * a) *ℤ pos (l * a) ≡ pos l *ℤ pos (w * (r * a) ^ 2)
    turn w r l a = rw (pow-two r, pow-two (r * a)) (let e : w * (r * r) * a * (l * a) ≡ l * (w * (r * a * (r * a))) = omega arith in omega (arith, ints, e))

pub exact_form_law : ExactFormLaw
exact_form_law p h = exact_form_sound (design_of p) (input_floor (design_of p)) (sound p h)
