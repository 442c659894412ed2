-- The sums of a run, of those of a step.
use Rattle.std.proofs.Common.{◌≡◌, ℕ, zero, suc, ◌+◌, ◌*◌, ◌^◌, ◌<◌, ◌≤◌, List, arith, ap, sym, subst}
use Rattle.std.proofs.Math.Nat.{mul-le-mul, mul-le-mul_right, one-le-mul}
use Rattle.integer_algebra.specs.Sizes.{amount}
use Rattle.integer_algebra.proofs.PowerLaws.{pow_positive, pow-two}
use Rattle.integer_algebra.proofs.DivisionLaws.{ceil_div-le, le-mul-ceil_div}
use Rattle.integer_algebra.proofs.SizeLaws.{amount_term}
use Rattle.qp_model.specs.declared.design_parts.DesignParts.{DesignParts}
use Rattle.qp_model.specs.problem.Parts.{IsDesign, design_of}
use Rattle.qp_model.specs.form.Form.{Form, IsFormFor}
use Rattle.qp_model.specs.form.Quantities.{input_floor}
use Rattle.qp_model.specs.bounds.Errors as errors
use Rattle.qp_model.specs.bounds.Errors.{plan_pull, plan_bound, residual_error, error_sums_of, error_size}
use Rattle.qp_model.proofs.SizeFacts.{positive, side_under, some_entry, some_row}
use Rattle.condensed_form.specs.Form.{IsFormOf, held}
use Rattle.condensed_form.specs.declared.condensed.Condensed.{Condensed}
use Rattle.step_error.specs.declared.sums.ErrorSums.{ErrorSums}
use Rattle.step_error.specs.ErrorSums.{AreSums, sums_of, size_by, cost_size, HaveRoom, HasErrorRoom}
use Rattle.step_error.specs.CarriedErrors.{carry_of, run_sums_of}
use Rattle.step_error.specs.RunSums.{mean_squares, run_error_size, sums_by, run_size_by}
use Rattle.step_error.proofs.Ceilings.{ceil_small}
use Rattle.step_error.proofs.SumFacts.{few, few_spread, floor_range, spread_range, through, doubled, size_room}
use Rattle.step_error.proofs.DesignSums.{AreWithin, within, top_small}

-- ---- squares that are added up
pub one_of : (n j : ℕ) (f : ℕ → ℕ) → j < n → amount n (λ k. f k ^ 2) ≤ 2 ^ 126 → f j ≤ 2 ^ 126
one_of n j f l h = let term = amount_term j n (λ k. f k ^ 2) l in side_under 1 (f j) (2 ^ 126) (omega arith) (omega (arith, h, term))

pub square_of : (n j : ℕ) (f : ℕ → ℕ) → j < n → amount n (λ k. f k ^ 2) ≤ 2 ^ 126 → f j * f j ≤ 2 ^ 126
square_of n j f l h = let term = amount_term j n (λ k. f k ^ 2) l in omega (arith, h, term, pow-two (f j))

-- a part of a sum
pub part_of : {a b t : ℕ} (m : ℕ) → a ≡ b → b + m ≤ t → a ≤ t
part_of {a} {b} {t} m e h = omega (arith, e, h)

-- ---- what a quantity within its limit holds
pub record AreRunParts (q f : ℕ) : Type 0 where
  pub squares : q ≤ 2 ^ 126
  pub first : f ≤ 2 ^ 126

pub run_parts : (squares pull : ℕ) (s : errors.ErrorSums) → 1 ≤ s.spread → size_by squares pull s ≤ 2 ^ 126 → AreRunParts squares s.first
run_parts squares pull s some h = apart pull s.tail squares s.first (s.top_rows * residual_error s (plan_bound s 0))
    (factor (pow_positive s.spread 2 some) (first_of _ _ h))
  where
    first_of : (a b : ℕ) → a + b ≤ 2 ^ 126 → a ≤ 2 ^ 126
    first_of a b h = omega (arith, h)

    factor : {a b : ℕ} → 1 ≤ a → a * b ≤ 2 ^ 126 → b ≤ 2 ^ 126
    factor {a} {b} h k = omega (arith, k, mul-le-mul_right b h)

    apart : (a b q f t : ℕ) → a + b + q + 2 ^ 40 * (f + t) ≤ 2 ^ 126 → AreRunParts q f
    apart a b q f t h = record { squares = omega (arith, h); first = omega (arith, h) }

-- ---- what is known of the sums e of a step, for multipliers up to 2 r, whose errors count so many times
pub record IsStepOf (p : DesignParts) (c : Condensed) (e : ErrorSums) (r times : ℕ) : Type 0 where
  pub form : IsFormOf p c
  pub step : sums_of e ≡ error_sums_of (design_of p) (held c) r
  pub room : error_size (design_of p) (held c) r ≤ 2 ^ 126
  pub often : 1 ≤ times
  pub few_times : times ≤ 2 ^ 33

module _ {p : DesignParts} {c : Condensed} {e : ErrorSums} {r times : ℕ} (k : IsStepOf p c e r times) where
  pub weight : e.weight_den ≡ (design_of p).cost_denominator
  weight = ap (λ (s : errors.ErrorSums). s.weight_scale) k.step

  pub rho : e.rho ≡ input_floor (design_of p)
  rho = ap (λ (s : errors.ErrorSums). s.rho) k.step

  pub some_weight : 1 ≤ (design_of p).cost_denominator
  some_weight = positive p.cost_den k.form.design.cost_den.low

  pub spread : 1 ≤ (held c).spread
  spread = (spread_range c.fine).0

  pub fit : AreWithin (design_of p) (held c) r
  fit = within (design_of p) (held c) r some_weight spread k.room

  pub some_floor : 1 ≤ 2 * input_floor (design_of p)
  some_floor = doubled _ (floor_range p k.form.design).0

  pub some_rho : 1 ≤ 2 * e.rho
  some_rho = rw rho some_floor

  pub small_rho : e.rho ≤ 2 ^ 31
  small_rho = rw rho (floor_range p k.form.design).1

  pub small_weight : e.weight_den * times ≤ 2 ^ 53
  small_weight = rw weight (through (mul-le-mul (few p k.form.design).weight k.few_times) (omega arith))

  pub parts : (squares : ℕ) → run_size_by (design_of p) (held c) r times squares ≤ 2 ^ 126 →
      AreRunParts ((design_of p).cost_denominator * squares) (sums_by (design_of p) (held c) r times squares).first
  parts squares = run_parts ((design_of p).cost_denominator * squares) (plan_pull (design_of p) (held c) r) (sums_by (design_of p) (held c) r times squares) spread

-- ---- the sums that the code makes fit
pub run_room : (e : ErrorSums) (p : DesignParts) (h : Form) (r times squares : ℕ) → IsDesign p → 1 ≤ h.spread → 1 ≤ r → r ≤ 2 ^ 44 → e.x_box ≤ 2 ^ 31 →
    error_size (design_of p) h r ≤ 2 ^ 126 → e.first ≤ 2 ^ 126 → 1 ≤ times → times ≤ 2 ^ 33 →
    HaveRoom e.radii → sums_of e ≡ sums_by (design_of p) h r times squares → HasErrorRoom e
run_room e p h r times squares design spread some narrow near room first often few_times radii is =
    let d = design_of p in
    let small = few p design in
    let floor = floor_range p design in
    let fit = within d h r (positive p.cost_den design.cost_den.low) spread room in
    let two : 0 < 2 * input_floor d = omega (arith, floor.0) in
    let state = ap (λ (s : errors.ErrorSums). s.state) is in
    let rho = ap (λ (s : errors.ErrorSums). s.rho) is in
    record {
      first = first;
      lead = rw (ap (λ (s : errors.ErrorSums). s.lead) is) (through (ceil_small (plan_pull d h r) (2 * input_floor d) two) fit.pulled);
      tail = rw (ap (λ (s : errors.ErrorSums). s.tail) is) fit.tail;
      rows_some = rw (ap (λ (s : errors.ErrorSums). s.top_rows) is) (one-le-mul (doubled r some) (some_row p design));
      rows = rw (ap (λ (s : errors.ErrorSums). s.top_rows) is) (top_small r _ narrow small.rows);
      entries_some = rw (ap (λ (s : errors.ErrorSums). s.plan_entries) is) (some_entry p design);
      entries = rw (ap (λ (s : errors.ErrorSums). s.plan_entries) is) (through small.entries (omega arith));
      states = rw (ap (λ (s : errors.ErrorSums). s.box_states) is, ← state) (through (mul-le-mul small.states near) (omega arith));
      rho_some = rw rho floor.0;
      rho = rw rho floor.1;
      state = through near (omega arith);
      top_some = rw (ap (λ (s : errors.ErrorSums). s.top) is) (doubled r some);
      top = rw (ap (λ (s : errors.ErrorSums). s.top) is) (twice narrow);
      weight_some = rw (ap (λ (s : errors.ErrorSums). s.weight_scale) is) (one-le-mul (positive p.cost_den design.cost_den.low) often);
      weight = rw (ap (λ (s : errors.ErrorSums). s.weight_scale) is) (through (mul-le-mul small.weight few_times) (omega arith));
      radii = radii;
    }
  where
    twice : {r : ℕ} → r ≤ 2 ^ 44 → 2 * r ≤ 2 ^ 60
    twice {r} h = omega (arith, h)

-- ---- how often an error of the gradient counts
pub carry_few : (k : ℕ) → k ≤ 2 ^ 32 → carry_of k ≤ 2 ^ 33
carry_few k h = ceil_div-le ((k + 1) * (k + 5)) (3 * (k + 3)) (2 ^ 33) (omega arith) (mul-le-mul (omega arith) (omega (arith, h)))

pub carry_some : (k : ℕ) → 1 ≤ carry_of k
carry_some k = least (carry_of k) (3 * (k + 3)) (le-mul-ceil_div ((k + 1) * (k + 5)) (3 * (k + 3)) (omega arith)) (one-le-mul (omega arith) (omega arith))
  where
    least : (n b : ℕ) {a : ℕ} → a ≤ b * n → 1 ≤ a → 1 ≤ n
    least zero b {a} h l = absurd (omega (arith, h, l))
    least (suc n) b {a} h l = omega arith

-- ---- the sums that are given
pub run_sums_given : (e : ErrorSums) (p : DesignParts) (h : Form) (r k s : ℕ) (exponents : List ℕ) → IsDesign p → IsFormFor (design_of p) h → 1 ≤ r → k ≤ 2 ^ 32 →
    sums_of e ≡ run_sums_of (design_of p) h r k s exponents → run_error_size (design_of p) h r k s exponents ≤ 2 ^ 126 → AreSums e
run_sums_given e p h r k s exponents design form some few_steps is room =
    let d = design_of p in
    let spread = few_spread d h form in
    record {
      parts = p;
      held = h;
      r = r;
      first = (run_sums_of d h r k s exponents).first;
      weight = d.cost_denominator * carry_of k;
      design = design;
      form = form;
      bound = some;
      weight_some = one-le-mul (positive p.cost_den design.cost_den.low) (carry_some k);
      weight_few = through (mul-le-mul (few p design).weight (carry_few k few_steps)) (omega arith);
      sums = is;
      room = subst (λ (s : errors.ErrorSums). cost_size s ≤ 2 ^ 126) (sym is) (size_room (d.cost_denominator * mean_squares d h r s exponents) (plan_pull d h r) (run_sums_of d h r k s exponents) spread.0 spread.1 room);
    }
