-- What holds of a form, its sums and gains of one design, and of a controller with these gains.
use Rattle.std.proofs.Common.{◌≡◌, ℕ, ◌+◌, ◌-◌, ◌*◌, ◌^◌, ◌<◌, ◌≤◌, min, Bool, true, false, List, ℤ, pos, ◌≤ℤ◌, unsigned_abs, nat_lt, ◌==◌, if◌then◌else◌, arith, ap, sym, subst, refl, ◌∙◌}
use Rattle.std.proofs.lemmas.Int.{ints}
use Rattle.std.proofs.Math.Nat.{mul-le-mul_left, mul-le-mul_right}
use Rattle.integer_algebra.specs.Sums.{at}
use Rattle.integer_algebra.specs.Sizes.{amount}
use Rattle.integer_algebra.specs.Division.{ceil_div}
use Rattle.integer_algebra.proofs.AmountLaws.{amount_mono}
use Rattle.mat_int.specs.Matrix.{Matrix, entry_of}
use Rattle.qp_model.specs.declared.design_parts.DesignParts.{DesignParts}
use Rattle.qp_model.specs.problem.Design.{Design, entries, rows}
use Rattle.qp_model.specs.problem.Parts.{design_of}
use Rattle.qp_model.specs.form.Form.{Form, IsFormFor}
use Rattle.qp_model.specs.form.FineSizes.{is_fine}
use Rattle.qp_model.specs.form.Class.{form_of}
use Rattle.qp_model.specs.form.Columns.{columns}
use Rattle.qp_model.specs.machine.Controller.{Numbers}
use Rattle.qp_model.specs.machine.AbsoluteSums.{plan_magnitudes, greatest_of}
use Rattle.qp_model.specs.bounds.Built.{gain_column}
use Rattle.qp_model.specs.form.Quantities.{input_floor}
use Rattle.qp_model.specs.bounds.Errors as errors
use Rattle.qp_model.specs.bounds.Errors.{state_bound, combined_bound, gradient_error, gradient_squares, first_cost, plan_pull, error_sums_of, plan_bound, errors_cost}
use Rattle.qp_model.specs.bounds.RealErrors.{has_residual_room, real_gradient, real_plan, real_cost}
use Rattle.qp_model.proofs.SizeFacts.{positive}
use Rattle.qp_model.proofs.SystemLaws.{count_same, solutions_same, column_bound_same, descent_same}
use Rattle.condensed_form.specs.Form.{HasShapes, IsFormOf, held}
use Rattle.condensed_form.specs.declared.condensed.Condensed.{Condensed}
use Rattle.step_error.specs.declared.sums.ErrorSums.{ErrorSums}
use Rattle.step_error.specs.ErrorSums.{AreSums, sums_of}
use Rattle.step_error.proofs.Ceilings.{ceil_rises}
use Rattle.step_error.proofs.FallingLaws.{squares_rise}
use Rattle.step_error.proofs.SumFacts.{few, few_spread, IsBounded, bounded, step_sums, through}
use Rattle.step_error.proofs.DesignSums.{hessian_pair, hessian_row_small, within}
use Rattle.step_error.specs.Gains.{gain_at, missed_gradient, missed_squares, missed_cost, combined_of, has_room, HasSystems, AreSolved}
use Rattle.step_error.specs.Made.{IsMadeFor, IsRunMadeFor, AreSolutionsOf, HasGains}
use Rattle.step_error.specs.CarriedErrors.{carry_of, mean_error, carried_times, run_sums_of}
use Rattle.step_error.specs.RunSums.{mean_squares}
use Rattle.step_error.proofs.RunLaws.{run_parts}
use Rattle.step_error.proofs.SameRuns.{mean}
use Rattle.step_error.proofs.RealCosts.{missed_gradient_le}
use Rattle.step_error.proofs.SameMissed.{squares_same, room_same}

-- ---- numbers of a condensed form
reshape : (c : Condensed) (n k m x y z : ℕ) → x ≡ n → y ≡ k → z ≡ m → HasShapes c n k m → HasShapes c x y z
reshape c n k m x y z e g h shapes = rw (e, g, h) shapes

positive_as : {z : ℤ} {n : ℕ} → z ≡ pos n → 1 ≤ n → pos 1 ≤ℤ z
positive_as {z} {n} e h = rw e (omega (arith, ints, h))

systems : (p : DesignParts) (c : Condensed) → IsFormOf p c → HasSystems c
systems p c is = let fine = is_fine (design_of p) in record {
  shapes = reshape c _ _ _ _ _ _ is.shapes.hess.rows is.shapes.lin.cols is.shapes.g.rows is.shapes;
  pair = hessian_pair fine p c is;
  sums = λ j l. rw (is.shapes.hess.rows ∙ sym is.shapes.hess.cols) (hessian_row_small fine p c is j l);
  limit_den = positive_as is.denominators.limit_den (positive p.limit_den is.design.limit_den.low);
  weight_den = positive_as is.denominators.weight_den (positive p.cost_den is.design.cost_den.low);
  cost_row_den = positive_as is.denominators.cost_row_den (positive p.row_den is.design.row_den.low);
  power = is.denominators.power;
  hess_den = is.denominators.hess_den;
  few = rw is.shapes.lin.cols (few p is.design).states;
}

-- ---- sums
-- what states and multipliers come to is far below its limit
pub combined_small : (s : errors.ErrorSums) → IsBounded s → s.box_states + 1 + s.top_rows ≤ 2 ^ 87
combined_small s b = closed s.top_rows (s.plan_entries * plan_bound s 0) s.box_states _ _ b.rows b.room
  where
    closed : (t n b x y : ℕ) → 1 ≤ t → x + 2 ^ 40 * t * (n + b + 3) + y ≤ 2 ^ 126 → b + 1 + t ≤ 2 ^ 87
    closed t n b x y h k =
        let one : n + b + 3 ≤ t * (n + b + 3) = omega (arith, mul-le-mul_right (n + b + 3) h) in
        let three : t * 3 ≤ t * (n + b + 3) = mul-le-mul_left t (omega arith) in
        omega (arith, k, one, three)

-- ---- the gains of a controller
pub gains_are : (k : Numbers) (f : ℕ) (p_mat : Matrix) (t : List ℤ) (w_mat : Matrix) → HasGains k f p_mat t w_mat → (i : ℕ) → gain_column k i ≡ gain_at p_mat t w_mat i
gains_are k f p_mat t w_mat g i = λ q j.
    if nat_lt i (g.states q) then entry_of (g.state_gains q) j i
    else if i == g.states q then at (g.offsets q) j
    else entry_of (g.dual_gains q) j (i - (g.states q + 1))

-- ---- sums whose errors of the gradient, each with a number added, count so many times
pub record IsMadeBy (p : DesignParts) (r : ℕ) (c : Condensed) (e : ErrorSums) (p_mat : Matrix) (t : List ℤ) (w_mat : Matrix)
    (f times : ℕ) (mean : ℕ → ℕ) : Type 0 where
  pub form : IsFormOf p c
  pub sums : sums_of e ≡
      carried_times times (first_cost (design_of p) (λ j. gradient_error (design_of p) (form_of (design_of p)) r j + mean j))
      (error_sums_of (design_of p) (form_of (design_of p)) r)
  pub given : AreSums e
  pub small : (design_of p).cost_denominator * gradient_squares (design_of p) (λ j. gradient_error (design_of p) (form_of (design_of p)) r j + mean j) ≤ 2 ^ 126
  pub gains : AreSolutionsOf p f p_mat t w_mat

-- nothing added, once
bare : (g : ℕ → ℕ) → (λ j. g j + 0) ≡ g
bare g = λ q j. none (g j) q
  where
    none : (n : ℕ) → n + 0 ≡ n
    none n = omega arith

once : (d : Design) (g : ℕ → ℕ) → 1 * first_cost d (λ j. g j + 0) ≡ first_cost d g
once d g = one (first_cost d (λ j. g j + 0)) ∙ ap (λ (e : ℕ → ℕ). first_cost d e) (bare g)
  where
    one : (n : ℕ) → 1 * n ≡ n
    one n = omega arith

scaled_once : (n : ℕ) → n * 1 ≡ n
scaled_once n = omega arith

module _ {c : Condensed} {e : ErrorSums} {p_mat : Matrix} {t : List ℤ} {w_mat : Matrix} {f : ℕ} {p : DesignParts} {r : ℕ} where
  -- those of a step
  pub step_by : IsMadeFor p r c e p_mat t w_mat f → IsMadeBy p r c e p_mat t w_mat f 1 (λ j. 0)
  step_by o =
      let d = design_of p in
      let h = form_of d in
      let form = o.sums.form in
      record {
        form = form;
        sums = o.sums.sums ∙ sym (λ q. record (error_sums_of d h r) { first = once d (gradient_error d h r) q; weight_scale = scaled_once d.cost_denominator q });
        given = step_sums e p h r form.design form.encloses o.sums.bound o.sums.sums o.sums.room;
        small = subst (λ (g : ℕ → ℕ). d.cost_denominator * gradient_squares d g ≤ 2 ^ 126) (sym (bare (gradient_error d h r)))
            (within d h r (positive p.cost_den form.design.cost_den.low) (few_spread d h form.encloses).0 o.sums.room).weighed;
        gains = o.gains;
      }

  -- those of a run
  pub run_by : {n s : ℕ} {exponents : List ℕ} → IsRunMadeFor p r c e p_mat t w_mat f n s exponents →
      IsMadeBy p r c e p_mat t w_mat f (carry_of n) (mean_error (form_of (design_of p)) s exponents)
  run_by {n} {s} {exponents} o =
      let d = design_of p in
      let h = form_of d in
      record {
        form = o.form;
        sums = o.sums;
        given = o.given;
        small = (run_parts (d.cost_denominator * mean_squares d h r s exponents) (plan_pull d h r) (run_sums_of d h r n s exponents)
            (few_spread d h o.form.encloses).0 o.room).squares;
        gains = o.gains;
      }

  -- the numbers held add as much as the form's
  pub mean_held : {n s : ℕ} {exponents : List ℕ} → IsRunMadeFor p r c e p_mat t w_mat f n s exponents →
      (j : ℕ) → j < (form_of (design_of p)).entries → mean_error (held c) s exponents j ≡ mean_error (form_of (design_of p)) s exponents j
  mean_held {n} {s} {exponents} o j l =
      mean (design_of p) (held c) (form_of (design_of p)) o.form.same o.form.encloses.encloses.entry_count r n s exponents j l

-- ---- one design
-- where the numbers held add as much
module _ (c : Condensed) (e : ErrorSums) (p_mat : Matrix) (t : List ℤ) (w_mat : Matrix) (f : ℕ) (p : DesignParts) (r times : ℕ) (mean added : ℕ → ℕ)
    (o : IsMadeBy p r c e p_mat t w_mat f times mean) (same : (j : ℕ) → j < (form_of (design_of p)).entries → added j ≡ mean j) where
  abbrev d : Design
  d = design_of p

  abbrev h : Form
  h = form_of d

  abbrev x : ℕ → ℕ → ℤ
  x = gain_at p_mat t w_mat

  abbrev s : errors.ErrorSums
  s = sums_of e

  form : IsFormFor d h
  form = o.form.encloses

  -- the stated errors
  abbrev stated : ℕ → ℕ
  stated j = gradient_error d h r j + mean j

  sums_are : s ≡ carried_times times (first_cost d stated) (error_sums_of d h r)
  sums_are = o.sums

  combined_is : combined_of (held c) s.state s.top ≡ combined_bound d r
  combined_is = λ q. o.form.shapes.lin.cols q * (sums_are q).state + 1 + o.form.shapes.g.rows q * (sums_are q).top

  combined_le : combined_of (held c) s.state s.top ≤ 2 ^ 87
  combined_le = rw combined_is (closed (d.states * state_bound d) (rows d) (2 * r)
      (subst (λ (z : errors.ErrorSums). z.box_states + 1 + z.top_rows ≤ 2 ^ 87) sums_are (combined_small s (bounded e o.given))))
    where
      closed : (b m y : ℕ) → b + 1 + y * m ≤ 2 ^ 87 → b + 1 + m * y ≤ 2 ^ 87
      closed b m y h = omega (arith, h)

  pub are_solved : f ≤ 48 → AreSolved c p_mat t w_mat f s.state s.top
  are_solved bits = record {
    systems = systems p c o.form;
    bits = bits;
    state_gains = rw (o.form.shapes.hess.rows, o.form.shapes.lin.cols) o.gains.state_gains;
    offsets = o.gains.offsets ∙ sym o.form.shapes.hess.rows;
    dual_gains = rw (o.form.shapes.hess.rows, o.form.shapes.g.rows) o.gains.dual_gains;
    good = λ i l. solutions_same (held c) h o.form.same f i (x i) (column_in i l) (o.gains.good i (column_in i l));
    within = λ i j l m. rw (column_bound_same (held c) h o.form.same f i (column_in i l))
        (o.gains.within i j (column_in i l) (omega (arith, m, o.form.same.entries)));
    room = rw (descent_same (held c) h o.form.same f) o.gains.room;
    some = (bounded e o.given).top;
    combined = combined_le;
  }
    where
      column_in : (i : ℕ) → i < columns (held c) → i < columns h
      column_in i l = omega (arith, l, count_same (held c) h o.form.same)

  -- ---- the gradient's errors
  abbrev gradient : ℕ → ℕ
  gradient j = missed_gradient h f x (state_bound d) (2 * r) j

  squares_are : missed_squares (held c) f x s.state s.top added ≡ gradient_squares d (λ j. gradient j + mean j)
  squares_are = squares_same (held c) h o.form.same f x s.state s.top added mean same
      ∙ (λ q. amount (form.encloses.entry_count q) (λ j. (missed_gradient h f x (sums_are q).state (sums_are q).top j + mean j) ^ 2))

  squares_le : gradient_squares d (λ j. gradient j + mean j) ≤ gradient_squares d stated
  squares_le = amount_mono (entries d) _ _ (λ j l. squares_rise (more (mean j) (missed_gradient_le p h r f x o.form.design form o.gains.good j l)))
    where
      more : {a b : ℕ} (m : ℕ) → a ≤ b → a + m ≤ b + m
      more {a} {b} m h = omega (arith, h)

  weight_is : unsigned_abs c.weight_den ≡ d.cost_denominator
  weight_is = ap unsigned_abs o.form.denominators.weight_den

  rho_is : s.rho ≡ input_floor d
  rho_is = ap (λ (z : errors.ErrorSums). z.rho) sums_are

  first_is : s.first ≡ times * first_cost d stated
  first_is = ap (λ (z : errors.ErrorSums). z.first) sums_are

  pub squares_small : unsigned_abs c.weight_den * missed_squares (held c) f x s.state s.top added ≤ 2 ^ 126
  squares_small = rw (weight_is, squares_are) (through (mul-le-mul_left d.cost_denominator squares_le) o.small)

  -- ---- what they cost
  pub first_small : missed_cost (held c) f x added (unsigned_abs c.weight_den) times s ≤ s.first
  first_small = lesser (has_room (held c) (combined_of (held c) s.state s.top))
      (rw (weight_is, squares_are, rho_is, first_is) (mul-le-mul_left times (ceil_rises _ _ (2 * input_floor d) (mul-le-mul_left d.cost_denominator squares_le))))
    where
      lesser : (b : Bool) {m n : ℕ} → m ≤ n → (if b then m else n) ≤ n
      lesser true {m} {n} h = h
      lesser false {m} {n} h = omega arith

  room_is : has_room (held c) (combined_of (held c) s.state s.top) ≡ has_residual_room d h r
  room_is = room_same (held c) h o.form.same f x (combined_of (held c) s.state s.top) ∙ ap (λ z. has_room h z) combined_is

  cost_is : missed_cost (held c) f x added (unsigned_abs c.weight_den) times s ≡
      times * first_cost d (λ j. (if has_residual_room d h r then gradient j else gradient_error d h r j) + mean j)
  cost_is = (λ q. if room_is q then times * ceil_div (weight_is q * squares_are q) (2 * rho_is q) else first_is q)
      ∙ pushed (has_residual_room d h r) gradient (gradient_error d h r)
    where
      pushed : (b : Bool) (g e : ℕ → ℕ) → (if b then times * first_cost d (λ j. g j + mean j) else times * first_cost d (λ j. e j + mean j)) ≡
          times * first_cost d (λ j. (if b then g j else e j) + mean j)
      pushed true g e = refl
      pushed false g e = refl

  -- ---- of a controller
  module _ (k : Numbers) (g : HasGains k f p_mat t w_mat) where
    real_first_is : missed_cost (held c) f x added (unsigned_abs c.weight_den) times s ≡ times * first_cost d (λ j. real_gradient d h r k j + mean j)
    real_first_is = cost_is ∙ (λ q. times * first_cost d (λ j. (if has_residual_room d h r
        then missed_gradient h (sym g.bits q) (λ i. sym (gains_are k f p_mat t w_mat g i) q) (state_bound d) (2 * r) j else gradient_error d h r j) + mean j))

    pub real_cost_is : (plan : ℤ) → plan ≡ pos (ceil_div (greatest_of (plan_magnitudes k)) (2 ^ f)) →
        errors_cost s (missed_cost (held c) f x added (unsigned_abs c.weight_den) times s) (min (plan_bound s f) (unsigned_abs plan)) f ≡
        errors_cost (carried_times times (first_cost d stated) (error_sums_of d h r)) (times * first_cost d (λ j. real_gradient d h r k j + mean j)) (real_plan d h r k) f
    real_cost_is plan most = (λ q. errors_cost (sums_are q) (real_first_is q) (bound_is q) f)
      where
        bound_is : min (plan_bound s f) (unsigned_abs plan) ≡ real_plan d h r k
        bound_is = (λ q. min (plan_bound (sums_are q) (sym g.bits q)) (unsigned_abs (most q)))
            ∙ ap (λ (b : ℕ). min (plan_bound (error_sums_of d h r) k.fraction_bits) (ceil_div (greatest_of (plan_magnitudes k)) (2 ^ b))) (sym g.bits)

-- what a step's real errors cost
pub real_once : (d : Design) (h : Form) (r f : ℕ) (k : Numbers) → k.fraction_bits ≡ f →
    errors_cost (carried_times 1 (first_cost d (gradient_error d h r)) (error_sums_of d h r)) (1 * first_cost d (λ j. real_gradient d h r k j + 0))
    (real_plan d h r k) f ≡ real_cost d h r k
real_once d h r f k bits = λ q.
    errors_cost (record (error_sums_of d h r) { weight_scale = scaled_once d.cost_denominator q }) (once d (real_gradient d h r k) q)
    (real_plan d h r k) (sym bits q)
