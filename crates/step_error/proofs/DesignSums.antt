-- The sums of a condensed form's numbers and radii.
use Rattle.std.proofs.Common.{◌≡◌, ℕ, ◌+◌, ◌*◌, ◌^◌, ◌<◌, ◌≤◌, Bool, pos, ◌≤ℤ◌, unsigned_abs, length, arith, ap, sym, ◌∙◌}
use Rattle.std.proofs.Math.Nat.{mul-le-mul, mul-le-mul_left, mul-le-mul_right, one-le-mul}
use Rattle.integer_algebra.specs.Sums.{at}
use Rattle.integer_algebra.specs.Sizes.{size, amount}
use Rattle.integer_algebra.specs.Division.{ceil_div}
use Rattle.integer_algebra.proofs.PowerLaws.{pow_positive}
use Rattle.integer_algebra.proofs.SizeLaws.{amount_term}
use Rattle.mat_int.specs.Enclosures.{AreEnclosures}
use Rattle.mat_int.specs.Matrix.{Matrix, entry_of}
use Rattle.qp_model.specs.declared.design_parts.DesignParts.{DesignParts}
use Rattle.qp_model.specs.machine.Controller.{HasShape}
use Rattle.qp_model.specs.problem.Design.{Design, entries, rows}
use Rattle.qp_model.specs.problem.Parts.{IsDesign, design_of}
use Rattle.qp_model.specs.form.Quantities.{greatest, input_floor}
use Rattle.qp_model.specs.form.Form.{Form, spread_of}
use Rattle.qp_model.specs.bounds.Errors as errors
use Rattle.qp_model.specs.bounds.Errors.{plan_pull, combined_bound, trace_sum, gradient_squares, gradient_error, error_sums_of, error_size, state_bound, linear_sum, constant_sum, plan_row_sum}
use Rattle.qp_model.proofs.SizeFacts.{some_entry, some_row, positive}
use Rattle.condensed_form.specs.Form.{IsFormIn, held}
use Rattle.condensed_form.specs.declared.condensed.Condensed.{Condensed}
use Rattle.condensed_form.proofs.FormSums.{far_hessian, far_linear, far_constant, far_plan, linear_numbers, constant_numbers, diagonal_numbers, hessian_row, plan_numbers, state_numbers}
use Rattle.condensed_form.proofs.HeldLaws.{least_equal}
use Rattle.step_error.specs.declared.radii.Radii.{Radii}
use Rattle.step_error.specs.declared.sums.ErrorSums.{ErrorSums}
use Rattle.step_error.specs.ErrorSums.{farthest_entry, entry_squares, sums_of, size_by, AreRadii, HaveRoom, HasErrorRoom}
use Rattle.step_error.proofs.Ceilings.{ceil_small}
use Rattle.step_error.proofs.Farthest.{radius_within, radii_within, all_within, column_within}
use Rattle.step_error.proofs.SumFacts.{few, floor_range, through, doubled}

-- a matrix of midpoints and one of radii
pair_of : (mid rad : Matrix) (m n : ℕ) → HasShape mid m n → HasShape rad m n → ((i j : ℕ) → i < m → j < n → pos 0 ≤ℤ entry_of rad i j) → AreEnclosures mid rad
pair_of mid rad m n h k low = record { rows = k.rows ∙ sym h.rows; cols = k.cols ∙ sym h.cols; nonnegative = rw (h.rows, h.cols) low }

module _ (fine : Bool) (p : DesignParts) (c : Condensed) (is : IsFormIn fine p c) where
  -- ---- the numbers and their radii
  pub hessian_pair : AreEnclosures c.hess c.hess_rad
  hessian_pair = pair_of c.hess c.hess_rad _ _ is.shapes.hess is.shapes.hess_rad is.radii.hess

  pub linear_pair : AreEnclosures c.lin c.lin_rad
  linear_pair = pair_of c.lin c.lin_rad _ _ is.shapes.lin is.shapes.lin_rad is.radii.lin

  pub plan_pair : AreEnclosures c.g c.g_rad
  plan_pair = pair_of c.g c.g_rad _ _ is.shapes.g is.shapes.g_rad is.radii.g

  pub constant_pair : length c.off_rad.items ≡ length c.off.items
  constant_pair = is.shapes.off_rad ∙ sym is.shapes.off

  pub square : c.hess.cols ≡ length c.hess.rows
  square = is.shapes.hess.cols ∙ sym is.shapes.hess.rows

  -- ---- the cost's numbers
  pub linear_is : amount (length c.lin.rows) (λ j. amount c.lin.cols (far_linear c j)) ≡ amount (length c.hess.rows) (λ j. amount c.lin.cols (far_linear c j))
  linear_is = ap (λ n. amount n (λ j. amount c.lin.cols (far_linear c j))) (is.shapes.lin.rows ∙ sym is.shapes.hess.rows)

  pub linear_small : amount (length c.lin.rows) (λ j. amount c.lin.cols (far_linear c j)) ≤ 2 ^ 126
  linear_small = rw (is.shapes.lin.rows, is.shapes.lin.cols) (through (linear_numbers fine p c is) is.sizes.cost_room)

  pub constant_is : amount (length c.off.items) (far_constant c) ≡ amount (length c.hess.rows) (far_constant c)
  constant_is = ap (λ n. amount n (far_constant c)) (is.shapes.off ∙ sym is.shapes.hess.rows)

  pub constant_small : amount (length c.off.items) (far_constant c) ≤ 2 ^ 126
  constant_small = rw is.shapes.off (through (constant_numbers fine p c is) is.sizes.cost_room)

  pub diagonal_small : amount (length c.hess.rows) (λ j. far_hessian c j j) ≤ 2 ^ 126
  diagonal_small = rw is.shapes.hess.rows (through (diagonal_numbers fine p c is) is.sizes.cost_room)

  pub hessian_row_small : (j : ℕ) → j < length c.hess.rows → amount c.hess.cols (far_hessian c j) ≤ 2 ^ 126
  hessian_row_small j l = rw is.shapes.hess.cols (through (hessian_row fine p c is j (rw is.shapes.hess.rows at l)) is.sizes.cost_room)

  -- ---- the limits' numbers
  pub rows_is : amount (length c.g.rows) (λ i. amount c.g.cols (far_plan c i)) ≡ amount (length c.g.rows) (λ i. amount (length c.hess.rows) (far_plan c i))
  rows_is = ap (λ n. amount (length c.g.rows) (λ i. amount n (far_plan c i))) (is.shapes.g.cols ∙ sym is.shapes.hess.rows)

  pub rows_small : amount (length c.g.rows) (λ i. amount c.g.cols (far_plan c i)) ≤ 2 ^ 126
  rows_small = rw (is.shapes.g.rows, is.shapes.g.cols) (through (plan_numbers fine p c is) is.sizes.limit_room)

  -- ---- what they are over, and the least input weight
  pub scale_one : 1 ≤ unsigned_abs c.hess_den
  scale_one = positive c.hess_den is.denominators.hess_den

  pub rows_scale_one : 1 ≤ unsigned_abs c.row_den
  rows_scale_one = positive c.row_den is.denominators.row_den

  pub weight_is : unsigned_abs c.weight_den ≡ (design_of p).cost_denominator
  weight_is = ap unsigned_abs is.denominators.weight_den

  pub count_is : (count : ℕ) → count ≡ length c.g.rows → count ≡ rows (design_of p)
  count_is count e = e ∙ is.shapes.g.rows

  pub floor_is : unsigned_abs c.input_floor ≡ input_floor (design_of p)
  floor_is = least_equal p c.input_floor is.design is.denominators.input_floor

  -- ---- on the way to the sums
  pub reach_is : (r state count : ℕ) → state ≡ state_bound (design_of p) → count ≡ length c.g.rows → p.states * state + 1 + 2 * r * count ≡ combined_bound (design_of p) r
  reach_is r state count e g = close p.states (state_bound (design_of p)) r (rows (design_of p)) e (g ∙ is.shapes.g.rows)
    where
      close : (n s r m : ℕ) → state ≡ s → count ≡ m → n * state + 1 + 2 * r * count ≡ n * s + 1 + m * (2 * r)
      close n s r m e g = rw (e, g) (turn n s r m)
        where
          turn : (n s r m : ℕ) → n * s + 1 + 2 * r * m ≡ n * s + 1 + m * (2 * r)
          turn n s r m = omega arith

  pub squares_is : (r scale reach : ℕ) → scale ≡ unsigned_abs c.hess_den → reach ≡ combined_bound (design_of p) r →
      entry_squares (length c.hess.rows) (farthest_entry c.hess c.hess_rad) scale reach ≡ gradient_squares (design_of p) (gradient_error (design_of p) (held c) r)
  squares_is r scale reach e g = λ i. amount (is.shapes.hess.rows i) (λ j. (ceil_div (far_hessian c j j) (2 * e i) * g i + ceil_div (amount (length c.hess.rows) (far_hessian c j)) (e i)) ^ 2)

  -- ---- the radii
  pub hessian_radii_small : (i : ℕ) → i < length c.hess_rad.rows → size c.hess_rad.cols (entry_of c.hess_rad i) ≤ 2 ^ 126
  hessian_radii_small i l = rw is.shapes.hess_rad.cols (through (radii_within (entries (design_of p)) (entry_of c.hess i) (entry_of c.hess_rad i))
      (through (hessian_row fine p c is i (rw is.shapes.hess_rad.rows at l)) is.sizes.cost_room))

  pub linear_radii_small : (j : ℕ) → j < length c.lin_rad.rows → size c.lin_rad.cols (entry_of c.lin_rad j) ≤ 2 ^ 126
  linear_radii_small j l = rw is.shapes.lin_rad.cols (through (radii_within p.states (entry_of c.lin j) (entry_of c.lin_rad j))
      (through (amount_term j (entries (design_of p)) (λ j. amount p.states (far_linear c j)) (rw is.shapes.lin_rad.rows at l)) (through (linear_numbers fine p c is) is.sizes.cost_room)))

  pub constant_radius_small : (j : ℕ) → j < length c.off_rad.items → unsigned_abs (at c.off_rad.items j) ≤ 2 ^ 126
  constant_radius_small j l = through (radius_within (at c.off.items j) (at c.off_rad.items j))
      (through (amount_term j (entries (design_of p)) (far_constant c) (rw is.shapes.off_rad at l)) (through (constant_numbers fine p c is) is.sizes.cost_room))

  pub column_radii_small : (j : ℕ) → j < c.g_rad.cols → size (length c.g_rad.rows) (λ i. entry_of c.g_rad i j) ≤ 2 ^ 126
  column_radii_small j l = rw is.shapes.g_rad.rows (through (column_within (rows (design_of p)) (entries (design_of p)) j (entry_of c.g) (entry_of c.g_rad) (rw is.shapes.g_rad.cols at l))
      (through (plan_numbers fine p c is) is.sizes.limit_room))

  pub plan_radii_small : amount (length c.g_rad.rows) (λ i. size c.g_rad.cols (entry_of c.g_rad i)) ≤ 2 ^ 126
  plan_radii_small = rw (is.shapes.g_rad.rows, is.shapes.g_rad.cols) (through (all_within (rows (design_of p)) (entries (design_of p)) (entry_of c.g) (entry_of c.g_rad))
      (through (plan_numbers fine p c is) is.sizes.limit_room))

  pub state_radii_small : amount (length c.e_rad.rows) (λ i. size c.e_rad.cols (entry_of c.e_rad i)) ≤ 2 ^ 126
  state_radii_small = rw (is.shapes.e_rad.rows, is.shapes.e_rad.cols) (through (all_within (rows (design_of p)) p.states (entry_of c.e) (entry_of c.e_rad))
      (through (state_numbers fine p c is) is.sizes.limit_room))

  -- sums of the radii, as the code adds them up
  pub radii_are : (r : Radii) → r.h_rad ≡ greatest (length c.hess_rad.rows) (λ i. size c.hess_rad.cols (entry_of c.hess_rad i)) →
      r.f_rad ≡ greatest (length c.lin_rad.rows) (λ j. size c.lin_rad.cols (entry_of c.lin_rad j)) →
      r.o_rad ≡ greatest (length c.off_rad.items) (λ j. unsigned_abs (at c.off_rad.items j)) →
      r.g_col ≡ greatest c.g_rad.cols (λ j. size (length c.g_rad.rows) (λ i. entry_of c.g_rad i j)) →
      r.g_sum ≡ amount (length c.g_rad.rows) (λ i. size c.g_rad.cols (entry_of c.g_rad i)) →
      r.e_sum ≡ amount (length c.e_rad.rows) (λ i. size c.e_rad.cols (entry_of c.e_rad i)) →
      r.cost_scale ≡ (design_of p).cost_denominator * (design_of p).row_denominator ^ 2 → r.row_scale ≡ (design_of p).limit_denominator → r.spread ≡ spread_of c.fine →
      AreRadii (design_of p) (held c) r
  radii_are r hess lin off column plan state cost row class =
      let entries = sym is.shapes.hess.rows in
      let states = sym is.shapes.lin.cols in
      let rows = sym is.shapes.g.rows in
      record {
        hessian = hess ∙ (λ t. greatest ((is.shapes.hess_rad.rows ∙ entries) t) (λ i. size ((is.shapes.hess_rad.cols ∙ entries) t) (entry_of c.hess_rad i)));
        linear = lin ∙ (λ t. greatest ((is.shapes.lin_rad.rows ∙ entries) t) (λ j. size ((is.shapes.lin_rad.cols ∙ states) t) (entry_of c.lin_rad j)));
        constant = off ∙ (λ t. greatest ((is.shapes.off_rad ∙ entries) t) (λ j. unsigned_abs (at c.off_rad.items j)));
        column = column ∙ (λ t. greatest ((is.shapes.g_rad.cols ∙ entries) t) (λ j. size ((is.shapes.g_rad.rows ∙ rows) t) (λ i. entry_of c.g_rad i j)));
        plan = plan ∙ (λ t. amount ((is.shapes.g_rad.rows ∙ rows) t) (λ i. size ((is.shapes.g_rad.cols ∙ entries) t) (entry_of c.g_rad i)));
        state = state ∙ (λ t. amount ((is.shapes.e_rad.rows ∙ rows) t) (λ i. size ((is.shapes.e_rad.cols ∙ states) t) (entry_of c.e_rad i)));
        cost_scale = cost;
        row_scale = row;
        spread = class;
      }

-- what the quantity `error` holds
pub record AreWithin (d : Design) (h : Form) (r : ℕ) : Type 0 where
  pub squares : gradient_squares d (gradient_error d h r) ≤ 2 ^ 126
  pub weighed : d.cost_denominator * gradient_squares d (gradient_error d h r) ≤ 2 ^ 126
  pub pulling : state_bound d * linear_sum h + constant_sum h + 2 * r * plan_row_sum h ≤ 2 ^ 126
  pub pulled : plan_pull d h r ≤ 2 ^ 126
  pub tail : d.cost_denominator * combined_bound d r * trace_sum h ≤ 2 ^ 126

pub within : (d : Design) (h : Form) (r : ℕ) → 1 ≤ d.cost_denominator → 1 ≤ h.spread → error_size d h r ≤ 2 ^ 126 → AreWithin d h r
within d h r some spread room =
    let parts = apart (plan_pull d h r) (d.cost_denominator * combined_bound d r * trace_sum h) (d.cost_denominator * gradient_squares d (gradient_error d h r)) _
    (factor (pow_positive h.spread 2 spread) (first_of _ _ _ _ _ _ _ room)) in
    record {
      squares = factor some parts.2;
      weighed = parts.2;
      pulling = factor some parts.0;
      pulled = parts.0;
      tail = parts.1;
    }
  where
    first_of : (x a b c e f g : ℕ) → x + a + b + c + e + f + g ≤ 2 ^ 126 → x ≤ 2 ^ 126
    first_of x a b c e f g h = omega (arith, h)

    apart : (a b k e : ℕ) → a + b + k + e ≤ 2 ^ 126 → (a ≤ 2 ^ 126) × (b ≤ 2 ^ 126) × (k ≤ 2 ^ 126)
    apart a b k e h = (omega (arith, h), omega (arith, h), omega (arith, h))

    factor : {a b : ℕ} → 1 ≤ a → a * b ≤ 2 ^ 126 → b ≤ 2 ^ 126
    factor {a} {b} h k = omega (arith, k, mul-le-mul_right b h)

-- ---- small products
pub reach_small : (w n s r k : ℕ) → w ≤ 2 ^ 20 → n ≤ 6 → s ≤ 2 ^ 31 → r ≤ 2 ^ 44 → k ≤ 372 → w * (n * s + 1 + 2 * r * k) ≤ 2 ^ 80
reach_small w n s r k a b c d e = closed (mul-le-mul a (added (mul-le-mul b c) (mul-le-mul (mul-le-mul_left 2 d) e)))
  where
    added : {x y u v : ℕ} → x ≤ u → y ≤ v → x + 1 + y ≤ u + 1 + v
    added {x} {y} {u} {v} h o = omega (arith, h, o)

    closed : w * (n * s + 1 + 2 * r * k) ≤ 2 ^ 20 * (6 * 2 ^ 31 + 1 + 2 * 2 ^ 44 * 372) → w * (n * s + 1 + 2 * r * k) ≤ 2 ^ 80
    closed h = omega (arith, h)

pub top_small : (r k : ℕ) → r ≤ 2 ^ 44 → k ≤ 372 → 2 * r * k ≤ 2 ^ 60
top_small r k h o = let b = mul-le-mul (mul-le-mul_left 2 h) o in omega (arith, b)

-- the sums that the code makes fit
pub room_of : (e : ErrorSums) (squares plan_pull : ℕ) (p : DesignParts) (h : Form) (r : ℕ) → IsDesign p → 1 ≤ r → r ≤ 2 ^ 44 → e.x_box ≤ 2 ^ 31 →
    e.first ≡ ceil_div squares (2 * e.rho) → squares ≤ 2 ^ 126 → e.lead ≡ ceil_div plan_pull (2 * e.rho) → plan_pull ≤ 2 ^ 126 → e.tail ≤ 2 ^ 126 →
    HaveRoom e.radii → sums_of e ≡ error_sums_of (design_of p) h r → HasErrorRoom e
room_of e squares plan_pull p h r design some narrow near first squares_small lead pull_small tail radii is =
    let small = few p design in
    let floor = floor_range p design in
    let state = ap (λ (s : errors.ErrorSums). s.state) is in
    let rho = ap (λ (s : errors.ErrorSums). s.rho) is in
    let two : 0 < 2 * e.rho = rw rho (omega (arith, floor.0)) in
    record {
      first = rw first (through (ceil_small squares (2 * e.rho) two) squares_small);
      lead = rw lead (through (ceil_small plan_pull (2 * e.rho) two) pull_small);
      tail = tail;
      rows_some = rw (ap (λ (s : errors.ErrorSums). s.top_rows) is) (one-le-mul (doubled r some) (some_row p design));
      rows = rw (ap (λ (s : errors.ErrorSums). s.top_rows) is) (top_small r _ narrow small.rows);
      entries_some = rw (ap (λ (s : errors.ErrorSums). s.plan_entries) is) (some_entry p design);
      entries = rw (ap (λ (s : errors.ErrorSums). s.plan_entries) is) (through small.entries (omega arith));
      states = rw (ap (λ (s : errors.ErrorSums). s.box_states) is, ← state) (through (mul-le-mul small.states near) (omega arith));
      rho_some = rw rho floor.0;
      rho = rw rho floor.1;
      state = through near (omega arith);
      top_some = rw (ap (λ (s : errors.ErrorSums). s.top) is) (doubled r some);
      top = rw (ap (λ (s : errors.ErrorSums). s.top) is) (twice narrow);
      weight_some = rw (ap (λ (s : errors.ErrorSums). s.weight_scale) is) (positive p.cost_den design.cost_den.low);
      weight = rw (ap (λ (s : errors.ErrorSums). s.weight_scale) is) (through small.weight (omega arith));
      radii = radii;
    }
  where
    twice : {r : ℕ} → r ≤ 2 ^ 44 → 2 * r ≤ 2 ^ 60
    twice {r} h = omega (arith, h)

-- the quantity by them
pub size_of : (e : ErrorSums) (squares pull : ℕ) (d : Design) (h : Form) (r : ℕ) → squares ≡ d.cost_denominator * gradient_squares d (gradient_error d h r) → pull ≡ plan_pull d h r →
    sums_of e ≡ error_sums_of d h r → size_by squares pull (sums_of e) ≡ error_size d h r
size_of e squares pull d h r a b is = (λ i. size_by (a i) (b i) (is i)) ∙ turned _ _ _ _ _ _ _
  where
    turned : (x a b c e f g : ℕ) → x + (a + b + c + e + f + g) ≡ x + a + b + c + e + f + g
    turned x a b c e f g = omega arith
