-- Two controllers that are built for one design and policy agree in all but their gains, and the width and the bounds that follow from these.
use Rattle.std.proofs.Common.{◌≡◌, ℕ, ◌+◌, ◌*◌, ◌^◌, ◌<◌, ℤ, pos, ◌*ℤ◌, unsigned_abs, List, [], length, slice_index_or, arith, refl, ap, sym, subst, ◌∙◌}
use Rattle.std.proofs.lemmas.List.{same_lists, get_or_default}
use Rattle.integer_algebra.specs.Sums.{at}
use Rattle.integer_algebra.specs.Division.{round_of}
use Rattle.mat_int.specs.Matrix.{Matrix, row_of, entry_of}
use Rattle.qp_model.specs.problem.Design.{Design, entries, rows}
use Rattle.qp_model.specs.problem.Parts.{design_of}
use Rattle.qp_model.specs.form.Class.{form_of}
use Rattle.qp_model.specs.bounds.Choices.{multiplier_of, step_count, violation_bound, row_violation_bound, undercut_bound}
use Rattle.qp_model.specs.bounds.Errors.{error_sums_of}
use Rattle.qp_model.specs.bounds.RealErrors.{real_cost}
use Rattle.qp_model.specs.machine.Controller.{Numbers, HasShape, plan_length}
use Rattle.qp_model.specs.machine.AbsoluteSums.{greatest_sum}
use Rattle.qp_model.specs.problem.Policy.{Plans}
use Rattle.qp_model.specs.declared.design_parts.DesignParts.{DesignParts}
use Rattle.qp_model.specs.bounds.Printed.{Printed}
use Rattle.overflow_check.specs.Width.{IsWidth}
use Rattle.step_error.specs.Choice.{IsChoice}
use Rattle.controller_maker.proofs.Classes.{entries_are, states_are, rows_are}
use Rattle.controller_maker.proofs.Tables.{row_long, shape_as, plan_long}
use Rattle.design_engine.specs.Targets.{Targets, targets_of, half_target, error_limit}
use Rattle.design_engine.specs.Bounds.{margin_of, printed_multiplier}
use Rattle.design_engine.specs.Built.{IsBuilt}
use Rattle.design_engine.specs.Agreement.{HaveSameGains, AreIdentical, AgreementLaw}
use Rattle.design_engine.proofs.OneOfEach.{one_margin, one_exponent, one_exponents, one_choice}

-- ---- lists and matrices of one shape with the same entries
same_numbers : (xs ys : List ℤ) (n : ℕ) → length xs ≡ n → length ys ≡ n → ((k : ℕ) → k < n → at xs k ≡ at ys k) → xs ≡ ys
same_numbers xs ys n e f h = same_lists xs ys (e ∙ sym f) (λ k d l.
    get_or_default xs k d (pos 0) l ∙ h k (omega (arith, l, e)) ∙ sym (get_or_default ys k d (pos 0) (omega (arith, l, e, f))))

same_matrix : (a b : Matrix) (h w : ℕ) → HasShape a h w → HasShape b h w → ((i j : ℕ) → i < h → j < w → entry_of a i j ≡ entry_of b i j) → a ≡ b
same_matrix a b h w s t e =
    let cols : a.cols ≡ b.cols = s.cols ∙ sym t.cols in
    let rows : a.rows ≡ b.rows = same_lists a.rows b.rows (s.rows ∙ sym t.rows) (λ i d l.
    get_or_default a.rows i d [] l ∙
    same_numbers (row_of a i) (row_of b i) w (row_long a h w i s (omega (arith, l, s.rows))) (row_long b h w i t (omega (arith, l, s.rows)))
    (λ j k. e i j (omega (arith, l, s.rows)) k) ∙
    sym (get_or_default b.rows i d [] (omega (arith, l, s.rows, t.rows)))) in
    λ i. record { cols = cols i; rows = rows i }

-- ---- the choice of bits, by either name of R
choice_same : (d : Design) (t : Targets) (r q f g : ℕ) → r ≡ q → IsChoice (error_sums_of d (form_of d) r) d.grid (error_limit t r) f →
    IsChoice (error_sums_of d (form_of d) q) d.grid (error_limit t q) g → f ≡ g
choice_same d t r q f g e x y =
    one_choice (error_sums_of d (form_of d) q) d.grid (error_limit t q) f g (subst (λ (n : ℕ). IsChoice (error_sums_of d (form_of d) n) d.grid (error_limit t n) f) e x) y

-- ---- the width, of the greatest sum
one_width : (g w v : ℕ) → IsWidth g w → IsWidth g v → w ≡ v
one_width g w v h k = omega (arith, h.least v k.two k.holds, k.least w h.two h.holds)

-- ---- the law
module _ (p : DesignParts) (plans : Plans) (c other : Numbers) (b printed : Printed) (h : IsBuilt p plans c b) (k : IsBuilt p plans other printed) where
  abbrev d : Design
  d = design_of p

  abbrev t : Targets
  t = targets_of p

  margin : margin_of b ≡ margin_of printed
  margin = one_margin p plans h.made.design h.policy (margin_of b) (margin_of printed) h.margin k.margin

  r : printed_multiplier b ≡ printed_multiplier printed
  r = ap multiplier_of margin

  version : c.version ≡ other.version
  version = h.made.version ∙ sym k.made.version

  states : c.states ≡ other.states
  states = h.made.made.sizes.states ∙ sym k.made.made.sizes.states

  inputs : c.inputs ≡ other.inputs
  inputs = h.made.made.sizes.inputs ∙ sym k.made.made.sizes.inputs

  stages : c.stages ≡ other.stages
  stages = h.made.made.sizes.stages ∙ sym k.made.made.sizes.stages

  limits : c.rows ≡ other.rows
  limits = h.made.made.sizes.rows ∙ sym k.made.made.sizes.rows

  grid : c.grid_bits ≡ other.grid_bits
  grid = h.made.made.sizes.grid ∙ sym k.made.made.sizes.grid

  length_same : plan_length c ≡ plan_length other
  length_same = λ i. inputs i * stages i

  exponent : c.step_exponent ≡ other.step_exponent
  exponent = one_exponent d c.step_exponent other.step_exponent h.made.exponent k.made.exponent

  exponents : c.exponents ≡ other.exponents
  exponents = one_exponents d other.step_exponent c.exponents other.exponents (rw exponent at h.made.exponents) k.made.exponents

  steps : c.steps ≡ other.steps
  steps = h.made.steps ∙ (λ i. step_count (exponent i) (r i) (half_target t)) ∙ sym k.made.steps

  bits : c.fraction_bits ≡ other.fraction_bits
  bits = choice_same d t (printed_multiplier b) (printed_multiplier printed) c.fraction_bits other.fraction_bits r h.made.bits k.made.bits

  clamp : c.clamp ≡ other.clamp
  clamp = h.made.made.clamp ∙ (λ i. pos (2 * r i * 2 ^ (bits i + exponent i))) ∙ sym k.made.made.clamp

  words : c.words ≡ other.words
  words = h.made.controller.form.sized.words ∙ (λ i. states i + limits i + 2 * length_same i) ∙ sym k.made.controller.form.sized.words

  rounded_same : (z : ℤ) → round_of (pos (2 ^ c.fraction_bits) *ℤ z) (form_of d).rows_scale ≡ round_of (pos (2 ^ other.fraction_bits) *ℤ z) (form_of d).rows_scale
  rounded_same z = λ i. round_of (pos (2 ^ bits i) *ℤ z) (form_of d).rows_scale

  low : c.low ≡ other.low
  low = same_numbers c.low other.low d.states
      (h.made.controller.form.sized.shaped.low ∙ h.made.made.sizes.states) (k.made.controller.form.sized.shaped.low ∙ k.made.made.sizes.states)
      (λ j l. h.made.made.sizes.low j l ∙ sym (k.made.made.sizes.low j l))

  high : c.high ≡ other.high
  high = same_numbers c.high other.high d.states
      (h.made.controller.form.sized.shaped.high ∙ h.made.made.sizes.states) (k.made.controller.form.sized.shaped.high ∙ k.made.made.sizes.states)
      (λ j l. h.made.made.sizes.high j l ∙ sym (k.made.made.sizes.high j l))

  bounds : c.bounds ≡ other.bounds
  bounds = same_numbers c.bounds other.bounds (rows d)
      (h.made.controller.form.sized.shaped.bounds ∙ h.made.made.sizes.rows) (k.made.controller.form.sized.shaped.bounds ∙ k.made.made.sizes.rows)
      (λ j l. h.made.made.rows.bounds j (rw (rows_are d) l) ∙ rounded_same ((form_of d).numbers.bound j) ∙ sym (k.made.made.rows.bounds j (rw (rows_are d) l)))

  plan_rows : c.plan_rows ≡ other.plan_rows
  plan_rows = same_matrix c.plan_rows other.plan_rows (rows d) (entries d)
      (shape_as _ _ _ _ _ h.made.made.sizes.rows (plan_long d c h.made.made.sizes.inputs h.made.made.sizes.stages) h.made.controller.form.sized.shaped.plan_rows)
      (shape_as _ _ _ _ _ k.made.made.sizes.rows (plan_long d other k.made.made.sizes.inputs k.made.made.sizes.stages) k.made.controller.form.sized.shaped.plan_rows)
      (λ i j l m. h.made.made.rows.plan_rows i j (rw (rows_are d) l) (rw (entries_are d) m) ∙ rounded_same ((form_of d).numbers.by_plan i j) ∙
      sym (k.made.made.rows.plan_rows i j (rw (rows_are d) l) (rw (entries_are d) m)))

  state_rows : c.state_rows ≡ other.state_rows
  state_rows = same_matrix c.state_rows other.state_rows (rows d) d.states
      (shape_as _ _ _ _ _ h.made.made.sizes.rows h.made.made.sizes.states h.made.controller.form.sized.shaped.state_rows)
      (shape_as _ _ _ _ _ k.made.made.sizes.rows k.made.made.sizes.states k.made.controller.form.sized.shaped.state_rows)
      (λ i j l m. h.made.made.rows.state_rows i j (rw (rows_are d) l) (rw (states_are d) m) ∙ rounded_same ((form_of d).numbers.by_state i j) ∙
      sym (k.made.made.rows.state_rows i j (rw (rows_are d) l) (rw (states_are d) m)))

  -- with these gains and widths
  numbers_with : (x y u v : Matrix) (s z : List ℤ) (w n : ℕ) → x ≡ y → s ≡ z → u ≡ v → w ≡ n →
      record c { state_gains = x; offsets = s; dual_gains = u; width = w } ≡ record other { state_gains = y; offsets = z; dual_gains = v; width = n }
  numbers_with x y u v s z w n state constant dual wide i = record {
    version = version i;
    states = states i;
    inputs = inputs i;
    stages = stages i;
    rows = limits i;
    fraction_bits = bits i;
    grid_bits = grid i;
    step_exponent = exponent i;
    width = wide i;
    steps = steps i;
    clamp = clamp i;
    words = words i;
    exponents = exponents i;
    low = low i;
    high = high i;
    state_gains = state i;
    offsets = constant i;
    dual_gains = dual i;
    plan_rows = plan_rows i;
    state_rows = state_rows i;
    bounds = bounds i;
  }

  -- with these widths, violations, gaps and undercuts
  bounds_with : (w n : ℕ) (v x g y u z : ℤ) (own rows : List ℤ) → w ≡ n → v ≡ x → own ≡ rows → g ≡ y → u ≡ z →
      record b { width = w; violation = v; row_violations = own; gap = g; undercut = u } ≡
      record printed { width = n; violation = x; row_violations = rows; gap = y; undercut = z }
  bounds_with w n v x g y u z own rows wide most each gap under i = record {
    version = (h.bounds.version ∙ version ∙ sym k.bounds.version) i;
    margin = (margin i).units;
    lean = (h.lean ∙ sym k.lean) i;
    cost = (margin i).cost;
    multiplier = (h.bounds.multiplier ∙ ap pos r ∙ sym k.bounds.multiplier) i;
    step = (h.bounds.step ∙ exponent ∙ sym k.bounds.step) i;
    steps = (h.bounds.steps ∙ steps ∙ sym k.bounds.steps) i;
    bits = (h.bounds.bits ∙ bits ∙ sym k.bounds.bits) i;
    width = wide i;
    words = (h.bounds.words ∙ words ∙ sym k.bounds.words) i;
    violation = most i;
    row_violations = each i;
    gap = gap i;
    undercut = under i;
  }

  -- with the same gains
  all_same : HaveSameGains c other → AreIdentical c other b printed
  all_same g = record {
    numbers = whole;
    bounds = bounds_with b.width printed.width b.violation printed.violation b.gap printed.gap b.undercut printed.undercut b.row_violations printed.row_violations
        (h.bounds.width ∙ width ∙ sym k.bounds.width) violation row_violations (h.bounds.gap ∙ ap pos errors ∙ sym k.bounds.gap)
        (h.bounds.undercut ∙ (λ j. pos (undercut_bound (r j) (unsigned_abs (violation j)))) ∙ sym k.bounds.undercut);
  }
    where
      numbers_by : (w n : ℕ) → w ≡ n → record c { width = w } ≡ record other { width = n }
      numbers_by w n = numbers_with c.state_gains other.state_gains c.dual_gains other.dual_gains c.offsets other.offsets w n g.state_gains g.offsets g.dual_gains

      sums : greatest_sum c ≡ greatest_sum other
      sums = ap greatest_sum (numbers_by c.width c.width refl)

      width : c.width ≡ other.width
      width = one_width (greatest_sum other) c.width other.width (rw sums at h.made.width) k.made.width

      whole : c ≡ other
      whole = numbers_by c.width other.width width

      errors : real_cost d (form_of d) (printed_multiplier b) c ≡ real_cost d (form_of d) (printed_multiplier printed) other
      errors = λ i. real_cost d (form_of d) (r i) (whole i)

      violation : b.violation ≡ printed.violation
      violation = h.bounds.violation ∙ (λ j. pos (violation_bound (exponent j) (r j) (steps j) (errors j))) ∙ sym k.bounds.violation

      row_violations : b.row_violations ≡ printed.row_violations
      row_violations = same_numbers b.row_violations printed.row_violations c.rows h.bounds.row_count (k.bounds.row_count ∙ sym limits) (λ i l.
          h.bounds.row_violations i l ∙ (λ j. pos (row_violation_bound (slice_index_or (exponents j) i 0) (exponent j) (r j) (steps j) (errors j))) ∙
          sym (k.bounds.row_violations i (omega (arith, l, limits))))

pub agreement : AgreementLaw
agreement p plans c other b printed h k = record {
  numbers = numbers_with p plans c other b printed h k _ _ _ _ _ _ other.width other.width refl refl refl refl;
  bounds = bounds_with p plans c other b printed h k printed.width printed.width printed.violation printed.violation printed.gap printed.gap printed.undercut printed.undercut
      printed.row_violations printed.row_violations refl refl refl refl refl;
  followed = all_same p plans c other b printed h k;
}
