-- From the parts of a controller that are made of a design to what is promised of it.
use Rattle.std.proofs.Common.{◌≡◌, inl, inr, Option, Some, None, is_some, Bool, true, false, not, ℕ, ◌+◌, ◌*◌, ◌^◌, ◌<◌, ◌≤◌, ℤ, pos, ◌≤ℤ◌, List, length, unsigned_abs, arith, refl, ap, sym, subst, ◌∙◌, le_refl}
use Rattle.std.specs.Option.{SomeIff}
use Rattle.std.proofs.lemmas.Bool.{cases_lt}
use Rattle.std.proofs.lemmas.Int.{ints}
use Rattle.std.proofs.lemmas.Nat.{mul-le}
use Rattle.std.proofs.lemmas.Grind.{common_steps}
use Rattle.std.proofs.lemmas.List.FromFn.{fill_by_all}
use Rattle.integer_algebra.specs.Sums.{at}
use Rattle.mat_int.specs.Matrix.{Matrix}
use Rattle.qp_model.specs.form.Class.{form_of}
use Rattle.qp_model.specs.declared.design_parts.DesignParts.{DesignParts}
use Rattle.qp_model.specs.problem.Design.{Design, entries, rows}
use Rattle.qp_model.specs.problem.Limits.{text_version, last_version, most_states, most_stages, most_rows}
use Rattle.qp_model.specs.problem.Parts.{IsDesign, design_of}
use Rattle.qp_model.specs.problem.Range.{LiesIn}
use Rattle.qp_model.specs.form.Columns.{column_bound, solve_matrix, solve_column}
use Rattle.qp_model.specs.bounds.Built.{gain_column}
use Rattle.qp_model.specs.form.GoodSolution.{IsGood}
use Rattle.qp_model.specs.machine.Controller.{Numbers, plan_length, IsSized, HasShape}
use Rattle.qp_model.proofs.SizeFacts.{some_row}
use Rattle.qp_model.proofs.VersionLaws.{design_states_le, design_stages_le, design_rows_le}
use Rattle.overflow_check.specs.Width.{IsWidth}
use Rattle.overflow_check.specs.FastController.{as_version}
use Rattle.overflow_check.specs.Machines.{IsSizedFor, greatest_for, weights_for}
use Rattle.overflow_check.specs.declared.machine.Machine.{Machine}
use Rattle.overflow_check.specs.declared.machine.Machine.TheVariants.{Plain, Accelerated}
use Rattle.overflow_check.proofs.Machines.{by_weights}
use Rattle.approx_inverse.specs.DescentSize.{EachWithin}
use Rattle.approx_inverse.specs.Inverse.{HasGainSizes, IsInverseOf, solution_of}
use Rattle.approx_inverse.specs.declared.inverse.Inverse.{Inverse}
use Rattle.approx_inverse.proofs.FormLaws.{good_same}
use Rattle.controller_maker.specs.Widest.{widest, width_size_for, rounded, listed}
use Rattle.condensed_form.specs.Form.{IsFormOf, held}
use Rattle.condensed_form.specs.declared.condensed.Condensed.{Condensed}
use Rattle.approx_inverse.proofs.DesignLaws.{bound_equal}
use Rattle.controller_maker.proofs.Bounds.{resized}
use Rattle.controller_maker.proofs.Classes.{entries_are, states_are, rows_are, columns_are}
use Rattle.controller_maker.specs.Assembled.{version_for, lists_for, most_steps_for, AreRowsOf, AreBounds, HasExponentsFor, IsFrame, AreGains, IsAssembledFor}
use Rattle.controller_maker.specs.declared.rounding.Rows.{Rows}
use Rattle.controller_maker.proofs.Monotone.{IsSmaller, greatest_sum_mono}
use Rattle.controller_maker.proofs.Tables.{plan_long, line_long, line_at, under_line, line_under, under_table, table_under, shape_of, abs_le, abs_ge, solution_state, solution_constant, solution_row}

-- ---- the gains
-- each gain is at most the bound of its column
pub record AreWithin (d : Design) (f : ℕ) (v : Inverse) : Type 0 where
  pub sizes : HasGainSizes v (entries d) d.states (rows d)
  pub each : (i j : ℕ) → i < d.states + 1 + rows d → j < entries d → unsigned_abs (solution_of v i j) ≤ column_bound (form_of d) f i

-- each gain is the bound of its column
pub record AreWidest (d : Design) (f : ℕ) (v : Inverse) : Type 0 where
  pub sizes : HasGainSizes v (entries d) d.states (rows d)
  pub each : (i j : ℕ) → i < d.states + 1 + rows d → j < entries d → solution_of v i j ≡ pos (column_bound (form_of d) f i)

pub within_from : (d : Design) (f : ℕ) (v : Inverse) → IsInverseOf (form_of d) f v → AreWithin d f v
within_from d f v is = record {
  sizes = resized v _ _ _ _ _ _ (sym (entries_are d)) (sym (states_are d)) (sym (rows_are d)) is.sizes;
  each = λ i j l m. is.within i (rw (columns_are d) l) j (rw (entries_are d) m);
}

-- ---- the absolute sums
-- the numbers of a frame are those of the widest controller
pub under_widest : (machine : Machine) (d : Design) (r s : ℕ) (es : List ℕ) (k f : ℕ) (c : Numbers) (v : Inverse) → IsFrame machine d r s es k f c → AreGains v c → AreWithin d f v →
    IsSmaller c (widest d r s k f) d.states (entries d) (rows d)
under_widest machine d r s es k f c v fr g w = record {
  fraction_bits = fr.fraction_bits;
  grid_bits = fr.grid_bits;
  step_exponent = fr.step_exponent;
  steps = fr.steps;
  clamp = fr.clamp;
  low = fr.low;
  high = fr.high;
  offsets = rw g.offsets (under_line nu v.t.items (λ j. pos (column_bound (form_of d) f d.states)) w.sizes.t
      (λ j l. subst (λ (z : ℤ). unsigned_abs z ≤ column_bound (form_of d) f d.states) (solution_constant v d.states j w.sizes.p_mat.cols) (w.each d.states j (omega arith) l)));
  bounds = under_line m c.bounds _ fr.bounds.long (λ i l. abs_le _ _ (fr.bounds.is i l));
  state_gains = rw g.state_gains (under_table v.p_mat nu d.states (λ j i. pos (column_bound (form_of d) f i)) w.sizes.p_mat
      (λ j i l o. subst (λ (z : ℤ). unsigned_abs z ≤ column_bound (form_of d) f i) (solution_state v d.states i j w.sizes.p_mat.cols o) (w.each i j (omega arith) l)));
  dual_gains = rw g.dual_gains (under_table v.w_mat nu m (λ j i. pos (column_bound (form_of d) f (d.states + 1 + i))) w.sizes.w_mat
      (λ j i l o. subst (λ (z : ℤ). unsigned_abs z ≤ column_bound (form_of d) f (d.states + 1 + i)) (solution_row v d.states i j w.sizes.p_mat.cols) (w.each (d.states + 1 + i) j (omega arith) l)));
  plan_rows = under_table c.plan_rows m nu _ (shape_of _ _ _ _ fr.plan_rows) (λ i j l o. abs_le _ _ (fr.plan_rows.entries i j l o));
  state_rows = under_table c.state_rows m d.states _ (shape_of _ _ _ _ fr.state_rows) (λ i j l o. abs_le _ _ (fr.state_rows.entries i j l o));
}
  where
    nu : ℕ
    nu = entries d

    m : ℕ
    m = rows d

-- those of the widest controller are at most a frame's with the widest gains
pub widest_under : (machine : Machine) (d : Design) (r s : ℕ) (es : List ℕ) (k f : ℕ) (c : Numbers) (v : Inverse) → IsFrame machine d r s es k f c → AreGains v c → AreWidest d f v →
    IsSmaller (widest d r s k f) c d.states (entries d) (rows d)
widest_under machine d r s es k f c v fr g w = record {
  fraction_bits = sym fr.fraction_bits;
  grid_bits = sym fr.grid_bits;
  step_exponent = sym fr.step_exponent;
  steps = sym fr.steps;
  clamp = sym fr.clamp;
  low = sym fr.low;
  high = sym fr.high;
  offsets = rw g.offsets (line_under nu v.t.items (λ j. pos (column_bound (form_of d) f d.states)) w.sizes.t
      (λ j l. abs_ge _ _ (sym (solution_constant v d.states j w.sizes.p_mat.cols) ∙ w.each d.states j (omega arith) l)));
  bounds = line_under m c.bounds _ fr.bounds.long (λ i l. abs_ge _ _ (fr.bounds.is i l));
  state_gains = rw g.state_gains (table_under v.p_mat nu d.states (λ j i. pos (column_bound (form_of d) f i)) w.sizes.p_mat
      (λ j i l o. abs_ge _ _ (sym (solution_state v d.states i j w.sizes.p_mat.cols o) ∙ w.each i j (omega arith) l)));
  dual_gains = rw g.dual_gains (table_under v.w_mat nu m (λ j i. pos (column_bound (form_of d) f (d.states + 1 + i))) w.sizes.w_mat
      (λ j i l o. abs_ge _ _ (sym (solution_row v d.states i j w.sizes.p_mat.cols) ∙ w.each (d.states + 1 + i) j (omega arith) l)));
  plan_rows = table_under c.plan_rows m nu _ (shape_of _ _ _ _ fr.plan_rows) (λ i j l o. abs_ge _ _ (fr.plan_rows.entries i j l o));
  state_rows = table_under c.state_rows m d.states _ (shape_of _ _ _ _ fr.state_rows) (λ i j l o. abs_ge _ _ (fr.state_rows.entries i j l o));
}
  where
    nu : ℕ
    nu = entries d

    m : ℕ
    m = rows d

-- no good solutions have larger sums
pub sum_le : (machine : Machine) (d : Design) (r s : ℕ) (es : List ℕ) (k f : ℕ) (c : Numbers) (v : Inverse) → 1 ≤ rows d → IsFrame machine d r s es k f c → AreGains v c → AreWithin d f v → greatest_for machine c ≤ width_size_for machine d r s k f
sum_le machine d r s es k f c v some fr g w = greatest_sum_mono machine c (widest d r s k f) d.states (entries d) (rows d) some (under_widest machine d r s es k f c v fr g w)

-- the widest gains have the quantity itself
pub sum_ge : (machine : Machine) (d : Design) (r s : ℕ) (es : List ℕ) (k f : ℕ) (c : Numbers) (v : Inverse) → 1 ≤ rows d → IsFrame machine d r s es k f c → AreGains v c → AreWidest d f v → width_size_for machine d r s k f ≤ greatest_for machine c
sum_ge machine d r s es k f c v some fr g w = greatest_sum_mono machine (widest d r s k f) c d.states (entries d) (rows d) some (widest_under machine d r s es k f c v fr g w)

pub widest_within : (d : Design) (f : ℕ) (v : Inverse) → AreWidest d f v → AreWithin d f v
widest_within d f v w = record { sizes = w.sizes; each = λ i j l m. abs_le (solution_of v i j) (pos (column_bound (form_of d) f i)) (w.each i j l m) }

pub widest_sum : (machine : Machine) (d : Design) (r s : ℕ) (es : List ℕ) (k f : ℕ) (c : Numbers) (v : Inverse) → 1 ≤ rows d → IsFrame machine d r s es k f c → AreGains v c → AreWidest d f v → greatest_for machine c ≡ width_size_for machine d r s k f
widest_sum machine d r s es k f c v some fr g w = same _ _ (sum_le machine d r s es k f c v some fr g (widest_within d f v w)) (sum_ge machine d r s es k f c v some fr g w)
  where
    same : (n t : ℕ) → n ≤ t → t ≤ n → n ≡ t
    same n t h k = omega (arith, h, k)

-- ---- what code asks
-- a list is that of its numbers
pub box_line : (n : ℕ) (xs : List ℤ) → length xs ≡ n → xs ≡ listed n (at xs)
box_line n xs e = fill_by_all (at xs) xs n (pos 0) e (λ k l. refl)

sized_rows : (p : DesignParts) → IsDesign p → LiesIn 1 (most_rows p.version) (rows (design_of p))
sized_rows p h = (
  some_row p h,
  omega (arith, mul-le p.stages (length p.stage_rows.rows) (most_stages p.version) 12 h.stages.1 h.stage_rows.rows.1, h.final_rows.rows.1),
)

-- as a controller of a version whose sizes hold the design's, whatever its own version and words
sized_as : (machine : Machine) (version : ℕ) (p : DesignParts) (r s : ℕ) (es : List ℕ) (k f : ℕ) (c : Numbers) (v : Inverse) → IsDesign p → IsFrame machine (design_of p) r s es k f c → AreGains v c →
    HasGainSizes v (entries (design_of p)) p.states (rows (design_of p)) → LiesIn p.grid 48 f → s ≤ 40 → HasExponentsFor machine (design_of p) s es → LiesIn 1 (2 ^ 22) k →
    2 * r * 2 ^ (f + s) ≤ 2 ^ 126 → LiesIn text_version last_version version → LiesIn 1 (most_states version) p.states → LiesIn 1 (most_stages version) p.stages →
    LiesIn 1 (most_rows version) (rows (design_of p)) → (version ≡ text_version → version_for machine (design_of p) ≡ text_version) → IsSized (as_version version c)
sized_as machine version p r s es k f c v h fr g sizes bits exponent exponents steps room version_in states_in stages_in rows_in first =
    let nu : entries (design_of p) ≡ c.inputs * c.stages = rw (fr.inputs, fr.stages) (turn p.stages p.inputs) in
    let lo : c.low ≡ p.lo.items = fr.low ∙ sym (box_line p.states p.lo.items h.lo.long) in
    let hi : c.high ≡ p.hi.items = fr.high ∙ sym (box_line p.states p.hi.items h.hi.long) in
    record {
      version = version_in;
      states = rw fr.states states_in;
      inputs = rw fr.inputs h.inputs;
      stages = rw fr.stages stages_in;
      rows = rw fr.limits rows_in;
      grid_bits = rw fr.grid_bits h.grid;
      fraction_bits = rw (fr.grid_bits, fr.fraction_bits) bits;
      step_exponent = rw fr.step_exponent exponent;
      exponents = rw (fr.exponents, fr.step_exponent) exponents.high;
      same_exponents = λ e. rw (fr.limits, fr.step_exponent) (fr.exponents ∙ exponents.first (first e));
      steps = rw fr.steps steps;
      clamp_low = rw fr.clamp (omega (arith, ints));
      clamp_high = rw fr.clamp (at_most _ _ room);
      words = refl;
      shaped = record {
        exponents = ap (λ (xs : List ℕ). length xs) fr.exponents ∙ exponents.long ∙ sym fr.limits;
        low = ap (λ (xs : List ℤ). length xs) lo ∙ h.lo.long ∙ sym fr.states;
        high = ap (λ (xs : List ℤ). length xs) hi ∙ h.hi.long ∙ sym fr.states;
        state_gains = shape_to v.p_mat c.state_gains _ _ _ _ g.state_gains (sym nu) fr.states sizes.p_mat;
        offsets = ap (λ (xs : List ℤ). length xs) g.offsets ∙ sizes.t ∙ nu;
        dual_gains = shape_to v.w_mat c.dual_gains _ _ _ _ g.dual_gains (sym nu) fr.limits sizes.w_mat;
        plan_rows = shape_to c.plan_rows c.plan_rows _ _ _ _ refl fr.limits (sym nu) (shape_of _ _ _ _ fr.plan_rows);
        state_rows = shape_to c.state_rows c.state_rows _ _ _ _ refl fr.limits fr.states (shape_of _ _ _ _ fr.state_rows);
        bounds = fr.bounds.long ∙ sym fr.limits;
      };
      low = rw lo h.lo.numbers;
      high = rw hi h.hi.numbers;
      box = λ i l. rw (lo, hi) (h.box i (omega (arith, fr.states)));
    }
  where
    turn : (a b : ℕ) → a * b ≡ b * a
    turn a b = omega arith

    at_most : (a b : ℕ) → a ≤ b → pos a ≤ℤ pos b
    at_most a b h = omega (arith, ints)

    shape_to : (m x : Matrix) (a b h w : ℕ) → x ≡ m → a ≡ h → b ≡ w → HasShape m h w → HasShape x a b
    shape_to m x a b h w e g i shape = rw (e, g, i) shape

words_are : (machine : Machine) (d : Design) (r s : ℕ) (es : List ℕ) (k f : ℕ) (c : Numbers) → IsFrame machine d r s es k f c →
    c.words ≡ c.states + lists_for machine * c.rows + 2 * plan_length c
words_are machine d r s es k f c fr = counted _ _ _ _ _ _ _ _ fr.words fr.states fr.limits (plan_long d c fr.inputs fr.stages)
  where
    counted : (w l a b n x y z : ℕ) → w ≡ x + l * y + 2 * z → a ≡ x → b ≡ y → n ≡ z → w ≡ a + l * b + 2 * n
    counted w l a b n x y z e f g h = rw (f, g, h) e

pub sized : (machine : Machine) (p : DesignParts) (r s : ℕ) (es : List ℕ) (k f : ℕ) (c : Numbers) (v : Inverse) → IsDesign p → IsFrame machine (design_of p) r s es k f c → AreGains v c →
    HasGainSizes v (entries (design_of p)) p.states (rows (design_of p)) → LiesIn p.grid 48 f → s ≤ 40 → HasExponentsFor machine (design_of p) s es → LiesIn 1 (most_steps_for machine) k →
    2 * r * 2 ^ (f + s) ≤ 2 ^ 126 → IsSizedFor machine c
sized Plain p r s es k f c v h fr g sizes bits exponent exponents steps room =
    plain c (subst (λ (n : ℕ). IsSized (as_version n c)) (sym fr.version)
    (sized_as Plain p.version p r s es k f c v h fr g sizes bits exponent exponents steps room h.version h.states h.stages (sized_rows p h) (λ e. e)))
    (words_are Plain (design_of p) r s es k f c fr)
  where
    plain : (c : Numbers) → IsSized (as_version c.version c) → c.words ≡ c.states + 1 * c.rows + 2 * plan_length c → IsSized c
    plain c own words = grind (arith, common_steps)
sized Accelerated p r s es k f c v h fr g sizes bits exponent exponents steps room = record {
  version = fr.version;
  words = words_are Accelerated (design_of p) r s es k f c fr;
  steps = rw fr.steps steps;
  rest = sized_as Accelerated last_version p r s es k f c v h fr g sizes bits exponent exponents (steps.0, omega (arith, steps.1)) room (omega arith, omega arith)
      (h.states.0, design_states_le p h) (h.stages.0, design_stages_le p h) (some_row p h, design_rows_le p h) (λ e. absurd (omega (arith, e)));
}

-- ---- the controller
-- what is promised of it
gains_same : (c : Numbers) (v : Inverse) → c.states ≡ v.p_mat.cols → AreGains v c → (i j : ℕ) → solution_of v i j ≡ gain_column c i j
gains_same c v e g i j = rw (e, g.state_gains, g.offsets, g.dual_gains) refl

good_at : (d : Design) (f b i : ℕ) (v : Inverse) (c : Numbers) → b ≡ f → IsGood (form_of d).entries (solve_matrix (form_of d)) f (solve_column (form_of d) i) (solution_of v i) →
    ((j : ℕ) → solution_of v i j ≡ gain_column c i j) → IsGood (form_of d).entries (solve_matrix (form_of d)) b (solve_column (form_of d) i) (gain_column c i)
good_at d f b i v c e good same = rw e
    (good_same (form_of d).entries (solve_matrix (form_of d)) (solve_matrix (form_of d)) f (solve_column (form_of d) i) (solve_column (form_of d) i) (solution_of v i) (gain_column c i)
    (λ i j l m. refl) (λ j l. refl) (λ j l. same j) good)

within_at : (d : Design) (f b i : ℕ) (v : Inverse) (c : Numbers) → b ≡ f → EachWithin (form_of d).entries (column_bound (form_of d) f i) (solution_of v i) →
    ((j : ℕ) → solution_of v i j ≡ gain_column c i j) → EachWithin (form_of d).entries (column_bound (form_of d) b i) (gain_column c i)
within_at d f b i v c e small same j l =
    subst (λ (z : ℤ). unsigned_abs z ≤ column_bound (form_of d) b i) (same j) (subst (λ (k : ℕ). unsigned_abs (solution_of v i j) ≤ column_bound (form_of d) k i) (sym e) (small j l))

pub assembled : (machine : Machine) (d : Design) (r s : ℕ) (es : List ℕ) (k f : ℕ) (c : Numbers) (v : Inverse) (w : ℕ) → IsFrame machine d r s es k f c → AreGains v c → IsInverseOf (form_of d) f v → IsWidth (greatest_for machine c) w →
    IsAssembledFor machine d r s es k f (record c { width = w })
assembled machine d r s es k f c v w fr g is wide = record {
  version = fr.version;
  step_exponent = fr.step_exponent;
  exponents = fr.exponents;
  sizes = record {
    states = fr.states;
    inputs = fr.inputs;
    stages = fr.stages;
    rows = fr.limits;
    grid = fr.grid_bits;
    low = λ i l. ap (λ (xs : List ℤ). at xs i) fr.low ∙ line_at d.states d.low i l;
    high = λ i l. ap (λ (xs : List ℤ). at xs i) fr.high ∙ line_at d.states d.high i l;
  };
  rows = record {
    plan_rows = λ i j l m. rw fr.fraction_bits (fr.plan_rows.entries i j (rw (rows_are d) at l) (rw (entries_are d) at m));
    state_rows = λ i j l m. rw fr.fraction_bits (fr.state_rows.entries i j (rw (rows_are d) at l) (rw (states_are d) at m));
    bounds = λ i l. rw fr.fraction_bits (fr.bounds.is i (rw (rows_are d) at l));
  };
  gains = λ i l. good_at d f c.fraction_bits i v (record c { width = w }) fr.fraction_bits (is.good i l) (gains_same c v states g i);
  within = λ i l. within_at d f c.fraction_bits i v (record c { width = w }) fr.fraction_bits (is.within i l) (gains_same c v states g i);
  clamp = fr.clamp;
  steps = fr.steps;
  fraction_bits = fr.fraction_bits;
  width = kept machine c w wide;
}
  where
    kept : (machine : Machine) (c : Numbers) (w : ℕ) → IsWidth (greatest_for machine c) w → IsWidth (greatest_for machine (record c { width = w })) w
    kept Plain c w h = h
    kept Accelerated c w h = h

    states : c.states ≡ v.p_mat.cols
    states = fr.states ∙ sym (is.sizes.p_mat.cols ∙ states_are d)

-- where the greatest multiplier alone is above the limit, so is the quantity
pub wide_clamp : (machine : Machine) (p : DesignParts) (r s k f : ℕ) → IsDesign p → 2 ^ 126 < 2 * r * 2 ^ (f + s) → 2 ^ 126 < width_size_for machine (design_of p) r s k f
wide_clamp machine p r s k f h over =
    let d = design_of p in
    let c = widest d r s k f in
    let some : 1 ≤ length c.bounds = omega (arith, line_long (rows d) (λ i. rounded d f ((form_of d).numbers.bound i)), some_row p h) in
    omega (arith, by_weights machine c some, clamp_le machine c, over)
  where
    clamp_le : (machine : Machine) (c : Numbers) → unsigned_abs c.clamp ≤ (weights_for machine c).top
    clamp_le Plain c = le_refl (unsigned_abs c.clamp)
    clamp_le Accelerated c = omega arith

-- the frame that code makes
pub frame_from : (machine : Machine) (p : DesignParts) (r s : ℕ) (es : List ℕ) (k f : ℕ) (c : Numbers) (rs : Rows) → IsDesign p → AreRowsOf (design_of p) f rs →
    c.version ≡ version_for machine (design_of p) → c.states ≡ p.states → c.inputs ≡ p.inputs → c.stages ≡ p.stages → c.rows ≡ length rs.g_mat.rows → c.fraction_bits ≡ f → c.grid_bits ≡ p.grid → c.step_exponent ≡ s →
    c.steps ≡ k → c.clamp ≡ pos (2 * r * 2 ^ (f + s)) → c.words ≡ p.states + lists_for machine * length rs.g_mat.rows + 2 * rs.g_mat.cols → c.exponents ≡ es → c.low ≡ p.lo.items → c.high ≡ p.hi.items →
    c.plan_rows ≡ rs.g_mat → c.state_rows ≡ rs.e_mat → c.bounds ≡ rs.bound.items → IsFrame machine (design_of p) r s es k f c
frame_from machine p r s es k f c rs h are version states inputs stages rows_are bits grid exponent steps clamp words exponents low high plan state bound = record {
  version = version;
  states = states;
  inputs = inputs;
  stages = stages;
  limits = rows_are ∙ are.plan.rows;
  fraction_bits = bits;
  grid_bits = grid;
  step_exponent = exponent;
  steps = steps;
  clamp = clamp;
  words = words ∙ count p.states _ _ _ _ _ are.plan.rows are.plan.cols;
  exponents = exponents;
  low = low ∙ box_line p.states p.lo.items h.lo.long;
  high = high ∙ box_line p.states p.hi.items h.hi.long;
  plan_rows = rw plan are.plan;
  state_rows = rw state are.state;
  bounds = rw bound are.bound;
}
  where
    count : (n l a b x y : ℕ) → a ≡ x → b ≡ y → n + l * a + 2 * b ≡ n + l * x + 2 * y
    count n l a b x y e g = rw (e, g) refl

-- ---- the condensed form's bounds
pub widest_from : (p : DesignParts) (c : Condensed) (f : ℕ) (v : Inverse) → IsFormOf p c → AreBounds (held c) f v → AreWidest (design_of p) f v
widest_from p c f v is b = record {
  sizes = resized v _ _ _ _ _ _ (sym is.shapes.hess.rows) (sym is.shapes.lin.cols) (sym is.shapes.g.rows) b.sizes;
  each = λ i j l m. b.each i j (omega (arith, is.shapes.lin.cols, is.shapes.g.rows)) (omega (arith, is.shapes.hess.rows)) ∙ ap (λ (n : ℕ). pos n) (bound_equal p c f i is (rw (columns_are (design_of p)) l));
}

-- ---- a call that answers where a number is within the limit
pub above : (r : Option ℤ) (n : ℕ) (v : ℤ) (b : Bool) → SomeIff r (n ≤ 2 ^ 126) v → is_some r ≡ not b → b ≡ true → 2 ^ 126 < n
above None n v b h e t = elim (cases_lt (2 ^ 126) n) [ inl l ↦ l | inr l ↦ absurd (h l) ]
above (Some x) n v b h e t = absurd (let f = rw t at e in cc)

pub below : (r : Option ℤ) (n : ℕ) (v : ℤ) (b : Bool) → SomeIff r (n ≤ 2 ^ 126) v → is_some r ≡ not b → b ≡ false → n ≤ 2 ^ 126
below None n v b h e t = absurd (let f = rw t at e in cc)
below (Some x) n v b h e t = h.0

pub over : (n : ℕ) → (n ≤ 2 ^ 126 → ⊥) → 2 ^ 126 < n
over n h = elim (cases_lt (2 ^ 126) n) [ inl l ↦ l | inr l ↦ absurd (h l) ]
