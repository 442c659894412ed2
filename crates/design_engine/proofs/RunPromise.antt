-- What a run keeps, whichever machine makes it: from the bound of its averaged plan, and repairs of plans that exceed some row.
use Rattle.std.proofs.Common.{◌≡◌, ℕ, ◌+◌, ◌*◌, ◌^◌, ◌≤◌, ◌<◌, ℤ, pos, ◌+ℤ◌, ◌*ℤ◌, ◌≤ℤ◌, ◌<ℤ◌, [], ◌∷◌, arith, refl}
use Rattle.std.proofs.lemmas.Int.{ints, by_lt_z}
use Rattle.std.specs.Int.Signed.{≤ℤ_refl}
use Rattle.std.proofs.lemmas.Nat.{pow_pos, pow-add}
use Rattle.std.proofs.Math.Nat.{one-le-mul}
use Rattle.integer_algebra.specs.Sums.{at, none, square}
use Rattle.integer_algebra.specs.Division.{ceil_div}
use Rattle.integer_algebra.proofs.Quoting.{by_ring, quotes}
use Rattle.integer_algebra.proofs.OrderLaws.{pos_positive, le_of_lt_z, le_by, mul_nonneg_z, mul_pos_z}
use Rattle.integer_algebra.proofs.PowerLaws.{pow_positive}
use Rattle.qp_model.specs.method.Dual.{InBox}
use Rattle.qp_model.specs.problem.Design.{Design, rows}
use Rattle.qp_model.specs.problem.Sound.{IsSound}
use Rattle.qp_model.specs.problem.Box.{IsGridState}
use Rattle.qp_model.specs.problem.Cost.{cost, cost_scale}
use Rattle.qp_model.specs.problem.Residual.{residual, residual_scale, IsFeasible}
use Rattle.qp_model.specs.bounds.Choices.{violation_bound, row_violation_bound, lean_row_violation}
use Rattle.qp_model.specs.bounds.Certified.{ExceedsAtMost, CostsAtMost, HasFeasible, KeepsBounds}
use Rattle.qp_model.specs.bounds.Printed.{Printed}
use Rattle.dual_bounds.specs.Corners.{HasRepair, ExceedsNoMore}
use Rattle.dual_bounds.proofs.RowBounds.{row_below}
use Rattle.step_error.specs.MachineLaws.{BoundsPlan}
use Rattle.design_engine.specs.Threshold.{HasRepairs, IsCoverOf, KeepsCoverOf, IsEnoughOf}
use Rattle.design_engine.proofs.PromiseFacts.{power_mono, power_more, gap_closed, row_part, greatest_within, threshold_within, row_within, row_closed, row_shared, row_widened, row_over, first_part, second_part, shared_part, half_part, error_part, enough_left, lesser}
use Rattle.design_engine.proofs.RowChoice.{at_row, dot_single, squares_single, row_in_box, dot_none, squares_none, none_in_box, greatest_row}

-- a plan u over a at a state of a design's box, which a run of so many steps bounds; `exponent i` is that of row i, and `greatest` at least each; repairs cost
-- at most `bound` times the violation where that is above the threshold
pub record Point : Type 0 where
  pub design : Design
  pub xi : ℕ → ℤ
  pub steps : ℕ
  pub greatest : ℕ
  pub exponent : ℕ → ℕ
  pub a : ℕ
  pub u : ℕ → ℤ
  pub bound : ℕ
  pub threshold : ℕ
  pub errors : ℕ
  pub sound : IsSound design 1
  pub inside : IsGridState design xi
  pub steps_some : 1 ≤ steps
  pub a_some : 1 ≤ a
  pub bound_some : 1 ≤ bound
  pub exponents : (i : ℕ) → i < rows design → exponent i ≤ greatest
  pub run : (q : ℤ) (t v : ℕ → ℤ) → pos 0 <ℤ q → IsFeasible design q xi t → InBox (rows design) (pos (2 * bound) *ℤ q) v →
      BoundsPlan design xi steps exponent (pos a) u q t v errors
  pub repairs : HasRepairs design bound threshold

module _ (w : Point) where
  -- what the plan is over, and its residual at a row
  abbrev over : ℤ
  over = pos w.a

  abbrev residuals : ℕ → ℤ
  residuals = residual w.design over w.xi w.u

  -- the rows, and what costs and residuals are over
  abbrev count : ℕ
  count = rows w.design

  abbrev costs_over : ℤ
  costs_over = pos (cost_scale w.design)

  abbrev rows_over : ℤ
  rows_over = pos (residual_scale w.design)

  -- what a plan over r costs
  abbrev costs : ℤ → (ℕ → ℤ) → ℤ
  costs r t = cost w.design r w.xi t

  -- the greatest multiplier, 2 R, over r
  abbrev top : ℤ → ℤ
  top r = pos (2 * w.bound) *ℤ r

  -- how much a multiplier of row i moves
  abbrev moves : ℕ → ℤ
  moves i = pos (2 ^ w.exponent i)

  steps_positive : pos 0 <ℤ pos w.steps
  steps_positive = pos_positive w.steps w.steps_some

  over_positive : pos 0 <ℤ over
  over_positive = pos_positive w.a w.a_some

  bound_positive : pos 0 <ℤ pos w.bound
  bound_positive = pos_positive w.bound w.bound_some

  costs_over_positive : pos 0 <ℤ costs_over
  costs_over_positive = pos_positive (cost_scale w.design) (one-le-mul w.sound.cost_denominator
      (pow_positive (w.design.row_denominator * 2 ^ w.design.grid * w.design.plant_denominator ^ w.design.stages) 2
      (one-le-mul (one-le-mul w.sound.row_denominator (pow_pos w.design.grid)) (pow_positive w.design.plant_denominator w.design.stages w.sound.plant_denominator))))

  rows_over_positive : pos 0 <ℤ rows_over
  rows_over_positive = pos_positive (residual_scale w.design)
      (one-le-mul (one-le-mul w.sound.limit_denominator (pow_pos w.design.grid)) (pow_positive w.design.plant_denominator w.design.stages w.sound.plant_denominator))

  rows_all_positive : pos 0 <ℤ (rows_over *ℤ over)
  rows_all_positive = mul_pos_z rows_over over rows_over_positive over_positive

  top_nonneg : (r : ℤ) → pos 0 <ℤ r → pos 0 ≤ℤ top r
  top_nonneg r h = mul_nonneg_z (pos (2 * w.bound)) r (omega (arith, ints)) (le_of_lt_z h)

  -- ---- the gap
  pub costs_at : (r : ℤ) (t : ℕ → ℤ) → pos 0 <ℤ r → IsFeasible w.design r w.xi t → CostsAtMost w.design w.xi over w.u r t (pos w.errors)
  costs_at r t pr f =
      gap_closed (pos (2 ^ 40)) (pos (2 ^ 41)) (pos (2 ^ 40)) (pos w.steps) costs_over rows_over over r (costs over w.u) (costs r t) (pos w.errors) _ _
      steps_positive rows_over_positive refl (dot_none count residuals) (squares_none count moves) (w.run r t none pr f (none_in_box count (top r) (top_nonneg r pr)))

  -- ---- the rows
  -- a feasible plan near this one, where its residuals are at most v / v_over, which is at least the threshold
  near : (v v_over : ℤ) → pos 0 ≤ℤ v → pos 0 <ℤ v_over → (pos w.threshold *ℤ v_over) ≤ℤ (v *ℤ pos (2 ^ 40)) →
      ExceedsNoMore w.design w.xi over w.u v v_over → HasRepair w.design w.xi over w.u (pos w.bound *ℤ v) v_over
  near = w.repairs w.xi w.inside over w.u over_positive

  -- one that costs at most R times the greatest residual more, where that is above the threshold
  near_by_row : (v : ℤ) → (pos w.threshold *ℤ (rows_over *ℤ over)) <ℤ (pos (2 ^ 40) *ℤ v) → ((i : ℕ) → i < count → residuals i ≤ℤ v) →
      HasRepair w.design w.xi over w.u (pos w.bound *ℤ v) (rows_over *ℤ over)
  near_by_row v above greatest =
      near v (rows_over *ℤ over) (nonneg v (mul_nonneg_z (pos w.threshold) (rows_over *ℤ over) (omega (arith, ints)) (le_of_lt_z rows_all_positive)) above)
      rows_all_positive (turned v above)
      (λ i l. row_over rows_over over v (residuals i) (le_of_lt_z rows_over_positive) (le_of_lt_z over_positive) (greatest i l))
    where
      nonneg : (v : ℤ) {t : ℤ} → pos 0 ≤ℤ t → t <ℤ (pos (2 ^ 40) *ℤ v) → pos 0 ≤ℤ v
      nonneg v h k = omega (arith, ints, h, k)

      turned : (v : ℤ) {t : ℤ} → t <ℤ (pos (2 ^ 40) *ℤ v) → t ≤ℤ (v *ℤ pos (2 ^ 40))
      turned v h = omega (arith, ints, h)

  -- what the run's bound says of row k, if a repair costs at most R v / vd more
  row_at : (v vd : ℤ) (k : ℕ) → pos 0 ≤ℤ vd → k < count → HasRepair w.design w.xi over w.u (pos w.bound *ℤ v) vd →
      (pos 2 *ℤ pos (2 ^ 40) *ℤ pos w.steps *ℤ pos w.bound *ℤ vd *ℤ residuals k) ≤ℤ
      ((pos (2 ^ 40) *ℤ pos w.steps *ℤ pos w.bound *ℤ v +ℤ
      (pos 2 *ℤ pos (2 ^ 40) *ℤ moves k *ℤ square (pos w.bound) +ℤ pos w.steps *ℤ pos w.errors) *ℤ vd) *ℤ (rows_over *ℤ over))
  row_at v vd k pd l h =
      row_part (pos (2 ^ 40)) (pos (2 ^ 41)) (pos w.steps) costs_over rows_over over h.denominator
      (costs over w.u) (costs h.denominator h.plan) (pos w.errors) (pos w.bound) (pos (2 * w.bound)) v vd (residuals k) (moves k) _ _
      steps_positive costs_over_positive (le_of_lt_z rows_over_positive) over_positive h.positive (omega (arith, ints)) pd
      refl (omega (arith, ints)) (dot_single count k (top h.denominator) residuals l) (squares_single count k moves (top h.denominator) l)
      (w.run h.denominator h.plan (at_row k (top h.denominator)) h.positive h.feasible (row_in_box count k (top h.denominator) (top_nonneg h.denominator h.positive)))
      h.cheap

  -- what is at least the threshold and what steps and errors leave
  abbrev Covers : (x y : ℤ) → Type 0
  Covers x y = IsCoverOf w.steps w.greatest w.bound w.threshold w.errors x y

  -- the greatest residual is bounded by that: by the threshold, or by its own repair
  greatest_at : (x y : ℤ) → Covers x y → (g : ℕ) → g < count → ((i : ℕ) → i < count → residuals i ≤ℤ residuals g) → (y *ℤ residuals g) ≤ℤ (x *ℤ (rows_over *ℤ over))
  greatest_at x y k g l greatest = by_lt_z (pos w.threshold *ℤ (rows_over *ℤ over)) (pos (2 ^ 40) *ℤ residuals g)
      (λ above. greatest_within (pos (2 ^ 40)) (pos w.steps) (rows_over *ℤ over) (pos w.errors) (pos w.bound) (residuals g) (pos (2 ^ w.greatest)) (moves g) x y
      (omega (arith, ints)) steps_positive bound_positive rows_all_positive (le_of_lt_z k.positive) (power_mono (w.exponent g) w.greatest (w.exponents g l))
      (row_at (residuals g) (rows_over *ℤ over) g (le_of_lt_z rows_all_positive) l (near_by_row (residuals g) above greatest)) k.run)
      (λ below. threshold_within (pos (2 ^ 40)) (rows_over *ℤ over) (residuals g) (pos w.threshold) x y
      (omega (arith, ints)) (le_of_lt_z rows_all_positive) (le_of_lt_z k.positive) below k.above)

  -- and so each
  violation_at : (x y : ℤ) → Covers x y → ExceedsNoMore w.design w.xi over w.u x y
  violation_at x y k i l =
      let g = greatest_row count residuals i l in
      row_within rows_over over (residuals g.index) (residuals i) x y (le_of_lt_z k.positive) (g.top i l) (greatest_at x y k g.index g.inside g.top)

  -- then all that it repairs
  pub kept_at : (x y : ℤ) → Covers x y → KeepsCoverOf w.design w.steps w.exponent w.bound w.errors w.xi over w.u x y
  kept_at x y k = record {
    violation = violation_at x y k;
    rows = λ i l. row_at x y i (le_of_lt_z k.positive) l repair;
    costs = costs_at;
    repair = repair;
  }
    where
      repair : HasRepair w.design w.xi over w.u (pos w.bound *ℤ x) y
      repair = near x y k.nonneg k.positive k.above (violation_at x y k)

  -- a feasible plan that costs at most R times the violation more
  repair_at : (n : ℕ) → w.threshold ≤ n → ((i : ℕ) → i < count → ExceedsAtMost w.design w.xi over w.u i (pos n)) → HasFeasible w.design w.xi over w.u (pos (w.bound * n))
  repair_at n l h = record { denominator = r.denominator; plan = r.plan; positive = r.positive; feasible = r.feasible; cheap = r.cheap }
    where
      r : HasRepair w.design w.xi over w.u (pos w.bound *ℤ pos n) (pos (2 ^ 40))
      r = near (pos n) (pos (2 ^ 40)) (omega (arith, ints)) (omega (arith, ints)) (omega (arith, ints, l)) h

  -- ---- the promise with no threshold
  -- the two parts of the violation of row i
  abbrev first : ℕ → ℤ
  first i = pos (ceil_div ((2 ^ w.exponent i + 2 ^ w.greatest) * 2 ^ 40 * w.bound) w.steps)

  abbrev second : ℤ
  second = pos (ceil_div w.errors w.bound)

  -- the greatest
  abbrev violation_of : ℕ
  violation_of = violation_bound w.greatest w.bound w.steps w.errors

  -- what steps and errors leave
  abbrev left : ℤ
  left = pos (2 ^ 41) *ℤ pos (2 ^ w.greatest) *ℤ square (pos w.bound) +ℤ pos w.steps *ℤ pos w.errors

  abbrev left_over : ℤ
  left_over = pos (2 ^ 40) *ℤ pos w.steps *ℤ pos w.bound

  left_covers : w.threshold ≡ 0 → Covers left left_over
  left_covers e = record {
    positive = mul_pos_z (pos (2 ^ 40) *ℤ pos w.steps) (pos w.bound) (mul_pos_z (pos (2 ^ 40)) (pos w.steps) (omega (arith, ints)) steps_positive) bound_positive;
    nonneg = nonneg;
    above = rw e (nothing left_over _ (mul_nonneg_z left (pos (2 ^ 40)) nonneg (omega (arith, ints))));
    run = turned left left_over;
  }
    where
      nonneg : pos 0 ≤ℤ left
      nonneg = omega (arith, ints)

      nothing : (z n : ℤ) → pos 0 ≤ℤ n → (pos 0 *ℤ z) ≤ℤ n
      nothing z n h = le_by h (by_ring (z ∷ n ∷ []) (search quotes depth 60 fits 20000) refl)

      turned : (m n : ℤ) → (m *ℤ n) ≤ℤ (n *ℤ m)
      turned m n = le_by (≤ℤ_refl (pos 0)) (by_ring (m ∷ n ∷ []) (search quotes depth 60 fits 20000) refl)

  -- a row within its two parts
  rows_at : w.threshold ≡ 0 → (i : ℕ) → i < count → ExceedsAtMost w.design w.xi over w.u i (first i +ℤ second)
  rows_at e i l =
      row_closed (pos (2 ^ 40)) (pos w.steps) rows_over over (pos w.errors) (pos w.bound) (residuals i) (first i) second
      (pos (2 ^ w.greatest)) (moves i) (omega (arith, ints)) steps_positive bound_positive (le_of_lt_z rows_all_positive)
      ((kept_at left left_over (left_covers e)).rows i l)
      (first_part (w.exponent i) w.greatest w.bound w.steps w.steps_some) (second_part w.errors w.bound w.bound_some)

  -- and so within the greatest
  greatest_violation : w.threshold ≡ 0 → (i : ℕ) → i < count → ExceedsAtMost w.design w.xi over w.u i (pos violation_of)
  greatest_violation e i l =
      row_widened (pos (2 ^ 40)) rows_over over (residuals i) (first i +ℤ second) (pos violation_of)
      (le_of_lt_z rows_over_positive) (le_of_lt_z over_positive)
      (whole _ _ (row_below (w.exponent i) w.greatest w.bound w.steps w.errors (w.exponents i l) w.steps_some)) (rows_at e i l)
    where
      whole : (m n : ℕ) → m ≤ n → pos m ≤ℤ pos n
      whole m n h = omega (arith, ints, h)

  pub left_kept : (b : Printed) → w.threshold ≡ 0 →
      ((i : ℕ) → i < count → at b.row_violations i ≡ pos (row_violation_bound (w.exponent i) w.greatest w.bound w.steps w.errors)) →
      b.violation ≡ pos violation_of → b.gap ≡ pos w.errors → b.undercut ≡ pos (w.bound * violation_of) → KeepsBounds w.design b w.xi over w.u
  left_kept b e rows violation gap undercut = record {
    rows = λ i l. rw (rows i l) (rows_at e i l);
    violation = λ i l. rw violation (greatest_violation e i l);
    costs = λ q t o f. rw gap (costs_at q t o f);
    repair = rw undercut (repair_at violation_of (omega (arith, e)) (greatest_violation e));
  }

  -- ---- the promise with a threshold
  -- the threshold over 2^40 covers what steps and errors leave
  threshold_covers : IsEnoughOf w.steps w.greatest w.bound w.threshold w.errors → Covers (pos w.threshold) (pos (2 ^ 40))
  threshold_covers h = record {
    positive = omega (arith, ints);
    nonneg = omega (arith, ints);
    above = ≤ℤ_refl (pos w.threshold *ℤ pos (2 ^ 40));
    run = enough_left (2 ^ w.greatest) w.bound w.steps w.errors w.threshold (2 ^ (w.greatest + 41)) (pow-add 2 w.greatest 41) h;
  }

  -- a row within the threshold, and within its three parts
  shared_at : IsEnoughOf w.steps w.greatest w.bound w.threshold w.errors → (i : ℕ) → i < count → (e : ℕ) → 2 ^ w.exponent i ≤ 2 ^ e →
      ExceedsAtMost w.design w.xi over w.u i (pos (lean_row_violation e w.bound w.steps w.errors w.threshold))
  shared_at h i l e o = lesser (λ (n : ℕ). ExceedsAtMost w.design w.xi over w.u i (pos n)) w.threshold _
      ((kept_at (pos w.threshold) (pos (2 ^ 40)) (threshold_covers h)).violation i l)
      (row_shared (pos (2 ^ 40)) (pos w.steps) rows_over over (pos w.errors) (pos w.bound) (residuals i) (pos w.threshold)
      (pos (ceil_div w.threshold 2)) (pos (ceil_div (2 ^ (e + 40) * w.bound) w.steps)) (pos (ceil_div w.errors (2 * w.bound)))
      (moves i) (omega (arith, ints)) steps_positive bound_positive (le_of_lt_z rows_all_positive)
      ((kept_at (pos w.threshold) (pos (2 ^ 40)) (threshold_covers h)).rows i l)
      (half_part w.threshold) (shared_part (w.exponent i) e w.bound w.steps w.steps_some o) (error_part w.errors w.bound w.bound_some))

  pub threshold_kept : (b : Printed) → IsEnoughOf w.steps w.greatest w.bound w.threshold w.errors →
      ((i : ℕ) → i < count → at b.row_violations i ≡ pos (lean_row_violation (w.exponent i) w.bound w.steps w.errors w.threshold)) →
      b.violation ≡ pos (lean_row_violation w.greatest w.bound w.steps w.errors w.threshold) → b.gap ≡ pos w.errors → b.undercut ≡ pos (w.bound * w.threshold) →
      KeepsBounds w.design b w.xi over w.u
  threshold_kept b h rows violation gap undercut = record {
    rows = λ i l. rw (rows i l) (shared_at h i l (w.exponent i) (omega arith));
    violation = λ i l. rw violation (shared_at h i l w.greatest (power_more (w.exponent i) w.greatest (w.exponents i l)));
    costs = λ q t o f. rw gap (costs_at q t o f);
    repair = rw undercut (repair_at w.threshold (omega arith) ((kept_at (pos w.threshold) (pos (2 ^ 40)) (threshold_covers h)).violation));
  }
