-- The corners of the one recipe in the two classes.
use Rattle.std.proofs.Common.{◌≡◌, inl, inr, ℕ, suc, ◌+◌, ◌-◌, ◌*◌, ◌/◌, ◌%◌, ◌^◌, ◌<◌, ◌≤◌, [], ◌∷◌, ℤ, pos, negsuc, ◌+ℤ◌, ◌-ℤ◌, ◌*ℤ◌, ◌≤ℤ◌, neg_ℤ, unsigned_abs, pow_pos, arith, ap, sym, ◌∙◌, refl}
use mathlib.Core.Path.{fun_ext}
use Rattle.std.proofs.lemmas.Int.{ints}
use Rattle.std.proofs.lemmas.Bool.{cases_lt, lt-ltb, le-ltb}
use Rattle.std.proofs.lemmas.Nat.{mod-mul-add}
use Rattle.integer_algebra.specs.Sums.{dot, total, square}
use Rattle.integer_algebra.proofs.RingLaws.{add_equations}
use Rattle.integer_algebra.proofs.SumLaws.{total_same}
use Rattle.integer_algebra.proofs.VectorLaws.{dot_same}
use Rattle.integer_algebra.proofs.BlockLaws.{total_blocks}
use Rattle.integer_algebra.proofs.PowerLaws.{pow-two}
use Rattle.integer_algebra.proofs.Quoting.{by_ring, quotes}
use Rattle.frac_scaled.specs.Enclosures.{Enclosure, magnitude, sum_of}
use Rattle.qp_model.specs.problem.Design.{Design, CostRow, entries}
use Rattle.qp_model.specs.problem.Trajectory.{lift, trajectory}
use Rattle.qp_model.specs.problem.Cost.{cost, cost_term}
use Rattle.qp_model.specs.problem.Box.{corner}
use Rattle.qp_model.specs.problem.Policy.{Plans, corner_denominator, corner_plan}
use Rattle.qp_model.specs.problem.Runs.{run, row_at, cost_run, counted, counts, bound_at}
use Rattle.qp_model.specs.form.FineForm.{counted_row, fine_cost, fine_limit}
use Rattle.qp_model.specs.bounds.Margin.{simulated}
use Rattle.qp_model.proofs.GramLaws.{counted_total}
use Rattle.qp_model.proofs.RowLaws.{residual_law, lift_power, stage_inside}
use Rattle.qp_model.proofs.RunLaws.{run_law}
use Rattle.scaled_run.specs.ScaledForm.{whole, wholes_over, exact_unit}
use Rattle.scaled_run.specs.ScaledCorners.{over_unit, scaled_corner_state, scaled_corner_input, scaled_corner_limit, scaled_least_slack, scaled_gap, scaled_row_cost, scaled_input_cost, scaled_corners, corner_unit, ShowSame, FineCornersAreScaled, ExactCornersAreScaled}
use Rattle.scaled_run.proofs.EvenLaws.{bare, round_even, inexact_even}
use Rattle.scaled_run.proofs.RunLaws.{exact_cost_law, exact_limit_law}

-- ---- enclosures
pub fine_corners_are_scaled : FineCornersAreScaled
fine_corners_are_scaled d p = refl

-- ---- numbers over the unit, without a rest
over_even : (unit den m : ℕ) (z num : ℤ) → pos unit *ℤ num ≡ (pos m *ℤ z) *ℤ pos den → 1 ≤ den → over_unit unit num den ≡ whole m z
over_even unit den m z num e h = rw (e, round_even den (pos m *ℤ z) h, inexact_even den (pos m *ℤ z) h) refl

-- magnitudes with no radius, squared
square_bare : (z : ℤ) → square (magnitude (bare z)) ≡ square z
square_bare (pos n) = ap (λ m. pos (m * m)) (none n)
  where
    none : (n : ℕ) → n + 0 ≡ n
    none n = omega arith
square_bare (negsuc n) = ap (λ m. pos (m * m)) (none n)
  where
    none : (n : ℕ) → suc n + 0 ≡ suc n
    none n = omega arith

-- ---- a corner whose plan is over n
module _ (d : Design) (p : Plans) (c n : ℕ) (a : 1 ≤ d.plant_denominator) (q : corner_denominator p c ≡ pos n) (some : 1 ≤ n) where
  -- its state and its plan, over n 2^grid
  abbrev start : ℕ → ℤ
  start j = pos n *ℤ corner d c j

  abbrev plan : ℕ → ℤ
  plan j = pos (2 ^ d.grid) *ℤ corner_plan p c j

  abbrev size : ℕ
  size = n * 2 ^ d.grid * exact_unit d

  pub unit_is : corner_unit d p c ≡ size
  unit_is = rw q refl

  pub states_are : scaled_corner_state size d c ≡ wholes_over (exact_unit d) start
  states_are = fun_ext (λ i. over_even size (2 ^ d.grid) (exact_unit d) (start i) (corner d c i) (turn (corner d c i) (pos n) (pos (2 ^ d.grid)) (pos (exact_unit d))) (pow_pos d.grid))
    where
      turn : (x n g a : ℤ) → n *ℤ g *ℤ a *ℤ x ≡ a *ℤ (n *ℤ x) *ℤ g
      turn x n g a = by_ring (x ∷ n ∷ g ∷ a ∷ []) (search quotes depth 60 fits 20000) refl

  pub inputs_are : scaled_corner_input size p c ≡ wholes_over (exact_unit d) plan
  inputs_are = fun_ext (λ j. rw q (over_even size n (exact_unit d) (plan j) (corner_plan p c j) (turn (corner_plan p c j) (pos n) (pos (2 ^ d.grid)) (pos (exact_unit d))) some))
    where
      turn : (u n g a : ℤ) → n *ℤ g *ℤ a *ℤ u ≡ a *ℤ (g *ℤ u) *ℤ n
      turn u n g a = by_ring (u ∷ n ∷ g ∷ a ∷ []) (search quotes depth 60 fits 20000) refl

  -- over 1
  whole_one : (z : ℤ) → whole 1 z ≡ bare z
  whole_one z = ap bare (once z)
    where
      once : (z : ℤ) → pos 1 *ℤ z ≡ z
      once z = omega (arith, ints)

  -- ---- the limits
  limit_is : (i : ℕ) → scaled_corner_limit size d p c i ≡ bare (row_at d start plan i)
  limit_is i =
      ap (λ (x : ℕ → Enclosure). fine_limit d x (scaled_corner_input size p c) i) states_are ∙
      ap (λ (v : ℕ → Enclosure). fine_limit d (wholes_over (exact_unit d) start) v i) inputs_are ∙
      exact_limit_law d start plan i a ∙ whole_one (row_at d start plan i)

  -- the true slack, of its run
  pub true_slack : (i : ℕ) → (simulated d p).slack c i ≡ pos size *ℤ bound_at d i -ℤ row_at d start plan i
  true_slack i = sym (close (pos n) (pos (2 ^ d.grid)) (pos (exact_unit d)) (bound_at d i) (row_at d start plan i) ∙
      ap neg_ℤ (rw q (sym (residual_law d (pos n) (corner d c) (corner_plan p c) i))))
    where
      close : (n g a b r : ℤ) → n *ℤ g *ℤ a *ℤ b -ℤ r ≡ neg_ℤ (r -ℤ g *ℤ n *ℤ (a *ℤ b))
      close n g a b r = by_ring (n ∷ g ∷ a ∷ b ∷ r ∷ []) (search quotes depth 60 fits 20000) refl

  slack_is : (i : ℕ) → scaled_least_slack (corner_unit d p c) d p c i ≡ (simulated d p).slack c i
  slack_is i =
      ap (λ (m : ℕ). scaled_least_slack m d p c i) unit_is ∙
      ap (λ (e : Enclosure). pos size *ℤ bound_at d i -ℤ e.mid -ℤ e.rad) (limit_is i) ∙
      less (pos size *ℤ bound_at d i -ℤ row_at d start plan i) ∙ sym (true_slack i)
    where
      less : (x : ℤ) → x -ℤ pos 0 ≡ x
      less x = omega (arith, ints)

  -- ---- the cost rows
  cost_is : (r : ℕ) → fine_cost d (scaled_corner_state size d c) (scaled_corner_input size p c) r ≡ bare (counted d (cost_run d start plan) r)
  cost_is r =
      ap (λ (x : ℕ → Enclosure). fine_cost d x (scaled_corner_input size p c) r) states_are ∙
      ap (λ (v : ℕ → Enclosure). fine_cost d (wholes_over (exact_unit d) start) v r) inputs_are ∙
      exact_cost_law d start plan r a ∙ whole_one (counted d (cost_run d start plan) r)

  -- by how much a row misses its target at a stage
  gap_at : (k : ℕ) (r : CostRow) → k ≤ d.stages →
      cost_run d start plan k r +ℤ pos size *ℤ neg_ℤ r.target ≡
      lift d k *ℤ (dot d.states r.coefficient (trajectory d (pos n) (corner d c) (corner_plan p c) k) -ℤ pos (2 ^ d.grid) *ℤ pos n *ℤ pos (d.plant_denominator ^ k) *ℤ r.target)
  gap_at k r l =
      parts (d.plant_denominator ^ (d.stages - k)) (d.plant_denominator ^ k) (exact_unit d) (dot d.states r.coefficient (run d start plan k)) (lift_power d.plant_denominator d.stages k l) ∙
      ap (λ (z : ℤ). lift d k *ℤ (z -ℤ pos (2 ^ d.grid) *ℤ pos n *ℤ pos (d.plant_denominator ^ k) *ℤ r.target))
      (dot_same d.states r.coefficient _ _ (λ i o. sym ((run_law d).trajectory (pos n) (corner d c) (corner_plan p c) k i)))
    where
      plain : (m s t n g q : ℤ) → m *ℤ s +ℤ n *ℤ g *ℤ (m *ℤ q) *ℤ neg_ℤ t ≡ m *ℤ (s -ℤ g *ℤ n *ℤ q *ℤ t)
      plain m s t n g q = by_ring (m ∷ s ∷ t ∷ n ∷ g ∷ q ∷ []) (search quotes depth 60 fits 20000) refl

      parts : (m q u : ℕ) (s : ℤ) → m * q ≡ u →
          pos m *ℤ s +ℤ pos (n * 2 ^ d.grid * u) *ℤ neg_ℤ r.target ≡ pos m *ℤ (s -ℤ pos (2 ^ d.grid) *ℤ pos n *ℤ pos q *ℤ r.target)
      parts m q u s e = rw (← e) (plain (pos m) s r.target (pos n) (pos (2 ^ d.grid)) (pos q))

  -- what it costs
  abbrev pub true_row : ℕ → ℤ
  true_row r = (counted_row d r).weight *ℤ square (counted d (cost_run d start plan) r +ℤ pos size *ℤ neg_ℤ (counted_row d r).target)

  row_is : (r : ℕ) → (counted_row d r).weight *ℤ square (magnitude (scaled_gap size d p c r)) ≡ true_row r
  row_is r =
      ap (λ (e : Enclosure). (counted_row d r).weight *ℤ square (magnitude (sum_of e (whole size (neg_ℤ (counted_row d r).target))))) (cost_is r) ∙
      ap (λ (z : ℤ). (counted_row d r).weight *ℤ z) (square_bare (counted d (cost_run d start plan) r +ℤ pos size *ℤ neg_ℤ (counted_row d r).target))

  row_true : (r : ℕ) → true_row r ≡ counted d (cost_term d (pos n) (corner d c) (corner_plan p c)) r
  row_true r = elim (cases_lt r (d.stages * d.stage_costs)) [
    | inl m ↦ rw (lt-ltb r (d.stages * d.stage_costs) m)
        (ap (λ (z : ℤ). (d.stage_cost (r % d.stage_costs)).weight *ℤ square z) (gap_at (suc (r / d.stage_costs)) (d.stage_cost (r % d.stage_costs)) (stage_inside r d.stages d.stage_costs m)))
    | inr m ↦ rw (le-ltb r (d.stages * d.stage_costs) m)
        (ap (λ (z : ℤ). (d.final_cost (r - d.stages * d.stage_costs)).weight *ℤ square z) (gap_at d.stages (d.final_cost (r - d.stages * d.stage_costs)) (same d.stages)))
  ]
    where
      same : (n : ℕ) → n ≤ n
      same n = omega arith

  -- ---- the inputs
  abbrev pub true_input : ℕ → ℤ
  true_input j = d.input_weight (j % d.inputs) *ℤ square (pos (d.row_denominator * 2 ^ d.grid * d.plant_denominator ^ d.stages) *ℤ corner_plan p c j)

  input_is : (j : ℕ) → d.input_weight (j % d.inputs) *ℤ pos (d.row_denominator ^ 2) *ℤ square (magnitude (scaled_corner_input size p c j)) ≡ true_input j
  input_is j =
      ap (λ (v : ℕ → Enclosure). d.input_weight (j % d.inputs) *ℤ pos (d.row_denominator ^ 2) *ℤ square (magnitude (v j))) inputs_are ∙
      ap (λ (z : ℤ). d.input_weight (j % d.inputs) *ℤ pos (d.row_denominator ^ 2) *ℤ z) (square_bare (pos (exact_unit d) *ℤ plan j)) ∙
      squared (d.input_weight (j % d.inputs)) d.row_denominator (2 ^ d.grid) (exact_unit d) (corner_plan p c j)
    where
      plain : (w r g a u : ℤ) → w *ℤ (r *ℤ r) *ℤ (a *ℤ (g *ℤ u) *ℤ (a *ℤ (g *ℤ u))) ≡ w *ℤ (r *ℤ g *ℤ a *ℤ u *ℤ (r *ℤ g *ℤ a *ℤ u))
      plain w r g a u = by_ring (w ∷ r ∷ g ∷ a ∷ u ∷ []) (search quotes depth 60 fits 20000) refl

      squared : (w : ℤ) (r g a : ℕ) (u : ℤ) → w *ℤ pos (r ^ 2) *ℤ square (pos a *ℤ (pos g *ℤ u)) ≡ w *ℤ square (pos (r * g * a) *ℤ u)
      squared w r g a u = rw (pow-two r) (plain w (pos r) (pos g) (pos a) u)

  -- ---- together
  pub true_cost : (simulated d p).cost c ≡ total (counts d) true_row +ℤ total (entries d) true_input
  true_cost = sym (add_equations
      (total_same (counts d) _ _ (λ r l. row_true r) ∙ sym (counted_total d (cost_term d (pos n) (corner d c) (corner_plan p c))))
      (total_blocks d.stages d.inputs true_input ∙ total_same d.stages _ _ (λ k l. total_same d.inputs _ _ (λ m o. block k m o))) ∙
      ap (λ (z : ℤ). cost d z (corner d c) (corner_plan p c)) (sym q))
    where
      block : (k m : ℕ) → m < d.inputs → true_input (k * d.inputs + m) ≡
          d.input_weight m *ℤ square (pos (d.row_denominator * 2 ^ d.grid * d.plant_denominator ^ d.stages) *ℤ corner_plan p c (k * d.inputs + m))
      block k m o = rw (mod-mul-add k d.inputs m o) refl

  whole_cost : scaled_row_cost size d p c +ℤ scaled_input_cost size d p c ≡ (simulated d p).cost c
  whole_cost = add_equations (total_same (counts d) _ _ (λ r l. row_is r)) (total_same (entries d) _ _ (λ j l. input_is j)) ∙ sym true_cost

  pub slack_over : pos (d.limit_denominator * size) ≡ (simulated d p).slack_scale c
  slack_over = rw q (ap pos (turn d.limit_denominator n (2 ^ d.grid) (exact_unit d)))
    where
      turn : (l n g a : ℕ) → l * (n * g * a) ≡ l * g * a * n
      turn l n g a = omega arith

  pub cost_over : pos (d.cost_denominator * d.row_denominator ^ 2 * (size * size)) ≡ (simulated d p).cost_scale c
  cost_over = rw q (ap pos (turn d.cost_denominator d.row_denominator n (2 ^ d.grid) (exact_unit d)))
    where
      turn : (w r n g a : ℕ) → w * r ^ 2 * (n * g * a * (n * g * a)) ≡ w * (r * g * a) ^ 2 * (n * n)
      turn w r n g a = rw (pow-two (r * g * a), pow-two r) (omega arith)

  shows_same : ShowSame (scaled_corners (corner_unit d p) d p) (simulated d p) c
  shows_same = record {
    slack = slack_is;
    slack_scale = ap (λ (m : ℕ). pos (d.limit_denominator * m)) unit_is ∙ slack_over;
    cost = ap (λ (m : ℕ). scaled_row_cost m d p c +ℤ scaled_input_cost m d p c) unit_is ∙ whole_cost;
    cost_scale = ap (λ (m : ℕ). pos (d.cost_denominator * d.row_denominator ^ 2 * (m * m))) unit_is ∙ cost_over;
  }

pub exact_corners_are_scaled : ExactCornersAreScaled
exact_corners_are_scaled d p c a h = shows_same d p c (unsigned_abs (corner_denominator p c)) a (natural _ h) (some _ h)
  where
    natural : (z : ℤ) → pos 1 ≤ℤ z → z ≡ pos (unsigned_abs z)
    natural z h = omega (arith, ints, h)

    some : (z : ℤ) → pos 1 ≤ℤ z → 1 ≤ unsigned_abs z
    some z h = omega (arith, ints, h)
