-- What is certified of a run speaks of no box.
use Rattle.std.proofs.Common.{◌≡◌, ℕ, zero, suc, ◌+◌, ◌-◌, ◌*◌, ◌/◌, ◌%◌, ◌^◌, ℤ, pos, ◌+ℤ◌, ◌-ℤ◌, ◌*ℤ◌, ◌≤ℤ◌, List, refl, sym, ap, subst}
use Rattle.std.specs.Prelude.{nat_lt, if◌then◌else◌}
use Rattle.integer_algebra.specs.Sums.{total, dot, square, image, at}
use Rattle.qp_model.specs.problem.Design.{Design, CostRow, LimitRow}
use Rattle.qp_model.specs.problem.Trajectory.{trajectory, lift}
use Rattle.qp_model.specs.problem.Residual.{residual, residual_scale, IsFeasible}
use Rattle.qp_model.specs.problem.Cost.{cost, cost_scale}
use Rattle.qp_model.specs.bounds.Printed.{Printed}
use Rattle.qp_model.specs.bounds.Certified.{KeepsBounds, CostsAtMost, ExceedsNoRowBy}
use Rattle.cell_maker.specs.Controllers.declared.any_controller.AnyController.{AnyController}
use Rattle.cell_maker.specs.Controllers.declared.any_controller.AnyController.TheVariants.{Plain, Fast}
use Rattle.cell_maker.specs.Made.{IsCertifiedBy}

module _ (d : Design) (low high : ℕ → ℤ) where
  abbrev boxed : Design
  boxed = record d { low = low; high = high }

  module _ (q : ℤ) (xi u : ℕ → ℤ) where
    run_same : (k i : ℕ) → trajectory boxed q xi u k i ≡ trajectory d q xi u k i
    run_same zero i = refl
    run_same (suc k) i =
        ap (λ (f : ℕ → ℤ). image d.states d.plant_a f i +ℤ pos (2 ^ d.grid * d.plant_denominator ^ k) *ℤ image d.inputs d.plant_b (λ l. u (k * d.inputs + l)) i) (λ t j. run_same k j t)

    along_stage : (k : ℕ) (r : LimitRow) (f : ℕ → ℤ) → ℤ
    along_stage k r f =
        lift d k *ℤ (dot d.states r.of_state f +ℤ pos (2 ^ d.grid * d.plant_denominator ^ k) *ℤ dot d.inputs r.of_input (λ l. u (k * d.inputs + l)) -ℤ
        pos (2 ^ d.grid) *ℤ q *ℤ pos (d.plant_denominator ^ k) *ℤ r.bound)

    residual_same : (i : ℕ) → residual boxed q xi u i ≡ residual d q xi u i
    unfolding along_stage
    residual_same i = λ t.
        if nat_lt i (d.stages * d.stage_limits) then
        along_stage (i / d.stage_limits) (d.stage_limit (i % d.stage_limits)) (λ j. run_same (i / d.stage_limits) j t)
        else (dot d.states (d.final_limit (i - d.stages * d.stage_limits)).of_state (λ j. run_same d.stages j t) -ℤ
        pos (2 ^ d.grid) *ℤ q *ℤ pos (d.plant_denominator ^ d.stages) *ℤ (d.final_limit (i - d.stages * d.stage_limits)).bound)

    along_cost : (k : ℕ) (r : CostRow) (f : ℕ → ℤ) → ℤ
    along_cost k r f = r.weight *ℤ square (lift d k *ℤ (dot d.states r.coefficient f -ℤ pos (2 ^ d.grid) *ℤ q *ℤ pos (d.plant_denominator ^ k) *ℤ r.target))

    cost_same : cost boxed q xi u ≡ cost d q xi u
    unfolding along_cost
    cost_same = λ t.
        total d.stages (λ k. total d.stage_costs (λ r. along_cost (suc k) (d.stage_cost r) (λ j. run_same (suc k) j t))) +ℤ
        total d.final_costs (λ r. along_cost d.stages (d.final_cost r) (λ j. run_same d.stages j t)) +ℤ
        total d.stages (λ k. total d.inputs (λ l. d.input_weight l *ℤ
        square (pos (d.row_denominator * 2 ^ d.grid * d.plant_denominator ^ d.stages) *ℤ u (k * d.inputs + l))))

  -- ---- what is kept
  module _ (xi : ℕ → ℤ) where
    feasible_same : (r : ℤ) (t : ℕ → ℤ) → IsFeasible boxed r xi t → IsFeasible d r xi t
    feasible_same r t h i lt = subst (λ (z : ℤ). z ≤ℤ pos 0) (residual_same r xi t i) (h i lt)

    feasible_boxed : (r : ℤ) (t : ℕ → ℤ) → IsFeasible d r xi t → IsFeasible boxed r xi t
    feasible_boxed r t h i lt = subst (λ (z : ℤ). z ≤ℤ pos 0) (sym (residual_same r xi t i)) (h i lt)

    costs_same : (q : ℤ) (u : ℕ → ℤ) (r : ℤ) (t : ℕ → ℤ) (more : ℤ) → CostsAtMost boxed xi q u r t more → CostsAtMost d xi q u r t more
    costs_same q u r t more h =
        subst (λ (z : ℤ). (pos (2 ^ 40) *ℤ z *ℤ square r) ≤ℤ ((pos (2 ^ 40) *ℤ cost d r xi t +ℤ more *ℤ pos (cost_scale d) *ℤ square r) *ℤ square q)) (cost_same q xi u)
        (subst (λ (z : ℤ). (pos (2 ^ 40) *ℤ cost boxed q xi u *ℤ square r) ≤ℤ ((pos (2 ^ 40) *ℤ z +ℤ more *ℤ pos (cost_scale d) *ℤ square r) *ℤ square q)) (cost_same r xi t) h)

    exceeds_same : (q : ℤ) (u : ℕ → ℤ) (excess : ℕ → ℤ) → ExceedsNoRowBy boxed xi q u excess → ExceedsNoRowBy d xi q u excess
    exceeds_same q u excess h i lt = subst (λ (z : ℤ). (pos (2 ^ 40) *ℤ z) ≤ℤ (excess i *ℤ pos (residual_scale d) *ℤ q)) (residual_same q xi u i) (h i lt)

    bounds_same : (b : Printed) (q : ℤ) (u : ℕ → ℤ) → KeepsBounds boxed b xi q u → KeepsBounds d b xi q u
    bounds_same b q u h = record {
      rows = exceeds_same q u (at b.row_violations) h.rows;
      violation = exceeds_same q u (λ i. b.violation) h.violation;
      costs = λ r t some feasible. costs_same q u r t b.gap (h.costs r t some (feasible_boxed r t feasible));
      repair = record {
        denominator = h.repair.denominator;
        plan = h.repair.plan;
        positive = h.repair.positive;
        feasible = feasible_same h.repair.denominator h.repair.plan h.repair.feasible;
        cheap = costs_same h.repair.denominator h.repair.plan q u b.undercut h.repair.cheap;
      };
    }

  pub certified_same : (k : AnyController) (b : Printed) (xi : List ℤ) → IsCertifiedBy boxed k b xi → IsCertifiedBy d k b xi
  certified_same (Plain c) b xi h = record { values = h.values; steps = h.steps; plan = bounds_same (at xi) b _ _ h.plan }
  certified_same (Fast c) b xi h = record { values = h.values; steps = h.steps; plan = bounds_same (at xi) b _ _ h.plan }
