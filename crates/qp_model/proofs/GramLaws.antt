-- The condensed costs along runs.
use Rattle.std.proofs.Common.{◌≡◌, ◌≢◌, inl, inr, [], ◌∷◌, ◌^◌, false, nat_eq, ℕ, suc, ◌+◌, ◌-◌, ◌*◌, ◌%◌, ◌<◌, ◌≤◌, ℤ, pos, ◌*ℤ◌, neg_ℤ, if◌then◌else◌, arith, ap, sym, ◌∙◌, refl}
use Rattle.std.proofs.lemmas.Bool.{lt-ltb, le-ltb, eq-eqb}
use Rattle.std.proofs.lemmas.Bool.Decides.{eqb_tells}
use Rattle.integer_algebra.proofs.Quoting.{by_ring, quotes}
use Rattle.std.proofs.lemmas.Nat.{div-mul-add, mod-mul-add}
use Rattle.integer_algebra.specs.Sums.{total, none, square}
use Rattle.integer_algebra.proofs.RingLaws.{add_equations}
use Rattle.integer_algebra.proofs.SumLaws.{total_same}
use Rattle.integer_algebra.proofs.VectorLaws.{dot_same}
use Rattle.integer_algebra.proofs.BlockLaws.{total_append, total_blocks, total_single}
use Rattle.qp_model.specs.problem.Design.{Design, CostRow, entries}
use Rattle.qp_model.specs.problem.Trajectory.{lift}
use Rattle.qp_model.specs.form.Condensing.{own_input, cost_plan, cost_state, cost_target, over_costs}
use Rattle.qp_model.specs.problem.Runs.{unit, cost_run, counted, counts, GramLaw}
use Rattle.qp_model.proofs.RunLaws.{power_run, response_run, plan_inside}

-- a sum over stages and rows is one over the counted rows
pub counted_total : (d : Design) (f : ℕ → CostRow → ℤ) → over_costs d f ≡ total (counts d) (counted d f)
counted_total d f =
    sym (total_append (d.stages * d.stage_costs) d.final_costs (counted d f) ∙
    add_equations
    (total_blocks d.stages d.stage_costs (counted d f) ∙ total_same d.stages _ _ (λ k l. total_same d.stage_costs _ _ (λ r o. stage k r l o)))
    (total_same d.final_costs _ _ (λ r l. final r)))
  where
    stage : (k r : ℕ) → k < d.stages → r < d.stage_costs → counted d f (k * d.stage_costs + r) ≡ f (suc k) (d.stage_cost r)
    stage k r l o =
        rw (
          lt-ltb (k * d.stage_costs + r) (d.stages * d.stage_costs) (plan_inside k d.stages d.stage_costs r l o),
          div-mul-add k d.stage_costs r o,
          mod-mul-add k d.stage_costs r o,
        ) refl

    past : (a r : ℕ) → a + r - a ≡ r
    past a r = omega arith

    final : (r : ℕ) → counted d f (d.stages * d.stage_costs + r) ≡ f d.stages (d.final_cost r)
    final r = rw (le-ltb (d.stages * d.stage_costs + r) (d.stages * d.stage_costs) (omega arith), past (d.stages * d.stage_costs) r) refl

-- equal terms at each row
over_same : (d : Design) (f g : ℕ → CostRow → ℤ) → ((k : ℕ) (r : CostRow) → f k r ≡ g k r) → over_costs d f ≡ over_costs d g
over_same d f g h =
    add_equations (total_same d.stages _ _ (λ k l. total_same d.stage_costs _ _ (λ r o. h (suc k) (d.stage_cost r))))
    (total_same d.final_costs _ _ (λ r l. h d.stages (d.final_cost r)))

-- what a row has of a unit
pub plan_of_unit : (d : Design) (k : ℕ) (r : CostRow) (j : ℕ) → 1 ≤ d.inputs → cost_plan d k r j ≡ cost_run d none (unit j) k r
plan_of_unit d k r j h = ap (λ (z : ℤ). lift d k *ℤ z) (dot_same d.states r.coefficient _ _ (λ i l. response_run d k i j h))

pub state_of_unit : (d : Design) (k : ℕ) (r : CostRow) (j : ℕ) → cost_state d k r j ≡ cost_run d (unit j) none k r
state_of_unit d k r j = ap (λ (z : ℤ). lift d k *ℤ z) (dot_same d.states r.coefficient _ _ (λ i l. power_run d k i j))

product_term : (w a b c e : ℤ) → a ≡ c → b ≡ e → pos 2 *ℤ (w *ℤ (a *ℤ b)) ≡ pos 2 *ℤ (w *ℤ (c *ℤ e))
product_term w a b c e h k = rw (h, k) refl

counted_same : (d : Design) (f g : ℕ → CostRow → ℤ) → ((k : ℕ) (r : CostRow) → f k r ≡ g k r) → over_costs d f ≡ total (counts d) (counted d g)
counted_same d f g h = over_same d f g h ∙ counted_total d g

pub gram_law : GramLaw
gram_law d = record {
  hessian = λ i j h. add_equations
      (counted_same d _ (λ k r. pos 2 *ℤ (r.weight *ℤ (cost_run d none (unit i) k r *ℤ cost_run d none (unit j) k r)))
      (λ k r. product_term r.weight _ _ _ _ (plan_of_unit d k r i h) (plan_of_unit d k r j h))) refl;
  linear = λ j i h. counted_same d _ (λ k r. pos 2 *ℤ (r.weight *ℤ (cost_run d none (unit j) k r *ℤ cost_run d (unit i) none k r)))
      (λ k r. product_term r.weight _ _ _ _ (plan_of_unit d k r j h) (state_of_unit d k r i));
  constant = λ j h. counted_same d _ (λ k r. neg_ℤ (pos 2 *ℤ (r.weight *ℤ (cost_run d none (unit j) k r *ℤ cost_target d k r))))
      (λ k r. ap neg_ℤ (product_term r.weight _ _ _ _ (plan_of_unit d k r j h) refl));
}

-- the inputs' own costs stand on the diagonal
pub own_diagonal : (d : Design) (i j : ℕ) → i < entries d →
    total d.stages (λ k. total d.inputs (λ l. pos 2 *ℤ (d.input_weight l *ℤ (own_input d k l i *ℤ own_input d k l j)))) ≡
    (if nat_eq i j then pos 2 *ℤ (d.input_weight (i % d.inputs) *ℤ square (pos (d.row_denominator * d.plant_denominator ^ d.stages))) else pos 0)
own_diagonal d i j h =
    sym (total_blocks d.stages d.inputs flat ∙ total_same d.stages _ _ (λ k l. total_same d.inputs _ _ (λ n o. block k n o))) ∙
    total_same (d.stages * d.inputs) _ _ (λ m l. term m) ∙
    total_single (d.stages * d.inputs) i one h
  where
    s : ℤ
    s = pos (d.row_denominator * d.plant_denominator ^ d.stages)

    flat : ℕ → ℤ
    flat m = pos 2 *ℤ (d.input_weight (m % d.inputs) *ℤ ((if nat_eq i m then s else pos 0) *ℤ (if nat_eq j m then s else pos 0)))

    one : ℕ → ℤ
    one m = if nat_eq m j then pos 2 *ℤ (d.input_weight (m % d.inputs) *ℤ square s) else pos 0

    block : (k n : ℕ) → n < d.inputs → flat (k * d.inputs + n) ≡ pos 2 *ℤ (d.input_weight n *ℤ (own_input d k n i *ℤ own_input d k n j))
    block k n o = rw (mod-mul-add k d.inputs n o) refl

    nought : (w x : ℤ) → pos 2 *ℤ (w *ℤ (pos 0 *ℤ x)) ≡ pos 0
    nought w x = by_ring (w ∷ x ∷ []) (search quotes depth 60 fits 20000) refl

    nought_right : (w x : ℤ) → pos 2 *ℤ (w *ℤ (x *ℤ pos 0)) ≡ pos 0
    nought_right w x = by_ring (w ∷ x ∷ []) (search quotes depth 60 fits 20000) refl

    term : (m : ℕ) → flat m ≡ (if nat_eq m i then one m else pos 0)
    term m = elim (eqb_tells m i) [
      | inl e ↦ rw (e.0, e.1, eq-eqb i i refl) (elim (eqb_tells i j) [
        | inl f ↦ rw (f.0, ← f.1, eq-eqb i i refl) refl
        | inr f ↦ (let g : nat_eq j i ≡ false = other j i (λ z. f.1 (sym z)) in rw (f.0, g) (nought_right (d.input_weight (i % d.inputs)) s))
      ])
      | inr e ↦ (let g : nat_eq i m ≡ false = other i m (λ z. e.1 (sym z)) in rw (e.0, g) (nought (d.input_weight (m % d.inputs)) (if nat_eq j m then s else pos 0)))
    ]
      where
        other : (a b : ℕ) → a ≢ b → nat_eq a b ≡ false
        other a b ne = elim (eqb_tells a b) [ inl z ↦ absurd (ne z.1) | inr z ↦ z.0 ]
