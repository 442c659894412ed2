-- The promise at all states of a box: it is empty where the box has none, it says nothing of a state that is shorter or lies outside, and it tells of each other one.
use Rattle.std.proofs.Common.{◌≡◌, ℕ, ◌*◌, ◌^◌, ◌<◌, ℤ, pos, ◌+ℤ◌, ◌*ℤ◌, ◌≤ℤ◌, ◌<ℤ◌, List, [], ◌∷◌, refl, arith}
use Rattle.std.proofs.lemmas.Int.{ints}
use Rattle.integer_algebra.specs.Sums.{at, square, none}
use Rattle.qp_model.specs.problem.Design.{Design, rows}
use Rattle.qp_model.specs.problem.Cost.{cost, cost_scale}
use Rattle.qp_model.specs.problem.Residual.{residual, residual_scale, IsFeasible}
use Rattle.qp_model.specs.machine.Controller.{Numbers}
use Rattle.qp_model.specs.machine.Machine.{run_of}
use Rattle.qp_model.specs.machine.ValuesMet.{RunFits}
use Rattle.qp_model.specs.bounds.Printed.{Printed}
use Rattle.qp_model.specs.bounds.Certified.{HasFeasible, KeepsBounds, IsCertifiedAt, IsCertified}
use Rattle.trials_definitions.proofs.WorkedDesigns.{plain}
use Rattle.trials_definitions.proofs.WorkedControllers.{small, least}
use Rattle.trials_definitions.proofs.ProblemsWorked.{box_low}

-- of a word of 4 bits
abbrev narrow : Printed
narrow = record least { width = 4 }

-- ---- no state lies in this box
abbrev empty : Design
empty = record plain { low = at (pos 1 ∷ pos 1 ∷ []); high = none }

certified_nowhere : IsCertified empty small narrow
certified_nowhere xi l h = absurd (omega (arith, ints, (h 0 (omega arith)).0, (h 0 (omega arith)).1))

-- ---- the loaded state of the lowest corner, 4 and 8 over 8, doesn't fit a word of 4 bits
certified_not : IsCertified plain small narrow → ⊥
certified_not h = ((h (pos 1 ∷ pos 2 ∷ []) refl box_low).values.state 1 (pos 0) (omega arith)).high.lt

-- ---- what it tells of a state
steps_told : (d : Design) (c : Numbers) (b : Printed) (xi : List ℤ) → IsCertifiedAt d c b xi → c.steps ≡ b.steps
steps_told d c b xi h = h.steps

values_told : (d : Design) (c : Numbers) (b : Printed) (xi : List ℤ) → IsCertifiedAt d c b xi → RunFits b.width c xi
values_told d c b xi h = h.values

plan_told : (d : Design) (c : Numbers) (b : Printed) (xi : List ℤ) → IsCertifiedAt d c b xi → KeepsBounds d b (at xi) (pos (c.steps * 2 ^ c.fraction_bits)) (at (run_of c xi).sums)
plan_told d c b xi h = h.plan

-- ---- what the bounds tell of a plan u over q
row_told : (d : Design) (b : Printed) (xi u : ℕ → ℤ) (q : ℤ) → KeepsBounds d b xi q u → (i : ℕ) → i < rows d →
    (pos (2 ^ 40) *ℤ residual d q xi u i) ≤ℤ (at b.row_violations i *ℤ pos (residual_scale d) *ℤ q)
row_told d b xi u q h i l = h.rows i l

violation_told : (d : Design) (b : Printed) (xi u : ℕ → ℤ) (q : ℤ) → KeepsBounds d b xi q u → (i : ℕ) → i < rows d →
    (pos (2 ^ 40) *ℤ residual d q xi u i) ≤ℤ (b.violation *ℤ pos (residual_scale d) *ℤ q)
violation_told d b xi u q h i l = h.violation i l

cost_told : (d : Design) (b : Printed) (xi u : ℕ → ℤ) (q : ℤ) → KeepsBounds d b xi q u → (r : ℤ) (t : ℕ → ℤ) → pos 0 <ℤ r → IsFeasible d r xi t →
    (pos (2 ^ 40) *ℤ cost d q xi u *ℤ square r) ≤ℤ ((pos (2 ^ 40) *ℤ cost d r xi t +ℤ b.gap *ℤ pos (cost_scale d) *ℤ square r) *ℤ square q)
cost_told d b xi u q h r t some f = h.costs r t some f

repair_told : (d : Design) (b : Printed) (xi u : ℕ → ℤ) (q : ℤ) → KeepsBounds d b xi q u → HasFeasible d xi q u b.undercut
repair_told d b xi u q h = h.repair

-- ---- some plan that is feasible
some_denominator : (d : Design) (xi u : ℕ → ℤ) (q more : ℤ) (h : HasFeasible d xi q u more) → pos 0 <ℤ h.denominator
some_denominator d xi u q more h = h.positive

some_feasible : (d : Design) (xi u : ℕ → ℤ) (q more : ℤ) (h : HasFeasible d xi q u more) → IsFeasible d h.denominator xi h.plan
some_feasible d xi u q more h = h.feasible

some_cost : (d : Design) (xi u : ℕ → ℤ) (q more : ℤ) (h : HasFeasible d xi q u more) →
    (pos (2 ^ 40) *ℤ cost d h.denominator xi h.plan *ℤ square q) ≤ℤ ((pos (2 ^ 40) *ℤ cost d q xi u +ℤ more *ℤ pos (cost_scale d) *ℤ square q) *ℤ square h.denominator)
some_cost d xi u q more h = h.cheap
