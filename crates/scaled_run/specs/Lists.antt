-- Lists of enclosures, and what a run in enclosures is made of.
use Rattle.std.specs.Prelude.{◌≡◌, ℕ, ◌+◌, ◌*◌, ◌/◌, ◌%◌, ◌^◌, ◌<◌, ◌≤◌, pos, ◌≤ℤ◌, List, length}
use Rattle.frac_scaled.specs.Enclosures.{Enclosure, magnitude}
use Rattle.enclosure.specs.declared.types.Enc.{Enc}
use Rattle.enclosure.specs.Values.{pair_at}
use Rattle.qp_model.specs.declared.design_parts.DesignParts.{DesignParts}
use Rattle.qp_model.specs.problem.Parts.{design_of, IsDesign}
use Rattle.qp_model.specs.form.Quantities.{growth}
use Rattle.qp_model.specs.form.FineForm.{fine_run}

-- a list holds the first n values of f
pub record HoldsEnclosures (xs : List Enc) (n : ℕ) (f : ℕ → Enclosure) : Type 0 where
  pub long : length xs ≡ n
  pub is : (i : ℕ) → i < n → pair_at xs i ≡ f i

-- no radius is negative, and midpoint and radius together are at most b
pub record Reaches (e : Enclosure) (b : ℕ) : Type 0 where
  pub radius : pos 0 ≤ℤ e.rad
  pub within : magnitude e ≤ℤ pos b

-- what a run needs: a design, and a state and a plan of its sizes; the states at all stages, and the plan, reach `reach` at most
pub record IsRunReady (p : DesignParts) (reach : ℕ) (x v : List Enc) : Type 0 where
  pub design : IsDesign p
  pub start : length x ≡ p.states
  pub plan : length v ≡ p.stages * p.inputs
  pub near_states : (k i : ℕ) → k ≤ p.stages → i < p.states → Reaches (fine_run (design_of p) (pair_at x) (pair_at v) k i) reach
  pub near_plan : (j : ℕ) → j < p.stages * p.inputs → Reaches (pair_at v j) reach
  pub fits : growth (design_of p) * reach ≤ 2 ^ 126

-- the states of a run that was made, stage by stage
pub record IsRunMade (p : DesignParts) (reach : ℕ) (x v : List Enc) (states : List Enc) : Type 0 where
  pub ready : IsRunReady p reach x v
  pub held : HoldsEnclosures states ((p.stages + 1) * p.states) (λ s. fine_run (design_of p) (pair_at x) (pair_at v) (s / p.states) (s % p.states))
