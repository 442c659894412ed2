-- Runs of whole numbers over a unit, and lists and matrices of enclosures.
use Rattle.std.specs.Prelude.{◌≡◌, ℕ, ◌*◌, ◌^◌, ◌<◌, ◌≤◌, ℤ, List, map}
use Rattle.integer_algebra.specs.Sums.{none}
use Rattle.frac_scaled.specs.Enclosures.{Enclosure}
use Rattle.mat_int.specs.Matrix.{Matrix}
use Rattle.enclosure.specs.declared.types.Enc.{Enc}
use Rattle.enclosure.specs.Values.{pair_at}
use Rattle.qp_model.specs.declared.design_parts.DesignParts.{DesignParts}
use Rattle.qp_model.specs.problem.Parts.{design_of, IsDesign}
use Rattle.qp_model.specs.problem.Runs.{unit}
use Rattle.qp_model.specs.form.Quantities.{growth}
use Rattle.qp_model.specs.form.FineForm.{fine_run}
use Rattle.condensed_form.specs.Lists.{HoldsMatrix}
use Rattle.scaled_run.specs.ScaledForm.{wholes_over}
use Rattle.scaled_run.specs.Lists.{Reaches}

-- what unit states and unit plans are over, and what their runs reach at most
pub record IsScale (p : DesignParts) (over : ℕ) (reach : ℕ) : Type 0 where
  pub design : IsDesign p
  pub some : 1 ≤ over
  pub covers : over ≤ reach
  pub room : growth (design_of p) * reach ≤ 2 ^ 126
  pub of_plan : (j k i : ℕ) → k ≤ p.stages → i < p.states →
      Reaches (fine_run (design_of p) (wholes_over over none) (wholes_over over (unit j)) k i) reach
  pub of_state : (j k i : ℕ) → k ≤ p.stages → i < p.states →
      Reaches (fine_run (design_of p) (wholes_over over (unit j)) (wholes_over over none) k i) reach

-- what a run was made of: this design, and the whole numbers x as its state and v as its plan, over m
pub record IsRunOver (m reach : ℕ) (p : DesignParts) (x v : ℕ → ℤ) (q : DesignParts) (most : ℕ) (xs vs : List Enc) : Type 0 where
  pub parts : q ≡ p
  pub first : most ≡ reach
  pub start : pair_at xs ≡ wholes_over m x
  pub plan : pair_at vs ≡ wholes_over m v

-- ---- matrices
-- the midpoints of a list, and its radii
abbrev pub mids : List Enc → List ℤ
mids = map (λ e. e.mid)

abbrev pub rads : List Enc → List ℤ
rads = map (λ e. e.rad)

-- matrices of midpoints and of radii, whose first `known` columns hold the values of f
pub record HoldsEncMatrix (mid rad : Matrix) (height width known : ℕ) (f : ℕ → ℕ → Enclosure) : Type 0 where
  pub mids : HoldsMatrix mid height width known (λ i j. (f i j).mid)
  pub rads : HoldsMatrix rad height width known (λ i j. (f i j).rad)
