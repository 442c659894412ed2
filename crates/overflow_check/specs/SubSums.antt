-- The terms that a plan entry's and a row's sum are made of, and what the sum of any of them is at most: so the terms may be added in any order, in groups, with parts made once a run and
-- with two terms taken together.
use Rattle.std.specs.Prelude.{Bool, ℕ, suc, ◌^◌, ◌≤◌, ◌<◌, ℤ, pos, ◌+ℤ◌, ◌*ℤ◌, neg_ℤ, List, [], ◌∷◌, ◌++◌, length, map, unsigned_abs, if◌then◌else◌}
use Rattle.integer_algebra.specs.Sums.{at}
use Rattle.mat_int.specs.Matrix.{row_of}
use Rattle.qp_model.specs.machine.Controller.{Numbers}
use Rattle.qp_model.specs.machine.Machine.{Iterate, IsAdmissible, loaded, raised, plan_of, after}
use Rattle.qp_model.specs.machine.AbsoluteSums.{IsController, entry_absolute_sum, row_absolute_sum}
use Rattle.qp_model.specs.machine.ValuesMet.{products, FitsWidth}

-- the sum of the terms that are chosen, term k where `chosen k` says so
abbrev pub sub_sum : (ℕ → Bool) → List ℤ → ℤ
sub_sum chosen [] = pos 0
sub_sum chosen (term ∷ terms) = (if chosen 0 then term else pos 0) +ℤ sub_sum (λ k. chosen (suc k)) terms

-- the terms of plan entry j before they are scaled: the state's products and the offset
abbrev pub unscaled_terms : Numbers → List ℤ → ℕ → List ℤ
unscaled_terms c state j = products (row_of c.state_gains j) state ++ (at c.offsets j *ℤ pos (2 ^ c.fraction_bits)) ∷ []

-- the terms of plan entry j, over 2^(2 fraction_bits + step_exponent)
abbrev pub entry_terms : Numbers → List ℤ → List ℤ → ℕ → List ℤ
entry_terms c state multipliers j =
    map (λ term. term *ℤ pos (2 ^ c.step_exponent)) (unscaled_terms c state j) ++ products (row_of c.dual_gains j) multipliers

-- the terms of row i, over 2^(2 fraction_bits)
abbrev pub row_terms : Numbers → List ℤ → List ℤ → ℕ → List ℤ
row_terms c state plan i =
    products (row_of c.plan_rows i) plan ++ products (row_of c.state_rows i) state ++ neg_ℤ (at c.bounds i *ℤ pos (2 ^ c.fraction_bits)) ∷ []

-- the sum of any of these terms is at most this in absolute value, and fits the width
pub record SubSumsStay (w most : ℕ) (terms : List ℤ) : Type 0 where
  pub bounded : (chosen : ℕ → Bool) → unsigned_abs (sub_sum chosen terms) ≤ most
  pub fits : (chosen : ℕ → Bool) → FitsWidth w (sub_sum chosen terms)

-- at each step of a run
pub record StepSubSumsStay (c : Numbers) (state : List ℤ) (made : Iterate) : Type 0 where
  pub unscaled : (j : ℕ) → j < length c.offsets → SubSumsStay c.width (entry_absolute_sum c j) (unscaled_terms c state j)
  pub entries : (j : ℕ) → j < length c.offsets → SubSumsStay c.width (entry_absolute_sum c j) (entry_terms c state (raised c made.multipliers) j)
  pub rows : (i : ℕ) → i < length c.bounds →
      SubSumsStay c.width (row_absolute_sum c i) (row_terms c state (plan_of c state (raised c made.multipliers)) i)

-- from any grid state of the box and at each step, the sum of any of a plan entry's or a row's terms is at most its absolute sum, and no sum of them, in whatever order, leaves the width
abbrev pub SubSumsLaw : Type 0
SubSumsLaw = (c : Numbers) (xi : List ℤ) → IsController c → IsAdmissible c xi →
    (k : ℕ) → k < c.steps → StepSubSumsStay c (loaded c xi) (after c (loaded c xi) k)
