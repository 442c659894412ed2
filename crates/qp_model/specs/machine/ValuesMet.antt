-- Each value that the machine meets in a run: every product, every partial sum, each value before and after a floor, and the sums.
use Rattle.std.specs.Prelude.{ℕ, ◌+◌, ◌-◌, ◌^◌, ◌<◌, ℤ, pos, ◌+ℤ◌, ◌*ℤ◌, neg_ℤ, ◌≤ℤ◌, ◌<ℤ◌, List, [], ◌∷◌, ◌++◌, length, All}
use Rattle.integer_algebra.specs.Division.{floor_of}
use Rattle.integer_algebra.specs.Sums.{at}
use Rattle.mat_int.specs.Row.{list_dot}
use Rattle.mat_int.specs.Matrix.{row_of}
use Rattle.qp_model.specs.machine.Controller.{Numbers}
use Rattle.qp_model.specs.machine.Machine.{Iterate, loaded, raised, top_of, entry_sum, plan_entry, row_sum, next_multiplier, step_of, after}

-- the products of two lists, one by one
abbrev pub products : List ℤ → List ℤ → List ℤ
products [] ys = []
products (x ∷ xs) [] = []
products (x ∷ xs) (y ∷ ys) = (x *ℤ y) ∷ products xs ys

-- the partial sums of these terms, from a start on
abbrev pub partial_sums : ℤ → List ℤ → List ℤ
partial_sums start [] = []
partial_sums start (term ∷ terms) = (start +ℤ term) ∷ partial_sums (start +ℤ term) terms

-- the values that plan entry j is made by, at multipliers over 2^(fraction_bits + step_exponent); the last sum is taken both apart and going on from the
-- first
abbrev pub entry_values : Numbers → List ℤ → List ℤ → ℕ → List ℤ
entry_values c state multipliers j =
    let own = products (row_of c.state_gains j) state in
    let offset = at c.offsets j *ℤ pos (2 ^ c.fraction_bits) in
    let sum = list_dot (row_of c.state_gains j) state +ℤ offset in
    let scaled = sum *ℤ pos (2 ^ c.step_exponent) in
    let dual = products (row_of c.dual_gains j) multipliers in
    own ++ partial_sums (pos 0) own ++ offset ∷ sum ∷ scaled ∷ [] ++ dual ++ partial_sums (pos 0) dual ++ partial_sums scaled dual
    ++ entry_sum c state multipliers j ∷ floor_of (entry_sum c state multipliers j) (2 ^ (c.fraction_bits + c.step_exponent)) ∷ plan_entry c state multipliers j ∷ []

-- the values that multiplier i is moved by
abbrev pub row_values : Numbers → List ℤ → List ℤ → ℤ → ℕ → List ℤ
row_values c state plan old i =
    let planned = products (row_of c.plan_rows i) plan in
    let own = products (row_of c.state_rows i) state in
    let sum = list_dot (row_of c.plan_rows i) plan in
    let moved = floor_of (row_sum c state plan i) (2 ^ c.fraction_bits) in
    planned ++ partial_sums (pos 0) planned ++ own ++ partial_sums (pos 0) own ++ partial_sums sum own
    ++ (at c.bounds i *ℤ pos (2 ^ c.fraction_bits)) ∷ row_sum c state plan i ∷ moved ∷ (old +ℤ moved) ∷ c.clamp ∷ top_of c i ∷ next_multiplier c state plan old i ∷ []

-- a word of w bits in two's complement
pub record FitsWidth (w : ℕ) (z : ℤ) : Type 0 where
  pub low : neg_ℤ (pos (2 ^ (w - 1))) ≤ℤ z
  pub high : z <ℤ pos (2 ^ (w - 1))

-- each value of a step fits
pub record StepFits (w : ℕ) (c : Numbers) (state : List ℤ) (made : Iterate) : Type 0 where
  pub raised_multipliers : All (FitsWidth w) (raised c made.multipliers)
  pub entries : (j : ℕ) → j < length c.offsets → All (FitsWidth w) (entry_values c state (raised c made.multipliers) j)
  pub rows : (i : ℕ) → i < length c.bounds → All (FitsWidth w) (row_values c state (step_of c state made).plan (at made.multipliers i) i)
  pub sums : All (FitsWidth w) (step_of c state made).sums

-- each value of a run fits, the loaded state too
pub record RunFits (w : ℕ) (c : Numbers) (xi : List ℤ) : Type 0 where
  pub state : All (FitsWidth w) (loaded c xi)
  pub steps : (k : ℕ) → k < c.steps → StepFits w c (loaded c xi) (after c (loaded c xi) k)
