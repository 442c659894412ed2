-- Boxes of states in which no multiplier of a controller moves.
use Rattle.std.specs.Prelude.{◌≡◌, ℕ, suc, ◌-◌, ◌^◌, ◌<◌, ℤ, pos, ◌+ℤ◌, ◌-ℤ◌, ◌*ℤ◌, neg_ℤ, ◌≤ℤ◌, ◌<ℤ◌, List, length}
use Rattle.std.specs.Int.{int_max}
use Rattle.integer_algebra.specs.Division.{floor_of}
use Rattle.integer_algebra.specs.Sums.{total, coimage, at}
use Rattle.mat_int.specs.Row.{list_dot}
use Rattle.mat_int.specs.Matrix.{row_of, entry_of}
use Rattle.qp_model.specs.machine.Controller.{Numbers, plan_length, IsSized}
use Rattle.qp_model.specs.machine.Machine.{loaded, after, averaged_plan}
use Rattle.overflow_check.specs.FastMachine.{all_weights, fast_after, fast_plan}
use Rattle.overflow_check.specs.FastController.{with_last_version}

-- ---- boxes of whole numbers
pub record Box : Type 0 where
  pub low : ℕ → ℤ
  pub high : ℕ → ℤ

-- from a list to another
abbrev pub box_of : (low high : List ℤ) → Box
box_of low high = record { low = at low; high = at high }

-- n numbers lie in it
abbrev pub LiesInBox : ℕ → Box → (ℕ → ℤ) → Type 0
LiesInBox n z x = (i : ℕ) → i < n → (z.low i ≤ℤ x i) × (x i ≤ℤ z.high i)

-- a box of n numbers lies in it
abbrev pub IsPartOf : ℕ → Box → Box → Type 0
IsPartOf n z part = (i : ℕ) → i < n → (z.low i ≤ℤ part.low i) × (part.high i ≤ℤ z.high i)

-- the greatest of v'x over a box
abbrev pub greatest_over : ℕ → Box → (ℕ → ℤ) → ℤ
greatest_over n z v = total n (λ j. int_max (v j *ℤ z.low j) (v j *ℤ z.high j))

-- the greatest of v'(x - t) where each x is from 0 to 1
abbrev pub greatest_less : ℕ → (v t : ℕ → ℤ) → ℤ
greatest_less n v t = total n (λ l. int_max (v l) (pos 0) -ℤ v l *ℤ t l)

-- ---- the test of a row
-- what a number over 1 is over 2^fraction_bits
abbrev pub fraction_unit : Numbers → ℕ
fraction_unit c = 2 ^ c.fraction_bits

-- what row i has of number j of the state under the plan that the multipliers 0 give, over 2^(2 fraction_bits)
abbrev pub still_coefficient : Numbers → ℕ → ℕ → ℤ
still_coefficient c i j =
    pos (fraction_unit c) *ℤ entry_of c.state_rows i j -ℤ coimage (plan_length c) (entry_of c.state_gains) (entry_of c.plan_rows i) j

-- the most that the row's residual can be over the box under that plan, over 2^(3 fraction_bits): a plan entry is rounded up by less than 2^-fraction_bits
abbrev pub still_sum : Numbers → Box → ℕ → ℤ
still_sum c z i =
    pos (2 ^ (c.fraction_bits - c.grid_bits)) *ℤ greatest_over c.states z (still_coefficient c i)
    +ℤ pos (fraction_unit c) *ℤ (greatest_less (plan_length c) (entry_of c.plan_rows i) (at c.offsets) -ℤ pos (fraction_unit c) *ℤ at c.bounds i)

-- the multiplier of no row moves from 0
abbrev pub IsStill : Numbers → Box → Type 0
IsStill c z = (i : ℕ) → i < c.rows → still_sum c z i <ℤ (pos (fraction_unit c) *ℤ pos (fraction_unit c))

-- ---- what the machine does there
-- plan entry j at the multipliers 0, over 2^fraction_bits
abbrev pub still_entry : Numbers → List ℤ → ℕ → ℤ
still_entry c xi j = neg_ℤ (floor_of (list_dot (row_of c.state_gains j) (loaded c xi) +ℤ at c.offsets j *ℤ pos (fraction_unit c)) (fraction_unit c))

-- after any number of steps all multipliers are 0, each plan is that one, and so is the averaged plan
pub record RunIsStill (c : Numbers) (xi : List ℤ) : Type 0 where
  pub multipliers : (k i : ℕ) → at (after c (loaded c xi) k).multipliers i ≡ pos 0
  pub plans : (k j : ℕ) → j < plan_length c → at (after c (loaded c xi) (suc k)).plan j ≡ still_entry c xi j
  pub average : (j : ℕ) → j < plan_length c → at (averaged_plan c xi) j ≡ pos c.steps *ℤ still_entry c xi j

-- for every controller in form, of any version
abbrev pub StillLaw : Type 0
StillLaw = (c : Numbers) (z : Box) → IsSized (with_last_version c) → IsStill c z →
    (xi : List ℤ) → length xi ≡ c.states → LiesInBox c.states z (at xi) → RunIsStill c xi

-- the same of the accelerated machine, which moves the multipliers in their place by more, and the plan is made at means of them: so the averaged plan is the
-- same plan, times what all steps weigh together
pub record FastRunIsStill (c : Numbers) (xi : List ℤ) : Type 0 where
  pub multipliers : (k i : ℕ) → at (fast_after c (loaded c xi) k).multipliers i ≡ pos 0
  pub reached : (k i : ℕ) → at (fast_after c (loaded c xi) k).reached i ≡ pos 0
  pub plans : (k j : ℕ) → j < plan_length c → at (fast_after c (loaded c xi) (suc k)).plan j ≡ still_entry c xi j
  pub average : (j : ℕ) → j < plan_length c → at (fast_plan c xi) j ≡ pos (all_weights c.steps) *ℤ still_entry c xi j

abbrev pub FastStillLaw : Type 0
FastStillLaw = (c : Numbers) (z : Box) → IsSized (with_last_version c) → IsStill c z →
    (xi : List ℤ) → length xi ≡ c.states → LiesInBox c.states z (at xi) → FastRunIsStill c xi
