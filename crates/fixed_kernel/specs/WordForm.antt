-- A step in words of 64 bits: what the state and the offsets add to each sum stands apart, and is made once a run.
use Rattle.std.specs.Prelude.{◌≡◌, ℕ, ◌+◌, ◌^◌, ◌≤◌, ◌<◌, ℤ, pos, ◌+ℤ◌, ◌-ℤ◌, ◌*ℤ◌, List, All, length, map, unsigned_abs, slice_index_or}
use Rattle.std.specs.List.{range_with_len}
use Rattle.integer_algebra.specs.Sums.{at}
use Rattle.mat_int.specs.Row.{list_dot}
use Rattle.mat_int.specs.Matrix.{row_of}
use Rattle.qp_model.specs.machine.Controller.{Numbers}
use Rattle.qp_model.specs.machine.Machine.{Iterate}
use Rattle.qp_model.specs.machine.AbsoluteSums.{clamp_magnitudes, plan_magnitudes}
use Rattle.qp_model.specs.machine.Within.{AreWithin}

-- what the sum of plan entry j starts from, scaled as it is written; with the multipliers' products it is `entry_sum`
abbrev pub entry_base : Numbers → List ℤ → ℕ → ℤ
entry_base c state j = (list_dot (row_of c.state_gains j) state +ℤ at c.offsets j *ℤ pos (2 ^ c.fraction_bits)) *ℤ pos (2 ^ c.step_exponent)

-- what the sum of row i starts from; with the plan's products it is `row_sum`
abbrev pub row_base : Numbers → List ℤ → ℕ → ℤ
row_base c state i = list_dot (row_of c.state_rows i) state -ℤ at c.bounds i *ℤ pos (2 ^ c.fraction_bits)

-- those of all entries, and those of all rows
abbrev pub entry_bases : Numbers → List ℤ → List ℤ
entry_bases c state = map (entry_base c state) (range_with_len 0 (length c.offsets))

abbrev pub row_bases : Numbers → List ℤ → List ℤ
row_bases c state = map (row_base c state) (range_with_len 0 (length c.bounds))

-- a controller whose steps are made in words of 64 bits: by its width each value fits, and each shift stays within a word
pub record IsWordSized (c : Numbers) : Type 0 where
  pub width : c.width ≤ 64
  pub bits : c.fraction_bits + c.step_exponent < 64

-- a number that fits half a word, as its negative does
abbrev pub IsHalf : ℤ → Type 0
IsHalf z = unsigned_abs z < 2 ^ 31

-- each factor of a step's products does: each entry of the matrices and each raised multiplier, and, by the width, each entry of the plan
pub record HasHalfFactors (c : Numbers) : Type 0 where
  pub dual_gains : All (All IsHalf) c.dual_gains.rows
  pub plan_rows : All (All IsHalf) c.plan_rows.rows
  pub clamp : IsHalf c.clamp
  pub width : c.width ≤ c.fraction_bits + c.step_exponent + 31

-- what one more step asks of a state's bases and of what the machine has made, its multipliers raised
pub record IsReadyInWords (c : Numbers) (state entry_starts row_starts : List ℤ) (made : Iterate) : Type 0 where
  pub entries : entry_starts ≡ entry_bases c state
  pub rows : row_starts ≡ row_bases c state
  pub multipliers_within : AreWithin made.multipliers (clamp_magnitudes c)
  pub plan_long : length made.plan ≡ length c.offsets
  pub sums_long : length made.sums ≡ length c.offsets
  pub room : (k : ℕ) → k < length c.offsets → unsigned_abs (at made.sums k) + slice_index_or (plan_magnitudes c) k 0 < 2 ^ 63
