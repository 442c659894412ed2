-- What makes numbers a controller of either machine, and the greatest absolute sum by what each weighs multipliers and plans by.
use Rattle.std.specs.Prelude.{ℕ, ◌+◌, ◌*◌, ◌^◌, max, length, map, unsigned_abs}
use Rattle.std.specs.List.{range_with_len}
use Rattle.integer_algebra.specs.Division.{ceil_div}
use Rattle.qp_model.specs.machine.Controller.{Numbers, IsSized, IsInForm}
use Rattle.qp_model.specs.machine.AbsoluteSums.{state_magnitudes, entry_absolute_sum, plan_magnitudes, row_absolute_sum, greatest_of, greatest_sum, IsController}
use Rattle.overflow_check.specs.FastMachine.{all_weights}
use Rattle.overflow_check.specs.FastController.{IsFastSized, IsFastInForm, greatest_fast_sum, IsFastController}
use Rattle.overflow_check.specs.declared.machine.Machine.{Machine}
use Rattle.overflow_check.specs.declared.machine.Machine.TheVariants.{Plain, Accelerated}
use Rattle.overflow_check.specs.declared.absolute_sums.Weights.{Weights}

-- ---- of this machine
abbrev pub IsSizedFor : Machine → Numbers → Type 0
IsSizedFor Plain c = IsSized c
IsSizedFor Accelerated c = IsFastSized c

abbrev pub IsInFormFor : Machine → Numbers → Type 0
IsInFormFor Plain c = IsInForm c
IsInFormFor Accelerated c = IsFastInForm c

abbrev pub IsControllerFor : Machine → Numbers → Type 0
IsControllerFor Plain c = IsController c
IsControllerFor Accelerated c = IsFastController c

abbrev pub greatest_for : Machine → Numbers → ℕ
greatest_for Plain c = greatest_sum c
greatest_for Accelerated c = greatest_fast_sum c

-- ---- by its weights
-- of those that the plan's entries are made of
abbrev pub greatest_entry_sum : Numbers → ℕ
greatest_entry_sum c = greatest_of (map (entry_absolute_sum c) (range_with_len 0 (length c.offsets)))

-- of those of the rows
abbrev pub greatest_row_sum : Numbers → ℕ
greatest_row_sum c = greatest_of (map (row_absolute_sum c) (range_with_len 0 (length c.bounds)))

abbrev pub weights_for : Machine → Numbers → Weights
weights_for Plain c = record { top = unsigned_abs c.clamp; step = 1; all = c.steps; held = 0 }
weights_for Accelerated c = record { top = 2 * unsigned_abs c.clamp; step = c.steps + 1; all = all_weights c.steps; held = all_weights c.steps }

-- of the multipliers before they are clamped, of those that are held by their weights, and of the sums of a run, from the greatest of the rows' sums and of the plan's entries
abbrev pub weighed : Weights → (row plan fraction_bits : ℕ) → ℕ
weighed w row plan f = max (max (w.top + w.step * ceil_div row (2 ^ f)) (w.top * w.held)) (w.all * plan)

abbrev pub greatest_weighed : Weights → Numbers → ℕ
greatest_weighed w c = max (max (max (greatest_of (state_magnitudes c)) (greatest_entry_sum c)) (greatest_row_sum c))
    (weighed w (greatest_row_sum c) (greatest_of (plan_magnitudes c)) c.fraction_bits)
