-- The controller that a text is written from, and the lines of its statements.
use Rattle.std.specs.Prelude.{◌≡◌, ℕ, ◌-◌, ◌*◌, ◌^◌, Bool, if◌then◌else◌, List, [], ◌∷◌, ◌++◌, length, map, codes}
use Rattle.std.specs.List.{range_with_len}
use Rattle.qp_model.specs.machine.Controller.{Numbers, numbers}
use Rattle.qp_model.specs.machine.AbsoluteSums.{state_magnitudes, plan_magnitudes, next_magnitude}
use Rattle.overflow_check.specs.declared.machine.Machine.{Machine}
use Rattle.c_language.specs.Syntax.{Family, Variable, variable, Kind, Expression, Statement, groups, CProgram}
use Rattle.c_language.specs.Syntax.Family.{Multiplier, RowSum, Moved, Sum, Own, Reached, Head}
use Rattle.c_language.specs.Syntax.Expression.{Value, Plus}
use Rattle.c_language.specs.Syntax.Statement.{Declare, Assign, AtLeastZero, AtMost}
use Rattle.c_language.specs.Needed.{left_in}
use Rattle.c_program.specs.Of.{Sizes, multiplier_top, kind_for, kind_by, lowered_value, loaded_statements, zero_statements, difference_statements, average_of, is_needed, is_row_needed, is_coordinate_needed}
use Rattle.c_program.specs.ByMachine.{sizes_for, top_for, moved_family, weighted_for, reached_for, sum_for, start_for, means_for, next_for, plans_for}
use Rattle.c_writer.specs.Terms.{partners_of, block_text, entry_base_in, row_base_in, gain_parts_in, entry_lines_in, gradients_in, row_in, move_bits}
use Rattle.c_writer.specs.declared.measured.Measured.{Measured}
use Rattle.c_writer.specs.declared.measured.Lists.{Lists}
use Rattle.c_writer.specs.declared.measured.Held.{Held}
use Rattle.c_writer.specs.declared.measured.Held.TheVariants.{Planned, Kept, Added, Near}

-- they are those of a controller
pub record AreListsOf (c : Numbers) (lists : Lists) : Type 0 where
  pub states : lists.states.items ≡ state_magnitudes c
  pub plan : lists.plan.items ≡ plan_magnitudes c
  pub partners : lists.partners.items ≡ partners_of c

abbrev pub controller_in : Measured → Numbers
controller_in m = numbers m.c.now

abbrev pub row_count : Measured → ℕ
row_count m = length (controller_in m).bounds

abbrev pub entry_count : Measured → ℕ
entry_count m = length (controller_in m).offsets

-- at most how great its variables are, and their types
abbrev pub sizes_in : Measured → Sizes
sizes_in m = sizes_for m.machine (controller_in m)

abbrev pub kind_in : (parted : Bool) → Numbers → Sizes → Family → ℕ → Kind
kind_in parted c z RowSum i = kind_for (next_magnitude c i * 2 ^ move_bits parted c i)
kind_in parted c z family k = kind_by c z family k

abbrev pub kinds_in : Measured → Variable → Kind
kinds_in m v = kind_in m.parted (controller_in m) (sizes_in m) v.family v.number

-- ---- its statements
-- a multiplier that is moved
abbrev pub moved_by : (parted : Bool) → Machine → Numbers → ℕ → Expression
moved_by parted m c i = Plus (Value (variable (moved_family m) i)) (weighted_for m (lowered_value (variable RowSum i) (move_bits parted c i)))

abbrev pub move_by : (parted : Bool) → Machine → Numbers → ℕ → List Statement
move_by parted m c i =
    Declare (variable Moved i) (moved_by parted m c i)
    ∷ AtLeastZero (variable Moved i) ∷ AtMost (variable Moved i) (top_for m c i) ∷ Assign (variable (moved_family m) i) (Value (variable Moved i)) ∷ reached_for m i

abbrev pub row_lines_by : (parted : Bool) → Machine → Numbers → ℕ → List Statement
row_lines_by parted m c i = gradients_in parted c i ++ (Declare (variable RowSum i) (row_in parted c i) ∷ []) ++ move_by parted m c i

abbrev pub moved_in : Measured → ℕ → Expression
moved_in m = moved_by m.parted m.machine (controller_in m)

abbrev pub move_in : Measured → ℕ → List Statement
move_in m = move_by m.parted m.machine (controller_in m)

abbrev pub row_lines_in : Measured → ℕ → List Statement
row_lines_in m = row_lines_by m.parted m.machine (controller_in m)

-- before the loop, those that both machines have, and all
abbrev pub both_before_by : (parted : Bool) → Numbers → List Statement
both_before_by parted c =
    groups (loaded_statements c) c.states ++ groups (entry_base_in parted c) (length c.offsets) ++ groups (row_base_in parted c) (length c.bounds)
    ++ groups (zero_statements Multiplier) (length c.bounds) ++ groups (zero_statements Sum) (length c.offsets)

abbrev pub both_before_in : Measured → List Statement
both_before_in m = both_before_by m.parted (controller_in m)

abbrev pub before_by : (parted : Bool) → Machine → Numbers → List Statement
before_by parted m c = both_before_by parted c ++ start_for m c

abbrev pub before_in : Measured → List Statement
before_in m = before_by m.parted m.machine (controller_in m)

-- of a step, and of the loop
abbrev pub step_by : (parted : Bool) → Machine → Numbers → List Statement
step_by parted m c =
    means_for m c ++ groups (difference_statements c) (length c.bounds) ++ gain_parts_in parted c
    ++ groups (entry_lines_in parted c) (length c.offsets) ++ groups (sum_for m) (length c.offsets) ++ groups (row_lines_by parted m c) (length c.bounds)

abbrev pub step_in : Measured → List Statement
step_in m = step_by m.parted m.machine (controller_in m)

abbrev pub body_by : (parted : Bool) → Machine → Numbers → List Statement
body_by parted m c = step_by parted m c ++ next_for m

abbrev pub body_in : Measured → List Statement
body_in m = body_by m.parted m.machine (controller_in m)

-- ---- the whole
abbrev pub program_by : (parted : Bool) → Machine → Numbers → CProgram
program_by parted m c = record {
  low = c.low;
  high = c.high;
  kind = λ v. kind_in parted c (sizes_for m c) v.family v.number;
  before = left_in (is_needed c) (before_by parted m c);
  body = left_in (is_needed c) (body_by parted m c);
  repetitions = c.steps;
  outputs = map (variable Sum) (range_with_len 0 (length c.offsets));
  averages = map (average_of (plans_for m c)) (range_with_len 0 c.inputs);
}

abbrev pub program_in : Measured → CProgram
program_in m = program_by m.parted m.machine (controller_in m)

-- the variables that hold this of a row, and at most how great they are
abbrev pub held_family : Held → Family
held_family Planned = Multiplier
held_family Kept = Own
held_family Added = Reached
held_family Near = Head

abbrev pub held_size : Measured → Held → ℕ → ℕ
held_size m Planned i = multiplier_top (controller_in m) i
held_size m Kept i = (sizes_in m).own i
held_size m Added i = (sizes_in m).reached
held_size m Near i = 2 ^ 31 - 1

-- statements before the loop, and those of its body
abbrev pub start_text : Measured → List Statement → List ℕ
start_text m ss = block_text (kinds_in m) (codes "    ") ss

abbrev pub loop_text : Measured → List Statement → List ℕ
loop_text m ss = block_text (kinds_in m) (codes "        ") ss

-- the needed ones of these
abbrev pub needed_start_text : Measured → List Statement → List ℕ
needed_start_text m ss = start_text m (left_in (is_needed (controller_in m)) ss)

abbrev pub needed_loop_text : Measured → List Statement → List ℕ
needed_loop_text m ss = loop_text m (left_in (is_needed (controller_in m)) ss)

-- a text that is left out where row i, or coordinate k, isn't needed
abbrev pub row_text : Measured → ℕ → List ℕ → List ℕ
row_text m i text = if is_row_needed (controller_in m) i then text else []

abbrev pub coordinate_text : Measured → ℕ → List ℕ → List ℕ
coordinate_text m k text = if is_coordinate_needed (controller_in m) k then text else []
