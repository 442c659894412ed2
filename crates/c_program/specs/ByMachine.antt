-- The program of a controller of either machine: the statements that both have in one place, and what each has of its own.
use Rattle.std.specs.Prelude.{ℕ, ◌-◌, ℤ, List, [], ◌∷◌, ◌++◌, length, map}
use Rattle.std.specs.List.{range_with_len}
use Rattle.qp_model.specs.machine.Controller.{Numbers}
use Rattle.qp_model.specs.machine.Machine.{top_of}
use Rattle.overflow_check.specs.FastMachine.{all_weights, fast_top}
use Rattle.overflow_check.specs.declared.machine.Machine.{Machine}
use Rattle.overflow_check.specs.declared.machine.Machine.TheVariants.{Plain, Accelerated}
use Rattle.c_language.specs.Syntax.{Family, Variable, variable, Kind, Expression, Statement, groups, CProgram}
use Rattle.c_language.specs.Syntax.Family.{Multiplier, Entry, RowSum, Moved, Sum, Own, Reached}
use Rattle.c_language.specs.Syntax.Expression.{Value, Plus}
use Rattle.c_language.specs.Syntax.Statement.{Declare, Assign, AtLeastZero, AtMost}
use Rattle.c_language.specs.Needed.{left_in}
use Rattle.c_program.specs.Of.{Sizes, plain_sizes, kind_by, row_bits, lowered_value, zero_statements, before_of, difference_statements, entry_statements, gradient_statements, row_sum_statements, repetition_body, average_of, is_needed}
use Rattle.c_program.specs.FastOf.{fast_sizes, first_weight, first_scale, fast_before_of, weighted, divisor_statement, scale_statements, mean_statements, reached_expression, next_weight, fast_body}

-- ---- sizes and types
abbrev pub sizes_for : Machine → Numbers → Sizes
sizes_for Plain c = plain_sizes c
sizes_for Accelerated c = fast_sizes c

abbrev pub kinds_for : Machine → Numbers → Variable → Kind
kinds_for m c v = kind_by c (sizes_for m c) v.family v.number

-- the greatest number that a multiplier which is moved is kept to
abbrev pub top_for : Machine → Numbers → ℕ → ℤ
top_for Plain c i = top_of c i
top_for Accelerated c i = fast_top c i

-- how many plans a run's sums are of, each as often as its weight
abbrev pub plans_for : Machine → Numbers → ℕ
plans_for Plain c = c.steps
plans_for Accelerated c = all_weights c.steps

-- ---- statements
-- the multipliers that are moved
abbrev pub moved_family : Machine → Family
moved_family Plain = Multiplier
moved_family Accelerated = Own

-- times the step's weight
abbrev pub weighted_for : Machine → Expression → Expression
weighted_for Plain a = a
weighted_for Accelerated a = weighted a

abbrev pub sum_for : Machine → ℕ → List Statement
sum_for m j = Assign (variable Sum j) (Plus (Value (variable Sum j)) (weighted_for m (Value (variable Entry j)))) ∷ []

abbrev pub moved_for : Machine → Numbers → ℕ → Expression
moved_for m c i = Plus (Value (variable (moved_family m) i)) (weighted_for m (lowered_value (variable RowSum i) (c.fraction_bits - row_bits c i)))

abbrev pub reached_for : Machine → ℕ → List Statement
reached_for Plain i = []
reached_for Accelerated i = Assign (variable Reached i) (reached_expression i) ∷ []

abbrev pub move_for : Machine → Numbers → ℕ → List Statement
move_for m c i =
    Declare (variable Moved i) (moved_for m c i)
    ∷ AtLeastZero (variable Moved i) ∷ AtMost (variable Moved i) (top_for m c i) ∷ Assign (variable (moved_family m) i) (Value (variable Moved i)) ∷ reached_for m i

abbrev pub row_for : Machine → Numbers → ℕ → List Statement
row_for m c i = gradient_statements c i ++ row_sum_statements c i ++ move_for m c i

-- what stands behind the plain machine's statements before the loop
abbrev pub start_for : Machine → Numbers → List Statement
start_for Plain c = []
start_for Accelerated c = groups (zero_statements Own) (length c.bounds) ++ groups (zero_statements Reached) (length c.bounds) ++ (first_weight ∷ []) ++ first_scale c

-- a step's means, its plan and its rows, and then the next weight
abbrev pub means_for : Machine → Numbers → List Statement
means_for Plain c = []
means_for Accelerated c = (divisor_statement ∷ []) ++ scale_statements c ++ groups (mean_statements c) (length c.bounds)

abbrev pub step_for : Machine → Numbers → List Statement
step_for m c =
    means_for m c ++ groups (difference_statements c) (length c.bounds) ++ groups (entry_statements c) (length c.offsets) ++ groups (sum_for m) (length c.offsets)
    ++ groups (row_for m c) (length c.bounds)

abbrev pub next_for : Machine → List Statement
next_for Plain = []
next_for Accelerated = next_weight ∷ []

-- ---- the whole
abbrev pub before_for : Machine → Numbers → List Statement
before_for Plain c = before_of c
before_for Accelerated c = fast_before_of c

abbrev pub body_for : Machine → Numbers → List Statement
body_for Plain c = repetition_body c
body_for Accelerated c = fast_body c

-- of the plain machine that of Of, of the accelerated one that of FastOf
abbrev pub program_for : Machine → Numbers → CProgram
program_for m c = record {
  low = c.low;
  high = c.high;
  kind = kinds_for m c;
  before = left_in (is_needed c) (before_for m c);
  body = left_in (is_needed c) (body_for m c);
  repetitions = c.steps;
  outputs = map (variable Sum) (range_with_len 0 (length c.offsets));
  averages = map (average_of (plans_for m c)) (range_with_len 0 c.inputs);
}
