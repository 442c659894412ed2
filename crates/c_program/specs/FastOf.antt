-- The program of a controller of the accelerated machine: its plan is made at means of multipliers, in place of multipliers, and all else of a plan is as in that of the plain machine.
use Rattle.std.specs.Prelude.{ℕ, ◌-◌, ◌^◌, if◌then◌else◌, pos, List, [], ◌∷◌, ◌++◌, length, map, unsigned_abs}
use Rattle.std.specs.List.{range_with_len}
use Rattle.qp_model.specs.machine.Controller.{Numbers}
use Rattle.overflow_check.specs.FastMachine.{all_weights, mean_divisor, fast_top}
use Rattle.overflow_check.specs.FastController.{moved_magnitude, reached_magnitude, fast_sum_magnitude}
use Rattle.c_language.specs.Syntax.{Family, variable, Expression, Statement, groups, CProgram}
use Rattle.c_language.specs.Needed.{needed_part}
use Rattle.c_language.specs.Syntax.Family.{Multiplier, Entry, RowSum, Moved, Sum, Own, Reached, Weight, Divisor, Shift, Power, Doubling, Reciprocal, Numerator, Head, Rest}
use Rattle.c_language.specs.Syntax.Expression.{Constant, Value, Plus, Minus, Times, Over, Shifted, ShiftedBy}
use Rattle.c_language.specs.Syntax.Statement.{Declare, Assign, AtLeastZero, AtMost}
use Rattle.c_program.specs.Of.{Sizes, kind_by, lowered_value, row_bits, zero_statements, before_of, difference_statements, entry_statements, gradient_statements, row_sum_statements, average_of, has_short_divisor, is_quick, is_twice_quick, is_needed}

-- ---- what the variables are at most in absolute value
abbrev pub fast_sizes : Numbers → Sizes
fast_sizes c = record {
  moved = moved_magnitude c;
  sum = fast_sum_magnitude c;
  own = λ i. unsigned_abs (fast_top c i);
  reached = reached_magnitude c;
  divisor = mean_divisor c.steps;
}

-- ---- before the loop
-- the weight of the first step
abbrev pub first_weight : Statement
first_weight = Declare (variable Weight 0) (Constant (pos 2))

-- a shift e by which a divisor b is lowered to two bits, 2^(e + 1) <= b < 2^(e + 2), and 2^(e + 32); at first it is 1
abbrev pub first_scale_lines : List Statement
first_scale_lines = Declare (variable Shift 0) (Constant (pos 1)) ∷ Declare (variable Power 0) (Constant (pos (2 ^ 33))) ∷ []

abbrev pub first_scale : Numbers → List Statement
first_scale c = if has_short_divisor c then first_scale_lines else []

abbrev pub fast_before_of : Numbers → List Statement
fast_before_of c =
    before_of c ++ groups (zero_statements Own) (length c.bounds) ++ groups (zero_statements Reached) (length c.bounds) ++ (first_weight ∷ []) ++ first_scale c

-- ---- one step
abbrev pub weight_value : Expression
weight_value = Value (variable Weight 0)

-- so many times the step's weight
abbrev pub weighted : Expression → Expression
weighted a = Times weight_value a

-- twice the weights of all steps up to this one: with its weight a, (a - 1) (a + 2)
abbrev pub divisor_statement : Statement
divisor_statement = Declare (variable Divisor 0) (Times (Minus weight_value (Constant (pos 1))) (Plus weight_value (Constant (pos 2))))

-- the divisor reached the next power of two, which doubles the scale: 1, and else 0
abbrev pub doubling_expression : Expression
doubling_expression = Plus (Constant (pos 1)) (Shifted (Minus (Times (Value (variable Divisor 0)) (Constant (pos (2 ^ 30)))) (Value (variable Power 0))) 63)

-- the shift of this step's divisor, and the divisor's reciprocal, a little less than 2^(e + 32) over it
abbrev pub scale_lines : List Statement
scale_lines =
    Declare (variable Doubling 0) doubling_expression
    ∷ Assign (variable Shift 0) (Plus (Value (variable Shift 0)) (Value (variable Doubling 0)))
    ∷ Assign (variable Power 0) (Plus (Value (variable Power 0)) (Times (Value (variable Doubling 0)) (Value (variable Power 0))))
    ∷ Declare (variable Reciprocal 0) (Over (Minus (Value (variable Power 0)) (Constant (pos 1))) (variable Divisor 0)) ∷ []

abbrev pub scale_statements : Numbers → List Statement
scale_statements c = if has_short_divisor c then scale_lines else []

-- what is divided for the mean of row i
abbrev pub numerator_expression : ℕ → Expression
numerator_expression i = Plus (Value (variable Reached i)) (weighted (Value (variable Own i)))

-- the mean of row i, which stands where the plain machine has its multiplier
abbrev pub mean_expression : ℕ → Expression
mean_expression i = Over (numerator_expression i) (variable Divisor 0)

-- the same by the reciprocal, which makes the mean or one less; what is left over then tells which
abbrev pub near_expression : ℕ → Expression
near_expression i = Shifted (Times (Value (variable Head i)) (Value (variable Reciprocal 0))) 32

abbrev pub rest_expression : Family → ℕ → Expression
rest_expression f i =
    Minus (Minus (Value (variable Numerator i)) (Times (Value (variable f i)) (Value (variable Divisor 0)))) (Value (variable Divisor 0))

abbrev pub near_statements : ℕ → List Statement
near_statements i =
    Declare (variable Numerator i) (numerator_expression i)
    ∷ Declare (variable Head i) (ShiftedBy (Value (variable Numerator i)) (variable Shift 0)) ∷ Assign (variable Multiplier i) (near_expression i) ∷ []

-- from the quotient of what is left of row i's numerator, or one less, that quotient
abbrev pub exact_statements : Family → ℕ → List Statement
exact_statements f i =
    Declare (variable Rest i) (rest_expression f i)
    ∷ Assign (variable f i) (Plus (Plus (Value (variable f i)) (Constant (pos 1))) (Shifted (Value (variable Rest i)) 31)) ∷ []

abbrev pub quick_mean_statements : ℕ → List Statement
quick_mean_statements i = near_statements i ++ exact_statements Multiplier i

-- a greater numerator is divided without its last 26 bits first, and then what that leaves of it
abbrev pub first_round_statements : ℕ → List Statement
first_round_statements i =
    Declare (variable Numerator i) (numerator_expression i)
    ∷ Declare (variable Head i) (ShiftedBy (Shifted (Value (variable Numerator i)) 26) (variable Shift 0))
    ∷ Assign (variable Multiplier i) (Times (near_expression i) (Constant (pos (2 ^ 26))))
    ∷ Assign (variable Numerator i) (Minus (Value (variable Numerator i)) (Times (Value (variable Multiplier i)) (Value (variable Divisor 0)))) ∷ []

abbrev pub second_round_statements : ℕ → List Statement
second_round_statements i =
    Assign (variable Head i) (ShiftedBy (Value (variable Numerator i)) (variable Shift 0)) ∷ Assign (variable Head i) (near_expression i) ∷ []

abbrev pub rounds_statements : ℕ → List Statement
rounds_statements i = Assign (variable Multiplier i) (Plus (Value (variable Multiplier i)) (Value (variable Head i))) ∷ []

abbrev pub twice_mean_statements : ℕ → List Statement
twice_mean_statements i = first_round_statements i ++ second_round_statements i ++ exact_statements Head i ++ rounds_statements i

abbrev pub mean_statements : Numbers → ℕ → List Statement
mean_statements c i =
    if is_quick c i then quick_mean_statements i else (if is_twice_quick c i then twice_mean_statements i else Assign (variable Multiplier i) (mean_expression i) ∷ [])

abbrev pub weighted_sum_statements : ℕ → List Statement
weighted_sum_statements j = Assign (variable Sum j) (Plus (Value (variable Sum j)) (weighted (Value (variable Entry j)))) ∷ []

-- multiplier i, moved by the weight along its row and clamped, and added to what is reached
abbrev pub fast_moved_expression : Numbers → ℕ → Expression
fast_moved_expression c i = Plus (Value (variable Own i)) (weighted (lowered_value (variable RowSum i) (c.fraction_bits - row_bits c i)))

abbrev pub reached_expression : ℕ → Expression
reached_expression i = Plus (Value (variable Reached i)) (weighted (Value (variable Own i)))

abbrev pub fast_move_statements : Numbers → ℕ → List Statement
fast_move_statements c i =
    Declare (variable Moved i) (fast_moved_expression c i)
    ∷ AtLeastZero (variable Moved i) ∷ AtMost (variable Moved i) (fast_top c i) ∷ Assign (variable Own i) (Value (variable Moved i))
    ∷ Assign (variable Reached i) (reached_expression i) ∷ []

abbrev pub fast_row_statements : Numbers → ℕ → List Statement
fast_row_statements c i = gradient_statements c i ++ row_sum_statements c i ++ fast_move_statements c i

abbrev pub next_weight : Statement
next_weight = Assign (variable Weight 0) (Plus weight_value (Constant (pos 1)))

abbrev pub fast_body : Numbers → List Statement
fast_body c =
    (divisor_statement ∷ []) ++ scale_statements c ++ groups (mean_statements c) (length c.bounds)
    ++ groups (difference_statements c) (length c.bounds) ++ groups (entry_statements c) (length c.offsets) ++ groups weighted_sum_statements (length c.offsets)
    ++ groups (fast_row_statements c) (length c.bounds) ++ next_weight ∷ []

-- ---- the whole
-- with every row and coordinate
abbrev pub whole_fast_program : Numbers → CProgram
whole_fast_program c = record {
  low = c.low;
  high = c.high;
  kind = λ v. kind_by c (fast_sizes c) v.family v.number;
  before = fast_before_of c;
  body = fast_body c;
  repetitions = c.steps;
  outputs = map (variable Sum) (range_with_len 0 (length c.offsets));
  averages = map (average_of (all_weights c.steps)) (range_with_len 0 c.inputs);
}

-- without those that reach no output
abbrev pub fast_program_of : Numbers → CProgram
fast_program_of c = needed_part (is_needed c) (whole_fast_program c)
