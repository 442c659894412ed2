-- The program of a controller: its numbers as literals, zeros left out, and each variable as narrow as its absolute sum lets it be.
use Rattle.std.specs.Prelude.{ℕ, zero, suc, ◌+◌, ◌-◌, ◌*◌, ◌^◌, ◌%◌, min, Bool, true, false, ◌&&◌, ◌||◌, ◌==◌, nat_lt, if◌then◌else◌, ℤ, pos, ◌+ℤ◌, ◌*ℤ◌, neg_ℤ, List, [], ◌∷◌, ◌++◌, length, map, unsigned_abs, slice_index_or, ◌/◌}
use Rattle.std.specs.List.{range_with_len}
use Rattle.std.specs.Int.{w32, trailing_zeros}
use Rattle.integer_algebra.specs.Division.{floor_of}
use Rattle.integer_algebra.specs.Sums.{at}
use Rattle.mat_int.specs.Matrix.{row_of}
use Rattle.qp_model.specs.machine.Controller.{Numbers}
use Rattle.qp_model.specs.machine.Machine.{exponent_of, lowering_of, top_of}
use Rattle.qp_model.specs.machine.AbsoluteSums.{state_magnitudes, plan_magnitudes, next_magnitude, sum_magnitude}
use Rattle.overflow_check.specs.FastMachine.{mean_divisor, fast_top}
use Rattle.c_language.specs.Syntax.{Family, Variable, variable, Kind, Expression, Statement, groups, CProgram}
use Rattle.c_language.specs.Needed.{needed_part}
use Rattle.c_language.specs.Syntax.Family.{State, Loaded, EntryBase, RowBase, Multiplier, Difference, Entry, Gradient, RowSum, Moved, Sum, Output, Own, Reached, Weight, Divisor, Shift, Power, Doubling, Reciprocal, Numerator, Head, Rest, MultiplierHigh, MultiplierLow, EntryHigh, EntryLow, EntryBaseHigh, RowBaseHigh, GradientHigh}
use Rattle.c_language.specs.Syntax.Kind.{Narrow, Wide}
use Rattle.c_language.specs.Syntax.Expression.{Constant, Value, Plus, Minus, Times, Quotient, Remainder, Shifted}
use Rattle.c_language.specs.Syntax.Statement.{Declare, Assign, AtLeastZero, AtMost}

-- ---- what the variables are at most in absolute value
abbrev pub state_top : Numbers → ℕ → ℕ
state_top c k = slice_index_or (state_magnitudes c) k 0

abbrev pub multiplier_top : Numbers → ℕ → ℕ
multiplier_top c i = unsigned_abs (top_of c i)

abbrev pub entry_top : Numbers → ℕ → ℕ
entry_top c j = slice_index_or (plan_magnitudes c) j 0

-- ---- by how many bits a row's sum is lowered
-- 2^k divides the first n numbers
unfoldable pub are_multiples : List ℤ → (k n : ℕ) → Bool
are_multiples row k zero = true
are_multiples row k (suc n) = are_multiples row k n && (unsigned_abs (at row n) % 2 ^ k == 0)

-- the greatest power of two, of those up to this one, that does
unfoldable pub shared_bits : List ℤ → (n most : ℕ) → ℕ
shared_bits row n zero = zero
shared_bits row n (suc most) = if are_multiples row (suc most) n then suc most else shared_bits row n most

-- that of row i
abbrev pub row_bits : Numbers → ℕ → ℕ
row_bits c i = shared_bits (row_of c.plan_rows i) (length c.offsets) c.fraction_bits

-- the row's factor of plan entry j without it
abbrev pub plan_factor : Numbers → (i j : ℕ) → ℤ
plan_factor c i j = floor_of (at (row_of c.plan_rows i) j) (2 ^ row_bits c i)

-- and its sum is at most this
abbrev pub row_top : Numbers → ℕ → ℕ
row_top c i = next_magnitude c i * 2 ^ (c.fraction_bits - row_bits c i)

-- the type that holds numbers of at most this absolute value
abbrev pub kind_for : ℕ → Kind
kind_for top = if nat_lt top (2 ^ 31) then Narrow else Wide

-- a number of at most this absolute value, without its last 16 bits, is at most
abbrev pub high_top : ℕ → ℕ
high_top top = top / 2 ^ 16 + 1

-- what the machines differ in: at most how much, in absolute value, a multiplier is on its way to the next one, a sum of plan entries, and, where the machine is accelerated,
-- a multiplier that is moved, what is reached of all, and the divisor of a mean
pub record Sizes : Type 0 where
  pub moved : ℕ → ℕ
  pub sum : ℕ → ℕ
  pub own : ℕ → ℕ
  pub reached : ℕ
  pub divisor : ℕ

abbrev pub plain_sizes : Numbers → Sizes
plain_sizes c = record { moved = next_magnitude c; sum = sum_magnitude c; own = λ i. 0; reached = 0; divisor = 0 }

abbrev pub kind_by : Numbers → Sizes → Family → ℕ → Kind
kind_by c z State k = Narrow
kind_by c z Loaded k = kind_for (state_top c k)
kind_by c z EntryBase j = Wide
kind_by c z RowBase i = Wide
kind_by c z Multiplier i = kind_for (multiplier_top c i)
kind_by c z Difference i = kind_for (multiplier_top c i)
kind_by c z Entry j = kind_for (entry_top c j)
kind_by c z Gradient i = Wide
kind_by c z RowSum i = kind_for (row_top c i)
kind_by c z Moved i = kind_for (z.moved i)
kind_by c z Sum j = kind_for (z.sum j)
kind_by c z Output j = Wide
kind_by c z Own i = kind_for (z.own i)
kind_by c z Reached i = kind_for z.reached
kind_by c z Weight k = Narrow
kind_by c z Divisor k = kind_for z.divisor
kind_by c z Shift k = Narrow
kind_by c z Power k = Wide
kind_by c z Doubling k = Narrow
kind_by c z Reciprocal k = Narrow
kind_by c z Numerator i = Wide
kind_by c z Head i = Narrow
kind_by c z Rest i = Narrow
kind_by c z MultiplierHigh i = kind_for (high_top (multiplier_top c i))
kind_by c z MultiplierLow i = Narrow
kind_by c z EntryHigh j = kind_for (high_top (entry_top c j))
kind_by c z EntryLow j = Narrow
kind_by c z EntryBaseHigh j = Wide
kind_by c z RowBaseHigh i = Wide
kind_by c z GradientHigh i = Wide

abbrev pub kind_of : Numbers → Family → ℕ → Kind
kind_of c = kind_by c (plain_sizes c)

-- ---- sums of products
-- a coefficient times a variable of at most this absolute value, left out where that is always 0
abbrev pub plus_product : Expression → (coefficient : ℤ) (top : ℕ) → Variable → Expression
plus_product a c top v = if nat_lt 0 (unsigned_abs c * top) then Plus a (Times (Constant c) (Value v)) else a

abbrev pub plus_products : Expression → (ℕ → ℤ) → (ℕ → ℕ) → (ℕ → Variable) → ℕ → Expression
plus_products a c top v zero = a
plus_products a c top v (suc n) = plus_product (plus_products a c top v n) (c n) (top n) (v n)

-- ---- pairs of opposite rows, which share their products
-- the first n numbers of the one are those of the other with the other sign
abbrev pub are_negated : (ℕ → ℤ) → (ℕ → ℤ) → ℕ → Bool
are_negated f g zero = true
are_negated f g (suc n) = are_negated f g n && (unsigned_abs (f n +ℤ g n) == 0)

-- rows k and i have opposite numbers and one exponent
abbrev pub are_opposed : Numbers → ℕ → ℕ → Bool
are_opposed c k i =
    (exponent_of c k == exponent_of c i) && are_negated (at (row_of c.plan_rows k)) (at (row_of c.plan_rows i)) (length c.offsets)
    && are_negated (λ j. at (row_of c.dual_gains j) k) (λ j. at (row_of c.dual_gains j) i) (length c.offsets)

-- the first of the rows before row n that is opposite to row i, and n where none is
abbrev pub first_opposed : Numbers → (i n : ℕ) → ℕ
first_opposed c i zero = zero
first_opposed c i (suc n) = if nat_lt (first_opposed c i n) n then first_opposed c i n else (if are_opposed c n i then n else suc n)

unfoldable pub partner : Numbers → ℕ → ℕ
partner c i = first_opposed c i (length c.bounds)

-- two rows of which each is the first that is opposite to the other are a pair: row i is the first one of a pair, or the second
unfoldable pub is_first : Numbers → ℕ → Bool
is_first c i = nat_lt i (partner c i) && nat_lt (partner c i) (length c.bounds) && (partner c (partner c i) == i)

unfoldable pub is_second : Numbers → ℕ → Bool
is_second c i = nat_lt (partner c i) i && (partner c (partner c i) == i)

-- ---- shifts
-- a variable's value over 2^k, rounded down
abbrev pub lowered_value : Variable → ℕ → Expression
lowered_value v k = if k == 0 then Value v else Shifted (Value v) k

-- ---- before the loop
abbrev pub loaded_expression : Numbers → ℕ → Expression
loaded_expression c k = Times (Constant (pos (2 ^ (c.fraction_bits - c.grid_bits)))) (Value (variable State k))

abbrev pub loaded_statements : Numbers → ℕ → List Statement
loaded_statements c k = Declare (variable Loaded k) (loaded_expression c k) ∷ []

-- what the state and the offset add to plan entry j, over 2^(2 fraction_bits + step_exponent)
abbrev pub entry_base_statements : Numbers → ℕ → List Statement
entry_base_statements c j =
    Declare (variable EntryBase j) (plus_products (Constant (at c.offsets j *ℤ pos (2 ^ c.fraction_bits) *ℤ pos (2 ^ c.step_exponent)))
    (λ k. at (row_of c.state_gains j) k *ℤ pos (2 ^ c.step_exponent)) (state_top c) (variable Loaded) c.states) ∷ []

-- what the state and the bound add to row i, over 2^(2 fraction_bits)
abbrev pub row_base_statements : Numbers → ℕ → List Statement
row_base_statements c i =
    Declare (variable RowBase i) (plus_products (Constant (neg_ℤ (at c.bounds i *ℤ pos (2 ^ c.fraction_bits))))
    (at (row_of c.state_rows i)) (state_top c) (variable Loaded) c.states) ∷ []

abbrev pub zero_statements : Family → ℕ → List Statement
zero_statements family i = Declare (variable family i) (Constant (pos 0)) ∷ []

abbrev pub before_of : Numbers → List Statement
before_of c =
    groups (loaded_statements c) c.states ++ groups (entry_base_statements c) (length c.offsets) ++ groups (row_base_statements c) (length c.bounds)
    ++ groups (zero_statements Multiplier) (length c.bounds) ++ groups (zero_statements Sum) (length c.offsets)

-- ---- one step
-- the difference of the multipliers of a pair
abbrev pub difference_statements : Numbers → ℕ → List Statement
difference_statements c i =
    if is_first c i then Declare (variable Difference i) (Minus (Value (variable Multiplier i)) (Value (variable Multiplier (partner c i)))) ∷ [] else []

-- what plan entry j multiplies the multiplier of row i with, over 2^(fraction_bits + step_exponent), or the difference of a pair, for both of its rows
abbrev pub gain_of : Numbers → ℕ → ℕ → ℤ
gain_of c j i = if is_second c i then pos 0 else (at (row_of c.dual_gains j) i *ℤ pos (2 ^ lowering_of c i))

abbrev pub gain_variable : Numbers → ℕ → Variable
gain_variable c i = variable (if is_first c i then Difference else Multiplier) i

-- plan entry j; a shift of a number of 64 bits by more than 63 makes what one by 63 makes
abbrev pub entry_expression : Numbers → ℕ → Expression
entry_expression c j =
    Minus (Constant (pos 0)) (Shifted (plus_products (Value (variable EntryBase j)) (gain_of c j) (multiplier_top c) (gain_variable c) (length c.bounds))
    (min (c.fraction_bits + c.step_exponent) 63))

abbrev pub entry_statements : Numbers → ℕ → List Statement
entry_statements c j = Declare (variable Entry j) (entry_expression c j) ∷ []

abbrev pub sum_statements : ℕ → List Statement
sum_statements j = Assign (variable Sum j) (Plus (Value (variable Sum j)) (Value (variable Entry j))) ∷ []

-- row i's products with the plan, without the power of two that its factors share, added to an expression
abbrev pub plus_plan : Numbers → ℕ → Expression → Expression
plus_plan c i a = plus_products a (plan_factor c i) (entry_top c) (variable Entry) (length c.offsets)

-- a pair's products with the plan
abbrev pub gradient_statements : Numbers → ℕ → List Statement
gradient_statements c i = if is_first c i then Declare (variable Gradient i) (plus_plan c i (Constant (pos 0))) ∷ [] else []

-- the sum of row i, over 2^(2 fraction_bits - row_bits)
abbrev pub lowered_base : Numbers → ℕ → Expression
lowered_base c i = lowered_value (variable RowBase i) (row_bits c i)

abbrev pub row_expression : Numbers → ℕ → Expression
row_expression c i =
    if is_first c i then Plus (lowered_base c i) (Value (variable Gradient i)) else
    (if is_second c i then Minus (lowered_base c i) (Value (variable Gradient (partner c i))) else plus_plan c i (lowered_base c i))

abbrev pub row_sum_statements : Numbers → ℕ → List Statement
row_sum_statements c i = Declare (variable RowSum i) (row_expression c i) ∷ []

-- multiplier i, moved along its row and clamped
abbrev pub moved_expression : Numbers → ℕ → Expression
moved_expression c i = Plus (Value (variable Multiplier i)) (lowered_value (variable RowSum i) (c.fraction_bits - row_bits c i))

abbrev pub move_statements : Numbers → ℕ → List Statement
move_statements c i =
    Declare (variable Moved i) (moved_expression c i)
    ∷ AtLeastZero (variable Moved i) ∷ AtMost (variable Moved i) (top_of c i) ∷ Assign (variable Multiplier i) (Value (variable Moved i)) ∷ []

abbrev pub row_statements : Numbers → ℕ → List Statement
row_statements c i = gradient_statements c i ++ row_sum_statements c i ++ move_statements c i

abbrev pub repetition_body : Numbers → List Statement
repetition_body c =
    groups (difference_statements c) (length c.bounds) ++ groups (entry_statements c) (length c.offsets) ++ groups sum_statements (length c.offsets)
    ++ groups (row_statements c) (length c.bounds)

-- ---- the averages
-- a sum over so many steps, where these are 2^k
abbrev pub shifted_average : (sum : Expression) (steps k : ℕ) → Expression
shifted_average sum steps k = Shifted (Plus sum (Constant (pos (steps / 2)))) k

-- otherwise: with the remainder r of the quotient, a shift by 63 makes 1 less where 2 r < -steps, and 1 more where 2 r >= steps
abbrev pub doubled_rest : (sum : Expression) (steps : ℕ) → Expression
doubled_rest sum steps = Times (Constant (pos 2)) (Remainder sum steps)

abbrev pub divided_average : (sum : Expression) (steps : ℕ) → Expression
divided_average sum steps =
    Minus (Plus (Quotient sum steps) (Shifted (Plus (doubled_rest sum steps) (Constant (pos steps))) 63))
    (Shifted (Minus (Constant (pos (steps - 1))) (doubled_rest sum steps)) 63)

-- entry j of the averaged plan, over 2^fraction_bits, to the nearest, ties upward, where its sum is that of so many plans
abbrev pub average_of : (steps j : ℕ) → Expression
average_of steps j =
    let sum = Value (variable Output j) in
    let k = trailing_zeros w32 steps in
    if steps == 2 ^ k then shifted_average sum steps k else divided_average sum steps

abbrev pub average_expression : Numbers → ℕ → Expression
average_expression c = average_of c.steps

-- ---- what is needed
unfoldable pub any_below : (ℕ → Bool) → ℕ → Bool
any_below f zero = false
any_below f (suc n) = any_below f n || f n

-- it isn't always 0
abbrev pub is_product : (coefficient : ℤ) (top : ℕ) → Bool
is_product c top = nat_lt 0 (unsigned_abs c * top)

-- multiplier i reaches a plan entry
unfoldable pub is_row_needed : Numbers → ℕ → Bool
is_row_needed c i = any_below (λ j. is_product (at (row_of c.dual_gains j) i) (multiplier_top c i)) (length c.offsets)

-- coordinate k of the state reaches the base of a plan entry, or that of a row that is needed
unfoldable pub is_coordinate_needed : Numbers → ℕ → Bool
is_coordinate_needed c k =
    any_below (λ j. is_product (at (row_of c.state_gains j) k) (state_top c k)) (length c.offsets)
    || any_below (λ i. is_row_needed c i && is_product (at (row_of c.state_rows i) k) (state_top c k)) (length c.bounds)

-- plan entry j reaches a row that is needed
unfoldable pub is_entry_needed : Numbers → ℕ → Bool
is_entry_needed c j = any_below (λ i. is_row_needed c i && is_product (at (row_of c.plan_rows i) j) (entry_top c j)) (length c.bounds)

-- what a mean of the accelerated machine is divided by fits 31 bits, as twice what is reached of row i over as much does: so its mean is made without a division
abbrev pub has_short_divisor : Numbers → Bool
has_short_divisor c = nat_lt (mean_divisor c.steps) (2 ^ 31)

abbrev pub is_quick_within : (bits : ℕ) → Numbers → ℕ → Bool
is_quick_within bits c i = has_short_divisor c && nat_lt (unsigned_abs (fast_top c i)) (2 ^ bits)

abbrev pub is_quick : Numbers → ℕ → Bool
is_quick = is_quick_within 30

-- and with greater multipliers in two rounds
abbrev pub is_twice_quick : Numbers → ℕ → Bool
is_twice_quick = is_quick_within 56

unfoldable pub is_any_quick : Numbers → Bool
is_any_quick c = any_below (λ i. is_row_needed c i && is_twice_quick c i) (length c.bounds)

abbrev pub needed_of : Numbers → Family → ℕ → Bool
needed_of c State k = true
needed_of c Loaded k = is_coordinate_needed c k
needed_of c EntryBase j = true
needed_of c RowBase i = is_row_needed c i
needed_of c Multiplier i = is_row_needed c i
needed_of c Difference i = is_row_needed c i
needed_of c Entry j = true
needed_of c Gradient i = is_row_needed c i
needed_of c RowSum i = is_row_needed c i
needed_of c Moved i = is_row_needed c i
needed_of c Sum j = true
needed_of c Output j = true
needed_of c Own i = is_row_needed c i
needed_of c Reached i = is_row_needed c i
needed_of c Weight k = true
needed_of c Divisor k = any_below (is_row_needed c) (length c.bounds)
needed_of c Shift k = is_any_quick c
needed_of c Power k = is_any_quick c
needed_of c Doubling k = is_any_quick c
needed_of c Reciprocal k = is_any_quick c
needed_of c Numerator i = is_row_needed c i
needed_of c Head i = is_row_needed c i
needed_of c Rest i = is_row_needed c i
needed_of c MultiplierHigh i = is_row_needed c i
needed_of c MultiplierLow i = is_row_needed c i
needed_of c EntryHigh j = is_entry_needed c j
needed_of c EntryLow j = is_entry_needed c j
needed_of c EntryBaseHigh j = true
needed_of c RowBaseHigh i = is_row_needed c i
needed_of c GradientHigh i = is_row_needed c i

abbrev pub is_needed : Numbers → Variable → Bool
is_needed c v = needed_of c v.family v.number

-- ---- the whole
-- with every row and coordinate
abbrev pub whole_program : Numbers → CProgram
whole_program c = record {
  low = c.low;
  high = c.high;
  kind = λ v. kind_of c v.family v.number;
  before = before_of c;
  body = repetition_body c;
  repetitions = c.steps;
  outputs = map (variable Sum) (range_with_len 0 (length c.offsets));
  averages = map (average_expression c) (range_with_len 0 c.inputs);
}

-- without those that reach no output
abbrev pub program_of : Numbers → CProgram
program_of c = needed_part (is_needed c) (whole_program c)
