-- The program of a controller whose sums pass 64 bits: each sum of products is made in two parts, of the factors without their last 16 bits and of these, and its shift is made of both.
use Rattle.std.specs.Prelude.{ℕ, ◌+◌, ◌-◌, ◌^◌, ◌<◌, ◌≤◌, ◌⊎◌, min, Bool, nat_lt, if◌then◌else◌, ℤ, pos, ◌-ℤ◌, ◌*ℤ◌, neg_ℤ, List, [], ◌∷◌, ◌++◌, length, map, unsigned_abs}
use Rattle.std.specs.List.{range_with_len}
use Rattle.integer_algebra.specs.Division.{floor_of}
use Rattle.integer_algebra.specs.Sums.{at}
use Rattle.mat_int.specs.Matrix.{row_of}
use Rattle.qp_model.specs.machine.Controller.{Numbers}
use Rattle.qp_model.specs.machine.Machine.{lowering_of}
use Rattle.qp_model.specs.machine.AbsoluteSums.{next_magnitude}
use Rattle.overflow_check.specs.declared.machine.Machine.{Machine}
use Rattle.c_language.specs.Syntax.{Family, Variable, variable, Kind, Expression, Statement, groups, CProgram}
use Rattle.c_language.specs.Syntax.Family.{Loaded, EntryBase, RowBase, Multiplier, Entry, Gradient, RowSum, Moved, Sum, MultiplierHigh, MultiplierLow, EntryHigh, EntryLow, EntryBaseHigh, RowBaseHigh, GradientHigh}
use Rattle.c_language.specs.Syntax.Expression.{Constant, Value, Plus, Minus, Times, Shifted}
use Rattle.c_language.specs.Syntax.Statement.{Declare, Assign, AtLeastZero, AtMost}
use Rattle.c_language.specs.Needed.{left_in}
use Rattle.c_program.specs.Of.{Sizes, kind_for, kind_by, state_top, multiplier_top, entry_top, plus_products, partner, is_first, is_second, loaded_statements, zero_statements, difference_statements, gain_of, gain_variable, average_of, is_needed}
use Rattle.c_program.specs.ByMachine.{sizes_for, top_for, plans_for, moved_family, weighted_for, sum_for, reached_for, start_for, means_for, next_for, program_for}

-- ---- a number in two parts
-- z is 2^16 times the one and the other, which is at least 0 and below 2^16
abbrev pub high_part : ℤ → ℤ
high_part z = floor_of z (2 ^ 16)

abbrev pub low_part : ℤ → ℤ
low_part z = z -ℤ pos (2 ^ 16) *ℤ high_part z

-- those of what a variable holds, in two others
abbrev pub part_statements : (whole high low : Variable) → List Statement
part_statements whole high low =
    Declare high (Shifted (Value whole) 16) ∷ Declare low (Minus (Value whole) (Times (Constant (pos (2 ^ 16))) (Value high))) ∷ []

-- a sum over 2^k, rounded down, from its parts, for k from 16 on; a shift of a number of 64 bits by more than 63 makes what one by 63 makes
abbrev pub parted_shift : (high low : Expression) → ℕ → Expression
parted_shift high low k = Shifted (Plus high (Shifted low 16)) (min (k - 16) 63)

-- ---- before the loop
-- a number and the state's products with coefficients, in two parts: each coefficient is parted
abbrev pub base_statements : Numbers → (high low : Variable) → ℤ → (ℕ → ℤ) → List Statement
base_statements c high low z coefficient =
    Declare high (plus_products (Constant (high_part z)) (λ k. high_part (coefficient k)) (state_top c) (variable Loaded) c.states)
    ∷ Declare low (plus_products (Constant (low_part z)) (λ k. low_part (coefficient k)) (state_top c) (variable Loaded) c.states) ∷ []

-- what the state and the offset add to plan entry j, over 2^(2 fraction_bits + step_exponent)
abbrev pub parted_offset : Numbers → ℕ → ℤ
parted_offset c j = at c.offsets j *ℤ pos (2 ^ c.fraction_bits) *ℤ pos (2 ^ c.step_exponent)

abbrev pub parted_entry_base : Numbers → ℕ → List Statement
parted_entry_base c j =
    base_statements c (variable EntryBaseHigh j) (variable EntryBase j) (parted_offset c j) (λ k. at (row_of c.state_gains j) k *ℤ pos (2 ^ c.step_exponent))

-- what the state and the bound add to row i, over 2^(2 fraction_bits)
abbrev pub parted_bound : Numbers → ℕ → ℤ
parted_bound c i = neg_ℤ (at c.bounds i *ℤ pos (2 ^ c.fraction_bits))

abbrev pub parted_row_base : Numbers → ℕ → List Statement
parted_row_base c i = base_statements c (variable RowBaseHigh i) (variable RowBase i) (parted_bound c i) (at (row_of c.state_rows i))

abbrev pub parted_before : Machine → Numbers → List Statement
parted_before m c =
    groups (loaded_statements c) c.states ++ groups (parted_entry_base c) (length c.offsets) ++ groups (parted_row_base c) (length c.bounds)
    ++ groups (zero_statements Multiplier) (length c.bounds) ++ groups (zero_statements Sum) (length c.offsets) ++ start_for m c

-- ---- one step
-- the parts of the multiplier of row i, or of the difference of the pair that it is the first row of
abbrev pub gain_parts : Numbers → ℕ → List Statement
gain_parts c i = if is_second c i then [] else part_statements (gain_variable c i) (variable MultiplierHigh i) (variable MultiplierLow i)

-- what the multipliers add to plan entry j, by one part of each
abbrev pub plus_gains : Numbers → (j : ℕ) → Family → Expression → Expression
plus_gains c j part a = plus_products a (gain_of c j) (multiplier_top c) (variable part) (length c.bounds)

abbrev pub parted_entry : Numbers → ℕ → Expression
parted_entry c j =
    Minus (Constant (pos 0)) (parted_shift (plus_gains c j MultiplierHigh (Value (variable EntryBaseHigh j))) (plus_gains c j MultiplierLow (Value (variable EntryBase j)))
    (c.fraction_bits + c.step_exponent))

abbrev pub parted_entry_statements : Numbers → ℕ → List Statement
parted_entry_statements c j =
    Declare (variable Entry j) (parted_entry c j) ∷ part_statements (variable Entry j) (variable EntryHigh j) (variable EntryLow j)

-- row i's products with the plan, by one part of each entry
abbrev pub plus_entries : Numbers → (i : ℕ) → Family → Expression → Expression
plus_entries c i part a = plus_products a (at (row_of c.plan_rows i)) (entry_top c) (variable part) (length c.offsets)

-- a pair's products with the plan
abbrev pub parted_gradient : Numbers → ℕ → List Statement
parted_gradient c i =
    if is_first c i then
    Declare (variable GradientHigh i) (plus_entries c i EntryHigh (Constant (pos 0))) ∷ Declare (variable Gradient i) (plus_entries c i EntryLow (Constant (pos 0))) ∷ []
    else []

-- one part of the sum of row i, from that of its base, and those of a pair's gradient or of the plan
abbrev pub row_part : Numbers → (base gradient entry : Family) → ℕ → Expression
row_part c base gradient entry i =
    if is_first c i then Plus (Value (variable base i)) (Value (variable gradient i)) else
    (if is_second c i then Minus (Value (variable base i)) (Value (variable gradient (partner c i))) else plus_entries c i entry (Value (variable base i)))

-- the sum of row i, over 2^fraction_bits, rounded down
abbrev pub parted_row : Numbers → ℕ → Expression
parted_row c i = parted_shift (row_part c RowBaseHigh GradientHigh EntryHigh i) (row_part c RowBase Gradient EntryLow i) c.fraction_bits

abbrev pub parted_move : Machine → Numbers → ℕ → List Statement
parted_move m c i =
    Declare (variable Moved i) (Plus (Value (variable (moved_family m) i)) (weighted_for m (Value (variable RowSum i))))
    ∷ AtLeastZero (variable Moved i) ∷ AtMost (variable Moved i) (top_for m c i) ∷ Assign (variable (moved_family m) i) (Value (variable Moved i)) ∷ reached_for m i

abbrev pub parted_row_statements : Machine → Numbers → ℕ → List Statement
parted_row_statements m c i = parted_gradient c i ++ (Declare (variable RowSum i) (parted_row c i) ∷ []) ++ parted_move m c i

abbrev pub parted_body : Machine → Numbers → List Statement
parted_body m c =
    means_for m c ++ groups (difference_statements c) (length c.bounds) ++ groups (gain_parts c) (length c.bounds) ++ groups (parted_entry_statements c) (length c.offsets)
    ++ groups (sum_for m) (length c.offsets) ++ groups (parted_row_statements m c) (length c.bounds) ++ next_for m

-- ---- the whole
-- the types of its variables; the sum of a row is lowered
abbrev pub parted_kind : Numbers → Sizes → Family → ℕ → Kind
parted_kind c z RowSum i = kind_for (next_magnitude c i)
parted_kind c z family k = kind_by c z family k

abbrev pub parted_kinds : Machine → Numbers → Variable → Kind
parted_kinds m c v = parted_kind c (sizes_for m c) v.family v.number

abbrev pub whole_parted : Machine → Numbers → CProgram
whole_parted m c = record {
  low = c.low;
  high = c.high;
  kind = parted_kinds m c;
  before = parted_before m c;
  body = parted_body m c;
  repetitions = c.steps;
  outputs = map (variable Sum) (range_with_len 0 (length c.offsets));
  averages = map (average_of (plans_for m c)) (range_with_len 0 c.inputs);
}

abbrev pub parted_program : Machine → Numbers → CProgram
parted_program m c = record {
  low = c.low;
  high = c.high;
  kind = parted_kinds m c;
  before = left_in (is_needed c) (parted_before m c);
  body = left_in (is_needed c) (parted_body m c);
  repetitions = c.steps;
  outputs = map (variable Sum) (range_with_len 0 (length c.offsets));
  averages = map (average_of (plans_for m c)) (range_with_len 0 c.inputs);
}

-- ---- which controllers have one
-- each part of each sum fits 64 bits, as each variable does
pub record HasParts (m : Machine) (c : Numbers) : Type 0 where
  pub width : c.width ≤ 79
  pub bits : 16 ≤ c.fraction_bits
  pub states : (k : ℕ) → k < c.states → state_top c k < 2 ^ 37
  pub gains : (j i : ℕ) → j < length c.offsets → i < length c.bounds → unsigned_abs (at (row_of c.dual_gains j) i *ℤ pos (2 ^ lowering_of c i)) < 2 ^ 37
  pub rows : (i j : ℕ) → i < length c.bounds → j < length c.offsets → unsigned_abs (at (row_of c.plan_rows i) j) < 2 ^ 37
  pub moved : (i : ℕ) → i < length c.bounds → (sizes_for m c).moved i < 2 ^ 63
  pub sums : (j : ℕ) → j < length c.offsets → (sizes_for m c).sum j < 2 ^ 63
  pub reached : (sizes_for m c).reached < 2 ^ 63

-- ---- the program of any controller that has one: in parts where its width is above 64
abbrev pub HasProgram : Machine → Numbers → Type 0
HasProgram m c = (c.width ≤ 64) ⊎ HasParts m c

abbrev pub is_parted : Numbers → Bool
is_parted c = nat_lt 64 c.width

abbrev pub written_program : Machine → Numbers → CProgram
written_program m c = if is_parted c then parted_program m c else program_for m c
