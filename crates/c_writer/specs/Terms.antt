-- The text of a sum of products, as it grows behind what it is added to.
use Rattle.std.specs.Prelude.{ℕ, zero, suc, ◌+◌, ◌-◌, ◌*◌, ◌^◌, ◌<◌, ◌==◌, min, nat_lt, Bool, ◌&&◌, if◌then◌else◌, ℤ, pos, ◌*ℤ◌, List, [], ◌∷◌, ◌++◌, length, map, codes, decimal, unsigned_abs, slice_index_or}
use Rattle.std.specs.List.{range_with_len}
use Rattle.integer_algebra.specs.Sums.{at}
use Rattle.mat_int.specs.Matrix.{Matrix, row_of}
use Rattle.number_text.specs.Lines.{text_of}
use Rattle.qp_model.specs.machine.Controller.{Numbers}
use Rattle.qp_model.specs.machine.Machine.{lowering_of}
use Rattle.overflow_check.specs.declared.machine.Machine.{Machine}
use Rattle.overflow_check.specs.declared.machine.Machine.TheVariants.{Plain, Accelerated}
use Rattle.c_language.specs.Syntax.{Family, Variable, variable, Kind, Expression, Statement, groups, CProgram}
use Rattle.c_language.specs.Syntax.Family.{Loaded, EntryBase, RowBase, Entry, Gradient, MultiplierHigh, MultiplierLow, EntryHigh, EntryLow, EntryBaseHigh, RowBaseHigh, GradientHigh}
use Rattle.c_language.specs.Syntax.Expression.{Constant, Value, Plus, Minus, Shifted}
use Rattle.c_language.specs.Syntax.Statement.{Declare}
use Rattle.c_program.specs.Of.{state_top, multiplier_top, plus_products, gain_of, gain_variable, partner, is_first, is_second, entry_top, row_bits, plan_factor, lowered_value, is_product, is_row_needed}
use Rattle.c_program.specs.InParts.{high_part, low_part, part_statements, parted_offset, parted_entry_base, parted_bound, parted_row_base, gain_parts, parted_row}
use Rattle.c_writer.specs.declared.measured.Part.{Part}
use Rattle.c_writer.specs.declared.measured.Part.TheVariants.{Whole, High, Low}
use Rattle.c_language.specs.Text.{variable_text, constant_text, expression_text, statement_lines, numbered_lines, refusal_line}

-- ---- pairs
abbrev pub partners_of : Numbers → List ℕ
partners_of c = map (partner c) (range_with_len 0 (length c.bounds))

-- ---- what is needed
-- number k of row i of a matrix makes a product with a variable of at most this absolute value, and that row is needed
abbrev pub reaches_row : Numbers → Matrix → (k top i : ℕ) → Bool
reaches_row c a k top i = is_row_needed c i && is_product (at (row_of a i) k) top

-- ---- what is short enough for a program in parts
abbrev pub IsShortGain : Numbers → (j i : ℕ) → Type 0
IsShortGain c j i = unsigned_abs (at (row_of c.dual_gains j) i *ℤ pos (2 ^ lowering_of c i)) < 2 ^ 37

abbrev pub IsShortFactor : Numbers → (i j : ℕ) → Type 0
IsShortFactor c i j = unsigned_abs (at (row_of c.plan_rows i) j) < 2 ^ 37

-- ---- text
-- pieces, one behind the other
abbrev pub joined : List (List ℕ) → List ℕ
joined [] = []
joined (piece ∷ pieces) = piece ++ joined pieces

-- the value of the variable of this name over 2^k
abbrev pub lowered_text : List ℕ → ℕ → List ℕ
lowered_text name k =
    if k == 0 then codes "(int64_t)" ++ name else (codes "((" ++ (codes "(int64_t)" ++ name) ++ codes ") >> " ++ decimal k ++ codes ")")

-- one product with the variable of this name
abbrev pub term_text : ℤ → List ℕ → List ℕ
term_text c name = codes " + (" ++ constant_text c ++ codes " * (int64_t)" ++ name ++ codes ")"

abbrev pub product_text : ℤ → ℕ → List ℕ → List ℕ
product_text c top name = if nat_lt 0 (unsigned_abs c * top) then term_text c name else []

unfoldable pub products_text : (ℕ → ℤ) → (ℕ → ℕ) → (ℕ → List ℕ) → ℕ → List ℕ
products_text c top name zero = []
products_text c top name (suc n) = products_text c top name n ++ product_text (c n) (top n) (name n)

-- those of plan entry j, by a part of each multiplier
abbrev pub gain_factor : Numbers → Part → ℕ → Variable
gain_factor c Whole i = gain_variable c i
gain_factor c High i = variable MultiplierHigh i
gain_factor c Low i = variable MultiplierLow i

abbrev pub gain_text : Numbers → Part → (j i : ℕ) → List ℕ
gain_text c part j i = product_text (gain_of c j i) (multiplier_top c i) (variable_text (gain_factor c part i))

abbrev pub gains_text : Numbers → Part → ℕ → List ℕ
gains_text c part j = products_text (gain_of c j) (multiplier_top c) (λ i. variable_text (gain_factor c part i)) (length c.bounds)

-- those of numbers with the variables of a family, which are at most these in absolute value
abbrev pub family_text : (ℕ → ℤ) → (tops family : List ℕ) → ℕ → List ℕ
family_text c tops family n = products_text c (λ k. slice_index_or tops k 0) (λ k. family ++ decimal k) n

-- ---- statements
-- what stands before and behind the value that a variable of a type is given
abbrev pub given_text : List ℕ → List ℕ → List ℕ
given_text kind name = name ++ codes " = (" ++ kind ++ codes ")("

abbrev pub declared_text : (indent kind name : List ℕ) → List ℕ
declared_text indent kind name = indent ++ kind ++ codes " " ++ given_text kind name

abbrev pub given_end : List ℕ
given_end = codes ");" ++ 10 ∷ []

-- the lines of statements, by the types of variables
abbrev pub block_text : (Variable → Kind) → (indent : List ℕ) → List Statement → List ℕ
block_text types indent ss = text_of (statement_lines types indent ss)

-- what stands before and behind what is added by a step's weight, in the program of a machine
abbrev pub weight_open : Machine → List ℕ
weight_open Plain = []
weight_open Accelerated = codes "((int64_t)k0 * "

abbrev pub weight_end : Machine → List ℕ
weight_end Plain = []
weight_end Accelerated = codes ")"

-- the lines of a variable's parts
abbrev pub high_line : (kind whole high : List ℕ) → List ℕ
high_line kind whole high = declared_text (codes "        ") kind high ++ lowered_text whole 16 ++ given_end

abbrev pub low_line : (whole high low : List ℕ) → List ℕ
low_line whole high low =
    declared_text (codes "        ") (codes "int32_t") low
    ++ (codes "(int64_t)" ++ whole ++ codes " - (INT64_C(65536) * " ++ (codes "(int64_t)" ++ high) ++ codes ")") ++ given_end

-- ---- sums of whole numbers, or of one part of each
abbrev pub part_in : Part → ℤ → ℤ
part_in Whole z = z
part_in High z = high_part z
part_in Low z = low_part z

abbrev pub entry_base_family : Part → Family
entry_base_family Whole = EntryBase
entry_base_family High = EntryBaseHigh
entry_base_family Low = EntryBase

abbrev pub row_base_family : Part → Family
row_base_family Whole = RowBase
row_base_family High = RowBaseHigh
row_base_family Low = RowBase

abbrev pub gradient_family : Part → Family
gradient_family Whole = Gradient
gradient_family High = GradientHigh
gradient_family Low = Gradient

abbrev pub entry_family : Part → Family
entry_family Whole = Entry
entry_family High = EntryHigh
entry_family Low = EntryLow

-- the bases
abbrev pub entry_base_by : Numbers → Part → ℕ → Statement
entry_base_by c part j =
    Declare (variable (entry_base_family part) j) (plus_products (Constant (part_in part (parted_offset c j)))
    (λ k. part_in part (at (row_of c.state_gains j) k *ℤ pos (2 ^ c.step_exponent))) (state_top c) (variable Loaded) c.states)

abbrev pub row_base_by : Numbers → Part → ℕ → Statement
row_base_by c part i =
    Declare (variable (row_base_family part) i) (plus_products (Constant (part_in part (parted_bound c i)))
    (λ k. part_in part (at (row_of c.state_rows i) k)) (state_top c) (variable Loaded) c.states)

-- plan entry j, before it is shifted
abbrev pub entry_sum_by : Numbers → Part → ℕ → Expression
entry_sum_by c part j = plus_products (Value (variable (entry_base_family part) j)) (gain_of c j) (multiplier_top c) (gain_factor c part) (length c.bounds)

-- the power of two that the sum of row i is made without
abbrev pub factor_bits : Numbers → Part → ℕ → ℕ
factor_bits c Whole i = row_bits c i
factor_bits c High i = 0
factor_bits c Low i = 0

-- what plan entry j is multiplied with in that sum
abbrev pub row_factor : Numbers → Part → (i j : ℕ) → ℤ
row_factor c Whole i j = plan_factor c i j
row_factor c High i j = at (row_of c.plan_rows i) j
row_factor c Low i j = at (row_of c.plan_rows i) j

-- the products of row i with the plan
abbrev pub plan_row_text : Numbers → Part → ℕ → List ℕ
plan_row_text c part i = products_text (row_factor c part i) (entry_top c) (λ j. variable_text (variable (entry_family part) j)) (length c.offsets)

abbrev pub plan_row_by : Numbers → Part → ℕ → Expression → Expression
plan_row_by c part i a = plus_products a (row_factor c part i) (entry_top c) (variable (entry_family part)) (length c.offsets)

abbrev pub gradient_by : Numbers → Part → ℕ → Statement
gradient_by c part i = Declare (variable (gradient_family part) i) (plan_row_by c part i (Constant (pos 0)))

-- what stands behind the base in the sum of a row
abbrev pub row_rest : Numbers → Part → ℕ → List ℕ
row_rest c part i =
    if is_first c i then (codes " + " ++ expression_text (Value (variable (gradient_family part) i))) else
    (if is_second c i then (codes " - " ++ expression_text (Value (variable (gradient_family part) (partner c i)))) else
    plan_row_text c part i)

abbrev pub row_by : Numbers → Part → ℕ → Expression
row_by c part i =
    let base = lowered_value (variable (row_base_family part) i) (factor_bits c part i) in
    if is_first c i then Plus base (Value (variable (gradient_family part) i)) else
    (if is_second c i then Minus base (Value (variable (gradient_family part) (partner c i))) else plan_row_by c part i base)

-- ---- the statements of either program: in parts, or not
abbrev pub entry_base_in : (parted : Bool) → Numbers → ℕ → List Statement
entry_base_in parted c j = if parted then parted_entry_base c j else (entry_base_by c Whole j ∷ [])

abbrev pub row_base_in : (parted : Bool) → Numbers → ℕ → List Statement
row_base_in parted c i = if parted then parted_row_base c i else (row_base_by c Whole i ∷ [])

abbrev pub gain_parts_in : (parted : Bool) → Numbers → List Statement
gain_parts_in parted c = if parted then groups (gain_parts c) (length c.bounds) else []

abbrev pub entry_sum_in : (parted : Bool) → Numbers → ℕ → Expression
entry_sum_in parted c j = if parted then Plus (entry_sum_by c High j) (Shifted (entry_sum_by c Low j) 16) else entry_sum_by c Whole j

abbrev pub shift_in : (parted : Bool) → ℕ → ℕ
shift_in parted k = min (if parted then k - 16 else k) 63

abbrev pub entry_in : (parted : Bool) → Numbers → ℕ → Expression
entry_in parted c j = Minus (Constant (pos 0)) (Shifted (entry_sum_in parted c j) (shift_in parted (c.fraction_bits + c.step_exponent)))

abbrev pub entry_parts_in : (parted : Bool) → ℕ → List Statement
entry_parts_in parted j = if parted then part_statements (variable Entry j) (variable EntryHigh j) (variable EntryLow j) else []

abbrev pub entry_lines_in : (parted : Bool) → Numbers → ℕ → List Statement
entry_lines_in parted c j = Declare (variable Entry j) (entry_in parted c j) ∷ entry_parts_in parted j

abbrev pub gradients_by : (parted : Bool) → Numbers → ℕ → List Statement
gradients_by parted c i = if parted then gradient_by c High i ∷ gradient_by c Low i ∷ [] else (gradient_by c Whole i ∷ [])

abbrev pub gradients_in : (parted : Bool) → Numbers → ℕ → List Statement
gradients_in parted c i = if is_first c i then gradients_by parted c i else []

abbrev pub row_in : (parted : Bool) → Numbers → ℕ → Expression
row_in parted c i = if parted then parted_row c i else row_by c Whole i

-- by how many bits the sum of row i is lowered where it moves its multiplier
abbrev pub move_bits : (parted : Bool) → Numbers → ℕ → ℕ
move_bits parted c i = if parted then 0 else c.fraction_bits - row_bits c i

-- ---- the lines of a program
abbrev pub refusals_text : CProgram → List ℕ
refusals_text p = text_of (numbered_lines (refusal_line p) (length p.low))
