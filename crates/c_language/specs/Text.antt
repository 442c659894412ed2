-- The texts of a program: a C99 source with two functions, one statement a line, and its header.
use Rattle.std.specs.Prelude.{ℕ, zero, suc, ℤ, pos, negsuc, if◌then◌else◌, List, [], ◌∷◌, ◌++◌, length, map, codes, decimal, slice_index_or, All, ◌≢◌}
use Rattle.std.specs.Ordering.{int_eq}
use Rattle.integer_algebra.specs.Sums.{at}
use Rattle.number_text.specs.Lines.{text_of}
use Rattle.qp_model.specs.machine.Controller.{Numbers}
use Rattle.c_language.specs.Syntax.{Family, Variable, letter_of, Kind, Expression, Statement, CProgram}
use Rattle.c_language.specs.Syntax.Family.{State, Output}
use Rattle.c_language.specs.Syntax.Kind.{Narrow, Wide}
use Rattle.c_language.specs.Syntax.Expression.{Constant, Value, Plus, Minus, Times, Quotient, Remainder, Over, Shifted, ShiftedBy}
use Rattle.c_language.specs.Syntax.Statement.{Declare, Assign, AtLeastZero, AtMost}

-- ---- words
abbrev pub name_of : Family → ℕ → List ℕ
name_of State k = codes "state[" ++ decimal k ++ codes "]"
name_of Output k = codes "sums[" ++ decimal k ++ codes "]"
name_of family k = letter_of family ∷ decimal k

abbrev pub variable_text : Variable → List ℕ
variable_text v = name_of v.family v.number

abbrev pub kind_text : Kind → List ℕ
kind_text Narrow = codes "int32_t"
kind_text Wide = codes "int64_t"

abbrev pub constant_text : ℤ → List ℕ
constant_text (pos n) = codes "INT64_C(" ++ decimal n ++ codes ")"
constant_text (negsuc n) = codes "(-INT64_C(" ++ decimal (suc n) ++ codes "))"

-- ---- expressions: a sum, which C reads from the left, or what stands in parentheses or is one value
abbrev pub enclosed : List ℕ → List ℕ
enclosed text = codes "(" ++ text ++ codes ")"

-- the second operand of a sum, or one of a product
abbrev pub closed : Expression → List ℕ → List ℕ
closed (Plus a b) text = enclosed text
closed (Minus a b) text = enclosed text
closed other text = text

abbrev pub expression_text : Expression → List ℕ
expression_text (Constant z) = constant_text z
expression_text (Value v) = codes "(int64_t)" ++ variable_text v
expression_text (Plus a b) = expression_text a ++ codes " + " ++ closed b (expression_text b)
expression_text (Minus a b) = expression_text a ++ codes " - " ++ closed b (expression_text b)
expression_text (Times a b) = enclosed (closed a (expression_text a) ++ codes " * " ++ closed b (expression_text b))
expression_text (Quotient a k) = enclosed (closed a (expression_text a) ++ codes " / " ++ constant_text (pos k))
expression_text (Remainder a k) = enclosed (closed a (expression_text a) ++ codes " % " ++ constant_text (pos k))
expression_text (Over a v) = enclosed (closed a (expression_text a) ++ codes " / (int64_t)" ++ variable_text v)
expression_text (Shifted a k) = enclosed (enclosed (expression_text a) ++ codes " >> " ++ decimal k)
expression_text (ShiftedBy a v) = enclosed (enclosed (expression_text a) ++ codes " >> (int64_t)" ++ variable_text v)

-- ---- statements
-- a value in the type of its variable
abbrev pub cast_text : Kind → Expression → List ℕ
cast_text kind a = codes " = (" ++ kind_text kind ++ codes ")" ++ enclosed (expression_text a) ++ codes ";"

abbrev pub statement_text : (Variable → Kind) → Statement → List ℕ
statement_text kind (Declare v a) = kind_text (kind v) ++ codes " " ++ variable_text v ++ cast_text (kind v) a
statement_text kind (Assign v a) = variable_text v ++ cast_text (kind v) a
statement_text kind (AtLeastZero v) = codes "if (" ++ variable_text v ++ codes " < 0) { " ++ variable_text v ++ codes " = 0; }"
statement_text kind (AtMost v top) =
    codes "if (" ++ variable_text v ++ codes " > " ++ constant_text top ++ codes ") { " ++ variable_text v ++ cast_text (kind v) (Constant top) ++ codes " }"

abbrev pub statement_lines : (Variable → Kind) → List ℕ → List Statement → List (List ℕ)
statement_lines kind indent ss = map (λ s. indent ++ statement_text kind s) ss

-- ---- the functions
-- the lines of 0, 1 .. n - 1
abbrev pub numbered_lines : (ℕ → List ℕ) → ℕ → List (List ℕ)
numbered_lines line zero = []
numbered_lines line (suc n) = numbered_lines line n ++ line n ∷ []

-- number i of the state is compared with an upper bound, and not with the greatest int32_t, which none is above
abbrev pub comparison_text : (high : ℤ) → ℕ → List ℕ
comparison_text high i = codes " || " ++ name_of State i ++ codes " > " ++ constant_text high

abbrev pub above_text : (high : ℤ) → ℕ → List ℕ
above_text high i = if int_eq high (pos 2147483647) then [] else comparison_text high i

-- it is refused outside the box
abbrev pub refusal_text : (low high : ℤ) → ℕ → List ℕ
refusal_text low high i =
    codes "    if (" ++ name_of State i ++ codes " < " ++ constant_text low ++ above_text high i ++ codes ") { return " ++ decimal (suc i) ++ codes "; }"

abbrev pub refusal_line : CProgram → ℕ → List ℕ
refusal_line p i = refusal_text (at p.low i) (at p.high i) i

abbrev pub output_line : ℕ → Variable → List ℕ
output_line j v = codes "    sums[" ++ decimal j ++ codes "] = " ++ expression_text (Value v) ++ codes ";"

abbrev pub head_text : List ℕ → CProgram → List ℕ
head_text name p =
    codes "int " ++ name ++ codes "_solve(const int32_t state[" ++ decimal (length p.low) ++ codes "], int64_t sums[" ++ decimal (length p.outputs) ++ codes "])"

abbrev pub average_line : ℕ → Expression → List ℕ
average_line j a = codes "    inputs[" ++ decimal j ++ codes "] = " ++ expression_text a ++ codes ";"

abbrev pub average_head_text : List ℕ → CProgram → List ℕ
average_head_text name p =
    codes "void " ++ name ++ codes "_first_inputs(const int64_t sums[" ++ decimal (length p.outputs) ++ codes "], int64_t inputs[" ++ decimal (length p.averages) ++ codes "])"

-- an array of a negative length is no type: so where `>>` doesn't round down this isn't compiled
abbrev pub shift_line : List ℕ → List ℕ
shift_line name = codes "typedef char " ++ name ++ codes "_shifts_round_down[((-INT64_C(3)) >> 1) == (-INT64_C(2)) ? 1 : -1];"

-- the second function
abbrev pub second_lines : List ℕ → CProgram → List (List ℕ)
second_lines name p =
    average_head_text name p ∷ codes "{" ∷ []
    ++ numbered_lines (λ j. average_line j (slice_index_or p.averages j (Constant (pos 0)))) (length p.averages)
    ++ codes "}" ∷ []

-- the lines above a program's refusals, and that of its loop
abbrev pub opening_lines : List ℕ → CProgram → List (List ℕ)
opening_lines name p = (codes "#include \"" ++ name ++ codes ".h\"") ∷ [] ∷ shift_line name ∷ [] ∷ head_text name p ∷ codes "{" ∷ []

abbrev pub repetition_line : CProgram → List ℕ
repetition_line p = codes "    for (int32_t step = 0; step < " ++ decimal p.repetitions ++ codes "; step++) {"

abbrev pub program_lines : List ℕ → CProgram → List (List ℕ)
program_lines name p =
    (codes "#include \"" ++ name ++ codes ".h\"") ∷ [] ∷ shift_line name ∷ [] ∷ head_text name p ∷ codes "{" ∷ []
    ++ numbered_lines (refusal_line p) (length p.low)
    ++ statement_lines p.kind (codes "    ") p.before
    ++ (codes "    for (int32_t step = 0; step < " ++ decimal p.repetitions ++ codes "; step++) {") ∷ []
    ++ statement_lines p.kind (codes "        ") p.body
    ++ codes "    }" ∷ []
    ++ numbered_lines (λ j. output_line j (slice_index_or p.outputs j (record { family = State; number = 0 }))) (length p.outputs)
    ++ codes "    return 0;" ∷ codes "}" ∷ [] ∷ []
    ++ second_lines name p

-- no line feed is among these bytes
abbrev pub HasNoLineFeed : List ℕ → Type 0
HasNoLineFeed = All (λ b. b ≢ 10)

abbrev pub program_text : List ℕ → CProgram → List ℕ
program_text name p = text_of (program_lines name p)

-- ---- the header
-- it is read once
abbrev pub guard_lines : List ℕ → List (List ℕ)
guard_lines name = (codes "#ifndef " ++ name ++ codes "_H") ∷ (codes "#define " ++ name ++ codes "_H") ∷ [] ∷ codes "#include <stdint.h>" ∷ [] ∷ []

-- one of the numbers that a caller needs, as a macro
abbrev pub size_line : (name word : List ℕ) → ℕ → List ℕ
size_line name word n = codes "#define " ++ name ++ word ++ codes " " ++ decimal n

abbrev pub size_lines : List ℕ → Numbers → List (List ℕ)
size_lines name c =
    size_line name (codes "_STATES") c.states ∷ size_line name (codes "_INPUTS") c.inputs ∷ size_line name (codes "_STAGES") c.stages
    ∷ size_line name (codes "_STEPS") c.steps ∷ size_line name (codes "_BITS") c.fraction_bits ∷ size_line name (codes "_GRID") c.grid_bits ∷ []

-- the functions, with the names that C gives them where a C++ source reads this, too
abbrev pub function_lines : List ℕ → CProgram → List (List ℕ)
function_lines name p =
    [] ∷ codes "#ifdef __cplusplus" ∷ codes "extern \"C\" {" ∷ codes "#endif"
    ∷ [] ∷ codes "/* From a state over 2^GRID: 0, and the numerators of the averaged plan, as solve prints them; or the first number, from 1, outside the box, and nothing is written. */"
    ∷ (head_text name p ++ codes ";")
    ∷ [] ∷ codes "/* From these sums: the averaged first inputs over 2^BITS, to the nearest, ties upward. */"
    ∷ (average_head_text name p ++ codes ";")
    ∷ [] ∷ codes "#ifdef __cplusplus" ∷ codes "}" ∷ codes "#endif" ∷ [] ∷ codes "#endif" ∷ []

abbrev pub header_text : List ℕ → Numbers → CProgram → List ℕ
header_text name c p = text_of (guard_lines name ++ size_lines name c ++ function_lines name p)
