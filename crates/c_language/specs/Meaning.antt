-- What a program means: the values of its expressions as exact whole numbers, and that C defines each of them.
use Rattle.std.specs.Prelude.{ℕ, zero, suc, ◌<◌, ◌^◌, Bool, ◌&&◌, ◌==◌, if◌then◌else◌, ℤ, pos, ◌+ℤ◌, ◌-ℤ◌, ◌*ℤ◌, ◌≤ℤ◌, ◌<ℤ◌, List, [], ◌∷◌, length, map, unsigned_abs, int_lt, int_div, int_rem, ◌||◌, All}
use Rattle.std.specs.Int.{int_max, int_min}
use Rattle.integer_algebra.specs.Division.{floor_of}
use Rattle.integer_algebra.specs.Sums.{at}
use Rattle.qp_model.specs.machine.ValuesMet.{FitsWidth}
use Rattle.c_language.specs.Syntax.{Family, Variable, letter_of, Kind, bits_of, Expression, Statement, CProgram}
use Rattle.c_language.specs.Syntax.Family.{State, Output}
use Rattle.c_language.specs.Syntax.Expression.{Constant, Value, Plus, Minus, Times, Quotient, Remainder, Over, Shifted, ShiftedBy}
use Rattle.c_language.specs.Syntax.Statement.{Declare, Assign, AtLeastZero, AtMost}

-- ---- what the variables hold
abbrev pub Environment : Type 0
Environment = Family → ℕ → ℤ

abbrev pub held : Environment → Variable → ℤ
held e v = e v.family v.number

abbrev pub with_value : Environment → Variable → ℤ → Environment
with_value e v z family number = if (letter_of v.family == letter_of family) && (v.number == number) then z else e family number

-- ---- expressions
abbrev pub value : Environment → Expression → ℤ
value e (Constant z) = z
value e (Value v) = held e v
value e (Plus a b) = value e a +ℤ value e b
value e (Minus a b) = value e a -ℤ value e b
value e (Times a b) = value e a *ℤ value e b
value e (Quotient a k) = int_div (value e a) (pos k)
value e (Remainder a k) = int_rem (value e a) (pos k)
value e (Over a v) = int_div (value e a) (held e v)
value e (Shifted a k) = floor_of (value e a) (2 ^ k)
value e (ShiftedBy a v) = floor_of (value e a) (2 ^ unsigned_abs (held e v))

-- C defines the expression: a literal has a positive number of its type before its sign, each result lies in int64_t, no divisor is 0, and no shift is by less than 0 bits, or by 64 or more;
-- a quotient is rounded toward 0, and lies in int64_t where it is by a number above 0
abbrev pub IsDefined : Environment → Expression → Type 0
IsDefined e (Constant z) = unsigned_abs z < 2 ^ 63
IsDefined e (Value v) = FitsWidth 64 (held e v)
IsDefined e (Plus a b) = IsDefined e a × IsDefined e b × FitsWidth 64 (value e a +ℤ value e b)
IsDefined e (Minus a b) = IsDefined e a × IsDefined e b × FitsWidth 64 (value e a -ℤ value e b)
IsDefined e (Times a b) = IsDefined e a × IsDefined e b × FitsWidth 64 (value e a *ℤ value e b)
IsDefined e (Quotient a k) = IsDefined e a × (0 < k) × (k < 2 ^ 63)
IsDefined e (Remainder a k) = IsDefined e a × (0 < k) × (k < 2 ^ 63)
IsDefined e (Over a v) = IsDefined e a × FitsWidth 64 (held e v) × (pos 0 <ℤ held e v)
IsDefined e (Shifted a k) = IsDefined e a × (k < 64)
IsDefined e (ShiftedBy a v) = IsDefined e a × (pos 0 ≤ℤ held e v) × (held e v <ℤ pos 64)

-- ---- statements
-- what the variable of a statement holds after it
abbrev pub new_value : Environment → Statement → ℤ
new_value e (Declare v a) = value e a
new_value e (Assign v a) = value e a
new_value e (AtLeastZero v) = int_max (held e v) (pos 0)
new_value e (AtMost v top) = int_min top (held e v)

abbrev pub variable_of : Statement → Variable
variable_of (Declare v a) = v
variable_of (Assign v a) = v
variable_of (AtLeastZero v) = v
variable_of (AtMost v top) = v

abbrev pub done : Environment → Statement → Environment
done e s = with_value e (variable_of s) (new_value e s)

-- C defines what is computed, and it lies in the type of the variable
abbrev pub HasOperands : Environment → Statement → Type 0
HasOperands e (Declare v a) = IsDefined e a
HasOperands e (Assign v a) = IsDefined e a
HasOperands e (AtLeastZero v) = Unit {0}
HasOperands e (AtMost v top) = unsigned_abs top < 2 ^ 63

pub record IsDone (kind : Variable → Kind) (e : Environment) (s : Statement) : Type 0 where
  pub operands : HasOperands e s
  pub fits : FitsWidth (bits_of (kind (variable_of s))) (new_value e s)

-- ---- many statements
unfoldable pub all_done : Environment → List Statement → Environment
all_done e [] = e
all_done e (s ∷ rest) = all_done (done e s) rest

unfoldable pub AreDone : (Variable → Kind) → Environment → List Statement → Type 0
AreDone kind e [] = Unit {0}
AreDone kind e (s ∷ rest) = IsDone kind e s × AreDone kind (done e s) rest

unfoldable pub repeated : Environment → List Statement → ℕ → Environment
repeated e body zero = e
repeated e body (suc k) = all_done (repeated e body k) body

-- ---- programs
-- number i of the state lies outside the box; the text compares it with no upper bound that no int32_t is above
abbrev pub is_outside : CProgram → List ℤ → ℕ → Bool
is_outside p state i = int_lt (at state i) (at p.low i) || int_lt (at p.high i) (at state i)

-- the first such number, from 1, of so many from number i on, and 0 where none is
abbrev pub first_from : CProgram → List ℤ → (i many : ℕ) → ℕ
first_from p state i zero = 0
first_from p state i (suc many) = if is_outside p state i then suc i else first_from p state (suc i) many

abbrev pub first_outside : CProgram → List ℤ → ℕ
first_outside p state = first_from p state 0 (length p.low)

-- what the variables hold before the loop, and after so many repetitions of its body; no variable is read before it is declared, which a compiler tells
abbrev pub begun : List ℤ → Environment
begun state State i = at state i
begun state family i = pos 0

abbrev pub after_rounds : CProgram → List ℤ → ℕ → Environment
after_rounds p state k = repeated (all_done (begun state) p.before) p.body k

-- the call answers a number and stores nothing, or it answers 0 and stores these numbers
pub data Outcome : Type 0 where
  Refused : ℕ → Outcome
  Solved : List ℤ → Outcome

abbrev pub outcome_at : CProgram → List ℤ → (first : ℕ) → Outcome
outcome_at p state zero = Solved (map (held (after_rounds p state p.repetitions)) p.outputs)
outcome_at p state (suc i) = Refused (suc i)

abbrev pub outcome_of : CProgram → List ℤ → Outcome
outcome_of p state = outcome_at p state (first_outside p state)

-- C defines each statement of the run from a state in the box
pub record IsDefinedRun (p : CProgram) (state : List ℤ) : Type 0 where
  pub before : AreDone p.kind (begun state) p.before
  pub body : (k : ℕ) → k < p.repetitions → AreDone p.kind (after_rounds p state k) p.body

-- ---- the second function
abbrev pub handed : List ℤ → Environment
handed sums Output j = at sums j
handed sums family i = pos 0

abbrev pub averages_of : CProgram → List ℤ → List ℤ
averages_of p sums = map (value (handed sums)) p.averages

-- C defines each average of these sums
abbrev pub AreAveraged : CProgram → List ℤ → Type 0
AreAveraged p sums = All (IsDefined (handed sums)) p.averages
