-- A small part of C: variables of 32 or 64 bits, expressions of type int64_t, statements without branches but for clamps, and programs of two functions, one of which has a loop.
use Rattle.std.specs.Prelude.{ℕ, zero, suc, ℤ, List, [], ◌++◌}

-- ---- variables
-- the families of variables, each of which has a letter; those of the state and of the outputs are the numbers of arrays that the caller hands in
pub data Family : Type 0 where
  State : Family  -- state[0], state[1] ..
  Loaded : Family  -- x0, x1 ..
  EntryBase : Family  -- a0 ..
  RowBase : Family  -- r0 ..
  Multiplier : Family  -- l0 ..
  Difference : Family  -- d0 ..
  Entry : Family  -- u0 ..
  Gradient : Family  -- g0 ..
  RowSum : Family  -- y0 ..
  Moved : Family  -- t0 ..
  Sum : Family  -- s0 ..
  Output : Family  -- sums[0] ..
  Own : Family  -- m0 ..
  Reached : Family  -- v0 ..
  Weight : Family  -- k0
  Divisor : Family  -- b0
  Shift : Family  -- e0
  Power : Family  -- p0
  Doubling : Family  -- c0
  Reciprocal : Family  -- q0
  Numerator : Family  -- n0 ..
  Head : Family  -- h0 ..
  Rest : Family  -- z0 ..
  MultiplierHigh : Family  -- L0 ..
  MultiplierLow : Family  -- j0 ..
  EntryHigh : Family  -- U0 ..
  EntryLow : Family  -- w0 ..
  EntryBaseHigh : Family  -- A0 ..
  RowBaseHigh : Family  -- R0 ..
  GradientHigh : Family  -- G0 ..

abbrev pub letter_of : Family → ℕ
letter_of State = 0
letter_of Loaded = 120
letter_of EntryBase = 97
letter_of RowBase = 114
letter_of Multiplier = 108
letter_of Difference = 100
letter_of Entry = 117
letter_of Gradient = 103
letter_of RowSum = 121
letter_of Moved = 116
letter_of Sum = 115
letter_of Output = 1
letter_of Own = 109
letter_of Reached = 118
letter_of Weight = 107
letter_of Divisor = 98
letter_of Shift = 101
letter_of Power = 112
letter_of Doubling = 99
letter_of Reciprocal = 113
letter_of Numerator = 110
letter_of Head = 104
letter_of Rest = 122
letter_of MultiplierHigh = 76
letter_of MultiplierLow = 106
letter_of EntryHigh = 85
letter_of EntryLow = 119
letter_of EntryBaseHigh = 65
letter_of RowBaseHigh = 82
letter_of GradientHigh = 71

pub record Variable : Type 0 where
  pub family : Family
  pub number : ℕ

abbrev pub variable : Family → ℕ → Variable
variable family number = record { family = family; number = number }

-- int32_t or int64_t
pub data Kind : Type 0 where
  Narrow : Kind
  Wide : Kind

abbrev pub bits_of : Kind → ℕ
bits_of Narrow = 32
bits_of Wide = 64

-- ---- expressions, each of type int64_t
pub data Expression : Type 0 where
  Constant : ℤ → Expression  -- INT64_C(5)
  Value : Variable → Expression  -- (int64_t)u0
  Plus : Expression → Expression → Expression  -- A + B
  Minus : Expression → Expression → Expression  -- A - B
  Times : Expression → Expression → Expression  -- (A * B)
  Quotient : Expression → ℕ → Expression  -- (A / INT64_C(5))
  Remainder : Expression → ℕ → Expression  -- (A % INT64_C(5))
  Over : Expression → Variable → Expression  -- (A / (int64_t)b0)
  Shifted : Expression → ℕ → Expression  -- ((A) >> 5)
  ShiftedBy : Expression → Variable → Expression  -- ((A) >> (int64_t)e0)

-- ---- statements
pub data Statement : Type 0 where
  Declare : Variable → Expression → Statement  -- int32_t u0 = (int32_t)A;
  Assign : Variable → Expression → Statement  -- s0 = (int64_t)A;
  AtLeastZero : Variable → Statement  -- if (t0 < 0) { t0 = 0; }
  AtMost : Variable → ℤ → Statement  -- if (t0 > INT64_C(5)) { t0 = INT64_C(5); }

-- the statements of 0, 1 .. n - 1, one after the other
unfoldable pub groups : (ℕ → List Statement) → ℕ → List Statement
groups f zero = []
groups f (suc n) = groups f n ++ f n

-- ---- programs
-- The first function refuses a state outside the box; else the statements before the loop are run, then those of its body so many times, and then the outputs are stored.
-- The second stores the averages, which are made of the outputs.
pub record CProgram : Type 0 where
  pub low : List ℤ
  pub high : List ℤ
  pub kind : Variable → Kind
  pub before : List Statement
  pub body : List Statement
  pub repetitions : ℕ
  pub outputs : List Variable
  pub averages : List Expression
