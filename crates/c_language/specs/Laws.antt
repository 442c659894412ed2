-- What a text tells.
use Rattle.std.specs.Prelude.{◌≡◌, ℕ, ◌<◌, List, length, map, All, unsigned_abs, ◌^◌}
use Rattle.integer_algebra.specs.Sums.{at}
use Rattle.c_language.specs.Syntax.{Variable, Kind, Expression, Statement, CProgram}
use Rattle.c_language.specs.Syntax.Kind.{Wide}
use Rattle.c_language.specs.Syntax.Statement.{Declare, Assign, AtLeastZero, AtMost}
use Rattle.c_language.specs.Syntax.Expression.{Constant, Value, Plus, Minus, Times, Quotient, Remainder, Over, Shifted, ShiftedBy}
use Rattle.c_language.specs.Text.{expression_text, statement_text, program_text, HasNoLineFeed}

-- each number of an expression is below 2^64, as it is where C defines the expression
abbrev pub HasShortNumbers : Expression → Type 0
HasShortNumbers (Constant z) = unsigned_abs z < 2 ^ 64
HasShortNumbers (Value v) = v.number < 2 ^ 64
HasShortNumbers (Plus a b) = HasShortNumbers a × HasShortNumbers b
HasShortNumbers (Minus a b) = HasShortNumbers a × HasShortNumbers b
HasShortNumbers (Times a b) = HasShortNumbers a × HasShortNumbers b
HasShortNumbers (Quotient a k) = HasShortNumbers a × (k < 2 ^ 64)
HasShortNumbers (Remainder a k) = HasShortNumbers a × (k < 2 ^ 64)
HasShortNumbers (Over a v) = HasShortNumbers a × (v.number < 2 ^ 64)
HasShortNumbers (Shifted a k) = HasShortNumbers a × (k < 2 ^ 64)
HasShortNumbers (ShiftedBy a v) = HasShortNumbers a × (v.number < 2 ^ 64)

-- two expressions never have one text
abbrev pub ExpressionTextLaw : Type 0
ExpressionTextLaw = (a b : Expression) → HasShortNumbers a → HasShortNumbers b → expression_text a ≡ expression_text b → a ≡ b

-- each number of a statement is
abbrev pub HasShortOperands : Statement → Type 0
HasShortOperands (Declare v a) = (v.number < 2 ^ 64) × HasShortNumbers a
HasShortOperands (Assign v a) = (v.number < 2 ^ 64) × HasShortNumbers a
HasShortOperands (AtLeastZero v) = v.number < 2 ^ 64
HasShortOperands (AtMost v top) = (v.number < 2 ^ 64) × (unsigned_abs top < 2 ^ 64)

-- the type that a statement is written with
abbrev pub kind_given : (Variable → Kind) → Statement → Kind
kind_given kind (Declare v a) = kind v
kind_given kind (Assign v a) = kind v
kind_given kind (AtLeastZero v) = Wide
kind_given kind (AtMost v top) = kind v

-- two statements never have one text, and where one has a type the other has the same
abbrev pub StatementTextLaw : Type 0
StatementTextLaw =
    (kind other : Variable → Kind) (s t : Statement) → HasShortOperands s → HasShortOperands t → statement_text kind s ≡ statement_text other t → (s ≡ t) × (kind_given kind s ≡ kind_given other t)

-- each number that a program's text shows is
pub record HasShortText (p : CProgram) : Type 0 where
  pub states : length p.low < 2 ^ 64
  pub low : (i : ℕ) → i < length p.low → unsigned_abs (at p.low i) < 2 ^ 64
  pub high : (i : ℕ) → i < length p.low → unsigned_abs (at p.high i) < 2 ^ 64
  pub before : All HasShortOperands p.before
  pub repetitions : p.repetitions < 2 ^ 64
  pub body : All HasShortOperands p.body
  pub sums : length p.outputs < 2 ^ 64
  pub outputs : All (λ v. v.number < 2 ^ 64) p.outputs
  pub inputs : length p.averages < 2 ^ 64
  pub averages : All HasShortNumbers p.averages

-- two programs are one, but for the types of variables that no statement of theirs gives a value, and for upper bounds of no state
pub record AreOneProgram (p q : CProgram) : Type 0 where
  pub low : p.low ≡ q.low
  pub high : (i : ℕ) → i < length p.low → at p.high i ≡ at q.high i
  pub before : p.before ≡ q.before
  pub types_before : map (kind_given p.kind) p.before ≡ map (kind_given q.kind) q.before
  pub repetitions : p.repetitions ≡ q.repetitions
  pub body : p.body ≡ q.body
  pub types_in_body : map (kind_given p.kind) p.body ≡ map (kind_given q.kind) q.body
  pub outputs : p.outputs ≡ q.outputs
  pub averages : p.averages ≡ q.averages

-- two programs never have one text, nor one program under two names; a name is any bytes of one line
abbrev pub ProgramTextLaw : Type 0
ProgramTextLaw =
    (name other : List ℕ) (p q : CProgram) → HasNoLineFeed name → HasNoLineFeed other → HasShortText p → HasShortText q → program_text name p ≡ program_text other q → (name ≡ other) × AreOneProgram p q
