-- By how much the plans of a controller exceed each row at most, whichever good solutions its gains are: numbers of the design, the policy and the reference
-- plans where there are any.
use Rattle.std.specs.Prelude.{ℕ, ◌+◌, ℤ, pos, Bool, true, false, List, Option, Some, None, unsigned_abs}
use Rattle.qp_model.specs.problem.Design.{Design, rows}
use Rattle.qp_model.specs.problem.Policy.{Plans}
use Rattle.qp_model.specs.problem.Runs.{Holds}
use Rattle.qp_model.specs.machine.Controller.{Numbers}
use Rattle.qp_model.specs.machine.Machine.{exponent_of}
use Rattle.qp_model.specs.declared.bounds.Margin.{Margin}
use Rattle.command_generate.specs.Engine.RowExponents.{exponent_in, AreExponentsOf}
use Rattle.command_generate.specs.Engine.Targets.{Targets, violation_target}
use Rattle.command_generate.specs.Engine.Bounds.{stated_cost}
use Rattle.command_generate.specs.Engine.Aims.{aim_of, steps_of}
use Rattle.command_generate.specs.Engine.Terms.{row_bound}
use Rattle.command_generate.specs.Engine.declared.aimed.Aim.{Aim}
use Rattle.dual_bounds.specs.FastSteps.{quarter_steps}
use Rattle.fast_bounds.specs.FastRefusals.{fast_stated_cost}
use Rattle.lean_engine.specs.Refusals.{aim_at}
use Rattle.command_make.specs.Made.{PassesPlainBy, PassesFastBy}

-- what a controller is made for, and its R: with reference plans those of a lean controller
abbrev pub aim_by : Design → Targets → Plans → (reference : Option Plans) → Margin → Aim
aim_by d t plans None m = aim_of t m
aim_by d t plans (Some references) m = aim_at d t plans references m

abbrev pub bound_by : Design → Targets → Plans → (reference : Option Plans) → Margin → ℕ
bound_by d t plans reference m = unsigned_abs (aim_by d t plans reference m).r

-- the violation that a repair is known for, where that isn't known for all
abbrev pub target_by : Targets → (reference : Option Plans) → Option ℤ
target_by t None = None
target_by t (Some references) = Some (pos (violation_target t))

-- ---- by the machine
-- the bound of a row with the step exponent e after k steps, whose errors cost so much
abbrev pub row_bound_by : (fast : Bool) → Option ℤ → (e s r k cost : ℕ) → ℕ
row_bound_by false target e s r k cost = row_bound target e s r k cost
row_bound_by true target e s r k cost = row_bound target (e + 2) (s + 2) r (quarter_steps k) cost

-- what they cost as it is stated, whichever good solutions the gains are
abbrev pub stated_cost_by : (fast : Bool) → Design → (r s k : ℕ) → (exponents : List ℕ) → (f : ℕ) → ℕ
stated_cost_by false d r s k exponents f = stated_cost d r f
stated_cost_by true d r s k exponents f = fast_stated_cost d r s k exponents f

-- ---- of row i, over 2^40, by the margin, the step exponent s, the steps k, the exponents of the rows and the fraction bits f
abbrev pub stated_excess : (fast : Bool) → Design → Targets → Plans → (reference : Option Plans) → Margin → (s k : ℕ) → (exponents : List ℕ) → (f : ℕ) → ℕ → ℤ
stated_excess fast d t plans reference m s k exponents f i =
    pos (row_bound_by fast (target_by t reference) (exponent_in exponents i) s (bound_by d t plans reference m) k
    (stated_cost_by fast d (bound_by d t plans reference m) s k exponents f))

-- they pass every test, and these are the numbers of all rows
pub record AreStated (d : Design) (t : Targets) (plans : Plans) (reference : Option Plans) (excess : List ℤ) : Type 0 where
  pub margin : Margin
  pub exponent : ℕ
  pub bits : ℕ
  pub exponents : List ℕ
  pub passes : PassesPlainBy d t plans reference margin exponent bits
  pub own : AreExponentsOf d exponent exponents
  pub holds : Holds excess (rows d)
      (stated_excess false d t plans reference margin exponent (steps_of (aim_by d t plans reference margin) exponent) exponents bits)

-- the same of the accelerated machine's, whose tests tell its steps and exponents
pub record AreFastStated (d : Design) (t : Targets) (plans : Plans) (reference : Option Plans) (excess : List ℤ) : Type 0 where
  pub margin : Margin
  pub exponent : ℕ
  pub steps : ℕ
  pub exponents : List ℕ
  pub bits : ℕ
  pub passes : PassesFastBy d t plans reference margin exponent steps exponents bits
  pub holds : Holds excess (rows d) (stated_excess true d t plans reference margin exponent steps exponents bits)

abbrev pub AreStatedExcesses : Design → Targets → Plans → (reference : Option Plans) → (fast : Bool) → (excess : List ℤ) → Type 0
AreStatedExcesses d t plans reference false excess = AreStated d t plans reference excess
AreStatedExcesses d t plans reference true excess = AreFastStated d t plans reference excess

-- ---- of a controller that was made, by its numbers, R, what the errors of a step or a run cost and what the violation may be, both over 2^40
abbrev pub made_excess : (fast : Bool) → (target : Option ℤ) → Numbers → (r errors : ℤ) → ℕ → ℤ
made_excess fast target c r errors i = pos (row_bound_by fast target (exponent_of c i) c.step_exponent (unsigned_abs r) c.steps (unsigned_abs errors))
