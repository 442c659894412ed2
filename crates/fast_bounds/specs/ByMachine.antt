-- What is made of a design and a policy alone, by either machine: why they are refused, how far they get, and what is built of them.
use Rattle.std.specs.Prelude.{ℕ, Bool, true, false, List}
use Rattle.qp_model.specs.problem.Design.{Design}
use Rattle.qp_model.specs.problem.Policy.{Plans}
use Rattle.qp_model.specs.machine.Controller.{Numbers}
use Rattle.qp_model.specs.bounds.Printed.{Printed}
use Rattle.qp_model.specs.declared.bounds.Margin.{Margin}
use Rattle.qp_model.specs.declared.design_parts.DesignParts.{DesignParts}
use Rattle.qp_model.specs.declared.refusal.Refusal.{Refusal}
use Rattle.lean_engine.specs.Engine.Built.{IsBuilt}
use Rattle.lean_engine.specs.Engine.Refusals.{HasCause, PassesAll}
use Rattle.lean_engine.specs.Engine.Targets.{Targets}
use Rattle.fast_bounds.specs.FastMargin.{HasFastMarginCause, PassesFastMargin, IsFastMarginBuilt}

-- why this refusal is the answer
abbrev pub CauseBy : (fast : Bool) → Design → Targets → Plans → Refusal → Type 0
CauseBy false d t plans = HasCause d t plans
CauseBy true d t plans = HasFastMarginCause d t plans

-- they pass every test: by the accelerated machine with some steps and exponents of the rows
abbrev pub PassesAllBy : (fast : Bool) → Design → Targets → Plans → Margin → (s f : ℕ) → Type 0
PassesAllBy false d t plans m s f = PassesAll d t plans m s f
PassesAllBy true d t plans m s f = (k : ℕ) × (exponents : List ℕ) × PassesFastMargin d t plans m s k exponents f

-- the controller and the bounds are those of them
abbrev pub IsBuiltBy : (fast : Bool) → DesignParts → Plans → Numbers → Printed → Type 0
IsBuiltBy false p plans = IsBuilt p plans
IsBuiltBy true p plans = IsFastMarginBuilt p plans
