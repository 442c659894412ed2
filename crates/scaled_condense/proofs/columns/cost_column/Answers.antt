use Rattle.std.proofs.Common.{ℕ, ◌-◌}
use Rattle.std.specs.Prelude.{IfOk}
use Rattle.integer_algebra.specs.Sums.{none}
use Rattle.frac_scaled.specs.Enclosures.{Enclosure}
use Rattle.qp_model.specs.problem.Design.{entries}
use Rattle.qp_model.specs.problem.Parts.{design_of}
use Rattle.qp_model.specs.problem.Runs.{unit, counts}
use Rattle.scaled_run.specs.Lists.{HoldsEnclosures}
use Rattle.scaled_condense.proofs.ColumnFacts.{entries_fit, costs_fit, plan_cost_to, state_cost_to, target_to}
use Rattle.scaled_condense.proofs.columns.cost_column.Goals as goal

pub costs_of-requires : goal.costs_of-requires
costs_of-requires c =
    costs_fit c.args.over c.args.reach c.run_of_plan.result (λ r. r.parts.now) (λ r. r.reach) (λ r. r.start.items) (λ r. r.plan.items) c.args.parts.now none (unit c.args.j) c.requires.fits c.run_of_plan.ensures

pub costs_of-requires-then-j-entries-2 : goal.costs_of-requires-then-j-entries-2
costs_of-requires-then-j-entries-2 c =
    costs_fit c.args.over c.args.reach c.run_of_state.result (λ r. r.parts.now) (λ r. r.reach) (λ r. r.start.items) (λ r. r.plan.items) c.args.parts.now
    (unit (c.args.j - entries (design_of c.args.parts.now))) none c.requires.fits c.run_of_state.ensures

pub returns-then-j-entries : goal.returns-then-j-entries
returns-then-j-entries c =
    plan_cost_to c.args.over (λ (f : ℕ → Enclosure). IfOk c.costs_of.result (λ v. HoldsEnclosures v.items (counts (design_of c.args.parts.now)) f)) c.args.parts.now c.args.j c.if-j-entries.true
    (c.costs_of.ensures c.args.over c.args.reach c.args.parts.now none (unit c.args.j) c.run_of_plan.ensures)

pub returns-then-j-entries-2 : goal.returns-then-j-entries-2
returns-then-j-entries-2 c =
    state_cost_to c.args.over (λ (f : ℕ → Enclosure). IfOk c.costs_of-then-j-entries-2.result (λ v. HoldsEnclosures v.items (counts (design_of c.args.parts.now)) f)) c.args.parts.now c.args.j
    c.if-j-entries.false c.if-j-entries-2.true
    (c.costs_of-then-j-entries-2.ensures c.args.over c.args.reach c.args.parts.now (unit (c.args.j - entries (design_of c.args.parts.now))) none c.run_of_state.ensures)

pub returns : goal.returns
returns c =
    target_to c.args.over (λ (f : ℕ → Enclosure). IfOk c.targets.result (λ v. HoldsEnclosures v.items (counts (design_of c.args.parts.now)) f)) c.args.parts.now c.args.j
    c.if-j-entries.false c.if-j-entries-2.false c.targets.ensures

pub overflow_mul-entries : goal.overflow_mul-entries
overflow_mul-entries c = entries_fit c.args.parts.now c.requires.scale.design
