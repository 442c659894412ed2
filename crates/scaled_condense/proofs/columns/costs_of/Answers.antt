use Rattle.std.proofs.Common.{ℕ}
use Rattle.std.specs.Prelude.{IfOk}
use Rattle.frac_scaled.specs.Enclosures.{Enclosure}
use Rattle.scaled_run.specs.Lists.{HoldsEnclosures}
use Rattle.scaled_condense.proofs.ColumnFacts.{cost_to}
use Rattle.scaled_condense.proofs.columns.costs_of.Goals as goal

pub returns : goal.returns
returns c = λ m reach p x v made.
    let r = c.in_ok-run.run' in
    cost_to m reach p r.parts.now x v r.reach r.start.items r.plan.items (rw c.in_ok-run.was at made) (λ (n : ℕ) (f : ℕ → Enclosure). IfOk c.costs.result (λ u. HoldsEnclosures u.items n f)) c.costs.ensures
