use Rattle.std.proofs.lemmas.Result.{IfOk-weaker}
use Rattle.integer_algebra.specs.Sums.{none}
use Rattle.scaled_run.specs.ScaledForm.{wholes_over}
use Rattle.scaled_run.specs.Lists.{HoldsEnclosures}
use Rattle.scaled_condense.proofs.UnitFacts.{zeros_hold}
use Rattle.scaled_condense.proofs.units.zeros.Goals as goal

pub returns : goal.returns
returns c = IfOk-weaker c.vec.result _ (λ v. HoldsEnclosures v.items c.args.count (wholes_over c.args.over none))
    (λ v h. zeros_hold c.args.over v.items c.args.count c.whole.result (h (λ y e. e)) c.whole.ensures) c.vec.ensures.items_if_clones_equal
