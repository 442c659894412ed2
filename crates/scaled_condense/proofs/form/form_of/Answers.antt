use Rattle.std.proofs.Common.{ap, ◌∙◌}
use Rattle.scaled_condense.specs.Lists.{mids, rads}
use Rattle.scaled_condense.proofs.form.form_of.Goals as goal

pub assembled-requires-clause-design : goal.assembled-requires-clause-design
assembled-requires-clause-design c = c.requires.design

pub assembled-requires-clause-costs : goal.assembled-requires-clause-costs
assembled-requires-clause-costs c = c.requires.costs

pub assembled-requires-clause-limits : goal.assembled-requires-clause-limits
assembled-requires-clause-limits c = c.requires.limits

pub assembled-requires-clause-mids : goal.assembled-requires-clause-mids
assembled-requires-clause-mids c = c.in-Ok.ensures.mids ∙ ap mids c.deref.ensures.value

pub assembled-requires-clause-rads : goal.assembled-requires-clause-rads
assembled-requires-clause-rads c = c.in-Ok.ensures.rads ∙ ap rads c.deref.ensures.value

pub returns-in-Ok : goal.returns-in-Ok
returns-in-Ok c = c.assembled.ensures
