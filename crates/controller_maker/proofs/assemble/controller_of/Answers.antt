use Rattle.std.proofs.Common.{sym, subst, unsigned_abs}
use Rattle.qp_model.specs.problem.Parts.{design_of}
use Rattle.qp_model.specs.machine.Controller.{Numbers}
use Rattle.controller_maker.specs.Assembled.{IsAssembled}
use Rattle.controller_maker.proofs.assemble.controller_of.Goals as goal

pub returns-in-Ok-clause-made : goal.returns-in-Ok-clause-made
returns-in-Ok-clause-made c =
    subst (λ (x : Numbers). IsAssembled (design_of c.args.design.now) (unsigned_abs c.args.settings.r) c.args.settings.s c.args.exps.items c.args.settings.steps c.args.settings.f x) (sym c.with_width.ensures.parts)
    (c.in-Ok.ensures.made c.with_width.result.width c.with_width.ensures.width)
