use Rattle.std.proofs.Common.{ap, ◌∙◌}
use Rattle.fixed_kernel.specs.Progress.{Progress}
use Rattle.fixed_kernel.proofs.States.{sized_box, told_outside}
use Rattle.fixed_kernel.proofs.kernel.Kernel.first_outside.Goals as goal

pub first_outside-requires-clause-boxed : goal.first_outside-requires-clause-boxed
first_outside-requires-clause-boxed c = sized_box _ c.parts.ensures.sound.form.sized

pub returns : goal.returns
returns c = told_outside _ _ c.args.state.now (c.parts.ensures.value ∙ ap (λ (p : Progress). p.controller) c.self.view_is) c.first_outside.result c.first_outside.ensures.inside c.first_outside.ensures.first
