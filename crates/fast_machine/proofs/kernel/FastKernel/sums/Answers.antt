use Rattle.std.proofs.Common.{ap, ◌∙◌}
use Rattle.overflow_check.specs.FastMachine.{FastIterate}
use Rattle.fast_machine.specs.FastProgress.{FastProgress, fast_made_of}
use Rattle.fast_machine.proofs.kernel.FastKernel.sums.Goals as goal

pub returns : goal.returns
returns c =
    c.deref.ensures.value ∙ ap (λ (m : FastIterate). m.sums) c.self.invariant.held ∙ ap (λ (p : FastProgress). (fast_made_of p).sums) c.self.view_is
