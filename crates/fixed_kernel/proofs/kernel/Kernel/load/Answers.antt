use Rattle.fixed_kernel.proofs.States.{not_inside}
use Rattle.fixed_kernel.proofs.kernel.Kernel.load.Goals as goal

pub returns-in-Some-clause-inside : goal.returns-in-Some-clause-inside
returns-in-Some-clause-inside c = (λ ok. cc, λ inside. absurd (not_inside _ _ _ c.in-Some.ensures inside))
