use Rattle.std.proofs.Common.{◌≡◌, ◌∙◌, subst}
use Rattle.qp_model.specs.machine.Controller.{Numbers, numbers}
use Rattle.overflow_check.specs.FastController.{IsFastController}
use Rattle.overflow_check.specs.Machines.{IsControllerFor}
use Rattle.overflow_check.specs.declared.machine.Machine.{Machine}
use Rattle.overflow_check.specs.declared.machine.Machine.TheVariants.{Accelerated}
use Rattle.overflow_check.proofs.Machines.{as_last}
use Rattle.c_writer.proofs.measuring.measured.Goals as goal

fast_there : (m : Machine) (n : Numbers) → IsControllerFor m n → m ≡ Accelerated → IsFastController n
fast_there m n h is = subst (λ (k : Machine). IsControllerFor k n) is h

pub invariant_of-result : goal.invariant_of-result
invariant_of-result c = record {
  parts = c.is_parted.ensures;
  fast = fast_there c.args.machine (numbers c.args.c.now) c.requires.controller;
  sound = as_last c.args.machine (numbers c.args.c.now) c.requires.controller;
  state_tops = c.deref.ensures.value ∙ c.requires.lists.states;
  plan_tops = c.deref-2.ensures.value ∙ c.requires.lists.plan;
  opposites = c.deref-3.ensures.value ∙ c.requires.lists.partners;
}
