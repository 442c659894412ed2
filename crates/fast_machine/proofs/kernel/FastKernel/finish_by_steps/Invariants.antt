use Rattle.std.proofs.Common.{◌≡◌, ◌≤◌}
use Rattle.fast_machine.proofs.kernel.FastKernel.finish_by_steps.Given as goal

abbrev pub invariant-loop : goal.invariant-loop
invariant-loop l = record {
  self : l.self ≡ record l.fn.self { made = l.counter };
  end : l.end ≡ l.fn.self.controller.steps;
  within : l.counter ≤ l.end;
}
