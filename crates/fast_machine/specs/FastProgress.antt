-- A kernel of the accelerated machine as its controller, the state that it runs from and the number of steps made.
use Rattle.std.specs.Prelude.{◌≡◌, ℕ, ◌≤◌, ℤ, List, IfSome}
use Rattle.qp_model.specs.machine.Controller.{Numbers, numbers}
use Rattle.qp_model.specs.machine.AbsoluteSums.{state_magnitudes}
use Rattle.qp_model.specs.machine.Within.{AreWithin}
use Rattle.overflow_check.specs.FastMachine.{FastIterate, fast_after}
use Rattle.overflow_check.specs.FastController.{IsFastController}
use Rattle.fast_machine.specs.FastWords.{IsFastMachineOf}
use Rattle.fast_machine.specs.declared.kernel.FastKernel.TheInside.{Inside}

-- the state is over 2^fraction_bits
pub record FastProgress : Type 0 where
  pub controller : Numbers
  pub state : List ℤ
  pub made : ℕ

-- what the machine has made after so many steps
abbrev pub fast_made_of : FastProgress → FastIterate
fast_made_of k = fast_after k.controller k.state k.made

abbrev pub fast_progress_of : Inside → FastProgress
fast_progress_of k = record { controller = numbers k.parts.now; state = k.state.items; made = k.made }

-- what the kernel's lists hold
abbrev pub fast_held_in : Inside → FastIterate
fast_held_in k = record {
  means = k.means.items;
  plan = k.plan.items;
  multipliers = k.multipliers.items;
  reached = k.reached.items;
  sums = k.sums.items;
}

-- the rule of a kernel: its lists are the machine's after the steps made from a state within its magnitudes, and what it makes runs in words of 64 bits with is its
-- controller's
pub record IsFastReached (k : Inside) : Type 0 where
  pub sound : IsFastController (numbers k.parts.now)
  pub within : AreWithin k.state.items (state_magnitudes (numbers k.parts.now))
  pub made : k.made ≤ (numbers k.parts.now).steps
  pub held : fast_held_in k ≡ fast_made_of (fast_progress_of k)
  pub words : IfSome k.words (IsFastMachineOf (numbers k.parts.now))
