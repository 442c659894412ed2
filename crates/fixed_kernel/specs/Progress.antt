-- A kernel as its controller, the grid state that it runs from and the number of steps made.
use Rattle.std.specs.Prelude.{◌≡◌, ℕ, ◌-◌, ◌^◌, ◌≤◌, ℤ, List, map, IsTrue, IfSome}
use Rattle.integer_algebra.specs.Division.{floor_of}
use Rattle.qp_model.specs.machine.Controller.{Numbers}
use Rattle.qp_model.specs.machine.Machine.{Iterate, IsAdmissible, loaded, after}
use Rattle.qp_model.specs.machine.AbsoluteSums.{IsController}
use Rattle.word_region.specs.Words.{RegionWords}
use Rattle.fixed_kernel.specs.Factors.{HasNarrowFactors}
use Rattle.fixed_kernel.specs.Raised.{with_raised}
use Rattle.fixed_kernel.specs.WordMachine.{IsMachineOf}
use Rattle.fixed_kernel.specs.Spans.{words_of, spans_of, state_in}
use Rattle.fixed_kernel.specs.declared.kernel.Kernel.TheInside.{Inside}

-- the state is in whole numbers over 2^grid_bits
pub record Progress : Type 0 where
  pub controller : Numbers
  pub state : List ℤ
  pub made : ℕ

-- the plan, the multipliers and the sums after so many steps
abbrev pub iterate_of : Progress → Iterate
iterate_of k = after k.controller (loaded k.controller k.state) k.made

-- the grid state of a state over 2^fraction_bits
abbrev pub unloaded : Numbers → List ℤ → List ℤ
unloaded c xs = map (λ x. floor_of x (2 ^ (c.fraction_bits - c.grid_bits))) xs

-- the region's words, all of which are in use: the multipliers are raised to over 2^(fraction_bits + step_exponent)
abbrev pub region_of : Progress → RegionWords
region_of k = record { words = words_of (loaded k.controller k.state) (with_raised k.controller (iterate_of k)); used = k.controller.words }

abbrev pub progress_of : Inside → Progress
progress_of k = record { controller = k.controller.now; state = unloaded k.controller.now (state_in k.controller.now k.region.words); made = k.made }

-- the rule of a kernel: its state is that of a grid state of the box, its region's words are the machine's after the steps made, its spans are the four,
-- its factors are narrow where it says so, and what it makes runs in words of 64 bits with is its controller's
pub record IsReached (k : Inside) : Type 0 where
  pub sound : IsController k.controller.now
  pub made : k.made ≤ k.controller.now.steps
  pub grid : IsAdmissible k.controller.now (progress_of k).state
  pub region : k.region ≡ region_of (progress_of k)
  pub spans : k.spans ≡ spans_of k.controller.now
  pub narrow : IsTrue k.narrow → HasNarrowFactors k.controller.now
  pub words : IfSome k.words (IsMachineOf k.controller.now)
