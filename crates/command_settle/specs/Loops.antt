-- That loops settle by the machine of a controller.
use Rattle.std.specs.Prelude.{◌≡◌, ℕ, ℤ, List, length}
use Rattle.integer_algebra.specs.Sums.{at}
use Rattle.qp_model.specs.problem.Design.{Design}
use Rattle.settle_check.specs.Still.{Box, LiesInBox}
use Rattle.settle_check.specs.Settling.{Certificate, IsSettledAt, LoopsSettle}
use Rattle.settle_check.specs.Stay.LoopStay.{AreShiftsUpTo}
use Rattle.command_loop.specs.ClosedLoop.Looping.{Looping, looping_of_fast, state_by}
use Rattle.command_loop.specs.ControllerFile.declared.any_controller.AnyController.{AnyController}
use Rattle.command_loop.specs.ControllerFile.declared.any_controller.AnyController.TheVariants.{Plain, Fast}

-- at each turn of each loop from the start box, under each list of shifts between two lists, by what of a machine's runs goes into the loop
abbrev pub LoopsSettleBy : Design → Looping → (shifts : Box) → Certificate → Type 0
LoopsSettleBy d l shifts s =
    (start : List ℤ) → length start ≡ d.states → LiesInBox d.states s.start (at start) → (disturbances : ℕ → ℕ → ℤ) (turns : ℕ) →
    AreShiftsUpTo d shifts.low shifts.high disturbances turns → IsSettledAt d l.controller shifts s turns (state_by d l start disturbances turns)

-- of a controller of either machine
abbrev pub LoopsSettleOf : Design → AnyController → (shifts : Box) → Certificate → Type 0
LoopsSettleOf d (Plain c) = LoopsSettle d c
LoopsSettleOf d (Fast c) = LoopsSettleBy d (looping_of_fast c)
