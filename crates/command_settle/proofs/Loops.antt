-- A loop by the accelerated machine that begins where loops by the plain machine settle is one of them.
use Rattle.std.proofs.Common.{◌≡◌, ℕ, zero, suc, ℤ, ◌+ℤ◌, List, length, map, refl, ap, sym, subst, arith, ◌∙◌}
use Rattle.std.specs.List.{range_with_len}
use Rattle.integer_algebra.specs.Sums.{at}
use Rattle.qp_model.specs.problem.Design.{Design}
use Rattle.qp_model.specs.machine.Controller.{Numbers}
use Rattle.qp_model.specs.machine.Successor.{successor}
use Rattle.settle_check.specs.Still.{Box, LiesInBox, IsStill}
use Rattle.settle_check.specs.ClosedRows.{IsLoopFor}
use Rattle.settle_check.specs.Settling.{Certificate, IsSettledAt, LoopsSettle}
use Rattle.settle_check.specs.Stay.LoopStay.{shifted_successor, state_under, AreShiftsUpTo}
use Rattle.settle_check.proofs.FastStillLaws.{fast_next}
use Rattle.settle_check.proofs.TubeLaws.{state_long}
use Rattle.command_loop.specs.ClosedLoop.Looping.{looping_of_fast, successor_by, shifted_by, state_by}
use Rattle.command_loop.specs.ControllerFile.AnyText.{any_numbers}
use Rattle.command_loop.specs.ControllerFile.declared.any_controller.AnyController.{AnyController}
use Rattle.command_loop.specs.ControllerFile.declared.any_controller.AnyController.TheVariants.{Plain, Fast}
use Rattle.command_settle.specs.Loops.{LoopsSettleBy, LoopsSettleOf}

-- ---- one turn, from a state where no multiplier moves
same_successor : (d : Design) (c : Numbers) (z : Box) → IsLoopFor d c → IsStill c z → (xi : List ℤ) → length xi ≡ d.states → LiesInBox d.states z (at xi) →
    successor_by d (looping_of_fast c) xi ≡ successor d c xi
same_successor d c z loop still xi long inside = λ t. map (λ i. fast_next d c z loop still xi long inside i t) (range_with_len 0 d.states)

same_shifted : (d : Design) (c : Numbers) (xi : List ℤ) (shift : ℕ → ℤ) → successor_by d (looping_of_fast c) xi ≡ successor d c xi →
    shifted_by d (looping_of_fast c) xi shift ≡ shifted_successor d c xi shift
same_shifted d c xi shift same = ap (λ (y : List ℤ). map (λ i. at y i +ℤ shift i) (range_with_len 0 d.states)) same

-- ---- all turns
module _ (d : Design) (c : Numbers) (shifts : Box) (s : Certificate) (loop : IsLoopFor d c) (still : IsStill c s.still) (settles : LoopsSettle d c shifts s) where
  same_state : (start : List ℤ) → length start ≡ d.states → LiesInBox d.states s.start (at start) → (w : ℕ → ℕ → ℤ) (turns : ℕ) →
      AreShiftsUpTo d shifts.low shifts.high w turns → state_by d (looping_of_fast c) start w turns ≡ state_under d c start w turns
  unfolding state_by state_under
  same_state start long lies w zero within = refl
  same_state start long lies w (suc k) within =
      let before : AreShiftsUpTo d shifts.low shifts.high w k = λ j l. within j (omega (arith, l)) in
      let xi = state_under d c start w k in
      ap (λ (x : List ℤ). shifted_by d (looping_of_fast c) x (w k)) (same_state start long lies w k before)
      ∙ same_shifted d c xi (w k) (same_successor d c s.still loop still xi (state_long d c start w k long) (settles start long lies w k before).inside)

  fast_settle : LoopsSettleBy d (looping_of_fast c) shifts s
  fast_settle start long lies w turns within =
      subst (λ (x : List ℤ). IsSettledAt d c shifts s turns x) (sym (same_state start long lies w turns within)) (settles start long lies w turns within)

-- of a controller of either machine
pub any_settle : (d : Design) (k : AnyController) (shifts : Box) (s : Certificate) → IsLoopFor d (any_numbers k) → IsStill (any_numbers k) s.still →
    LoopsSettle d (any_numbers k) shifts s → LoopsSettleOf d k shifts s
any_settle d (Plain c) shifts s loop still settles = settles
any_settle d (Fast c) shifts s loop still settles = fast_settle d c shifts s loop still settles
