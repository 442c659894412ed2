-- A loop by the plain machine is that of its successors.
use Rattle.std.proofs.Common.{◌≡◌, ℕ, zero, suc, ◌+◌, ℤ, ◌++◌, List, refl, ap, ◌∙◌}
use Rattle.integer_algebra.specs.Sums.{none}
use Rattle.qp_model.specs.problem.Design.{Design}
use Rattle.qp_model.specs.machine.Controller.{Numbers}
use Rattle.qp_model.specs.machine.Successor.{state_after}
use Rattle.qp_model.specs.text.LoopLines.{loop_line, loop_text}
use Rattle.stay_check.specs.LoopStay.{shifted_successor, state_under}
use Rattle.stay_check.proofs.LoopLaws.{unshifted}
use Rattle.closed_loop.specs.Looping.{looping_of_plain, state_by, lines_of}

-- states turn by turn
pub plain_state : (d : Design) (c : Numbers) (start : List ℤ) (shifts : ℕ → ℕ → ℤ) (k : ℕ) → state_by d (looping_of_plain c) start shifts k ≡ state_under d c start shifts k
unfolding state_by state_under
plain_state d c start shifts zero = refl
plain_state d c start shifts (suc k) = ap (λ (xi : List ℤ). shifted_successor d c xi (shifts k)) (plain_state d c start shifts k)

pub plain_states : (d : Design) (c : Numbers) (start : List ℤ) (shifts : ℕ → ℕ → ℤ) → state_by d (looping_of_plain c) start shifts ≡ state_under d c start shifts
plain_states d c start shifts = λ t k. plain_state d c start shifts k t

-- those without shifts
pub plain_after : (d : Design) (c : Numbers) (start : List ℤ) → state_by d (looping_of_plain c) start (λ k. none) ≡ state_after d c start
plain_after d c start = plain_states d c start (λ k. none) ∙ (λ t k. unshifted d c start k t)

-- and their lines
text_line : (d : Design) (c : Numbers) (entry : ℕ) (start : List ℤ) (k : ℕ) → lines_of (looping_of_plain c) entry (state_after d c start) k ≡ loop_text d c entry start k
unfolding lines_of loop_text
text_line d c entry start zero = refl
text_line d c entry start (suc k) = ap (λ (t : List ℕ). t ++ loop_line c entry (k + 1) (state_after d c start k)) (text_line d c entry start k)

pub plain_text : (d : Design) (c : Numbers) (entry : ℕ) (start : List ℤ) → lines_of (looping_of_plain c) entry (state_by d (looping_of_plain c) start (λ k. none)) ≡ loop_text d c entry start
plain_text d c entry start = ap (lines_of (looping_of_plain c) entry) (plain_after d c start) ∙ (λ t k. text_line d c entry start k t)
