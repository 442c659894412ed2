-- A closed loop under disturbances: after each turn the state is shifted by a row of whole numbers over 2^grid.
use Rattle.std.specs.Prelude.{ℕ, ◌^◌, ◌<◌, ℤ, List, unsigned_abs}
use Rattle.integer_algebra.specs.Sums.{none}
use Rattle.mat_int.specs.Matrix.{Matrix, entry_of}
use Rattle.qp_model.specs.problem.Design.{Design}
use Rattle.qp_model.specs.machine.Controller.{Numbers}
use Rattle.stay_check.specs.LoopStay.{state_under}
use Rattle.closed_loop.specs.Looping.{Looping, looping_of_plain, state_by, lines_of}

-- each shift is below 2^31 in absolute value
abbrev pub AreSmallShifts : Matrix → Type 0
AreSmallShifts shifts = (k i : ℕ) → unsigned_abs (entry_of shifts k i) < 2 ^ 31

-- ---- by any machine
-- the states of the loop from a start, where row k is added after turn k, from 0, and nothing after the last row
abbrev pub states_by : Design → Looping → (start : List ℤ) → (shifts : Matrix) → ℕ → List ℤ
states_by d l start shifts = state_by d l start (entry_of shifts)

-- and its lines
abbrev pub lines_by : Design → Looping → (entry : ℕ) → (start : List ℤ) → (shifts : Matrix) → ℕ → List ℕ
lines_by d l entry start shifts = lines_of l entry (states_by d l start shifts)

-- the same where nothing is added after any turn
abbrev pub unshifted_by : Design → Looping → (start : List ℤ) → ℕ → List ℤ
unshifted_by d l start = state_by d l start (λ k. none)

abbrev pub unshifted_lines_by : Design → Looping → (entry : ℕ) → (start : List ℤ) → ℕ → List ℕ
unshifted_lines_by d l entry start = lines_of l entry (unshifted_by d l start)

-- ---- by the plain machine
abbrev pub states_under : Design → Numbers → (start : List ℤ) → (shifts : Matrix) → ℕ → List ℤ
states_under d c start shifts = state_under d c start (entry_of shifts)

abbrev pub lines_under : Design → Numbers → (entry : ℕ) → (start : List ℤ) → (shifts : Matrix) → ℕ → List ℕ
lines_under d c entry start shifts = lines_of (looping_of_plain c) entry (states_under d c start shifts)
