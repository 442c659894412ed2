-- That closed loops settle: from a turn on they lie in a small box.
use Rattle.std.specs.Prelude.{◌≡◌, ℕ, zero, suc, ◌+◌, ◌-◌, ◌<◌, ◌≤◌, ℤ, neg_ℤ, ◌≤ℤ◌, List, length, if◌then◌else◌, nat_eq, nat_lt}
use Rattle.std.specs.Int.{int_max, int_min}
use Rattle.integer_algebra.specs.Sums.{dot, at}
use Rattle.qp_model.specs.problem.Design.{Design}
use Rattle.qp_model.specs.machine.Controller.{Numbers}
use Rattle.qp_model.specs.machine.Machine.{IsAdmissible}
use Rattle.qp_model.specs.bounds.Built.{HasSizesOf}
use Rattle.qp_model.specs.bounds.Printed.{Printed}
use Rattle.qp_model.specs.bounds.Certified.{IsCertified}
use Rattle.stay_check.specs.LoopStay.{state_under, AreShiftsUpTo, IsKeptAt}
use Rattle.settle_check.specs.Still.{Box, box_of, LiesInBox, IsPartOf, IsStill}
use Rattle.settle_check.specs.ClosedRows.{IsLoopFor}
use Rattle.settle_check.specs.Tube.{tube, row_most}

-- a certificate: where loops start, where no multiplier moves, where loops settle; after how many turns from the start, and after how many again; how many turns
-- lead from where no multiplier moves to the rows of the cost, 0 where these aren't told
pub record Certificate : Type 0 where
  pub start : Box
  pub still : Box
  pub rest : Box
  pub turns : ℕ
  pub after : ℕ
  pub back : ℕ

-- ---- what it asks
-- from a box the loop lies in the box where no multiplier moves before a turn, and in the box of rest after it
pub record Leads (d : Design) (c : Numbers) (shifts : Box) (s : Certificate) (from : Box) (turns : ℕ) : Type 0 where
  pub through : (t : ℕ) → t < turns → IsPartOf d.states s.still (tube d c s.still shifts from t)
  pub to : IsPartOf d.states s.rest (tube d c s.still shifts from turns)

pub record Settles (d : Design) (c : Numbers) (shifts : Box) (s : Certificate) : Type 0 where
  pub inside : IsPartOf d.states (box_of c.low c.high) s.still
  pub still : IsStill c s.still
  pub some : 1 ≤ s.back
  pub there : Leads d c shifts s s.start s.turns
  pub again : Leads d c shifts s s.rest s.back

-- ---- what it promises
-- the least box that holds the boxes 0 .. k
abbrev pub hull : (ℕ → Box) → ℕ → Box
hull boxes zero = boxes 0
hull boxes (suc k) = record {
  low = λ i. int_min ((hull boxes k).low i) ((boxes (suc k)).low i);
  high = λ i. int_max ((hull boxes k).high i) ((boxes (suc k)).high i);
}

-- the box of rest, and where loops from it lie before they are there again: S+
abbrev pub settled_box : Design → Numbers → (shifts : Box) → Certificate → Box
settled_box d c shifts s = hull (tube d c s.still shifts s.rest) (s.back - 1)

-- ---- the rows of the cost, which are to be small: as a temperature less its target
-- how many are told so many turns after states where no multiplier moves
abbrev pub told_rows : Design → (turns : ℕ) → ℕ
told_rows d turns = if nat_eq turns 0 then 0 else d.stage_costs + d.final_costs

-- row k, of the stages' costs and then of the last state's
abbrev pub cost_numbers : Design → ℕ → ℕ → ℤ
cost_numbers d k = if nat_lt k d.stage_costs then (d.stage_cost k).coefficient else (d.final_cost (k - d.stage_costs)).coefficient

-- where they lie so many turns after states in a box where no multiplier moves
abbrev pub cost_box : Design → Numbers → (z shifts : Box) → (turns : ℕ) → Box
cost_box d c z shifts turns = record {
  low = λ k. neg_ℤ (row_most d c z shifts z (λ j. neg_ℤ (cost_numbers d k j)) turns);
  high = λ k. row_most d c z shifts z (cost_numbers d k) turns;
}

pub record IsSettledAt (d : Design) (c : Numbers) (shifts : Box) (s : Certificate) (turn : ℕ) (xi : List ℤ) : Type 0 where
  pub admissible : IsAdmissible c xi
  pub inside : LiesInBox d.states s.still (at xi)
  pub settled : s.turns ≤ turn → LiesInBox d.states (settled_box d c shifts s) (at xi)
  pub costs : s.after ≤ turn → LiesInBox (told_rows d s.after) (cost_box d c s.still shifts s.after) (λ k. dot d.states (cost_numbers d k) (at xi))

-- at each turn of each loop from the start box, under each list of shifts between two lists
abbrev pub LoopsSettle : Design → Numbers → (shifts : Box) → Certificate → Type 0
LoopsSettle d c shifts s =
    (start : List ℤ) → length start ≡ d.states → LiesInBox d.states s.start (at start) → (disturbances : ℕ → ℕ → ℤ) (turns : ℕ) →
    AreShiftsUpTo d shifts.low shifts.high disturbances turns → IsSettledAt d c shifts s turns (state_under d c start disturbances turns)

abbrev pub SettlingLaw : Type 0
SettlingLaw = (d : Design) (c : Numbers) (shifts : Box) (s : Certificate) → IsLoopFor d c → Settles d c shifts s → LoopsSettle d c shifts s

-- Any whole row of the state, as temperature less target where the target is a held state: at each turn from a number of turns on it is at most what these turns
-- show from the box where no multiplier moves, which no such loop leaves. (The least is that of the row with its signs changed.)
abbrev pub RowSettlingLaw : Type 0
RowSettlingLaw = (d : Design) (c : Numbers) (shifts : Box) (s : Certificate) → IsLoopFor d c → IsStill c s.still → LoopsSettle d c shifts s →
    (start : List ℤ) → length start ≡ d.states → LiesInBox d.states s.start (at start) → (disturbances : ℕ → ℕ → ℤ) (turns : ℕ) →
    AreShiftsUpTo d shifts.low shifts.high disturbances turns → (row : ℕ → ℤ) (back : ℕ) → back ≤ turns →
    dot d.states row (at (state_under d c start disturbances turns)) ≤ℤ row_most d c s.still shifts s.still row back

-- where the controller is certified in the design's box with its bounds, it is so at the state of each of these turns
abbrev pub CertifiedSettlingLaw : Type 0
CertifiedSettlingLaw = (d : Design) (c : Numbers) (b : Printed) (shifts : Box) (s : Certificate) → HasSizesOf d c → IsCertified d c b → LoopsSettle d c shifts s →
    (start : List ℤ) → length start ≡ d.states → LiesInBox d.states s.start (at start) → (disturbances : ℕ → ℕ → ℤ) (turns : ℕ) →
    AreShiftsUpTo d shifts.low shifts.high disturbances turns → IsKeptAt d c b (state_under d c start disturbances turns)
