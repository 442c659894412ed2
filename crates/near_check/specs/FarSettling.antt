-- That closed loops settle that begin where limits bind: for the first turns they lie in an outer box, and from then on where no multiplier moves.
use Rattle.std.specs.Prelude.{◌≡◌, ℕ, ◌+◌, ◌<◌, ◌≤◌, ℤ, List, length}
use Rattle.integer_algebra.specs.Sums.{dot, at}
use Rattle.qp_model.specs.problem.Design.{Design}
use Rattle.qp_model.specs.problem.Parts.{design_of}
use Rattle.qp_model.specs.problem.Policy.{Plans}
use Rattle.qp_model.specs.form.Form.{Form}
use Rattle.qp_model.specs.machine.Controller.{Numbers}
use Rattle.qp_model.specs.machine.Machine.{IsAdmissible}
use Rattle.qp_model.specs.bounds.Printed.{Printed}
use Rattle.qp_model.specs.declared.design_parts.DesignParts.{DesignParts}
use Rattle.stay_check.specs.LoopStay.{state_under, AreShiftsUpTo, IsKeptAt}
use Rattle.settle_check.specs.Still.{Box, box_of, LiesInBox, IsPartOf, IsStill}
use Rattle.settle_check.specs.ClosedRows.{IsLoopFor}
use Rattle.settle_check.specs.Settling.{Certificate, Leads, settled_box, told_rows, cost_numbers, cost_box}
use Rattle.near_check.specs.Near.{IsNearBy}
use Rattle.near_check.specs.FarTube.{FirstTurns, AreNear, box_at, far_tube}

-- ---- what a certificate with first turns asks
-- from the start box the loop lies before each turn in its box, and after the last in the box of rest; from there all is as without first turns
pub record FarSettles (d : Design) (c : Numbers) (shifts : Box) (s : Certificate) (g : FirstTurns) : Type 0 where
  pub outer : IsPartOf d.states (box_of c.low c.high) g.outer
  pub inside : IsPartOf d.states (box_of c.low c.high) s.still
  pub still : IsStill c s.still
  pub some : 1 ≤ s.back
  pub through : (t : ℕ) → t < s.turns → IsPartOf d.states (box_at g s.still t) (far_tube d c s.still shifts s.start g t)
  pub to : IsPartOf d.states s.rest (far_tube d c s.still shifts s.start g s.turns)
  pub again : Leads d c shifts s s.rest s.back

-- ---- what it promises
-- of the state of a turn
pub record IsFarSettledAt (d : Design) (c : Numbers) (shifts : Box) (s : Certificate) (g : FirstTurns) (turn : ℕ) (xi : List ℤ) : Type 0 where
  pub admissible : IsAdmissible c xi
  pub inside : g.count ≤ turn → LiesInBox d.states s.still (at xi)
  pub settled : s.turns ≤ turn → LiesInBox d.states (settled_box d c shifts s) (at xi)
  pub costs : g.count + s.after ≤ turn → LiesInBox (told_rows d s.after) (cost_box d c s.still shifts s.after) (λ k. dot d.states (cost_numbers d k) (at xi))

abbrev pub FarSettlingLaw : Type 0
FarSettlingLaw = (d : Design) (c : Numbers) (shifts : Box) (s : Certificate) (g : FirstTurns) → IsLoopFor d c → AreNear d c g → FarSettles d c shifts s g →
    (start : List ℤ) → length start ≡ d.states → LiesInBox d.states s.start (at start) → (disturbances : ℕ → ℕ → ℤ) (turns : ℕ) →
    AreShiftsUpTo d shifts.low shifts.high disturbances turns → IsFarSettledAt d c shifts s g turns (state_under d c start disturbances turns)

-- so it does of a certified controller with distances that a policy's excess shows, and the controller is certified at the state of each turn
pub record IsFarKeptAt (d : Design) (c : Numbers) (b : Printed) (shifts : Box) (s : Certificate) (g : FirstTurns) (turn : ℕ) (xi : List ℤ) : Type 0 where
  pub settled : IsFarSettledAt d c shifts s g turn xi
  pub kept : IsKeptAt d c b xi

abbrev pub CertifiedFarLaw : Type 0
CertifiedFarLaw = (p : DesignParts) (h : Form) (r : ℕ) (c : Numbers) (b : Printed) (plans : Plans) (units : ℤ) (excess : ℕ) →
    (shifts : Box) (s : Certificate) (g : FirstTurns) →
    IsNearBy p h r c b plans units excess g.distance → FarSettles (design_of p) c shifts s g →
    (start : List ℤ) → length start ≡ (design_of p).states → LiesInBox (design_of p).states s.start (at start) → (disturbances : ℕ → ℕ → ℤ) (turns : ℕ) →
    AreShiftsUpTo (design_of p) shifts.low shifts.high disturbances turns →
    IsFarKeptAt (design_of p) c b shifts s g turns (state_under (design_of p) c start disturbances turns)
