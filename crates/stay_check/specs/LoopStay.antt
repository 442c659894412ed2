-- That a closed loop stays in the box for every number of turns.
use Rattle.std.specs.Prelude.{◌≡◌, ℕ, zero, suc, ◌<◌, ℤ, ◌+ℤ◌, ◌≤ℤ◌, List, map}
use Rattle.std.specs.List.{range_with_len}
use Rattle.integer_algebra.specs.Sums.{at, none}
use Rattle.qp_model.specs.problem.Design.{Design, rows}
use Rattle.qp_model.specs.problem.Parts.{design_of, IsDesign}
use Rattle.qp_model.specs.declared.design_parts.DesignParts.{DesignParts}
use Rattle.qp_model.specs.machine.Controller.{Numbers}
use Rattle.qp_model.specs.machine.AbsoluteSums.{IsController}
use Rattle.qp_model.specs.bounds.Built.{HasSizesOf}
use Rattle.qp_model.specs.machine.Machine.{IsAdmissible}
use Rattle.qp_model.specs.bounds.Printed.{Printed}
use Rattle.qp_model.specs.bounds.Certified.{IsCertified, IsCertifiedAt}
use Rattle.qp_model.specs.machine.Successor.{successor, state_after}
use Rattle.stay_check.specs.Staying.{AreShifts, KeepsInBox}

-- no printed violation of a row is above its number of excess
abbrev pub CoversPrinted : Design → Printed → (excess : ℕ → ℤ) → Type 0
CoversPrinted d b excess = (i : ℕ) → i < rows d → at b.row_violations i ≤ℤ excess i

-- ---- a loop under disturbances
-- the next state, shifted by whole numbers over 2^grid
abbrev pub shifted_successor : Design → Numbers → List ℤ → (shift : ℕ → ℤ) → List ℤ
shifted_successor d c xi shift = map (λ i. at (successor d c xi) i +ℤ shift i) (range_with_len 0 d.states)

-- the state after so many turns from a start; after turn k, from 0, the state is shifted by `shifts k`
unfoldable pub state_under : Design → Numbers → List ℤ → (shifts : ℕ → ℕ → ℤ) → ℕ → List ℤ
state_under d c start shifts zero = start
state_under d c start shifts (suc k) = shifted_successor d c (state_under d c start shifts k) (shifts k)

-- the shifts of the first turns lie between two lists
abbrev pub AreShiftsUpTo : Design → (low high : ℕ → ℤ) → (shifts : ℕ → ℕ → ℤ) → ℕ → Type 0
AreShiftsUpTo d low high shifts turns = (k : ℕ) → k < turns → AreShifts d low high (shifts k)

-- ---- what holds at every turn
-- the state lies in the box, and there the controller is certified
pub record IsKeptAt (d : Design) (c : Numbers) (b : Printed) (xi : List ℤ) : Type 0 where
  pub inside : IsAdmissible c xi
  pub certified : IsCertifiedAt d c b xi

-- where a plan that exceeds no first row by more than its excess leads to a state of the box with any shift between two lists, the loop of a certified
-- controller stays in the box under every list of such shifts, and there the controller is certified
abbrev pub LoopUnderLaw : Type 0
LoopUnderLaw = (p : DesignParts) (c : Numbers) (b : Printed) (excess low high : ℕ → ℤ) → IsDesign p → IsController c → HasSizesOf (design_of p) c →
    IsCertified (design_of p) c b → CoversPrinted (design_of p) b excess → KeepsInBox (design_of p) excess low high →
    (start : List ℤ) → IsAdmissible c start → (shifts : ℕ → ℕ → ℤ) → (turns : ℕ) → AreShiftsUpTo (design_of p) low high shifts turns →
    IsKeptAt (design_of p) c b (state_under (design_of p) c start shifts turns)

-- the same without shifts
abbrev pub LoopStayLaw : Type 0
LoopStayLaw = (p : DesignParts) (c : Numbers) (b : Printed) (excess : ℕ → ℤ) → IsDesign p → IsController c → HasSizesOf (design_of p) c →
    IsCertified (design_of p) c b → CoversPrinted (design_of p) b excess → KeepsInBox (design_of p) excess none none →
    (start : List ℤ) → IsAdmissible c start → (turns : ℕ) → IsKeptAt (design_of p) c b (state_after (design_of p) c start turns)

-- a loop whose shifts are all 0 is the loop without
abbrev pub UnshiftedLaw : Type 0
UnshiftedLaw = (d : Design) (c : Numbers) (start : List ℤ) (turns : ℕ) → state_under d c start (λ k. none) turns ≡ state_after d c start turns
