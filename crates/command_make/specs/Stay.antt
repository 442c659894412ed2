-- Faces by which closed loops are known to stay in the box, what they call for, and what `stay` leaves in the store.
use Rattle.std.specs.Prelude.{◌≡◌, ◌⊎◌, ℕ, Bool, true, false, ℤ, List}
use Rattle.io_edge.specs.Faults.{Files}
use Rattle.integer_algebra.specs.Sums.{at}
use Rattle.mat_int.specs.Matrix.{Matrix, row_of, zero_matrix}
use Rattle.qp_model.specs.problem.Design.{Design}
use Rattle.qp_model.specs.problem.Parts.{design_of}
use Rattle.qp_model.specs.machine.Controller.{Numbers}
use Rattle.qp_model.specs.machine.Machine.{IsAdmissible}
use Rattle.qp_model.specs.machine.Successor.{state_after}
use Rattle.qp_model.specs.bounds.Printed.{Printed}
use Rattle.qp_model.specs.declared.design_parts.DesignParts.{DesignParts}
use Rattle.closed_loop.specs.Looping.{looping_of_fast, state_by}
use Rattle.closed_loop.specs.Under.{unshifted_by}
use Rattle.fast_bounds.specs.FastCertified.{IsFastCertifiedAt}
use Rattle.stay_check.specs.FaceForms.{FaceNumbers}
use Rattle.stay_check.specs.Answers.{IsStayFault, Stays}
use Rattle.stay_check.specs.LoopStay.{state_under, AreShiftsUpTo, IsKeptAt}
use Rattle.stay_check.specs.declared.fault.StayFault.{StayFault}
use Rattle.stay_check.specs.declared.fault.StayFault.TheVariants as faults
use Rattle.command_line.specs.Words.{word_of}
use Rattle.command_line.specs.Limit.{file_limit}
use Rattle.command_line.specs.Answers.{FileHolds}
use Rattle.command_line.specs.declared.status.Status.{Status}
use Rattle.command_line.specs.declared.status.Status.TheVariants.{Done, Refused, Unequal, NoStay}
use Rattle.qp_model.specs.declared.refusal.Refusal.TheVariants.{TooWide}
use Rattle.command_files.specs.Texts.{RangeRight}
use Rattle.command_generate.specs.Generate.{IsGenerated}

-- ---- the answer
-- the status that tells of a fault of the faces
abbrev pub stay_status : StayFault → Status
stay_status (faults.TooWide quantity) = Refused (TooWide quantity)
stay_status (faults.Unequal entry input left right) = Unequal entry input left right
stay_status (faults.NoStay entry bound) = NoStay entry bound

-- what faces call for, where each row is exceeded by at most its number over 2^40 and the state is shifted within a range: its least and its greatest
abbrev pub FacesCall : Design → (excess : ℕ → ℤ) → FaceNumbers → (range : Matrix) → Status → Type 0
FacesCall d excess faces range s =
    ((s ≡ Done) × Stays d excess (at (row_of range 0)) (at (row_of range 1)) faces) ⊎
    ((fault : StayFault) × IsStayFault d excess (at (row_of range 0)) (at (row_of range 1)) faces fault × (s ≡ stay_status fault))

-- what is called for where a controller is refused, or has these numbers of all rows and is answered by the faces
abbrev pub FacedCalls : (Refuses : Status → Type 0) → (AreStated : List ℤ → Type 0) → Design → FaceNumbers → (range : Matrix) → Status → Type 0
FacedCalls Refuses AreStated d faces range s = Refuses s ⊎ ((excess : List ℤ) × AreStated excess × FacesCall d (at excess) faces range s)

-- the range of no shifts of n coordinates
abbrev pub no_shifts : ℕ → Matrix
no_shifts n = zero_matrix 2 n

-- ---- what is written
-- the range of the shifts: that which the name at this position holds where there are disturbances, and else no shifts
abbrev pub IsRangeIn : (disturbed : Bool) → (file : ℕ) → (words : List (List ℕ)) → Files → (n : ℕ) → (range : Matrix) → Type 0
IsRangeIn true file words files n range = FileHolds file_limit (RangeRight n range) (files (word_of words file))
IsRangeIn false file words files n range = range ≡ no_shifts n

-- the closed loop from every state of the box, for every number of turns, under every list of shifts within the range: this holds of its states
abbrev pub KeepsLoopsBy : DesignParts → Numbers → (states : List ℤ → (ℕ → ℕ → ℤ) → ℕ → List ℤ) → (Kept : List ℤ → Type 0) → (range : Matrix) → Type 0
KeepsLoopsBy p c states Kept range =
    (start : List ℤ) → IsAdmissible c start → (shifts : ℕ → ℕ → ℤ) → (turns : ℕ) → AreShiftsUpTo (design_of p) (at (row_of range 0)) (at (row_of range 1)) shifts turns →
    Kept (states start shifts turns)

-- they lie in the box, and at each the controller is certified
abbrev pub KeepsLoops : DesignParts → Numbers → Printed → (range : Matrix) → Type 0
KeepsLoops p c b = KeepsLoopsBy p c (state_under (design_of p) c) (IsKeptAt (design_of p) c b)

-- the closed loop of a controller stays in the box, under all shifts of the range that the name at this position holds; without disturbances, as `loop` runs it
pub record LoopsStayBy (disturbed : Bool) (file : ℕ) (words : List (List ℕ)) (files : Files) (p : DesignParts) (c : Numbers)
    (states : List ℤ → (ℕ → ℕ → ℤ) → ℕ → List ℤ) (alone : List ℤ → ℕ → List ℤ) (Kept : List ℤ → Type 0) : Type 0 where
  pub range : Matrix
  pub is_range : IsRangeIn disturbed file words files (design_of p).states range
  pub stays : KeepsLoopsBy p c states Kept range
  pub undisturbed : disturbed ≡ false → (start : List ℤ) → IsAdmissible c start → (turns : ℕ) → Kept (alone start turns)

abbrev pub LoopsStay : (disturbed : Bool) (file : ℕ) (words : List (List ℕ)) (files : Files) (p : DesignParts) (c : Numbers) (b : Printed) → Type 0
LoopsStay disturbed file words files p c b =
    LoopsStayBy disturbed file words files p c (state_under (design_of p) c) (state_after (design_of p) c) (IsKeptAt (design_of p) c b)

-- ---- of the accelerated machine
-- the state lies in the box, and there the controller is certified
pub record IsFastKeptAt (d : Design) (c : Numbers) (b : Printed) (xi : List ℤ) : Type 0 where
  pub inside : IsAdmissible c xi
  pub certified : IsFastCertifiedAt d c b xi

abbrev pub KeepsFastLoops : DesignParts → Numbers → Printed → (range : Matrix) → Type 0
KeepsFastLoops p c b = KeepsLoopsBy p c (state_by (design_of p) (looping_of_fast c)) (IsFastKeptAt (design_of p) c b)

abbrev pub FastLoopsStay : (disturbed : Bool) (file : ℕ) (words : List (List ℕ)) (files : Files) (p : DesignParts) (c : Numbers) (b : Printed) → Type 0
FastLoopsStay disturbed file words files p c b =
    LoopsStayBy disturbed file words files p c (state_by (design_of p) (looping_of_fast c)) (unshifted_by (design_of p) (looping_of_fast c)) (IsFastKeptAt (design_of p) c b)

-- ---- by the machine of what is made
abbrev pub KeepsLoopsOf : DesignParts → (fast : Bool) → Numbers → Printed → (range : Matrix) → Type 0
KeepsLoopsOf p false = KeepsLoops p
KeepsLoopsOf p true = KeepsFastLoops p

-- The third name holds the text of a controller and the fourth the report of its bounds, as `generate` leaves them: made of the design and the policy in
-- the first two, and certified. And its closed loop stays in the box.
pub record IsStayed (disturbed : Bool) (words : List (List ℕ)) (files new : Files) : Type 0 where
  pub generated : IsGenerated words files new
  pub loops : LoopsStay disturbed 6 words files generated.made.p generated.controller generated.bounds
