-- What `settle` does with its files.
use Rattle.std.specs.Prelude.{◌≡◌, ◌≢◌, ◌⊎◌, Bool, true, false, List, ℕ, ◌++◌, Option}
use Rattle.io_edge.specs.Faults.{GrowsByPart}
use Rattle.mat_int.specs.Matrix.{Matrix, row_of}
use Rattle.qp_model.specs.problem.Design.{Design}
use Rattle.qp_model.specs.problem.Parts.{design_of}
use Rattle.qp_model.specs.machine.Controller.{Numbers}
use Rattle.qp_model.specs.machine.Successor.{IsFor}
use Rattle.qp_model.specs.declared.quantity.Quantity.TheVariants as quantities
use Rattle.qp_model.specs.declared.refusal.Refusal.TheVariants.{TooWide}
use Rattle.settle_check.specs.Still.{Box, box_of, IsPartOf}
use Rattle.settle_check.specs.Certificates.{state_box}
use Rattle.settle_check.specs.Settling.{settled_box, told_rows, cost_box}
use Rattle.settle_check.specs.Settles.{PassesSettling, IsSettleFault}
use Rattle.settle_check.specs.CertificateText.{CertificateNumbers, box_in, certificate_in}
use Rattle.settle_check.specs.declared.certificate.CertificateParts.{CertificateParts}
use Rattle.settle_check.specs.declared.fault.SettleFault.{SettleFault}
use Rattle.settle_check.specs.declared.fault.SettleFault.TheVariants as faults
use Rattle.command_line.specs.Limit.{file_limit}
use Rattle.command_line.specs.Answers.{Contents, FileHolds}
use Rattle.command_line.specs.Deeds.{Deeds}
use Rattle.command_line.specs.Script.{Act, Script, ends, reads, printing_act, Work, printing_work, deeds_of_work}
use Rattle.command_line.specs.declared.status.Status.{Status}
use Rattle.command_line.specs.declared.status.Status.TheVariants.{Done, Memory, WriteFault, Refused, Moves, Unsettled, NoReturn}
use Rattle.design_files.specs.declared.places.Asked.{Asked}
use Rattle.command_loop.specs.Plant.{plant_script}
use Rattle.command_loop.specs.ControllerFile.AnyText.{any_numbers}
use Rattle.command_loop.specs.ControllerFile.declared.any_controller.AnyController.{AnyController}
use Rattle.command_loop.specs.DesignFiles.Texts.{AskedRight}
use Rattle.command_loop.specs.CommandFiles.Texts.{AnyControllerRight}
use Rattle.command_loop.specs.CommandFiles.Reading.{range_kind}
use Rattle.command_settle.specs.CertificateFile.{CertificateRight, certificate_kind}
use Rattle.command_settle.specs.Disturbances.{no_disturbances, HoldsDisturbances}
use Rattle.command_settle.specs.SettledText.{settled_text}
use Rattle.command_settle.specs.Loops.{LoopsSettleOf}

-- ---- the answer
-- the status that tells why a certificate doesn't show that loops settle
abbrev pub settle_status : SettleFault → Status
settle_status faults.Memory = Memory
settle_status faults.TooWide = Refused (TooWide quantities.Settle)
settle_status (faults.Moves row left right) = Moves row left right
settle_status (faults.Unsettled turn coordinate bound) = Unsettled turn coordinate bound
settle_status (faults.NoReturn turn coordinate bound) = NoReturn turn coordinate bound

-- the shifts of a range: its least and its greatest
abbrev pub range_box : Matrix → Box
range_box range = box_of (row_of range 0) (row_of range 1)

-- what a certificate calls for, where the state is shifted within a range
abbrev pub CertificateCalls : Design → Numbers → CertificateNumbers → (range : Matrix) → Status → Type 0
CertificateCalls d c f range s =
    ((s ≡ Done) × PassesSettling d c (range_box range) (certificate_in f)) ⊎
    ((fault : SettleFault) × IsSettleFault d c (range_box range) (certificate_in f) fault × (s ≡ settle_status fault))

-- ---- what the files hold
-- the box of a controller's grid has in it the box of a certificate in which no multiplier moves
abbrev pub HasStillBoxIn : Numbers → CertificateParts → Type 0
HasStillBoxIn c p = IsPartOf c.states (box_of c.low c.high) (state_box p.still)

-- the first three: a design and a controller for it, both of any version, and a certificate
pub record HoldsCertificate (design controller certificate : Option (List ℕ)) (a : Asked) (k : AnyController) (f : CertificateNumbers) : Type 0 where
  pub design_right : FileHolds file_limit (AskedRight a) design
  pub controller_right : FileHolds file_limit (AnyControllerRight k) controller
  pub matched : IsFor (any_numbers k) (design_of a.design)
  pub certificate_right : FileHolds file_limit (CertificateRight (any_numbers k) f) certificate

-- what the files hold, and of it this
pub record OfCertificate (disturbed : Bool) (contents : Contents) (P : Design → AnyController → CertificateNumbers → (range : Matrix) → Type 0) : Type 0 where
  pub a : Asked
  pub k : AnyController
  pub f : CertificateNumbers
  pub range : Matrix
  pub holds : HoldsCertificate (contents 1) (contents 2) (contents 3) a k f
  pub shifts : HoldsDisturbances disturbed (any_numbers k).states (contents 4) range
  pub so : P (design_of a.design) k f range

-- ---- what is printed
-- the turn from which all loops lie in a box for good, and that box
abbrev pub told_box : Design → Numbers → CertificateNumbers → (range : Matrix) → Box
told_box d c f range = settled_box d c (range_box range) (certificate_in f)

-- and where the rows of the cost lie that the certificate tells
abbrev pub told_costs : Design → Numbers → CertificateNumbers → (range : Matrix) → Box
told_costs d c f range = cost_box d c (box_in f.still) (range_box range) f.after

abbrev pub told_text : Design → Numbers → CertificateNumbers → (range : Matrix) → List ℕ
told_text d c f range = settled_text f.turns d.states (told_box d c f range) f.after (told_rows d f.after) (told_costs d c f range)

-- Every closed loop of the plant and the controller from the start box, under every list of shifts of the range, lies at each turn in the box where no
-- multiplier moves, and from the printed turn on in the printed box; and what is printed of a row of the cost holds from the turn on that is printed with it.
pub record IsToldSettled (d : Design) (k : AnyController) (f : CertificateNumbers) (range : Matrix) (old new : List ℕ) : Type 0 where
  pub settles : LoopsSettleOf d k (range_box range) (certificate_in f)
  pub printed : new ≡ old ++ told_text d (any_numbers k) f range

-- what the output got, by the answer
pub record SettlingPrints (d : Design) (k : AnyController) (f : CertificateNumbers) (range : Matrix) (s : Status) (old new : List ℕ) : Type 0 where
  pub done : s ≡ Done → IsToldSettled d k f range old new
  pub fault : s ≡ WriteFault 0 → GrowsByPart old new (told_text d (any_numbers k) f range)
  pub other : s ≢ Done → s ≢ WriteFault 0 → new ≡ old

-- ---- the files, one after the other
abbrev pub settle_act : Design → AnyController → CertificateNumbers → (range : Matrix) → Act
settle_act d k f range =
    let c = any_numbers k in
    printing_act (CertificateCalls d c f range) (PassesSettling d c (range_box range) (certificate_in f)) (SettlingPrints d k f range)

-- the fourth has the range of the disturbances where there are any
abbrev pub settle_range : (disturbed : Bool) → Design → AnyController → CertificateNumbers → Script
settle_range true d k f = reads 4 (range_kind (any_numbers k).states) (λ range. ends (settle_act d k f range))
settle_range false d k f = ends (settle_act d k f (no_disturbances (any_numbers k).states))

abbrev pub settle_certificate : (disturbed : Bool) → Design → AnyController → Script
settle_certificate disturbed d k = reads 3 (certificate_kind (any_numbers k)) (settle_range disturbed d k)

abbrev pub settle_script : (disturbed : Bool) → Script
settle_script disturbed = plant_script (settle_certificate disturbed)

-- ---- its row of the table of commands
abbrev pub settle_work : (disturbed : Bool) → Work
settle_work disturbed = printing_work (settle_script disturbed) (λ s. ⊥)

abbrev pub settle_deeds : (disturbed : Bool) → Deeds
settle_deeds disturbed = deeds_of_work (settle_work disturbed)
