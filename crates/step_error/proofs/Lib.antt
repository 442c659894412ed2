-- The lemmas by topic.

-- ---- a design as a program of the method
pub mod DesignLaws
-- ---- a form of a design
pub mod Forms
-- ---- a plan of the machine: gains, gradient and size
pub mod CarriedLaws
pub mod Gains
pub mod Pulls
pub mod Gradients
pub mod Slants
pub mod Slopes
pub mod Convexity
pub mod Entries
pub mod EntryLaws
pub mod Plans
-- ---- the residuals that it uses
pub mod Residuals
pub mod RowErrors
-- ---- states and multipliers of a run
pub mod MachineSums
pub mod Magnitudes
-- ---- the errors of a step
pub mod StepErrors
pub mod MachineErrors
-- ---- a step, and a run
pub mod MachineSteps
pub mod MachineScales
pub mod MachineStepLaws
pub mod MachineRuns
-- ---- the sums that the code computes
pub mod Ceilings
pub mod FallingLaws
pub mod SumFacts
pub mod Farthest
pub mod SameSums
pub mod DesignSums
pub mod SumAnswers
-- ---- the choice of the fraction bits
mod ChoiceLaws
-- ---- by the residuals of the gains: products that fit
pub mod Scaled
-- ---- what gains miss
pub mod Missed
pub mod GainRooms
pub mod SameMissed
pub mod RoomTests
-- ---- the residuals of the gains, and the gradient
pub mod GainErrors
-- ---- the errors of a step, and what they cost
pub mod RealSteps
pub mod RealCosts
-- ---- the numbers of one design and controller
pub mod MadeFacts
-- ---- what the means of the accelerated machine add
pub mod LoweredLaws
pub mod RunLaws
pub mod SameRuns
