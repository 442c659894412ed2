-- The lemmas by topic.

-- ---- the method: weights and averages by them, one step, a run, a run with the same bounds at each step
pub mod WeightLaws
pub mod MeanLaws
pub mod FastStepLaws
pub mod FastRunLaws
pub mod FastEvenLaws
mod FastExample
-- ---- the weights of the machine
pub mod WeightSums
-- ---- what a run keeps
pub mod FastRuns
-- ---- the absolute sums, and the values within them
pub mod FastSums
pub mod FastBelow
-- ---- the code: what fits its word
pub mod FastRooms
pub mod FastHeld
pub mod FastWordRooms
-- ---- the machine as the method
pub mod FastSteps
pub mod FastMachineRuns
-- ---- runs that were followed by hand
mod FastWorked
