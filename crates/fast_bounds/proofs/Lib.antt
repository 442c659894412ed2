-- The lemmas by topic.

-- ---- the errors of a plan at any multipliers
pub mod PlanErrors
-- ---- what rounding the means adds
pub mod MeanErrors
-- ---- a run
pub mod FastDesignRuns
-- ---- the promise
pub mod FastPromise
-- ---- one refusal
pub mod FastCauses
-- ---- what is made
pub mod FastPrinted
pub mod FastNumbers
pub mod FastAssembled
pub mod FastResiduals
pub mod FastAnswers
pub mod FastPriced
pub mod FastMargin
mod FastBoundsWorked
