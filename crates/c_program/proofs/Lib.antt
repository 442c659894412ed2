-- The lemmas by topic.

-- ---- statements and expressions
pub mod Terms
pub mod Lowering
pub mod Reciprocal
-- ---- the numbers of a controller
pub mod Amounts
pub mod Pairs
pub mod Parts
pub mod PartedNumbers
pub mod PartedSums
-- ---- runs
pub mod Before
pub mod Planning
pub mod Step
pub mod FastMeans
pub mod FastStep
pub mod Box
pub mod Rounding
pub mod ProgramNeeds
pub mod Solving
pub mod ProgramLaw
pub mod FastProgramLaw
-- ---- in two parts
pub mod PartedNeeds
pub mod PartedBefore
pub mod PartedPlan
pub mod PartedStep
pub mod PartedLaw
-- ---- the text
pub mod ShortTexts
pub mod PartedTexts
-- ---- a worked program
pub mod Worked
pub mod FastWorked
pub mod PartedWorked
