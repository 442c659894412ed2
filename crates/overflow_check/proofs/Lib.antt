-- The lemmas by topic.

-- ---- greatest numbers
pub mod Greatest
-- ---- the absolute sums of a controller
pub mod Sizes
pub mod SumLaws
-- ---- either machine
pub mod Machines
-- ---- runs within them
pub mod Runs
pub mod ValuesMet
pub mod SubSums
