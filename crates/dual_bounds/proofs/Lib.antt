-- The lemmas by topic.

-- ---- numbers
pub mod NumberFacts
pub mod RowBounds
pub mod QuarterLaws
-- ---- mixtures of plans
pub mod DesignMix
pub mod ExcessMix
pub mod MixLaws
