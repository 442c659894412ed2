-- The lemmas by topic.
-- ---- one plan
pub mod DistanceLaws
pub mod NearLaws
pub mod LeanNearLaws
-- ---- loops
pub mod FarRowLaws
pub mod FarTubeLaws
pub mod FarSettlingLaws
-- ---- a worked loop
pub mod WorkedFacts
