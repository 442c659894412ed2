-- The lemmas by topic.

-- ---- one step, one turn
pub mod FloorLaws
pub mod StillLaws
pub mod FastStillLaws
pub mod RowLaws
-- ---- the turns of a loop
pub mod TubeLaws
pub mod SettlingLaws
-- ---- numbers with their absolute sums
pub mod CountedFacts
-- ---- answers
pub mod CheckFacts
pub mod CourseFacts
pub mod TubeFacts
pub mod SettleFacts
pub mod FaultFacts
-- ---- the text of a certificate
pub mod CertificateFacts
-- ---- a worked loop
pub mod WorkedFacts
