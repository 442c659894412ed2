-- The lemmas by topic.

-- ---- the design that a policy is for
pub mod Designs
-- ---- fields and records
pub mod FieldFacts
pub mod RecordFacts
-- ---- rules, record by record
pub mod RuleFacts
pub mod PlaceFacts
pub mod LeftFacts
pub mod TextFacts
pub mod UniqueFacts
-- ---- rows, and the policy
pub mod MatrixFacts
pub mod HeadedFacts
pub mod PolicyFacts
