-- The lemmas by topic.

-- ---- the law: rows and products
pub mod Laws
pub mod RowRooms
-- ---- units, columns and products as code makes them, over any unit
pub mod ScaleLaws
pub mod TargetFacts
pub mod UnitFacts
pub mod ColumnFacts
pub mod LimitFacts
pub mod ProductFacts
pub mod CostFacts
-- ---- the form in exact numbers
pub mod ExactFacts
-- ---- the form in enclosures
pub mod FineFacts
pub mod RowSums
pub mod RadiusLaws
pub mod BendLaws
pub mod FormSizes
pub mod FloorFacts
pub mod FormLaws
pub mod FaultFacts
