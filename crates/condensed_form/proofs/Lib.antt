-- The lemmas by topic.

-- ---- sums that fit, and lists that grow
pub mod Rooms
pub mod Pushes
-- ---- states and rows of a run
pub mod StateFacts
pub mod StageFacts
pub mod RowFacts
pub mod ColumnFacts
pub mod CountedFacts
-- ---- the condensed cost
pub mod WeighedFacts
pub mod CostFacts
pub mod DenominatorFacts
-- ---- the form, and what is refused
pub mod RadiusFacts
pub mod FormSums
pub mod HeldLaws
pub mod FormLaws
pub mod FaultFacts
-- ---- the exponent that the squares ask, and the quantity that it goes into
pub mod SquareLaws
pub mod LeastLaws
pub mod LimitFacts
