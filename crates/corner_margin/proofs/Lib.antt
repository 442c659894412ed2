-- The lemmas by topic.

-- ---- lists
pub mod ListFacts
pub mod SquareFacts
pub mod GapFacts
-- ---- a corner's run over a unit, its slacks and its cost
pub mod RoomFacts
pub mod RunFacts
pub mod SlackFacts
pub mod CostFacts
-- ---- the two classes
pub mod EnclosedFacts
pub mod ReachFacts
pub mod ClassFacts
pub mod SizeFacts
-- ---- the margin, and what is refused
pub mod MarginFacts
pub mod FaultFacts
-- ---- what is shown is no more than the truth
pub mod CornerLaws
