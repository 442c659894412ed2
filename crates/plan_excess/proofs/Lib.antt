-- The lemmas by topic.
pub mod CornerFacts
pub mod ExcessFacts
pub mod FormFacts
pub mod GradientFacts
pub mod RoomFacts
pub mod RoundFacts
pub mod RowFacts
pub mod SameFacts
pub mod SlopeFacts
pub mod SumFacts
pub mod WholeFacts
