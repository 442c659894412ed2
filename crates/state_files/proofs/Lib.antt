-- a range of shifts and shifts turn by turn, record by record, and that their text is right in one way
pub mod RangeFacts
pub mod TurnFacts
pub mod RowFacts
