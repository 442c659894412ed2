pub mod ShiftRule
pub mod RangeText
pub mod TurnText
pub mod RowAdded
