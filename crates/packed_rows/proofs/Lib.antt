-- what is packed is read back: one number, a row, and rows
pub mod NumberFacts
pub mod RowFacts
