-- The lemmas by topic.
pub mod Words
pub mod Pieces
