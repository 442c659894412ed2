-- The lemmas by topic.

-- ---- what is read of a text
pub mod Again
pub mod Uniqueness
-- ---- which line can follow
pub mod Blank
pub mod Plain
pub mod Beginnings
pub mod HeadLines
pub mod ListLines
pub mod Follows
-- ---- what a reader answers
pub mod Reading
pub mod AnyText
