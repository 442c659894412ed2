-- The lemmas by topic.

-- ---- groups of instructions
pub mod Groups
-- ---- the step of a controller
pub mod Lengths
pub mod Ranges
-- ---- the text
pub mod Lines
pub mod Blank
pub mod Texts
pub mod Sizes
-- ---- which line can follow
pub mod Follows
-- ---- what is read
pub mod Read
