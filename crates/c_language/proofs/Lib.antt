-- The lemmas by topic.

-- ---- runs
pub mod Runs
pub mod LeftIn
-- ---- the text
pub mod Reading
pub mod Statements
pub mod ProgramTexts
