-- The lemmas by topic.

-- ---- the numbers of a text by their version
pub mod Forms
-- ---- the lines of a controller and its table
pub mod Blocks
-- ---- the text of a controller
pub mod Texts
pub mod Lengths
