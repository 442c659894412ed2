-- The lemmas by topic.

-- ---- lines cut into words, and texts into lines
pub mod Cuts
pub mod Good
pub mod OneText
pub mod Lengths
-- ---- lists of lines one after the other
pub mod Chained
pub mod Blocks
pub mod Pushed
-- ---- the first line at which bytes are no text
pub mod Beginnings
pub mod FirstLines
