-- The lemmas by topic.

-- ---- the numbers of a controller
pub mod Lists
pub mod Rooms
pub mod Held
pub mod Each
-- ---- the text
pub mod Texts
pub mod QuickTexts
-- ---- programs in parts, and others
pub mod InParts
