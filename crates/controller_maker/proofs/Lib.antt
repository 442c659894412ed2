-- The lemmas by topic.

-- ---- the quantity `width`
pub mod Monotone
pub mod Classes
pub mod Tables
pub mod Bounds
-- ---- the parts of a controller
pub mod Clamps
pub mod Frames
pub mod Roundings
pub mod RowExponents
