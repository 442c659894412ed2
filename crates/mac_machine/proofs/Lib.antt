-- The lemmas by topic.

-- ---- lists of instructions
pub mod Plays
pub mod Rows
pub mod Phases
-- ---- one step of a controller
pub mod Values
pub mod Blocks
-- ---- words of the code
pub mod Rooms
pub mod Repeats
pub mod Inputs
pub mod Stopping
-- ---- runs
pub mod Words
pub mod Steps
pub mod ListingLaw
