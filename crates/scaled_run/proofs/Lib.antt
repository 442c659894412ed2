-- The lemmas by topic.

-- ---- what runs enclose
pub mod Runs
-- ---- how far a run reaches
pub mod Rooms
pub mod RowRooms
-- ---- states and rows as code makes them
pub mod PlaceFacts
pub mod ListFacts
pub mod StateFacts
pub mod RowFacts
-- ---- the recipe over any unit: its run, its form, its quantities and its corners in both classes
pub mod EvenLaws
pub mod RunLaws
pub mod FormLaws
pub mod SizeLaws
pub mod RoomLaws
pub mod CornerLaws
