-- The lemmas by topic.

-- ---- the descent: moves and their bounds
pub mod MoveLaws
pub mod BoundLaws
pub mod StartLaws
pub mod SingleLaws
-- ---- on the words of a region
pub mod WordLaws
pub mod StepLaws
-- ---- systems and their sizes
pub mod SystemLaws
pub mod SizeLaws
pub mod EntryLaws
-- ---- of a condensed form and a design
pub mod FormLaws
pub mod DesignLaws
