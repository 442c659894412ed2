-- The lemmas by topic.

-- ---- the law of a turn
pub mod RoundLaws
pub mod FirstRowLaws
pub mod StayLaws
-- ---- first rows, computed
pub mod RowFacts
pub mod FaceFacts
pub mod SumFacts
-- ---- answers
pub mod CheckFacts
-- ---- the text of faces
pub mod FacesTextFacts
-- ---- the turns of a loop
pub mod LoopLaws
