-- The lemmas by topic.

-- ---- parts and cells
pub mod PartLaws
pub mod CellLaws
pub mod CountFacts
-- ---- the text of cuts
pub mod RecordFacts
pub mod TextFacts
pub mod UniqueFacts
-- ---- the box of a cell, and its design
pub use Rattle.policy_file.proofs.Designs
pub mod CellFacts
pub mod BoxFacts
pub mod DesignFacts
-- ---- the policies of all cells
pub mod PlanFacts
pub mod PolicyFacts
