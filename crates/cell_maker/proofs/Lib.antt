-- ---- the design of a cell, and its refusals
pub mod CellDesigns
-- ---- cell by cell
pub mod Cells
-- ---- the proofs of the crates above rest on the laws of what is made by either machine, too
pub use Rattle.fast_bounds.proofs.FastMargin
