pub mod Cuts
pub mod Cells
pub mod CutsText
pub mod ReadLists
pub mod Parts
pub mod NewBox
pub mod PoliciesText
pub mod ReadCells
