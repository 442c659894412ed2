pub mod Cells
pub mod Split
-- ---- what the contracts are stated in besides, which is handed on: a crate above that names fewer others is stamped on fewer paths
pub use Rattle.cell_split.specs as Splitting
pub use Rattle.cell_file.specs.Finding
pub use Rattle.cell_maker.specs.Made
