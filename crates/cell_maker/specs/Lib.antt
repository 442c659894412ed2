pub mod Made
-- ---- what the contracts are stated in besides, which is handed on: a crate above that names fewer others is stamped on fewer paths
pub use Rattle.controller_file.specs as Controllers
pub use Rattle.fast_bounds.specs.ByMachine
