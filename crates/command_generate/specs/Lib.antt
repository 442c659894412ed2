pub mod Made
pub mod Generate
-- ---- what the contracts are stated in besides, which is handed on: a crate above that names fewer others is stamped on fewer paths
pub use Rattle.design_engine.specs as Engine
