pub mod Made
pub mod Excess
pub mod Stay
pub mod Lean
pub mod Fast
pub mod Checking
pub mod Make
pub mod Inputs
-- ---- what the contracts are stated in besides, which is handed on
pub use Rattle.closed_loop.specs as Loops
pub use Rattle.fast_bounds.specs as FastEngine
