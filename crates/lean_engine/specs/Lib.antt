pub mod Lean
pub mod Refusals
pub mod Order
-- ---- what the contracts are stated in besides, which is handed on: a crate above that names fewer others is stamped on fewer paths
pub use Rattle.design_engine.specs as Engine
pub use Rattle.plan_excess.specs.Fault as ExcessFault
pub use Rattle.hessian_check.specs.Steps
