-- ---- what a design with a policy calls for
pub mod Passing
pub mod Making
pub mod SameDesign
-- ---- the command by its script, and what is written
pub mod Written
-- ---- the proofs of the commands above rest on the laws of what is made, too
pub use Rattle.design_engine.proofs as Engine
