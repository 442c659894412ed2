pub mod LeanFacts
pub mod LeanLaws
pub mod CauseLaws
pub mod PricedFacts
pub mod RefusalFacts
-- ---- the proofs of the crates above rest on the laws of what is made, too
pub use Rattle.design_engine.proofs as Engine
