-- The problem: a design, its plant, cost, limits and box, and the plans of it.
pub mod Limits
pub mod Range
pub mod Rules
pub mod Parts
pub mod PartRules
pub mod Design
pub mod Trajectory
pub mod Cost
pub mod CostShape
pub mod Residual
pub mod Box
pub mod Policy
pub mod Runs
pub mod Scaling
pub mod Sound
