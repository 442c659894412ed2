pub mod Corners
pub mod FastSteps
