pub mod Corners
pub mod Simulation
pub mod Corner
pub mod Refusing
