pub mod Terms
pub mod Measured
