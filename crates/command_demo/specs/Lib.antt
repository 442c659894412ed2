pub mod Demo
pub mod Making
