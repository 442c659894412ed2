pub mod Widest
pub mod Fault
pub mod Assembled
