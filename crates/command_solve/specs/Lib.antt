pub mod Solve
pub mod Deeds
