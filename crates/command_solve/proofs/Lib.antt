-- the script
pub mod Solving
