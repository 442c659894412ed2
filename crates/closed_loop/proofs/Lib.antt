pub mod Reaches
pub mod Overs
pub mod Sound
pub mod Showing
pub mod Plain
