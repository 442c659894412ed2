pub mod Gram
pub mod Narrow
pub mod InHalves
