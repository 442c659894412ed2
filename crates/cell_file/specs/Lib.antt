pub mod Cells
pub mod Lines
pub mod Alike
pub mod Begins
pub mod Text
pub mod Reading
pub mod Finding
pub mod Laws
