pub mod Lines
pub mod Blocks
pub mod Grammar
pub mod FirstLine
