pub mod Draws
pub mod Texts
pub mod MadeParts
pub mod MadeLaw
