pub mod Syntax
pub mod Meaning
pub mod Needed
pub mod Text
pub mod Laws
