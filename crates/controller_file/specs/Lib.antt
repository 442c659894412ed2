pub mod Following
pub mod Reading
pub mod FirstLine
pub mod Laws
pub mod AnyText
