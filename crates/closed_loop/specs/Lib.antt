pub mod Looping
pub mod Answers
pub mod Shows
pub mod Under
