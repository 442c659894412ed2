pub mod method
pub mod problem
pub mod form
pub mod bounds
pub mod machine
pub mod text
pub mod refusal
