-- what it does by its script, and what it leaves
pub mod Written
