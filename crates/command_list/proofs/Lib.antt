-- what the first file makes of the answer, and what is written
pub mod Written
