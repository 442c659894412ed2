-- what the files and the loops of all records make of the answer, and what is printed
pub mod TwoFiles
pub mod Uniqueness
pub mod Looping
pub mod Answering
pub mod Courses
-- what a command that reads a design and a controller for it needs besides, which is handed on
pub use Rattle.command_design_files.proofs as DesignFiles
pub use Rattle.command_files.proofs as CommandFiles
