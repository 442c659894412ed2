-- designs by their numbers, and files that are read and judged
pub use Rattle.policy_file.proofs.Designs
pub mod Readers
-- a command that a file ends
pub mod Stopping
