-- numbers in decimal, one command at most, answers file by file, counts that rise, errors that are handed on, and what a run does
pub mod Numerals
pub mod Composing
pub mod OneCommand
pub mod Counts
pub mod Results
pub mod Doing
-- what follows from the script that a command runs along
pub mod Gathering
pub mod Following
-- two texts that a command writes
pub mod TwoTexts
-- beside any output
pub mod Beside
