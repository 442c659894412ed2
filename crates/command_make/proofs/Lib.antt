-- ---- what is called for
pub mod Calling
-- ---- a controller that was made, with reference plans or without
pub mod FastPassing
pub mod Excesses
-- ---- the commands by their names and their scripts, and what is written
pub mod Asking
pub mod Written
