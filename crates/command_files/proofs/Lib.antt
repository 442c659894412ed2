-- what a reader of controllers says of a fault
pub mod Controllers
-- a command that a file ends
pub mod Stopping
-- what a file holds is one thing
pub mod OneThing
