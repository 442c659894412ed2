pub mod Of
pub mod FastOf
pub mod ByMachine
pub mod InParts
pub mod Laws
pub mod Worked
pub mod FastWorked
pub mod PartedWorked
