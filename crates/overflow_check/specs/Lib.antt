pub mod Width
pub mod Laws
pub mod SubSums
pub mod FastMachine
pub mod FastController
pub mod Machines
