pub mod Machine
pub mod Box
pub mod Traps
pub mod Playing
pub mod Laws
