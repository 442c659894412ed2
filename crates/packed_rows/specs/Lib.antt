pub mod Packing
pub mod Unpacking
pub mod Packed
pub mod Walk
pub mod Standing
