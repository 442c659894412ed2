pub mod Values
pub mod Laws
pub mod Rows
pub mod Wide
pub mod Products
